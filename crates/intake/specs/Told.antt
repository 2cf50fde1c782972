-- What an answer tells, as the paper's number and values.
use Rattle.std.specs.Prelude.{ℕ, List, [], ◌∷◌, Result, Ok, Err}
use Rattle.refusal.specs.Refusal.{number}
use Rattle.grouping.specs.declared.Refused.{Refused}
use Rattle.grouping.specs.declared.Refused.TheVariants as refused
use Rattle.grouping.specs.Steps.{Outcome}
use Rattle.grouping.specs.declared.Step.TheVariants as step
use Rattle.octets.specs.Octets.{one}
use Rattle.intake.specs.declared.Answer.{Answer}
use Rattle.intake.specs.declared.Answer.TheVariants as answer

-- which answer it is, in the numbers that C sees too, where 0 is a refusal
abbrev pub repeat_kind : ℕ
repeat_kind = 1

abbrev pub stray_kind : ℕ
stray_kind = 2

abbrev pub held_kind : ℕ
held_kind = 3

abbrev pub unit_kind : ℕ
unit_kind = 4

-- the number of the refusal, with its place where the reader gave it (1 to 7), and else alone (8 and above)
abbrev pub told_refused : Refused → List ℕ
told_refused (refused.Unread u) = number u.refusal ∷ u.place ∷ []
told_refused (refused.Untaken r) = number r ∷ []

-- no refusal (0), then which answer, missing, 1 if a group was given up (0 and no for Repeat), and a unit's length; or what the refusal tells
abbrev pub told : Result Answer Refused → List ℕ
told (Err r) = told_refused r
told (Ok answer.Repeat) = 0 ∷ repeat_kind ∷ 0 ∷ 0 ∷ []
told (Ok (answer.Stray missing givenUp)) = 0 ∷ stray_kind ∷ missing ∷ one givenUp ∷ []
told (Ok (answer.Held missing givenUp)) = 0 ∷ held_kind ∷ missing ∷ one givenUp ∷ []
told (Ok (answer.Unit n missing givenUp)) = 0 ∷ unit_kind ∷ missing ∷ one givenUp ∷ n ∷ []

-- what comes of a packet tells
abbrev pub telling : Outcome → List ℕ
telling (Err r) = told_refused r
telling (Ok step.Repeat) = 0 ∷ repeat_kind ∷ 0 ∷ 0 ∷ []
telling (Ok (step.Stray a)) = 0 ∷ stray_kind ∷ a.missing ∷ one a.given_up ∷ []
telling (Ok (step.Hold a on n)) = 0 ∷ held_kind ∷ a.missing ∷ one a.given_up ∷ []
telling (Ok (step.Unit a on n)) = 0 ∷ unit_kind ∷ a.missing ∷ one a.given_up ∷ n ∷ []
