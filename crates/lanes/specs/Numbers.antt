-- What a packet is answered, in the numbers that C sees: kind 0 for a refusal, and else which answer it is; the place is 0 where there is none.
use Rattle.std.specs.Prelude.{ℕ, Bool, false, Result, Ok, Err}
use Rattle.refusal.specs.Refusal.{number}
use Rattle.grouping.specs.declared.Refused.{Refused}
use Rattle.grouping.specs.declared.Refused.TheVariants.{Unread, Untaken}
use Rattle.intake.specs.declared.Answer.{Answer}
use Rattle.intake.specs.declared.Answer.TheVariants.{Repeat, Stray, Held, Unit}
use Rattle.intake.specs.declared.Answered.{Answered}
use Rattle.intake.specs.Told.{repeat_kind, stray_kind, held_kind, unit_kind}
use Rattle.lanes.specs.declared.Numbers.{Numbers}
use Rattle.lanes.specs.declared.Numbered.{Numbered}

-- of a refusal, and of every other answer
abbrev pub refusal_numbers : ℕ → ℕ → Numbers
refusal_numbers refusal place = record { refusal = refusal; kind = 0; given_up = false; missing = 0; octets = 0; place = place }

abbrev pub refused_numbers : Refused → Numbers
refused_numbers (Unread u) = refusal_numbers (number u.refusal) u.place
refused_numbers (Untaken r) = refusal_numbers (number r) 0

abbrev pub taken_numbers : ℕ → Bool → ℕ → ℕ → Numbers
taken_numbers kind givenUp missing octets = record { refusal = 0; kind = kind; given_up = givenUp; missing = missing; octets = octets; place = 0 }

abbrev pub answer_numbers : Answer → Numbers
answer_numbers Repeat = taken_numbers repeat_kind false 0 0
answer_numbers (Stray m givenUp) = taken_numbers stray_kind givenUp m 0
answer_numbers (Held m givenUp) = taken_numbers held_kind givenUp m 0
answer_numbers (Unit n m givenUp) = taken_numbers unit_kind givenUp m n

abbrev pub telling : Result Answer Refused → Numbers
telling (Ok answer) = answer_numbers answer
telling (Err r) = refused_numbers r

-- and the state beside them
unfoldable pub numbered : Answered → Numbered
numbered a =
    record {
      refusal = (telling a.answer).refusal;
      kind = (telling a.answer).kind;
      given_up = (telling a.answer).given_up;
      missing = (telling a.answer).missing;
      octets = (telling a.answer).octets;
      place = (telling a.answer).place;
      state = a.state;
    }
