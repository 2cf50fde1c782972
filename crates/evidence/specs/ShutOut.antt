-- The intakes that the paper shuts out, and one more. What each of them does is said here of its own runs from a fresh start; that none of them meets the very demand that the
-- paper names for it is proved (proofs/ShutOut.antt).
use Rattle.std.specs.Prelude.{ℕ, ◌<◌, ◌≡◌, true, cond, List, [], ◌∷◌, get_or, ltb, Result}
use Rattle.std.proofs.Math.Option.{Option, none, some}
use Rattle.octets.specs.Output.{put}
use Rattle.record.specs.Record.{record_octets}
use Rattle.lane.specs.declared.Lane.{Lane}
use Rattle.state.specs.State.{lane_at}
use Rattle.grouping.specs.declared.Refused.{Refused}
use Rattle.intake.specs.declared.Answer.{Answer}
use Rattle.intake.specs.Told.{told, repeat_kind}
use Rattle.rule.specs.Rule.{taken_of, missing, credit}
use Rattle.demands.specs.Runs.{Start, begun, Call, takes, closes, Reply, to_opening, to_packet, to_closing, is_refused, AnyIntake, run}
use Rattle.demands.specs.Past.{settings_of, accepted_in, past_of, InEveryRun}
use Rattle.demands.specs.Laws.{kind_of}
use Rattle.demands.specs.Demand2.{Demand2}
use Rattle.demands.specs.Demand3.{Demand3}

-- ---- an intake that refuses everything: every packet, whatever it does with openings and closings; or all but the first that a lane takes
abbrev pub RefusesEverything : AnyIntake → Type 0
RefusesEverything n = InEveryRun n (λ x past. (i : ℕ) (packet out : List ℕ) → is_refused (n.reply_to x (takes i packet out)) ≡ true)

abbrev pub RefusesAllButTheFirst : AnyIntake → Type 0
RefusesAllButTheFirst n =
    InEveryRun n (λ x past. (i : ℕ) (packet out : List ℕ) → 0 < (lane_at x.state i).packets → is_refused (n.reply_to x (takes i packet out)) ≡ true)

-- ---- one constant answer: at each point of a run all packets get one answer, whatever is in them
abbrev pub answer_in : Reply → Option (Result Answer Refused)
answer_in (to_opening refusal) = none
answer_in (to_packet answer out) = some answer
answer_in (to_closing refusal out) = none

abbrev pub AnswersConstantly : AnyIntake → Type 0
AnswersConstantly n =
    InEveryRun n (λ x past. (i : ℕ) (packet other out : List ℕ) → answer_in (n.reply_to x (takes i packet out)) ≡ answer_in (n.reply_to x (takes i other out)))

-- and the same of the reader
abbrev pub ReadsConstantly : AnyIntake → Type 0
ReadsConstantly n = (s other : List ℕ) → n.reads s ≡ n.reads other

-- ---- one that stores nothing: no call changes the pool, so that a group that is held is not in it
abbrev pub StoresNothing : AnyIntake → Type 0
StoresNothing n = InEveryRun n (λ x past. (c : Call) → (n.leaves x c).pool ≡ x.pool)

-- ---- one that handles the first packet and then only nods: once a lane has taken a packet, no further one changes its tallies
abbrev tallies : Lane → List ℕ
tallies l = l.units ∷ l.packets ∷ l.missing ∷ l.broken ∷ []

abbrev pub OnlyNods : AnyIntake → Type 0
OnlyNods n =
    InEveryRun n (λ x past. (i : ℕ) (packet out : List ℕ) → 0 < (lane_at x.state i).packets
    → tallies (lane_at (n.leaves x (takes i packet out)).state i) ≡ tallies (lane_at x.state i))

-- ---- a made-up missing count: somewhere it tells another than the formula gives for the packets that it had accepted
-- the missing count that a reply tells: of a Stray, a Held or a Unit
abbrev pub missing_told : Reply → Option ℕ
missing_told (to_opening refusal) = none
missing_told (to_packet answer out) = cond (ltb repeat_kind (kind_of answer)) (some (get_or (told answer) 2 0)) none
missing_told (to_closing refusal out) = none

pub record MakesUpMissing (n : AnyIntake) : Type 0 where
  pub start : Start
  pub calls : List Call
  pub lane : ℕ
  pub packet : List ℕ
  pub out : List ℕ
  pub tells : ℕ
  pub told : missing_told (n.reply_to (run n (begun start) calls) (takes lane packet out)) ≡ some tells
  pub otherwise : missing (accepted_in (past_of n lane start calls)) (taken_of (settings_of (past_of n lane start calls)) packet) ≡ tells → ⊥

-- ---- a made-up credit: some closing leaves another record than the grouping rule gives for the packets that it had accepted
pub record MakesUpCredit (n : AnyIntake) : Type 0 where
  pub start : Start
  pub calls : List Call
  pub lane : ℕ
  pub out : List ℕ
  pub credited : List ℕ
  pub writes : n.reply_to (run n (begun start) calls) (closes lane out) ≡ to_closing 0 credited
  pub otherwise : put out 0 (record_octets (credit (settings_of (past_of n lane start calls)) (accepted_in (past_of n lane start calls)))) ≡ credited → ⊥

-- ---- none of them meets the demand
abbrev pub IsShutOut : (Demand Does : AnyIntake → Type 0) → Type 0
IsShutOut Demand Does = (n : AnyIntake) → Does n → Demand n → ⊥

pub record ShutOut : Type 0 where
  pub refuses_everything : IsShutOut Demand2 RefusesEverything
  pub refuses_everything_in_its_share : IsShutOut Demand3 RefusesEverything
  pub refuses_all_but_the_first : IsShutOut Demand2 RefusesAllButTheFirst
  pub answers_constantly : IsShutOut Demand2 AnswersConstantly
  pub reads_constantly : IsShutOut Demand2 ReadsConstantly
  pub stores_nothing : IsShutOut Demand2 StoresNothing
  pub only_nods : IsShutOut Demand2 OnlyNods
  pub makes_up_missing : IsShutOut Demand2 MakesUpMissing
  pub makes_up_credit : IsShutOut Demand2 MakesUpCredit

-- though each of them can be written, so none of the definitions is empty
abbrev IsWritten : (AnyIntake → Type 0) → Type 0
IsWritten Does = (n : AnyIntake) × Does n

pub record CanBeWritten : Type 0 where
  pub refuses_everything : IsWritten RefusesEverything
  pub refuses_all_but_the_first : IsWritten RefusesAllButTheFirst
  pub answers_constantly : IsWritten AnswersConstantly
  pub reads_constantly : IsWritten ReadsConstantly
  pub stores_nothing : IsWritten StoresNothing
  pub only_nods : IsWritten OnlyNods
  pub makes_up_missing : IsWritten MakesUpMissing
  pub makes_up_credit : IsWritten MakesUpCredit
