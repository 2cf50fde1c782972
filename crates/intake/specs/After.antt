-- What a call tells, and the state, the pool and the output after it.
use Rattle.std.specs.Prelude.{ℕ, ◌-◌, Bool, true, false, cond, List, [], ◌++◌, length, set, Result, Ok, Err}
use Rattle.refusal.specs.Refusal.{number}
use Rattle.refusal.specs.declared.Refusal.{Refusal}
use Rattle.octets.specs.Output.{unless_refused, put, output_after}
use Rattle.record.specs.Record.{record_octets}
use Rattle.marks.specs.Blocks.{mark, blocks_for, granted, freed}
use Rattle.pool.specs.Octets.{stored, gathered}
use Rattle.lane.specs.declared.Settings.{Settings}
use Rattle.lane.specs.declared.Lane.{Lane}
use Rattle.grouping.specs.declared.Refused.{Refused}
use Rattle.grouping.specs.declared.Refused.TheVariants as refused
use Rattle.grouping.specs.declared.Step.{Step}
use Rattle.grouping.specs.declared.Step.TheVariants as step
use Rattle.lane.specs.Lane.{closed, held, credit_of}
use Rattle.grouping.specs.Packets.{user_data}
use Rattle.grouping.specs.Steps.{Outcome, lane_after}
use Rattle.state.specs.declared.State.{State}
use Rattle.intake.specs.declared.Changed.{Changed}
use Rattle.intake.specs.declared.Answer.{Answer}
use Rattle.intake.specs.declared.Answer.TheVariants as answer
use Rattle.intake.specs.declared.Answered.{Answered}
use Rattle.state.specs.State.{lane_at}
use Rattle.intake.specs.Calls.{opened_with, opening_refusal, closing_refusal, packet_step}

-- ---- opening
abbrev pub with_lane : State → ℕ → Lane → List ℕ → State
with_lane s i l marks = record { lanes = set s.lanes i l; marks = marks }

-- from what became of the state before
abbrev pub changed_by : State → Result State Refusal → Changed
changed_by before (Ok after) = record { refusal = 0; state = after }
changed_by before (Err r) = record { refusal = number r; state = before }

-- and from what became of one of its lanes
abbrev pub opened_by : State → ℕ → Result Lane Refusal → Changed
opened_by before i (Ok l) = changed_by before (Ok (with_lane before i l before.marks))
opened_by before i (Err r) = changed_by before (Err r)

abbrev pub changed : ℕ → State → State → Changed
changed refusal new old = record { refusal = refusal; state = unless_refused refusal new old }

unfoldable pub opening : State → ℕ → Settings → ℕ → Changed
opening s i settings size = changed (opening_refusal s i settings size) (with_lane s i (opened_with settings) s.marks) s

-- ---- closing
-- the marks without those of the lane's group; a lane without a group has no blocks
unfoldable pub released_from : List ℕ → ℕ → Lane → List ℕ
released_from marks i l = cond l.grouped (freed marks i) marks

-- Closing gives up an open group (broken + 1), writes the credit record, frees the lane, which is then as at the fresh start
unfoldable pub closing : State → ℕ → ℕ → ℕ → Changed
closing s i size room = changed (closing_refusal s i size room) (with_lane s i closed (released_from s.marks i (lane_at s i))) s

unfoldable pub closing_out : State → ℕ → ℕ → List ℕ → List ℕ
closing_out s i size out = output_after (closing_refusal s i size (length out)) (record_octets (credit_of (lane_at s i))) out

-- ---- a packet
-- a group of n octets takes the blocks that it lacks, after a given-up group's are freed
unfoldable pub grown : List ℕ → ℕ → Lane → Bool → ℕ → List ℕ
grown marks i l true n = granted marks (mark i (held l)) (blocks_for n - held l)
grown marks i l false n = granted (released_from marks i l) (mark i 0) (blocks_for n)

unfoldable pub marks_after : List ℕ → ℕ → Lane → Outcome → List ℕ
marks_after marks i l (Err (refused.Unread u)) = marks
marks_after marks i l (Err (refused.Untaken r)) = marks
marks_after marks i l (Ok step.Repeat) = marks
marks_after marks i l (Ok (step.Stray a)) = released_from marks i l
marks_after marks i l (Ok (step.Hold a on n)) = grown marks i l on n
marks_after marks i l (Ok (step.Unit a on n)) = released_from marks i l

-- Only packets answered Held store octets: user data u after those of the group that goes on
unfoldable pub pool_after : List ℕ → ℕ → Lane → Outcome → List ℕ → List ℕ → List ℕ
pool_after marks i l (Err r) u pool = pool
pool_after marks i l (Ok step.Repeat) u pool = pool
pool_after marks i l (Ok (step.Stray a)) u pool = pool
pool_after marks i l (Ok (step.Hold a on n)) u pool = stored (grown marks i l on n) i pool (cond on l.octets 0) u
pool_after marks i l (Ok (step.Unit a on n)) u pool = pool

-- A unit is written at the front of the output: the group that goes on and the user data
unfoldable pub group_of : List ℕ → ℕ → Lane → Bool → List ℕ → List ℕ
group_of marks i l on pool = cond on (gathered marks i pool 0 l.octets) []

abbrev pub unit_of : List ℕ → ℕ → Lane → Bool → List ℕ → List ℕ → List ℕ
unit_of marks i l on u pool = group_of marks i l on pool ++ u

unfoldable pub out_after : List ℕ → ℕ → Lane → Outcome → List ℕ → List ℕ → List ℕ → List ℕ
out_after marks i l (Err r) u pool out = out
out_after marks i l (Ok step.Repeat) u pool out = out
out_after marks i l (Ok (step.Stray a)) u pool out = out
out_after marks i l (Ok (step.Hold a on n)) u pool out = out
out_after marks i l (Ok (step.Unit a on n)) u pool out = put out 0 (unit_of marks i l on u pool)

-- the answer
abbrev pub taken_as : Step → Answer
taken_as step.Repeat = answer.Repeat
taken_as (step.Stray a) = answer.Stray a.missing a.given_up
taken_as (step.Hold a on n) = answer.Held a.missing a.given_up
taken_as (step.Unit a on n) = answer.Unit n a.missing a.given_up

abbrev pub answer_of : Outcome → Result Answer Refused
answer_of (Err r) = Err r
answer_of (Ok d) = Ok (taken_as d)

-- the answer and the state after what comes of a packet in lane i
abbrev pub answered : State → ℕ → Outcome → Answered
answered s i d =
    record { answer = answer_of d; state = with_lane s i (lane_after (lane_at s i) d) (marks_after s.marks i (lane_at s i) d) }

-- a packet's user data, by the settings of lane i
abbrev pub user_of : State → ℕ → List ℕ → List ℕ
user_of s i packet = user_data (lane_at s i).settings packet

unfoldable pub taking : State → ℕ → List ℕ → ℕ → ℕ → Answered
taking s i packet size room = answered s i (packet_step s i packet size room)

unfoldable pub taking_pool : State → ℕ → List ℕ → ℕ → List ℕ → List ℕ
taking_pool s i packet room pool =
    pool_after s.marks i (lane_at s i) (packet_step s i packet (length pool) room) (user_of s i packet) pool

unfoldable pub taking_out : State → ℕ → List ℕ → List ℕ → List ℕ → List ℕ
taking_out s i packet pool out =
    out_after s.marks i (lane_at s i) (packet_step s i packet (length pool) (length out)) (user_of s i packet) pool out
