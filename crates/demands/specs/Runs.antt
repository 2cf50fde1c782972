-- Any run of openings, packets and closings, by any intake, with state and pool handed back as the last call left them.
use Rattle.std.specs.Prelude.{ℕ, ◌≡◌, Bool, cond, not, List, [], ◌∷◌, length, eqb, Result}
use Rattle.octets.specs.Output.{leading}
use Rattle.reading.specs.Reading.{reading, content}
use Rattle.record.specs.Reading.{record_reading, file_reading}
use Rattle.pool.specs.Octets.{pool_octets}
use Rattle.lane.specs.declared.Settings.{Settings}
use Rattle.state.specs.declared.State.{State}
use Rattle.state.specs.State.{fresh_state}
use Rattle.grouping.specs.declared.Refused.{Refused}
use Rattle.intake.specs.declared.Answer.{Answer}
use Rattle.intake.specs.After.{opening, closing, closing_out, taking, taking_pool, taking_out}
use Rattle.intake.specs.Told.{told}
use Rattle.entries.specs.Entries.{SpacePacket, EncapsulationPacket, RecordGiven, write_space_entry, write_encapsulation_entry, write_record_entry}

-- ---- what is handed from call to call
pub record Handed : Type 0 where
  pub state : State
  pub pool : List ℕ

-- what a run starts with, beside the fresh state: a pool of 16,384 octets, whatever lies in it
pub record Start : Type 0 where
  pub pool : List ℕ
  pub whole : length pool ≡ pool_octets

abbrev pub begun : Start → Handed
begun start = record { state = fresh_state; pool = start.pool }

-- ---- a call names a lane by any number; a packet and a closing come with an output
pub data Call : Type 0 where
  opens : (lane : ℕ) (settings : Settings) → Call
  takes : (lane : ℕ) (packet out : List ℕ) → Call
  closes : (lane : ℕ) (out : List ℕ) → Call

-- what comes back: an opening's or a closing's refusal, or 0; a packet's answer; and the output after the call
pub data Reply : Type 0 where
  to_opening : (refusal : ℕ) → Reply
  to_packet : (answer : Result Answer Refused) (out : List ℕ) → Reply
  to_closing : (refusal : ℕ) (out : List ℕ) → Reply

-- the number of the refusal in it, and 0 for none
abbrev pub number_in : Reply → ℕ
number_in (to_opening refusal) = refusal
number_in (to_packet answer out) = leading (told answer)
number_in (to_closing refusal out) = refusal

abbrev pub is_refused : Reply → Bool
is_refused r = not (eqb (number_in r) 0)

-- ---- what a writer tells, and its output after it
pub record Wrote : Type 0 where
  pub tells : List ℕ
  pub out : List ℕ

-- an intake is whatever tells something of octets that it reads, hands back a part of them, writes, replies to calls, and leaves a state and a pool
pub record AnyIntake : Type 0 where
  pub reads : List ℕ → List ℕ
  pub hands : List ℕ → List ℕ
  pub writes_space : SpacePacket → Wrote
  pub writes_encapsulation : EncapsulationPacket → Wrote
  pub reads_record : List ℕ → List ℕ
  pub reads_file : List ℕ → List ℕ
  pub writes_record : RecordGiven → Wrote
  pub reply_to : Handed → Call → Reply
  pub leaves : Handed → Call → Handed

-- ours: what the promises say is told and left, to which the code is tied by demand 1 (`Demand1`, and `RunsAreTheCodes` for the calls)
abbrev pub space_wrote : SpacePacket → Wrote
space_wrote g = record { tells = write_space_entry.tells g; out = write_space_entry.leaves g }

abbrev pub encapsulation_wrote : EncapsulationPacket → Wrote
encapsulation_wrote g = record { tells = write_encapsulation_entry.tells g; out = write_encapsulation_entry.leaves g }

abbrev pub record_wrote : RecordGiven → Wrote
record_wrote g = record { tells = write_record_entry.tells g; out = write_record_entry.leaves g }

unfoldable pub reply : Handed → Call → Reply
reply x (opens i settings) = to_opening (opening x.state i settings (length x.pool)).refusal
reply x (takes i packet out) =
    to_packet (taking x.state i packet (length x.pool) (length out)).answer (taking_out x.state i packet x.pool out)
reply x (closes i out) = to_closing (closing x.state i (length x.pool) (length out)).refusal (closing_out x.state i (length x.pool) out)

unfoldable pub after : Handed → Call → Handed
after x (opens i settings) = record { state = (opening x.state i settings (length x.pool)).state; pool = x.pool }
after x (takes i packet out) =
    record { state = (taking x.state i packet (length x.pool) (length out)).state; pool = taking_pool x.state i packet (length out) x.pool }
after x (closes i out) = record { state = (closing x.state i (length x.pool) (length out)).state; pool = x.pool }

abbrev pub ours : AnyIntake
ours =
    record { reads = reading; hands = content; writes_space = space_wrote; writes_encapsulation = encapsulation_wrote; reads_record = record_reading; reads_file = file_reading; writes_record = record_wrote; reply_to = reply; leaves = after }

-- ---- a run of calls: what it leaves, and what is replied
unfoldable pub run : AnyIntake → Handed → List Call → Handed
run n x [] = x
run n x (c ∷ calls) = run n (n.leaves x c) calls

unfoldable pub replies : AnyIntake → Handed → List Call → List Reply
replies n x [] = []
replies n x (c ∷ calls) = n.reply_to x c ∷ replies n (n.leaves x c) calls

-- ---- A source is a lane number; its own calls are all those that name it, in order
abbrev pub lane_of : Call → ℕ
lane_of (opens i settings) = i
lane_of (takes i packet out) = i
lane_of (closes i out) = i

abbrev pub names : ℕ → Call → Bool
names i c = eqb (lane_of c) i

unfoldable pub own : ℕ → List Call → List Call
own i [] = []
own i (c ∷ calls) = cond (names i c) (c ∷ own i calls) (own i calls)

-- what a source is replied in a run
unfoldable pub replies_to : AnyIntake → ℕ → Handed → List Call → List Reply
replies_to n i x [] = []
replies_to n i x (c ∷ calls) = cond (names i c) (n.reply_to x c ∷ replies_to n i (n.leaves x c) calls) (replies_to n i (n.leaves x c) calls)
