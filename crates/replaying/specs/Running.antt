-- What a call of a run does: what is told of it, its octets, and the state, the pool and the output after it. The intake says the rest.
use Rattle.std.specs.Prelude.{ℕ, min, List, ◌++◌, length, take, drop, Option, Some, None}
use Rattle.intake.specs.After.{opening, closing, closing_out, taking, taking_pool, taking_out}
use Rattle.state.specs.declared.State.{State}
use Rattle.intake.specs.declared.Changed.{Changed}
use Rattle.intake.specs.declared.Answered.{Answered}
use Rattle.runfile.specs.Calls.{call_size, packet_octets}
use Rattle.runfile.specs.declared.Call.{Call}
use Rattle.runfile.specs.declared.Call.TheVariants.{Opening, Packet, Closing}
use Rattle.replaying.specs.declared.Outcome.TheVariants.{Opened, Taken, Closed}
use Rattle.replaying.specs.declared.Ran.{Ran}

-- a call's output is the front of the one that is lent: as much as it asks for, or all of it. A run lends 131,072 octets, so more counts as that
abbrev pub room_in : ℕ → List ℕ → ℕ
room_in space out = min space (length out)

abbrev pub opened : Call → ℕ → Changed → Ran
opened call lane c = record { outcome = Opened lane c.refusal; octets = call_size call; state = c.state }

abbrev pub taken : Call → ℕ → Answered → Ran
taken call lane a = record { outcome = Taken lane a.answer; octets = call_size call; state = a.state }

abbrev pub closed : Call → ℕ → Changed → Ran
closed call lane c = record { outcome = Closed lane c.refusal; octets = call_size call; state = c.state }

-- of a call at the front of s, from a state, a pool and an output
unfoldable pub ran : State → List ℕ → List ℕ → List ℕ → Call → Ran
ran state s pool out (Opening lane settings) = opened (Opening lane settings) lane (opening state lane settings (length pool))
ran state s pool out (Packet lane space n) = taken (Packet lane space n) lane (taking state lane (packet_octets s n) (length pool) (room_in space out))
ran state s pool out (Closing lane space) = closed (Closing lane space) lane (closing state lane (length pool) (room_in space out))

unfoldable pub call_pool : State → List ℕ → List ℕ → List ℕ → Call → List ℕ
call_pool state s pool out (Opening lane settings) = pool
call_pool state s pool out (Packet lane space n) = taking_pool state lane (packet_octets s n) (room_in space out) pool
call_pool state s pool out (Closing lane space) = pool

unfoldable pub call_out : State → List ℕ → List ℕ → List ℕ → Call → List ℕ
call_out state s pool out (Opening lane settings) = out
call_out state s pool out (Packet lane space n) =
    taking_out state lane (packet_octets s n) pool (take (room_in space out) out) ++ drop (room_in space out) out
call_out state s pool out (Closing lane space) =
    closing_out state lane (length pool) (take (room_in space out) out) ++ drop (room_in space out) out

-- of the call at the front of s, where there is one; else nothing changes
module _ (state : State) (s pool out : List ℕ) where
  abbrev pub first_ran : Option Call → Option Ran
  first_ran (Some call) = Some (ran state s pool out call)
  first_ran None = None

  abbrev pub first_pool : Option Call → List ℕ
  first_pool (Some call) = call_pool state s pool out call
  first_pool None = pool

  abbrev pub first_out : Option Call → List ℕ
  first_out (Some call) = call_out state s pool out call
  first_out None = out
