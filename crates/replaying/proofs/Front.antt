-- A call gets the front of the output, which has as many octets as the definition says, and the rest stays.
use Prim.Native.Nat.{ℕ, ◌+◌, ◌-◌, ◌<◌, min}
use mathlib.Core.Path.{◌≡◌, refl}
use mathlib.Core.List.{List, ◌++◌}
use native.Mathlib.Omega.{arith}
use lib.ListN.{length, take, drop}
use lib.Seq.{length-take-le}
use Rattle.std.specs.Prelude.{Option}
use Rattle.intake.specs.After.{closing, closing_out, taking, taking_pool, taking_out}
use Rattle.state.specs.declared.State.{State}
use Rattle.intake.specs.declared.Changed.{Changed}
use Rattle.intake.specs.declared.Answered.{Answered}
use Rattle.runfile.specs.Calls.{call_size, packet_octets}
use Rattle.replaying.specs.Running.{room_in, taken, closed, ran, call_pool, call_out, first_ran, first_pool, first_out}
use Rattle.runfile.specs.declared.Call.{Call}
use Rattle.runfile.specs.declared.Call.TheVariants.{Opening, Packet, Closing}
use Rattle.replaying.specs.declared.Ran.{Ran}

-- room is the smaller of the space asked for and the output's octets, as the code has it
module _ (state : State) (lane space : ℕ) (s pool out : List ℕ) (room : ℕ) (e : room ≡ min space (length out)) where
  front : length (take room out) ≡ room_in space out
  front = rw e (length-take-le (min space (length out)) out (omega arith))

  pub closing_done : {r : Changed} {out' : List ℕ}
      → r ≡ closing state lane (length pool) (length (take room out)) → out' ≡ closing_out state lane (length pool) (take room out)
      → (closed (Closing lane space) lane r ≡ ran state s pool out (Closing lane space)) × (out' ++ drop room out ≡ call_out state s pool out (Closing lane space))
  unfolding ran call_out
  closing_done f g = rw (f, g, front, e) (refl, refl)

  module _ (n : ℕ) where
    lent : take (10 + n - 10) (drop 10 s) ≡ packet_octets s n
    lent = let all : 10 + n - 10 ≡ n = omega arith in rw all

    pub taking_done : {r : Answered} {pool' out' : List ℕ}
        → r ≡ taking state lane (take (10 + n - 10) (drop 10 s)) (length pool) (length (take room out))
        → pool' ≡ taking_pool state lane (take (10 + n - 10) (drop 10 s)) (length (take room out)) pool
        → out' ≡ taking_out state lane (take (10 + n - 10) (drop 10 s)) pool (take room out)
        → (taken (Packet lane space n) lane r ≡ ran state s pool out (Packet lane space n))
        × ((pool' ≡ call_pool state s pool out (Packet lane space n)) × (out' ++ drop room out ≡ call_out state s pool out (Packet lane space n)))
    unfolding ran call_pool call_out
    taking_done f g h = rw (f, g, h, lent, front, e) (refl, (refl, refl))

-- it tells its octets, of which it has some
pub size_told : (state : State) (s pool out : List ℕ) (call : Call) → (ran state s pool out call).octets ≡ call_size call
unfolding ran
size_told state s pool out (Opening lane settings) = refl
size_told state s pool out (Packet lane space n) = refl
size_told state s pool out (Closing lane space) = refl

pub some_octets : (call : Call) → 0 < call_size call
some_octets (Opening lane settings) = omega arith
some_octets (Packet lane space n) = omega arith
some_octets (Closing lane space) = omega arith

-- ---- the three promises, of a call that is run
abbrev pub Done : State → List ℕ → List ℕ → List ℕ → Option Ran → List ℕ → List ℕ → Option Call → Type 0
Done state s pool out r pool' out' call =
    (r ≡ first_ran state s pool out call) × ((pool' ≡ first_pool state s pool out call) × (out' ≡ first_out state s pool out call))
