-- Whose fault no room is, beside demand 3, which reads 19 and 27 alike: 19 is the lane's own affair, and 27 is due to the other lanes.
use Rattle.std.specs.Prelude.{ℕ, zero, suc, ◌<◌, ◌≡◌, Bool, cond, List, [], ◌∷◌, ◌++◌, ◌↔◌, eqb, replicate, Ok}
use Rattle.record.specs.Record.{record_size}
use Rattle.marks.specs.Blocks.{lanes}
use Rattle.intake.specs.declared.Answer.TheVariants.{Held}
use Rattle.calls.specs.Room.{OverCap, OverSum}
use Rattle.demands.specs.Runs.{Handed, Start, begun, Call, takes, closes, to_packet, number_in, ours, reply, run, own}
use Rattle.demands.specs.Past.{Past, shut, lane_from, past_of, lanes_from, InEveryRun}

-- the number with which lane i is refused a packet, and 0 for none
abbrev pub packet_number : Handed → ℕ → List ℕ → List ℕ → ℕ
packet_number x i packet out = number_in (reply x (takes i packet out))

-- ---- 19 is given exactly when the lane would hold more than its cap: by the lane and the packet alone
abbrev pub CapDecides : Type 0
CapDecides = InEveryRun ours (λ x past. (i : ℕ) (packet out : List ℕ) → (packet_number x i packet out ≡ 19) ↔ OverCap (lane_from (past i)) packet)

-- no other lane can cause it and none can lift it: of two runs in which the lane is the same, whatever the others are, both give it or neither does
abbrev pub NoOtherDecides : Type 0
NoOtherDecides =
    InEveryRun ours (λ x past. InEveryRun ours (λ y past'. (i : ℕ) (packet out out' : List ℕ) → lane_from (past i) ≡ lane_from (past' i)
    → (packet_number x i packet out ≡ 19) ↔ (packet_number y i packet out' ≡ 19)))

-- ---- 27 is given exactly when it would not, and what it would hold or its share, the larger, plus the other open lanes' sum exceeds 64
abbrev pub SumDecides : Type 0
SumDecides = InEveryRun ours (λ x past. (i : ℕ) (packet out : List ℕ) → (packet_number x i packet out ≡ 27) ↔ OverSum (lanes_from past) i packet)

-- every other lane is closed
abbrev pub OthersClosed : ℕ → (ℕ → Past) → Type 0
OthersClosed i past = (j : ℕ) → j < lanes → (j ≡ i → ⊥) → past j ≡ shut

-- the packet is held, and the output is as it was
abbrev pub IsHeld : Handed → ℕ → List ℕ → List ℕ → Type 0
IsHeld x i packet out = (missing : ℕ) × (givenUp : Bool) × (reply x (takes i packet out) ≡ to_packet (Ok (Held missing givenUp)) out)

-- a packet that is refused 27 would be held if every other lane were closed: it is, in any run in which they are and the lane is the same
abbrev pub HeldIfOthersClosed : Type 0
HeldIfOthersClosed =
    InEveryRun ours (λ x past. InEveryRun ours (λ y past'. (i : ℕ) (packet out out' : List ℕ) → lane_from (past i) ≡ lane_from (past' i) → OthersClosed i past'
    → packet_number x i packet out ≡ 27 → IsHeld y i packet out'))

-- the closings of the lanes below n but for lane i, each with an output for its record
unfoldable pub closings : ℕ → ℕ → List Call
closings i zero = []
closings i (suc n) = cond (eqb n i) (closings i n) (closes n (replicate record_size 0) ∷ closings i n)

-- there is such a run from everywhere: the closings of all others leave the lane as it was
abbrev pub OthersCanClose : Type 0
OthersCanClose =
    (start : Start) (calls : List Call) (i : ℕ)
    → (past_of ours i start (calls ++ closings i lanes) ≡ past_of ours i start calls) × OthersClosed i (λ j. past_of ours j start (calls ++ closings i lanes))

-- ---- alone in the pool 27 is never given: where every other lane is closed, and so in a run of a source's own calls
abbrev pub Never27BesideClosed : Type 0
Never27BesideClosed = InEveryRun ours (λ x past. (i : ℕ) (packet out : List ℕ) → OthersClosed i past → packet_number x i packet out ≡ 27 → ⊥)

abbrev pub Never27Alone : Type 0
Never27Alone = (start : Start) (calls : List Call) (i : ℕ) (packet out : List ℕ) → packet_number (run ours (begun start) (own i calls)) i packet out ≡ 27 → ⊥

pub record WhoseFault : Type 0 where
  pub cap_decides : CapDecides
  pub no_other_decides : NoOtherDecides
  pub sum_decides : SumDecides
  pub held_if_others_closed : HeldIfOthersClosed
  pub others_can_close : OthersCanClose
  pub never_27_beside_closed : Never27BesideClosed
  pub never_27_alone : Never27Alone
