-- What follows from the demands, and what else holds of every run of ours: laws in the paper's words, which the demands don't need.
use Rattle.std.specs.Prelude.{ℕ, ◌+◌, ◌≤◌, ◌<◌, ◌≡◌, Bool, true, false, cond, ◌&&◌, List, [], ◌∷◌, ◌⊎◌, length, get_or, take, eqb, ltb, Result, Ok, Err}
use Rattle.octets.specs.Octets.{one}
use Rattle.packet.specs.Space as space
use Rattle.record.specs.Record.{record_in}
use Rattle.marks.specs.Blocks.{blocks, free, mark}
use Rattle.marks.specs.Matching.{is_free}
use Rattle.pool.specs.Octets.{place}
use Rattle.lane.specs.Lane.{held}
use Rattle.grouping.specs.Packets.{terms_of, fault}
use Rattle.grouping.specs.Grouping as lane
use Rattle.state.specs.declared.State.{State}
use Rattle.state.specs.State.{lane_at}
use Rattle.grouping.specs.declared.Refused.{Refused}
use Rattle.intake.specs.declared.Answer.{Answer}
use Rattle.intake.specs.declared.Answer.TheVariants.{Repeat, Stray, Held, Unit}
use Rattle.intake.specs.Told.{repeat_kind, stray_kind, held_kind, unit_kind}
use Rattle.rule.specs.Rule.{endings}
use Rattle.demands.specs.Runs.{Handed, Start, begun, Call, opens, takes, closes, Reply, to_opening, to_packet, to_closing, is_refused, AnyIntake, ours, reply, after, run, names, lane_of}
use Rattle.demands.specs.Past.{accepted_in, lane_from, grown, lanes_from, past_of, InEveryRun}
use Rattle.state.specs.Clauses.{mark_at}
use Rattle.demands.specs.Demand3.{InShare, StaysInShare, NothingAmiss, HasRoom, Belongs, marks_for, place_for}

-- ---- staying in the share, read of each packet sent: what the lane would hold with it is at most its share. It implies `StaysInShare`, of any intake
abbrev pub EachInShare : AnyIntake → ℕ → Start → List Call → Type 0
EachInShare n i start calls =
    (k : ℕ) (packet out : List ℕ) → get_or calls k (closes i []) ≡ takes i packet out
    → InShare (lane_from (grown (past_of n i start (take k calls)) (takes i packet out)))

abbrev pub EachInShareStays : Type 0
EachInShareStays = (n : AnyIntake) (i : ℕ) (start : Start) (calls : List Call) → EachInShare n i start calls → StaysInShare n i start calls

-- ---- what the grouping rule means for a credit
-- which answer it is: 0 for a refusal
abbrev pub kind_of : Result Answer Refused → ℕ
kind_of (Err r) = 0
kind_of (Ok Repeat) = repeat_kind
kind_of (Ok (Stray missing givenUp)) = stray_kind
kind_of (Ok (Held missing givenUp)) = held_kind
kind_of (Ok (Unit n missing givenUp)) = unit_kind

abbrev pub is_unit : Reply → Bool
is_unit (to_opening refusal) = false
is_unit (to_packet answer out) = eqb (kind_of answer) unit_kind
is_unit (to_closing refusal out) = false

-- how often lane i has been answered Unit since its opening
abbrev pub units_told_after : ℕ → Call → Reply → ℕ
units_told_after n (opens i settings) r = cond (is_refused r) n 0
units_told_after n (takes i packet out) r = n + one (is_unit r)
units_told_after n (closes i out) r = cond (is_refused r) n 0

unfoldable pub units_told_from : ℕ → ℕ → Handed → List Call → ℕ
units_told_from i n x [] = n
units_told_from i n x (c ∷ calls) = units_told_from i (cond (names i c) (units_told_after n c (reply x c)) n) (after x c) calls

-- a closing that writes n units comes after n accepted packets that each ended one, and n answers Unit since the opening
abbrev pub CreditNeeds : ℕ → Type 0
CreditNeeds n =
    (start : Start) (calls : List Call) (i : ℕ) (out credited : List ℕ)
    → reply (run ours (begun start) calls) (closes i out) ≡ to_closing 0 credited → (record_in credited).units ≡ n
    → (length (endings (accepted_in (past_of ours i start calls))) ≡ n) × (n ≤ length (accepted_in (past_of ours i start calls))) × (units_told_from i 0 (begun start) calls ≡ n)

-- ---- what isn't refused
-- a packet with nothing amiss that its lane's cap and the other lanes leave the room
abbrev pub GetsRoom : Type 0
GetsRoom =
    InEveryRun ours (λ x past. (i : ℕ) (packet out : List ℕ) → NothingAmiss (lane_from (past i)) packet out → HasRoom (lanes_from past) i packet
    → is_refused (reply x (takes i packet out)) ≡ false)

-- a packet with the count of the last one is answered Repeat, at a full tally too, and nothing changes
abbrev pub RepeatsChangeNothing : Type 0
RepeatsChangeNothing =
    InEveryRun ours (λ x past. (i : ℕ) (packet out : List ℕ)
    → (lane_from (past i)).opened ≡ true → fault (terms_of (lane_from (past i))) packet ≡ 0
    → lane.repeats (lane_from (past i)) (space.count packet) ≡ true
    → (reply x (takes i packet out) ≡ to_packet (Ok Repeat) out) × (after x (takes i packet out) ≡ x))

-- ---- blocks
-- a call moves blocks only between the free ones and its lane's
abbrev pub OnlyItsOwn : Type 0
OnlyItsOwn =
    InEveryRun ours (λ x past. (c : Call) (b : ℕ) → b < blocks
    → (mark_at (after x c).state b ≡ mark_at x.state b)
    ⊎ (((mark_at x.state b ≡ free) ⊎ Belongs x.state b (lane_of c))
    × ((mark_at (after x c).state b ≡ free) ⊎ Belongs (after x c).state b (lane_of c))))

-- octets not written stay: all that aren't in the group that the call's lane then has
abbrev pub OctetsStay : Type 0
OctetsStay =
    InEveryRun ours (λ x past. (c : Call) (at : ℕ)
    → ((k : ℕ) → k < (lane_at (after x c).state (lane_of c)).octets → place (after x c).state.marks (lane_of c) k ≡ at → ⊥)
    → get_or (after x c).pool at 0 ≡ get_or x.pool at 0)

-- the blocks of a lane that has no open group after its call are free: the group ended or was given up, or the lane was closed
abbrev pub Freed : Type 0
Freed =
    InEveryRun ours (λ x past. (c : Call) (b : ℕ) → Belongs x.state b (lane_of c)
    → (lane_at (after x c).state (lane_of c)).grouped ≡ false
    → mark_at (after x c).state b ≡ free)

-- a packet that is held takes the lowest-numbered free blocks, in rising order, after a given-up group's are freed; every other block keeps its mark: the mark of
-- block b where the lane then holds so many
abbrev pub marked : State → ℕ → List ℕ → ℕ → ℕ → ℕ
marked s i packet b holds =
    cond (is_free (get_or (marks_for s i packet) b 0) && ltb (place_for s i packet b) holds) (mark i (place_for s i packet b)) (get_or (marks_for s i packet) b 0)

abbrev pub TakesLowest : Type 0
TakesLowest =
    InEveryRun ours (λ x past. (i : ℕ) (packet out left : List ℕ) (m : ℕ) (givenUp : Bool) (b : ℕ) → b < blocks
    → reply x (takes i packet out) ≡ to_packet (Ok (Held m givenUp)) left
    → mark_at (after x (takes i packet out)).state b ≡ marked x.state i packet b (held (lane_at (after x (takes i packet out)).state i)))

pub record Laws : Type 0 where
  pub each_in_share_stays : EachInShareStays
  pub credit_needs_units : (n : ℕ) → CreditNeeds n
  pub credit_of_3000 : CreditNeeds 3000
  pub gets_room : GetsRoom
  pub repeats_change_nothing : RepeatsChangeNothing
  pub only_its_own : OnlyItsOwn
  pub octets_stay : OctetsStay
  pub freed : Freed
  pub takes_lowest : TakesLowest
