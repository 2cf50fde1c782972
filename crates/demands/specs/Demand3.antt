-- Demand 3. Start from an empty pool and take any run of openings, packets and closings, with state and pool handed back as the last call left them.
-- Take a source's own calls, run by themselves, in which no packet would bring its held group above its share. If the shared run refuses none of its
-- openings for want of a promisable share, that source gets the same answers, units and credit in the shared run, given the same settings and output
-- space. No source ever holds more than its cap. No block belongs to two sources, and a freed block can be used again.
use Rattle.std.specs.Prelude.{ℕ, ◌+◌, ◌/◌, ◌≤◌, ◌<◌, ◌≡◌, true, false, cond, List, [], map, ◌⊎◌, length, get_or, set, take, eqb}
use Rattle.octets.specs.Order.{first, numbers_of}
use Rattle.packet.specs.Space.{flags}
use Rattle.record.specs.Record.{most_packets, record_size}
use Rattle.marks.specs.Blocks.{blocks, block_octets, free, mark, freed}
use Rattle.marks.specs.Matching.{count, is_free, sum}
use Rattle.pool.specs.Octets.{pool_octets, place}
use Rattle.lane.specs.declared.Settings.{Settings}
use Rattle.lane.specs.declared.Lane.{Lane}
use Rattle.lane.specs.Lane.{closed, held, illegal}
use Rattle.grouping.specs.Packets.{terms_of, fault}
use Rattle.rule.specs.Rule.{taken_of, repeats}
use Rattle.state.specs.declared.State.{State}
use Rattle.state.specs.State.{lane_at, within}
use Rattle.state.specs.Clauses.{Shaped, mark_at, IsSound}
use Rattle.intake.specs.Calls.{opened_with, opening_causes}
use Rattle.calls.specs.Order.{would_hold, lanes_with, would_write}
use Rattle.demands.specs.Runs.{Start, begun, Call, opens, takes, closes, to_opening, is_refused, AnyIntake, run, replies, lane_of, own, replies_to}
use Rattle.demands.specs.Past.{shut, settings_of, accepted_in, past_of, lane_from, lanes_from, InEveryRun}

-- ---- the same answers, units and credit as alone
-- no packet of a run brings lane i's held group above its share: after the first k calls, for every k, it holds no more
abbrev pub InShare : Lane → Type 0
InShare l = held l ≤ l.settings.share

abbrev pub StaysInShare : AnyIntake → ℕ → Start → List Call → Type 0
StaysInShare n i start calls = (k : ℕ) → InShare (lane_from (past_of n i start (take k calls)))

-- the run refuses none of lane i's openings for want of a promisable share: none that meets that cause and no other before it is replied so
abbrev pub NoneUnpromised : AnyIntake → ℕ → Start → List Call → Type 0
NoneUnpromised n i start calls =
    (k : ℕ) (settings : Settings) → get_or calls k (closes i []) ≡ opens i settings
    → first 0 (numbers_of (opening_causes (lanes_from (λ j. past_of n j start (take k calls))) i settings)) ≡ 23
    → n.reply_to (run n (begun start) (take k calls)) (opens i settings) ≡ to_opening 23 → ⊥

-- the replies hold the answers, and the outputs with the units and the credit. The calls are the same, with their settings and outputs; the pools may
-- differ
abbrev pub AsAlone : AnyIntake → Type 0
AsAlone n =
    (i : ℕ) (calls : List Call) (shared alone : Start)
    → StaysInShare n i alone (own i calls)
    → NoneUnpromised n i shared calls
    → replies_to n i (begun shared) calls ≡ replies n (begun alone) (own i calls)

-- ---- what has nothing amiss isn't refused: else an intake without lanes would meet the rest
-- a packet with nothing amiss but perhaps the room: its lane is open and hasn't taken too many, it has no fault, and the unit that it ends, if it ends one,
-- fits the output
abbrev pub NothingAmiss : Lane → List ℕ → List ℕ → Type 0
NothingAmiss l packet out = (l.opened ≡ true) × (fault (terms_of l) packet ≡ 0) × (l.packets < most_packets) × (would_write l packet ≤ length out)

-- a lane in its share isn't refused room
abbrev pub RoomInShare : AnyIntake → Type 0
RoomInShare n =
    InEveryRun n (λ x past. (i : ℕ) (packet out : List ℕ) → NothingAmiss (lane_from (past i)) packet out
    → would_hold (lane_from (past i)) packet ≤ (lane_from (past i)).settings.share
    → is_refused (n.reply_to x (takes i packet out)) ≡ false)

-- nor is an opening with legal settings whose share can be promised, nor the closing of an open lane with an output for the record
abbrev pub OpensIfFine : AnyIntake → Type 0
OpensIfFine n =
    InEveryRun n (λ x past. (i : ℕ) (settings : Settings) → i < 8 → past i ≡ shut
    → illegal settings ≡ false → within (set (lanes_from past) i (opened_with settings)) ≡ true
    → is_refused (n.reply_to x (opens i settings)) ≡ false)

abbrev pub ClosesIfFine : AnyIntake → Type 0
ClosesIfFine n =
    InEveryRun n (λ x past. (i : ℕ) (out : List ℕ) → (lane_from (past i)).opened ≡ true → record_size ≤ length out
    → is_refused (n.reply_to x (closes i out)) ≡ false)

-- ---- blocks: the mark of a block (`mark_at`) is the lane's number x 64 + a place, or says that it is free
-- block b is one of the 64 and belongs to lane i, one of the eight: a free mark names none of them
abbrev pub Belongs : State → ℕ → ℕ → Type 0
Belongs s b i = (b < blocks) × (i < 8) × (mark_at s b / blocks ≡ i)

abbrev pub blocks_of : State → ℕ → ℕ
blocks_of s i = count (λ o. eqb (o / blocks) i) s.marks

-- No source ever holds more than its cap: the blocks that belong to it are as many as its octets need, and no more than its cap
abbrev pub WithinCap : AnyIntake → Type 0
WithinCap n =
    InEveryRun n (λ x past. (i : ℕ) → i < 8
    → (blocks_of x.state i ≡ held (lane_from (past i))) × (held (lane_from (past i)) ≤ (lane_from (past i)).settings.cap))

-- the block in which octet k of lane i's group lies
abbrev pub block_of : State → ℕ → ℕ → ℕ
block_of s i k = place s.marks i k / block_octets

-- No block belongs to two sources: every octet of a group lies in a block of its lane, and octets in one block are of one lane and of one place in its group
abbrev pub NoBlockInTwo : AnyIntake → Type 0
NoBlockInTwo n =
    InEveryRun n (λ x past. (i j k l : ℕ) → k < (lane_from (past i)).octets → l < (lane_from (past j)).octets
    → Belongs x.state (block_of x.state i k) i
    × (block_of x.state i k ≡ block_of x.state j l → (i ≡ j) × (k / block_octets ≡ l / block_octets)))

-- and a call writes only in blocks that are then its lane's
abbrev pub WritesInItsOwn : AnyIntake → Type 0
WritesInItsOwn n =
    InEveryRun n (λ x past. (c : Call) (at : ℕ) → (Belongs (n.leaves x c).state (at / block_octets) (lane_of c) → ⊥)
    → get_or (n.leaves x c).pool at 0 ≡ get_or x.pool at 0)

-- no sequence of calls loses a block: each is free or belongs to a lane, and the free blocks and the held ones are always 64 in all
abbrev pub NoneLost : AnyIntake → Type 0
NoneLost n =
    InEveryRun n (λ x past. ((b : ℕ) → b < blocks → (mark_at x.state b ≡ free) ⊎ ((i : ℕ) × Belongs x.state b i))
    × (count is_free x.state.marks + sum (map held (lanes_from past)) ≡ blocks))

-- ---- a freed block can be used again
-- a packet that its lane's cap and the other lanes leave the room
abbrev pub HasRoom : List Lane → ℕ → List ℕ → Type 0
HasRoom lanes i packet = (would_hold (get_or lanes i closed) packet ≤ (get_or lanes i closed).settings.cap) × (within (lanes_with lanes i packet) ≡ true)

-- the marks among which a packet that is held looks for free blocks: one of flags 1 gives up the lane's group, whose blocks are freed before
abbrev pub marks_for : State → ℕ → List ℕ → List ℕ
marks_for s i packet = cond (eqb (flags packet) 1) (freed s.marks i) s.marks

-- the place that block b gets if it is free, since the lowest-numbered are taken: after those that the lane keeps, none with flags 1, and those free below it
abbrev pub place_for : State → ℕ → List ℕ → ℕ → ℕ
place_for s i packet b = cond (eqb (flags packet) 1) 0 (held (lane_at s i)) + count is_free (take b (marks_for s i packet))

-- a block that is free then, and that a lane's next packet needs and has the room for, gets that lane's mark with the place, whoever had it before; the packet is taken
abbrev pub UsedAgain : AnyIntake → Type 0
UsedAgain n =
    InEveryRun n (λ x past. (b j : ℕ) (packet out : List ℕ) → b < blocks → get_or (marks_for x.state j packet) b 0 ≡ free
    → NothingAmiss (lane_from (past j)) packet out → repeats (accepted_in (past j)) (taken_of (settings_of (past j)) packet) ≡ false → HasRoom (lanes_from past) j packet
    → place_for x.state j packet b < would_hold (lane_from (past j)) packet
    → (is_refused (n.reply_to x (takes j packet out)) ≡ false) × (mark_at (n.leaves x (takes j packet out)).state b ≡ mark j (place_for x.state j packet b)))

-- every state that a run reaches is one of eight lanes and 64 marks, and sound; and the pool keeps its 16,384 octets
abbrev pub StaysSound : AnyIntake → Type 0
StaysSound n = InEveryRun n (λ x past. Shaped x.state × IsSound x.state × (length x.pool ≡ pool_octets))

pub record Demand3 (n : AnyIntake) : Type 0 where
  pub as_alone : AsAlone n
  pub room_in_share : RoomInShare n
  pub opens_if_fine : OpensIfFine n
  pub closes_if_fine : ClosesIfFine n
  pub within_cap : WithinCap n
  pub no_block_in_two : NoBlockInTwo n
  pub writes_in_its_own : WritesInItsOwn n
  pub none_lost : NoneLost n
  pub used_again : UsedAgain n
  pub stays_sound : StaysSound n
