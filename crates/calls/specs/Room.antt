-- Whose fault it is that there is no room: when 19 and when 27 are given, each by itself and not by its place in an order.
use Rattle.std.specs.Prelude.{ℕ, ◌+◌, ◌≤◌, ◌<◌, max, ◌≡◌, true, false, List, ◌⊎◌, get_or, set}
use Rattle.packet.specs.Space.{flags, count}
use Rattle.record.specs.Record.{most_packets}
use Rattle.marks.specs.Blocks.{blocks}
use Rattle.lane.specs.declared.Lane.{Lane}
use Rattle.lane.specs.Lane.{closed}
use Rattle.grouping.specs.Packets.{terms_of, fault}
use Rattle.grouping.specs.Grouping.{repeats, goes_on}
use Rattle.state.specs.State.{total}
use Rattle.calls.specs.Order.{would_hold}

-- nothing before 19 refuses the packet: its lane is open, it has no fault (reading, 12 to 17), it is no Repeat, and its lane has not taken too many (18)
abbrev pub NothingBefore : Lane → List ℕ → Type 0
NothingBefore l p = (l.opened ≡ true) × (fault (terms_of l) p ≡ 0) × (repeats l (count p) ≡ false) × (l.packets < most_packets)

-- 19: the lane would hold more than its cap
abbrev pub OverCap : Lane → List ℕ → Type 0
OverCap l p = NothingBefore l p × (l.settings.cap < would_hold l p)

-- 27: it would not, and what it would hold or its share, the larger, plus the other open lanes' sum exceeds 64
abbrev pub OverSum : List Lane → ℕ → List ℕ → Type 0
OverSum lanes i p =
    let l : Lane = get_or lanes i closed in
    NothingBefore l p × (would_hold l p ≤ l.settings.cap) × (blocks < max (would_hold l p) l.settings.share + total (set lanes i closed))

-- either number
abbrev pub NoRoom : ℕ → Type 0
NoRoom number = (number ≡ 19) ⊎ (number ≡ 27)

-- Only packets answered Held store octets: one that begins a group or adds to the one that goes on
abbrev pub ToHold : Lane → List ℕ → Type 0
ToHold l p = (flags p ≡ 1) ⊎ ((flags p ≡ 0) × (goes_on l (flags p) (count p) ≡ true))
