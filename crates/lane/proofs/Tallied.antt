-- Tallies are possible with so many more broken where they are possible and the larger sum is within the packets.
use Prim.Native.Nat.{ℕ, ◌+◌, ◌≤◌}
use mathlib.Core.Path.{◌≡◌, refl, sym}
use mathlib.Core.Bool.{Bool, true, false, ◌&&◌, true≢false}
use native.Mathlib.Nat.{add_assoc}
use native.Mathlib.Omega.{arith}
use lib.Dec.{leb}
use mir.Val.{bool_byte}
use borrow.Author.Tests.{leb-true, le-leb}
use Rattle.octets.specs.Octets.{one}
use Rattle.record.specs.Record.{most_apid, most_packets, most_missing, possible}
use Rattle.record.specs.declared.Record.{Record}

-- a test w that implies z can stand in its place
stronger : (x y z w m : Bool) → (w ≡ true → z ≡ true) → x && y && w && m ≡ x && y && z && m && w
stronger false y z w m h = refl
stronger true false z w m h = refl
stronger true true true true true h = refl
stronger true true true true false h = refl
stronger true true true false true h = refl
stronger true true true false false h = refl
stronger true true false true m h = absurd (true≢false (sym (h refl)))
stronger true true false false m h = refl

abbrev pub with_broken : Record → ℕ → Record
with_broken r g = record { station = r.station; apid = r.apid; units = r.units; packets = r.packets; missing = r.missing; broken = r.broken + g }

pub more_broken : (r : Record) (g : ℕ) → possible (with_broken r g) ≡ possible r && leb (r.units + r.broken + g) r.packets
unfolding possible
more_broken r g =
    let u = r.units in
    let b = r.broken in
    let p = r.packets in
    rw (← add_assoc u b g)
    (stronger (leb r.apid most_apid) (leb p most_packets) (leb (u + b) p) (leb (u + b + g) p) (leb r.missing (most_missing p)) (λ e. le-leb (u + b) p (omega (arith, leb-true (u + b + g) p e))))

-- 1 for yes, as `u64::from` has it
pub one_byte : (b : Bool) → bool_byte b ≡ one b
unfolding one
one_byte true = refl
one_byte false = refl

pub one_most : (b : Bool) → one b ≤ 1
unfolding one
one_most true = omega arith
one_most false = omega arith
