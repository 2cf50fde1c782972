-- Of the clauses of a fine lane those that the code tests otherwise: the tallies without the open group, and a lane that holds no octets.
use Prim.Native.Nat.{ℕ, ◌+◌, ◌≤◌, ◌<◌}
use mathlib.Core.Path.{◌≡◌, refl, sym, ◌∙◌}
use mathlib.Core.Bool.{Bool, true, false, ◌&&◌, ◌||◌, and-true, and-false}
use native.Mathlib.Omega.{arith}
use lib.Dec.{eqb, leb}
use borrow.Author.Tests.{le-leb, lt-leb}
use Rattle.octets.specs.Octets.{one}
use Rattle.marks.specs.Blocks.{blocks_for}
use Rattle.record.specs.Record.{possible}
use Rattle.record.specs.declared.Record.{Record}
use Rattle.lane.specs.declared.Lane.{Lane}
use Rattle.lane.specs.Lane.{held, tallies_possible}
use Rattle.lane.proofs.Tallied.{more_broken}

module _ (l : Lane) where
  -- the tallies, without the open group
  abbrev counted : Record
  counted = record { station = l.settings.station; apid = l.settings.apid; units = l.units; packets = l.packets; missing = l.missing; broken = l.broken }

  abbrev tally : Bool
  tally = possible counted

  -- ---- the tallies
  pub too_few_packets : (g : ℕ) → g ≡ one l.grouped → l.packets < l.units + l.broken + g → false ≡ tallies_possible l
  unfolding tallies_possible
  too_few_packets g e h = rw (more_broken counted (one l.grouped), ← e, lt-leb _ _ h) (sym (and-false tally))

  pub enough_packets : (g : ℕ) → g ≡ one l.grouped → l.units + l.broken + g ≤ l.packets → (b : Bool) → b ≡ tally → b ≡ tallies_possible l
  unfolding tallies_possible
  enough_packets g e h b eb = rw (more_broken counted (one l.grouped), ← e, le-leb _ _ h) (eb ∙ sym (and-true tally))

  -- ---- the group
  abbrev within : Bool
  within = leb (held l) l.settings.cap

  abbrev group : Bool
  group = l.grouped || eqb l.octets 0

  -- no octets need no block, and no group
  pub no_octets : l.octets ≡ 0 → true ≡ within && group
  unfolding blocks_for
  no_octets e = rw (e, le-leb 0 l.settings.cap (omega arith)) (anyhow l.grouped)
    where
      anyhow : (b : Bool) → true ≡ b || true
      anyhow true = refl
      anyhow false = refl
