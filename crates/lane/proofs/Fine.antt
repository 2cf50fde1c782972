-- What a fine lane is, clause by clause, both ways; and what legal settings are.
use Prim.Native.Nat.{ℕ, ◌+◌, ◌*◌, ◌-◌, ◌≤◌, ◌<◌}
use mathlib.Core.Path.{◌≡◌, refl, sym}
use mathlib.Core.Bool.{Bool, true, false, not, ◌&&◌, ◌||◌, true≢false}
use native.Mathlib.Omega.{arith}
use borrow.Author.Tests.{leb-true, le-leb, ltb-true, ltb-false, lt-ltb, le-ltb, eqb-true, eq-eqb}
use lib.Dec.{eqb, leb, ltb}
use Rattle.octets.proofs.Order.{either, neither, both}
use Rattle.packet.specs.Space.{counts}
use Rattle.marks.specs.Blocks.{blocks, blocks_for}
use Rattle.record.specs.Record.{most_apid, most_packets, most_between, most_missing, possible}
use Rattle.lane.specs.declared.Settings.{Settings}
use Rattle.lane.specs.declared.Lane.{Lane}
use Rattle.lane.specs.Lane.{held, most_secondary, illegal, broken_with_group, tallies_possible, fine}

-- 16,382 for each packet but the first
most_missing_lem : (n : ℕ) → most_missing n ≡ most_between * (n - 1)
most_missing_lem n = either (eqb n 0) (λ e. simp e (omega (arith, eqb-true n 0 e))) (λ e. simp e)

pub record Legal (s : Settings) : Type 0 where
  pub apid : s.apid ≤ most_apid
  pub secondary : s.secondary ≤ most_secondary
  pub share : s.share ≤ s.cap
  pub cap : s.cap ≤ blocks

pub is_legal : (s : Settings) → illegal s ≡ false → Legal s
unfolding illegal
is_legal s e =
    let d = neither (ltb most_apid s.apid || ltb most_secondary s.secondary || ltb s.cap s.share) (ltb blocks s.cap) e in
    let c = neither (ltb most_apid s.apid || ltb most_secondary s.secondary) (ltb s.cap s.share) d.0 in
    let b = neither (ltb most_apid s.apid) (ltb most_secondary s.secondary) c.0 in
    record { apid = ltb-false _ _ b.0; secondary = ltb-false _ _ b.1; share = ltb-false _ _ c.1; cap = ltb-false _ _ d.1 }

pub legal_is : (s : Settings) → Legal s → illegal s ≡ false
unfolding illegal
legal_is s h = simp (le-ltb _ _ h.apid, le-ltb _ _ h.secondary, le-ltb _ _ h.share, le-ltb _ _ h.cap)

pub record Tallies (l : Lane) : Type 0 where
  pub apid : l.settings.apid ≤ most_apid
  pub packets : l.packets ≤ most_packets
  pub units : l.units + broken_with_group l ≤ l.packets
  pub missing : l.missing ≤ most_between * (l.packets - 1)

pub are_possible : (l : Lane) → tallies_possible l ≡ true → Tallies l
unfolding tallies_possible possible
are_possible l e =
    let d = both (leb l.settings.apid most_apid && leb l.packets most_packets && leb (l.units + broken_with_group l) l.packets) (leb l.missing (most_missing l.packets)) e in
    let c = both (leb l.settings.apid most_apid && leb l.packets most_packets) (leb (l.units + broken_with_group l) l.packets) d.0 in
    let b = both (leb l.settings.apid most_apid) (leb l.packets most_packets) c.0 in
    record {
      apid = leb-true _ _ b.0;
      packets = leb-true _ _ b.1;
      units = leb-true _ _ c.1;
      missing = rw (← most_missing_lem l.packets) (leb-true _ _ d.1);
    }

pub possible_are : (l : Lane) → Tallies l → tallies_possible l ≡ true
unfolding tallies_possible possible
possible_are l h =
    let m : l.missing ≤ most_missing l.packets = rw (most_missing_lem l.packets) h.missing in
    simp (le-leb _ _ h.apid, le-leb _ _ h.packets, le-leb _ _ h.units, le-leb _ _ m)

pub record Fine (l : Lane) : Type 0 where
  pub legal : l.opened ≡ true → Legal l.settings
  pub within : held l ≤ l.settings.cap
  pub nothing : l.grouped ≡ false → l.octets ≡ 0
  pub shut : l.opened ≡ false → l.grouped ≡ false
  pub last : l.last < counts
  pub tallies : Tallies l

-- a || b says that b holds where a doesn't
or_else : (a b : Bool) → a || b ≡ true → a ≡ false → b ≡ true
or_else true b e f = absurd (true≢false f)
or_else false b e f = e

else_or : (a b : Bool) → (a ≡ false → b ≡ true) → a || b ≡ true
else_or true b h = refl
else_or false b h = h refl

not_false : (b : Bool) → not b ≡ true → b ≡ false
not_false false e = refl
not_false true e = absurd (true≢false (sym e))

-- the clauses
abbrev a : Lane → Bool
a l = not l.opened || not (illegal l.settings)

abbrev b : Lane → Bool
b l = leb (held l) l.settings.cap

abbrev c : Lane → Bool
c l = l.grouped || eqb l.octets 0

abbrev d : Lane → Bool
d l = l.opened || not l.grouped

abbrev e : Lane → Bool
e l = ltb l.last counts

pub is_fine : (l : Lane) → fine l ≡ true → Fine l
unfolding fine
is_fine l h =
    let f = both (a l && b l && c l && d l && e l) (tallies_possible l) h in
    let g = both (a l && b l && c l && d l) (e l) f.0 in
    let i = both (a l && b l && c l) (d l) g.0 in
    let j = both (a l && b l) (c l) i.0 in
    let k = both (a l) (b l) j.0 in
    record {
      legal = λ o. is_legal l.settings (not_false _ (or_else (not l.opened) (not (illegal l.settings)) k.0 (simp o)));
      within = leb-true _ _ k.1;
      nothing = λ o. eqb-true _ _ (or_else l.grouped _ j.1 o);
      shut = λ o. not_false _ (or_else l.opened _ i.1 o);
      last = ltb-true _ _ g.1;
      tallies = are_possible l f.1;
    }

pub fine_is : (l : Lane) → Fine l → fine l ≡ true
unfolding fine
fine_is l h =
    simp (
      else_or (not l.opened) (not (illegal l.settings)) (λ o. simp (legal_is l.settings (h.legal (not_not l.opened o)))),
      le-leb _ _ h.within,
      else_or l.grouped (eqb l.octets 0) (λ o. eq-eqb _ _ (h.nothing o)),
      else_or l.opened (not l.grouped) (λ o. simp (h.shut o)),
      lt-ltb _ _ h.last,
      possible_are l h.tallies,
    )
  where
    not_not : (b : Bool) → not b ≡ false → b ≡ true
    not_not true z = refl
    not_not false z = absurd (true≢false z)

-- ---- a group fits the pool
pub fits_pool : (n : ℕ) → blocks_for n ≤ blocks → n ≤ 16384
unfolding blocks_for
fits_pool n h = omega arith

pub none_held : blocks_for 0 ≡ 0
unfolding blocks_for
none_held = refl

pub held_most : (l : Lane) → fine l ≡ true → (held l ≤ blocks) × (l.octets ≤ 16384)
held_most l h =
    let is : Fine l = is_fine l h in
    let few : held l ≤ blocks = either l.opened (λ o. omega (arith, is.within, (is.legal o).cap)) (λ o. rw (is.nothing (is.shut o)) (omega (arith, none_held))) in
    (few, fits_pool l.octets few)
