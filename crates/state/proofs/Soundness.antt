-- The test of soundness as the code makes it: the lanes by themselves, then the marks; and what a call knows once it has passed the test for 24.
use Prim.Native.Nat.{ℕ, zero, suc, ◌<◌}
use mathlib.Core.Path.{◌≡◌, refl, sym, ap, ◌∙◌}
use mathlib.Core.Bool.{Bool, true, false, ◌&&◌, true≢false}
use mathlib.Core.List.{List, [], ◌∷◌, map}
use native.Mathlib.Decide.{dec_lt}
use native.Mathlib.Omega.{arith}
use borrow.Author.Tests.{eqb-true, not-false}
use lib.Dec.{eqb}
use lib.ListN.{length, get_or, get_or-eq_default}
use Rattle.std.specs.Bool.{then_some}
use Rattle.std.proofs.Common.{Some, None}
use Rattle.octets.proofs.Order.{both}
use Rattle.record.specs.Record.{possible}
use Rattle.marks.specs.Blocks.{blocks_for}
use Rattle.pool.specs.Octets.{pool_octets}
use Rattle.marks.specs.Matching.{matching}
use Rattle.lane.specs.declared.Lane.{Lane}
use Rattle.octets.specs.Octets.{one}
use Rattle.lane.specs.Lane.{closed, held, illegal, tallies_possible, fine}
use Rattle.state.specs.declared.State.{State}
use Rattle.state.specs.State.{lane_at, within, every, sound, unsound}

-- what is there only where b holds
some_only : {A : Type 0} (b : Bool) (x y : A) → Some y ≡ then_some b x → (b ≡ true) × (y ≡ x)
some_only true x y e = (refl, cc)
some_only false x y e = cc

none_only : {A : Type 0} (b : Bool) (x : A) → None ≡ then_some b x → b ≡ false
none_only true x e = cc
none_only false x e = refl

module _ (s : State) where
  abbrev lanes_sound : Bool
  lanes_sound = every fine s.lanes && within s.lanes

  pub marks_decide : (hs : List ℕ) → Some hs ≡ then_some lanes_sound (map held s.lanes) → matching s.marks hs ≡ sound s
  unfolding sound
  marks_decide hs e = let only = some_only lanes_sound (map held s.lanes) hs e in rw (only.0, only.1)

  pub lanes_decide : None ≡ then_some lanes_sound (map held s.lanes) → false ≡ sound s
  unfolding sound
  lanes_decide e = rw (none_only lanes_sound (map held s.lanes) e)

-- ---- what is known once the test has passed
pub then_sound : (s : State) (octets : ℕ) → unsound s octets ≡ false → (sound s ≡ true) × (octets ≡ pool_octets)
unfolding unsound
then_sound s octets e = let p = both (sound s) (eqb octets pool_octets) (not-false _ e) in (p.0, eqb-true _ _ p.1)

pub closed_fine : fine closed ≡ true
unfolding fine illegal tallies_possible possible one blocks_for
closed_fine = refl

pub fine_at : (ls : List Lane) → every fine ls ≡ true → (j : ℕ) → fine (get_or ls j closed) ≡ true
unfolding every
fine_at [] e j = closed_fine
fine_at (l ∷ ls) e zero = (both (fine l) (every fine ls) e).0
fine_at (l ∷ ls) e (suc j) = fine_at ls (both (fine l) (every fine ls) e).1 j

-- each lane is fine
pub lane_fine : (s : State) → sound s ≡ true → (j : ℕ) → fine (lane_at s j) ≡ true
unfolding sound
lane_fine s e = fine_at s.lanes (both (every fine s.lanes) (within s.lanes) (both (every fine s.lanes && within s.lanes) (matching s.marks (map held s.lanes)) e).0).0

-- an open lane is one of eight
pub opened_small : (ls : List Lane) → length ls ≡ 8 → (i : ℕ) → (get_or ls i closed).opened ≡ true → i < 8
opened_small ls eight i o =
    elim (dec_lt i 8) [
      | yes h ↦ h
      | no h ↦ absurd (true≢false (sym o ∙ ap (λ (l : Lane). l.opened) (get_or-eq_default ls closed {n = i} (omega (arith, eight)))))
    ]
