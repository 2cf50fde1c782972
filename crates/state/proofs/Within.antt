-- The sum once a lane is set is that of the others and what the new lane counts for; so a lane that counts for no more is within as well.
use Prim.Native.Nat.{ℕ, zero, suc, ◌+◌, ◌-◌, ◌≤◌, ◌<◌, max}
use mathlib.Core.Path.{◌≡◌, refl, sym, ap, ◌∙◌}
use mathlib.Core.Bool.{Bool, true}
use mathlib.Core.List.{List, [], ◌∷◌}
use native.Mathlib.Decide.{dec_lt}
use native.Mathlib.Omega.{arith}
use borrow.Author.Tests.{le-leb, leb-true}
use lib.Dec.{leb}
use lib.ListN.{length, get_or, set}
use lib.Seq.{set-get_or, set_out, set-set}
use Rattle.marks.specs.Blocks.{blocks, blocks_for}
use Rattle.lane.specs.declared.Lane.{Lane}
use Rattle.lane.specs.Lane.{closed, held, need, holding}
use Rattle.state.specs.State.{total, within}

-- ---- what a lane counts for
pub need_closed : need closed ≡ 0
unfolding need
need_closed = refl

pub need_open : (l : Lane) → l.opened ≡ true → need l ≡ max (held l) l.settings.share
unfolding need
need_open l o = simp o

-- ---- and all of them, or all but one
unfoldable pub others : List Lane → ℕ → ℕ
others ls i = total (set ls i closed)

pub total_set : (ls : List Lane) (i : ℕ) (l : Lane) → i < length ls → total (set ls i l) ≡ need l + others ls i
unfolding total others
total_set [] i l h = absurd (omega arith)
total_set (x ∷ ls) zero l h = omega (arith, need_closed)
total_set (x ∷ ls) (suc i) l h = omega (arith, total_set ls i l (omega arith))

pub total_at : (ls : List Lane) (i : ℕ) → i < length ls → total ls ≡ need (get_or ls i closed) + others ls i
total_at ls i h = sym (ap total (set-get_or ls i closed)) ∙ total_set ls i (get_or ls i closed) h

-- the others are the same whatever the lane is
pub others_same : (ls : List Lane) (i : ℕ) (l : Lane) → others (set ls i l) i ≡ others ls i
unfolding others
others_same ls i l = ap total (set-set ls i l closed)

-- ---- they are within by their sum
pub most : (ls : List Lane) → within ls ≡ true → total ls ≤ blocks
unfolding within
most ls e = leb-true (total ls) blocks e

pub by_sum : (ls : List Lane) → total ls ≤ blocks → within ls ≡ true
unfolding within
by_sum ls h = le-leb (total ls) blocks h

module _ (ls : List Lane) (i : ℕ) where
  -- a smaller need keeps them within
  pub smaller : (l : Lane) → need l ≤ need (get_or ls i closed) → within ls ≡ true → within (set ls i l) ≡ true
  smaller l h w =
      elim (dec_lt i (length ls)) [
        | yes k ↦ by_sum (set ls i l) (omega (arith, h, most ls w, total_at ls i k, total_set ls i l k))
        | no k ↦ rw (set_out ls i l (omega (arith, k))) w
      ]

  -- and the same need
  pub same_need : (l m : Lane) → need m ≡ need l → within (set ls i l) ≡ true → within (set ls i m) ≡ true
  same_need l m e w =
      elim (dec_lt i (length ls)) [
        | yes k ↦ by_sum (set ls i m) (omega (arith, e, most (set ls i l) w, total_set ls i l k, total_set ls i m k))
        | no k ↦ rw (set_out ls i m (omega (arith, k))) (rw (set_out ls i l (omega (arith, k))) at w)
      ]

  -- so does closing a lane
  pub closes : within ls ≡ true → within (set ls i closed) ≡ true
  closes = smaller closed (omega (arith, need_closed))

  -- and an open lane may hold its share
  pub share_fits : (get_or ls i closed).opened ≡ true → (n : ℕ) → blocks_for n ≤ (get_or ls i closed).settings.share → within ls ≡ true → within (set ls i (holding (get_or ls i closed) n)) ≡ true
  share_fits o n h = smaller (holding (get_or ls i closed) n) (omega (arith, h, need_open (get_or ls i closed) o, need_open (holding (get_or ls i closed) n) o))

  -- a lane beside none that is open may hold every block
  pub alone_fits : others ls i ≡ 0 → i < length ls → (l : Lane) → need l ≤ blocks → within (set ls i l) ≡ true
  alone_fits none k l h = by_sum (set ls i l) (omega (arith, none, h, total_set ls i l k))

-- lanes that are closed, or all but one of them
none_open : (ls : List Lane) → ((j : ℕ) → j < length ls → get_or ls j closed ≡ closed) → total ls ≡ 0
unfolding total
none_open [] shut = refl
none_open (l ∷ ls) shut = omega (arith, ap need (shut 0 (omega arith)), need_closed, none_open ls (λ j h. shut (suc j) (omega arith)))

pub none_beside : (ls : List Lane) (i : ℕ) → ((j : ℕ) → j < length ls → (j ≡ i → ⊥) → get_or ls j closed ≡ closed) → others ls i ≡ 0
unfolding others total
none_beside [] i shut = refl
none_beside (l ∷ ls) zero shut = omega (arith, need_closed, none_open ls (λ j h. shut (suc j) (omega arith) (λ z. omega arith)))
none_beside (l ∷ ls) (suc i) shut =
    omega (arith, ap need (shut 0 (omega arith) (λ z. omega arith)), need_closed, none_beside ls i (λ j h d. shut (suc j) (omega arith) (λ z. d (omega arith))))

-- ---- as the code asks it: by the sum, in which one lane's part is exchanged
pub is_within : (ls : List Lane) (n : ℕ) → n ≡ total ls → (b : Bool) → b ≡ leb n blocks → b ≡ within ls
unfolding within
is_within ls n en b eb = eb ∙ rw en

module _ (ls : List Lane) (i : ℕ) (l : Lane) (sum : ℕ) (es : sum ≡ total ls) where
  module _ (h : i < length ls) (old : ℕ) (eo : old ≡ need (get_or ls i closed)) where
    pub part_of : old ≤ sum
    part_of = omega (arith, es, eo, total_at ls i h)

    pub exchanged : (new : ℕ) → new ≡ need l → (b : Bool) → b ≡ leb (sum - old + new) blocks → b ≡ within (set ls i l)
    exchanged new en = is_within (set ls i l) (sum - old + new) (omega (arith, es, eo, en, total_at ls i h, total_set ls i l h))

  pub none_set : length ls ≤ i → (b : Bool) → b ≡ leb sum blocks → b ≡ within (set ls i l)
  none_set h = is_within (set ls i l) sum (es ∙ ap total (sym (set_out ls i l h)))
