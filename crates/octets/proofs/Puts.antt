-- Text that is put after text is one text put once: what carries everything that is written in steps.
use Prim.Native.Nat.{ℕ, ◌+◌, ◌≤◌, ◌<◌}
use mathlib.Core.Path.{◌≡◌, sym, ap, ◌∙◌}
use mathlib.Core.List.{List, [], ◌∷◌, ◌++◌, append_assoc, append-nil}
use native.Mathlib.Omega.{arith}
use native.Mathlib.Nat.{add-zero, add_assoc}
use native.Mathlib.Numerals.{unary_clauses}
use borrow.Author.Tests.{le-leb, lt-leb}
use lib.ListN.{length, take, drop, set, length-append, take-append-drop}
use lib.Seq.{take-length, drop-drop, paste, length-paste, take-paste, drop-paste, sets-eq}
use Rattle.octets.specs.Output.{put, put_if_fits}

-- an octet that is stored
pub stored_one : (d : List ℕ) (at x : ℕ) → at < length d → set d at x ≡ put d at (x ∷ [])
unfolding put
stored_one d at x h = simp unary_clauses (simp unary_clauses at (sets-eq (x ∷ []) d at (omega arith)))

-- what fits is put, and what doesn't is not
module _ (d : List ℕ) (at : ℕ) (text : List ℕ) where
  pub put_fits : at + length text ≤ length d → put d at text ≡ put_if_fits d at text
  unfolding put_if_fits
  put_fits h = simp (le-leb (at + length text) (length d) h)

  pub not_put : length d < at + length text → d ≡ put_if_fits d at text
  unfolding put_if_fits
  not_put h = simp (lt-leb (at + length text) (length d) h)

-- text that is put is the kit's copy of all of it, whose laws serve
module _ (d : List ℕ) (at : ℕ) (text : List ℕ) where
  as_paste : put d at text ≡ paste d at text (length text)
  unfolding put
  as_paste = rw (take-length text)

  module _ (h : at + length text ≤ length d) where
    pub put_length : length (put d at text) ≡ length d
    put_length = ap length as_paste ∙ length-paste d at text (length text) h (omega arith)

    pub take_put : take (at + length text) (put d at text) ≡ take at d ++ text
    take_put = ap (take (at + length text)) as_paste ∙ take-paste d at text (length text) (omega arith) (omega arith) ∙ rw (take-length text)

    pub drop_put : drop (at + length text) (put d at text) ≡ drop (at + length text) d
    drop_put = ap (drop (at + length text)) as_paste ∙ drop-paste d at text (length text) (omega arith) (omega arith)

joined : (d e : List ℕ) (at : ℕ) (a b : List ℕ) → take (at + length a) e ≡ take at d ++ a
    → drop (at + length a + length b) e ≡ drop (at + length a + length b) d → put e (at + length a) b ≡ put d at (a ++ b)
unfolding put
joined d e at a b t r = rw (t, r) (simp (length-append, append_assoc, add_assoc))

-- one text after another
pub put_put : (d : List ℕ) (at : ℕ) (a b : List ℕ) → at + length a + length b ≤ length d → put (put d at a) (at + length a) b ≡ put d at (a ++ b)
put_put d at a b h =
    let t = take_put d at a (omega arith) in
    let r : drop (at + length a + length b) (put d at a) ≡ drop (at + length a + length b) d =
    sym (drop-drop (length b) (at + length a) (put d at a)) ∙ ap (drop (length b)) (drop_put d at a (omega arith)) ∙ drop-drop (length b) (at + length a) d in
    joined d (put d at a) at a b t r

-- ---- in steps: text was put into d from index at on, which gave out, and `to` is the place after it. This is what each `put` ensures
abbrev pub Wrote : List ℕ → ℕ → List ℕ → List ℕ → ℕ → Type 0
Wrote d at text out to = (to ≡ at + length text) × (out ≡ put d at text)

abbrev pub Fits : List ℕ → ℕ → List ℕ → Type 0
Fits d at text = at + length text ≤ length d

pub nothing : (d : List ℕ) (at : ℕ) → Wrote d at [] d at
unfolding put
nothing d at = (sym (add-zero at), rw (add-zero, append-nil) (sym (take-append-drop at d)))

module _ (d : List ℕ) (at : ℕ) (a b : List ℕ) (f : Fits d at (a ++ b)) where
  both : at + length a + length b ≤ length d
  both = omega (arith, length-append a b)

  -- there is room for the first part, and then for the second
  pub room : Fits d at a
  room = omega (arith, both)

  pub room_after : {out : List ℕ} {to : ℕ} → Wrote d at a out to → Fits out to b
  room_after (p, e) = rw (p, e, put_length d at a room) both

  pub more : {out out' : List ℕ} {to to' : ℕ} → Wrote d at a out to → Wrote out to b out' to' → Wrote d at (a ++ b) out' to'
  more (p, e) (q, g) = (omega (arith, length-append a b), g ∙ rw (p, e) (put_put d at a b both))

  -- the same where the second part is put if it fits, which it does
  pub then_put : {out out' : List ℕ} {to to' : ℕ} → to' ≡ to + length b → Wrote d at a out to → out' ≡ put_if_fits out to b → Wrote d at (a ++ b) out' to'
  then_put {out} {to = to} p w e = more w (p, e ∙ sym (put_fits out to b (room_after w)))

-- the first part
pub first_put : (d : List ℕ) (at : ℕ) (a : List ℕ) {out : List ℕ} {to : ℕ} → Fits d at a → to ≡ at + length a → out ≡ put_if_fits d at a → Wrote d at a out to
first_put d at a f p e = (p, e ∙ sym (put_fits d at a f))
