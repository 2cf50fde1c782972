-- A text that is put line by line: what carries each loop that writes one. What is written and what is left are the text, and what lies
-- beyond is as it was.
use Prim.Native.Nat.{ℕ, ◌+◌, ◌≤◌}
use mathlib.Core.Path.{◌≡◌, refl, sym, ap, ◌∙◌}
use mathlib.Core.List.{List, [], ◌++◌, append_assoc, append-nil}
use native.Mathlib.Nat.{zero-add}
use native.Mathlib.Omega.{arith}
use lib.ListN.{length, take, drop, length-append, take-append-drop}
use lib.Seq.{drop-drop}
use Rattle.octets.specs.Output.{put}
use Rattle.octets.proofs.Puts.{Wrote, Fits, put_length, take_put, drop_put}

-- `out` is d with the front of `text` in it, up to index `to`; `rest` is left
pub record Underway (d out : List ℕ) (to : ℕ) (rest text : List ℕ) : Type 0 where
  pub same_length : length out ≡ length d
  pub far : to + length rest ≡ length text
  pub written : take to out ++ rest ≡ text
  pub beyond : drop to out ≡ drop to d

pub begin : (d text : List ℕ) → Underway d d 0 text text
begin d text = record { same_length = refl; far = zero-add _; written = refl; beyond = refl }

-- a line is taken off what is left, and put
pub go_on : (d out : List ℕ) (to : ℕ) (line rest text : List ℕ) {out' : List ℕ} {to' : ℕ}
    → Underway d out to (line ++ rest) text → Fits out to line → Wrote out to line out' to' → Underway d out' to' rest text
go_on d out to line rest text u fits (p, e) = rw (p, e) (record {
  same_length = put_length out to line fits ∙ u.same_length;
  far = omega (arith, u.far, length-append line rest);
  written = rw (take_put out to line fits, append_assoc) u.written;
  beyond = drop_put out to line fits ∙ sym (drop-drop (length line) to out) ∙ ap (drop (length line)) u.beyond ∙ drop-drop (length line) to d;
})

-- where the whole text fits, each line does
module _ (d : List ℕ) (out : List ℕ) (to : ℕ) (line rest text : List ℕ) (fits : length text ≤ length d) (u : Underway d out to (line ++ rest) text) where
  pub line_fits : Fits out to line
  line_fits = omega (arith, u.far, u.same_length, length-append line rest)

  pub line_put : {out' : List ℕ} {to' : ℕ} → Wrote out to line out' to' → Underway d out' to' rest text
  line_put = go_on d out to line rest text u line_fits

-- nothing is left: the text is put whole
pub put_whole : (d out : List ℕ) (to : ℕ) (text : List ℕ) → Underway d out to [] text → (to ≡ length text) × (out ≡ put d 0 text)
unfolding put
put_whole d out to text u =
    let e : to ≡ length text = omega (arith, u.far) in
    (e, sym (take-append-drop to out) ∙ rw (u.beyond, ← append-nil (take to out), u.written, e, zero-add))

-- the last line
module _ (d out : List ℕ) (to : ℕ) (line text : List ℕ) (fits : length text ≤ length d) (u : Underway d out to line text) where
  and_nothing : Underway d out to (line ++ []) text
  and_nothing = rw append-nil u

  pub last_fits : Fits out to line
  last_fits = line_fits d out to line [] text fits and_nothing

  pub last_put : {out' : List ℕ} {to' : ℕ} → Wrote out to line out' to' → (to' ≡ length text) × (out' ≡ put d 0 text)
  last_put {out'} {to'} w = put_whole d out' to' text (line_put d out to line [] text fits and_nothing w)
