-- What is put into the output and the buffer, part after part, is one text put once.
use Prim.Native.Nat.{ℕ, ◌+◌, ◌-◌, ◌≤◌}
use mathlib.Core.Path.{◌≡◌, refl, sym, ap, ◌∙◌}
use mathlib.Core.List.{List, [], ◌++◌, append_assoc}
use native.Mathlib.Nat.{zero-add}
use native.Mathlib.Omega.{arith}
use lib.ListN.{length, take, drop, length-append, length-drop}
use lib.Seq.{take-add, length-take-le}
use Rattle.octets.specs.Output.{put, put_if_fits}
use Rattle.octets.proofs.Puts.{put_fits, first_put, then_put, nothing}
use Rattle.std.proofs.lemmas.List.{take_rest}

-- ---- the packets in the output
module _ (piece field out : List ℕ) {from to : ℕ} (h : (from ≤ to) × (to ≤ length field) × (length piece + to ≤ length out)) where
  -- the octets before index from, and those from there to index `to`, are those before `to`
  split_field : take from field ++ take (to - from) (drop from field) ≡ take to field
  split_field =
      let e : from + (to - from) ≡ to = omega (arith, h) in
      sym (take-add from (to - from) field) ∙ (rw e)

  length_to : length (take to field) ≡ to
  length_to = length-take-le to field h.1

  abbrev Put : List ℕ → List ℕ → ℕ → Type 0
  Put text after n = (n ≡ length text) × (after ≡ put out 0 text)

  pub piece_and_field : {e f : List ℕ} → e ≡ put_if_fits out 0 piece → f ≡ put_if_fits e (length piece) (take to field)
      → Put ((piece ++ take from field) ++ take (to - from) (drop from field)) f (length piece + to)
  piece_and_field q p =
      let same : (piece ++ take from field) ++ take (to - from) (drop from field) ≡ piece ++ take to field = append_assoc piece _ _ ∙ ap (λ l. piece ++ l) split_field in
      let n : length (piece ++ take to field) ≡ length piece + to = length-append piece _ ∙ ap (λ k. length piece + k) length_to in
      let w = first_put out 0 piece {to = length piece} (omega (arith, h)) (omega arith) q in
      let both = then_put out 0 piece (take to field) (omega (arith, n, h)) {to' = length piece + to} (omega (arith, length_to)) w p in
      rw same (sym n, both.1)

  pub field_alone : {f : List ℕ} → f ≡ put_if_fits out 0 (take (to - from) (drop from field)) → Put ([] ++ take (to - from) (drop from field)) f (to - from)
  field_alone p =
      let n : length (take (to - from) (drop from field)) ≡ to - from = length-take-le (to - from) (drop from field) (omega (arith, length-drop from field, h)) in
      (sym n, (first_put out 0 (take (to - from) (drop from field)) {to = to - from} (omega (arith, n, h)) (omega (arith, n)) p).1)

-- ---- the piece in the buffer
module _ (field buffer : List ℕ) where
  abbrev Kept : List ℕ → List ℕ → ℕ → Type 0
  Kept text after n = (n ≡ length text) × (after ≡ put buffer 0 text)

  -- text that is put after what stays is the whole put at the front
  after_front : (kept : ℕ) → kept + length field ≤ length buffer → length (take kept buffer ++ field) ≡ kept + length field → put buffer kept field ≡ put buffer 0 (take kept buffer ++ field)
  unfolding put
  after_front kept h n =
      ap (λ k. (take kept buffer ++ field) ++ drop k buffer) (sym (zero-add (length (take kept buffer ++ field)) ∙ n))

  pub grown : (kept : ℕ) {f : List ℕ} → kept + length field ≤ length buffer → f ≡ put_if_fits buffer kept field → Kept (take kept buffer ++ field) f (kept + length field)
  grown kept h p =
      let k : length (take kept buffer) ≡ kept = length-take-le kept buffer (omega arith) in
      let n : length (take kept buffer ++ field) ≡ kept + length field = length-append (take kept buffer) field ∙ ap (λ z. z + length field) k in
      (sym n, p ∙ sym (put_fits buffer kept field h) ∙ after_front kept h n)

  pub nothing_left : Kept [] buffer 0
  nothing_left = (refl, (nothing buffer 0).1)

  pub left_over : (to : ℕ) {f : List ℕ} → length field ≤ length buffer → f ≡ put_if_fits buffer 0 (take (length field - to) (drop to field)) → Kept (drop to field) f (length field - to)
  left_over to h p =
      let n = length-drop to field in
      (sym n, p ∙ ap (put_if_fits buffer 0) (take_rest field to) ∙ sym (put_fits buffer 0 (drop to field) (omega (arith, n))))
