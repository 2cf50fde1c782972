-- The three answers to a frame, by the first test that holds: what is told, and what is left of buffer and output.
use Prim.Native.Nat.{ℕ}
use mathlib.Core.Path.{◌≡◌, sym, ap, ◌∙◌}
use mathlib.Core.List.{List}
use mathlib.Core.Bool.{false, not}
use native.Mathlib.Omega.{arith}
use borrow.Author.Tests.{eq-eqb, ne_eqb, eqb-true, not-false}
use lib.Dec.{eqb}
use lib.ListN.{length}
use Rattle.std.specs.Prelude.{Err}
use Rattle.octets.specs.Output.{put}
use Rattle.octets.proofs.Order.{either}
use Rattle.refusal.proofs.Named.{some}
use Rattle.frames.specs.Frames.{frame_refusal, repeats, packets_out, piece_after, piece_in, refused_kind, untaken, untaken_by, Checked, taken, framed, buffer_after, out_after}
use Rattle.frames.specs.declared.Frames.{Frames}
use Rattle.frames.specs.declared.Framed.{Framed}
use Rattle.frames.specs.declared.plan.Untaken.{Untaken}
use Rattle.frames.specs.declared.plan.Untaken.TheVariants.{Refused, Repeat}

module _ (state : Frames) (count pointer : ℕ) (field buffer out : List ℕ) where
  abbrev refusal : ℕ
  refusal = frame_refusal state count pointer (length field) (length buffer) (length out)

  abbrev pub Says : Framed → List ℕ → List ℕ → Type 0
  Says answer b o =
      (answer ≡ framed state count pointer field buffer (length out)) × ((b ≡ buffer_after state count pointer field buffer (length out)) × (o ≡ out_after state count pointer field buffer out))

  pub says_untaken : (why : Untaken) → Checked state count pointer (length field) (length buffer) (length out) (Err why) → {a : Framed} → a ≡ untaken_by why state → Says a buffer out
  unfolding framed buffer_after out_after
  says_untaken (Refused r) e t =
      let f = ne_eqb refusal 0 (λ z. omega (arith, some r, e, z)) in (t ∙ simp f (ap (λ n. untaken n refused_kind state) e), (simp f, simp f))
  says_untaken Repeat e t = let f = eq-eqb refusal 0 e.0 in (t ∙ simp (f, e.1), (simp (f, e.1), simp (f, e.1)))

  pub says_taken : {a : Framed} {b o : List ℕ} → refusal ≡ 0 → repeats state count ≡ false → a ≡ taken state count pointer field buffer
      → b ≡ put buffer 0 (piece_after state count pointer field (piece_in state count pointer field buffer))
      → o ≡ put out 0 (packets_out state count pointer field (piece_in state count pointer field buffer)) → Says a b o
  unfolding framed buffer_after out_after
  says_taken z r t p q = let f = eq-eqb refusal 0 z in (t ∙ simp (f, r), (p ∙ simp (f, r), q ∙ simp (f, r)))

  -- ---- what is told begins with the refusal; and a refusal leaves everything as it was
  pub refusal_told : (framed state count pointer field buffer (length out)).refusal ≡ refusal
  unfolding framed
  refusal_told =
      either (not (eqb refusal 0)) (λ t. simp t)
      (λ f. let zero = eqb-true refusal 0 (not-false _ f) in
      either (repeats state count) (λ r. simp (f, r) (sym zero)) (λ r. simp (f, r) (sym zero)))

  pub refused_leaves : (refusal ≡ 0 → ⊥)
      → ((framed state count pointer field buffer (length out)).state ≡ state) × (buffer_after state count pointer field buffer (length out) ≡ buffer) × (out_after state count pointer field buffer out ≡ out)
  unfolding framed buffer_after out_after
  refused_leaves u = let f = ne_eqb refusal 0 u in (simp f, simp f, simp f)
