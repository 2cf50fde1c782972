-- One step of a frame file: which of the three it is, and what it leaves. What carries `tell_frame`, `take_step` and `tell_next`.
use Prim.Native.Nat.{ℕ, ◌+◌, ◌-◌, ◌≤◌, ◌<◌}
use mathlib.Core.Path.{◌≡◌, refl, sym, ap, ◌∙◌, subst}
use mathlib.Core.Bool.{true, false, not}
use mathlib.Core.List.{List}
use native.Mathlib.Omega.{arith}
use borrow.Author.Tests.{eq-eqb, ne_eqb, lt-ltb, le-ltb, leb-true}
use lib.Dec.{eqb, leb}
use lib.ListN.{length, take, length-append}
use lib.Seq.{length-take-le}
use Rattle.std.proofs.lemmas.List.{take_rest}
use Rattle.octets.specs.Octets.{be16}
use Rattle.octets.specs.Output.{put}
use Rattle.octets.proofs.Order.{either}
use Rattle.octets.proofs.Puts.{nothing}
use Rattle.text.specs.Text.{ascii}
use Rattle.telling.specs.Lines.{last_lines, Lined}
use Rattle.frames.specs.Frames.{frame_refusal, repeats, packets_out, framed, out_after}
use Rattle.frames.specs.declared.Frames.{Frames}
use Rattle.frames.specs.declared.Framed.{Framed}
use Rattle.deframing.specs.File.{head_octets, frame_size, count_in}
use Rattle.deframing.specs.Run.{Standing, Step, finished, longest, stopping, answer, piece_then, out_then, taking, ahead, step, is_ready, step_if, frame_line, Stepped}
use Rattle.deframing.specs.declared.Told.{Told}

-- ---- a frame lies within the octets that it is read from, and has its head
module _ (s : List ℕ) where
  pub size_fits : frame_size s ≤ length s
  unfolding frame_size
  size_fits = either (leb (head_octets + be16 s 4) (length s)) (λ t. simp t (leb-true _ _ t)) (λ f. simp f (omega arith))

  pub head_fits : (frame_size s ≡ 0 → ⊥) → head_octets ≤ frame_size s
  unfolding frame_size
  head_fits n = either (leb (head_octets + be16 s 4) (length s)) (λ t. simp t (omega arith)) (λ f. absurd (n (simp f)))

-- ---- the packets are at the front of the output, so they are no more octets than it has
put_within : (d text : List ℕ) → length text ≤ length (put d 0 text)
unfolding put
put_within d text = simp length-append (omega arith)

octets_fit : (state : Frames) (count pointer : ℕ) (field buffer out : List ℕ) → length (out_after state count pointer field buffer out) ≡ length out
    → (framed state count pointer field buffer (length out)).octets ≤ length out
unfolding framed out_after
octets_fit state count pointer field buffer out h =
    either (not (eqb (frame_refusal state count pointer (length field) (length buffer) (length out)) 0)) (λ t. simp t (omega arith))
    (λ f. either (repeats state count) (λ t. simp (f, t) (omega arith)) (λ g. simp (f, g) (omega (arith, put_within out (packets_out state count pointer field (take state.piece buffer)), simp (f, g) at h))))

-- ---- a step that takes a frame of n octets tells this
abbrev pub told : Standing → Framed → ℕ → ℕ → Told
told w f n end =
    record { progress = record { at = w.progress.at + n; calls = w.progress.calls + 1; done = false; state = f.state }; to = end; octets = f.octets }

module _ (w : Standing) (frame : List ℕ) {f : Framed} {piece out : List ℕ} (h : (f ≡ answer w frame) × ((piece ≡ piece_then w frame) × (out ≡ out_then w frame))) where
  pub packets_fit : length out ≡ length w.out → f.octets ≤ length w.out
  packets_fit l = rw h.0 (octets_fit _ _ _ _ _ w.out (sym (ap length h.1.1) ∙ l))

  pub takes : (d : List ℕ) (to count : ℕ) {text : List ℕ} {end : ℕ} → count ≡ count_in frame → Lined d to (frame_line w.progress.at count f out) text end
      → Stepped (taking w frame) d to (told w f (length frame) end) piece out text
  unfolding taking
  takes d to count e l =
      let k = rw (e, h.0, h.1.1) at l in
      rw (h.0, h.1.0, h.1.1) (ap (told w (answer w frame) (length frame)) k.0, (refl, (refl, k.1)))

-- ---- one that ends the text
pub stops : (w : Standing) (t d : List ℕ) (to : ℕ) {end : ℕ} {text : List ℕ} (r : Told) → (r.progress ≡ finished w.progress) × (r.to ≡ end) × (r.octets ≡ 0) → Lined d to t text end
    → Stepped (stopping w t) d to r w.piece w.out text × ((r.octets ≤ length w.out) × (r.to ≤ length d))
stops w t d to r e l = (((λ i. record { progress = e.0 i; to = (e.1 ∙ l.0) i; octets = e.2 i }), (refl, (refl, l.1))), (omega (arith, e.2), omega (arith, e.1, l.2)))

-- ---- which step it is
module _ (s : List ℕ) (w : Standing) where
  pub too_long : longest < length s → stopping w (ascii "too long\n") ≡ step s w
  unfolding step
  too_long h = simp (lt-ltb longest (length s) h)

  module _ (l : length s ≤ longest) where
    pub last : frame_size (ahead s w) ≡ 0 → stopping w (last_lines (length s) w.progress.at w.progress.calls w.piece) ≡ step s w
    unfolding step
    last e = simp (le-ltb longest (length s) l, eq-eqb (frame_size (ahead s w)) 0 e)

    pub another : (frame_size (ahead s w) ≡ 0 → ⊥) → taking w (take (frame_size (ahead s w)) (ahead s w)) ≡ step s w
    unfolding step
    another n = simp (le-ltb longest (length s) l, ne_eqb (frame_size (ahead s w)) 0 n)

  -- what is left of the file, as the code lends it, and the frame in it
  abbrev lent : List ℕ
  lent = take (length s - w.progress.at) (ahead s w)

  pub none_here : frame_size lent ≡ 0 → frame_size (ahead s w) ≡ 0
  none_here e = ap frame_size (sym (take_rest s w.progress.at)) ∙ e

  module _ {frame : List ℕ} (h : (frame ≡ take (frame_size lent) lent) × (frame_size lent ≡ 0 → ⊥)) where
    pub here : (frame ≡ take (frame_size (ahead s w)) (ahead s w)) × (frame_size (ahead s w) ≡ 0 → ⊥)
    here = rw (take_rest s w.progress.at) at h

    pub here_length : length frame ≡ frame_size (ahead s w)
    here_length = ap length here.0 ∙ length-take-le (frame_size (ahead s w)) (ahead s w) (size_fits (ahead s w))

-- the same step, by another name
pub the_same : {x y : Step} (d : List ℕ) (to : ℕ) {r : Told} {piece out text : List ℕ} → x ≡ y → Stepped x d to r piece out text → Stepped y d to r piece out text
the_same d to {r} {piece} {out} {text} e h = subst (λ (x : Step). Stepped x d to r piece out text) e h

-- ---- with room for it, or not
module _ (s d : List ℕ) (to : ℕ) (w : Standing) where
  pub no_step : is_ready (length s) (length d) to w.progress ≡ false → Stepped (step_if s (length d) to w) d to (record { progress = w.progress; to = to; octets = 0 }) w.piece w.out d
  unfolding step_if
  no_step e = simp e ((λ i. record { progress = w.progress; to = (nothing d to).0 i; octets = 0 }), (refl, (refl, (nothing d to).1)))

  pub a_step : is_ready (length s) (length d) to w.progress ≡ true → step s w ≡ step_if s (length d) to w
  unfolding step_if
  a_step e = simp e
