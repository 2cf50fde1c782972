-- The octets that the head announces decide whether the frame is whole.
use Rattle.std.proofs.Common.{◌≡◌, ◌+◌, ◌-◌, ◌≤◌, ◌<◌, Option, None, Some, MatchOption, ⊎_elim, length, ap, ◌∙◌, le-leb, take, arith}
use Rattle.std.proofs.lemmas.Bool.{lt-leb}
use Rattle.deframing.specs.File.{frame_size}
use Rattle.deframing.proofs.frame_in.Goals as goal

weaker : {A P P' : Type 0} {Q Q' : A → Type 0} (o : Option A) → (P → P') → ((x : A) → Q x → Q' x) → MatchOption o P Q → MatchOption o P' Q'
weaker None f g h = f h
weaker (Some x) f g h = g x h

pub returns : goal.returns
unfolding frame_size
returns c =
    let s = c.args.s.now in
    let n = c.from.result in
    let whole : 6 + n ≤ length s → 6 + n ≡ frame_size s = λ l. simp (← c.be16_at.ensures, ← c.from.ensures, le-leb _ _ l) in
    let cut : length s < 6 + n → frame_size s ≡ 0 = λ l. simp (← c.be16_at.ensures, ← c.from.ensures, lt-leb _ _ l) in
    weaker c.get.result (λ e. ⊎_elim (λ z. absurd (omega (arith, z))) cut e)
    (λ frame e. let k : 6 + n - 0 ≡ frame_size s = omega (arith, whole e.1) in (e.2 ∙ ap (λ m. take m s) k, λ z. omega (arith, z, k))) c.get.ensures.lookup.0
