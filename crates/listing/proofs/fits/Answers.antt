-- Each turn takes one line off what is left to list; where the loop is left, only the last line is left, or a line did not fit.
use Rattle.std.proofs.Common.{ℕ, ◌≡◌, ◌+◌, ◌<◌, ◌^◌, ◌⊎◌, inl, inr, ⊎_elim, refl, sym, ap, ◌∙◌, leb, length, length-append, arith}
use borrow.Author.Tests.{le-leb, lt-leb, leb-true, leb-false}
use Rattle.octets.proofs.Order.{either}
use Rattle.walk.proofs.Going.{going_at_start}
use Rattle.listing.specs.Listing.{end_line, listing}
use Rattle.listing.specs.Lines.{line_found}
use Rattle.listing.proofs.Short.{found_told, end_told, end_some}
use Rattle.listing.proofs.Left.{left, left_all, left_end, left_more, left_refused, left_begins}
use Rattle.listing.proofs.fits.Goals as goal
use Rattle.listing.proofs.fits.Goals.{then-s-at, else-s-at+then-left-line, else-s-at+else-left-line+in-Err}

-- a last line of a octets, room of b left, a listing of c and room of d in all: what one side lacks the other has over, or there is no room at all
fitting : (a b c d : ℕ) → 0 < a → (d + a ≡ b + c) ⊎ ((b ≡ 0) × (d < c)) → leb a b ≡ leb c d
fitting a b c d some =
    ⊎_elim
    (λ e. either (leb a b) (λ t. t ∙ sym (le-leb c d (omega (arith, leb-true a b t)))) (λ f. f ∙ sym (lt-leb c d (omega (arith, leb-false a b f)))))
    (λ e. lt-leb a b (omega arith) ∙ sym (lt-leb c d e.1))

pub loop-at-init : goal.loop-at-init
loop-at-init c = let s = c.args.s.now in (refl, going_at_start s, omega arith, omega (arith, ap length (left_all s)))

pub loop-at-smaller : goal.loop-at-smaller
loop-at-smaller c =
    let t = (left_more c.args.s.now c.loop-at.at c.loop-at.packets c.loop-at.invariant.1 c.look_at-found.result c.look_at-found.ensures c.in-Ok.field-0 c.in-Ok.is).0 in
    omega arith

pub loop-at-preserved : goal.loop-at-preserved
loop-at-preserved c =
    let s = c.args.s.now in
    let l = c.loop-at in
    let f = c.look_at-found in
    let p = c.put_found-line in
    let t = left_more s l.at l.packets l.invariant.1 f.result f.ensures c.in-Ok.field-0 c.in-Ok.is in
    let told = found_told l.scratch l.invariant.0 l.at (omega arith) s f.result f.ensures (omega arith) (p.ensures.value, p.ensures.out_after) in
    (p.auto.out ∙ l.invariant.0, t.0.going, omega (arith, l.invariant.2), omega (arith, l.invariant.3, ap length t.1, length-append (line_found l.at f.result.read) (left s f.result.next (l.packets + 1)), told, c.if-left-line.false))

pub returns : goal.returns
returns c =
    let s = c.args.s.now in
    let room = c.args.room in
    let l = c.loop-at in
    let g = l.invariant.1 in
    let long : length s < 2 ^ 64 = omega arith in
    let same : length c.if-s-at.scratch ≡ 128 =
    elim c.if-s-at.branch [
      | then-s-at w ↦ ap length w.scratch-is ∙ l.invariant.0
      | else-s-at+then-left-line w ↦ ap length w.scratch-is ∙ w.put_found-line.auto.out ∙ l.invariant.0
      | else-s-at+else-left-line+in-Err w ↦ ap length w.scratch-is ∙ w.put_found-line.auto.out ∙ l.invariant.0
    ] in
    let end = end_told c.if-s-at.scratch same l.at (omega (arith, g.inside)) l.packets (omega (arith, g.behind, g.inside)) (c.put_end.ensures.value, c.put_end.ensures.out_after) in
    let ended : (room + length (end_line l.at l.packets) ≡ c.if-s-at.last + length (listing s)) ⊎ ((c.if-s-at.last ≡ 0) × (room < length (listing s))) =
    elim c.if-s-at.branch [
      | then-s-at w ↦ inl (omega (arith, l.invariant.3, w.last-is, ap length (left_end s l.at l.packets g w.if-s-at.true)))
      | else-s-at+then-left-line w ↦
          let f = w.look_at-found in
          let told = found_told l.scratch l.invariant.0 l.at (omega arith) s f.result f.ensures long (w.put_found-line.ensures.value, w.put_found-line.ensures.out_after) in
          let b = left_begins s l.at l.packets g f.result f.ensures w.if-s-at.false in
          inr (w.last-is, omega (arith, l.invariant.3, ap length b.1, length-append (line_found l.at f.result.read) b.0, told, w.if-left-line.true))
      | else-s-at+else-left-line+in-Err w ↦
          let f = w.look_at-found in
          let told = found_told l.scratch l.invariant.0 l.at (omega arith) s f.result f.ensures long (w.put_found-line.ensures.value, w.put_found-line.ensures.out_after) in
          let e = left_refused s l.at l.packets g f.result f.ensures w.if-s-at.false w.in-Err.field-0 w.in-Err.is in
          inl (omega (arith, l.invariant.3, w.last-is, w.if-left-line.false, told, ap length e, length-append (line_found l.at f.result.read) (end_line l.at l.packets)))
    ] in
    fitting c.put_end.result c.if-s-at.last (length (listing s)) room (omega (arith, end, end_some l.at l.packets)) (⊎_elim (λ e. inl (omega (arith, e, end))) inr ended)
