-- Each turn puts the line that it takes off what is left to list; where the loop is left, only the last line is left.
use Rattle.std.proofs.Common.{ℕ, List, ◌≡◌, ◌≤◌, ◌++◌, length, arith}
use Rattle.octets.specs.Output.{put}
use Rattle.walk.proofs.Going.{going_at_start}
use Rattle.listing.specs.Listing.{end_line, listing}
use Rattle.listing.specs.Lines.{line_found}
use Rattle.listing.proofs.Left.{left_all, left_end, left_more, left_refused}
use Rattle.text.proofs.Underway.{Underway, begin, line_fits, line_put, last_fits, last_put}
use Rattle.text.proofs.Cut.{Put, wrote}
use Rattle.listing.proofs.put_all.Goals as goal
use Rattle.listing.proofs.put_all.Goals.{then-s-at, else-s-at+in-Err}

-- where the whole text fits, each line does, and is put whole
module _ (d out : List ℕ) (to : ℕ) (line : List ℕ) where
  line_told : (rest text : List ℕ) → length text ≤ length d → Underway d out to (line ++ rest) text
      → {out' : List ℕ} {to' : ℕ} → Put out to line out' to' → Underway d out' to' rest text
  line_told rest text fits u p = line_put d out to line rest text fits u (wrote out to line (line_fits d out to line rest text fits u) p)

  end_told : (text : List ℕ) → length text ≤ length d → Underway d out to line text
      → {out' : List ℕ} {to' : ℕ} → Put out to line out' to' → (to' ≡ length text) × (out' ≡ put d 0 text)
  end_told text fits u p = last_put d out to line text fits u (wrote out to line (last_fits d out to line text fits u) p)

pub loop-at-init : goal.loop-at-init
loop-at-init c = let s = c.args.s.now in (going_at_start s, rw (left_all s) (begin c.args.out.now (listing s)))

pub loop-at-smaller : goal.loop-at-smaller
loop-at-smaller c =
    let t = (left_more c.args.s.now c.loop-at.at c.loop-at.packets c.loop-at.invariant.0 c.look_at-found.result c.look_at-found.ensures c.in-Ok.field-0 c.in-Ok.is).0 in
    omega arith

pub loop-at-preserved : goal.loop-at-preserved
loop-at-preserved c =
    let s = c.args.s.now in
    let l = c.loop-at in
    let f = c.look_at-found in
    let p = c.put_found-to.ensures in
    let t = left_more s l.at l.packets l.invariant.0 f.result f.ensures c.in-Ok.field-0 c.in-Ok.is in
    (t.0.going, line_told c.args.out.now l.out l.to (line_found l.at f.result.read) _ (listing s) c.requires (rw t.1 at l.invariant.1) (p.value, p.out_after))

pub returns : goal.returns
returns c =
    let s = c.args.s.now in
    let d = c.args.out.now in
    let l = c.loop-at in
    let g = l.invariant.0 in
    let ended : Underway d c.if-s-at.out c.if-s-at.last (end_line l.at l.packets) (listing s) =
    elim c.if-s-at.branch [
      | then-s-at w ↦ rw (w.out-is, w.last-is, ← (left_end s l.at l.packets g w.if-s-at.true)) l.invariant.1
      | else-s-at+in-Err w ↦
          let f = w.look_at-found in
          let p = w.put_found-to.ensures in
          let e = left_refused s l.at l.packets g f.result f.ensures w.if-s-at.false w.in-Err.field-0 w.in-Err.is in
          rw (w.out-is, w.last-is) (line_told d l.out l.to (line_found l.at f.result.read) _ (listing s) c.requires (rw e at l.invariant.1) (p.value, p.out_after))
    ] in
    let told = c.put_end.ensures in
    let put = end_told d c.if-s-at.out c.if-s-at.last _ (listing s) c.requires ended (told.value, told.out_after) in
    record { value = put.0; out_after = put.1 }
