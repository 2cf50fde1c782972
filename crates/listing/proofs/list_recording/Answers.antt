-- The length decides which text it is; the listing is put by `list`, the two words here.
use Rattle.std.proofs.Common.{ℕ, refl, ap, [], ◌∷◌, length, arith}
use borrow.Author.Tests.{le-leb, lt-leb}
use Rattle.text.specs.Text.{ascii}
use Rattle.text.proofs.Cut.{wrote}
use Rattle.listing.specs.Listing.{longest, recording_text}
use Rattle.listing.specs.Told.{listed, after}
use Rattle.listing.proofs.list_recording.Goals as goal

pub returns-then-s-le-LONGEST : goal.returns-then-s-le-LONGEST
unfolding recording_text
returns-then-s-le-LONGEST c =
    let few = le-leb (length c.args.s.now) longest c.if-s-le-LONGEST.true in
    record { result_value = simp few c.list.ensures.result_value; out_after = simp few c.list.ensures.out_after }

pub returns-then-out-lt9 : goal.returns-then-out-lt9
unfolding recording_text listed after
returns-then-out-lt9 c =
    let many = lt-leb (length c.args.s.now) longest (omega arith) in
    let short = lt-leb 9 (length c.args.out.now) (omega arith) in
    record { result_value = simp (many, short) refl; out_after = simp (many, short) refl }

pub returns : goal.returns
unfolding recording_text listed after
returns c =
    let out = c.args.out.now in
    let many = lt-leb (length c.args.s.now) longest (omega arith) in
    let fits = le-leb 9 (length out) (omega arith) in
    let w = wrote out 0 (ascii "too long\n") (omega arith) (c.put.ensures.value, c.put.ensures.out_after) in
    record { result_value = simp (many, fits) (ap (λ (n : ℕ). 0 ∷ n ∷ []) w.0); out_after = simp (many, fits) w.1 }
