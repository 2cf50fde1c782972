-- What `has_room` answers decides; the text is then put whole, or nothing is touched.
use Rattle.std.proofs.Common.{ℕ, ◌≡◌, refl, ap, [], ◌∷◌, true, false, leb, length}
use Rattle.listing.specs.Listing.{listing}
use Rattle.listing.specs.Told.{listed, after}
use Rattle.listing.proofs.list.Goals as goal

pub returns-then-has_room : goal.returns-then-has_room
unfolding listed after
returns-then-has_room c =
    let e : leb (length (listing c.args.s.now)) (length c.args.out.now) ≡ true = cc in
    let put = c.put_all.ensures in
    record { result_value = simp e (ap (λ (n : ℕ). 0 ∷ n ∷ []) put.value); out_after = simp e put.out_after }

pub returns-else-has_room : goal.returns-else-has_room
unfolding listed after
returns-else-has_room c =
    let e : leb (length (listing c.args.s.now)) (length c.args.out.now) ≡ false = cc in
    record { result_value = simp e refl; out_after = simp e refl }
