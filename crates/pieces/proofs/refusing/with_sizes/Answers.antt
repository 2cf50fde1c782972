-- The sizes are those that the octets announce.
use Rattle.std.proofs.Common.{ap}
use Rattle.reading.specs.Reading.{announced}
use Rattle.reading.specs.declared.Sizes.{Sizes}
use Rattle.pieces.proofs.refusing.with_sizes.Goals as goal

pub invariant_of-result : goal.invariant_of-result
unfolding announced
invariant_of-result c =
    let sizes = c.sizes_in-sizes.ensures in
    record { header_announced = ap (λ (z : Sizes). z.header) sizes; size_announced = ap (λ (z : Sizes). z.size) sizes }
