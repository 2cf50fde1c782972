-- The sums of the parts so far lead from here to where those at the start lead.
use Rattle.std.proofs.Common.{◌≡◌, ◌<◌}
use Rattle.std.specs.Slice.Iter.{chunks_rest, chunks_size}
use Rattle.adler.specs.Adler.{base, adler_from, adler}
use Rattle.adler.specs.Part.{part}
use Rattle.adler.proofs.adler32.Given as goal

abbrev pub invariant-loop-part : goal.invariant-loop-part
invariant-loop-part l =
    (chunks_size l.part-iterator ≡ part) × (l.sums.first < base) × (l.sums.second < base)
    × (adler l.s ≡ adler_from l.sums.first l.sums.second (chunks_rest l.part-iterator))
