-- An octet is at most 255; Adding has what an octet does to the sums.
use Rattle.std.proofs.Common.{◌∙◌, arith}
use Rattle.adler.proofs.Adding.{octet_added}
use Rattle.adler.proofs.add_part.Goals as goal

pub loop-octet-preserved : goal.loop-octet-preserved
loop-octet-preserved c =
    let l = c.loop-octet in
    let octet = c.type_inv.s l.octet-index in (
      omega (arith, octet),
      omega (arith, octet),
      λ rest. l.invariant.2 rest ∙ octet_added c.args.s.now rest l.first l.second l.octet-index c.loop-octet-test.true,
    )
