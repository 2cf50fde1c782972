-- What there is room for is put.
use Rattle.std.proofs.Common.{◌≡◌, ◌-◌, min, ◌∙◌, length, length-take, arith}
use Rattle.text.specs.Written.{reached, fitting}
use Rattle.text.proofs.Cut.{cut}
use Rattle.text.proofs.put.Goals as goal

pub returns-clause-value : goal.returns-clause-value
unfolding reached fitting
returns-clause-value c =
    omega (arith, c.min-count.ensures, c.saturating_sub.ensures, length-take (length c.args.out.now - c.args.at) c.args.text.now)

pub returns-clause-out_after : goal.returns-clause-out_after
returns-clause-out_after c =
    let e : c.min-count.result ≡ min (length c.args.text.now) (length c.args.out.now - c.args.at) = cc in
    c.put_octets.ensures ∙ cut c.args.out.now c.args.at c.args.text.now e
