-- Past both tests the octets are gathered in runs; where one fails, nothing is.
use Rattle.pool.proofs.Guards.{is_gathered}
use Rattle.pool.proofs.gather_octets.Goals as goal

pub returns-clause-value : goal.returns-clause-value
returns-clause-value c =
    let same = is_gathered c.args.marks c.args.lane c.args.pool.now c.args.n c.args.out.now c.if-out-n.false c.if-n-gt-POOL_OCTETS.false in
    rw same at c.gather_runs.ensures.value

pub returns-clause-out_after : goal.returns-clause-out_after
returns-clause-out_after c =
    let same = is_gathered c.args.marks c.args.lane c.args.pool.now c.args.n c.args.out.now c.if-out-n.false c.if-n-gt-POOL_OCTETS.false in
    rw same at c.gather_runs.ensures.out_after
