-- The group that goes on is gathered; of none there is nothing to put (`Carried`).
use Rattle.intake.proofs.Carried.{group_gathered, no_group}
use Rattle.intake.proofs.taking.put_group.Goals as goal

pub returns-then-joins-clause-value : goal.returns-then-joins-clause-value
returns-then-joins-clause-value c =
    let s = c.args in
    rw (← group_gathered s.marks s.own.number s.own.lane s.joins s.pool.now s.out.now c.if-joins.true c.requires.1 c.requires.2) c.gather_octets.ensures.value

pub returns-then-joins-clause-out_after : goal.returns-then-joins-clause-out_after
returns-then-joins-clause-out_after c =
    let s = c.args in
    rw (← group_gathered s.marks s.own.number s.own.lane s.joins s.pool.now s.out.now c.if-joins.true c.requires.1 c.requires.2) c.gather_octets.ensures.out_after

pub returns-clause-value : goal.returns-clause-value
returns-clause-value c = (no_group c.args.marks c.args.own.number c.args.own.lane c.args.joins c.args.pool.now c.args.out.now c.if-joins.false).0

pub returns-clause-out_after : goal.returns-clause-out_after
returns-clause-out_after c = (no_group c.args.marks c.args.own.number c.args.own.lane c.args.joins c.args.pool.now c.args.out.now c.if-joins.false).1
