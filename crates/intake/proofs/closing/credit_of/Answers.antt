-- The tallies of a fine lane are possible, so the sum fits.
use Rattle.std.proofs.Common.{arith, ◌∙◌}
use Rattle.lane.proofs.Fine.{is_fine}
use Rattle.intake.proofs.Ones.{as_one}
use Rattle.intake.proofs.closing.credit_of.Goals as goal

pub overflow_add-result : goal.overflow_add-result
overflow_add-result c = let t = (is_fine _ c.requires).tallies in omega (arith, t.units, t.packets, c.from.ensures, as_one c.args.l.grouped)

pub returns : goal.returns
returns c = rw (c.from.ensures ∙ as_one c.args.l.grouped)
