-- The lane that comes of it is fine, so its tallies are possible and every sum fits.
use Rattle.std.proofs.Common.{arith, ◌∙◌}
use Rattle.lane.proofs.Fine.{is_fine}
use Rattle.intake.proofs.Ones.{as_one}
use Rattle.intake.proofs.taking.count_in.Goals as goal

pub overflow_add-result : goal.overflow_add-result
overflow_add-result c = let t = (is_fine _ c.requires).tallies in omega (arith, t.units, t.packets)

pub overflow_add-result-2 : goal.overflow_add-result-2
overflow_add-result-2 c = let t = (is_fine _ c.requires).tallies in omega (arith, t.packets)

pub overflow_add-result-3 : goal.overflow_add-result-3
overflow_add-result-3 c = let t = (is_fine _ c.requires).tallies in omega (arith, t.packets, t.missing, c.from.ensures)

pub overflow_add-result-4 : goal.overflow_add-result-4
overflow_add-result-4 c = let t = (is_fine _ c.requires).tallies in omega (arith, t.units, t.packets, c.from-2.ensures, as_one c.args.a.given_up)

pub returns : goal.returns
returns c = rw (c.from.ensures, c.from-2.ensures ∙ as_one c.args.a.given_up)
