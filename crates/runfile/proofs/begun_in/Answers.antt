-- The first octet decides; each field is what was read for it.
use Rattle.std.proofs.Common.{◌∙◌, sym, arith, Some}
use borrow.Author.Tests.{ne_eqb}
use Rattle.octets.specs.Octets.{octet}
use Rattle.runfile.specs.declared.Call.TheVariants.{Opening, Packet, Closing}
use Rattle.runfile.specs.Begun.{begun_in}
use Rattle.runfile.proofs.begun_in.Goals as goal

pub returns-in-79 : goal.returns-in-79
unfolding begun_in
returns-in-79 c = simp (sym c.octet_at.ensures ∙ c.in-79.is) (λ i. Some (Opening (c.octet_at-lane.ensures i) (c.settings_in.ensures i)))

pub returns-in-80 : goal.returns-in-80
unfolding begun_in
returns-in-80 c = simp (sym c.octet_at.ensures ∙ c.in-80.is) (λ i. Some (Packet (c.octet_at-lane.ensures i) (c.be32_at.ensures i) (c.be32_at-in-80.ensures i)))

pub returns-in-67 : goal.returns-in-67
unfolding begun_in
returns-in-67 c = simp (sym c.octet_at.ensures ∙ c.in-67.is) (λ i. Some (Closing (c.octet_at-lane.ensures i) (c.be32_at-in-67.ensures i)))

pub returns-in_default : goal.returns-in_default
unfolding begun_in
returns-in_default c =
    let kind = octet c.args.s.now 0 in
    let e = c.octet_at.ensures in
    simp (ne_eqb kind 79 (λ z. omega (arith, e)), ne_eqb kind 80 (λ z. omega (arith, e)), ne_eqb kind 67 (λ z. omega (arith, e)))
