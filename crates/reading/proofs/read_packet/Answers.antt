-- No octets and an unknown version are refused here; the rest is what the two kinds' readers tell.
use Rattle.std.proofs.Common.{◌≡◌, length, sym, ap, ◌∙◌, arith}
use Rattle.std.proofs.lemmas.Bool.{eqb-true, eqb-false}
use Rattle.packet.specs.Told.{told}
use Rattle.reading.specs.Places.{fault_at}
use Rattle.reading.specs.Causes.{no_octets, no_version}
use Rattle.reading.proofs.Exactly.{refused}
use Rattle.reading.proofs.read_packet.Goals as goal

pub returns-then-is_empty : goal.returns-then-is_empty
unfolding fault_at
returns-then-is_empty c =
    let s = c.args.s.now in
    let none : length s ≡ 0 = eqb-true _ _ (sym c.is_empty.ensures ∙ c.if-is_empty.true) in
    ap told c.refused.ensures ∙ (rw none at (refused {s = s} (no_octets none)))

pub returns-in_default : goal.returns-in_default
unfolding fault_at
returns-in_default c =
    let some = eqb-false _ _ (sym c.is_empty.ensures ∙ c.if-is_empty.false) in
    let first = c.octet_at.ensures in
    ap told c.refused-in_default.ensures ∙ refused
    (no_version (omega (arith, some)) (λ e. omega (arith, first, e, c.in_default)) (λ e. omega (arith, first, e, c.in_default)))
