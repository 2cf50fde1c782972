-- By the version.
use Rattle.std.proofs.Common.{sym, ap, ◌∙◌, arith}
use Rattle.std.proofs.lemmas.Result.{err_from_is_err_and}
use Rattle.refusal.specs.Refusal.{number}
use Rattle.reading.specs.Causes.{no_octets, no_version}
use Rattle.reading.proofs.Exactly.{gives}
use Rattle.pieces.proofs.refusing.check.Goals as goal

pub returns-in_err-needs : goal.returns-in_err-needs
returns-in_err-needs c =
    let p = err_from_is_err_and c.from_residual.result c.from_residual.ensures.1 in
    rw (p.1, p.2) (ap number c.in_err-needs.ensures.0 ∙ sym (gives (no_octets (omega (arith, c.in_err-needs.ensures.1)))))

pub returns-in_default : goal.returns-in_default
returns-in_default c =
    let first = c.octet_at.ensures in
    sym (gives (no_version (omega (arith, c.in_ok-needs.ensures)) (λ e. omega (arith, first, e)) (λ e. omega (arith, first, e))))
