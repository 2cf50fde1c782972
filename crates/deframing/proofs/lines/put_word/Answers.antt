-- The line is short.
use Rattle.std.proofs.Common.{arith}
use Rattle.text.specs.Text.{ascii}
use Rattle.telling.proofs.Short.{small, line_short}
use Rattle.deframing.proofs.lines.put_word.Goals as goal

pub returns-clause-short : goal.returns-clause-short
returns-clause-short c =
    let a = c.args in
    line_short a.at (ascii " frame") a.count a.word.now a.ns.now (omega arith) (omega arith) (omega arith) (omega (arith, c.requires))
    (small a.ns.now (λ k. omega (arith, c.type_inv.ns k))) (omega (arith, c.requires))
