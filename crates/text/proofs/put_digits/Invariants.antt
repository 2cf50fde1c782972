-- Where the digits that are left are put before those that are there already, the number is put.
use Rattle.text.specs.Text.{decimal}
use Rattle.text.proofs.LastFirst.{Left}
use Rattle.text.proofs.put_digits.Given as goal

abbrev pub invariant-loop-to : goal.invariant-loop-to
invariant-loop-to l = Left (decimal l.n) l.at l.fn.out l.left l.out l.to
