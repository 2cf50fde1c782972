-- What is left to put from here is what was to put at the start.
use Rattle.std.proofs.Common.{◌≡◌, length, drop}
use Rattle.text.specs.Text.{numbers}
use Rattle.text.specs.Written.{reached, written}
use Rattle.text.proofs.put_numbers.Given as goal

abbrev pub invariant-loop-n : goal.invariant-loop-n
invariant-loop-n l =
    (reached (length l.fn.out) l.at (numbers l.ns) ≡ reached (length l.out) l.to (numbers (drop l.n-index l.ns)))
    × (written l.fn.out l.at (numbers l.ns) ≡ written l.out l.to (numbers (drop l.n-index l.ns)))
