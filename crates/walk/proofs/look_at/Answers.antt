-- The part from `at` on is what is left after dropping `at` octets; past the end that is nothing. The rest is `Looked`.
use Rattle.std.proofs.Common.{◌≡◌, List, ℕ, ◌-◌, ap, ◌∙◌, length, drop, take, length-drop, take_all, arith}
use Rattle.reading.specs.Reading.{reading}
use Rattle.walk.proofs.Looked.{finds_none, finds}
use Rattle.walk.proofs.look_at.Goals as goal

-- what is told of the part from index at to the end
rest : (s : List ℕ) (at : ℕ) → reading (take (length s - at) (drop at s)) ≡ reading (drop at s)
rest s at = ap reading (take_all (length s - at) (drop at s) (simp length-drop (omega arith)))

pub returns-then-s-at : goal.returns-then-s-at
returns-then-s-at c = finds_none c.args.s.now c.args.at c.if-s-at.true

pub returns : goal.returns
returns c =
    let s = c.args.s.now in
    let at = c.args.at in
    finds s at c.read_packet-read.result (c.read_packet-read.ensures ∙ rest s at) c.size_of.ensures
