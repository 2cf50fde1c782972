-- One store is a text of one octet, put where there is room.
use Rattle.std.proofs.Common.{[], ◌∷◌, ◌∙◌, arith}
use Rattle.octets.proofs.Puts.{stored_one, put_fits, not_put}
use Rattle.putting.proofs.put_octet.Goals as goal

pub returns-then-at-out : goal.returns-then-at-out
returns-then-at-out c =
    stored_one c.args.out.now c.args.at c.args.n c.if-at-out.true ∙ put_fits c.args.out.now c.args.at (c.args.n ∷ []) (omega arith)

pub returns-else-at-out : goal.returns-else-at-out
returns-else-at-out c = not_put c.args.out.now c.args.at (c.args.n ∷ []) (omega arith)
