-- What is put is the front of both (`front_of_piece`, `front_of_both`).
use Rattle.std.proofs.Common.{rules}
use Rattle.pieces.proofs.Parts.{front_of_piece, front_of_both}
use Rattle.pieces.proofs.fill_front.Goals as goal

pub returns-then-piece-ge-HEADER-clause-front_after : goal.returns-then-piece-ge-HEADER-clause-front_after
returns-then-piece-ge-HEADER-clause-front_after c =
    (front_of_piece c.args.piece.now c.args.lead.now c.args.front.now (search rules) c.if-piece-ge-HEADER.true c.put_octets.ensures).0

pub returns-clause-front_after : goal.returns-clause-front_after
returns-clause-front_after c =
    (front_of_both c.args.piece.now c.args.lead.now c.args.front.now (search rules) c.if-piece-ge-HEADER.false c.min-b.ensures c.put_octets-2.ensures c.put_octets-3.ensures).0

pub returns-clause-value : goal.returns-clause-value
returns-clause-value c =
    (front_of_both c.args.piece.now c.args.lead.now c.args.front.now (search rules) c.if-piece-ge-HEADER.false c.min-b.ensures c.put_octets-2.ensures c.put_octets-3.ensures).1
