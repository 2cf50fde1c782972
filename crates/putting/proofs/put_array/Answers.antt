-- Where there is room, the octets are put; where there is none, nothing is.
use Rattle.std.proofs.Common.{◌+◌, ◌∙◌, length}
use borrow.Author.Tests.{leb-true, leb-false}
use Rattle.octets.proofs.Puts.{put_fits, not_put}
use Rattle.putting.proofs.put_array.Goals as goal

pub returns-then-has_room : goal.returns-then-has_room
returns-then-has_room g c =
    let octets = c.args.octets in
    let out = c.args.out.now in
    c.put_one_by_one.ensures ∙ put_fits out c.args.at octets (leb-true (c.args.at + length octets) (length out) cc)

pub returns-else-has_room : goal.returns-else-has_room
returns-else-has_room g c =
    let octets = c.args.octets in
    let out = c.args.out.now in
    not_put out c.args.at octets (leb-false (c.args.at + length octets) (length out) cc)
