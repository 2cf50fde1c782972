-- Where there is room, each of the two ways puts the text; where there is none, nothing is put.
use Rattle.std.proofs.Common.{◌+◌, ◌∙◌, length}
use borrow.Author.Tests.{leb-true, leb-false}
use Rattle.octets.proofs.Puts.{put_fits, not_put}
use Rattle.putting.proofs.put_octets.Goals as goal

pub returns-then-text-le-AT_ONCE : goal.returns-then-text-le-AT_ONCE
returns-then-text-le-AT_ONCE c =
    let text = c.args.text.now in
    let out = c.args.out.now in
    c.put_at_once.ensures ∙ put_fits out c.args.at text (leb-true (c.args.at + length text) (length out) cc)

pub returns-else-text-le-AT_ONCE : goal.returns-else-text-le-AT_ONCE
returns-else-text-le-AT_ONCE c =
    let text = c.args.text.now in
    let out = c.args.out.now in
    c.put_one_by_one.ensures ∙ put_fits out c.args.at text (leb-true (c.args.at + length text) (length out) cc)

pub returns-else-has_room : goal.returns-else-has_room
returns-else-has_room c =
    let text = c.args.text.now in
    let out = c.args.out.now in
    not_put out c.args.at text (leb-false (c.args.at + length text) (length out) cc)
