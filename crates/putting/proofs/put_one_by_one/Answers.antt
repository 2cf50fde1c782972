-- What is copied into the part, with what lies before and after it, is the text put there.
use Rattle.std.proofs.Common.{◌+◌, ◌-◌, ◌∙◌, ap, length}
use borrow.Rule.Slice.PartMut.{put_mid}
use Rattle.putting.proofs.Part.{put_part}
use Rattle.putting.proofs.put_one_by_one.Goals as goal

pub returns : goal.returns
returns c =
    let text = c.args.text.now in
    let out = c.args.out.now in
    let at = c.args.at in
    ap (put_mid at (at + length text - at) out) c.copy_from_slice.ensures.after ∙ put_part out text at c.requires
