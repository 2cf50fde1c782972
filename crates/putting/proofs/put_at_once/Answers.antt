-- What is copied to the front of the array is what it begins with, and that is put into the part.
use Rattle.std.proofs.Common.{◌+◌, ◌-◌, ◌∙◌, ap, length}
use borrow.Rule.Slice.PartMut.{put_mid}
use Rattle.putting.proofs.Part.{put_part, front}
use Rattle.putting.proofs.put_at_once.Goals as goal

pub returns : goal.returns
returns c =
    let text = c.args.text.now in
    let out = c.args.out.now in
    let at = c.args.at in
    ap (put_mid at (at + length text - at) out) (c.copy_from_slice-2.ensures.after ∙ front text _ _ c.copy_from_slice.ensures.after) ∙ put_part out text at c.requires.0
