-- The crate's code as the table that a program is linked from: wherever it is, and what it calls of other crates is, so is the code of each public function.
use mathlib.Core.Bool.{true}
use prog.Linked.{Tree, World, Holds, in_world}
use prog.LinkedThreads.{HasT}
use Rattle.frames.proofs.TheLink as Link
use Rattle.std.proofs.prelude.U32FromU8.from.Symbol as U32FromU8_from
use Rattle.std.proofs.prelude.UsizeFromBool.from.Symbol as UsizeFromBool_from
use Rattle.std.below.core.proofs.int.usize.min.Symbol as usize_min
use Rattle.std.proofs.prelude.ResultFromResidualErrResidual.from_residual.Symbol as ResultFromResidualErrResidual_from_residual
use Rattle.std.proofs.prelude.ResultTry.branch.Symbol as ResultTry_branch
use Rattle.pieces.proofs.judge_joined.Symbol as pieces_judge_joined
use Rattle.pieces.proofs.read_on.Symbol as pieces_read_on
use Rattle.putting.proofs.put_octets.Symbol as putting_put_octets
use Rattle.refusal.proofs.U8FromRefusal.from.Symbol as refusal_U8FromRefusal_from
use Rattle.frames.proofs.branmuslin_fresh_frames.Symbol as own_branmuslin_fresh_frames
use Rattle.frames.proofs.branmuslin_take_frame.Symbol as own_branmuslin_take_frame

pub table : Tree
table = Link.table

-- what it calls of other crates
abbrev pub Calls : World → Type 0
Calls W =
    HasT (in_world W) true U32FromU8_from.code ×
    (HasT (in_world W) true UsizeFromBool_from.code ×
    (HasT (in_world W) true usize_min.code ×
    (HasT (in_world W) true ResultFromResidualErrResidual_from_residual.code ×
    (HasT (in_world W) true ResultTry_branch.code ×
    (HasT (in_world W) true pieces_judge_joined.code ×
    (HasT (in_world W) true pieces_read_on.code ×
    (HasT (in_world W) true putting_put_octets.code ×
    (HasT (in_world W) true refusal_U8FromRefusal_from.code ×
    Unit {0}))))))))

pub has_branmuslin_fresh_frames : (W : World) → Holds W "frames" table → Calls W → HasT (in_world W) true own_branmuslin_fresh_frames.code
unfolding table
has_branmuslin_fresh_frames W here calls = Link.linked-frames::branmuslin_fresh_frames W here calls

pub has_branmuslin_take_frame : (W : World) → Holds W "frames" table → Calls W → HasT (in_world W) true own_branmuslin_take_frame.code
unfolding table
has_branmuslin_take_frame W here calls = Link.linked-frames::branmuslin_take_frame W here calls
