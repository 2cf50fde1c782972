-- The crate's code as the table that a program is linked from: wherever it is, and what it calls of other crates is, so is the code of each public function.
use mathlib.Core.Bool.{true}
use prog.Linked.{Tree, World, Holds, in_world}
use prog.LinkedThreads.{HasT}
use Rattle.state.proofs.TheLink as Link
use Rattle.std.below.core.proofs.bool.then_some.Symbol as bool_then_some
use Rattle.std.proofs.prelude.UsizeFromU16.from.Symbol as UsizeFromU16_from
use Rattle.std.proofs.prelude.UsizeSliceIndexRefSlice.pick.Symbol as UsizeSliceIndexRefSlice_pick
use Rattle.std.below.core.proofs.slice.slice+T.get.Symbol as slice_get
use Rattle.lane.proofs.is_fine.Symbol as lane_is_fine
use Rattle.lane.proofs.need_of.Symbol as lane_need_of
use Rattle.marks.proofs.blocks_for.Symbol as marks_blocks_for
use Rattle.marks.proofs.marks_match.Symbol as marks_marks_match
use Rattle.state.proofs.fresh_start.Symbol as own_fresh_start
use Rattle.state.proofs.is_sound.Symbol as own_is_sound
use Rattle.state.proofs.is_within.Symbol as own_is_within
use Rattle.state.proofs.is_unsound.Symbol as own_is_unsound

pub table : Tree
table = Link.table

-- what it calls of other crates
abbrev pub Calls : World → Type 0
Calls W =
    HasT (in_world W) true bool_then_some.code ×
    (HasT (in_world W) true UsizeFromU16_from.code ×
    (HasT (in_world W) true UsizeSliceIndexRefSlice_pick.code ×
    (HasT (in_world W) true slice_get.code ×
    (HasT (in_world W) true lane_is_fine.code ×
    (HasT (in_world W) true lane_need_of.code ×
    (HasT (in_world W) true marks_blocks_for.code ×
    (HasT (in_world W) true marks_marks_match.code ×
    Unit {0})))))))

pub has_fresh_start : (W : World) → Holds W "state" table → Calls W → HasT (in_world W) true own_fresh_start.code
unfolding table
has_fresh_start W here calls = Link.linked-state::fresh_start W here calls

pub has_is_sound : (W : World) → Holds W "state" table → Calls W → HasT (in_world W) true own_is_sound.code
unfolding table
has_is_sound W here calls = Link.linked-state::is_sound W here calls

pub has_is_within : (W : World) → Holds W "state" table → Calls W → HasT (in_world W) true own_is_within.code
unfolding table
has_is_within W here calls = Link.linked-state::is_within W here calls

pub has_is_unsound : (W : World) → Holds W "state" table → Calls W → HasT (in_world W) true own_is_unsound.code
unfolding table
has_is_unsound W here calls = Link.linked-state::is_unsound W here calls
