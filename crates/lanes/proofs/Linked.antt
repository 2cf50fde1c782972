-- The crate's code as the table that a program is linked from: wherever it is, and what it calls of other crates is, so is the code of each public function.
use mathlib.Core.Bool.{true}
use prog.Linked.{Tree, World, Holds, in_world}
use prog.LinkedThreads.{HasT}
use Rattle.lanes.proofs.TheLink as Link
use Rattle.intake.proofs.close_lane.Symbol as intake_close_lane
use Rattle.intake.proofs.open_lane.Symbol as intake_open_lane
use Rattle.intake.proofs.take_packet.Symbol as intake_take_packet
use Rattle.refusal.proofs.U8FromRefusal.from.Symbol as refusal_U8FromRefusal_from
use Rattle.state.proofs.fresh_start.Symbol as state_fresh_start
use Rattle.state.proofs.is_sound.Symbol as state_is_sound
use Rattle.lanes.proofs.branmuslin_fresh_start.Symbol as own_branmuslin_fresh_start
use Rattle.lanes.proofs.branmuslin_is_sound.Symbol as own_branmuslin_is_sound
use Rattle.lanes.proofs.branmuslin_open_lane.Symbol as own_branmuslin_open_lane
use Rattle.lanes.proofs.branmuslin_take_packet.Symbol as own_branmuslin_take_packet
use Rattle.lanes.proofs.branmuslin_close_lane.Symbol as own_branmuslin_close_lane
use Rattle.lanes.proofs.NumberedFromAnswered.from.Symbol as own_NumberedFromAnswered_from

pub table : Tree
table = Link.table

-- what it calls of other crates
abbrev pub Calls : World → Type 0
Calls W =
    HasT (in_world W) true intake_close_lane.code ×
    (HasT (in_world W) true intake_open_lane.code ×
    (HasT (in_world W) true intake_take_packet.code ×
    (HasT (in_world W) true refusal_U8FromRefusal_from.code ×
    (HasT (in_world W) true state_fresh_start.code ×
    (HasT (in_world W) true state_is_sound.code ×
    Unit {0})))))

pub has_branmuslin_fresh_start : (W : World) → Holds W "lanes" table → Calls W → HasT (in_world W) true own_branmuslin_fresh_start.code
unfolding table
has_branmuslin_fresh_start W here calls = Link.linked-lanes::branmuslin_fresh_start W here calls

pub has_branmuslin_is_sound : (W : World) → Holds W "lanes" table → Calls W → HasT (in_world W) true own_branmuslin_is_sound.code
unfolding table
has_branmuslin_is_sound W here calls = Link.linked-lanes::branmuslin_is_sound W here calls

pub has_branmuslin_open_lane : (W : World) → Holds W "lanes" table → Calls W → HasT (in_world W) true own_branmuslin_open_lane.code
unfolding table
has_branmuslin_open_lane W here calls = Link.linked-lanes::branmuslin_open_lane W here calls

pub has_branmuslin_take_packet : (W : World) → Holds W "lanes" table → Calls W → HasT (in_world W) true own_branmuslin_take_packet.code
unfolding table
has_branmuslin_take_packet W here calls = Link.linked-lanes::branmuslin_take_packet W here calls

pub has_branmuslin_close_lane : (W : World) → Holds W "lanes" table → Calls W → HasT (in_world W) true own_branmuslin_close_lane.code
unfolding table
has_branmuslin_close_lane W here calls = Link.linked-lanes::branmuslin_close_lane W here calls

pub has_NumberedFromAnswered_from : (W : World) → Holds W "lanes" table → Calls W → HasT (in_world W) true own_NumberedFromAnswered_from.code
unfolding table
has_NumberedFromAnswered_from W here calls = Link.linked-lanes::NumberedFromAnswered::from W here calls
