-- The single statement of the starred cases: every row is what the definitions give. The checker computes it.
use mathlib.Core.Path.{◌≡◌, refl}
use mathlib.Core.List.{map}
use Rattle.reading.specs.Places.{fault_at}
use Rattle.reading.specs.Reading.{header, size, reading_tests, refusal, fields, reading, content}
use Rattle.record.specs.Record.{possible}
use Rattle.marks.specs.Blocks.{blocks_for, find}
use Rattle.marks.specs.Matching.{found, holds, each_holds, count, sum, matching}
use Rattle.octets.specs.Octets.{one}
use Rattle.lane.specs.Lane.{need, illegal, tallies_possible, fine}
use Rattle.grouping.specs.Packets.{fault}
use Rattle.grouping.specs.Grouping.{repeats, missing_before, breaks, gives_up, goes_on}
use Rattle.grouping.specs.Plans.{unit_plan, grouping_plan, accepted_plan, packet_plan}
use Rattle.grouping.specs.Steps.{lane_after}
use Rattle.state.specs.State.{fresh_state, total, within, every, sound, unsound}
use Rattle.intake.specs.Calls.{opening_refusal, settle, packet_step}
use Rattle.intake.specs.After.{opening, taking, released_from, marks_after}
use Rattle.demands.specs.Runs.{after, run}
use Rattle.evidence.specs.Starred.{given, starred}

pub as_the_paper_says : map given starred ≡ starred
unfolding fault_at header size reading_tests refusal fields reading content possible blocks_for find found holds each_holds count sum matching one need illegal tallies_possible fine fault repeats missing_before breaks gives_up goes_on unit_plan grouping_plan accepted_plan packet_plan lane_after fresh_state total within every sound unsound opening_refusal settle packet_step opening taking released_from marks_after after run
as_the_paper_says = refl
