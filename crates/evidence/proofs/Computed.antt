-- What the checker opens to compute a call, a run, and a lane's past: whoever unfolds `calling` unfolds all that its own line names, and so on.
use Prim.{Unit, tt}
use Rattle.octets.specs.Octets.{one}
use Rattle.octets.specs.Output.{put, output_after}
use Rattle.reading.specs.Places.{fault_at}
use Rattle.reading.specs.Reading.{header, size, reading_tests, reading, refusal, place as place_in, content}
use Rattle.writing.specs.Space.{space_octets}
use Rattle.record.specs.Record.{possible, record_octets}
use Rattle.marks.specs.Blocks.{blocks_for, find, granted, freed_mark}
use Rattle.marks.specs.Matching.{found, holds, each_holds, count, sum, matching}
use Rattle.pool.specs.Octets.{place, stored, gathered}
use Rattle.lane.specs.Lane.{need, illegal, tallies_possible, fine}
use Rattle.grouping.specs.Packets.{fault, user_data}
use Rattle.grouping.specs.Grouping.{repeats, missing_before, breaks, gives_up, goes_on}
use Rattle.grouping.specs.Plans.{hold_plan, unit_plan, grouping_plan, accepted_plan, packet_plan}
use Rattle.grouping.specs.Steps.{lane_after}
use Rattle.state.specs.State.{fresh_state, total, within, every, sound, unsound}
use Rattle.intake.specs.Calls.{opening_refusal, closing_refusal, settle, packet_step}
use Rattle.intake.specs.After.{opening, closing, closing_out, released_from, grown, marks_after, pool_after, group_of, out_after, taking, taking_pool, taking_out}
use Rattle.rule.specs.Rule as rule
use Rattle.calls.specs.Order.{would_group, would_write}
use Rattle.demands.specs.Runs.{reply, after, run, replies, own, replies_to}
use Rattle.demands.specs.Past.{past_from}

unfoldable pub calling : Unit {0}
unfolding one put output_after header size reading_tests fault_at reading refusal place_in content space_octets possible record_octets blocks_for find granted freed_mark found holds each_holds count sum matching place stored gathered need illegal tallies_possible fine fault user_data repeats missing_before breaks gives_up goes_on hold_plan unit_plan grouping_plan accepted_plan packet_plan lane_after fresh_state total within every sound unsound opening_refusal closing_refusal settle packet_step opening closing closing_out released_from grown marks_after pool_after group_of out_after taking taking_pool taking_out
calling = tt

unfoldable pub running : Unit {0}
unfolding calling reply after run replies own replies_to
running = tt

unfoldable pub remembering : Unit {0}
unfolding running past_from would_group would_write rule.accepted rule.repeats rule.missing rule.breaks rule.group rule.unit rule.gives_up rule.answer_to rule.endings rule.missing_in_all rule.broken rule.last_count
remembering = tt
