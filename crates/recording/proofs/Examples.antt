-- The examples: each is computed.
use Prim.{Unit, tt}
use mathlib.Core.Path.{◌≡◌, refl, sym, ap, ◌∙◌}
use mathlib.Core.List.{[], ◌∷◌, ◌++◌, flatten}
use mathlib.Core.Bool.{true, false}
use native.Mathlib.Omega.{arith}
use lib.ListN.{length, replicate}
use Rattle.octets.specs.Octets.{one}
use Rattle.octets.specs.Output.{put}
use Rattle.reading.specs.Places.{fault_at}
use Rattle.reading.specs.Reading.{header, size, reading_tests, fields, reading, refusal}
use Rattle.walk.specs.Walk.{places_from, end_from, places, end}
use Rattle.pieces.specs.Pieces.{one_packet, unfinished, drops}
use Rattle.frames.specs.Frames.{frame_refusal, finishes, grows, gives_up, packets_out, packets_count, piece_after, framed, buffer_after, out_after, taken_kind, repeat_kind}
use Rattle.recording.specs.Sent.{all, right_size, Fills, laid, to_next, pointer_of, idle_between, never_more, calls_of, came_of}
use Rattle.recording.specs.Received.{fresh, answer_to, output_of, handed_back, answers, outputs, none_refused, kinds_of, wholly}
use Rattle.recording.specs.Recording.{ComesThrough}
use Rattle.recording.specs.Examples.{empty, packet, longer, buffer, packets, frames, calls, two, too_many, few, three, broken, broken_calls, Examples}

-- what the checker opens to compute what reading a packet gives, and a run
unfoldable reads : Unit {0}
unfolding one put header size reading_tests fields reading refusal fault_at places_from end_from places end one_packet unfinished frame_refusal finishes grows gives_up drops
reads = tt

unfoldable running : Unit {0}
unfolding reads packets_out packets_count piece_after framed buffer_after out_after to_next pointer_of calls_of answer_to output_of handed_back answers outputs
running = tt

fills : Fills packets frames
unfolding running flatten laid idle_between
fills = record { packets = refl; sizes = refl; exactly = refl; between = refl }

never : never_more 0 frames ≡ true
unfolding never_more
never = refl

fills_two : Fills two too_many
unfolding running flatten laid idle_between
fills_two = record { packets = refl; sizes = refl; exactly = refl; between = refl }

more : never_more 0 too_many ≡ false
unfolding never_more
more = refl

unrefused : none_refused (answers (fresh buffer) calls) ≡ true
unfolding running
unrefused = refl

comes : outputs (fresh buffer) calls ≡ flatten (empty ∷ packet 5 ∷ packet 6 ∷ longer ∷ empty ∷ [])
unfolding running flatten
comes = refl

wholes : wholly packets (came_of frames) ≡ empty ∷ packet 5 ∷ packet 6 ∷ longer ∷ empty ∷ []
unfolding wholly came_of
wholes = refl

kinds : kinds_of frames ≡ taken_kind ∷ taken_kind ∷ repeat_kind ∷ replicate 5 taken_kind
unfolding kinds_of
kinds = refl

unrefused_two : none_refused (answers (fresh buffer) few) ≡ true
unfolding running
unrefused_two = refl

comes_two : outputs (fresh buffer) few ≡ packet 5
unfolding running
comes_two = refl

wholly_two : wholly two (came_of too_many) ≡ two
unfolding wholly came_of
wholly_two = refl

comes_not : ComesThrough two too_many few buffer → ⊥
unfolding flatten
comes_not c = omega (arith, ap length (sym comes_two ∙ c.packets ∙ ap flatten wholly_two))

filled_three : (all one_packet three ≡ true) × (all right_size broken ≡ true) × (laid broken ≡ flatten three)
unfolding running flatten laid
filled_three = (refl, refl, refl)

inside : idle_between three 0 broken ≡ false
unfolding running idle_between
inside = refl

never_three : never_more 0 broken ≡ true
unfolding never_more
never_three = refl

unrefused_three : none_refused (answers (fresh buffer) broken_calls) ≡ true
unfolding running
unrefused_three = refl

comes_three : outputs (fresh buffer) broken_calls ≡ packet 5 ++ packet 7
unfolding running
comes_three = refl

wholly_three : wholly three (came_of broken) ≡ three
unfolding wholly came_of
wholly_three = refl

gives_up_lem : ComesThrough three broken broken_calls buffer → ⊥
unfolding flatten
gives_up_lem c = omega (arith, ap length (sym comes_three ∙ c.packets ∙ ap flatten wholly_three))

pub examples : Examples
examples = record {
  fills = fills;
  never = never;
  unrefused = unrefused;
  comes = comes;
  wholes = wholes;
  kinds = kinds;
  fills_two = fills_two;
  more = more;
  unrefused_two = unrefused_two;
  comes_not = comes_not;
  filled_three = filled_three;
  inside = inside;
  never_three = never_three;
  unrefused_three = unrefused_three;
  gives_up = gives_up_lem;
}
