-- One call that is not refused: a frame that is no repeat is taken, and a repeat changes nothing.
use Prim.Native.Nat.{ℕ}
use mathlib.Core.Path.{◌≡◌, ap}
use mathlib.Core.List.{List, []}
use mathlib.Core.Bool.{true, false, not}
use native.Mathlib.Omega.{arith}
use borrow.Author.Tests.{eqb-false}
use lib.Dec.{eqb}
use lib.ListN.{length, take}
use lib.Seq.{take-append_seam}
use Rattle.octets.specs.Output.{put}
use Rattle.octets.proofs.Order.{either}
use Rattle.frames.specs.Frames as frame
use Rattle.frames.specs.Frames.{frame_refusal, repeats, packets_out, piece_after, taken_kind, repeat_kind, untaken, framed, buffer_after, out_after}
use Rattle.recording.specs.Sent.{Call}
use Rattle.recording.specs.Received.{Receiver, answer_to, output_of, handed_back}

module _ (r : Receiver) (c : Call) (unrefused : (answer_to r c).refusal ≡ 0) where
  abbrev refused_with : ℕ
  refused_with = frame_refusal r.state c.count c.pointer (length c.field) (length r.buffer) (length c.out)

  abbrev piece_of : List ℕ
  piece_of = take r.state.piece r.buffer

  no_refusal : eqb refused_with 0 ≡ true
  unfolding answer_to framed
  no_refusal = either (eqb refused_with 0) (λ e. e) (λ e. absurd (eqb-false refused_with 0 e (simp e at unrefused)))

  -- no repeat: taken
  module _ (anew : repeats r.state c.count ≡ false) where
    is_taken : answer_to r c ≡ frame.taken r.state c.count c.pointer c.field r.buffer
    unfolding answer_to framed
    is_taken = simp (no_refusal, anew)

    pub kind_taken : (answer_to r c).kind ≡ taken_kind
    kind_taken = ap (λ a. a.kind) is_taken

    pub comes_out : output_of r c ≡ packets_out r.state c.count c.pointer c.field piece_of
    unfolding output_of answer_to out_after put
    comes_out = rw is_taken (take-append_seam _ _)

    pub hands_back : handed_back r c ≡ record {
      state = record { started = true; count = c.count; piece = length (piece_after r.state c.count c.pointer c.field piece_of) };
      buffer = put r.buffer 0 (piece_after r.state c.count c.pointer c.field piece_of);
    }
    unfolding handed_back answer_to buffer_after
    hands_back = rw is_taken

  -- a repeat
  module _ (again : repeats r.state c.count ≡ true) where
    is_repeat : answer_to r c ≡ untaken 0 repeat_kind r.state
    unfolding answer_to framed
    is_repeat = simp (no_refusal, again)

    pub kind_repeat : (answer_to r c).kind ≡ repeat_kind
    kind_repeat = ap (λ a. a.kind) is_repeat

    pub nothing_out : output_of r c ≡ []
    unfolding output_of answer_to out_after
    nothing_out = rw is_repeat

    pub nothing_changes : handed_back r c ≡ r
    unfolding handed_back answer_to buffer_after
    nothing_changes = rw is_repeat

-- whatever is answered repeat leaves everything
pub repeat_leaves : (r : Receiver) (c : Call) → (answer_to r c).kind ≡ repeat_kind
    → (handed_back r c ≡ r) × (out_after r.state c.count c.pointer c.field r.buffer c.out ≡ c.out)
unfolding answer_to handed_back framed buffer_after out_after
repeat_leaves r c e =
    either (not (eqb (frame_refusal r.state c.count c.pointer (length c.field) (length r.buffer) (length c.out)) 0))
    (λ t. absurd (omega (arith, simp t at e)))
    (λ f. either (repeats r.state c.count) (λ t. (simp (f, t), simp (f, t))) (λ n. absurd (omega (arith, simp (f, n) at e))))
