-- What a received frame does: the piece is finished, grows or is given up, and the walk over the rest of the field passes whole packets (`Filled`).
use Prim.Native.Nat.{ℕ, ◌<◌}
use mathlib.Core.Path.{◌≡◌, ap, ◌∙◌}
use mathlib.Core.List.{List, [], ◌++◌, flatten}
use mathlib.Core.Bool.{Bool, true, false, cond, not, ◌&&◌}
use borrow.Author.Tests.{ne_eqb}
use lib.Dec.{eqb}
use lib.ListN.{length, take, drop}
use lib.Seq.{take-nil}
use Rattle.reading.specs.Reading.{refusal}
use Rattle.walk.specs.Walk.{end}
use Rattle.frames.specs.declared.Frames.{Frames}
use Rattle.pieces.specs.Pieces.{one_packet, unfinished, drops}
use Rattle.pieces.specs.Pieces as PiecesOf
use Rattle.frames.specs.Frames as frame
use Rattle.frames.specs.Frames.{out_of_step, idle_only, no_packet, finishes, grows, packets_out, piece_after}
use Rattle.recording.specs.Sent.{all}
use Rattle.recording.proofs.Filled.{passes, leaves}

-- there is a piece, and the frame is in step
abbrev pub in_step : Frames → ℕ → Bool
in_step state count = not (eqb state.piece 0) && not (out_of_step state count)

-- what the next frame finds of the packet that is being sent: the octets `kept`, if any, are the piece, and else there is none or it is given up
pub data Holds (state : Frames) (count : ℕ) (piece kept : List ℕ) : Type 0 where
  nothing : in_step state count ≡ false → kept ≡ [] → Holds state count piece kept
  something : in_step state count ≡ true → piece ≡ kept → 0 < length kept → Holds state count piece kept

-- what comes out, and the piece afterwards
pub record Took (state : Frames) (count pointer : ℕ) (field piece out after : List ℕ) : Type 0 where
  pub comes : packets_out state count pointer field piece ≡ out
  pub keeps : piece_after state count pointer field piece ≡ after

module _ (state : Frames) (count pointer : ℕ) (field piece : List ℕ) where
  abbrev is_joined : List ℕ
  is_joined = frame.joined state count pointer field piece

  -- without a piece that goes on, nothing is finished and nothing grows
  pub gives_up_lem : in_step state count ≡ false → (finishes state count pointer field piece ≡ false) × (grows state count pointer field piece ≡ false)
  unfolding finishes grows
  gives_up_lem e = (
    ap (λ g. g && not (eqb pointer idle_only) && one_packet is_joined) e,
    ap (λ g. g && not (eqb pointer idle_only) && eqb pointer no_packet && unfinished is_joined) e,
  )

  -- with one, that goes by what the piece and the octets before the pointer are
  module _ (e : in_step state count ≡ true) (p : pointer ≡ idle_only → ⊥) where
    pub by_joined :
        (finishes state count pointer field piece ≡ one_packet is_joined)
        × (grows state count pointer field piece ≡ eqb pointer no_packet && unfinished is_joined)
    unfolding finishes grows
    by_joined =
        let n = ne_eqb pointer idle_only p in (
          ap (λ g. g && not (eqb pointer idle_only) && one_packet is_joined) e ∙ simp n,
          ap (λ g. g && not (eqb pointer idle_only) && eqb pointer no_packet && unfinished is_joined) e ∙ simp n,
        )

  -- reading resumes at whole packets and the beginning of one
  module _ (done : List (List ℕ)) (left : List ℕ) (a : all one_packet done ≡ true) (stops : refusal left ≡ 1) (u : unfinished left ≡ true)
      (resumes : drop pointer field ≡ flatten done ++ left) where
    walked : take (end (drop pointer field)) (drop pointer field) ≡ flatten done
    walked = rw resumes (passes left stops done a)

    is_left : PiecesOf.left field pointer ≡ left
    is_left = rw resumes (leaves left stops done a)

    pub took : (b : Bool) → finishes state count pointer field piece ≡ b → grows state count pointer field piece ≡ false
        → Took state count pointer field piece (cond b is_joined [] ++ flatten done) left
    unfolding packets_out piece_after drops
    took b f g = record {
      comes = rw (f, walked);
      keeps = rw g (rw is_left (simp u));
    }

  -- with nothing after it, the longer piece
  module _ (nothing-ahead : drop pointer field ≡ []) (f : finishes state count pointer field piece ≡ false) (g : grows state count pointer field piece ≡ true) where
    pub grew : Took state count pointer field piece [] is_joined
    unfolding packets_out piece_after
    grew = record { comes = rw (f, nothing-ahead) (take-nil (end [])); keeps = rw g }
