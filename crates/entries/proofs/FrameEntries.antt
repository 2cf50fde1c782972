-- A frame meets demand 1: its order gives the number of the definition, and a refusal leaves state, buffer and output (frames: `Answers`).
use mathlib.Core.Path.{◌≡◌, refl, ◌∙◌}
use lib.ListN.{length}
use Rattle.frames.specs.declared.Framed.{Framed}
use Rattle.frames.specs.Frames.{frame_refusal}
use Rattle.frames.proofs.Answers.{refusal_told, refused_leaves}
use Rattle.entries.specs.Entry.{number_for, Asked}
use Rattle.entries.specs.Entries.{fresh_start_of_frames_entry, Framing, framing_of, told_framed, take_frame_entry}
use Rattle.entries.proofs.Refusals.{Ordered, demand}
use Rattle.entries.proofs.EachEntry.{one_fixes}

pub starts_frames : Asked fresh_start_of_frames_entry
starts_frames = demand fresh_start_of_frames_entry (λ g. (tt, refl)) (λ g. refl) (λ a b same. refl) (λ g refused. refl)

told_so : (g : Framing) → number_for take_frame_entry g ≡ frame_refusal g.state g.count g.pointer (length g.field) (length g.piece) (length g.out)
told_so g = refusal_told g.state g.count g.pointer g.field g.piece g.out

ordered : Ordered take_frame_entry
unfolding frame_refusal
ordered g = told_so g

left_if_refused : (g : Framing) → (number_for take_frame_entry g ≡ 0 → ⊥) → take_frame_entry.leaves g ≡ take_frame_entry.before g
left_if_refused g refused =
    let left = refused_leaves g.state g.count g.pointer g.field g.piece g.out (λ z. refused (told_so g ∙ z)) in
    λ i. (left.0 i, left.1 i, left.2 i)

pub takes_frame : Asked take_frame_entry
takes_frame = demand take_frame_entry (λ g. (told_framed (framing_of g), refl)) ordered (λ a b same. same) left_if_refused

-- the numbers and the state fix the whole
pub same_framed : (a b : Framed) → told_framed a ≡ told_framed b → a.state ≡ b.state → a ≡ b
same_framed a b same state =
    let refusal : a.refusal ≡ b.refusal = cc in
    let kind : a.kind ≡ b.kind = cc in
    let givenUp : a.given_up ≡ b.given_up = one_fixes a.given_up b.given_up (cc) in
    let dropped : a.dropped ≡ b.dropped = one_fixes a.dropped b.dropped (cc) in
    let packets : a.packets ≡ b.packets = cc in
    let octets : a.octets ≡ b.octets = cc in
    λ i. record { refusal = refusal i; kind = kind i; given_up = givenUp i; dropped = dropped i; packets = packets i; octets = octets i; state = state i }
