-- The promise, by induction over the frames: what the sender has sent of a packet and what the receiver has of it go together (`Sending`), frame by frame.
use Prim.Native.Nat.{ℕ, ◌+◌, ◌%◌, ◌<◌}
use mathlib.Core.Path.{◌≡◌, refl, sym, ap, ◌∙◌}
use mathlib.Core.List.{List, [], ◌∷◌, ◌++◌, append-nil, map, flatten}
use mathlib.Core.Bool.{Bool, true, not, ◌||◌}
use native.Mathlib.Omega.{arith}
use native.Mathlib.Nat.{add-zero, add_assoc}
use borrow.Author.Tests.{eq-eqb, eqb-true, ltb-true, leb-true}
use lib.Dec.{eqb, ltb, leb}
use lib.ListN.{length, take, replicate, length-append}
use Rattle.octets.specs.Output.{put}
use Rattle.octets.proofs.Order.{both}
use Rattle.pieces.specs.Pieces.{one_packet}
use Rattle.frames.specs.Frames.{shortest_field, longest_field, frame_counts, repeats, taken_kind, repeat_kind}
use Rattle.recording.specs.Sent.{all, Sent, Fills, received, carried, laid, to_next, pointer_of, right_size, idle_between, most_lost, never_more, Call, calls_of, came_of}
use Rattle.recording.specs.Received.{Receiver, fresh, answer_to, handed_back, answers, outputs, none_refused, kinds_of, wholly}
use Rattle.recording.specs.Recording.{ComesThrough}
use Rattle.recording.proofs.Beginnings.{is_packet}
use Rattle.recording.proofs.Stands.{Stands, going_at_start, inside}
use Rattle.recording.proofs.Taking.{Took}
use Rattle.recording.proofs.Steps.{kept, carried_by, Step, flatten_append, step}
use Rattle.recording.proofs.Calls.{kind_taken, comes_out, hands_back, kind_repeat, nothing_out, nothing_changes}
use Rattle.recording.proofs.Ready.{Ready, waits, anew, holds, ready_lost, ready_next}

-- ---- a frame that comes again
abbrev kinds_in : Receiver → List Call → List ℕ
kinds_in r calls = map (λ a. a.kind) (answers r calls)

module _ (r : Receiver) (call : List ℕ → Call) (again : (out : List ℕ) → repeats r.state (call out).count ≡ true) (calls : List Call) where
  pub record Unchanged (outs : List (List ℕ)) : Type 0 where
    pub same_out : outputs r (map call outs ++ calls) ≡ outputs r calls
    pub repeated : kinds_in r (map call outs ++ calls) ≡ replicate (length outs) repeat_kind ++ kinds_in r calls
    pub unrefused : none_refused (answers r calls) ≡ true

  pub unchanged : (outs : List (List ℕ)) → none_refused (answers r (map call outs ++ calls)) ≡ true → Unchanged outs
  unfolding answers outputs
  unchanged [] u = record { same_out = refl; repeated = refl; unrefused = u }
  unchanged (out ∷ outs) u =
      let (u₀, more) = both (eqb (answer_to r (call out)).refusal 0) _ u in
      let e = eqb-true _ 0 u₀ in
      let n = nothing_changes r (call out) e (again out) in
      let w = unchanged outs (rw n at more) in
      record {
        same_out = rw (nothing_out r (call out) e (again out), n) w.same_out;
        repeated = rw (kind_repeat r (call out) e (again out), n) (ap (λ l. repeat_kind ∷ l) w.repeated);
        unrefused = w.unrefused;
      }

-- ---- the frames from some frame on
module _ (ps : List (List ℕ)) where
  pub record Sending (frames : List Sent) (at count lost : ℕ) (r : Receiver) (rest : List (List ℕ)) (sent : List ℕ) (came : List Bool) : Type 0 where
    pub stands : Stands rest sent
    pub packets : all one_packet rest ≡ true
    pub long : length came ≡ length sent
    pub later_on : sent ++ laid frames ≡ flatten rest
    pub nexts : (n : ℕ) → to_next ps (at + n) ≡ to_next rest (length sent + n)
    pub sizes : all right_size frames ≡ true
    pub between : idle_between ps at frames ≡ true
    pub never : never_more lost frames ≡ true
    pub in_range : count < frame_counts
    pub ready : Ready r.state r.buffer count lost (kept came sent)

  abbrev Goes : List Sent → List Call → Receiver → List (List ℕ) → List Bool → Type 0
  Goes frames calls r rest came = (outputs r calls ≡ flatten (wholly rest (came ++ came_of frames))) × (kinds_in r calls ≡ kinds_of frames)

  abbrev Law : List Sent → Type 0
  Law frames =
      (at count lost : ℕ) (r : Receiver) (rest : List (List ℕ)) (sent : List ℕ) (came : List Bool) → Sending frames at count lost r rest sent came
      → none_refused (answers r (calls_of ps at count frames)) ≡ true → Goes frames (calls_of ps at count frames) r rest came

  -- no frames more: no packets more
  no_more : (rest : List (List ℕ)) (sent : List ℕ) → Stands rest sent → all one_packet rest ≡ true → sent ++ [] ≡ flatten rest → rest ≡ []
  unfolding flatten
  no_more [] sent s a e = refl
  no_more (p ∷ more) sent (going_at_start z) a e =
      absurd (omega (arith, (is_packet p (both (one_packet p) _ a).0).some, length-append p (flatten more), ap length e, ap length (append-nil sent), ap length z))
  no_more (p ∷ more) sent (inside b ps q some cut) a e =
      absurd (omega (arith, ap (λ l. length (flatten l)) q, length-append (sent ++ b) (flatten ps), length-append sent b, ap length e, ap length (append-nil sent)))

  -- ---- a frame, and those after it
  module _ (idle : Bool) (field : List ℕ) (frames : List Sent) (law : Law frames) where
    abbrev frame_of : List (List ℕ) → Sent
    frame_of lent = record { idle = idle; field = field; lent = lent }

    module _ (lent : List (List ℕ)) (at count lost : ℕ) (r : Receiver) (rest : List (List ℕ)) (sent : List ℕ) (came : List Bool)
        (s : Sending (frame_of lent ∷ frames) at count lost r rest sent came) where
      abbrev later : ℕ
      later = at + length (carried (frame_of lent))

      here : to_next ps at ≡ to_next rest (length sent)
      here = ap (to_next ps) (sym (add-zero at)) ∙ s.nexts 0 ∙ ap (to_next rest) (add-zero (length sent))

      stepped : Step idle (received (frame_of lent)) field rest sent came (laid frames)
      unfolding laid idle_between
      stepped =
          let (z, more) = both (right_size (frame_of lent)) (all right_size frames) s.sizes in
          let (a, b) = both (leb shortest_field (length field)) (leb (length field) longest_field) z in
          let (i, m) = both (not idle || eqb (to_next ps at) 0) (idle_between ps later frames) s.between in
          step (received (frame_of lent)) field rest sent came (laid frames) s.packets s.long (omega (arith, leb-true shortest_field (length field) a))
          (leb-true (length field) longest_field b) idle s.stands (λ e. sym here ∙ eqb-true (to_next ps at) 0 (simp e at i)) s.later_on

      -- what holds afterwards
      sending : (r' : Receiver) (lost' : ℕ) → never_more lost' frames ≡ true
          → Ready r'.state r'.buffer ((count + 1) % frame_counts) lost' (kept stepped.came' stepped.sent')
          → Sending frames later ((count + 1) % frame_counts) lost' r' stepped.rest' stepped.sent' stepped.came'
      unfolding idle_between
      sending r' lost' never ready = record {
        stands = stepped.stands;
        packets = stepped.packets;
        long = stepped.long;
        later_on = stepped.later_on;
        nexts = λ n.
            ap (to_next ps) (add_assoc at (length (carried_by idle field)) n) ∙ s.nexts (length (carried_by idle field) + n) ∙ stepped.nexts n;
        sizes = (both (right_size (frame_of lent)) (all right_size frames) s.sizes).1;
        between = (both (not idle || eqb (to_next ps at) 0) (idle_between ps later frames) s.between).1;
        never = never;
        in_range = omega arith;
        ready = ready;
      }

    -- it is lost
    lost_on : (at count lost : ℕ) (r : Receiver) (rest : List (List ℕ)) (sent : List ℕ) (came : List Bool)
        → Sending (frame_of [] ∷ frames) at count lost r rest sent came → none_refused (answers r (calls_of ps at count (frame_of [] ∷ frames))) ≡ true
        → Goes (frame_of [] ∷ frames) (calls_of ps at count (frame_of [] ∷ frames)) r rest came
    unfolding calls_of never_more came_of kinds_of
    lost_on at count lost r rest sent came s u =
        let w = stepped [] at count lost r rest sent came s in
        let (h, never) = both (ltb lost most_lost) (never_more (lost + 1) frames) s.never in
        let ready = ready_lost s.ready (ltb-true lost most_lost h) (w.lost refl).1 in
        let (o, k) = law (later [] at count lost r rest sent came s) ((count + 1) % frame_counts) (lost + 1) r w.rest' w.sent' w.came'
        (sending [] at count lost r rest sent came s r (lost + 1) never ready) u in
        (o ∙ sym (ap flatten (w.wholes (came_of frames) ∙ ap (λ l. l ++ wholly w.rest' (w.came' ++ came_of frames)) (w.lost refl).0)), k)

    -- it is received, and as often again as it has outputs more
    module _ (out : List ℕ) (outs : List (List ℕ)) (at count lost : ℕ) (r : Receiver) (rest : List (List ℕ)) (sent : List ℕ) (came : List Bool)
        (s : Sending (frame_of (out ∷ outs) ∷ frames) at count lost r rest sent came) where
      abbrev call : List ℕ → Call
      call o = record { count = count; pointer = pointer_of ps at (frame_of (out ∷ outs)); field = field; out = o }

      abbrev calls : List Call
      calls = calls_of ps (later (out ∷ outs) at count lost r rest sent came s) ((count + 1) % frame_counts) frames

      abbrev w : Step idle true field rest sent came (laid frames)
      w = stepped (out ∷ outs) at count lost r rest sent came s

      did : Took r.state count (call out).pointer field (take r.state.piece r.buffer) (flatten w.out) (kept w.came' w.sent')
      unfolding pointer_of
      did = rw (here (out ∷ outs) at count lost r rest sent came s) (w.taken refl r.state count (take r.state.piece r.buffer) (holds s.ready))

      abbrev after : Receiver
      after = record {
        state = record { started = true; count = count; piece = length (kept w.came' w.sent') };
        buffer = put r.buffer 0 (kept w.came' w.sent');
      }

      received_on : none_refused (answers r (call out ∷ (map call outs ++ calls))) ≡ true
          → Goes (frame_of (out ∷ outs) ∷ frames) (call out ∷ (map call outs ++ calls)) r rest came
      unfolding answers outputs never_more came_of kinds_of
      received_on u =
          let (u₀, more) = both (eqb (answer_to r (call out)).refusal 0) (none_refused (answers (handed_back r (call out)) (map call outs ++ calls))) u in
          let e = eqb-true (answer_to r (call out)).refusal 0 u₀ in
          let new = anew s.ready in
          let b : handed_back r (call out) ≡ after =
          hands_back r (call out) e new
          ∙ ap (λ l. record { state = record { started = true; count = count; piece = length l }; buffer = put r.buffer 0 l }) did.keeps in
          let x = unchanged after call (λ o. eq-eqb count count refl) calls outs (rw b at more) in
          let (o, k) = law (later (out ∷ outs) at count lost r rest sent came s) ((count + 1) % frame_counts) 0 after w.rest' w.sent' w.came'
          (sending (out ∷ outs) at count lost r rest sent came s after 0 s.never
          (ready_next r.buffer count (kept w.came' w.sent') s.in_range)) x.unrefused in (
            rw (comes_out r (call out) e new, did.comes, b)
                (ap (λ l. flatten w.out ++ l) (x.same_out ∙ o)
                ∙ sym (flatten_append w.out (wholly w.rest' (w.came' ++ came_of frames))) ∙ sym (ap flatten (w.wholes (came_of frames)))),
            rw (kind_taken r (call out) e new, b) (ap (λ l. taken_kind ∷ l) (x.repeated ∙ ap (λ l. replicate (length outs) repeat_kind ++ l) k)),
          )

    one_frame : (lent : List (List ℕ)) → Law (frame_of lent ∷ frames)
    unfolding calls_of
    one_frame [] at count lost r rest sent came s u = lost_on at count lost r rest sent came s u
    one_frame (out ∷ outs) at count lost r rest sent came s u = received_on out outs at count lost r rest sent came s u

  all_frames : (frames : List Sent) → Law frames
  unfolding calls_of answers outputs laid came_of kinds_of wholly flatten
  all_frames [] = λ at count lost r rest sent came s u. (rw (no_more rest sent s.stands s.packets s.later_on), refl)
  all_frames (f ∷ frames) = one_frame f.idle f.field frames (all_frames frames) f.lent

-- ---- the promise
pub comes_through : (ps : List (List ℕ)) (frames : List Sent) (start : ℕ) (buffer : List ℕ)
    → start < frame_counts → Fills ps frames → never_more 0 frames ≡ true → none_refused (answers (fresh buffer) (calls_of ps 0 start frames)) ≡ true
    → ComesThrough ps frames (calls_of ps 0 start frames) buffer
comes_through ps frames start buffer c fills never u =
    let (o, k) = all_frames ps frames 0 start 0 (fresh buffer) ps [] []
    (record {
      stands = going_at_start refl;
      packets = fills.packets;
      long = refl;
      later_on = fills.exactly;
      nexts = λ n. refl;
      sizes = fills.sizes;
      between = fills.between;
      never = never;
      in_range = c;
      ready = waits refl refl refl;
    }) u in
    record { packets = o; kinds = k }
