-- One frame moves the sender on: its field begins at a packet's start, ends the packet that is being sent, or lies inside it. What comes out, if it is received, are the
-- packets of which all octets came; what is kept is the beginning of the next, if all of that came.
use Prim.Native.Nat.{ℕ, ◌+◌, ◌≤◌, ◌<◌}
use mathlib.Core.Path.{◌≡◌, refl, sym, ap, subst, ◌∙◌}
use mathlib.Core.List.{List, [], ◌∷◌, ◌++◌, append_assoc, append-nil, append_cancel_left, flatten}
use mathlib.Core.Bool.{Bool, true, false, cond, ◌&&◌, and-false, and-true}
use native.Mathlib.Omega.{arith}
use native.Mathlib.Nat.{zero-add}
use borrow.Author.Tests.{lt-ltb, le-ltb, ltb-true, ltb-false, leb-true, leb-false}
use lib.Dec.{eqb, ltb, leb}
use lib.ListN.{length, take, drop, replicate, length-append, length-replicate, replicate-append-replicate, length-drop, drop_of_length-le}
use lib.Seq.{take_all, take-append_seam, drop-append_seam}
use Rattle.std.proofs.lemmas.List.{nil_from_length}
use Rattle.octets.proofs.Order.{either, both}
use Rattle.frames.specs.declared.Frames.{Frames}
use Rattle.pieces.specs.Pieces.{one_packet}
use Rattle.frames.specs.Frames as frame
use Rattle.frames.specs.Frames.{longest_field, idle_only, no_packet, finishes, grows}
use Rattle.recording.specs.Sent.{all, to_next}
use Rattle.recording.specs.Received.{wholly}
use Rattle.recording.proofs.Beginnings.{IsPacket, is_packet, packet_ends, unread, cut_short, beginning}
use Rattle.recording.proofs.Stands.{Stands, going_at_start, inside, stands_short, stands_unfinished, stands_between}
use Rattle.recording.proofs.Stands.{from_start, from_inside, from_past, Passed, passed, has_packet, then_later, beginning_of, rest_of}
use Rattle.recording.proofs.Whole.{all_came, came_append, came_all, came_none, came_one, wholly_first, wholly_done}
use Rattle.recording.proofs.Taking.{in_step, Holds, nothing, something, Took, gives_up_lem, by_joined, took, grew}

-- what is kept of the octets `sent`: all of them if all came
abbrev pub kept : List Bool → List ℕ → List ℕ
kept came sent = cond (all_came came) sent []

-- the octets of packets in a field, and the pointer
abbrev pub carried_by : Bool → List ℕ → List ℕ
carried_by idle field = cond idle [] field

abbrev pub pointer_at : Bool → List (List ℕ) → ℕ → List ℕ → ℕ
pointer_at idle rest at field = cond idle idle_only (cond (ltb (to_next rest at) (length field)) (to_next rest at) no_packet)

-- a frame (idle or not; received or not; its field), after which `later` is laid: `rest` are the packets that are not all sent, `sent` the octets of the first that are,
-- `came` which of these came
pub record Step (idle r : Bool) (field : List ℕ) (rest : List (List ℕ)) (sent : List ℕ) (came : List Bool) (later : List ℕ) : Type 0 where
  pub out : List (List ℕ)
  pub rest' : List (List ℕ)
  pub sent' : List ℕ
  pub came' : List Bool
  pub stands : Stands rest' sent'
  pub packets : all one_packet rest' ≡ true
  pub long : length came' ≡ length sent'
  pub later_on : sent' ++ later ≡ flatten rest'
  pub wholes : (more : List Bool) → wholly rest (came ++ (replicate (length (carried_by idle field)) r ++ more)) ≡ out ++ wholly rest' (came' ++ more)
  pub nexts : (at : ℕ) → to_next rest (length sent + (length (carried_by idle field) + at)) ≡ to_next rest' (length sent' + at)
  pub lost : r ≡ false → (out ≡ []) × (kept came' sent' ≡ [])
  pub taken : r ≡ true → (state : Frames) (count : ℕ) (piece : List ℕ) → Holds state count piece (kept came sent)
      → Took state count (pointer_at idle rest (length sent) field) field piece (flatten out) (kept came' sent')

-- ---- packets one after another
pub all_append : (done ahead : List (List ℕ)) → all one_packet (done ++ ahead) ≡ true → (all one_packet done ≡ true) × (all one_packet ahead ≡ true)
all_append [] ahead a = (refl, a)
all_append (p ∷ done) ahead a =
    let (o, more) = both (one_packet p) (all one_packet (done ++ ahead)) a in
    let (d, rest) = all_append done ahead more in
    (simp (o, d), rest)

pub flatten_append : (x y : List (List ℕ)) → flatten (x ++ y) ≡ flatten x ++ flatten y
unfolding flatten
flatten_append [] y = refl
flatten_append (p ∷ x) y = ap (λ z. p ++ z) (flatten_append x y) ∙ sym (append_assoc p (flatten x) (flatten y))

-- the octets of a frame came or didn't: of its last ones nothing is kept if they didn't
kept_lost : (l : List ℕ) → kept (replicate (length l) false) l ≡ []
kept_lost [] = refl
kept_lost (x ∷ l) = refl

kept_came : (l : List ℕ) → kept (replicate (length l) true) l ≡ l
kept_came l = simp (came_all (length l))

-- where nothing is kept, no piece goes on
goes_not : {state : Frames} {count : ℕ} {piece k : List ℕ} → Holds state count piece k → k ≡ [] → in_step state count ≡ false
goes_not (nothing e z) n = e
goes_not (something e p some) n = absurd (omega (arith, ap length n))

-- and where something is, it is the piece
goes_on_lem : {state : Frames} {count : ℕ} {piece k : List ℕ} → Holds state count piece k → 0 < length k → (in_step state count ≡ true) × (piece ≡ k)
goes_on_lem (nothing e z) n = absurd (omega (arith, ap length z))
goes_on_lem (something e p some) n = (e, p)

-- ---- idle data only, at the start of a packet
module _ (r : Bool) (field : List ℕ) (rest : List (List ℕ)) (later : List ℕ) (a : all one_packet rest ≡ true)
    (size : length field ≤ longest_field) (e : later ≡ flatten rest) where
  pub idle_step : Step true r field rest [] [] later
  unfolding flatten
  idle_step = record {
    out = [];
    rest' = rest;
    sent' = [];
    came' = [];
    stands = going_at_start refl;
    packets = a;
    long = refl;
    later_on = e;
    wholes = λ more. refl;
    nexts = λ at. rw (zero-add (0 + at), zero-add at);
    lost = λ z. (refl, refl);
    taken = λ z state count piece h.
        let (f, g) = gives_up_lem state count idle_only field piece (goes_not h refl) in
        took state count idle_only field piece [] [] refl (stands_short {rest = rest} a (going_at_start refl)) (stands_unfinished {rest = rest} a (going_at_start refl))
        (drop_of_length-le field {i = idle_only} (omega arith)) false f g;
  }

-- ---- a field that begins at the start of a packet
module _ (r : Bool) (field : List ℕ) (rest : List (List ℕ)) (later : List ℕ) (a : all one_packet rest ≡ true) (w : Passed rest field later) where
  the_packets : (all one_packet w.done ≡ true) × (all one_packet w.ahead ≡ true)
  the_packets = all_append w.done w.ahead (rw w.packets at a)

  field_cut : (more : List Bool) → replicate (length field) r ++ more ≡ replicate (length (flatten w.done)) r ++ (replicate (length w.left) r ++ more)
  field_cut more =
      rw (w.fills, length-append (flatten w.done) w.left, ← replicate-append-replicate (length (flatten w.done)) (length w.left) r) (simp append_assoc)

  start_wholes : (more : List Bool) → wholly rest (replicate (length field) r ++ more) ≡ cond r w.done [] ++ wholly w.ahead (replicate (length w.left) r ++ more)
  start_wholes more =
      ap (wholly rest) (field_cut more) ∙ ap (λ x. wholly x (replicate (length (flatten w.done)) r ++ (replicate (length w.left) r ++ more))) w.packets
      ∙ wholly_done w.done w.ahead r (replicate (length w.left) r ++ more) the_packets.0

  start_nexts : (at : ℕ) → to_next rest (length field + at) ≡ to_next w.ahead (length w.left + at)
  start_nexts at =
      let n : length field + at ≡ length (flatten w.done) + (length w.left + at) =
      omega (arith, ap length w.fills, length-append (flatten w.done) w.left) in
      rw (n, w.packets) (from_past w.done w.ahead the_packets.0 (length w.left + at))

  pub start_step : 0 < length field → Step false r field rest [] [] later
  start_step some = record {
    out = cond r w.done [];
    rest' = w.ahead;
    sent' = w.left;
    came' = replicate (length w.left) r;
    stands = w.stands;
    packets = the_packets.1;
    long = length-replicate (length w.left) r;
    later_on = w.later_on;
    wholes = start_wholes;
    nexts = λ at. rw (zero-add (length field + at)) (start_nexts at);
    lost = λ z. rw z (refl, kept_lost w.left);
    taken = λ z state count piece h.
        let (f, g) = gives_up_lem state count 0 field piece (goes_not h refl) in
        let t = took state count 0 field piece w.done w.left the_packets.0 (stands_short the_packets.1 w.stands)
        (stands_unfinished the_packets.1 w.stands) w.fills false f g in
        simp (from_start rest, lt-ltb 0 (length field) some, z, came_all (length w.left)) t;
  }

-- ---- inside a packet: its octets b are still to be sent
module _ (r : Bool) (sent b : List ℕ) (more : List (List ℕ)) (came : List Bool) (later : List ℕ) (o : one_packet (sent ++ b) ≡ true) (a : all one_packet more ≡ true)
    (some : 0 < length sent) (cut : 0 < length b) (long : length came ≡ length sent) where
  is_one : IsPacket (sent ++ b)
  is_one = is_packet (sent ++ b) o

  -- the field has all of b, and what comes after it begins at the start of a packet
  module _ (f : List ℕ) (size : length (b ++ f) ≤ longest_field) (w : Passed more f later) where
    -- the pointer: behind b, or none
    abbrev pointer : ℕ
    pointer = cond (ltb (length b) (length (b ++ f))) (length b) no_packet

    at_pointer : (take pointer (b ++ f) ≡ b) × (drop pointer (b ++ f) ≡ f) × (pointer ≡ idle_only → ⊥)
    at_pointer =
        let l = length-append b f in
        either (ltb (length b) (length (b ++ f)))
        (λ t. let s = ltb-true (length b) (length (b ++ f)) t in
        simp t (take-append_seam b f, drop-append_seam b f, λ i. omega arith))
        (λ t. let z : f ≡ [] = nil_from_length f (omega (arith, ltb-false (length b) (length (b ++ f)) t)) in
        simp t (take_all no_packet (b ++ f) (omega arith) ∙ rw (z, append-nil), drop_of_length-le (b ++ f) {i = no_packet} (omega arith) ∙ sym z, λ i. omega arith))

    abbrev ended : List (List ℕ)
    ended = cond (all_came came && r) ((sent ++ b) ∷ []) [] ++ cond r w.done []

    ends_wholes : (m : List Bool)
        → wholly ((sent ++ b) ∷ more) (came ++ (replicate (length (b ++ f)) r ++ m)) ≡ ended ++ wholly w.ahead (replicate (length w.left) r ++ m)
    ends_wholes m =
        let cut_up : came ++ (replicate (length (b ++ f)) r ++ m) ≡ (came ++ replicate (length b) r) ++ (replicate (length f) r ++ m) =
        rw (length-append b f, ← replicate-append-replicate (length b) (length f) r) (simp append_assoc) in
        let l : length (came ++ replicate (length b) r) ≡ length (sent ++ b) =
        omega (arith, length-append came (replicate (length b) r), length-replicate (length b) r, length-append sent b) in
        ap (wholly ((sent ++ b) ∷ more)) cut_up
        ∙ wholly_first (sent ++ b) more (came ++ replicate (length b) r) (replicate (length f) r ++ m) l
        ∙ rw (came_append came (replicate (length b) r), came_one (length b) r cut, start_wholes r f more later a w m) (simp append_assoc)

    ends_nexts : (at : ℕ) → to_next ((sent ++ b) ∷ more) (length sent + (length (b ++ f) + at)) ≡ to_next w.ahead (length w.left + at)
    unfolding flatten
    ends_nexts at =
        let n : length sent + (length (b ++ f) + at) ≡ length (flatten ((sent ++ b) ∷ [])) + (length f + at) =
        omega (arith, length-append b f, length-append sent b, ap length (append-nil (sent ++ b))) in
        rw n (from_past ((sent ++ b) ∷ []) more (simp o) (length f + at) ∙ start_nexts r f more later a w at)

    -- received, with the octets before it or without
    module _ (state : Frames) (count : ℕ) (piece : List ℕ) where
      resumed : (g : Bool) → finishes state count pointer (b ++ f) piece ≡ g → grows state count pointer (b ++ f) piece ≡ false
          → Took state count pointer (b ++ f) piece (cond g (frame.joined state count pointer (b ++ f) piece) [] ++ flatten w.done) w.left
      resumed g =
          let (d, e) = the_packets r f more later a w in
          took state count pointer (b ++ f) piece w.done w.left d (stands_short e w.stands) (stands_unfinished e w.stands) (at_pointer.1 ∙ w.fills) g

      ends_took : Holds state count piece (kept came sent)
          → Took state count pointer (b ++ f) piece (flatten (cond (all_came came) ((sent ++ b) ∷ []) [] ++ w.done)) w.left
      unfolding flatten
      ends_took h =
          either (all_came came)
          (λ t. let (i, p) = goes_on_lem (simp t at h) some in
          let j : frame.joined state count pointer (b ++ f) piece ≡ sent ++ b = rw (at_pointer.0, p) in
          let (x, y) = by_joined state count pointer (b ++ f) piece i at_pointer.2 in
          simp t (rw j at (resumed true (x ∙ rw j o) (y ∙ rw (j, packet_ends (sent ++ b) is_one.read) (and-false (eqb pointer no_packet))))))
          (λ t. let (x, y) = gives_up_lem state count pointer (b ++ f) piece (goes_not h (simp t)) in
          simp t (resumed false x y))

    pub ends_step : Step false r (b ++ f) ((sent ++ b) ∷ more) sent came later
    ends_step = record {
      out = ended;
      rest' = w.ahead;
      sent' = w.left;
      came' = replicate (length w.left) r;
      stands = w.stands;
      packets = (the_packets r f more later a w).1;
      long = length-replicate (length w.left) r;
      later_on = w.later_on;
      wholes = ends_wholes;
      nexts = ends_nexts;
      lost = λ z. rw z (simp (and-false (all_came came)), kept_lost w.left);
      taken = λ z state count piece h. simp (from_inside sent b more some cut, z, and-true (all_came came), came_all (length w.left)) (ends_took state count piece h);
    }

  -- the field has a part of b
  module _ (f b' : List ℕ) (size : length f ≤ longest_field) (e : b ≡ f ++ b') (there : 0 < length f) (cut' : 0 < length b') (on : b' ++ flatten more ≡ later) where
    longer : sent ++ b ≡ (sent ++ f) ++ b'
    longer = rw (e, append_assoc sent f b')

    one_too : IsPacket ((sent ++ f) ++ b')
    one_too = rw longer at is_one

    module _ (state : Frames) (count : ℕ) (piece : List ℕ) where
      inside_took : Holds state count piece (kept came sent) → Took state count no_packet f piece [] (kept came (sent ++ f))
      unfolding flatten
      inside_took h =
          let none_ahead = drop_of_length-le f {i = no_packet} (omega arith) in
          either (all_came came)
          (λ t. let (i, p) = goes_on_lem (simp t at h) some in
          let j : frame.joined state count no_packet f piece ≡ sent ++ f = rw (take_all no_packet f (omega arith), p) in
          let (x, y) = by_joined state count no_packet f piece i (λ i. omega arith) in
          simp t
          (rw j at
          (grew state count no_packet f piece none_ahead (x ∙ rw j (unread (sent ++ f) (cut_short (sent ++ f) b' one_too cut')))
          (y ∙ rw j (beginning (sent ++ f) b' one_too cut')))))
          (λ t. let (x, y) = gives_up_lem state count no_packet f piece (goes_not h (simp t)) in
          let s : Stands more [] = going_at_start refl in
          simp t (took state count no_packet f piece [] [] refl (stands_short a s) (stands_unfinished a s) none_ahead false x y))

    pub inside_step : Step false r f ((sent ++ b) ∷ more) sent came later
    unfolding flatten
    inside_step =
        let l = length-append f b' in
        record {
          out = [];
          rest' = (sent ++ b) ∷ more;
          sent' = sent ++ f;
          came' = came ++ replicate (length f) r;
          stands = inside b' more (ap (λ x. x ∷ more) longer) (omega (arith, length-append sent f)) cut';
          packets = simp (o, a);
          long = omega (arith, length-append came (replicate (length f) r), length-replicate (length f) r, length-append sent f);
          later_on = rw (← on, longer) (simp append_assoc);
          wholes = λ m. rw (append_assoc came (replicate (length f) r) m);
          nexts = λ at. ap (to_next ((sent ++ b) ∷ more)) (omega (arith, length-append sent f));
          lost = λ z. (refl, rw z (simp (came_append came (replicate (length f) false), came_none (length f) there, and-false (all_came came))));
          taken = λ z state count piece h.
              simp (from_inside sent b more some cut, le-ltb (length b) (length f) (omega (arith, ap length e)), z)
              (simp (came_append came (replicate (length f) true), came_all (length f), and-true (all_came came)) (inside_took state count piece h));
        }

-- ---- a frame, wherever the sender stands
module _ (r : Bool) (field : List ℕ) (rest : List (List ℕ)) (sent : List ℕ) (came : List Bool) (later : List ℕ) (a : all one_packet rest ≡ true)
    (long : length came ≡ length sent) (some : 0 < length field) (size : length field ≤ longest_field) where
  in_packet : (b : List ℕ) (more : List (List ℕ)) → rest ≡ (sent ++ b) ∷ more → 0 < length sent → 0 < length b → field ++ later ≡ b ++ flatten more
      → Step false r field rest sent came later
  in_packet b more e begun cut fills =
      let (o, a') = both (one_packet (sent ++ b)) (all one_packet more) (rw e at a) in
      rw e
      (either (leb (length b) (length field))
      (λ h. let l = leb-true _ _ h in
      let f = drop (length b) field in
      let whole = has_packet b field later more fills l in
      subst (λ x. Step false r x ((sent ++ b) ∷ more) sent came later) (sym whole)
      (ends_step r sent b more came later o a' begun cut long f (omega (arith, ap length whole)) (passed more f later (then_later b field later more fills l))))
      (λ h. let l = leb-false _ _ h in
      inside_step r sent b more came later o a' begun cut long field (drop (length field) b) size (beginning_of b field later more fills l) some
      (simp length-drop (omega arith)) (rest_of b field later more fills l)))

  by_place : Stands rest sent → sent ++ (field ++ later) ≡ flatten rest → Step false r field rest sent came later
  unfolding flatten
  by_place (going_at_start e) fills =
      let c = nil_from_length came (omega (arith, ap length e)) in
      rw (e, c) (start_step r field rest later a (passed rest field later (rw e at fills)) some)
  by_place (inside b more e begun cut) fills =
      in_packet b more e begun cut (append_cancel_left sent (field ++ later) (b ++ flatten more) (fills ∙ ap flatten e ∙ append_assoc sent b (flatten more)))

  pub step : (idle : Bool) → Stands rest sent → (idle ≡ true → to_next rest (length sent) ≡ 0) → sent ++ (carried_by idle field ++ later) ≡ flatten rest
      → Step idle r field rest sent came later
  step true s between fills =
      let z = stands_between s (between refl) in
      let c = nil_from_length came (omega (arith, ap length z)) in
      rw (z, c) (idle_step r field rest later a size (rw z at fills))
  step false s between fills = by_place s fills
