-- A frame that is not refused, in plain variables: everything fits, and what the code puts is what the definitions say.
use Prim.Native.Nat.{ℕ, zero, suc, ◌+◌, ◌-◌, ◌≤◌, ◌<◌, min}
use mathlib.Core.Path.{◌≡◌, refl, sym, ap, ◌∙◌}
use mathlib.Core.List.{List, ◌++◌}
use mathlib.Core.Bool.{Bool, true, false, not, ◌&&◌, ◌||◌}
use native.Mathlib.Omega.{arith}
use borrow.Author.Tests.{eqb-true}
use lib.Dec.{eqb, ltb, leb}
use lib.ListN.{length, take, drop, length-append, length-drop}
use lib.Seq.{take_all, length-take-le}
use Rattle.octets.specs.Octets.{one}
use Rattle.octets.specs.Output.{put}
use Rattle.octets.proofs.Order.{either, both}
use Rattle.walk.specs.Walk.{read_at, next, places_from, places, end}
use Rattle.reading.specs.Reading.{header, size, refusal}
use Rattle.pieces.specs.Pieces.{one_packet, unfinished, rest_of}
use Rattle.pieces.specs.declared.Rest.{Rest}
use Rattle.pieces.proofs.Short.{unfinished_short}
use Rattle.pieces.proofs.Parts.{from_pointer, up_to_pointer, ends_inside, after_packets}
use Rattle.frames.specs.Frames.{frame_refusal, goes_on, joined, goes_to, finishing, growing, packets_put, piece_kept, finishes, grows, gives_up, packets_out, packets_count, piece_after, taken_kind, taken}
use Rattle.frames.specs.declared.Frames.{Frames}
use Rattle.frames.specs.declared.Framed.{Framed}
use Rattle.frames.specs.declared.plan.Goes.{Goes}
use Rattle.frames.proofs.Good.{Good, good}

-- there are no more packets than octets
counted : (most : ℕ) (s : List ℕ) (at : ℕ) → length (places_from most s at) ≤ most
unfolding places_from
counted zero s at = omega arith
counted (suc most) s at = either (read_at s at) (λ r. simp r (let h = counted most s (next s at) in omega arith)) (λ r. simp r (omega arith))

-- ---- what becomes of the piece is one of three: no octets are both one packet and unfinished
module _ (state : Frames) (count pointer : ℕ) (field piece : List ℕ) where
  apart : finishes state count pointer field piece ≡ true → grows state count pointer field piece ≡ false
  unfolding finishes grows one_packet unfinished
  apart f =
      let s = joined state count pointer field piece in
      let on = goes_on state count pointer field piece in
      let whole = both on (one_packet s) f in
      either (grows state count pointer field piece)
      (λ g. let cut = (both (on && eqb pointer 2047) (unfinished s) g).1 in
      absurd (omega (
        arith,
        eqb-true (refusal s) 0 (both (eqb (refusal s) 0) (eqb (size s) (length s)) (both _ (leb (length s) 8192) whole.1).0).0,
        eqb-true (refusal s) 1 (both (eqb (refusal s) 1) (ltb (length s) (header s) || leb (size s) 8192) cut).0,
      )))
      (λ g. g)

  module _ {g : Goes} (e : g ≡ goes_to state count pointer field piece) where
    pub finishing_so : finishing g ≡ finishes state count pointer field piece
    finishing_so =
        rw e (either (finishes state count pointer field piece) (λ f. simp f) (λ f. simp f (either (grows state count pointer field piece) (λ h. simp h) (λ h. simp h))))

    pub growing_so : growing g ≡ grows state count pointer field piece
    growing_so =
        rw e
        (either (finishes state count pointer field piece) (λ f. simp (f, apart f))
        (λ f. simp f (either (grows state count pointer field piece) (λ h. simp h) (λ h. simp h))))

one_most : (b : Bool) → one b ≤ 1
unfolding one
one_most true = omega arith
one_most false = omega arith

module _ (state : Frames) (count pointer : ℕ) (field buffer : List ℕ) (room : ℕ) (none : frame_refusal state count pointer (length field) (length buffer) room ≡ 0) where
  fine : Good state count (length field) (length buffer) room
  fine = good state count pointer (length field) (length buffer) room none

  pub count_small : count < 256
  count_small = fine.count_most

  pub piece_inside : state.piece ≤ length buffer
  piece_inside = omega (arith, fine.piece_most, fine.buffer_is)

  pub piece_length : state.piece ≡ length (take state.piece buffer)
  piece_length = sym (length-take-le state.piece buffer piece_inside)

  module _ (rest : Rest) (on : rest ≡ rest_of field pointer) where
    begins : rest.from ≡ min (length field) pointer
    begins = ap (λ (z : Rest). z.from) on

    ends : rest.to ≡ rest.from + end (drop pointer field)
    ends = ap (λ (z : Rest). z.to) on ∙ ap (λ n. n + end (drop pointer field)) (sym begins)

    inside : rest.to ≤ length field
    inside = rw (ends) (ends_inside field pointer (begins) refl)

    pub packets_fit : (rest.from ≤ rest.to) × (rest.to ≤ length field) × (length (take state.piece buffer) + rest.to ≤ room)
    packets_fit = (omega (arith, ends), inside, omega (arith, inside, sym piece_length, fine.piece_most, fine.field_most, fine.room_enough))

    pub few : {k : ℕ} (b : Bool) → k ≡ one b → k + rest.packets ≤ 2047
    unfolding places
    few b e = let s = drop pointer field in omega (arith, e, one_most b, ap (λ (z : Rest). z.packets) on, counted (length s) s 0, length-drop pointer field, fine.field_most)

    -- the packets that are put
    pub packets_so : (g : Goes) → finishing g ≡ finishes state count pointer field (take state.piece buffer)
        → packets_put g (take state.piece buffer) field rest ≡ packets_out state count pointer field (take state.piece buffer)
    unfolding packets_out
    packets_so g e =
        let n : rest.to - rest.from ≡ end (drop pointer field) = omega (arith, ends) in
        rw (e, n, up_to_pointer field pointer (begins), from_pointer field pointer (begins))

  -- a piece that grows stays in the buffer: the pointer is 2047, behind which no field ends
  module _ (g : grows state count pointer field (take state.piece buffer) ≡ true) where
    grows_so : (pointer ≡ 2047) × (unfinished (take state.piece buffer ++ take pointer field) ≡ true)
    unfolding grows
    grows_so =
        let a = both (goes_on state count pointer field (take state.piece buffer) && eqb pointer 2047) (unfinished (take state.piece buffer ++ take pointer field)) g in
        (eqb-true pointer 2047 (both (goes_on state count pointer field (take state.piece buffer)) (eqb pointer 2047) a.0).1, a.1)

    all_before : take pointer field ≡ field
    all_before = take_all pointer field (omega (arith, grows_so.0, fine.field_most))

    grown_fits : state.piece + length field ≤ length buffer
    grown_fits =
        let short = unfinished_short (take state.piece buffer ++ take pointer field) grows_so.1 in
        omega (arith, short, length-append (take state.piece buffer) (take pointer field), ap length all_before, piece_length, fine.buffer_is)

  pub piece_fits : {to : ℕ} → to ≤ length field → {g : Goes} → g ≡ goes_to state count pointer field (take state.piece buffer)
      → (to ≤ length field) × (length field ≤ length buffer) × (growing g ≡ true → state.piece + length field ≤ length buffer)
  piece_fits h so = (h, omega (arith, fine.field_most, fine.buffer_is), λ t. grown_fits (sym (growing_so state count pointer field (take state.piece buffer) so) ∙ t))

  -- the piece that is put
  pub piece_so : (rest : Rest) (on : rest ≡ rest_of field pointer) (g : Goes) → growing g ≡ grows state count pointer field (take state.piece buffer)
      → piece_kept g (take state.piece buffer) field rest ≡ piece_after state count pointer field (take state.piece buffer)
  unfolding piece_after
  piece_so rest on g e =
      rw e
      (either (grows state count pointer field (take state.piece buffer)) (λ g. simp g (ap (λ l. take state.piece buffer ++ l) (sym (all_before g))))
      (λ g. simp g (rw (ap (λ (z : Rest). z.dropped) on, ends rest on, after_packets field pointer (begins rest on) (end (drop pointer field))))))

  -- ---- what is told and left, from what the parts of the code give: what becomes of the piece; k, 1 where it is finished; n octets and o, those of the packets; m octets
  -- and b, those of the piece
  module _ (rest : Rest) (on : rest ≡ rest_of field pointer) {g : Goes} (so : g ≡ goes_to state count pointer field (take state.piece buffer)) where
    f_so : finishing g ≡ finishes state count pointer field (take state.piece buffer)
    f_so = finishing_so state count pointer field (take state.piece buffer) so

    g_so : growing g ≡ grows state count pointer field (take state.piece buffer)
    g_so = growing_so state count pointer field (take state.piece buffer) so

    tells : {k n m : ℕ} {stops : Bool} → k ≡ one (finishing g) → stops ≡ not (finishing g || growing g) → n ≡ length (packets_put g (take state.piece buffer) field rest)
        → m ≡ length (piece_kept g (take state.piece buffer) field rest)
        → ◌≡◌ {A = Framed} (record { refusal = 0; kind = taken_kind; given_up = not (eqb state.piece 0) && stops; dropped = rest.dropped; packets = k + rest.packets; octets = n; state = record { started = true; count = count; piece = m } }) (taken state count pointer field buffer)
    unfolding gives_up packets_count
    tells x s y z =
        let octets = y ∙ ap length (packets_so rest on g f_so) in
        let left = z ∙ ap length (piece_so rest on g g_so) in
        let one_more = x ∙ ap one f_so in
        let stop = s ∙ (λ i. not (f_so i || g_so i)) in
        λ i. record {
          refusal = 0;
          kind = taken_kind;
          given_up = not (eqb state.piece 0) && stop i;
          dropped = (on i).dropped;
          packets = one_more i + (on i).packets;
          octets = octets i;
          state = record { started = true; count = count; piece = left i };
        }

    pub told : (out : List ℕ) {k n m : ℕ} {stops : Bool} {o b : List ℕ} → k ≡ one (finishing g) → stops ≡ not (finishing g || growing g)
        → (n ≡ length (packets_put g (take state.piece buffer) field rest)) × (o ≡ put out 0 (packets_put g (take state.piece buffer) field rest))
        → (m ≡ length (piece_kept g (take state.piece buffer) field rest)) × (b ≡ put buffer 0 (piece_kept g (take state.piece buffer) field rest))
        → (record { refusal = 0; kind = taken_kind; given_up = not (eqb state.piece 0) && stops; dropped = rest.dropped; packets = k + rest.packets; octets = n; state = record { started = true; count = count; piece = m } } ≡ taken state count pointer field buffer)
        × ((b ≡ put buffer 0 (piece_after state count pointer field (take state.piece buffer))) × (o ≡ put out 0 (packets_out state count pointer field (take state.piece buffer))))
    told out x s (y, o) (z, b) = (tells x s y z, (b ∙ ap (put buffer 0) (piece_so rest on g g_so), o ∙ ap (put out 0) (packets_so rest on g f_so)))
