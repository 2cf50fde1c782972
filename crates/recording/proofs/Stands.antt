-- Where the sender stands: at the start of a packet or inside one. From a start on, a field is cut into whole packets and the beginning of the next.
use Prim.Native.Nat.{ℕ, ◌+◌, ◌-◌, ◌≤◌, ◌<◌}
use mathlib.Core.Path.{◌≡◌, refl, sym, ap, ◌∙◌}
use mathlib.Core.List.{List, [], ◌∷◌, ◌++◌, append_assoc, flatten}
use mathlib.Core.Bool.{true}
use native.Mathlib.Omega.{arith}
use native.Mathlib.Nat.{zero-add}
use borrow.Author.Tests.{eq-eqb, ne_eqb, eqb-true, eqb-false, lt-ltb, le-ltb, leb-true, leb-false}
use lib.Dec.{eqb, leb}
use lib.ListN.{length, take, drop, length-append, length-drop, take-append-drop}
use lib.Seq.{take-append_seam, drop-append_seam, take-append-le, drop-append-le}
use Rattle.std.proofs.lemmas.List.{nil_from_length}
use Rattle.octets.proofs.Order.{either, both}
use Rattle.reading.specs.Reading.{header, refusal}
use Rattle.reading.specs.Causes.{no_octets}
use Rattle.reading.proofs.Exactly.{gives}
use Rattle.pieces.specs.Pieces.{one_packet, unfinished}
use Rattle.recording.specs.Sent.{all, to_next}
use Rattle.recording.proofs.Beginnings.{is_packet, cut_short, beginning}

-- `rest` are the packets that are not all sent; of the first of them the octets `sent` are
pub data Stands (rest : List (List ℕ)) (sent : List ℕ) : Type 0 where
  going_at_start : sent ≡ [] → Stands rest sent
  inside : (b : List ℕ) (more : List (List ℕ)) → rest ≡ (sent ++ b) ∷ more → 0 < length sent → 0 < length b → Stands rest sent

-- what is sent of it is unfinished
module _ {rest : List (List ℕ)} {sent : List ℕ} (a : all one_packet rest ≡ true) where
  pub stands_short : Stands rest sent → refusal sent ≡ 1
  stands_short (going_at_start e) = rw e (gives (no_octets refl))
  stands_short (inside b more e some cut) = cut_short sent b (is_packet _ (both _ _ (rw e at a)).0) cut

  pub stands_unfinished : Stands rest sent → unfinished sent ≡ true
  unfolding unfinished header
  stands_unfinished (going_at_start e) = rw e (simp (eq-eqb (refusal []) 1 (gives (no_octets refl))))
  stands_unfinished (inside b more e some cut) = beginning sent b (is_packet _ (both _ _ (rw e at a)).0) cut

-- ---- the octets to the next packet
pub from_start : (rest : List (List ℕ)) → to_next rest 0 ≡ 0
unfolding to_next
from_start [] = refl
from_start (p ∷ rest) = refl

pub from_inside : (sent b : List ℕ) (more : List (List ℕ)) → 0 < length sent → 0 < length b → to_next ((sent ++ b) ∷ more) (length sent) ≡ length b
unfolding to_next
from_inside sent b more some cut =
    let l = length-append sent b in
    simp (ne_eqb (length sent) 0 (λ e. omega arith), lt-ltb (length sent) (length (sent ++ b)) (omega arith)) (omega arith)

pub from_past : (done rest : List (List ℕ)) → all one_packet done ≡ true → (at : ℕ) → to_next (done ++ rest) (length (flatten done) + at) ≡ to_next rest at
unfolding to_next flatten
from_past [] rest a at = rw (zero-add at)
from_past (p ∷ done) rest a at =
    let (o, a') = both (one_packet p) (all one_packet done) a in
    let some = (is_packet p o).some in
    let l = length-append p (flatten done) in
    let n = length (p ++ flatten done) + at in
    let m : n - length p ≡ length (flatten done) + at = omega arith in
    simp (ne_eqb n 0 (λ e. omega arith), le-ltb n (length p) (omega arith)) (rw m (from_past done rest a' at))

-- no octets to the next packet: at its start
pub stands_between : {rest : List (List ℕ)} {sent : List ℕ} → Stands rest sent → to_next rest (length sent) ≡ 0 → sent ≡ []
stands_between (going_at_start e) z = e
stands_between {sent = sent} (inside b more e some cut) z = absurd (omega (arith, from_inside sent b more some cut, rw e at z))

-- ---- a field f that begins at the start of a packet, with the octets `later` after it
pub record Passed (rest : List (List ℕ)) (f later : List ℕ) : Type 0 where
  pub done : List (List ℕ)
  pub ahead : List (List ℕ)
  pub left : List ℕ
  pub packets : rest ≡ done ++ ahead
  pub fills : f ≡ flatten done ++ left
  pub later_on : left ++ later ≡ flatten ahead
  pub stands : Stands ahead left

module _ (p f later : List ℕ) (rest : List (List ℕ)) (e : f ++ later ≡ p ++ flatten rest) where
  -- it has all of packet p
  module _ (h : length p ≤ length f) where
    pub has_packet : f ≡ p ++ drop (length p) f
    has_packet =
        sym (take-append-drop (length p) f)
        ∙ ap (λ x. x ++ drop (length p) f) (sym (take-append-le (length p) f later h) ∙ ap (take (length p)) e ∙ take-append_seam p (flatten rest))

    pub then_later : drop (length p) f ++ later ≡ flatten rest
    then_later = sym (drop-append-le (length p) f later h) ∙ ap (drop (length p)) e ∙ drop-append_seam p (flatten rest)

    with_packet : Passed rest (drop (length p) f) later → Passed (p ∷ rest) f later
    unfolding flatten
    with_packet w = record {
      done = p ∷ w.done;
      ahead = w.ahead;
      left = w.left;
      packets = ap (λ x. p ∷ x) w.packets;
      fills = has_packet ∙ ap (λ x. p ++ x) w.fills ∙ sym (append_assoc p (flatten w.done) w.left);
      later_on = w.later_on;
      stands = w.stands;
    }

  -- it has less
  module _ (h : length f < length p) where
    pub beginning_of : p ≡ f ++ drop (length f) p
    beginning_of =
        sym (take-append-drop (length f) p)
        ∙ ap (λ x. x ++ drop (length f) p) (sym (take-append-le (length f) p (flatten rest) (omega arith)) ∙ sym (ap (take (length f)) e) ∙ take-append_seam f later)

    pub rest_of : drop (length f) p ++ flatten rest ≡ later
    rest_of = sym (drop-append-le (length f) p (flatten rest) (omega arith)) ∙ sym (ap (drop (length f)) e) ∙ drop-append_seam f later

    stands_in : Stands (p ∷ rest) f
    stands_in =
        either (eqb (length f) 0) (λ z. going_at_start (nil_from_length f (eqb-true _ _ z)))
        (λ z. inside (drop (length f) p) rest (ap (λ x. x ∷ rest) beginning_of) (omega (arith, eqb-false (length f) 0 z)) (simp length-drop (omega arith)))

    within_packet : Passed (p ∷ rest) f later
    unfolding flatten
    within_packet = record { done = []; ahead = p ∷ rest; left = f; packets = refl; fills = refl; later_on = e; stands = stands_in }

pub passed : (rest : List (List ℕ)) (f later : List ℕ) → f ++ later ≡ flatten rest → Passed rest f later
unfolding flatten
passed [] f later e =
    record {
      done = [];
      ahead = [];
      left = f;
      packets = refl;
      fills = refl;
      later_on = e;
      stands = going_at_start (nil_from_length f (omega (arith, ap length e, length-append f later)));
    }
passed (p ∷ rest) f later e =
    either (leb (length p) (length f))
    (λ h. let l = leb-true _ _ h in with_packet p f later rest e l (passed rest (drop (length p) f) later (then_later p f later rest e l)))
    (λ h. within_packet p f later rest e (leb-false _ _ h))
