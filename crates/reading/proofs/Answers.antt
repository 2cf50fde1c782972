-- What the reader's answer says of the octets, case by case, from the one equation of its promise; and that the equation fixes the answer.
use Prim.Native.Nat.{ℕ, ◌-◌, ◌≤◌, ◌<◌}
use mathlib.Core.Path.{◌≡◌, refl, sym, ap, ◌∙◌}
use mathlib.Core.Logic.{⊎_elim}
use mathlib.Core.List.{List, [], ◌∷◌}
use mathlib.Core.Bool.{Bool, true, false, cond}
use native.Mathlib.Omega.{arith}
use borrow.Author.Tests.{eq-eqb, ne_eqb, eqb-true, eqb-false}
use lib.Dec.{eqb}
use lib.ListN.{length, take, drop, get_or}
use Rattle.std.specs.Prelude.{Result, Ok, Err}
use Rattle.octets.specs.Output.{leading}
use Rattle.refusal.specs.Refusal.{number}
use Rattle.refusal.proofs.Named.{some}
use Rattle.packet.specs.Space.{version, packet_type, secondary, apid, flags, count, data_octets}
use Rattle.packet.specs.Encapsulation.{protocol, user, extension, encap_header, encap_size}
use Rattle.reading.specs.Places.{fault_at}
use Rattle.reading.specs.Reading.{header, size, refused_by, refusal, place, fields, reading, content, content_at}
use Rattle.packet.specs.Told.{fields_of, told, number_of, place_of, size_of, header_of}
use Rattle.packet.specs.declared.Packet.{Packet}
use Rattle.packet.specs.declared.Packet.TheVariants.{Space, Encapsulation}
use Rattle.packet.specs.declared.Unread.{Unread}
use Rattle.packet.proofs.Answers.{told_fixes}
use Rattle.reading.specs.Causes.{Cause}
use Rattle.reading.proofs.Exactly.{gives, gives_place, whole_gives, numbered, verdict, refused, accepted}
use Rattle.reading.proofs.Within.{Within, within}

-- the promise permits one answer
pub one_answer : (p q : Result Packet Unread) (s : List ℕ) → told p ≡ reading s → told q ≡ reading s → p ≡ q
one_answer p q s e f = told_fixes p q (e ∙ sym f)

-- what each case says of the octets
abbrev pub Says : Result Packet Unread → List ℕ → Type 0
Says (Ok (Space t x a f c n)) s =
    (refusal s ≡ 0) × (version s ≡ 0) × (t ≡ packet_type s) × (x ≡ secondary s) × (a ≡ apid s) × (f ≡ flags s) × (c ≡ count s) × (n ≡ data_octets s)
Says (Ok (Encapsulation p u x h n)) s =
    (refusal s ≡ 0) × (version s ≡ 0 → ⊥) × (p ≡ protocol s) × (u ≡ user s) × (x ≡ extension s) × (h ≡ encap_header s) × (n ≡ encap_size s - encap_header s)
Says (Err u) s = (refusal s ≡ number u.refusal) × (0 < number u.refusal) × (u.place ≡ place s)

-- of a whole packet, at the test for a Space Packet; and of one that is refused
at_kind : (p : Packet) (s : List ℕ) (kind : Bool) → refusal s ≡ 0 → eqb (version s) 0 ≡ kind
    → fields_of p ≡ cond kind (0 ∷ packet_type s ∷ secondary s ∷ apid s ∷ flags s ∷ count s ∷ data_octets s ∷ []) (7 ∷ protocol s ∷ user s ∷ extension s ∷ encap_header s ∷ (encap_size s - encap_header s) ∷ [])
    → Says (Ok p) s
at_kind (Space t x a f c n) s true g k e = (g, eqb-true _ _ k, cc, cc, cc, cc, cc, cc)
at_kind (Encapsulation p u x h n) s false g k e = (g, eqb-false _ _ k, cc, cc, cc, cc, cc)
at_kind (Space t x a f c n) s false g k e = let z : ◌≡◌ {A = ℕ} 0 7 = cc in absurd (omega arith)
at_kind (Encapsulation p u x h n) s true g k e = let z : ◌≡◌ {A = ℕ} 0 7 = cc in absurd (omega arith)

at_whole : (r : Result Packet Unread) (s : List ℕ) → refusal s ≡ 0 → told r ≡ 0 ∷ fields s → Says r s
unfolding fields
at_whole (Ok p) s g e = at_kind p s (eqb (version s) 0) g refl cc
at_whole (Err u) s g e = absurd (omega (arith, ap leading e, some u.refusal))

at_cause : (r : Result Packet Unread) (s : List ℕ) {n : ℕ} → Cause s n → told r ≡ refused_by s n → Says r s
at_cause (Err u) s why e = (gives why ∙ sym (ap leading e), some u.refusal, ap (λ l. get_or l 1 0) e ∙ sym (gives_place why))
at_cause (Ok p) s why e = absurd (omega (arith, ap leading e, numbered why))

pub says : (r : Result Packet Unread) (s : List ℕ) → told r ≡ reading s → Says r s
says r s e =
    ⊎_elim (λ w. at_whole r s (whole_gives w) (e ∙ sym (accepted w))) (λ why. at_cause r s why.1 (e ∙ sym (refused why.1))) (verdict s)

pub read_told : (p : Packet) (s : List ℕ) → Says (Ok p) s → refusal s ≡ 0
read_told (Space t x a f c n) s w = w.0
read_told (Encapsulation p u x h n) s w = w.0

pub number_told : (r : Result Packet Unread) (s : List ℕ) → Says r s → number_of r ≡ refusal s
number_told (Ok p) s w = sym (read_told p s w)
number_told (Err u) s w = sym w.0

-- where nothing is refused there is no place, which is told as 0
pub none_placed : (s : List ℕ) → refusal s ≡ 0 → 0 ≡ place s
unfolding place fault_at
none_placed s e = rw e

pub place_told : (r : Result Packet Unread) (s : List ℕ) → Says r s → place_of r ≡ place s
place_told (Ok p) s w = none_placed s (read_told p s w)
place_told (Err u) s w = w.2

-- a packet that was read has the header and the size that the octets say
pub size_told : (p : Packet) (s : List ℕ) → Says (Ok p) s → (header_of (Ok p) ≡ header s) × (size_of (Ok p) ≡ size s)
unfolding header size
size_told (Space t x a f c n) s w = simp (eq-eqb (version s) 0 w.1) (refl, omega (arith, w.7))
size_told (Encapsulation p u x h n) s w =
    let b : Within s = within s w.0 in
    simp (ne_eqb (version s) 0 w.1) (w.5, omega (arith, w.5, w.6, simp (ne_eqb (version s) 0 w.1) at b))

-- the part from a to e of s is the data that the definition says, where it says, and lies within s
abbrev pub PartIs : ℕ → ℕ → List ℕ → Type 0
PartIs a e s = (a ≤ e) × (e ≤ length s) × (take (e - a) (drop a s) ≡ content s) × (a ≡ content_at s)

read_part : (s : List ℕ) {a e : ℕ} → refusal s ≡ 0 → (a ≡ header s) × (e ≡ size s) → PartIs a e s
unfolding content content_at
read_part s r z = let b = within s r in rw (z.0, z.1) (simp (eq-eqb (refusal s) 0 r) (b.1, b.2, refl, refl))

pub part_refused : (u : Unread) (s : List ℕ) → Says (Err u) s → PartIs 0 0 s
unfolding content content_at
part_refused u s w = simp (ne_eqb (refusal s) 0 (λ z. omega (arith, w.0, w.1))) (omega arith, omega arith, refl, refl)

pub part_told : (r : Result Packet Unread) (s : List ℕ) → Says r s → PartIs (header_of r) (size_of r) s
part_told (Ok p) s w = read_part s (read_told p s w) (size_told p s w)
part_told (Err u) s w = part_refused u s w
