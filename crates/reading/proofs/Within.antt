-- A packet that is read lies within the octets: a whole packet is at least its header and at most what is there, by its kind.
use Prim.Native.Nat.{ℕ, ◌≤◌}
use mathlib.Core.Path.{◌≡◌, refl}
use mathlib.Core.List.{List}
use mathlib.Core.Bool.{Bool, true, false, cond}
use native.Mathlib.Omega.{arith}
use borrow.Author.Tests.{eq-eqb, ne_eqb}
use lib.Dec.{eqb}
use lib.ListN.{length}
use Rattle.packet.specs.Space.{version}
use Rattle.packet.specs.Encapsulation.{length_of_length, encap_header}
use Rattle.reading.specs.Reading.{header, size, refusal}
use Rattle.reading.specs.Causes.{Whole, space, encapsulation}
use Rattle.reading.proofs.Exactly.{exactly_whole}

-- a header has 1, 2, 4 or 8 octets
pub data HeaderIs (h : ℕ) : Type 0 where
  one : h ≡ 1 → HeaderIs h
  two : h ≡ 2 → HeaderIs h
  four : h ≡ 4 → HeaderIs h
  eight : h ≡ 8 → HeaderIs h

picked : (a b c : Bool) → HeaderIs (cond a 1 (cond b 2 (cond c 4 8)))
picked true b c = one refl
picked false true c = two refl
picked false false true = four refl
picked false false false = eight refl

pub header_is : (s : List ℕ) → HeaderIs (encap_header s)
header_is s = let l = length_of_length s in picked (eqb l 0) (eqb l 1) (eqb l 2)

pub header_some : {h : ℕ} → HeaderIs h → 1 ≤ h
header_some (one e) = omega arith
header_some (two e) = omega arith
header_some (four e) = omega arith
header_some (eight e) = omega arith

abbrev pub Within : List ℕ → Type 0
Within s = (1 ≤ header s) × (header s ≤ size s) × (size s ≤ length s)

pub whole_within : {s : List ℕ} → Whole s → Within s
unfolding header size
whole_within {s} (space ((v, t), i) h) = simp (eq-eqb (version s) 0 v.1) (omega arith)
whole_within {s} (encapsulation ((((t, m), l), o), e) h) =
    simp (ne_eqb (version s) 0 (λ z. omega (arith, t.0.1))) (omega (arith, header_some (header_is s)))

pub within : (s : List ℕ) → refusal s ≡ 0 → Within s
within s e = whole_within ((exactly_whole s).0 e)
