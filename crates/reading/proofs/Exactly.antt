-- Each number is given exactly when its cause holds. A cause fixes which tests hold, so the order tells its number (`tells`); and for every
-- list of octets some cause holds or the packet is whole (`verdict`), so a number that is given has its cause.
use Prim.Native.Nat.{ℕ, ◌≤◌, ◌<◌}
use mathlib.Core.Path.{◌≡◌, sym, ap, subst, ◌∙◌}
use mathlib.Core.Logic.{◌⊎◌, inl, inr, ⊎_elim}
use mathlib.Core.List.{List, ◌∷◌}
use native.Mathlib.Omega.{arith}
use borrow.Author.Tests.{eq-eqb, ne_eqb, lt-ltb, le-ltb, ltb-true, ltb-false, eqb-true, eqb-false}
use lib.Dec.{ltb, eqb}
use lib.ListN.{length}
use Rattle.refusal.specs.Refusal.{number, named}
use Rattle.refusal.proofs.Numbers.{of_its_name}
use Rattle.octets.specs.Output.{leading}
use Rattle.octets.specs.Order.{first, numbers_of}
use Rattle.octets.proofs.Order.{either, leads_first}
use Rattle.packet.specs.Space.{version, space_header, space_size, flagged_idle}
use Rattle.packet.specs.Encapsulation.{limit, encap_header, encap_size, misnamed, empty_named}
use Rattle.reading.specs.Places.{fault_at}
use Rattle.reading.specs.Reading.{refused_by, reading_tests, refusal, place, fields, reading}
use Rattle.reading.specs.Causes.{Cause, no_octets, no_version, space_header_cut, idle, space_packet, encap_header_cut, names_nothing, less_than_header, over_limit, no_content, encap_packet}
use Rattle.reading.specs.Causes.{Version, SpaceThere, EncapThere, EncapLong, EncapLimited, Whole, space, encapsulation}
use Rattle.reading.proofs.ByKind.{space_reading, encap_reading}

-- what is told
tells : {s : List ℕ} {n : ℕ} → Cause s n → reading s ≡ refused_by s n
unfolding reading_tests reading
tells {s} (no_octets e) = simp (eq-eqb (length s) 0 e)
tells {s} (no_version p u v) = simp (ne_eqb (length s) 0 (λ e. omega arith), ne_eqb (version s) 0 u, ne_eqb (version s) 7 v)
tells {s} (space_header_cut v h) = space_reading s v ∙ simp (lt-ltb _ _ h)
tells {s} (idle t h) = space_reading s t.0 ∙ simp (le-ltb _ _ t.1, h)
tells {s} (space_packet (t, i) h) = space_reading s t.0 ∙ simp (le-ltb _ _ t.1, i, lt-ltb _ _ h)
tells {s} (encap_header_cut v h) = encap_reading s v ∙ simp (lt-ltb _ _ h)
tells {s} (names_nothing t h) = encap_reading s t.0 ∙ simp (le-ltb _ _ t.1, h)
tells {s} (less_than_header (t, m) h) = encap_reading s t.0 ∙ simp (le-ltb _ _ t.1, m, lt-ltb _ _ h)
tells {s} (over_limit ((t, m), l) h) = encap_reading s t.0 ∙ simp (le-ltb _ _ t.1, m, le-ltb _ _ l, lt-ltb _ _ h)
tells {s} (no_content (((t, m), l), o) h) = encap_reading s t.0 ∙ simp (le-ltb _ _ t.1, m, le-ltb _ _ l, le-ltb _ _ o, h)
tells {s} (encap_packet ((((t, m), l), o), e) h) =
    encap_reading s t.0 ∙ simp (le-ltb _ _ t.1, m, le-ltb _ _ l, le-ltb _ _ o, e, lt-ltb _ _ h)

whole_tells : {s : List ℕ} → Whole s → reading s ≡ 0 ∷ fields s
whole_tells {s} (space (t, i) h) = space_reading s t.0 ∙ simp (le-ltb _ _ t.1, i, le-ltb _ _ h)
whole_tells {s} (encapsulation ((((t, m), l), o), e) h) =
    encap_reading s t.0 ∙ simp (le-ltb _ _ t.1, m, le-ltb _ _ l, le-ltb _ _ o, e, le-ltb _ _ h)

pub refused : {s : List ℕ} {n : ℕ} → Cause s n → refused_by s n ≡ reading s
refused why = sym (tells why)

pub accepted : {s : List ℕ} → Whole s → 0 ∷ fields s ≡ reading s
accepted w = sym (whole_tells w)

-- and the number of it
pub gives : {s : List ℕ} {n : ℕ} → Cause s n → refusal s ≡ n
unfolding refusal
gives why = ap leading (tells why)

pub gives_place : {s : List ℕ} {n : ℕ} → Cause s n → place s ≡ fault_at s n
unfolding place
gives_place {s} why = ap (fault_at s) (gives why)

pub whole_gives : {s : List ℕ} → Whole s → refusal s ≡ 0
unfolding refusal
whole_gives w = ap leading (whole_tells w)

-- a number that is given is one of 1 to 7
pub numbered : {s : List ℕ} {n : ℕ} → Cause s n → (0 < n) × (n ≤ 7)
numbered (no_octets e) = omega arith
numbered (no_version p u v) = omega arith
numbered (space_header_cut v h) = omega arith
numbered (idle t h) = omega arith
numbered (space_packet t h) = omega arith
numbered (encap_header_cut v h) = omega arith
numbered (names_nothing t h) = omega arith
numbered (less_than_header t h) = omega arith
numbered (over_limit t h) = omega arith
numbered (no_content t h) = omega arith
numbered (encap_packet t h) = omega arith

-- and each has its name
pub name_told : {s : List ℕ} {n : ℕ} → Cause s n → number (named n) ≡ n
name_told {n = n} why = let k = numbered why in of_its_name n k.0 (omega (arith, k.1))

-- ---- for every list of octets the packet is whole or some cause holds
abbrev pub Verdict : List ℕ → Type 0
Verdict s = Whole s ⊎ ((n : ℕ) × Cause s n)

because : {s : List ℕ} {n : ℕ} → Cause s n → Verdict s
because {n = n} why = inr (n, why)

module _ (s : List ℕ) where
  of_space : Version 0 s → Verdict s
  of_space v =
      either (ltb (length s) space_header) (λ h. because (space_header_cut v (ltb-true _ _ h)))
      (λ h. let t : SpaceThere s = (v, ltb-false _ _ h) in
      either (flagged_idle s) (λ i. because (idle t i))
      (λ i. either (ltb (length s) (space_size s)) (λ l. because (space_packet (t, i) (ltb-true _ _ l)))
      (λ l. inl (space (t, i) (ltb-false _ _ l)))))

  end_of_encap : EncapLong s → Verdict s
  end_of_encap l =
      either (ltb limit (encap_size s)) (λ h. because (over_limit l (ltb-true _ _ h)))
      (λ h. let o : EncapLimited s = (l, ltb-false _ _ h) in
      either (empty_named s) (λ e. because (no_content o e))
      (λ e. either (ltb (length s) (encap_size s)) (λ c. because (encap_packet (o, e) (ltb-true _ _ c)))
      (λ c. inl (encapsulation (o, e) (ltb-false _ _ c)))))

  of_encap : Version 7 s → Verdict s
  of_encap v =
      either (ltb (length s) (encap_header s)) (λ h. because (encap_header_cut v (ltb-true _ _ h)))
      (λ h. let t : EncapThere s = (v, ltb-false _ _ h) in
      either (misnamed s) (λ m. because (names_nothing t m))
      (λ m. either (ltb (encap_size s) (encap_header s)) (λ l. because (less_than_header (t, m) (ltb-true _ _ l)))
      (λ l. end_of_encap ((t, m), ltb-false _ _ l))))

  pub verdict : Verdict s
  verdict =
      either (eqb (length s) 0) (λ e. because (no_octets (eqb-true _ _ e)))
      (λ e. let p : 0 < length s = omega (arith, eqb-false (length s) 0 e) in
      either (eqb (version s) 0) (λ v. of_space (p, eqb-true _ _ v))
      (λ v. either (eqb (version s) 7) (λ w. of_encap (p, eqb-true _ _ w))
      (λ w. because (no_version p (eqb-false _ _ v) (eqb-false _ _ w)))))

  -- ---- the laws: a number is given exactly when its cause holds, and none exactly when the packet is whole
  pub exactly : (n : ℕ) → 0 < n → (refusal s ≡ n → Cause s n) × (Cause s n → refusal s ≡ n)
  exactly n p = (λ e. ⊎_elim (λ w. absurd (omega (arith, whole_gives w))) (λ k. subst (Cause s) (sym (gives k.1) ∙ e) k.1) verdict, gives)

  pub exactly_whole : (refusal s ≡ 0 → Whole s) × (Whole s → refusal s ≡ 0)
  exactly_whole = (λ e. ⊎_elim (λ w. w) (λ k. absurd (omega (arith, gives k.1, numbered k.1))) verdict, whole_gives)

-- a refusal has a name
pub named_refusal : (s : List ℕ) → (refusal s ≡ 0 → ⊥) → number (named (refusal s)) ≡ refusal s
named_refusal s some = ⊎_elim (λ w. absurd (some (whole_gives w))) (λ k. ap (λ n. number (named n)) (gives k.1) ∙ name_told k.1 ∙ sym (gives k.1)) (verdict s)

pub refusal_most : (s : List ℕ) → refusal s ≤ 7
refusal_most s = ⊎_elim (λ w. omega (arith, whole_gives w)) (λ k. omega (arith, gives k.1, numbered k.1)) (verdict s)

-- and it is what the order of the numbers gives
pub in_order : (s : List ℕ) → refusal s ≡ first 0 (numbers_of (reading_tests s))
unfolding refusal reading
in_order s = leads_first (0 ∷ fields s) (reading_tests s)
