-- A file is refused 25 with the index of its first impossible record, and is good exactly where there is none. By induction over its
-- records, each step of which drops 20 octets: those that were counted are possible, and the one at which the count stopped is not.
use Prim.Native.Nat.{ℕ, zero, suc, ◌+◌, ◌*◌, ◌%◌, ◌≤◌, ◌<◌}
use mathlib.Core.Path.{◌≡◌, sym, ap, ◌∙◌}
use mathlib.Core.Logic.{◌⊎◌, inl, inr, ⊎_elim}
use mathlib.Core.List.{List, [], ◌∷◌}
use mathlib.Core.Bool.{true, false, true≢false}
use native.Mathlib.Omega.{arith}
use borrow.Author.Tests.{eqb-true, eqb-false, ltb-true, ltb-false}
use lib.Dec.{eqb, ltb}
use lib.ListN.{length, drop}
use lib.Seq.{drop-drop}
use Rattle.octets.proofs.Order.{either}
use Rattle.record.specs.Record.{record_size}
use Rattle.record.specs.Reading.{possible_at, possible_before, records_in, impossible_in, file_reading}
use Rattle.record.proofs.Reading.{ragged, one_impossible, all_possible}

-- the record of index j
abbrev pub record_from : ℕ → List ℕ → List ℕ
record_from j s = drop (j * record_size) s

from_next : (j : ℕ) (s : List ℕ) → possible_at (record_from j (drop record_size s)) ≡ possible_at (record_from (suc j) s)
from_next j s =
    let e : record_size + j * record_size ≡ suc j * record_size = omega arith in
    ap possible_at (drop-drop (j * record_size) record_size s ∙ ap (λ n. drop n s) e)

pub bounded : (n : ℕ) (s : List ℕ) → possible_before n s ≤ n
unfolding possible_before
bounded zero s = omega arith
bounded (suc n) s = either (possible_at s) (λ t. simp t (omega (arith, bounded n (drop record_size s)))) (λ f. simp f (omega arith))

pub passed : (n : ℕ) (s : List ℕ) (j : ℕ) → j < possible_before n s → possible_at (record_from j s) ≡ true
unfolding possible_before
passed zero s j h = absurd (omega arith)
passed (suc n) s zero h = either (possible_at s) (λ t. t) (λ f. absurd (omega (arith, simp f at h)))
passed (suc n) s (suc j) h =
    either (possible_at s) (λ t. sym (from_next j s) ∙ passed n (drop record_size s) j (omega (arith, simp t at h))) (λ f. absurd (omega (arith, simp f at h)))

pub stopped : (n : ℕ) (s : List ℕ) → possible_before n s < n → possible_at (record_from (possible_before n s) s) ≡ false
unfolding possible_before
stopped zero s h = absurd (omega arith)
stopped (suc n) s h =
    either (possible_at s)
    (λ t. simp t (sym (from_next (possible_before n (drop record_size s)) s) ∙ stopped n (drop record_size s) (omega (arith, simp t at h))))
    (λ f. simp f)

-- i is the index of the first impossible record exactly where record i is not possible and every one before it is
abbrev pub FirstAt : ℕ → List ℕ → Type 0
FirstAt i s = (possible_at (record_from i s) ≡ false) × ((j : ℕ) → j < i → possible_at (record_from j s) ≡ true)

abbrev pub AllPossible : ℕ → List ℕ → Type 0
AllPossible n s = (j : ℕ) → j < n → possible_at (record_from j s) ≡ true

module _ (n : ℕ) (s : List ℕ) where
  not_before : {i : ℕ} → i < n → FirstAt i s → possible_before n s < i → ⊥
  not_before h (bad, good) l = true≢false (sym (good (possible_before n s) l) ∙ stopped n s (omega arith))

  not_after : {i : ℕ} → FirstAt i s → i < possible_before n s → ⊥
  not_after {i} (bad, good) l = true≢false (sym (passed n s i l) ∙ bad)

  first_found : {i : ℕ} → i < n → FirstAt i s → possible_before n s ≡ i
  first_found {i} h f = let a = not_before h f in let b = not_after f in omega (arith, a, b)

  all_found : AllPossible n s → n ≤ possible_before n s
  all_found all =
      either (ltb (possible_before n s) n) (λ t. let l = ltb-true (possible_before n s) n t in absurd (true≢false (sym (all (possible_before n s) l) ∙ stopped n s l)))
      (λ f. ltb-false _ _ f)

-- ---- the laws of a file
module _ (s : List ℕ) where
  abbrev Whole : Type 0
  Whole = length s % record_size ≡ 0

  -- what was told, by the test that gave it
  ends : {told : List ℕ} → file_reading s ≡ told
      → ((Whole → ⊥) × (told ≡ 26 ∷ [])) ⊎ ((Whole × (impossible_in s < records_in s) × (told ≡ 25 ∷ impossible_in s ∷ [])) ⊎ (Whole × (records_in s ≤ impossible_in s) × (told ≡ 0 ∷ records_in s ∷ [])))
  unfolding file_reading
  ends e =
      either (eqb (length s % record_size) 0)
      (λ w. either (ltb (impossible_in s) (records_in s))
      (λ t. inr (inl (eqb-true _ _ w, ltb-true _ _ t, sym (simp (w, t) at e))))
      (λ f. inr (inr (eqb-true _ _ w, ltb-false _ _ f, sym (simp (w, f) at e)))))
      (λ r. inl (eqb-false _ _ r, sym (simp r at e)))

  -- 26 exactly where the octets are no multiple of 20
  pub refused_26 : (file_reading s ≡ 26 ∷ [] → Whole → ⊥) × ((Whole → ⊥) → file_reading s ≡ 26 ∷ [])
  refused_26 = (
    λ e. ⊎_elim (λ a. a.0) (⊎_elim (λ b. let t = b.2 in let z : ◌≡◌ {A = ℕ} 26 25 = cc in absurd (omega arith)) (λ c. let t = c.2 in let z : ◌≡◌ {A = ℕ} 26 0 = cc in absurd (omega arith))) (ends e),
    λ r. sym (ragged s r),
  )

  -- 25 and i exactly where i is the index of the first impossible record
  pub refused_25 : (i : ℕ)
      → (file_reading s ≡ 25 ∷ i ∷ [] → Whole × (i < records_in s) × FirstAt i s) × (Whole × (i < records_in s) × FirstAt i s → file_reading s ≡ 25 ∷ i ∷ [])
  refused_25 i = (
    λ e. ⊎_elim (λ a. let t = a.1 in let z : ◌≡◌ {A = ℕ} 25 26 = cc in absurd (omega arith))
        (⊎_elim (λ b. let t = b.2 in let same : i ≡ impossible_in s = cc in (b.0, omega (arith, same, b.1), rw same (stopped (records_in s) s b.1, λ j l. passed (records_in s) s j l)))
        (λ c. let t = c.2 in let z : ◌≡◌ {A = ℕ} 25 0 = cc in absurd (omega arith))) (ends e),
    λ (w, h, f). let found = first_found (records_in s) s h f in sym (one_impossible s w (omega (arith, found))) ∙ ap (λ k. 25 ∷ k ∷ []) found,
  )

  -- good exactly where every record is possible
  pub good_file : (file_reading s ≡ 0 ∷ records_in s ∷ [] → Whole × AllPossible (records_in s) s) × (Whole × AllPossible (records_in s) s → file_reading s ≡ 0 ∷ records_in s ∷ [])
  good_file = (
    λ e. ⊎_elim (λ a. let t = a.1 in let z : ◌≡◌ {A = ℕ} 0 26 = cc in absurd (omega arith))
        (⊎_elim (λ b. let t = b.2 in let z : ◌≡◌ {A = ℕ} 0 25 = cc in absurd (omega arith))
        (λ c. (c.0, λ j l. passed (records_in s) s j (omega (arith, c.1))))) (ends e),
    λ (w, all). sym (all_possible s w (all_found (records_in s) s all)),
  )
