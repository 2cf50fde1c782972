-- What each answer tells fixes it, so each promise permits one; and what each case says of the octets.
use Prim.Native.Nat.{ℕ, ◌%◌, ◌<◌}
use mathlib.Core.Path.{◌≡◌, refl, sym, ap, ◌∙◌}
use mathlib.Core.Logic.{◌⊎◌, inl, inr, ⊎_elim}
use mathlib.Core.List.{List, [], ◌∷◌}
use mathlib.Core.Bool.{not}
use Rattle.std.specs.Prelude.{Result, Ok, Err}
use native.Mathlib.Omega.{arith}
use lib.Dec.{eqb, ltb}
use lib.ListN.{length}
use Rattle.octets.specs.Output.{leading}
use Rattle.octets.proofs.Order.{either, told_values, told_number}
use Rattle.refusal.specs.Refusal.{number}
use Rattle.refusal.specs.declared.Refusal.{Refusal}
use Rattle.refusal.proofs.Named.{alike, some as above_0}
use Rattle.record.specs.Record.{record_size, record_in, fields}
use Rattle.record.specs.Reading.{record_tests, record_refusal, record_reading, records_in, impossible_in, file_refusal, file_reading}
use Rattle.record.specs.Told.{told_read, told_written, told_file}
use Rattle.record.specs.declared.Record.{Record}
use Rattle.record.specs.declared.FileFault.{FileFault}
use Rattle.record.specs.declared.FileFault.TheVariants as fault

fields_fix : (r q : Record) → fields r ≡ fields q → r ≡ q
fields_fix r q e =
    let a : r.station ≡ q.station = cc in
    let b : r.apid ≡ q.apid = cc in
    let c : r.units ≡ q.units = cc in
    let d : r.packets ≡ q.packets = cc in
    let f : r.missing ≡ q.missing = cc in
    let g : r.broken ≡ q.broken = cc in
    λ i. record { station = a i; apid = b i; units = c i; packets = d i; missing = f i; broken = g i }

read_fixes : (a b : Result Record Refusal) → told_read a ≡ told_read b → a ≡ b
read_fixes (Ok r) (Ok q) e = let f = fields_fix r q cc in cc
read_fixes (Err k) (Err m) e = let f = alike k m cc in cc
read_fixes (Ok r) (Err m) e = let z : number m ≡ 0 = cc in absurd (omega (arith, above_0 m))
read_fixes (Err k) (Ok q) e = let z : number k ≡ 0 = cc in absurd (omega (arith, above_0 k))

written_fixes : (a b : Result ℕ Refusal) → told_written a ≡ told_written b → a ≡ b
written_fixes (Ok n) (Ok m) e = cc
written_fixes (Err k) (Err m) e = let f = alike k m cc in cc
written_fixes (Ok n) (Err m) e = let z : number m ≡ 0 = cc in absurd (omega (arith, above_0 m))
written_fixes (Err k) (Ok m) e = let z : number k ≡ 0 = cc in absurd (omega (arith, above_0 k))

file_fixes : (a b : Result ℕ FileFault) → told_file a ≡ told_file b → a ≡ b
file_fixes (Ok n) (Ok m) e = cc
file_fixes (Err (fault.Impossible n)) (Err (fault.Impossible m)) e = cc
file_fixes (Err fault.Ragged) (Err fault.Ragged) e = refl
file_fixes (Ok n) (Err (fault.Impossible m)) e = let z : ◌≡◌ {A = ℕ} 0 25 = cc in absurd (omega arith)
file_fixes (Err (fault.Impossible m)) (Ok n) e = let z : ◌≡◌ {A = ℕ} 0 25 = cc in absurd (omega arith)
file_fixes (Ok n) (Err fault.Ragged) e = let z : ◌≡◌ {A = ℕ} 0 26 = cc in absurd (omega arith)
file_fixes (Err fault.Ragged) (Ok n) e = let z : ◌≡◌ {A = ℕ} 0 26 = cc in absurd (omega arith)
file_fixes (Err (fault.Impossible n)) (Err fault.Ragged) e = let z : ◌≡◌ {A = ℕ} 25 26 = cc in absurd (omega arith)
file_fixes (Err fault.Ragged) (Err (fault.Impossible n)) e = let z : ◌≡◌ {A = ℕ} 25 26 = cc in absurd (omega arith)

module _ (told : List ℕ) where
  pub one_read : (a b : Result Record Refusal) → told_read a ≡ told → told_read b ≡ told → a ≡ b
  one_read a b e f = read_fixes a b (e ∙ sym f)

  pub one_written : (a b : Result ℕ Refusal) → told_written a ≡ told → told_written b ≡ told → a ≡ b
  one_written a b e f = written_fixes a b (e ∙ sym f)

  pub one_file : (a b : Result ℕ FileFault) → told_file a ≡ told → told_file b ≡ told → a ≡ b
  one_file a b e f = file_fixes a b (e ∙ sym f)

-- ---- what each case says of the octets
module _ (s : List ℕ) where
  pub read_fields : (r : Record) → 0 ∷ fields r ≡ record_reading s → (record_refusal s ≡ 0) × (r ≡ record_in s)
  unfolding record_reading
  read_fields r e = (sym (ap leading e), fields_fix r (record_in s) (told_values (fields (record_in s)) (record_tests s) (omega arith, (omega arith, tt)) (fields r) e))

  pub read_refused : (number : ℕ) → number ∷ [] ≡ record_reading s → (record_refusal s ≡ number) × (0 < record_refusal s)
  unfolding record_reading
  read_refused number e =
      let some = told_number _ _ (record_tests s) (omega arith, (omega arith, tt)) number e in
      let same = ap leading e in
      (sym same, omega (arith, some, same))

  -- a file: what is told begins with the number, and which test gave it settles the rest
  file_told : {told : List ℕ} → told ≡ file_reading s
      → (told ≡ 26 ∷ []) ⊎ ((told ≡ 25 ∷ impossible_in s ∷ []) ⊎ (told ≡ 0 ∷ records_in s ∷ []))
  unfolding file_reading
  file_told e =
      either (not (eqb (length s % record_size) 0)) (λ t. inl (simp t at e))
      (λ f. either (ltb (impossible_in s) (records_in s)) (λ t. inr (inl (simp (f, t) at e))) (λ g. inr (inr (simp (f, g) at e))))

  number_told : {told : List ℕ} → told ≡ file_reading s → file_refusal s ≡ leading told
  number_told e = ap leading (sym e)

  pub file_records : (n : ℕ) → 0 ∷ n ∷ [] ≡ file_reading s → (file_refusal s ≡ 0) × (n ≡ records_in s)
  file_records n e =
      (number_told e, ⊎_elim (λ f. let z : ◌≡◌ {A = ℕ} 0 26 = cc in absurd (omega arith)) (⊎_elim (λ f. let z : ◌≡◌ {A = ℕ} 0 25 = cc in absurd (omega arith)) (λ f. cc)) (file_told e))

  pub file_impossible : (i : ℕ) → 25 ∷ i ∷ [] ≡ file_reading s → (file_refusal s ≡ 25) × (i ≡ impossible_in s)
  file_impossible i e =
      (number_told e, ⊎_elim (λ f. let z : ◌≡◌ {A = ℕ} 25 26 = cc in absurd (omega arith)) (⊎_elim (λ f. cc) (λ f. let z : ◌≡◌ {A = ℕ} 25 0 = cc in absurd (omega arith))) (file_told e))

  pub file_ragged : 26 ∷ [] ≡ file_reading s → file_refusal s ≡ 26
  file_ragged e = number_told e
