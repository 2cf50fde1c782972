-- Ways in which reading or writing a record ends, from the tests that led there, which the laws cite.
use Prim.Native.Nat.{ℕ, ◌%◌, ◌≤◌, ◌<◌}
use mathlib.Core.Path.{◌≡◌}
use mathlib.Core.List.{List, [], ◌∷◌}
use mathlib.Core.Bool.{true}
use borrow.Author.Tests.{eq-eqb, ne_eqb, lt-ltb, le-ltb}
use lib.ListN.{length}
use Rattle.record.specs.Record.{record_size, record_in, fields, possible}
use Rattle.record.specs.Reading.{possible_at, record_reading, records_in, impossible_in, file_reading}
use Rattle.record.specs.Writing.{record_told}
use Rattle.record.specs.declared.Record.{Record}

-- ---- reading one record
module _ (s : List ℕ) (h : length s ≡ record_size) where
  pub is_read : possible_at s ≡ true → 0 ∷ fields (record_in s) ≡ record_reading s
  unfolding record_reading
  is_read p = simp (eq-eqb (length s) record_size h, p)

-- ---- writing one
module _ (r : Record) (room : ℕ) (h : record_size ≤ room) where
  pub is_written : possible r ≡ true → 0 ∷ record_size ∷ [] ≡ record_told r room
  unfolding record_told
  is_written p = simp (le-ltb room record_size h, p)

-- ---- reading a file
module _ (s : List ℕ) where
  pub ragged : (length s % record_size ≡ 0 → ⊥) → 26 ∷ [] ≡ file_reading s
  unfolding file_reading
  ragged h = simp (ne_eqb (length s % record_size) 0 h)

  module _ (h : length s % record_size ≡ 0) where
    pub one_impossible : impossible_in s < records_in s → 25 ∷ impossible_in s ∷ [] ≡ file_reading s
    unfolding file_reading
    one_impossible l = simp (eq-eqb (length s % record_size) 0 h, lt-ltb (impossible_in s) (records_in s) l)

    pub all_possible : records_in s ≤ impossible_in s → 0 ∷ records_in s ∷ [] ≡ file_reading s
    unfolding file_reading
    all_possible l = simp (eq-eqb (length s % record_size) 0 h, le-ltb (impossible_in s) (records_in s) l)
