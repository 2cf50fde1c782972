-- Each answer is given exactly when its test holds and every test before it fails: the law of every order, at the orders of records.
use Prim.Native.Nat.{ℕ}
use mathlib.Core.Path.{◌≡◌}
use mathlib.Core.List.{List, [], ◌∷◌}
use Rattle.octets.specs.Order.{Because}
use Rattle.octets.proofs.Order.{exactly}
use Rattle.record.specs.Record.{record_size, record_in, fields}
use Rattle.record.specs.Reading.{record_tests, record_reading, records_in, file_tests, file_reading}
use Rattle.record.specs.Writing.{writing_tests, record_told}
use Rattle.record.specs.declared.Record.{Record}

pub reading_exactly : (s told : List ℕ)
    → (record_reading s ≡ told → Because (0 ∷ fields (record_in s)) (record_tests s) told) × (Because (0 ∷ fields (record_in s)) (record_tests s) told → record_reading s ≡ told)
unfolding record_reading
reading_exactly s told = exactly (0 ∷ fields (record_in s)) (record_tests s) told

pub writing_exactly : (r : Record) (room : ℕ) (told : List ℕ)
    → (record_told r room ≡ told → Because (0 ∷ record_size ∷ []) (writing_tests r room) told) × (Because (0 ∷ record_size ∷ []) (writing_tests r room) told → record_told r room ≡ told)
unfolding record_told
writing_exactly r room told = exactly (0 ∷ record_size ∷ []) (writing_tests r room) told

pub file_exactly : (s told : List ℕ)
    → (file_reading s ≡ told → Because (0 ∷ records_in s ∷ []) (file_tests s) told) × (Because (0 ∷ records_in s ∷ []) (file_tests s) told → file_reading s ≡ told)
unfolding file_reading
file_exactly s told = exactly (0 ∷ records_in s ∷ []) (file_tests s) told
