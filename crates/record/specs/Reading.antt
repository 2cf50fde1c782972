-- Reading one record, and a file of records.
use Rattle.std.specs.Prelude.{ℕ, zero, suc, ◌/◌, ◌%◌, List, [], ◌∷◌, Bool, cond, not, length, drop, eqb, ltb}
use Rattle.octets.specs.Order.{Test, ◌gives◌, first}
use Rattle.octets.specs.Output.{leading}
use Rattle.record.specs.Record.{record_size, record_in, fields, possible}

-- whether the record at the front of some octets is possible
unfoldable pub possible_at : List ℕ → Bool
possible_at s = possible (record_in s)

-- 26 for a single record that is not 20 octets, then 25
abbrev pub record_tests : List ℕ → List (Test (List ℕ))
record_tests s =
    (not (eqb (length s) record_size) gives (26 ∷ []))
    ∷ (not (possible_at s) gives (25 ∷ []))
    ∷ []

-- what reading one record tells: 0 and the fields, or the refusal
unfoldable pub record_reading : List ℕ → List ℕ
record_reading s = first (0 ∷ fields (record_in s)) (record_tests s)

-- the refusal alone
abbrev pub record_refusal : List ℕ → ℕ
record_refusal s = leading (record_reading s)

-- how many of the first n records come before one that is not possible: its index, or n where there is none
unfoldable pub possible_before : ℕ → List ℕ → ℕ
possible_before zero s = 0
possible_before (suc n) s = cond (possible_at s) (suc (possible_before n (drop record_size s))) 0

-- the number of records in a file; and the index of the first impossible one, or that number where there is none
abbrev pub records_in : List ℕ → ℕ
records_in s = length s / record_size

abbrev pub impossible_in : List ℕ → ℕ
impossible_in s = possible_before (records_in s) s

-- 26 for a file that is not a multiple of 20 octets, then 25 for the first impossible record, and its index
abbrev pub file_tests : List ℕ → List (Test (List ℕ))
file_tests s =
    (not (eqb (length s % record_size) 0) gives (26 ∷ []))
    ∷ (ltb (impossible_in s) (records_in s) gives (25 ∷ impossible_in s ∷ []))
    ∷ []

-- what reading a file tells: 0 and the number of records; or the refusal, 25 with the index
unfoldable pub file_reading : List ℕ → List ℕ
file_reading s = first (0 ∷ records_in s ∷ []) (file_tests s)

abbrev pub file_refusal : List ℕ → ℕ
file_refusal s = leading (file_reading s)
