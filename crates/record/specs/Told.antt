-- What the answers of the crate's code tell, as the paper's number and values.
use Rattle.std.specs.Prelude.{ℕ, List, [], ◌∷◌, Result, Ok, Err}
use Rattle.refusal.specs.Refusal.{number}
use Rattle.refusal.specs.declared.Refusal.{Refusal}
use Rattle.record.specs.Record.{fields}
use Rattle.record.specs.declared.Record.{Record}
use Rattle.record.specs.declared.FileFault.{FileFault}
use Rattle.record.specs.declared.FileFault.TheVariants as fault

-- one record read: no refusal (0) and the fields; or the number of the refusal
abbrev pub told_read : Result Record Refusal → List ℕ
told_read (Ok r) = 0 ∷ fields r
told_read (Err refusal) = number refusal ∷ []

-- one record written: no refusal (0) and the octets written; or the number of the refusal
abbrev pub told_written : Result ℕ Refusal → List ℕ
told_written (Ok n) = 0 ∷ n ∷ []
told_written (Err refusal) = number refusal ∷ []

-- the number of a file's fault
abbrev pub fault_number : FileFault → ℕ
fault_number (fault.Impossible index) = 25
fault_number fault.Ragged = 26

-- a file read: no refusal (0) and the number of records; or 25 and the index; or 26
abbrev pub told_file : Result ℕ FileFault → List ℕ
told_file (Ok n) = 0 ∷ n ∷ []
told_file (Err (fault.Impossible index)) = 25 ∷ index ∷ []
told_file (Err fault.Ragged) = 26 ∷ []
