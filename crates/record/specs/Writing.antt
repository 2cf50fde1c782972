-- Writing one record.
use Rattle.std.specs.Prelude.{ℕ, List, [], ◌∷◌, not, ltb, length}
use Rattle.octets.specs.Order.{Test, ◌gives◌, first}
use Rattle.octets.specs.Output.{leading, output_after}
use Rattle.record.specs.Record.{record_size, record_octets, possible}
use Rattle.record.specs.declared.Record.{Record}

-- 9 where there is no room for the record, then 25
abbrev pub writing_tests : Record → ℕ → List (Test (List ℕ))
writing_tests r room =
    (ltb room record_size gives (9 ∷ []))
    ∷ (not (possible r) gives (25 ∷ []))
    ∷ []

-- what the writer tells where there is so much room: 0 and the octets written, or the refusal
unfoldable pub record_told : Record → ℕ → List ℕ
record_told r room = first (0 ∷ record_size ∷ []) (writing_tests r room)

-- the refusal alone, and the output after the writer
abbrev pub writing_refusal : Record → ℕ → ℕ
writing_refusal r room = leading (record_told r room)

abbrev pub record_after : Record → List ℕ → List ℕ
record_after r out = output_after (writing_refusal r (length out)) (record_octets r) out
