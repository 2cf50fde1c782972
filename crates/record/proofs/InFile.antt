-- A record in a file is what the reader of one record is given: octets after the first 20 are not looked at.
use Prim.Native.Nat.{ℕ, ◌*◌, ◌≤◌, ◌<◌}
use mathlib.Core.Path.{◌≡◌, ◌∙◌}
use mathlib.Core.List.{List}
use mathlib.Core.Bool.{false}
use native.Mathlib.Omega.{arith}
use borrow.Author.Tests.{eq-eqb}
use lib.ListN.{length, take, length-drop}
use lib.Seq.{length-take-le}
use Rattle.octets.proofs.Order.{either}
use Rattle.record.specs.Record.{record_size}
use Rattle.record.specs.Reading.{possible_at, record_refusal, record_reading, records_in}
use Rattle.record.proofs.Chunks.{same_possible}
use Rattle.record.proofs.First.{record_from}

-- the law: a record of a whole file is refused 25 by the reader of one record exactly where the file's reader takes it for impossible
pub as_one : (s : List ℕ) (j : ℕ) → j < records_in s
    → (record_refusal (take record_size (record_from j s)) ≡ 25 → possible_at (record_from j s) ≡ false)
    × (possible_at (record_from j s) ≡ false → record_refusal (take record_size (record_from j s)) ≡ 25)
unfolding record_reading
as_one s j h =
    let t = record_from j s in
    let long : record_size ≤ length t = rw (length-drop (j * record_size) s) (omega (arith, h)) in
    let has : length (take record_size t) ≡ record_size = length-take-le record_size t long in
    let same = same_possible t in (
      λ e. either (possible_at t) (λ p. absurd (omega (arith, simp (eq-eqb (length (take record_size t)) record_size has, same ∙ p) at e))) (λ f. f),
      λ f. simp (eq-eqb (length (take record_size t)) record_size has, same ∙ f),
    )
