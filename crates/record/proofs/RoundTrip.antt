-- Reading what was written gives the fields back, and writing what was read gives the octets back: each number is its octets, and back
-- (`Again` of the crate octets), and a record that is written or read is possible.
use Prim.Native.Nat.{ℕ, ◌+◌, ◌≤◌}
use mathlib.Core.Path.{◌≡◌, refl, sym, ap, ◌∙◌}
use mathlib.Core.List.{List, [], ◌∷◌, ◌++◌}
use mathlib.Core.Bool.{true, not}
use native.Mathlib.Omega.{arith}
use borrow.Author.Tests.{eq-eqb, ltb-false, eqb-true, not-false}
use lib.Dec.{eqb, ltb}
use lib.ListN.{length, take, drop}
use lib.Seq.{take_all, take_at}
use Rattle.octets.specs.Octets.{octets2, octets4, AreOctets}
use Rattle.octets.specs.Output.{leading, put, output_after}
use Rattle.octets.proofs.Order.{either}
use Rattle.octets.proofs.Again.{two, four, read_two, read_four}
use Rattle.record.specs.Record.{record_size, record_in, Wide, record_octets, fields, possible}
use Rattle.record.specs.Reading.{possible_at, record_refusal, record_reading}
use Rattle.record.specs.Writing.{record_told, writing_refusal, record_after}
use Rattle.record.specs.declared.Record.{Record}
use Rattle.record.proofs.Reading.{is_read, is_written}

-- ---- reader after writer, for fields of the record's widths
module _ (r : Record) (w : Wide r) where
  pub same_back : record_in (record_octets r) ≡ r
  unfolding record_octets
  same_back i = record {
    station = read_two r.station w.station i;
    apid = read_two r.apid w.apid i;
    units = read_four r.units w.units i;
    packets = read_four r.packets w.packets i;
    missing = read_four r.missing w.missing i;
    broken = read_four r.broken w.broken i;
  }

  has_20 : length (record_octets r) ≡ record_size
  unfolding record_octets
  has_20 = refl

  module _ (room : ℕ) (e : writing_refusal r room ≡ 0) where
    -- what is written is possible, and there is room for it
    not_refused : (record_size ≤ room) × (possible r ≡ true)
    unfolding record_told
    not_refused =
        either (ltb room record_size) (λ h. absurd (omega (arith, simp h at e)))
        (λ f. either (not (possible r)) (λ h. absurd (omega (arith, simp (f, h) at e)))
        (λ g. (ltb-false _ _ f, not-false _ g)))

    pub read_written : record_reading (record_octets r) ≡ 0 ∷ fields r
    unfolding possible_at
    read_written = sym (is_read (record_octets r) has_20 (ap possible same_back ∙ not_refused.1)) ∙ ap (λ (q : Record). 0 ∷ fields q) same_back

  at_the_front : (number : ℕ) (out : List ℕ) → number ≡ 0 → take record_size (output_after number (record_octets r) out) ≡ record_octets r
  unfolding output_after put
  at_the_front number out e = simp (eq-eqb number 0 e) (take_at (record_octets r) (drop (0 + length (record_octets r)) out) record_size has_20)

  -- so it is of the code: the record's octets in the output read so
  pub read_output : (out : List ℕ) → writing_refusal r (length out) ≡ 0 → record_reading (take record_size (record_after r out)) ≡ 0 ∷ fields r
  read_output out e = ap record_reading (at_the_front (writing_refusal r (length out)) out e) ∙ read_written (length out) e

-- ---- writer after reader
module _ (s : List ℕ) (small : AreOctets s) (e : record_refusal s ≡ 0) where
  was_read : (length s ≡ record_size) × (possible_at s ≡ true)
  unfolding record_reading
  was_read =
      either (not (eqb (length s) record_size)) (λ h. absurd (omega (arith, simp h at e)))
      (λ f. either (not (possible_at s)) (λ h. absurd (omega (arith, simp (f, h) at e)))
      (λ g. (eqb-true _ _ (not-false _ f), not-false _ g)))

  pub write_read : record_octets (record_in s) ≡ s
  unfolding record_octets
  write_read =
      let h = was_read.0 in
      let r = record_in s in
      let a = octets2 r.station in
      let b = a ++ octets2 r.apid in
      let c = b ++ octets4 r.units in
      let d = c ++ octets4 r.packets in
      let f = d ++ octets4 r.missing in
      four s small f 16 r.broken (omega arith) refl
      (four s small d 12 r.missing (omega arith) refl
      (four s small c 8 r.packets (omega arith) refl
      (four s small b 4 r.units (omega arith) refl
      (two s small a 2 r.apid (omega arith) refl
      (two s small [] 0 r.station (omega arith) refl refl)))))
      ∙ take_all record_size s (omega arith)

  -- and it is not refused where there is room
  pub accepted_again : (room : ℕ) → record_size ≤ room → writing_refusal (record_in s) room ≡ 0
  unfolding possible_at
  accepted_again room h = sym (ap leading (is_written (record_in s) room h was_read.1))
