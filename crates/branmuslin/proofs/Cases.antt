-- What the reader's answer says is what the struct's numbers become.
use Prim.Native.Nat.{ℕ, ◌+◌, ◌-◌, ◌<◌}
use mathlib.Core.Path.{◌≡◌, sym, ap, ◌∙◌}
use mathlib.Core.List.{List}
use native.Mathlib.Omega.{arith}
use borrow.Author.Tests.{eq-eqb, ne_eqb}
use lib.ListN.{length, drop, length-drop}
use lib.Seq.{length-take-le}
use Rattle.std.specs.Prelude.{Result, Ok, Err, MatchResult, IsOkAnd, IsErrAnd}
use Rattle.octets.specs.Output.{unless_refused}
use Rattle.octets.proofs.Order.{set_anew, kept}
use Rattle.packet.specs.Space.{version}
use Rattle.reading.specs.Reading.{header, size, refusal, reading, content, content_at}
use Rattle.packet.specs.Told as PacketTold
use Rattle.packet.specs.Told.{size_of, header_of}
use Rattle.packet.specs.declared.Packet.{Packet}
use Rattle.packet.specs.declared.Packet.TheVariants.{Space, Encapsulation}
use Rattle.packet.specs.declared.Unread.{Unread}
use Rattle.reading.proofs.Within.{within}
use Rattle.reading.proofs.Answers.{Says, says, read_told, part_told}
use Rattle.refusal.specs.Refusal.{number}
use Rattle.refusal.specs.declared.Refusal.{Refusal}
use Rattle.writing.specs.Space.{space_octets, space_told, space_refusal}
use Rattle.writing.specs.Encapsulation.{encap_octets, encap_told, encap_refusal}
use Rattle.writing.specs.Told.{told}
use Rattle.writing.proofs.SpaceFine as SpaceFine
use Rattle.writing.proofs.EncapFine as EncapFine
use Rattle.record.specs.Record.{record_in, fields}
use Rattle.record.specs.Reading.{record_reading, record_refusal, records_in, file_reading, file_refusal}
use Rattle.record.specs.Told.{told_read, fault_number, told_file}
use Rattle.record.specs.declared.Record.{Record}
use Rattle.record.specs.declared.FileFault.{FileFault}
use Rattle.record.specs.declared.FileFault.TheVariants as fault
use Rattle.record.proofs.Answers.{read_fields, read_refused, file_records, file_impossible, file_ragged}
use Rattle.branmuslin.specs.Told.{number_of, left_of}
use Rattle.branmuslin.specs.Lent.{packet_numbers, numbers_of, place_after, record_numbers_after, records_after, index_after}

-- the data lies after the header, and has as many octets as the reader told
data_part : (p : Packet) (s : List ℕ) → Says (Ok p) s → (header_of (Ok p) ≡ content_at s) × (size_of (Ok p) - header_of (Ok p) ≡ length (content s))
data_part p s says =
    let (least, most, same, at) = part_told (Ok p) s says in
    let from = header_of (Ok p) in
    let n = size_of (Ok p) - from in
    (at, sym (length-take-le n (drop from s) (rw (length-drop from s) (omega (arith, least, most)))) ∙ ap length same)

module _ (s old : List ℕ) (at : ℕ) where
  numbers_so : (p : Packet) → Says (Ok p) s → numbers_of p ≡ packet_numbers s
  unfolding packet_numbers
  numbers_so (Space t x a f c n) says =
      let (r, v, e1, e2, e3, e4, e5, e6) = says in
      let (from, rest) = data_part (Space t x a f c n) s says in
      let octets : n ≡ length (content s) = omega (arith, rest) in
      simp (eq-eqb (version s) 0 v) (cc)
  numbers_so (Encapsulation p u x h n) says =
      let (r, v, e1, e2, e3, e4, e5) = says in
      let (from, rest) = data_part (Encapsulation p u x h n) s says in
      let octets : n ≡ length (content s) = omega (arith, rest) in
      simp (ne_eqb (version s) 0 v) (cc)

  abbrev Ends : ℕ → List ℕ → ℕ → Type 0
  Ends number numbers place = (number ≡ refusal s) × (numbers ≡ unless_refused (refusal s) (packet_numbers s) old) × (place ≡ place_after s at)

  -- where the packet is read, the place stays
  pub of_packet : (p : Packet) → PacketTold.told (Ok p) ≡ reading s → Ends 0 (numbers_of p) at
  of_packet p read =
      let w = says (Ok p) s read in
      let r = read_told p s w in
      let (number, numbers) = set_anew (refusal s) (packet_numbers s) old _ r (numbers_so p w) in (number, numbers, simp (eq-eqb (refusal s) 0 r))

  pub of_refused : (u : Unread) → PacketTold.told (Err u) ≡ reading s → Ends (number u.refusal) old u.place
  of_refused u read =
      let (r, some, where') = says (Err u) s read in
      let (n, numbers) = kept (refusal s) (packet_numbers s) old (number u.refusal) (r, omega arith) in (n, numbers, simp (ne_eqb (refusal s) 0 (λ z. omega arith)) where')

-- ---- the law on which a client's loop rests: the packet ends where its data does
pub ends_with_data : (s : List ℕ) → refusal s ≡ 0 → content_at s + length (content s) ≡ size s
unfolding content content_at
ends_with_data s e =
    let w = within s e in
    simp (eq-eqb (refusal s) 0 e)
    (omega (arith, w, length-take-le (size s - header s) (drop (header s) s) (rw (length-drop (header s) s) (omega (arith, w)))))

-- ---- what a writer told says how it ended: the number, and the octets that it leaves in the room lent for them
module _ (t x a f c : ℕ) (field : List ℕ) (room old : ℕ) where
  pub space_ends : (w : Result ℕ Refusal) → told w ≡ space_told t x a f c (length field) room
      → (number_of w ≡ space_refusal t x a f c (length field) room) × (left_of w old ≡ unless_refused (space_refusal t x a f c (length field) room) (length (space_octets t x a f c field)) old)
  space_ends (Ok n) e = SpaceFine.octets_told t x a f c field room old n e
  space_ends (Err refusal) e = SpaceFine.refusal_told t x a f c field room old (number refusal) e

module _ (p u x : ℕ) (given : List ℕ) (room old : ℕ) where
  pub encap_ends : (w : Result ℕ Refusal) → told w ≡ encap_told p u x (length given) room
      → (number_of w ≡ encap_refusal p u x (length given) room) × (left_of w old ≡ unless_refused (encap_refusal p u x (length given) room) (length (encap_octets p u x given)) old)
  encap_ends (Ok n) e = EncapFine.octets_told p u x given room old n e
  encap_ends (Err refusal) e = EncapFine.refusal_told p u x given room old (number refusal) e

-- ---- what a reader of records told, in the numbers of C
module _ (s old : List ℕ) where
  pub record_ends : (r : Result Record Refusal) → told_read r ≡ record_reading s → (n : Result (List ℕ) Refusal) → MatchResult r (λ x. IsOkAnd n (λ l. l ≡ fields x)) (λ q. n ≡ Err q)
      → (number_of n ≡ record_refusal s) × (left_of n old ≡ record_numbers_after s old)
  record_ends (Ok r) e (Ok l) same =
      let says = read_fields s r e in
      set_anew (record_refusal s) (fields (record_in s)) old l says.0 (same ∙ ap fields says.1)
  record_ends (Ok r) e (Err q) same = elim same [ ]
  record_ends (Err q) e n same =
      let ends = kept (record_refusal s) (fields (record_in s)) old (number q) (read_refused s (number q) e) in
      (ap number_of same ∙ ends.0, ap (λ m. left_of m old) same ∙ ends.1)

module _ (s : List ℕ) (old : ℕ) where
  refused_file : {k : ℕ} → file_refusal s ≡ k → 0 < k → (n : Result ℕ Refusal) → IsErrAnd n (λ q. number q ≡ k) → (number_of n ≡ file_refusal s) × (left_of n old ≡ records_after s old)
  refused_file r some (Ok m) same = elim same [ ]
  refused_file r some (Err q) same = kept (file_refusal s) (records_in s) old (number q) (r ∙ sym same, omega (arith, r, some))

  pub file_ends : (f : Result ℕ FileFault) → told_file f ≡ file_reading s → (n : Result ℕ Refusal) → MatchResult f (λ m. n ≡ Ok m) (λ e. IsErrAnd n (λ q. number q ≡ fault_number e))
      → (number_of n ≡ file_refusal s) × (left_of n old ≡ records_after s old)
  file_ends (Ok m) e n same =
      let says = file_records s m e in
      let ends = set_anew (file_refusal s) (records_in s) old m says.0 says.1 in
      (ap number_of same ∙ ends.0, ap (λ k. left_of k old) same ∙ ends.1)
  file_ends (Err (fault.Impossible i)) e n same = refused_file (file_impossible s i e).0 (omega arith) n same
  file_ends (Err fault.Ragged) e n same = refused_file (file_ragged s e) (omega arith) n same

  -- and the index of an impossible record
  pub index_set : (i : ℕ) (f : Result ℕ FileFault) → told_file f ≡ file_reading s → f ≡ Err (fault.Impossible i) → i ≡ index_after s old
  index_set i f e is = let says = file_impossible s i (ap told_file (sym is) ∙ e) in simp (eq-eqb (file_refusal s) 25 says.0) says.1
