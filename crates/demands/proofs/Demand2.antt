-- Demand 2. The round trips are those of the crates writing and record; the rest is what holds of a lane along every run (`Followed`).
use Prim.Native.Nat.{ℕ, suc, ◌*◌, ◌%◌, ◌-◌, ◌≤◌}
use mathlib.Core.Path.{◌≡◌, refl, sym, ap, subst, ◌∙◌}
use mathlib.Core.List.{List, [], ◌∷◌, ◌++◌}
use mathlib.Core.Bool.{true}
use native.Mathlib.Omega.{arith}
use borrow.Author.Tests.{eq-eqb, ne_eqb, le-ltb}
use lib.ListN.{length, take, drop, replicate, length-take, take-append-drop}
use Rattle.octets.specs.Octets.{AreOctets}
use Rattle.octets.specs.Output.{leading, put, output_after}
use Rattle.packet.specs.Space.{version}
use Rattle.packet.specs.Encapsulation.{encap_header, protocol, user, extension}
use Rattle.reading.specs.Reading.{header, size, fields, reading, refusal, content, content_at}
use Rattle.reading.specs.Causes.{Whole, space, encapsulation}
use Rattle.reading.proofs.Exactly.{accepted, exactly_whole}
use Rattle.reading.proofs.Within.{within}
use Rattle.reading.proofs.After as front
use Rattle.record.specs.Record.{record_size, record_octets, possible}
use Rattle.record.specs.Reading.{possible_at, possible_before, records_in, file_reading}
use Rattle.record.specs.Writing.{record_told, writing_refusal, record_after}
use Rattle.record.specs.declared.Record.{Record}
use Rattle.record.proofs.Answers.{read_fields}
use Rattle.record.proofs.RoundTrip.{same_back, read_output, write_read, accepted_again}
use Rattle.writing.specs.Carries.{IsShortest}
use Rattle.writing.proofs.Shortest.{is_shortest}
use Rattle.writing.proofs.RoundTrips.{small_part, space_output, encap_output, space_written, encap_written}
use Rattle.rule.proofs.Slots.{Slot}
use Rattle.demands.specs.Runs.{encapsulation_wrote, ours}
use Rattle.demands.specs.Demand2.{Agrees, SpaceGivenBack, EncapsulationGivenBack, HeaderIsShortest, RecordGivenBack, Possible, file_of, FileGivenBack, SpaceWrittenAgain, EncapsulationWrittenAgain, RecordWrittenAgain}
use Rattle.demands.specs.Demand2.{RepliesAreTheRules, LanesAreTheRules, Demand2}
use Rattle.demands.proofs.Followed.{reached_at, reply_is}

agrees : Agrees ours
agrees = record {
  reads = λ s. refl;
  hands = λ s. refl;
  writes_space = λ g. refl;
  writes_encapsulation = λ g. refl;
  reads_record = λ s. refl;
  reads_file = λ s. refl;
  writes_record = λ g. refl;
}

-- ---- each reader gives back what its writer was given
space_given_back : SpaceGivenBack ours
space_given_back g e = let h = space_output g.packet_type g.secondary g.apid g.flags g.count g.field g.out e in (h.0, h.1)

encapsulation_given_back : EncapsulationGivenBack ours
encapsulation_given_back g e = let h = encap_output g.protocol g.user g.extension g.content g.out e in (h.0, h.1)

record_given_back : RecordGivenBack ours
record_given_back g w e = read_output g.credit w g.out e

-- a file of records, as their octets one after another
octets_in : List Possible → List ℕ
octets_in [] = []
octets_in (r ∷ rs) = record_octets r.credit ++ octets_in rs

just_its_octets : (r : Possible) → record_after r.credit (replicate record_size 0) ≡ record_octets r.credit
unfolding record_told output_after put record_octets
just_its_octets r = simp r.possible

file_octets : (rs : List Possible) → file_of ours rs ≡ octets_in rs
unfolding file_of octets_in
file_octets [] = refl
file_octets (r ∷ rs) = rw (just_its_octets r, file_octets rs)

-- the record at the front of a file
front_possible : (r : Possible) (rest : List ℕ) → possible_at (record_octets r.credit ++ rest) ≡ true
unfolding possible_at record_octets
front_possible r rest = ap possible (same_back r.credit r.wide) ∙ r.possible

file_length : (rs : List Possible) → length (octets_in rs) ≡ length rs * 20
unfolding octets_in record_octets
file_length [] = refl
file_length (r ∷ rs) = omega (arith, file_length rs)

each_possible : (rs : List Possible) → possible_before (length rs) (octets_in rs) ≡ length rs
unfolding octets_in possible_before record_octets
each_possible [] = refl
each_possible (r ∷ rs) = simp (front_possible r (octets_in rs)) (ap suc (each_possible rs))

file_given_back : FileGivenBack ours
unfolding file_reading
file_given_back rs =
    let size = file_length rs in
    let records : records_in (octets_in rs) ≡ length rs = omega (arith, size) in
    rw (file_octets rs)
    (simp (eq-eqb (length (octets_in rs) % 20) 0 (omega (arith, size))) (rw (records, each_possible rs) (simp (le-ltb (length rs) (length rs) (omega arith)))))

-- ---- writing what was read: where it isn't refused, the octets are at the front of the output
put_there : (number : ℕ) (text front out : List ℕ) → number ≡ 0 → text ≡ front → output_after number text out ≡ put out 0 front
unfolding output_after
put_there number text front out e same = simp (eq-eqb number 0 e) (ap (put out 0) same)

space_written_again : SpaceWrittenAgain ours
unfolding refusal
space_written_again s out small e v fits =
    let h = space_written s small e v in
    (h.1 (length out) fits, put_there _ _ _ out (h.1 (length out) fits) h.0)

record_written_again : RecordWrittenAgain ours
record_written_again r s out small e fits =
    let h = read_fields s r (sym e) in
    let z : writing_refusal r (length out) ≡ 0 = ap (λ (q : Record). writing_refusal q (length out)) h.1 ∙ accepted_again s small h.0 (length out) fits in
    (z, put_there _ _ _ out z (ap record_octets h.1 ∙ write_read s small h.0))

-- a packet is read alike whatever comes after it, so its content begins after its own header wherever it lies at the front
module _ (s : List ℕ) (e : refusal s ≡ 0) where
  abbrev packet : List ℕ
  packet = take (size s) s

  whole : size s ≤ length packet
  whole = rw (length-take (size s) s) (omega (arith, within s e))

  by_itself : (reading s ≡ reading packet) × (content s ≡ content packet) × (content_at s ≡ content_at packet)
  by_itself =
      let joined : packet ++ drop (size s) s ≡ s = take-append-drop (size s) s in
      rw joined at (front.prefix packet (drop (size s) s) (rw joined e) (rw joined whole))

  before_more : (more : List ℕ) → content_at (packet ++ more) ≡ content_at s
  unfolding refusal
  before_more more =
      let z : refusal packet ≡ 0 = ap leading (sym by_itself.0) ∙ e in
      (front.after packet more (λ one. omega (arith, z, one))).2 ∙ sym by_itself.2

  after_header : version s ≡ 7 → content_at s ≡ encap_header s
  unfolding content_at header
  after_header v = simp (eq-eqb (refusal s) 0 e, ne_eqb (version s) 0 (λ z. omega (arith, v, z)))

  small_content : AreOctets s → AreOctets (content s)
  unfolding content
  small_content small = simp (eq-eqb (refusal s) 0 e) (small_part s small (header s) (size s - header s))

-- what reads as an Encapsulation Packet has that version
reads_7 : (s rest : List ℕ) → Whole s → reading s ≡ 0 ∷ 7 ∷ rest → version s ≡ 7
unfolding fields
reads_7 s rest (space good h) e =
    absurd (let z = simp (eq-eqb (version s) 0 good.0.0.1) at (accepted {s = s} (space good h)) in let k : ◌≡◌ {A = ℕ} 0 7 = cc in omega arith)
reads_7 s rest (encapsulation good h) e = good.0.0.0.0.0.1

header_is_shortest : HeaderIsShortest ours
unfolding refusal
header_is_shortest g small e =
    let s = (encapsulation_wrote g).out in
    let h = encap_output g.protocol g.user g.extension g.content g.out e in
    let read : refusal s ≡ 0 = ap leading h.0 in
    let same = sym h.2 ∙ after_header s read (reads_7 s _ ((exactly_whole s).0 read) h.0) in
    subst (λ (k : ℕ). IsShortest k g.protocol g.user g.extension g.content) same
    (is_shortest g.protocol g.user g.extension (length g.out) g.content e small)

encapsulation_written_again : EncapsulationWrittenAgain ours
unfolding refusal put
encapsulation_written_again s out small e v fits =
    let h = encap_written s small e v in
    let z = h.1 (length out) fits in
    let taken = is_shortest (protocol s) (user s) (extension s) (length out) (content s) z (small_content s e small) in (
      z,
      (
        λ same.
            let at = (encap_output (protocol s) (user s) (extension s) (content s) out z).2 in
            subst (λ (k : ℕ). IsShortest k (protocol s) (user s) (extension s) (content s)) (sym at ∙ ap content_at same ∙ before_more s e _ ∙ after_header s e v) taken,
        λ short. put_there _ _ _ out z (h.0.1 short),
      ),
    )

-- ---- the rule
replies_are_the_rules : RepliesAreTheRules ours
replies_are_the_rules = reply_is

lanes_are_the_rules : LanesAreTheRules ours
lanes_are_the_rules start calls i =
    let e = (reached_at i start calls).slot in
    (ap (λ (v : Slot). v.lane) e, ap (λ (v : Slot). v.group) e)

pub demand2 : Demand2 ours
demand2 = record {
  agrees = agrees;
  space_given_back = space_given_back;
  encapsulation_given_back = encapsulation_given_back;
  header_is_shortest = header_is_shortest;
  record_given_back = record_given_back;
  file_given_back = file_given_back;
  space_written_again = space_written_again;
  encapsulation_written_again = encapsulation_written_again;
  record_written_again = record_written_again;
  replies_are_the_rules = replies_are_the_rules;
  lanes_are_the_rules = lanes_are_the_rules;
}
