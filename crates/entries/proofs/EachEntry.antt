-- Readers, walk, writers, records, the state and the listing meet demand 1: what each tells begins with the number of its order, and fixes the answer.
use Prim.{Unit}
use Prim.Native.Nat.{ℕ, ◌+◌, ◌-◌, ◌%◌}
use mathlib.Core.Path.{◌≡◌, refl, ap, ◌∙◌}
use mathlib.Core.Logic.{⊎_elim}
use mathlib.Core.Bool.{Bool, true, false, cond, not}
use mathlib.Core.List.{List, [], ◌∷◌}
use native.Mathlib.Omega.{arith}
use borrow.Author.Tests.{eqb-true, eqb-false, le-ltb, lt-ltb, leb-true, leb-false}
use lib.Dec.{eqb, ltb, leb}
use lib.ListN.{length, drop, get_or}
use Rattle.std.specs.Prelude.{Result, Ok, Err, Option, None, Some}
use Rattle.octets.specs.Octets.{one}
use Rattle.octets.specs.Order.{Test, ◌gives◌, first}
use Rattle.octets.specs.Output.{leading}
use Rattle.octets.proofs.Order.{either, leads_first}
use Rattle.refusal.specs.Refusal.{number, named}
use Rattle.refusal.specs.declared.Refusal.{Refusal}
use Rattle.refusal.specs.declared.Refusal.TheVariants as refusal_of
use Rattle.packet.specs.declared.Packet.TheVariants as packet
use Rattle.packet.specs.Space as space
use Rattle.packet.specs.Encapsulation as encap
use Rattle.packet.specs.Told as PacketTold
use Rattle.refusal.proofs.Named.{some}
use Rattle.packet.specs.declared.Packet.{Packet}
use Rattle.packet.specs.declared.Unread.{Unread}
use Rattle.packet.proofs.Answers.{unread_fixed, told_fixes}
use Rattle.reading.proofs.Answers.{says, number_told}
use Rattle.reading.specs.Places.{fault_at}
use Rattle.reading.specs.Reading.{is_space, refusal, reading, fields, content, content_at}
use Rattle.reading.proofs.Exactly.{verdict, refused, accepted, name_told, in_order}
use Rattle.walk.specs.declared.Found.{Found}
use Rattle.walk.specs.declared.Walked.{Walked}
use Rattle.walk.specs.Walk.{Finds, next_or_here, end, stop, walked, number_stopped, place_stopped}
use Rattle.walk.proofs.Rises.{stop_told}
use Rattle.packet.specs.Space.{space_header}
use Rattle.writing.specs.Space.{space_told}
use Rattle.writing.specs.Encapsulation.{shortest, encap_told}
use Rattle.writing.specs.Told as WritingTold
use Rattle.writing.proofs.Answers as WritingAnswers
use Rattle.writing.proofs.SpaceFine as SpaceFine
use Rattle.writing.proofs.EncapFine as EncapFine
use Rattle.record.specs.declared.FileFault.TheVariants as fault
use Rattle.record.specs.Record.{record_size, record_in, record_octets, fields as recordFields, possible}
use Rattle.record.specs.Reading.{possible_at, record_tests, record_reading, records_in, impossible_in, file_tests, file_reading}
use Rattle.record.specs.Writing.{record_told}
use Rattle.record.specs.Told.{told_read, told_written, told_file}
use Rattle.record.proofs.Answers.{one_read, one_written, one_file}
use Rattle.state.specs.State.{sound}
use Rattle.branmuslin.specs.Lent.{packet_numbers, place_after, index_after}
use Rattle.listing.specs.Told as ListingTold
use Rattle.entries.specs.Entry.{Entry, number_for, Asked}
use Rattle.entries.specs.Entries.{Part}
use Rattle.entries.specs.Entries.{read_packet_entry, data_of_entry, told_found, found_tells, look_at_entry, told_walked, walk_all_entry, write_space_entry, space_text, write_encapsulation_entry, encapsulation_text, read_record_entry, read_record_file_entry, write_record_entry}
use Rattle.entries.specs.Entries.{fresh_start_entry, is_sound_entry, lists}
use Rattle.entries.specs.Exported.{in_c, and_number, read_packet_c, read_record_file_c}
use Rattle.entries.proofs.Refusals.{output_left, Answers, demand, in_C}

-- ---- reading a packet
read_answer : Answers read_packet_entry
unfolding fields
read_answer s =
    ⊎_elim
    (λ w. either (is_space s)
    (λ k. (Ok (packet.Space (space.packet_type s) (space.secondary s) (space.apid s) (space.flags s) (space.count s) (space.data_octets s)), simp k at (accepted {s = s} w)))
    (λ k. (Ok (packet.Encapsulation (encap.protocol s) (encap.user s) (encap.extension s) (encap.encap_header s) (encap.encap_size s - encap.encap_header s)), simp k at (accepted {s = s} w))))
    (λ why. (Err (record { refusal = named why.0; place = fault_at s why.0 }), rw (name_told why.1) (refused why.1))) (verdict s)

pub reads_packet : Asked read_packet_entry
unfolding refusal
reads_packet = demand read_packet_entry read_answer in_order told_fixes (λ g refused. refl)

-- a part of the octets
same_part : (p q : Part) → p.block ≡ q.block → p.at ≡ q.at → p.octets ≡ q.octets → p ≡ q
same_part p q b a o i = record { block = b i; at = a i; octets = o i }

pub gives_data : Asked data_of_entry
gives_data =
    demand data_of_entry (λ s. (record { block = s.block; at = s.at + content_at s.octets; octets = content s.octets }, refl)) (λ s. refl)
    (λ p q same. same_part p q (cc) (cc) (cc)) (λ s refused. refl)

-- what is found: the promise in the entry's words, and the other way round
module _ (s : List ℕ) (at : ℕ) where
  pub found_told : (f : Found) → Finds s at f → told_found f ≡ found_tells s at
  found_told f found = let n = number_told f.read (drop at s) (says f.read (drop at s) found.tells) in λ i. n i ∷ found.place i ∷ found.tells i

  pub found_again : (f : Found) → told_found f ≡ found_tells s at → Finds s at f
  found_again f e = record { tells = ap (drop 2) e; place = ap (λ l. get_or l 1 0) e }

  -- every place has an answer
  found_answer : (r : Result Packet Unread) × (PacketTold.told r ≡ reading (drop at s)) → (a : Found) × (told_found a ≡ found_tells s at)
  found_answer (r, e) = let a : Found = record { read = r; next = next_or_here s at } in (a, found_told a (record { tells = e; place = refl }))

found_fixes : (a b : Found) → told_found a ≡ told_found b → a ≡ b
found_fixes a b same =
    let r = told_fixes a.read b.read (ap (drop 2) same) in
    let n = ap (λ l. get_or l 1 0) same in
    λ i. record { read = r i; next = n i }

pub looks_at : Asked look_at_entry
looks_at =
    demand look_at_entry (λ g. found_answer g.octets g.at (read_answer (drop g.at g.octets))) (λ g. in_order (drop g.at g.octets)) found_fixes (λ g refused. refl)

-- the walk
same_stop : (a b : Option Unread) → number_stopped a ≡ number_stopped b → place_stopped a ≡ place_stopped b → a ≡ b
same_stop None None n p = refl
same_stop (Some u) (Some v) n p = ap Some (unread_fixed u v (λ i. n i ∷ p i ∷ []))
same_stop None (Some v) n p = absurd (omega (arith, n, some v.refusal))
same_stop (Some u) None n p = absurd (omega (arith, n, some u.refusal))

pub same_walk : (a b : Walked) → told_walked a ≡ told_walked b → a ≡ b
same_walk a b same =
    let e : a.at ≡ b.at = cc in
    let p : a.packets ≡ b.packets = cc in
    let s = same_stop a.stopped b.stopped (ap leading same) (ap (λ l. get_or l 3 0) same) in
    λ i. record { at = e i; packets = p i; stopped = s i }

pub walks : Asked walk_all_entry
unfolding walked stop
walks = demand walk_all_entry (λ s. (walked s, refl)) (λ s. (stop_told s).0 ∙ ap (cond (eqb (end s) (length s)) 0) (in_order (drop (end s) s))) same_walk (λ s refused. refl)

-- ---- writing: a refusal, or the octets
write_answer : (k octets : ℕ) (tells : List ℕ) → (k ≡ 0 → 0 ∷ octets ∷ [] ≡ tells) → ((k ≡ 0 → ⊥) → k ∷ [] ≡ tells) → ((k ≡ 0 → ⊥) → number (named k) ≡ k)
    → (a : Result ℕ Refusal) × (WritingTold.told a ≡ tells)
write_answer k octets tells fine refused' has_name =
    either (eqb k 0) (λ t. (Ok octets, fine (eqb-true k 0 t))) (λ f. (Err (named k), ap (λ m. m ∷ []) (has_name (eqb-false k 0 f)) ∙ refused' (eqb-false k 0 f)))

-- where each test gives a number that a refusal has, so does the order, unless none holds
abbrev Named : List (Test (List ℕ)) → Type 0
Named [] = Unit {0}
Named ((b gives t) ∷ tests) = (number (named (leading t)) ≡ leading t) × Named tests

has_name : (values : List ℕ) (tests : List (Test (List ℕ))) → Named tests → (leading (first (0 ∷ values) tests) ≡ 0 → ⊥)
    → number (named (leading (first (0 ∷ values) tests))) ≡ leading (first (0 ∷ values) tests)
has_name values [] ok some = absurd (some refl)
has_name values ((true gives t) ∷ tests) ok some = ok.0
has_name values ((false gives t) ∷ tests) ok some = has_name values tests ok.1 some

written_fixes : (a b : Result ℕ Refusal) → WritingTold.told a ≡ WritingTold.told b → a ≡ b
written_fixes a b same = WritingAnswers.one_answer a b (WritingTold.told b) same refl

pub writes_space : Asked write_space_entry
unfolding space_told
writes_space =
    demand write_space_entry
    (λ g. write_answer (leading (write_space_entry.tells g)) (space_header + length g.field) (write_space_entry.tells g)
    (SpaceFine.fine_told g.packet_type g.secondary g.apid g.flags g.count (length g.field) (length g.out))
    (SpaceFine.refused_told g.packet_type g.secondary g.apid g.flags g.count (length g.field) (length g.out) refl)
    (has_name ((space_header + length g.field) ∷ []) (write_space_entry.tests g) (refl, (refl, (refl, (refl, tt))))))
    (λ g. leads_first (0 ∷ (space_header + length g.field) ∷ []) (write_space_entry.tests g)) written_fixes
    (λ g. output_left (leading (write_space_entry.tells g)) (space_text g) g.out)

pub writes_encapsulation : Asked write_encapsulation_entry
unfolding encap_told
writes_encapsulation =
    demand write_encapsulation_entry
    (λ g. write_answer (leading (write_encapsulation_entry.tells g)) (shortest g.protocol g.user (length g.content) + length g.content) (write_encapsulation_entry.tells g)
    (EncapFine.fine_told g.protocol g.user g.extension (length g.content) (length g.out))
    (EncapFine.refused_told g.protocol g.user g.extension (length g.content) (length g.out) refl)
    (has_name ((shortest g.protocol g.user (length g.content) + length g.content) ∷ []) (write_encapsulation_entry.tests g) (refl, (refl, (refl, (refl, (refl, tt)))))))
    (λ g. leads_first (0 ∷ (shortest g.protocol g.user (length g.content) + length g.content) ∷ []) (write_encapsulation_entry.tests g)) written_fixes
    (λ g. output_left (leading (write_encapsulation_entry.tells g)) (encapsulation_text g) g.out)

-- ---- records
pub reads_record : Asked read_record_entry
unfolding record_reading
reads_record =
    demand read_record_entry
    (λ s. either (not (eqb (length s) record_size)) (λ t. (Err refusal_of.NotRecords, simp t refl))
    (λ f. either (not (possible_at s)) (λ t. (Err refusal_of.NotPossible, simp (f, t) refl)) (λ n. (Ok (record_in s), simp (f, n) refl))))
    (λ s. leads_first (0 ∷ recordFields (record_in s)) (record_tests s)) (λ a b same. one_read (told_read b) a b same refl) (λ s refused. refl)

pub writes_record : Asked write_record_entry
unfolding record_told
writes_record =
    demand write_record_entry
    (λ g. either (ltb (length g.out) record_size) (λ t. (Err refusal_of.NoRoom, simp t refl))
    (λ f. either (not (possible g.credit)) (λ t. (Err refusal_of.NotPossible, simp (f, t) refl)) (λ n. (Ok record_size, simp (f, n) refl))))
    (λ g. leads_first (0 ∷ record_size ∷ []) (write_record_entry.tests g)) (λ a b same. one_written (told_written b) a b same refl)
    (λ g. output_left (leading (write_record_entry.tells g)) (record_octets g.credit) g.out)

pub reads_record_file : Asked read_record_file_entry
unfolding file_reading
reads_record_file =
    demand read_record_file_entry
    (λ s. either (not (eqb (length s % record_size) 0)) (λ t. (Err fault.Ragged, simp t refl))
    (λ f. either (ltb (impossible_in s) (records_in s)) (λ t. (Err (fault.Impossible (impossible_in s)), simp (f, t) refl)) (λ n. (Ok (records_in s), simp (f, n) refl))))
    (λ s. leads_first (0 ∷ records_in s ∷ []) (file_tests s)) (λ a b same. one_file (told_file b) a b same refl) (λ s refused. refl)

-- in C the place, or the index, comes with the number
same_pair : (a b : ℕ × ℕ) → a.0 ≡ b.0 → a.1 ≡ b.1 → a ≡ b
same_pair a b p q i = (p i, q i)

and_number_lem : (e : Entry) (number : e.Given → ℕ → ℕ) → Asked e → Asked (and_number e number)
and_number_lem e number d = record {
  answers = λ g. ((number_for e g.0, number g.0 g.1), refl);
  exactly = λ g. d.exactly g.0;
  unchanged = λ g. d.unchanged g.0;
  one_answer = λ a b same. same_pair a b (cc) (cc);
}

pub reads_packet_C : Asked read_packet_c
reads_packet_C = and_number_lem (in_c read_packet_entry packet_numbers) (λ g. place_after g.0) (in_C read_packet_entry packet_numbers reads_packet)

pub reads_record_file_C : Asked read_record_file_c
reads_record_file_C = and_number_lem (in_c read_record_file_entry records_in) (λ g. index_after g.0) (in_C read_record_file_entry records_in reads_record_file)

-- ---- the state
pub starts_fresh : Asked fresh_start_entry
starts_fresh = demand fresh_start_entry (λ g. (tt, refl)) (λ g. refl) (λ a b same. refl) (λ g refused. refl)

pub one_fixes : (b c : Bool) → one b ≡ one c → b ≡ c
unfolding one
one_fixes true true e = refl
one_fixes false false e = refl
one_fixes true false e = absurd (omega arith)
one_fixes false true e = absurd (omega arith)

pub finds_sound : Asked is_sound_entry
finds_sound = demand is_sound_entry (λ s. (sound s, refl)) (λ s. refl) (λ b c same. one_fixes b c (cc)) (λ s refused. refl)

-- ---- listing
listed_fixes : (a b : Option ℕ) → ListingTold.told a ≡ ListingTold.told b → a ≡ b
listed_fixes (Some n) (Some m) e = cc
listed_fixes None None e = refl
listed_fixes (Some n) None e = absurd (omega (arith, ap leading e))
listed_fixes None (Some n) e = absurd (omega (arith, ap leading e))

short_or_fits : (n room : ℕ) → (leb n room ≡ true → ltb room n ≡ false) × (leb n room ≡ false → ltb room n ≡ true)
short_or_fits n room = (λ t. le-ltb room n (leb-true n room t), λ f. lt-ltb room n (leb-false n room f))

module _ (text : List ℕ → List ℕ) where
  pub lists_so : Asked (lists text)
  unfolding ListingTold.listed
  lists_so =
      demand (lists text)
      (λ g. either (leb (length (text g.octets)) (length g.out)) (λ t. (Some (length (text g.octets)), simp t refl)) (λ f. (None, simp f refl)))
      (λ g. let n = length (text g.octets) in
      let room = length g.out in
      either (leb n room) (λ t. simp (t, (short_or_fits n room).0 t)) (λ f. simp (f, (short_or_fits n room).1 f))) listed_fixes
      (λ g. output_left (leading ((lists text).tells g)) (text g.octets) g.out)
