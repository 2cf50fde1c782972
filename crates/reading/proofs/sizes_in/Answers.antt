-- By the version: a Space Packet's length field says the size; of an Encapsulation Packet each field is what the octets say (`Exits`).
use Rattle.std.proofs.Common.{ℕ, ◌+◌, ◌/◌, ◌%◌, ◌≡◌, sym, ap, ◌∙◌, List, eq-eqb, ne_eqb}
use Rattle.octets.specs.Octets.{be16}
use Rattle.packet.specs.Space.{version}
use Rattle.packet.specs.Encapsulation.{encap_header, encap_size}
use Rattle.reading.specs.Reading.{header, size, announced}
use Rattle.reading.specs.declared.Sizes.{Sizes}
use Rattle.reading.proofs.Exits.{header_read, encap_size_read}
use Rattle.reading.proofs.sizes_in.Goals as goal

of_space : (s : List ℕ) {n : ℕ} → version s ≡ 0 → n ≡ be16 s 4 → ◌≡◌ {A = Sizes} (record { header = 6; size = 6 + (n + 1) }) (announced s)
unfolding announced header size
of_space s v e = rw (eq-eqb (version s) 0 v, e)

of_encap : (s : List ℕ) {h n : ℕ} → (version s ≡ 0 → ⊥) → h ≡ encap_header s → n ≡ encap_size s → ◌≡◌ {A = Sizes} (record { header = h; size = n }) (announced s)
unfolding announced header size
of_encap s v e f = rw (ne_eqb (version s) 0 v, e, f)

pub returns-then-first-eq0 : goal.returns-then-first-eq0
returns-then-first-eq0 c =
    of_space c.args.s.now (sym (ap (λ o. o / 32 % 8) c.octet_at-first.ensures) ∙ c.if-first-eq0.true) c.be16_at.ensures

pub returns : goal.returns
returns c =
    let s = c.args.s.now in
    let first = c.octet_at-first.ensures in
    let h = c.header_for-header.ensures in
    of_encap s (λ z. c.if-first-eq0.false (ap (λ o. o / 32 % 8) first ∙ z)) (header_read s first h) (encap_size_read s first h c.size_for.ensures)
