-- A packet that no test before the grouping rule refuses is a whole Space Packet with nothing after it: its header, the secondary octets and the
-- user data. Every such refusal is at most 17.
use Rattle.std.proofs.Common.{◌≡◌, ℕ, ◌+◌, ◌-◌, ◌<◌, ◌≤◌, Bool, true, false, cond, not, eqb, ltb, List, length, drop, refl, ap, ◌∙◌, arith, length-drop, take_all, drop-drop, ltb-false, eq-eqb, ne_eqb, eqb-true}
use borrow.Author.Tests.{eqb-false, not-true, not-false}
use Rattle.packet.specs.Space.{version, packet_type, secondary, apid, data_octets, space_size}
use Rattle.reading.specs.Reading.{is_encapsulation, header, size, refusal, content}
use Rattle.reading.specs.Causes.{Whole, space, encapsulation}
use Rattle.reading.proofs.Exactly.{exactly_whole, refusal_most}
use Rattle.grouping.specs.declared.Terms.{Terms}
use Rattle.grouping.specs.Packets.{misflags, fault, user_data, user_octets}

-- a test that gives a number passes where the answer is 0
pub passes : (b : Bool) (k rest : ℕ) → (b ≡ true → 0 < k) → cond b k rest ≡ 0 → (b ≡ false) × (rest ≡ 0)
passes true k rest h e = absurd (omega (arith, h refl))
passes false k rest h e = (refl, e)

-- what is known of it
pub record Accepted (t : Terms) (s : List ℕ) : Type 0 where
  pub read : refusal s ≡ 0
  pub kind : version s ≡ 0
  pub whole : length s ≡ space_size s
  pub long : t.settings.secondary ≤ data_octets s

module _ (t : Terms) (s : List ℕ) where
  of_whole : Whole s → is_encapsulation s ≡ false → (version s ≡ 0) × (space_size s ≤ length s)
  of_whole (space w h) e = (w.0.0.1, h)
  of_whole (encapsulation w h) e = absurd (eqb-false (version s) 7 e w.0.0.0.0.0.1)

  pub accepted : fault t s ≡ 0 → Accepted t s
  unfolding refusal fault size
  accepted e =
      let a = passes (not (eqb (refusal s) 0)) (refusal s) _ (λ z. omega (arith, eqb-false (refusal s) 0 (not-true _ z))) e in
      let b = passes (ltb (size s) (length s)) 12 _ (λ z. omega arith) a.1 in
      let c = passes (is_encapsulation s) 13 _ (λ z. omega arith) b.1 in
      let d = passes (eqb (packet_type s) 1) 14 _ (λ z. omega arith) c.1 in
      let f = passes (not (eqb (apid s) t.settings.apid)) 15 _ (λ z. omega arith) d.1 in
      let g = passes (misflags (secondary s) t.settings.secondary) 16 _ (λ z. omega arith) f.1 in
      let h = passes (ltb (data_octets s) t.settings.secondary) 17 0 (λ z. omega arith) g.1 in
      let read : refusal s ≡ 0 = eqb-true (refusal s) 0 (not-false _ a.0) in
      let w = of_whole ((exactly_whole s).0 read) c.0 in
      let most : length s ≤ space_size s = simp (eq-eqb (version s) 0 w.0) at (ltb-false (size s) (length s) b.0) in
      record { read = read; kind = w.0; whole = omega (arith, w.1); long = ltb-false _ _ h.0 }

  pub accepted_data : fault t s ≡ 0 → (user_data t.settings s ≡ drop (6 + t.settings.secondary) s) × (length (user_data t.settings s) ≡ user_octets t.settings s)
  unfolding user_data content size header
  accepted_data e =
      let a = accepted e in
      let all : content s ≡ drop 6 s = simp (eq-eqb _ _ a.read, eq-eqb _ _ a.kind) (take_all (space_size s - 6) (drop 6 s) (omega (arith, length-drop 6 s, a.whole))) in
      let data' : user_data t.settings s ≡ drop (6 + t.settings.secondary) s = ap (drop t.settings.secondary) all ∙ drop-drop t.settings.secondary 6 s in
      (data', ap length data' ∙ length-drop (6 + t.settings.secondary) s ∙ omega (arith, a.whole, a.long))

  -- what is read is refused by 12 to 17
  pub fault_least : refusal s ≡ 0 → (fault t s ≡ 0 → ⊥) → 12 ≤ fault t s
  unfolding refusal fault
  fault_least read =
      simp (eq-eqb (refusal s) 0 read)
      (least (ltb (size s) (length s)) (omega arith) (least (is_encapsulation s) (omega arith) (least (eqb (packet_type s) 1) (omega arith)
      (least (not (eqb (apid s) t.settings.apid)) (omega arith) (least (misflags (secondary s) t.settings.secondary) (omega arith)
      (least (ltb (data_octets s) t.settings.secondary) (omega arith) (λ u. absurd (u refl))))))))
    where
      least : (b : Bool) {k rest : ℕ} → 12 ≤ k → ((rest ≡ 0 → ⊥) → 12 ≤ rest) → (cond b k rest ≡ 0 → ⊥) → 12 ≤ cond b k rest
      least true h g u = h
      least false h g u = g u

  -- and what isn't, by the reader
  pub fault_read : (refusal s ≡ 0 → ⊥) → fault t s ≡ refusal s
  unfolding refusal fault
  fault_read u = simp (ne_eqb (refusal s) 0 u)

  -- reading refuses by 1 to 7
  pub fault_most : fault t s ≤ 17
  unfolding refusal fault
  fault_most =
      let few = refusal_most s in
      most (not (eqb (refusal s) 0)) (omega arith) (most (ltb (size s) (length s)) (omega arith) (most (is_encapsulation s) (omega arith)
      (most (eqb (packet_type s) 1) (omega arith) (most (not (eqb (apid s) t.settings.apid)) (omega arith)
      (most (misflags (secondary s) t.settings.secondary) (omega arith) (most (ltb (data_octets s) t.settings.secondary) (omega arith) (omega arith)))))))
    where
      most : (b : Bool) {k rest : ℕ} → k ≤ 17 → rest ≤ 17 → cond b k rest ≤ 17
      most true h g = h
      most false h g = g
