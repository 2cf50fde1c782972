-- The round trips, for both kinds and both ways round: each is a case of the laws that are proved kind by kind.
use Prim.Native.Nat.{ℕ, ◌+◌, ◌-◌, ◌≤◌}
use mathlib.Core.Path.{◌≡◌, sym, subst, ◌∙◌}
use mathlib.Core.List.{List, [], ◌∷◌, ◌++◌}
use native.Mathlib.Nat.{zero-add}
use native.Mathlib.Omega.{arith}
use lib.Dec.{ltb}
use lib.ListN.{length, take, drop, length-take, get_or-eq_default}
use lib.Seq.{get_or-take, get_or-drop}
use borrow.Author.Tests.{eq-eqb, ltb-true, ltb-false}
use Rattle.octets.proofs.Order.{either}
use Rattle.octets.specs.Octets.{AreOctets}
use Rattle.octets.specs.Output.{put, output_after}
use Rattle.packet.specs.Space.{version, packet_type, secondary, apid, flags, count, space_header}
use Rattle.packet.specs.Encapsulation.{protocol, encap_header, user, extension, encap_size}
use Rattle.reading.specs.Reading.{size, refusal, reading, content, content_at}
use Rattle.reading.specs.Causes.{Whole, space, encapsulation, EncapGood}
use Rattle.reading.proofs.Exactly.{exactly_whole}
use Rattle.writing.specs.Space.{space_octets, space_refusal, space_after}
use Rattle.writing.specs.Encapsulation.{shortest, encap_octets, encap_refusal, encap_after}
use Rattle.writing.specs.Carries.{IsShortest}
use Rattle.writing.proofs.SpaceFine.{fine}
use Rattle.writing.proofs.SpaceAgain as again
use Rattle.writing.proofs.EncapWrite.{again_exactly, content_octets, is_given, is_size, kind}
use Rattle.writing.proofs.Shortest.{read_back, is_shortest, accepted_again, at_most}

-- ---- reading what was written, with anything after it, gives the same fields and the same content
pub space_read : (t x a f c room : ℕ) (field rest : List ℕ) → space_refusal t x a f c (length field) room ≡ 0
    → (reading (space_octets t x a f c field ++ rest) ≡ 0 ∷ 0 ∷ t ∷ x ∷ a ∷ f ∷ c ∷ length field ∷ [])
    × (content (space_octets t x a f c field ++ rest) ≡ field) × (content_at (space_octets t x a f c field ++ rest) ≡ space_header)
space_read t x a f c room field rest e = again.read_written t x a f c field rest room (fine t x a f c (length field) room e)

pub encap_read : (p u x room : ℕ) (given rest : List ℕ) → encap_refusal p u x (length given) room ≡ 0
    → (reading (encap_octets p u x given ++ rest) ≡ 0 ∷ 7 ∷ p ∷ u ∷ x ∷ shortest p u (length given) ∷ length given ∷ [])
    × (content (encap_octets p u x given ++ rest) ≡ given) × (content_at (encap_octets p u x given ++ rest) ≡ shortest p u (length given))
encap_read p u x room given rest e = read_back p u x room given e rest

-- a part of some octets is octets
pub small_part : (s : List ℕ) → AreOctets s → (from n : ℕ) → AreOctets (take n (drop from s))
small_part s small from n k =
    either (ltb k n)
    (λ t. let e = get_or-take n (drop from s) k 0 (ltb-true _ _ t) ∙ get_or-drop from s k 0 in omega (arith, e, small (from + k)))
    (λ f. let e = get_or-eq_default (take n (drop from s)) 0 {n = k} (rw (length-take n (drop from s)) (omega (arith, ltb-false k n f))) in omega (arith, e))

-- ---- so it is of the code: what a writer leaves in the output reads so, whatever lay there before
at_the_front : (number : ℕ) (text out : List ℕ) → number ≡ 0 → output_after number text out ≡ text ++ drop (length text) out
unfolding output_after put
at_the_front number text out e = simp (eq-eqb number 0 e, zero-add)

pub space_output : (t x a f c : ℕ) (field out : List ℕ) → space_refusal t x a f c (length field) (length out) ≡ 0
    → (reading (space_after t x a f c field out) ≡ 0 ∷ 0 ∷ t ∷ x ∷ a ∷ f ∷ c ∷ length field ∷ []) × (content (space_after t x a f c field out) ≡ field) × (content_at (space_after t x a f c field out) ≡ space_header)
space_output t x a f c field out e =
    rw (at_the_front (space_refusal t x a f c (length field) (length out)) (space_octets t x a f c field) out e)
    (space_read t x a f c (length out) field (drop (length (space_octets t x a f c field)) out) e)

pub encap_output : (p u x : ℕ) (given out : List ℕ) → encap_refusal p u x (length given) (length out) ≡ 0
    → (reading (encap_after p u x given out) ≡ 0 ∷ 7 ∷ p ∷ u ∷ x ∷ shortest p u (length given) ∷ length given ∷ []) × (content (encap_after p u x given out) ≡ given) × (content_at (encap_after p u x given out) ≡ shortest p u (length given))
encap_output p u x given out e =
    rw (at_the_front (encap_refusal p u x (length given) (length out)) (encap_octets p u x given) out e)
    (encap_read p u x (length out) given (drop (length (encap_octets p u x given)) out) e)

-- ---- writing what was read gives the same octets for every Space Packet, and it isn't refused where there is room
pub space_written : (s : List ℕ) → AreOctets s → refusal s ≡ 0 → version s ≡ 0
    → (space_octets (packet_type s) (secondary s) (apid s) (flags s) (count s) (content s) ≡ take (size s) s)
    × ((room : ℕ) → size s ≤ room → space_refusal (packet_type s) (secondary s) (apid s) (flags s) (count s) (length (content s)) room ≡ 0)
space_written s small e v = of_whole ((exactly_whole s).0 e)
  where
    of_whole : Whole s → again.Again s
    of_whole (space good h) = again.again s small good h
    of_whole (encapsulation good h) = absurd (omega (arith, v, good.0.0.0.0.0.1))

-- ---- and for an Encapsulation Packet exactly when its header was the shortest; it isn't refused where there is room either
abbrev SameOctets : List ℕ → Type 0
SameOctets s = encap_octets (protocol s) (user s) (extension s) (content s) ≡ take (size s) s

abbrev ShortestHeader : List ℕ → Type 0
ShortestHeader s = IsShortest (encap_header s) (protocol s) (user s) (extension s) (content s)

abbrev NotRefused : List ℕ → Type 0
NotRefused s = (room : ℕ) → size s ≤ room → encap_refusal (protocol s) (user s) (extension s) (length (content s)) room ≡ 0

module _ (s : List ℕ) (small : AreOctets s) (good : EncapGood s) (h : encap_size s ≤ length s) where
  not_refused : NotRefused s
  not_refused room fits =
      let n = content_octets s small good h in
      let low = at_most s small good (kind s) in
      rw n (accepted_again s small good room (omega (arith, low, fits, is_size s small good h, good.0.0.1)))

  small_content : AreOctets (content s)
  small_content = rw (is_given s small good h) (small_part s small (encap_header s) (encap_size s - encap_header s))

  -- the header that the writer takes is the shortest, and there is one shortest only
  taken : IsShortest (shortest (protocol s) (user s) (length (content s))) (protocol s) (user s) (extension s) (content s)
  taken = is_shortest (protocol s) (user s) (extension s) (size s) (content s) (not_refused (size s) (omega arith)) small_content

  both_ways : (SameOctets s → ShortestHeader s) × (ShortestHeader s → SameOctets s)
  both_ways =
      let same = again_exactly s small good h in (
        λ e. subst (λ k. IsShortest k (protocol s) (user s) (extension s) (content s)) (sym (same.0 e)) taken,
        λ (carries, least). same.1 (omega (arith, least _ taken.0, taken.1 _ carries)),
      )

pub encap_written : (s : List ℕ) → AreOctets s → refusal s ≡ 0 → version s ≡ 7
    → ((SameOctets s → ShortestHeader s) × (ShortestHeader s → SameOctets s)) × NotRefused s
encap_written s small e v = of_whole ((exactly_whole s).0 e)
  where
    of_whole : Whole s → ((SameOctets s → ShortestHeader s) × (ShortestHeader s → SameOctets s)) × NotRefused s
    of_whole (encapsulation good h) = (both_ways s small good h, not_refused s small good h)
    of_whole (space good h) = absurd (omega (arith, v, good.0.0.1))
