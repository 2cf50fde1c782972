-- What the sizes that octets announce say of them, one test after another, and what the last test of a packet gives.
use Prim.Native.Nat.{ℕ, ◌≤◌, ◌<◌}
use mathlib.Core.Path.{◌≡◌, sym, ap, ◌∙◌}
use mathlib.Core.List.{List}
use mathlib.Core.Bool.{false}
use native.Mathlib.Omega.{arith}
use lib.ListN.{length}
use Rattle.std.specs.Prelude.{Result, Ok, Err, MatchResult}
use Rattle.refusal.specs.Refusal.{number}
use Rattle.refusal.specs.declared.Refusal.{Refusal}
use Rattle.refusal.specs.declared.Refusal.TheVariants.{CutShort}
use Rattle.packet.specs.Space.{space_size}
use Rattle.packet.specs.Encapsulation.{encap_header, encap_size, limit, misnamed}
use Rattle.reading.specs.Reading.{header, size, refusal}
use Rattle.reading.specs.Causes.{Version, EncapThere, EncapLong, EncapLimited, Whole, Cause}
use Rattle.reading.proofs.Exactly.{gives, whole_gives}
use Rattle.pieces.specs.Pieces.{number_told}
use Rattle.pieces.proofs.Short.{space_sizes, encap_sizes}

module _ (s : List ℕ) where
  pub space_size_so : Version 0 s → {n : ℕ} → n ≡ size s → n ≡ space_size s
  space_size_so v e = e ∙ (space_sizes s v.1).1

  -- an encapsulation packet whose header is announced as h octets, and which is as n
  module _ (v : Version 7 s) {h n : ℕ} (header_is : h ≡ header s) (size_is : n ≡ size s) where
    pub header_so : h ≡ encap_header s
    header_so = header_is ∙ (encap_sizes s v.1).0

    pub size_so : n ≡ encap_size s
    size_so = size_is ∙ (encap_sizes s v.1).1

    module _ (all : h ≤ length s) where
      pub there : EncapThere s
      there = (v, omega (arith, all, header_so))

      module _ (m : misnamed s ≡ false) (l : h ≤ n) where
        pub long : EncapLong s
        long = ((there, m), omega (arith, l, header_so, size_so))

        module _ (o : n ≤ limit) where
          pub limited : EncapLimited s
          limited = (long, omega (arith, o, size_so))

-- where all that is left to ask is whether so many octets are there
pub ends : {s : List ℕ} {n : ℕ} (r : Result (Unit {0}) Refusal) → MatchResult r (λ _. n ≤ length s) (λ q. (q ≡ CutShort) × (length s < n))
    → (n ≤ length s → Whole s) → (length s < n → Cause s 1) → number_told r ≡ refusal s
ends (Ok _) l whole cut = sym (whole_gives (whole l))
ends (Err q) (e, l) whole cut = ap number e ∙ sym (gives (cut l))
