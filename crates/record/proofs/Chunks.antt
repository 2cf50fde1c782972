-- The records of a file are its chunks of 20 octets, and octets after a record are not looked at: so what is counted in the chunks is what
-- is counted in the file.
use Prim.Native.Nat.{ℕ, zero, suc, ◌+◌, ◌/◌, ◌%◌, ◌<◌}
use mathlib.Core.Path.{◌≡◌, refl, sym, ap, subst, ◌∙◌}
use mathlib.Core.Bool.{true, false, cond}
use mathlib.Core.List.{List, [], ◌∷◌}
use native.Mathlib.Numerals.{add-one}
use native.Mathlib.Omega.{arith}
use Rattle.std.specs.Prelude.{Option, Some, None, MatchOption}
use lib.ListN.{length, take, drop}
use lib.Seq.{get_or-take}
use Rattle.std.specs.List.{AllWithin, HoldsAt}
use Rattle.std.specs.Option.{unwrap_or}
use Rattle.std.specs.Simd.{first_chunks}
use Rattle.std.proofs.lemmas.Iterator.{index_from_first}
use Rattle.record.specs.Record.{record_size, possible}
use Rattle.record.specs.Reading.{possible_at, possible_before, impossible_in, file_reading}
use Rattle.record.proofs.Front.{same_record}
use Rattle.record.proofs.Reading.{one_impossible, all_possible}

pub same_possible : (s : List ℕ) → possible_at (take record_size s) ≡ possible_at s
unfolding possible_at
same_possible s = ap possible (same_record (take record_size s) s (λ k h. get_or-take record_size s k 0 h))

-- how many chunks come before one that is not possible
abbrev pub counted : List (List ℕ) → ℕ
counted [] = 0
counted (chunk ∷ chunks) = cond (possible_at chunk) (suc (counted chunks)) 0

pub stops : (chunk : List ℕ) (chunks : List (List ℕ)) → possible_at chunk ≡ false → counted (chunk ∷ chunks) ≡ 0
stops chunk chunks e = simp e

pub goes_on_lem : (chunk : List ℕ) (chunks : List (List ℕ)) → possible_at chunk ≡ true → counted (chunk ∷ chunks) ≡ counted chunks + 1
goes_on_lem chunk chunks e = simp e (sym (add-one (counted chunks)))

pub in_chunks : (n : ℕ) (s : List ℕ) → counted (first_chunks record_size n s) ≡ possible_before n s
unfolding possible_before
in_chunks zero s = refl
in_chunks (suc n) s = rw (same_possible s) (ap (λ k. cond (possible_at s) (suc k) 0) (in_chunks n (drop record_size s)))

-- what a search among them finds
abbrev pub Possible : List ℕ → Type 0
Possible chunk = possible_at chunk ≡ true

abbrev pub Impossible : List ℕ → Type 0
Impossible chunk = possible_at chunk ≡ false

module _ (s : List ℕ) where
  abbrev pub First : Option ℕ → List (List ℕ) → Type 0
  First r chunks = MatchOption r (AllWithin Possible chunks 0 (length chunks)) (λ i. (i < length chunks) × HoldsAt Impossible chunks i × AllWithin Possible chunks 0 i)

  found : (r : Option ℕ) (chunks : List (List ℕ)) → chunks ≡ first_chunks record_size (length s / record_size) s → First r chunks → impossible_in s ≡ unwrap_or r (length chunks)
  found r chunks e first =
      sym (in_chunks (length s / record_size) s) ∙ ap counted (sym e) ∙ index_from_first counted Impossible Possible refl (λ x xs h. stops x xs h) (λ x xs h. goes_on_lem x xs h) chunks r first

  -- the file's two ends
  pub some_found : (i : ℕ) (r : Option ℕ) (chunks : List (List ℕ)) → chunks ≡ first_chunks record_size (length s / record_size) s → length chunks ≡ length s / record_size
      → length s % record_size ≡ 0 → First r chunks → r ≡ Some i → 25 ∷ i ∷ [] ≡ file_reading s
  some_found i r chunks e n whole first is =
      let here = subst (λ q. First q chunks) is first in
      let at = found r chunks e first ∙ ap (λ q. unwrap_or q (length chunks)) is in
      rw (← at) (one_impossible s whole (omega (arith, at, n, here.0)))

  pub none_found : (r : Option ℕ) (chunks : List (List ℕ)) → chunks ≡ first_chunks record_size (length s / record_size) s → length chunks ≡ length s / record_size
      → length s % record_size ≡ 0 → First r chunks → r ≡ None → 0 ∷ length chunks ∷ [] ≡ file_reading s
  none_found r chunks e n whole first is =
      let at = found r chunks e first ∙ ap (λ q. unwrap_or q (length chunks)) is in
      rw n (all_possible s whole (omega (arith, at, n)))
