-- What is stored is what is gathered, and nobody else sees it: it all rests on that two octets never lie at one place.
use Prim.Native.Nat.{ℕ, zero, suc, ◌+◌, ◌*◌, ◌/◌, ◌%◌, ◌≤◌, ◌<◌}
use mathlib.Core.Bool.{true}
use mathlib.Core.Path.{◌≡◌, refl, ap, ap₂, ◌∙◌}
use mathlib.Core.List.{List, [], ◌∷◌, ◌++◌}
use native.Mathlib.Nat.{zero-add}
use native.Mathlib.Omega.{arith}
use lib.ListN.{length, get_or, set, take, drop, length-set, length-append, length-take, length-drop}
use Rattle.marks.specs.Blocks.{blocks, lanes, block_octets, mark, blocks_for, find, granted, freed}
use Rattle.marks.specs.Matching.{matching}
use Rattle.marks.proofs.Finding.{by_case, never_both}
use Rattle.marks.proofs.Leaving.{freed_leaves, granted_leaves, granted_leaves_own}
use Rattle.marks.proofs.Matched.{Matched, matched}
use Rattle.pool.specs.Octets.{pool_octets, place, stored, gathered}
use Rattle.pool.proofs.InBlocks.{gathered_then}

-- the first n octets of a lane's group have their blocks
abbrev pub Has : List ℕ → ℕ → ℕ → Type 0
Has marks lane n = (k : ℕ) → k < n → find marks (mark lane (k / block_octets)) < length marks

-- ---- one octet of a list, after a store elsewhere and after a store there
elsewhere : (p q : ℕ) (l : List ℕ) (v : ℕ) → (p ≡ q → ⊥) → take 1 (drop p (set l q v)) ≡ take 1 (drop p l)
elsewhere p q [] v d = refl
elsewhere zero zero (x ∷ l) v d = absurd (d refl)
elsewhere zero (suc q) (x ∷ l) v d = refl
elsewhere (suc p) zero (x ∷ l) v d = refl
elsewhere (suc p) (suc q) (x ∷ l) v d = elsewhere p q l v (λ e. d (ap suc e))

there : (p : ℕ) (l : List ℕ) (v : ℕ) → p < length l → take 1 (drop p (set l p v)) ≡ v ∷ []
there p [] v h = absurd (omega arith)
there zero (x ∷ l) v h = refl
there (suc p) (x ∷ l) v h = there p l v (omega arith)

module _ (marks : List ℕ) where
  -- two octets, of two lanes or of one, never lie at one place
  pub places_apart : (i j m k : ℕ) → m < pool_octets → k < pool_octets → ((i ≡ j) × (m ≡ k) → ⊥) → find marks (mark i (m / block_octets)) < length marks
      → place marks i m ≡ place marks j k → ⊥
  unfolding place
  places_apart i j m k hm hk d h e =
      let block : find marks (mark i (m / block_octets)) ≡ find marks (mark j (k / block_octets)) = omega arith in
      let rest : m % block_octets ≡ k % block_octets = omega arith in
      by_case (mark i (m / block_octets)) (mark j (k / block_octets)) (λ z. d (omega arith, omega arith)) (λ z. never_both marks (mark i (m / block_octets)) (mark j (k / block_octets)) z h block)

  -- storing leaves every other octet
  stored_leaves : (i j m : ℕ) (pool : List ℕ) (k : ℕ) (ds : List ℕ) → m < pool_octets → k + length ds ≤ pool_octets → ((q : ℕ) → k ≤ q → (i ≡ j) × (m ≡ q) → ⊥)
      → find marks (mark i (m / block_octets)) < length marks → take 1 (drop (place marks i m) (stored marks j pool k ds)) ≡ take 1 (drop (place marks i m) pool)
  unfolding stored
  stored_leaves i j m pool k [] hm hk d h = refl
  stored_leaves i j m pool k (x ∷ ds) hm hk d h =
      stored_leaves i j m (set pool (place marks j k) x) (k + 1) ds hm (omega arith) (λ q l. d q (omega arith)) h
      ∙ elsewhere (place marks i m) (place marks j k) pool x (places_apart i j m k hm (omega arith) (d k (omega arith)) h)

  -- octets m, m + 1, .. of lane i's group, n of them, where none of them is stored
  leaves_all : (i j : ℕ) (pool : List ℕ) (k : ℕ) (ds : List ℕ) (m n : ℕ) → m + n ≤ pool_octets → k + length ds ≤ pool_octets → ((p q : ℕ) → p < m + n → k ≤ q → (i ≡ j) × (p ≡ q) → ⊥)
      → Has marks i (m + n) → gathered marks i (stored marks j pool k ds) m n ≡ gathered marks i pool m n
  unfolding gathered
  leaves_all i j pool k ds m zero hm hk d has = refl
  leaves_all i j pool k ds m (suc n) hm hk d has =
      ap₂ (λ (a b : List ℕ). a ++ b)
      (stored_leaves i j m pool k ds (omega arith) hk (λ q l. d m q (omega arith) l) (has m (omega arith)))
      (leaves_all i j pool k ds (m + 1) n (omega arith) hk (λ p q l. d p q (omega arith)) (λ p l. has p (omega arith)))

  -- another lane's group, and the group's own earlier octets
  pub stored_for_another : (i j : ℕ) (pool : List ℕ) (k : ℕ) (ds : List ℕ) (n : ℕ) → (i ≡ j → ⊥) → n ≤ pool_octets → k + length ds ≤ pool_octets → Has marks i n
      → gathered marks i (stored marks j pool k ds) 0 n ≡ gathered marks i pool 0 n
  stored_for_another i j pool k ds n d hn hk has = leaves_all i j pool k ds 0 n (omega arith) hk (λ p q a b z. d z.0) (λ p l. has p (omega arith))

  pub stored_after : (i : ℕ) (pool : List ℕ) (k : ℕ) (ds : List ℕ) (n : ℕ) → n ≤ k → k + length ds ≤ pool_octets → Has marks i n
      → gathered marks i (stored marks i pool k ds) 0 n ≡ gathered marks i pool 0 n
  stored_after i pool k ds n hn hk has =
      leaves_all i i pool k ds 0 n (omega arith) hk (λ p q a b z. let same : p ≡ q = z.1 in omega arith) (λ p l. has p (omega arith))

  module _ (all : length marks ≡ blocks) where
    place_in : (i k : ℕ) → find marks (mark i (k / block_octets)) < length marks → place marks i k < pool_octets
    unfolding place
    place_in i k h = omega arith

    just_stored : (i : ℕ) (pool : List ℕ) (k : ℕ) (ds : List ℕ) → length pool ≡ pool_octets → k + length ds ≤ pool_octets → Has marks i (k + length ds)
        → gathered marks i (stored marks i pool k ds) k (length ds) ≡ ds
    unfolding gathered stored
    just_stored i pool k [] size hk has = refl
    just_stored i pool k (d ∷ ds) size hk has =
        let pool' : List ℕ = set pool (place marks i k) d in
        let size' : length pool' ≡ pool_octets = length-set pool (place marks i k) d ∙ size in
        let inside : place marks i k < pool_octets = place_in i k (has k (omega arith)) in
        ap₂ (λ (a b : List ℕ). a ++ b)
        (stored_leaves i i k pool' (k + 1) ds (omega arith) (omega arith) (λ q l z. let same : k ≡ q = z.1 in omega arith) (has k (omega arith))
        ∙ there (place marks i k) pool d (omega arith))
        (just_stored i pool' (k + 1) ds size' (omega arith) (λ q l. has q (omega arith)))

    -- what was stored is what is gathered
    pub stored_gathered : (i : ℕ) (pool : List ℕ) (k : ℕ) (ds : List ℕ) → length pool ≡ pool_octets → k + length ds ≤ pool_octets → Has marks i (k + length ds)
        → gathered marks i (stored marks i pool k ds) 0 (k + length ds) ≡ gathered marks i pool 0 k ++ ds
    stored_gathered i pool k ds size hk has =
        gathered_then marks i (stored marks i pool k ds) 0 k (length ds)
        ∙ rw zero-add
        (ap₂ (λ (a b : List ℕ). a ++ b) (stored_after i pool k ds k (omega arith) hk (λ q l. has q (omega arith))) (just_stored i pool k ds size hk has))

    count_gathered : (i : ℕ) (pool : List ℕ) (m n : ℕ) → length pool ≡ pool_octets → Has marks i (m + n) → length (gathered marks i pool m n) ≡ n
    unfolding gathered
    count_gathered i pool m zero size has = refl
    count_gathered i pool m (suc n) size has =
        omega (
          arith,
          length-append (take 1 (drop (place marks i m) pool)) (gathered marks i pool (m + 1) n),
          length-take 1 (drop (place marks i m) pool),
          length-drop (place marks i m) pool,
          place_in i m (has m (omega arith)),
          count_gathered i pool (m + 1) n size (λ q l. has q (omega arith)),
        )

    -- all n octets are there
    pub gathered_length : (i : ℕ) (pool : List ℕ) (n : ℕ) → length pool ≡ pool_octets → Has marks i n → length (gathered marks i pool 0 n) ≡ n
    gathered_length i pool n size has = count_gathered i pool 0 n size (λ q l. has q (omega arith))

-- marks that agree on a lane's blocks give the same octets
pub same_gathered : (a b : List ℕ) (i : ℕ) (pool : List ℕ) (m n : ℕ) → ((k : ℕ) → k < m + n → find a (mark i (k / block_octets)) ≡ find b (mark i (k / block_octets)))
    → gathered a i pool m n ≡ gathered b i pool m n
unfolding gathered place
same_gathered a b i pool m zero h = refl
same_gathered a b i pool m (suc n) h =
    ap₂ (λ (p : ℕ) (r : List ℕ). take 1 (drop (p * block_octets + m % block_octets) pool) ++ r) (h m (omega arith)) (same_gathered a b i pool (m + 1) n (λ k l. h k (omega arith)))

-- ---- freeing and granting for lane i leave every other lane's octets
pub freed_gathered : (marks : List ℕ) (i j : ℕ) → (i ≡ j → ⊥) → j < lanes → (pool : List ℕ) (n : ℕ) → n ≤ pool_octets
    → gathered (freed marks i) j pool 0 n ≡ gathered marks j pool 0 n
freed_gathered marks i j other small pool n h =
    same_gathered (freed marks i) marks j pool 0 n (λ k l. freed_leaves marks i j other small (k / block_octets) (omega arith))

module _ (marks : List ℕ) (i a n : ℕ) (fits : a + n ≤ blocks) where
  pub granted_gathered : (j : ℕ) → (i ≡ j → ⊥) → j < lanes → (pool : List ℕ) (k : ℕ) → k ≤ pool_octets → gathered (granted marks (mark i a) n) j pool 0 k ≡ gathered marks j pool 0 k
  granted_gathered j other small pool k h =
      same_gathered (granted marks (mark i a) n) marks j pool 0 k (λ p l. granted_leaves marks i a n fits j other small (p / block_octets) (omega arith))

  -- the lane's own octets in the blocks that it had
  pub granted_gathered_own : i < lanes → (pool : List ℕ) (k : ℕ) → k ≤ a * block_octets → gathered (granted marks (mark i a) n) i pool 0 k ≡ gathered marks i pool 0 k
  granted_gathered_own small pool k h =
      same_gathered (granted marks (mark i a) n) marks i pool 0 k (λ p l. granted_leaves_own marks i a n fits small (p / block_octets) (omega arith))

-- a group whose octets need no more blocks than the lane holds has them all
pub matching_has : (marks held : List ℕ) → length marks ≡ blocks → length held ≡ lanes → matching marks held ≡ true → (i : ℕ) → i < lanes
    → (n : ℕ) → blocks_for n ≤ get_or held i 0 → Has marks i n
unfolding blocks_for
matching_has marks held all eight e i small n h k l =
    let m : Matched marks held = matched marks held all eight e in rw all (m.places i (k / block_octets) small (omega arith))
