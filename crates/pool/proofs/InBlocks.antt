-- What carries the octets that go in runs: within a block the next octet lies at the next place, so a run is one part of the pool.
use Prim.Native.Nat.{ℕ, zero, suc, ◌+◌, ◌-◌, ◌*◌, ◌/◌, ◌%◌, ◌≤◌, ◌<◌, min, zero-le}
use mathlib.Core.Path.{◌≡◌, refl, sym, ap, ◌∙◌}
use mathlib.Core.List.{List, [], ◌∷◌, ◌++◌, append-nil, append_assoc}
use native.Mathlib.Decide.{dec_lt}
use native.Mathlib.Nat.{add-zero, zero-add, suc-add}
use native.Mathlib.Omega.{arith}
use lib.ListN.{length, get_or, set, take, drop, length-set, length-append, length-take, take-append-drop}
use lib.Seq.{sets, sets-eq, set_out, length-take-le, take-nil}
use Rattle.octets.specs.Output.{put, put_if_fits}
use Rattle.octets.proofs.Puts.{put_fits, not_put, Wrote, Fits, then_put}
use Rattle.marks.specs.Blocks.{blocks, block_octets, mark, blocks_for, find}
use Rattle.pool.specs.Lookup.{ListsLane}
use Rattle.pool.specs.Octets.{pool_octets, place, stored, gathered}

pub short : (n : ℕ) (l text : List ℕ) → text ≡ take n l → length text ≤ n
short n l text e = rw (e, length-take n l) (omega arith)

-- the blocks of n octets: each that is gone through begins within the group
module _ (n block all : ℕ) (e : all ≡ blocks_for n) where
  pub inside : block < all → block * block_octets < n
  unfolding blocks_for
  inside h = omega arith

-- stores past the end
sets_out : (l : List ℕ) (i : ℕ) (vs : List ℕ) → length l ≤ i → sets l i vs ≡ l
sets_out l i [] h = refl
sets_out l i (v ∷ vs) h = rw (set_out l i v h) (sets_out l (suc i) vs (omega arith))

-- stores that fit
sets_in : (l : List ℕ) (i : ℕ) (vs : List ℕ) → i + length vs ≤ length l → sets l i vs ≡ put_if_fits l i vs
unfolding put
sets_in l i vs h = sets-eq vs l i h ∙ put_fits l i vs h

-- one octet and those after it
one_and_more : (n p : ℕ) (l : List ℕ) → take 1 (drop p l) ++ take n (drop (suc p) l) ≡ take (suc n) (drop p l)
one_and_more n zero [] = take-nil n
one_and_more n zero (x ∷ l) = refl
one_and_more n (suc p) [] = take-nil n
one_and_more n (suc p) (x ∷ l) = one_and_more n p l

module _ (marks : List ℕ) (lane : ℕ) where
  -- the place of octet k, by a table that has the blocks of n octets
  pub listed_place : (table : List ℕ) (from n k at : ℕ) → ListsLane lane from (blocks_for n) table marks → from ≤ k / block_octets → k < n
      → at ≡ get_or table (k / block_octets) 0 * block_octets + k % block_octets → at ≡ place marks lane k
  unfolding place blocks_for
  listed_place table from n k at lists low high e = e ∙ rw (lists (k / block_octets) low (omega arith))

  next_place : (k : ℕ) → k % block_octets + 1 < block_octets → suc (place marks lane k) ≡ place marks lane (k + 1)
  unfolding place
  next_place k h = let e : (k + 1) / block_octets ≡ k / block_octets = omega arith in rw e (omega arith)

  -- ---- storing
  run_stored : (pool : List ℕ) (k p : ℕ) (ds : List ℕ) → p ≡ place marks lane k → k % block_octets + length ds ≤ block_octets → stored marks lane pool k ds ≡ sets pool p ds
  unfolding stored
  run_stored pool k p [] e h = refl
  run_stored pool k p (d ∷ []) e h = rw e
  run_stored pool k p (d ∷ b ∷ ds) e h = rw (← e) (run_stored (set pool p d) (k + 1) (suc p) (b ∷ ds) (ap suc e ∙ next_place k (omega arith)) (omega arith))

  run_put : (pool : List ℕ) (k p : ℕ) (ds : List ℕ) → length pool ≡ pool_octets → p ≡ place marks lane k → 0 < length ds → k % block_octets + length ds ≤ block_octets
      → stored marks lane pool k ds ≡ put_if_fits pool p ds
  unfolding place
  run_put pool k p ds size e some h =
      run_stored pool k p ds e h
      ∙ elim (dec_lt (find marks (mark lane (k / block_octets))) blocks) [
        | yes l ↦ sets_in pool p ds (omega arith)
        | no l ↦ sets_out pool p ds (omega arith) ∙ not_put pool p ds (omega arith)
      ]

  pub stored_then : (pool : List ℕ) (k : ℕ) (a b : List ℕ) → stored marks lane pool k (a ++ b) ≡ stored marks lane (stored marks lane pool k a) (k + length a) b
  unfolding stored
  stored_then pool k [] b = rw (add-zero k)
  stored_then pool k (d ∷ a) b =
      let e : k + 1 + length a ≡ k + suc (length a) = omega arith in
      stored_then (set pool (place marks lane k) d) (k + 1) a b ∙ rw e

  pub stored_length : (pool : List ℕ) (k : ℕ) (ds : List ℕ) → length (stored marks lane pool k ds) ≡ length pool
  unfolding stored
  stored_length pool k [] = refl
  stored_length pool k (d ∷ ds) = stored_length (set pool (place marks lane k) d) (k + 1) ds ∙ length-set pool (place marks lane k) d

  -- ---- gathering
  run_gathered : (pool : List ℕ) (k p n : ℕ) → p ≡ place marks lane k → k % block_octets + n ≤ block_octets → gathered marks lane pool k n ≡ take n (drop p pool)
  unfolding gathered
  run_gathered pool k p zero e h = refl
  run_gathered pool k p (suc zero) e h = rw e (append-nil (take 1 (drop (place marks lane k) pool)))
  run_gathered pool k p (suc (suc n)) e h =
      rw (← e, run_gathered pool (k + 1) (suc p) (suc n) (ap suc e ∙ next_place k (omega arith)) (omega arith)) (one_and_more (suc n) p pool)

  pub gathered_then : (pool : List ℕ) (k a b : ℕ) → gathered marks lane pool k (a + b) ≡ gathered marks lane pool k a ++ gathered marks lane pool (k + a) b
  unfolding gathered
  gathered_then pool k zero b = rw (zero-add, add-zero)
  gathered_then pool k (suc a) b =
      let e : k + 1 + a ≡ k + suc a = omega arith in
      rw suc-add (ap (λ (r : List ℕ). take 1 (drop (place marks lane k) pool) ++ r) (gathered_then pool (k + 1) a b ∙ rw e)
      ∙ sym (append_assoc (take 1 (drop (place marks lane k) pool)) (gathered marks lane pool (k + 1) a) (gathered marks lane pool (k + suc a) b)))

  -- an octet past the end is left out, so there are n at most
  pub gathered_at_most : (pool : List ℕ) (k n : ℕ) → length (gathered marks lane pool k n) ≤ n
  unfolding gathered
  gathered_at_most pool k zero = zero-le
  gathered_at_most pool k (suc n) =
      omega (arith, length-append (take 1 (drop (place marks lane k) pool)) (gathered marks lane pool (k + 1) n), length-take 1 (drop (place marks lane k) pool), gathered_at_most pool (k + 1) n)

  -- ---- a turn of each loop
  module _ (pool : List ℕ) (k run at : ℕ) (left after : List ℕ) (size : length pool ≡ pool_octets) (some : 0 < length left)
      (r : run ≡ min (length left) (block_octets - k % block_octets)) (a : at ≡ place marks lane k) (e : after ≡ put_if_fits pool at (take run left)) where
    abbrev text : List ℕ
    text = take run left

    text_length : length text ≡ run
    text_length = length-take-le run left (omega arith)

    run_is : stored marks lane pool k text ≡ after
    run_is = run_put pool k at text size a (omega (arith, text_length)) (omega (arith, text_length)) ∙ sym e

    pub store_turn : stored marks lane pool k left ≡ stored marks lane after (k + length text) (drop run left)
    store_turn =
        ap (stored marks lane pool k) (sym (take-append-drop run left)) ∙ stored_then pool k text (drop run left) ∙ rw run_is

    pub turn_length : length after ≡ pool_octets
    turn_length = sym (ap length run_is) ∙ stored_length pool k text ∙ size

  pub store_ends : (pool : List ℕ) (k : ℕ) (left : List ℕ) → length left ≡ 0 → stored marks lane pool k left ≡ pool
  unfolding stored
  store_ends pool k [] h = refl
  store_ends pool k (d ∷ left) h = absurd (omega arith)

  module _ (pool out₀ : List ℕ) (n k run at to p : ℕ) (out text after : List ℕ) (room : n ≤ length out₀) (more : k < n)
      (w : Wrote out₀ 0 (gathered marks lane pool 0 k) out at)
      (r : run ≡ min (block_octets - k % block_octets) (n - k)) (a : p ≡ place marks lane k) (t : text ≡ take run (drop p pool))
      (e : after ≡ put_if_fits out at text) (f : to ≡ at + length text) where
    pub gather_turn : Wrote out₀ 0 (gathered marks lane pool 0 (k + run)) after to
    gather_turn =
        let same : text ≡ gathered marks lane pool k run = t ∙ sym (run_gathered pool k p run a (omega arith)) in
        let all : gathered marks lane pool 0 (k + run) ≡ gathered marks lane pool 0 k ++ text = gathered_then pool 0 k run ∙ rw (zero-add, same) in
        let few : length (gathered marks lane pool 0 (k + run)) ≤ k + run = gathered_at_most pool 0 (k + run) in
        let fits : Fits out₀ 0 (gathered marks lane pool 0 k ++ text) = rw (← all) (omega arith) in
        rw all (then_put out₀ 0 (gathered marks lane pool 0 k) text fits f w e)
