-- The octets of a lane's group in the pool. Octet k lies at k mod 256 in the lane's block k/256, blocks counted from 0 as taken.
use Rattle.std.specs.Prelude.{ℕ, zero, suc, ◌+◌, ◌*◌, ◌/◌, ◌%◌, cond, ◌&&◌, List, [], ◌∷◌, ◌++◌, length, set, take, drop, eqb, leb}
use Rattle.marks.specs.Blocks.{blocks, block_octets, mark, find}

abbrev pub pool_octets : ℕ
pool_octets = blocks * block_octets

-- where octet k of the lane's group lies in the pool; at or past the pool's end if no block bears the mark
unfoldable pub place : List ℕ → ℕ → ℕ → ℕ
place marks lane k = find marks (mark lane (k / block_octets)) * block_octets + k % block_octets

-- the octets ds become octets k, k + 1, .. of the lane's group; octets not written stay
unfoldable pub stored : List ℕ → ℕ → List ℕ → ℕ → List ℕ → List ℕ
stored marks lane pool k [] = pool
stored marks lane pool k (d ∷ ds) = stored marks lane (set pool (place marks lane k) d) (k + 1) ds

-- the same, and the pool as it was where it is no pool or a group can't have so many octets
unfoldable pub stored_if_fits : List ℕ → ℕ → List ℕ → ℕ → List ℕ → List ℕ
stored_if_fits marks lane pool k ds =
    cond (eqb (length pool) pool_octets && leb (k + length ds) pool_octets) (stored marks lane pool k ds) pool

-- octets k, k + 1, .. of the lane's group, n of them; an octet past the pool's end is left out
unfoldable pub gathered : List ℕ → ℕ → List ℕ → ℕ → ℕ → List ℕ
gathered marks lane pool k zero = []
gathered marks lane pool k (suc n) = take 1 (drop (place marks lane k) pool) ++ gathered marks lane pool (k + 1) n

-- the first n octets of the lane's group: none where the output has no room for n or a group can't have so many
unfoldable pub gathered_if_fits : List ℕ → ℕ → List ℕ → ℕ → ℕ → List ℕ
gathered_if_fits marks lane pool n room = cond (leb n room && leb n pool_octets) (gathered marks lane pool 0 n) []
