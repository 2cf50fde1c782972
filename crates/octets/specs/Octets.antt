-- Numbers in a list of octets, the highest octet first. Past the end an octet reads as 0.
use Rattle.std.specs.Prelude.{ℕ, ◌+◌, ◌*◌, ◌/◌, ◌%◌, ◌<◌, Bool, cond, List, [], ◌∷◌, ◌++◌, get_or}

abbrev pub octet : List ℕ → ℕ → ℕ
octet s k = get_or s k 0

abbrev pub be16 : List ℕ → ℕ → ℕ
be16 s k = octet s k * 256 + octet s (k + 1)

abbrev pub be32 : List ℕ → ℕ → ℕ
be32 s k = be16 s k * 65536 + be16 s (k + 2)

-- the other way round: the octets of a number
abbrev pub octets2 : ℕ → List ℕ
octets2 n = (n / 256 % 256) ∷ (n % 256) ∷ []

abbrev pub octets4 : ℕ → List ℕ
octets4 n = octets2 (n / 65536) ++ octets2 (n % 65536)

-- 1 for yes, 0 for no
unfoldable pub one : Bool → ℕ
one b = cond b 1 0

-- every element is an octet, as those of every slice of u8 are
abbrev pub AreOctets : List ℕ → Type 0
AreOctets s = (k : ℕ) → octet s k < 256
