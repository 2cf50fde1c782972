-- Text as octets: ASCII codes, and numbers in decimal.
use Rattle.std.specs.Prelude.{ℕ, zero, suc, ◌+◌, ◌/◌, ◌%◌, List, [], ◌∷◌, ◌++◌, cond, ltb}
use Prim.Native.Char.{code}
use Prim.Native.String as S

abbrev pub ascii : S.String → List ℕ
ascii S.[] = []
ascii (S.◌∷◌ c text) = code c ∷ ascii text

-- the last digit of n
abbrev pub digit : ℕ → ℕ
digit n = 48 + n % 10

-- n in decimal, over at most `most` digits besides the last one
unfoldable pub decimal_over : ℕ → ℕ → List ℕ
decimal_over zero n = digit n ∷ []
decimal_over (suc most) n = cond (ltb n 10) (digit n ∷ []) (decimal_over most (n / 10) ++ (digit n ∷ []))

-- n in decimal, with no zeros in front: n has no more than n digits besides the last one
unfoldable pub decimal : ℕ → List ℕ
decimal n = decimal_over n n

-- numbers in decimal, each after a blank
unfoldable pub number : ℕ → List ℕ
number n = ascii " " ++ decimal n

unfoldable pub numbers : List ℕ → List ℕ
numbers [] = []
numbers (n ∷ ns) = number n ++ numbers ns
