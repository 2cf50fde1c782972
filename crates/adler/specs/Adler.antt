-- Adler-32, as in RFC 1950: two sums modulo 65521. The first, from 1, is of the octets; the second, from 0, of what the first is after each.
use Rattle.std.specs.Prelude.{ℕ, ◌+◌, ◌*◌, ◌%◌, List, [], ◌∷◌}

abbrev pub base : ℕ
base = 65521

abbrev pub plus : ℕ → ℕ → ℕ
plus m n = (m + n) % base

unfoldable pub adler_from : ℕ → ℕ → List ℕ → ℕ
adler_from a b [] = b * 65536 + a
adler_from a b (x ∷ s) = adler_from (plus a x) (plus b (plus a x)) s

unfoldable pub adler : List ℕ → ℕ
adler s = adler_from 1 0 s
