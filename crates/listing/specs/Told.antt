-- What the lister answers, as a number and a value; and what it leaves in the lent output.
use Rattle.std.specs.Prelude.{ℕ, List, [], ◌∷◌, cond, length, leb, Option, Some, None}
use Rattle.octets.specs.Output.{put}

-- no refusal (0) and the octets written; or 9, output too short
abbrev pub told : Option ℕ → List ℕ
told (Some n) = 0 ∷ n ∷ []
told None = 9 ∷ []

unfoldable pub listed : List ℕ → ℕ → List ℕ
listed text room = cond (leb (length text) room) (0 ∷ length text ∷ []) (9 ∷ [])

-- the text at the front of the output, whose other octets stay; or the output as it was
unfoldable pub after : List ℕ → List ℕ → List ℕ
after text out = cond (leb (length text) (length out)) (put out 0 text) out

-- the octets written, or 0
abbrev pub octets_of : Option ℕ → ℕ
octets_of (Some n) = n
octets_of None = 0
