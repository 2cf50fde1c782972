-- For a packet of known kind the order of refusals is a shorter list: what carries every proof about reading.
use Prim.Native.Nat.{ℕ}
use mathlib.Core.Path.{◌≡◌}
use mathlib.Core.List.{List, [], ◌∷◌}
use native.Mathlib.Omega.{arith}
use borrow.Author.Tests.{eq-eqb, ne_eqb}
use lib.Dec.{ltb}
use lib.ListN.{length}
use Rattle.octets.specs.Order.{Test, ◌gives◌, first}
use Rattle.packet.specs.Space.{version, space_header, space_size, flagged_idle}
use Rattle.packet.specs.Encapsulation.{limit, encap_header, encap_size, misnamed, empty_named}
use Rattle.reading.specs.Reading.{header, size, refused_by, reading_tests, fields, reading}
use Rattle.reading.specs.Causes.{Version}

abbrev pub space_tests : List ℕ → List (Test (List ℕ))
space_tests s =
    (ltb (length s) space_header gives refused_by s 1)
    ∷ (flagged_idle s gives refused_by s 3)
    ∷ (ltb (length s) (space_size s) gives refused_by s 1)
    ∷ []

abbrev pub encap_tests : List ℕ → List (Test (List ℕ))
encap_tests s =
    (ltb (length s) (encap_header s) gives refused_by s 1)
    ∷ (misnamed s gives refused_by s 7)
    ∷ (ltb (encap_size s) (encap_header s) gives refused_by s 4)
    ∷ (ltb limit (encap_size s) gives refused_by s 5)
    ∷ (empty_named s gives refused_by s 6)
    ∷ (ltb (length s) (encap_size s) gives refused_by s 1)
    ∷ []

pub space_reading : (s : List ℕ) → Version 0 s → reading s ≡ first (0 ∷ fields s) (space_tests s)
unfolding reading_tests reading header size
space_reading s (some, v) = simp (ne_eqb (length s) 0 (λ e. omega arith), eq-eqb (version s) 0 v)

pub encap_reading : (s : List ℕ) → Version 7 s → reading s ≡ first (0 ∷ fields s) (encap_tests s)
unfolding reading_tests reading header size
encap_reading s (some, v) = simp (ne_eqb (length s) 0 (λ e. omega arith), ne_eqb (version s) 0 (λ e. omega arith), eq-eqb (version s) 7 v)
