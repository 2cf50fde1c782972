-- Text in an output from a place on. It is cut where the output ends.
use Rattle.std.specs.Prelude.{ℕ, ◌+◌, ◌-◌, List, length, take}
use Rattle.octets.specs.Output.{put}

-- what there is room for from index at on, in so many octets
unfoldable pub fitting : ℕ → ℕ → List ℕ → List ℕ
fitting room at text = take (room - at) text

-- the place after it, and the output with it
unfoldable pub reached : ℕ → ℕ → List ℕ → ℕ
reached room at text = at + length (fitting room at text)

unfoldable pub written : List ℕ → ℕ → List ℕ → List ℕ
written out at text = put out at (fitting (length out) at text)
