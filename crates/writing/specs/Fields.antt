-- A field given to a writer is over its width.
use Rattle.std.specs.Prelude.{ℕ, ◌^◌, Bool, leb}

-- n does not fit in so many bits
abbrev pub over : ℕ → ℕ → Bool
over bits n = leb (2 ^ bits) n
