-- The octets that are added before the sums are reduced. No public promise mentions it.
use Rattle.std.specs.Prelude.{ℕ}

abbrev pub part : ℕ
part = 2048
