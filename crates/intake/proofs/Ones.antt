-- A bool as a number is 1 or 0.
use mathlib.Core.Path.{◌≡◌, refl}
use mathlib.Core.Bool.{Bool, true, false}
use mir.Val.{bool_byte}
use Rattle.octets.specs.Octets.{one}

pub as_one : (b : Bool) → bool_byte b ≡ one b
unfolding one
as_one true = refl
as_one false = refl
