-- The kit's number of a truth value is ours.
use mathlib.Core.Path.{◌≡◌, refl}
use mathlib.Core.Bool.{Bool, true, false}
use Rattle.octets.specs.Octets.{one}
use Rattle.std.specs.Int.{from_bool}

pub one_is : (b : Bool) → from_bool b ≡ one b
unfolding one
one_is true = refl
one_is false = refl
