-- What the lister's answer tells fixes it, so the promise permits one.
use Prim.Native.Nat.{ℕ}
use mathlib.Core.Path.{◌≡◌, refl, sym, ◌∙◌}
use mathlib.Core.List.{List}
use Rattle.std.specs.Prelude.{Option, Some, None}
use Rattle.listing.specs.Told.{told, listed}

told_fixes : (a b : Option ℕ) → told a ≡ told b → a ≡ b
told_fixes (Some n) (Some m) e = cc
told_fixes None None e = refl
told_fixes (Some n) None e = cc
told_fixes None (Some n) e = cc

pub one_answer : (a b : Option ℕ) (text : List ℕ) (room : ℕ) → told a ≡ listed text room → told b ≡ listed text room → a ≡ b
one_answer a b text room e f = told_fixes a b (e ∙ sym f)
