-- A refusal is known by its number: by cases, each of which computes.
use Prim.Native.Nat.{◌<◌}
use mathlib.Core.Path.{◌≡◌, refl, sym, ap, ◌∙◌}
use native.Mathlib.Omega.{arith}
use Rattle.refusal.specs.declared.Refusal.{Refusal}
use Rattle.refusal.specs.declared.Refusal.TheVariants as refusal
use Rattle.refusal.specs.Refusal.{number, named}

pub of_its_number : (r : Refusal) → named (number r) ≡ r
of_its_number refusal.CutShort = refl
of_its_number refusal.BadVersion = refl
of_its_number refusal.IdleFlagged = refl
of_its_number refusal.UnderHeader = refl
of_its_number refusal.OverLimit = refl
of_its_number refusal.NoContent = refl
of_its_number refusal.NamesNothing = refl
of_its_number refusal.OverWidth = refl
of_its_number refusal.NoRoom = refl
of_its_number refusal.DataLength = refl
of_its_number refusal.NotOpen = refl
of_its_number refusal.OctetsAfter = refl
of_its_number refusal.NotSpace = refl
of_its_number refusal.NotTelemetry = refl
of_its_number refusal.OtherApid = refl
of_its_number refusal.FlagDiffers = refl
of_its_number refusal.UnderSecondary = refl
of_its_number refusal.LaneFull = refl
of_its_number refusal.OverCap = refl
of_its_number refusal.UnitTooLong = refl
of_its_number refusal.AlreadyOpen = refl
of_its_number refusal.BadSettings = refl
of_its_number refusal.NotPromised = refl
of_its_number refusal.NotSound = refl
of_its_number refusal.NotPossible = refl
of_its_number refusal.NotRecords = refl
of_its_number refusal.OthersInTheWay = refl
of_its_number refusal.BadFrame = refl

pub alike : (r q : Refusal) → number r ≡ number q → r ≡ q
alike r q e = sym (of_its_number r) ∙ (ap named e ∙ of_its_number q)

-- and no number is 0, which stands for none
pub some : (r : Refusal) → 0 < number r
some r = omega (arith, not_0)
  where
    not_0 : number r ≡ 0 → ⊥
    not_0 z = let e : number r ≡ 1 = ap number (sym (of_its_number r) ∙ ap named z) in omega (arith, e, z)
