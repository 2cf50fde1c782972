-- The paper's numbers, by their names.
use Rattle.std.specs.Prelude.{ℕ, pred, List, [], ◌∷◌, get_or}
use Rattle.refusal.specs.declared.Refusal.{Refusal}
use Rattle.refusal.specs.declared.Refusal.TheVariants as refusal

abbrev pub number : Refusal → ℕ
number refusal.CutShort = 1
number refusal.BadVersion = 2
number refusal.IdleFlagged = 3
number refusal.UnderHeader = 4
number refusal.OverLimit = 5
number refusal.NoContent = 6
number refusal.NamesNothing = 7
number refusal.OverWidth = 8
number refusal.NoRoom = 9
number refusal.DataLength = 10
number refusal.NotOpen = 11
number refusal.OctetsAfter = 12
number refusal.NotSpace = 13
number refusal.NotTelemetry = 14
number refusal.OtherApid = 15
number refusal.FlagDiffers = 16
number refusal.UnderSecondary = 17
number refusal.LaneFull = 18
number refusal.OverCap = 19
number refusal.UnitTooLong = 20
number refusal.AlreadyOpen = 21
number refusal.BadSettings = 22
number refusal.NotPromised = 23
number refusal.NotSound = 24
number refusal.NotPossible = 25
number refusal.NotRecords = 26
number refusal.OthersInTheWay = 27
number refusal.BadFrame = 28

-- every refusal, in the order of the numbers
abbrev pub every : List Refusal
every =
    refusal.CutShort
    ∷ refusal.BadVersion
    ∷ refusal.IdleFlagged
    ∷ refusal.UnderHeader
    ∷ refusal.OverLimit
    ∷ refusal.NoContent
    ∷ refusal.NamesNothing
    ∷ refusal.OverWidth
    ∷ refusal.NoRoom
    ∷ refusal.DataLength
    ∷ refusal.NotOpen
    ∷ refusal.OctetsAfter
    ∷ refusal.NotSpace
    ∷ refusal.NotTelemetry
    ∷ refusal.OtherApid
    ∷ refusal.FlagDiffers
    ∷ refusal.UnderSecondary
    ∷ refusal.LaneFull
    ∷ refusal.OverCap
    ∷ refusal.UnitTooLong
    ∷ refusal.AlreadyOpen
    ∷ refusal.BadSettings
    ∷ refusal.NotPromised
    ∷ refusal.NotSound
    ∷ refusal.NotPossible
    ∷ refusal.NotRecords
    ∷ refusal.OthersInTheWay
    ∷ refusal.BadFrame
    ∷ []

-- the refusal of a number
abbrev pub named : ℕ → Refusal
named k = get_or every (pred k) refusal.CutShort
