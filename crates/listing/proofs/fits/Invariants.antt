-- The room that is used and what is left to list are the whole listing's length.
use Rattle.std.proofs.Common.{◌≡◌, ◌+◌, ◌-◌, ◌≤◌, length}
use Rattle.walk.proofs.Going.{Going}
use Rattle.listing.specs.Listing.{listing}
use Rattle.listing.proofs.Left.{left}
use Rattle.listing.proofs.fits.Given as goal

abbrev pub invariant-loop-at : goal.invariant-loop-at
invariant-loop-at l =
    (length l.scratch ≡ 128) × Going l.s l.at l.packets × (l.left ≤ l.room) × (l.room + length (left l.s l.at l.packets) ≡ l.left + length (listing l.s))

abbrev pub decreases-loop-at : goal.decreases-loop-at
decreases-loop-at l = length l.s - l.at
