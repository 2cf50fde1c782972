-- The walk goes on, and the text is put up to what is left to list.
use Rattle.std.proofs.Common.{◌-◌, length}
use Rattle.walk.proofs.Going.{Going}
use Rattle.text.proofs.Underway.{Underway}
use Rattle.listing.specs.Listing.{listing}
use Rattle.listing.proofs.Left.{left}
use Rattle.listing.proofs.put_all.Given as goal

abbrev pub invariant-loop-at : goal.invariant-loop-at
invariant-loop-at l = Going l.s l.at l.packets × Underway l.fn.out l.out l.to (left l.s l.at l.packets) (listing l.s)

abbrev pub decreases-loop-at : goal.decreases-loop-at
decreases-loop-at l = length l.s - l.at
