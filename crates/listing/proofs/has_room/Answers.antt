-- No listing of so few octets is longer than the room (`listing_room`); else `fits` decides.
use Rattle.std.proofs.Common.{sym, length, arith}
use borrow.Author.Tests.{le-leb}
use Rattle.listing.specs.Listing.{listing}
use Rattle.listing.proofs.Room.{listing_room}
use Rattle.listing.proofs.has_room.Goals as goal

pub returns-then-room-ge-MOST_LISTED : goal.returns-then-room-ge-MOST_LISTED
returns-then-room-ge-MOST_LISTED c =
    let s = c.args.s.now in
    let most = listing_room s (omega arith) in
    sym (le-leb (length (listing s)) c.args.room (omega (arith, most)))
