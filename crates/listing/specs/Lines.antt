-- The line of what the reader tells. Only the functions within the crate promise it; `listing` is what the public one promises.
use Rattle.std.specs.Prelude.{ℕ, List, [], ◌∷◌, Result, Ok, Err}
use Rattle.refusal.specs.Refusal.{number}
use Rattle.packet.specs.declared.Packet.{Packet}
use Rattle.packet.specs.declared.Packet.TheVariants.{Space, Encapsulation}
use Rattle.packet.specs.declared.Unread.{Unread}
use Rattle.text.specs.Text.{ascii}
use Rattle.listing.specs.Listing.{line}

abbrev pub line_of : ℕ → Packet → List ℕ
line_of at (Space t x a f c n) = line at (ascii " space") (a ∷ f ∷ c ∷ n ∷ [])
line_of at (Encapsulation p u x h n) = line at (ascii " encap") (p ∷ x ∷ h ∷ n ∷ [])

-- and of what was found: a packet; or the number of the refusal and its place
abbrev pub line_found : ℕ → Result Packet Unread → List ℕ
line_found at (Ok p) = line_of at p
line_found at (Err u) = line at (ascii " refused") (number u.refusal ∷ u.place ∷ [])
