-- The call that the first octet names, whether or not all of it is there. No public promise mentions it.
use Rattle.std.specs.Prelude.{ℕ, List, [], ◌∷◌, eqb, Option, Some, None}
use Rattle.octets.specs.Octets.{octet, be32}
use Rattle.octets.specs.Order.{◌gives◌, first}
use Rattle.runfile.specs.Calls.{settings_in}
use Rattle.runfile.specs.declared.Call.{Call}
use Rattle.runfile.specs.declared.Call.TheVariants.{Opening, Packet, Closing}

unfoldable pub begun_in : List ℕ → Option Call
begun_in s =
    first None
    ((eqb (octet s 0) 79 gives Some (Opening (octet s 1) (settings_in s)))
    ∷ (eqb (octet s 0) 80 gives Some (Packet (octet s 1) (be32 s 2) (be32 s 6)))
    ∷ (eqb (octet s 0) 67 gives Some (Closing (octet s 1) (be32 s 2)))
    ∷ [])
