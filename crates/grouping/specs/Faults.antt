-- The refusals before the grouping rule, of a Space Packet's fields. Only functions within the crate promise them; `fault` is what the public one
-- promises.
use Rattle.std.specs.Prelude.{ℕ, cond, not, [], ◌∷◌, ◌==◌, nat_eq, nat_lt, Result, Ok, Err}
use Prim.{Unit, tt}
use Rattle.octets.specs.Order.{◌gives◌, first}
use Rattle.refusal.specs.Refusal.{named}
use Rattle.refusal.specs.declared.Refusal.{Refusal}
use Rattle.grouping.specs.declared.Terms.{Terms}
use Rattle.grouping.specs.Packets.{misflags}

-- the refusal of a number, where 0 is none
abbrev pub judged : ℕ → Result (Unit {0}) Refusal
judged k = cond (k == 0) (Ok tt) (Err (named k))

-- of a Space Packet's fields, with nothing after it: type t, flag x, APID a, d octets in the data field
unfoldable pub space_fault : Terms → ℕ → ℕ → ℕ → ℕ → ℕ
space_fault terms t x a d =
    first 0
    ((nat_eq t 1 gives 14)
    ∷ (not (a == terms.settings.apid) gives 15)
    ∷ (misflags x terms.settings.secondary gives 16)
    ∷ (nat_lt d terms.settings.secondary gives 17)
    ∷ [])
