-- What reading tells fixes it: two answers that tell the same are the same. A refusal is known by its number (`alike`).
use Prim.Native.Nat.{ℕ}
use mathlib.Core.Path.{◌≡◌, ap}
use mathlib.Core.List.{[], ◌∷◌}
use lib.ListN.{get_or}
use native.Mathlib.Omega.{arith}
use Rattle.std.specs.Prelude.{Result, Ok, Err}
use Rattle.refusal.specs.Refusal.{number}
use Rattle.refusal.specs.declared.Refusal.{Refusal}
use Rattle.refusal.proofs.Named.{alike, some}
use Rattle.octets.specs.Output.{leading}
use Rattle.packet.specs.Told.{fields_of, told}
use Rattle.packet.specs.declared.Packet.{Packet}
use Rattle.packet.specs.declared.Packet.TheVariants.{Space, Encapsulation}
use Rattle.packet.specs.declared.Unread.{Unread}

pub packet_fixed : (p q : Packet) → fields_of p ≡ fields_of q → p ≡ q
packet_fixed (Space t x a f c n) (Space t' x' a' f' c' n') e = cc
packet_fixed (Encapsulation p u x h n) (Encapsulation p' u' x' h' n') e = cc
packet_fixed (Space t x a f c n) (Encapsulation p u x' h n') e = let z : ◌≡◌ {A = ℕ} 0 7 = cc in absurd (omega arith)
packet_fixed (Encapsulation p u x' h n') (Space t x a f c n) e = let z : ◌≡◌ {A = ℕ} 0 7 = cc in absurd (omega arith)

same_unread : {r q : Refusal} {n k : ℕ} → r ≡ q → n ≡ k → ◌≡◌ {A = Unread} (record { refusal = r; place = n }) (record { refusal = q; place = k })
same_unread e f = cc

pub unread_fixed : (u v : Unread) → number u.refusal ∷ u.place ∷ [] ≡ number v.refusal ∷ v.place ∷ [] → u ≡ v
unread_fixed u v e = same_unread (alike u.refusal v.refusal (ap leading e)) (ap (λ l. get_or l 1 0) e)

pub told_fixes : (p q : Result Packet Unread) → told p ≡ told q → p ≡ q
told_fixes (Ok p) (Ok q) e = ap Ok (packet_fixed p q cc)
told_fixes (Err u) (Err v) e = ap Err (unread_fixed u v e)
told_fixes (Ok p) (Err v) e = absurd (omega (arith, ap leading e, some v.refusal))
told_fixes (Err u) (Ok q) e = absurd (omega (arith, ap leading e, some u.refusal))
