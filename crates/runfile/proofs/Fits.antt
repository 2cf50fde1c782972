-- The call at the front is the one that is begun there, if the octets have its size; so it lies within them.
use Prim.Native.Nat.{ℕ, ◌≤◌}
use mathlib.Core.Path.{◌≡◌, refl}
use mathlib.Core.List.{List}
use native.Mathlib.Omega.{arith}
use borrow.Author.Tests.{leb-true}
use lib.Dec.{eqb, leb}
use lib.ListN.{length}
use Rattle.std.specs.Prelude.{cond, Option, Some, None}
use Rattle.octets.specs.Octets.{octet}
use Rattle.octets.proofs.Order.{either}
use Rattle.runfile.specs.Calls.{opening_in, packet_in, closing_in, call_in, call_size, size_in}
use Rattle.runfile.specs.Begun.{begun_in}
use Rattle.runfile.specs.declared.Call.{Call}

-- a call, if the octets have its size
abbrev pub whole : List ℕ → Option Call → Option Call
whole s (Some call) = cond (leb (call_size call) (length s)) (Some call) None
whole s None = None

module _ (s : List ℕ) where
  pub call_whole : call_in s ≡ whole s (begun_in s)
  unfolding call_in begun_in opening_in packet_in closing_in
  call_whole =
      either (eqb (octet s 0) 79) (λ t. simp t refl)
      (λ o. either (eqb (octet s 0) 80) (λ t. simp (o, t) refl)
      (λ p. either (eqb (octet s 0) 67) (λ t. simp (o, p, t) refl) (λ c. simp (o, p, c) refl)))

  whole_fits : (call : Option Call) → size_in (whole s call) ≤ length s
  whole_fits (Some call) = either (leb (call_size call) (length s)) (λ t. simp t (leb-true _ _ t)) (λ f. simp f (omega arith))
  whole_fits None = omega arith

  pub call_fits : size_in (call_in s) ≤ length s
  call_fits = rw call_whole (whole_fits (begun_in s))
