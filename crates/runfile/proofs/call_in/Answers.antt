-- The call that is begun is there where the octets have its size: the law `call_whole`.
use Rattle.std.proofs.Common.{◌≡◌, ◌∙◌, ap, sym, rules, Bool, true, false, List, ℕ, length, leb, Option, Some, None, MatchOption}
use Rattle.std.specs.Bool.{then_some}
use Rattle.runfile.specs.Calls.{call_size}
use Rattle.runfile.specs.declared.Call.{Call}
use Rattle.runfile.proofs.Fits.{whole, call_whole}
use Rattle.runfile.proofs.call_in.Goals as goal

kept : (b : Bool) (call : Call) (s : List ℕ) → b ≡ leb (call_size call) (length s) → then_some b call ≡ whole s (Some call)
kept true call s e = simp (sym e)
kept false call s e = simp (sym e)

filtered : (s : List ℕ) (P : Call → Bool → Type 0) (each : (x : Call) (b : Bool) → P x b → b ≡ leb (call_size x) (length s)) (o r : Option Call)
    → MatchOption o (r ≡ None) (λ x. (b : Bool) × P x b × (r ≡ then_some b x)) → r ≡ whole s o
filtered s P each None r e = e
filtered s P each (Some x) r (b, p, e) = e ∙ kept b x s (each x b p)

pub returns : goal.returns
returns c =
    filtered c.args.s.now _ (λ x b p. search rules) c.begun_in.result c.filter.result c.filter.ensures ∙ ap (whole c.args.s.now) c.begun_in.ensures ∙ sym (call_whole c.args.s.now)
