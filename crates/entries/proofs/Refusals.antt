-- What makes an entry meet demand 1: its number is what its order of tests gives, and where that isn't 0 nothing is changed. An entry in C meets it where the one
-- does on which it stands.
use Prim.Native.Nat.{ℕ}
use mathlib.Core.Path.{◌≡◌, refl, sym, ap, ◌∙◌}
use mathlib.Core.List.{List}
use borrow.Author.Tests.{ne_eqb}
use Rattle.octets.specs.Order.{first, numbers_of}
use Rattle.octets.specs.Output.{leading, unless_refused, put, output_after}
use Rattle.octets.proofs.Order.{exactly}
use Rattle.entries.specs.Entry.{Entry, Permits, number_for, Asked}
use Rattle.entries.specs.Exported.{in_c}

-- something lent is left alone by a refusal
left_alone : {A : Type 0} (number : ℕ) (new old : A) → (number ≡ 0 → ⊥) → unless_refused number new old ≡ old
left_alone number new old refused = simp (ne_eqb number 0 refused)

pub output_left : (number : ℕ) (text out : List ℕ) → (number ≡ 0 → ⊥) → output_after number text out ≡ out
unfolding output_after
output_left number text out refused = left_alone number (put out 0 text) out refused

module _ (e : Entry) where
  abbrev pub Answers : Type 0
  Answers = (g : e.Given) → (a : e.Answer) × (e.told a ≡ e.tells g)

  abbrev pub Ordered : Type 0
  Ordered = (g : e.Given) → number_for e g ≡ first 0 (numbers_of (e.tests g))

  abbrev pub Fixes : Type 0
  Fixes = (a b : e.Answer) → e.told a ≡ e.told b → a ≡ b

  pub demand : Answers → Ordered → Fixes → ((g : e.Given) → (number_for e g ≡ 0 → ⊥) → e.leaves g ≡ e.before g) → Asked e
  demand answers ordered fixes unchanged = record {
    answers = answers;
    exactly = λ g n. let law = exactly 0 (numbers_of (e.tests g)) n in (λ z. law.0 (sym (ordered g) ∙ z), λ why. ordered g ∙ law.1 why);
    unchanged = unchanged;
    one_answer = fixes;
  }

  -- so two permitted answers are equal, of every entry
  pub one_permitted : Asked e → (g : e.Given) (a b : e.Answer) (l m : e.Lent) → Permits e g a l → Permits e g b m → (a ≡ b) × (l ≡ m)
  one_permitted d g a b l m p q = (d.one_answer a b (p.0 ∙ sym q.0), p.1 ∙ sym q.1)

  pub in_C : {M : Type 0} (new : e.Given → M) → Asked e → Asked (in_c e new)
  in_C new d = record {
    answers = λ g. (number_for e g.0, refl);
    exactly = λ g. d.exactly g.0;
    unchanged = λ g refused i. (d.unchanged g.0 refused i, left_alone (number_for e g.0) (new g.0) g.1 refused i);
    one_answer = λ a b same. ap leading same;
  }
