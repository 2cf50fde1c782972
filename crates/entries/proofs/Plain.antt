-- Clauses that each say a fact are one clause that says them all, since two facts side by side are the fact of both; and a fact may be said in other words.
use mathlib.Core.Path.{◌≡◌, ap, ◌∙◌}
use seplogic.Ra.Ura.{Ura}
use base.Logic.{SProp, both⊢, fst∗, snd∗, via}
use contract.Monad.{conj, conj_i, fact_i, fact_use, fact_mono, fact_hold}
use contract.Notation.{connectives}
use contract.Lifetimes.{Lfts}
use denote.Triple.Entry.{Res}
use denote.Triple.Clauses.{Ended, AtExit, ClausesAt}
use Rattle.entries.specs.Contract.{plainly}

module _ {M : Type 1} (𝓤 : Ura M) where
  open connectives 𝓤 use {⌜◌⌝, ◌∗◌, ⊤ₛ}

  side_by_side : (P Q : Type 0) → ⌜ P ⌝ ∗ ⌜ Q ⌝ ≡ ⌜ P × Q ⌝
  side_by_side P Q =
      both⊢ 𝓤
      (fact_use 𝓤 P (fst∗ 𝓤 ⌜ P ⌝ ⌜ Q ⌝) (λ p. fact_use 𝓤 Q (snd∗ 𝓤 ⌜ P ⌝ ⌜ Q ⌝) (λ q. fact_i 𝓤 (P × Q) (⌜ P ⌝ ∗ ⌜ Q ⌝) (p, q))))
      (via 𝓤 (conj 𝓤 ⌜ P ⌝ ⌜ Q ⌝)
      (conj_i 𝓤 ⌜ P ⌝ ⌜ Q ⌝ (fact_mono 𝓤 (P × Q) P (λ b. b.0)) (fact_mono 𝓤 (P × Q) Q (λ b. b.1))) (fact_hold 𝓤 P ⌜ Q ⌝))

  same_fact : {P Q : Type 0} → (P → Q) → (Q → P) → ⌜ P ⌝ ≡ ⌜ Q ⌝
  same_fact {P} {Q} to back = both⊢ 𝓤 (fact_mono 𝓤 P Q to) (fact_mono 𝓤 Q P back)

  -- one clause more
  beside : {P Q : Type 0} {E : SProp 𝓤} → E ≡ ⌜ Q ⌝ → ⌜ P ⌝ ∗ E ≡ ⌜ P × Q ⌝
  beside {P} {Q} e = ap (λ X. ⌜ P ⌝ ∗ X) e ∙ side_by_side P Q

  module _ (T : Ended) (κs : Lfts T.signature.lifetimes) where
    abbrev Fact : Type 1
    Fact = Res T.signature κs → AtExit T κs → Type 0

    -- a contract with no `requires`
    abbrev ensuring : (Res T.signature κs → AtExit T κs → SProp 𝓤) → ClausesAt 𝓤 T κs
    ensuring E = record { ghost = Unit {0}; requires = λ g. ⊤ₛ; ensures = λ g r s. E r s }

  module _ {T : Ended} {κs : Lfts T.signature.lifetimes} where
    plain : {E : Res T.signature κs → AtExit T κs → SProp 𝓤} {P : Fact T κs} → ((r : Res T.signature κs) (s : AtExit T κs) → E r s ≡ ⌜ P r s ⌝)
        → ensuring T κs E ≡ plainly 𝓤 T κs P
    plain e i = ensuring T κs (λ r s. e r s i)

    -- one that says what another does
    pub in_words : {P Q : Fact T κs} → ((r : Res T.signature κs) (s : AtExit T κs) → (P r s → Q r s) × (Q r s → P r s)) → plainly 𝓤 T κs P ≡ plainly 𝓤 T κs Q
    in_words e = plain (λ r s. same_fact (e r s).0 (e r s).1)

    -- of two, three, four and five clauses
    pub two : {P Q : Fact T κs} → ensuring T κs (λ r s. ⌜ P r s ⌝ ∗ ⌜ Q r s ⌝) ≡ plainly 𝓤 T κs (λ r s. P r s × Q r s)
    two = plain (λ r s. side_by_side _ _)

    pub three : {P Q R : Fact T κs} → ensuring T κs (λ r s. ⌜ P r s ⌝ ∗ ⌜ Q r s ⌝ ∗ ⌜ R r s ⌝) ≡ plainly 𝓤 T κs (λ r s. P r s × (Q r s × R r s))
    three = plain (λ r s. beside (side_by_side _ _))

    pub four : {P Q R S : Fact T κs} → ensuring T κs (λ r s. ⌜ P r s ⌝ ∗ ⌜ Q r s ⌝ ∗ ⌜ R r s ⌝ ∗ ⌜ S r s ⌝)
        ≡ plainly 𝓤 T κs (λ r s. P r s × (Q r s × (R r s × S r s)))
    four = plain (λ r s. beside (beside (side_by_side _ _)))

    pub five : {P Q R S U : Fact T κs} → ensuring T κs (λ r s. ⌜ P r s ⌝ ∗ ⌜ Q r s ⌝ ∗ ⌜ R r s ⌝ ∗ ⌜ S r s ⌝ ∗ ⌜ U r s ⌝)
        ≡ plainly 𝓤 T κs (λ r s. P r s × (Q r s × (R r s × (S r s × U r s))))
    five = plain (λ r s. beside (beside (beside (side_by_side _ _))))
