-- A function that meets a contract with no `requires` ends on every input as it permits: what its theorem buys at the machine (`call_returns`), once the
-- contract is read as the plain one, and the facts in what the run leaves are read off it.
use mathlib.Core.Path.{subst}
use mathlib.Core.Logic.{∥∥₁_prop, ∥∥₁_elim, ∥∥₁_map}
use mathlib.Core.List.{[], ◌∷◌}
use seplogic.Ra.Ura.{Ura}
use mir.Val.{Val}
use base.Logic.{SProp, ent, ex, sep, emp, emp∗, comm∗, assoc∗, assoc', mono_l, fst∗, snd∗, via}
use prog.Memory.{Memory}
use prog.Model.{Model}
use prog.Routine.{Env}
use prog.Wired.{Wired}
use types.Logic.{Logic, sem}
use contract.Adequate.{Satisfies, sat_weaken, sat_fact, sat_⇛, sat_ex∗, call_returns}
use contract.Monad.{fact}
use contract.Running.{Running, tables, strict, within}
use denote.Laws.{Is, shows}
use denote.RattleType.{owns}
use denote.Shadow.{shadow, shows_shadow}
use denote.Signature.{Signature, type_at, types_at}
use denote.Triple.Bound.{Bound, passed}
use denote.Triple.Clauses.{ClausesAt, Lasts, lasts, at_exit}
use denote.Triple.Entry.{alive, on_entry}
use denote.Triple.Spec.{Back, exits}
use Rattle.entries.specs.Contract.{Function, Result, OfTypes, Fact, Promises, HoldsInputs, ReturnsFrom, Ends, plainly}
use Rattle.entries.proofs.Honours.{Honours}

module _ (f : Function) (P : Fact f) (met : Honours f) (promised : Promises f P)
    (M : Type 1) (𝓤 : Ura M) (𝓛 : Logic 𝓤) (𝓜 : Model 𝓤 𝓛.H) (𝓡 : Running 𝓤 𝓛.H 𝓜) (γ : Env) (wired : Wired γ f.code)
    (x : Bound 𝓛 f.ended.signature) (σ : Memory) (F : SProp 𝓤) (s : HoldsInputs f 𝓛 𝓜 x σ F) where
  open 𝓛 use {H}

  -- the machine where every call returns, and names mean what γ says
  abbrev 𝓡γ : Running 𝓤 𝓛.H 𝓜
  𝓡γ = within 𝓤 𝓛.H 𝓜 (strict 𝓤 𝓛.H 𝓜 𝓡) γ

  abbrev S : Signature
  S = f.ended.signature

  -- what the inputs own, and that they are of their types
  abbrev Owned : SProp 𝓤
  Owned = sem 𝓛 (owns (types_at S.params x.0) x.3 x.4)

  abbrev On : SProp 𝓤
  On = on_entry 𝓛 S x.0 x.1 x.3 x.4

  -- a fact in a part of what a memory holds
  fact_in : {Q : SProp 𝓤} (R : SProp 𝓤) (σ : Memory) (φ : Type 0) → ent 𝓤 Q (fact 𝓤 φ) → Satisfies 𝓤 H 𝓜 σ (sep 𝓤 Q R) → ∥ φ ∥₁
  fact_in {Q} R σ φ h = sat_fact 𝓤 H 𝓜 σ (sep 𝓤 Q R) φ (via 𝓤 (sep 𝓤 Q R) (snd∗ 𝓤 (𝓜.mem σ) (sep 𝓤 Q R)) (via 𝓤 Q (fst∗ 𝓤 Q R) h))

  typed : ∥ OfTypes f x.0 x.3 ∥₁
  typed =
      ∥∥₁_map
      (fact_in F σ (shadow (owns (types_at S.params x.0) x.3 x.4))
      (via 𝓤 Owned (snd∗ 𝓤 (alive 𝓛 S x.0 x.1) Owned) (shows_shadow 𝓛 (owns (types_at S.params x.0) x.3 x.4))) s)
      (λ t. (x.4, t))

  -- what a contract c leaves: the result, and what the references show at the end
  abbrev left_by : (c : ClausesAt 𝓤 f.ended x.0) → c.ghost → Val → Result f x.0 → SProp 𝓤
  left_by c g v r = sep 𝓤 (Back 𝓛 S x v r) (exits 𝓛 S f.ended.kept x.0 x.3 (λ e. c.ensures g r e))

  abbrev after : (c : ClausesAt 𝓤 f.ended x.0) → c.ghost → Val → SProp 𝓤
  after c g v = H.⇛ (ex 𝓤 (left_by c g v))

  abbrev Met : ClausesAt 𝓤 f.ended x.0 → Type 1
  Met c = (g : c.ghost) → ent 𝓤 (sep 𝓤 On (c.requires g)) (𝓡γ.run (γ f.name) (passed 𝓛 S x) (after c g))

  alone : (Q : SProp 𝓤) → ent 𝓤 Q (sep 𝓤 Q (emp 𝓤))
  alone Q = via 𝓤 (sep 𝓤 (emp 𝓤) Q) (emp∗ 𝓤 Q) (comm∗ 𝓤 (emp 𝓤) Q)

  module _ (h : OfTypes f x.0 x.3) where
    abbrev plain : ClausesAt 𝓤 f.ended x.0
    plain = plainly 𝓤 f.ended x.0 (P x.0 x.3 h)

    runs : Met plain
    runs = subst Met (promised x.0 x.3 h M 𝓤 𝓛 𝓜.mem 𝓡γ.returns) (λ g. met M 𝓤 𝓛 𝓜 𝓡γ wired (x, g))

    -- the result, and last values of which P holds, with that fact beside them
    abbrev Said : Result f x.0 → Lasts f.ended x.0 x.3 → Type 0
    Said r w = P x.0 x.3 h r (at_exit f.ended x.0 x.3 w)

    module _ (v : Val) (r : Result f x.0) where
      abbrev B : SProp 𝓤
      B = Back 𝓛 S x v r

      abbrev L : Lasts f.ended x.0 x.3 → SProp 𝓤
      L w = sem 𝓛 (lasts f.ended x.0 x.3 w)

      abbrev LP : Lasts f.ended x.0 x.3 → SProp 𝓤
      LP w = sep 𝓤 (L w) (fact 𝓤 (Said r w))

      result_is : ent 𝓤 B (fact 𝓤 (Is (type_at S.result x.0) r (v ∷ [])))
      result_is =
          let Own = sem 𝓛 ((type_at S.result x.0).own_val r (v ∷ [])) in
          via 𝓤 Own (snd∗ 𝓤 (alive 𝓛 S x.0 x.1) Own) (shows 𝓛 (type_at S.result x.0) r (v ∷ []))

      -- the last values come to the front
      shown : ent 𝓤 (sep 𝓤 (left_by plain tt v r) F) (sep 𝓤 (ex 𝓤 LP) (sep 𝓤 B F))
      shown = via 𝓤 (sep 𝓤 (sep 𝓤 (ex 𝓤 LP) B) F) (mono_l 𝓤 F (comm∗ 𝓤 B (ex 𝓤 LP))) (assoc∗ 𝓤 (ex 𝓤 LP) B F)

      -- and go behind the result
      kept : (w : Lasts f.ended x.0 x.3) → ent 𝓤 (sep 𝓤 (LP w) (sep 𝓤 B F)) (sep 𝓤 (sep 𝓤 B (L w)) F)
      kept w =
          via 𝓤 (sep 𝓤 (L w) (sep 𝓤 B F)) (mono_l 𝓤 (sep 𝓤 B F) (fst∗ 𝓤 (L w) (fact 𝓤 (Said r w))))
          (via 𝓤 (sep 𝓤 (sep 𝓤 (L w) B) F) (assoc' 𝓤 (L w) B F) (mono_l 𝓤 F (comm∗ 𝓤 (L w) B)))

      facts : (w : Lasts f.ended x.0 x.3) (σ' : Memory) → Satisfies 𝓤 H 𝓜 σ' (sep 𝓤 (LP w) (sep 𝓤 B F))
          → ∥ (Is (type_at S.result x.0) r (v ∷ []) × Said r w) ∥₁
      facts w σ' t =
          ∥∥₁_elim (fact_in (sep 𝓤 B F) σ' (Said r w) (snd∗ 𝓤 (L w) (fact 𝓤 (Said r w))) t) ∥∥₁_prop
          (λ p. ∥∥₁_map (fact_in F σ' (Is (type_at S.result x.0) r (v ∷ [])) result_is (sat_weaken 𝓤 H 𝓜 σ' (snd∗ 𝓤 (LP w) (sep 𝓤 B F)) t)) (λ i. (i, p)))

    returns : ∥ ReturnsFrom f 𝓛 𝓜 x γ P σ F ∥₁
    returns =
        ∥∥₁_elim
        (call_returns 𝓤 H 𝓜 (tables 𝓤 H 𝓜 𝓡γ γ) ((λ s none. none), tt) f.name (passed 𝓛 S x) σ (after plain tt) F
        (sat_weaken 𝓤 H 𝓜 σ (mono_l 𝓤 F (via 𝓤 (sep 𝓤 On (emp 𝓤)) (alone On) (runs tt))) s))
        ∥∥₁_prop
        (λ (n, v, σ', done, t). ∥∥₁_elim (sat_ex∗ 𝓤 H 𝓜 σ' (left_by plain tt v) F (sat_⇛ 𝓤 H 𝓜 σ' (ex 𝓤 (left_by plain tt v)) F t)) ∥∥₁_prop
        (λ (r, u). ∥∥₁_elim (sat_ex∗ 𝓤 H 𝓜 σ' (LP v r) (sep 𝓤 (B v r) F) (sat_weaken 𝓤 H 𝓜 σ' (shown v r) u)) ∥∥₁_prop
        (λ (w, y). ∥∥₁_map (facts v r w σ' y) (λ (i, p). (n, v, σ', done, (h, r, w, i, p, sat_weaken 𝓤 H 𝓜 σ' (kept v r w) y))))))

pub ends : (f : Function) (P : Fact f) → Honours f → Promises f P → Ends f P
ends f P met promised M 𝓤 𝓛 𝓜 𝓡 γ wired x σ F s =
    ∥∥₁_elim (typed f P met promised M 𝓤 𝓛 𝓜 𝓡 γ wired x σ F s) ∥∥₁_prop (λ h. returns f P met promised M 𝓤 𝓛 𝓜 𝓡 γ wired x σ F s h)
