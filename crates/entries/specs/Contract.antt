-- A public function of the code with its contract, as the toolchain has them, and what can be said of it: that it accepts every input, that it ends, and
-- that its contract permits one answer.
use Rattle.std.specs.Prelude.{ℕ, ◌≡◌, [], ◌∷◌}
use seplogic.Ra.Ura.{Ura}
use mir.Val.{Val}
use base.Logic.{SProp, sep}
use prog.Machine.{done}
use prog.Memory.{Memory}
use prog.Model.{Model}
use prog.Routine.{Routine, Callee, Env, step}
use prog.Wired.{Code, Wired}
use types.Logic.{Logic, sem}
use contract.Adequate.{Satisfies}
use contract.Lifetimes.{Lfts}
use contract.Monad.{Fun}
use contract.Notation.{connectives}
use contract.Running.{Running}
use denote.Laws.{Is}
use denote.RattleType.{owns}
use denote.Shadow.{shadow}
use denote.Signature.{type_at, types_at}
use denote.Triple.Bound.{Bound, passed}
use denote.Triple.Entry.{Args, Vals, Res, on_entry}
use denote.Triple.Clauses.{Ended, AtExit, Lasts, at_exit, lasts, ClausesAt, Clauses}
use denote.Triple.Spec.{Back}

-- a contract holds in every model of the logic
abbrev pub Contract : Ended → Type 2
Contract T = (M : Type 1) (𝓤 : Ura M) → (𝓛 : Logic 𝓤) → (Memory → SProp 𝓤) → (Routine → Fun 𝓤) → Clauses 𝓤 T

-- its signature, its contract, the name by which it is called, its code with that of all it calls; and when two results are the same to a caller
pub record Function : Type 3 where
  pub ended : Ended
  pub clauses : Contract ended
  pub name : Callee
  pub code : Code
  pub alike : (κs : Lfts ended.signature.lifetimes) → Res ended.signature κs → Res ended.signature κs → Type 0

-- one that gives back a value: the results are equal
abbrev pub valued : (T : Ended) → Contract T → Callee → Code → Function
valued T clauses name code = record { ended = T; clauses = clauses; name = name; code = code; alike = λ κs r q. r ≡ q }

-- the contract that has no `requires`, and whose `ensures` is a plain fact of the result and of what the references show at the end
module _ {M : Type 1} (𝓤 : Ura M) (T : Ended) (κs : Lfts T.signature.lifetimes) where
  open connectives 𝓤 use {⌜◌⌝, ⊤ₛ}

  abbrev pub plainly : (Res T.signature κs → AtExit T κs → Type 0) → ClausesAt 𝓤 T κs
  plainly Fact = record { ghost = Unit {0}; requires = λ g. ⊤ₛ; ensures = λ g r s. ⌜ Fact r s ⌝ }

module _ (f : Function) where
  abbrev pub Lives : Type 0
  Lives = Lfts f.ended.signature.lifetimes

  abbrev pub Inputs : Lives → Type 0
  Inputs κs = Args f.ended.signature κs

  abbrev pub Result : Lives → Type 0
  Result κs = Res f.ended.signature κs

  -- what the types say of the inputs: a number fits its width, an array has its length, a slice is shorter than 2^63
  abbrev pub OfTypes : (κs : Lives) → Inputs κs → Type 0
  OfTypes κs a = (vss : Vals f.ended.signature κs) × shadow (owns (types_at f.ended.signature.params κs) a vss)

  -- what is said of inputs of their types, of a result, and of what the references show at the end
  abbrev pub Fact : Type 1
  Fact = (κs : Lives) (a : Inputs κs) → OfTypes κs a → Result κs → AtExit f.ended κs → Type 0

  -- it accepts every input, and its contract permits just what P says: in every model of the logic
  abbrev pub Promises : Fact → Type 2
  Promises P =
      (κs : Lives) (a : Inputs κs) (h : OfTypes κs a) (M : Type 1) (𝓤 : Ura M) (𝓛 : Logic 𝓤) (mem : Memory → SProp 𝓤) (run : Routine → Fun 𝓤)
      → f.clauses M 𝓤 𝓛 mem run κs a ≡ plainly 𝓤 f.ended κs (P κs a h)

  module _ {M : Type 1} {𝓤 : Ura M} (𝓛 : Logic 𝓤) (𝓜 : Model 𝓤 𝓛.H) (x : Bound 𝓛 f.ended.signature) where
    -- memory σ holds the inputs and what they refer to, and beside them F, whatever else there is
    open 𝓛 use {H}

    abbrev pub HoldsInputs : Memory → SProp 𝓤 → Type 1
    HoldsInputs σ F = Satisfies 𝓤 H 𝓜 σ (sep 𝓤 (on_entry 𝓛 f.ended.signature x.0 x.1 x.3 x.4) F)

    -- it holds the result r, whose machine value is v, and F; and what the lender of each `&mut` finds behind it once the loan is over is w, its last value
    abbrev pub HoldsResult : Memory → SProp 𝓤 → Val → Result x.0 → Lasts f.ended x.0 x.3 → Type 1
    HoldsResult σ F v r w = Satisfies 𝓤 H 𝓜 σ (sep 𝓤 (sep 𝓤 (Back 𝓛 f.ended.signature x v r) (sem 𝓛 (lasts f.ended x.0 x.3 w))) F)

    -- the machine's run of it from memory σ, where names mean what γ says, is done with some fuel n, and the memory σ' that it leaves holds just such a result and
    -- such last values as P speaks of
    abbrev pub ReturnsFrom : Env → Fact → Memory → SProp 𝓤 → Type 1
    ReturnsFrom γ P σ F =
        (n : ℕ) × (v : Val) × (σ' : Memory) × (step (γ f.name) n (passed 𝓛 f.ended.signature x) σ ≡ done (v, σ'))
        × ((h : OfTypes x.0 x.3) × (r : Result x.0) × (w : Lasts f.ended x.0 x.3)
        × Is (type_at f.ended.signature.result x.0) r (v ∷ []) × P x.0 x.3 h r (at_exit f.ended x.0 x.3 w) × HoldsResult σ' F v r w)

  -- wherever the machine has its code it ends so from every memory in which the inputs lie, whatever they are; and what else was there is still there
  abbrev pub Ends : Fact → Type 2
  Ends P =
      (M : Type 1) (𝓤 : Ura M) (𝓛 : Logic 𝓤) (𝓜 : Model 𝓤 𝓛.H) (𝓡 : Running 𝓤 𝓛.H 𝓜) (γ : Env) → Wired γ f.code
      → (x : Bound 𝓛 f.ended.signature) (σ : Memory) (F : SProp 𝓤) → HoldsInputs 𝓛 𝓜 x σ F → ∥ ReturnsFrom 𝓛 𝓜 x γ P σ F ∥₁

  -- two permitted answers are equal: the results, and what is left behind each reference by which it may change something
  abbrev pub OneAnswer : Fact → Type 0
  OneAnswer P =
      (κs : Lives) (a : Inputs κs) (h : OfTypes κs a) (r q : Result κs) (v w : Lasts f.ended κs a)
      → P κs a h r (at_exit f.ended κs a v) → P κs a h q (at_exit f.ended κs a w) → f.alike κs r q × (v ≡ w)

  -- it accepts every input, ends on every input, and may give one answer only
  pub record Determined : Type 2 where
    pub Permits : Fact
    pub promises : Promises Permits
    pub ends : Ends Permits
    pub one_answer : OneAnswer Permits
