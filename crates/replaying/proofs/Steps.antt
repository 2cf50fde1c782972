-- One step of a run: which of the three it is, and that it leads on. What carries `step` and both loops over it.
use Prim.Native.Nat.{ℕ, suc, ◌+◌, ◌-◌, ◌≤◌, ◌<◌}
use mathlib.Core.Path.{◌≡◌, refl, ap, subst}
use mathlib.Core.Bool.{true, false, cond}
use mathlib.Core.List.{List}
use native.Mathlib.Omega.{arith}
use borrow.Author.Tests.{lt-ltb, le-ltb}
use lib.Dec.{ltb}
use lib.ListN.{length, take, drop, length-drop}
use lib.Seq.{take_all}
use Rattle.std.specs.Prelude.{Option, Some, None}
use Rattle.octets.proofs.Order.{either}
use Rattle.text.specs.Text.{ascii}
use Rattle.runfile.specs.Calls.{call_in, size_in}
use Rattle.runfile.specs.declared.Call.{Call}
use Rattle.state.specs.declared.State.{State}
use Rattle.telling.specs.declared.Progress.{Progress}
use Rattle.runfile.proofs.Fits.{call_fits}
use Rattle.telling.proofs.Ready.{Going as Goes, goes}
use Rattle.telling.specs.Lines.{last_lines, line_room, Lined}
use Rattle.replaying.specs.Lines.{line_of}
use Rattle.replaying.specs.Running.{ran}
use Rattle.replaying.specs.Run.{Standing, standing, finished, longest, ahead, call, ends, call_text, after_call, next, next_text, ready, steps_left}
use Rattle.replaying.specs.declared.Ran.{Ran}
use Rattle.replaying.proofs.Front.{Done, size_told, some_octets}

-- ---- which step it is
module _ (s : List ℕ) (w : Standing) where
  pub too_long : longest < length s → (ends s w ≡ next s w) × (ascii "too long\n" ≡ next_text s w)
  unfolding next next_text
  too_long h = simp (lt-ltb longest (length s) h) (refl, refl)

  -- what is left of the run file, as the code lends it, was run
  pub here : {r : Option Ran} {pool out : List ℕ} → let x = take (length s - w.progress.at) (ahead s w) in Done w.progress.state x w.pool w.out r pool out (call_in x)
      → Done w.progress.state (ahead s w) w.pool w.out r pool out (call s w)
  here {r} {pool} {out} d =
      subst (λ (x : List ℕ). Done w.progress.state x w.pool w.out r pool out (call_in x))
      (take_all (length s - w.progress.at) (ahead s w) (omega (arith, length-drop w.progress.at s))) d

  -- where no call was run there is none, and all is as it was; else it is the one that was run
  module _ (pool out : List ℕ) where
    none_run : (c : Option Call) → Done w.progress.state (ahead s w) w.pool w.out None pool out c
        → (standing (finished w.progress) pool out ≡ after_call s w c) × (last_lines (length s) w.progress.at w.progress.calls pool ≡ call_text s w c)
    none_run None (e, (f, g)) = rw (f, g) (refl, refl)
    none_run (Some c) (e, (f, g)) = (cc, cc)

    one_run : (c : Option Call) (r : Ran) → Done w.progress.state (ahead s w) w.pool w.out (Some r) pool out c
        → (standing (record { at = w.progress.at + r.octets; calls = w.progress.calls + 1; done = false; state = r.state }) pool out ≡ after_call s w c)
        × (line_of w.progress.at r.outcome out ≡ call_text s w c) × (r.octets ≡ size_in c) × (0 < r.octets)
    one_run None r (e, (f, g)) = absurd (cc)
    one_run (Some c) r (e, (f, g)) =
        let same : r ≡ ran w.progress.state (ahead s w) w.pool w.out c = cc in
        let size = size_told w.progress.state (ahead s w) w.pool w.out c in
        rw (same, f, g, size) (refl, refl, refl, some_octets c)

    pub last : length s ≤ longest → Done w.progress.state (ahead s w) w.pool w.out None pool out (call s w)
        → (standing (finished w.progress) pool out ≡ next s w) × (last_lines (length s) w.progress.at w.progress.calls pool ≡ next_text s w)
    unfolding next next_text
    last l d = simp (le-ltb longest (length s) l) (none_run (call s w) d)

    module _ (r : Ran) (d : Done w.progress.state (ahead s w) w.pool w.out (Some r) pool out (call s w)) where
      pub ran_within : w.progress.at ≤ length s → (w.progress.at + r.octets ≤ length s) × (0 < r.octets)
      ran_within l =
          let run = one_run (call s w) r d in
          (omega (arith, run.2, call_fits (ahead s w), length-drop w.progress.at s), run.3)

      pub called : length s ≤ longest
          → (standing (record { at = w.progress.at + r.octets; calls = w.progress.calls + 1; done = false; state = r.state }) pool out ≡ next s w)
          × (line_of w.progress.at r.outcome out ≡ next_text s w)
      unfolding next next_text
      called l = let run = one_run (call s w) r d in simp (le-ltb longest (length s) l) (run.0, run.1)

-- what `step` promises, where x is the standing after it and t its text
abbrev pub Stepped : Standing → List ℕ → List ℕ → ℕ → Progress State → List ℕ → List ℕ → List ℕ → ℕ → Type 0
Stepped x t d to p pool out text to' = (p ≡ x.progress) × ((pool ≡ x.pool) × ((out ≡ x.out) × Lined d to t text to'))

pub stepped : (s : List ℕ) (w x : Standing) (t d : List ℕ) (to : ℕ) → (x ≡ next s w) × (t ≡ next_text s w)
    → {p : Progress State} {pool out text : List ℕ} {to' : ℕ} → Stepped x t d to p pool out text to' → Stepped (next s w) (next_text s w) d to p pool out text to'
stepped s w x t d to (e, f) g = rw (← e, ← f) g

pub stands : (x : Standing) {p : Progress State} {pool out : List ℕ} → p ≡ x.progress → pool ≡ x.pool → out ≡ x.out → standing p pool out ≡ x
stands x e f g = rw (e, f, g)

-- ---- what a step asks for
abbrev pub Going : ℕ → Progress State → Type 0
Going n p = Goes p.done p.calls p.at n

pub is_ready_lem : (n room : ℕ) (p : Progress State) (to : ℕ) → ready n room p to ≡ true → Going n p × (to + line_room ≤ room)
unfolding ready
is_ready_lem n room p to = goes p.done p.calls p.at n to room

-- ---- it leads on: a run has less and less before it
abbrev pub before : ℕ → Progress State → ℕ
before n p = cond p.done 0 (suc (n - p.at))

module _ (s : List ℕ) (w : Standing) (g : Going (length s) w.progress) where
  within : w.progress.at + size_in (call s w) ≤ length s
  within = omega (arith, call_fits (drop w.progress.at s), length-drop w.progress.at s, g.inside)

  -- the same of each case of the call
  call_falls : (c : Option Call) → w.progress.at + size_in c ≤ length s → before (length s) (after_call s w c).progress < before (length s) w.progress
  call_falls None h = simp g.undone (omega arith)
  call_falls (Some c) h = simp g.undone (omega (arith, h, some_octets c))

  call_stays : (c : Option Call) → w.progress.at + size_in c ≤ length s
      → ((after_call s w c).progress.calls ≤ (after_call s w c).progress.at) × ((after_call s w c).progress.at ≤ length s)
  call_stays None h = (g.counted, g.inside)
  call_stays (Some c) h = (omega (arith, g.counted, some_octets c), h)

  call_fewer : {A : Type 0} (f : ℕ → A) (c : Option Call) → w.progress.at + size_in c ≤ length s
      → ((after_call s w c).progress.done ≡ true → (m k : ℕ) → f m ≡ f k) → f (length s - w.progress.calls) ≡ f (steps_left s (after_call s w c))
  call_fewer f None h same = same refl _ _
  call_fewer f (Some c) h same = ap f (omega (arith, g.counted, h, some_octets c))

  pub falls : before (length s) (next s w).progress < before (length s) w.progress
  unfolding next
  falls = either (ltb longest (length s)) (λ t. simp (t, g.undone) (omega arith)) (λ f. simp f (call_falls (call s w) within))

  pub stays : ((next s w).progress.calls ≤ (next s w).progress.at) × ((next s w).progress.at ≤ length s)
  unfolding next
  stays = either (ltb longest (length s)) (λ t. simp t (g.counted, g.inside)) (λ f. simp f (call_stays (call s w) within))

  -- the steps that are left after it, where the run isn't done, are one fewer
  pub fewer : {A : Type 0} (f : ℕ → A) → ((next s w).progress.done ≡ true → (m k : ℕ) → f m ≡ f k) → f (length s - w.progress.calls) ≡ f (steps_left s (next s w))
  unfolding next
  fewer f same =
      either (ltb longest (length s)) (λ t. same (simp t) _ _)
      (λ e. simp e (call_fewer f (call s w) within (λ d. same (simp e d))))
