-- Every call leaves a sound state sound, so every state that a run from the fresh start reaches is sound.
use mathlib.Core.List.{List, [], ◌∷◌}
use lib.ListN.{length}
use Rattle.state.specs.Clauses.{Shaped}
use Rattle.calls.proofs.Sound.{Sound, fresh}
use Rattle.calls.proofs.Calls.{opening_shaped, closing_shaped, taking_shaped, opening_sound, closing_sound, taking_sound}
use Rattle.demands.specs.Runs.{ours, Handed, Start, begun, Call, opens, takes, closes, after, run}

pub after_shaped : (x : Handed) → Shaped x.state → (c : Call) → Shaped (after x c).state
unfolding after
after_shaped x shape (opens i settings) = opening_shaped x.state shape i settings (length x.pool)
after_shaped x shape (takes i p out) = taking_shaped x.state shape i p (length x.pool) (length out)
after_shaped x shape (closes i out) = closing_shaped x.state shape i (length x.pool) (length out)

pub after_sound : (x : Handed) → Sound x.state → (c : Call) → Sound (after x c).state
unfolding after
after_sound x k (opens i settings) = opening_sound x.state k i settings (length x.pool)
after_sound x k (takes i p out) = taking_sound x.state k i p (length x.pool) (length out)
after_sound x k (closes i out) = closing_sound x.state k i (length x.pool) (length out)

-- ---- runs from the fresh start, with any pool
run_sound : (x : Handed) → Sound x.state → (cs : List Call) → Sound (run ours x cs).state
unfolding run
run_sound x k [] = k
run_sound x k (c ∷ cs) = run_sound (after x c) (after_sound x k c) cs

pub reached_sound : (start : Start) (cs : List Call) → Sound (run ours (begun start) cs).state
reached_sound start cs = run_sound (begun start) fresh cs
