-- In each arm the call that was read is the case that the arm names.
use Rattle.std.proofs.Common.{◌≡◌, sym, refl, ap, ◌∙◌, Some}
use Rattle.runfile.specs.Calls.{call_in, size_in}
use Rattle.runfile.specs.declared.Call.TheVariants.{Opening}
use Rattle.runfile.proofs.Fits.{call_fits}
use Rattle.replaying.specs.Running.{opened, ran, call_pool, call_out}
use Rattle.replaying.proofs.calls.run_call.Goals as goal

pub run_packet-requires : goal.run_packet-requires
run_packet-requires c = rw (ap size_in (sym c.call_in.ensures ∙ c.in_ok-lane.was ∙ ap Some c.in-Packet.is)) at (call_fits c.args.s.now)

pub returns-in-Opening : goal.returns-in-Opening
unfolding ran call_pool call_out
returns-in-Opening c =
    let o = c.in-Opening in
    let read : call_in c.args.s.now ≡ Some (Opening o.lane o.settings) = sym c.call_in.ensures ∙ c.in_ok-lane.was ∙ ap Some o.is in
    rw read (record { value = ap (λ x. Some (opened (Opening o.lane o.settings) o.lane x)) c.open_lane-changed.ensures; pool_after = refl; out_after = refl })

pub returns-in-Closing-clause-pool_after : goal.returns-in-Closing-clause-pool_after
unfolding call_pool
returns-in-Closing-clause-pool_after c = rw (sym c.call_in.ensures ∙ c.in_ok-lane.was ∙ ap Some c.in-Closing.is)
