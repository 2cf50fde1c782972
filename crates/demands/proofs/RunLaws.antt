-- The laws of specs/Laws.antt: what a credit needs is the grouping rule's word on the closing (`Followed`); the rest is shown beside the demands.
use Prim.Native.Nat.{ℕ, ◌≤◌, ◌<◌}
use mathlib.Core.Path.{◌≡◌, sym, ap, subst, ◌∙◌}
use mathlib.Core.List.{List}
use native.Mathlib.Omega.{arith}
use lib.ListN.{length}
use Rattle.octets.specs.Output.{put}
use Rattle.octets.proofs.Again.{read_four}
use Rattle.record.specs.Record.{record_in, record_octets}
use Rattle.record.specs.declared.Record.{Record}
use Rattle.lane.proofs.Fine.{Tallies, is_fine}
use Rattle.state.specs.State.{lane_at}
use Rattle.rule.specs.Rule.{endings, units, credit}
use Rattle.demands.specs.Runs.{ours, Handed, begun, closes, run}
use Rattle.demands.specs.Past.{Past, shut, since, settings_of, accepted_in, lane_from, past_of}
use Rattle.demands.specs.Laws.{CreditNeeds, Laws}
use Rattle.calls.proofs.Sound.{lane_fine}
use Rattle.demands.proofs.Followed.{reached_at, call_follows, lane_is}
use Rattle.demands.proofs.InShare.{each_in_share_stays}
use Rattle.demands.proofs.Unrefused.{gets_room, repeats_change_nothing}
use Rattle.demands.proofs.Shared.{only_its_own, freed, takes_lowest}
use Rattle.demands.proofs.Again.{octets_stay}

units_written : (r : Record) (out : List ℕ) → r.units < 4294967296 → (record_in (put out 0 (record_octets r))).units ≡ r.units
unfolding put record_octets
units_written r out h = read_four r.units h

-- there are no more units than packets, and no more packets than a lane takes
few_units : (past : Past) → Tallies (lane_from past) → (units (accepted_in past) ≤ length (accepted_in past)) × (length (accepted_in past) ≤ 262144)
unfolding endings
few_units shut t = (omega arith, omega arith)
few_units (since s ts) t = (omega arith, omega arith)

credit_needs_units : (n : ℕ) → CreditNeeds n
credit_needs_units n start calls i out credited e told =
    let x : Handed = run ours (begun start) calls in
    let past : Past = past_of ours i start calls in
    let h = reached_at i start calls in
    let few = few_units past (subst Tallies (lane_is start calls i) (is_fine (lane_at x.state i) (lane_fine x.state h.sound i)).tallies) in
    let word = rw e at (call_follows x h.sound h.size past (closes i out) h.slot).word in
    let written : credited ≡ put out 0 (record_octets (credit (settings_of past) (accepted_in past))) = cc in
    let same : units (accepted_in past) ≡ n = sym (units_written (credit (settings_of past) (accepted_in past)) out (omega (arith, few.0, few.1))) ∙ ap (λ (o : List ℕ). (record_in o).units) (sym written) ∙ told in
    (same, omega (arith, same, few.0), h.told ∙ same)

pub laws : Laws
laws = record {
  each_in_share_stays = each_in_share_stays;
  credit_needs_units = credit_needs_units;
  credit_of_3000 = credit_needs_units 3000;
  gets_room = gets_room;
  repeats_change_nothing = repeats_change_nothing;
  only_its_own = only_its_own;
  octets_stay = octets_stay;
  freed = freed;
  takes_lowest = takes_lowest;
}
