-- Demand 3 in one piece: a source within its share is answered as if alone (`Alone`), what has nothing amiss isn't refused (`Unrefused`), and what holds of the
-- blocks (`Shared`, `Again`). The lanes of the state are those of their pasts (`Followed`).
use mathlib.Core.Path.{sym, ap, ◌∙◌}
use lib.ListN.{take}
use Rattle.state.proofs.Clauses.{sound_means_sound}
use Rattle.demands.specs.Runs.{ours, begun, opens, number_in, own}
use Rattle.demands.specs.Demand3.{AsAlone, StaysSound, Demand3}
use Rattle.calls.proofs.Sound.{sound_is}
use Rattle.demands.proofs.Reached.{reached_sound}
use Rattle.demands.proofs.Alone.{alike_replies}
use Rattle.demands.proofs.View.{run_size}
use Rattle.demands.proofs.Followed.{lane_is, number_is}
use Rattle.demands.proofs.Unrefused.{room_in_share, opens_if_fine, closes_if_fine}
use Rattle.demands.proofs.Shared.{within_cap, no_block_in_two, none_lost}
use Rattle.demands.proofs.Again.{writes_in_its_own, used_again}

as_alone : AsAlone ours
as_alone i calls shared alone within never =
    alike_replies i calls shared alone (λ k. rw (lane_is alone (take k (own i calls)) i) (within k))
    (λ k settings e r. never k settings e (sym (number_is shared (take k calls) (opens i settings)) ∙ ap number_in r) r)

stays_sound : StaysSound ours
stays_sound start calls = let k = reached_sound start calls in (k.shape, (sound_means_sound _ k.shape).0 (sound_is _ k), run_size (begun start) calls ∙ start.whole)

pub demand3 : Demand3 ours
demand3 = record {
  as_alone = as_alone;
  room_in_share = room_in_share;
  opens_if_fine = opens_if_fine;
  closes_if_fine = closes_if_fine;
  within_cap = within_cap;
  no_block_in_two = no_block_in_two;
  writes_in_its_own = writes_in_its_own;
  none_lost = none_lost;
  used_again = used_again;
  stays_sound = stays_sound;
}
