-- A lane as its source sees it: its struct, and the octets of its open group; and what a packet's step makes of them.
use Prim.Native.Nat.{ℕ}
use mathlib.Core.Bool.{cond}
use mathlib.Core.List.{List, [], ◌++◌}
use Rattle.octets.specs.Output.{put}
use Rattle.lane.specs.declared.Lane.{Lane}
use Rattle.grouping.specs.Steps.{Outcome}
use Rattle.std.specs.Prelude.{Ok, Err}
use Rattle.grouping.specs.declared.Step.TheVariants.{Repeat, Stray, Hold, Unit}
use Rattle.grouping.specs.Packets.{user_data}
use Rattle.grouping.specs.Steps.{lane_after}

pub record Slot : Type 0 where
  pub lane : Lane
  pub group : List ℕ

-- a lane without a group
abbrev pub without : Lane → Slot
without l = record { lane = l; group = [] }

-- ---- a packet's step, of the group and the user data
abbrev pub group_after : List ℕ → List ℕ → Outcome → List ℕ
group_after g u (Err r) = g
group_after g u (Ok Repeat) = g
group_after g u (Ok (Stray a)) = []
group_after g u (Ok (Hold a on n)) = cond on g [] ++ u
group_after g u (Ok (Unit a on n)) = []

abbrev pub out_from : List ℕ → List ℕ → Outcome → List ℕ → List ℕ
out_from g u (Err r) out = out
out_from g u (Ok Repeat) out = out
out_from g u (Ok (Stray a)) out = out
out_from g u (Ok (Hold a on n)) out = out
out_from g u (Ok (Unit a on n)) out = put out 0 (cond on g [] ++ u)

abbrev pub slot_after : Slot → List ℕ → Outcome → Slot
slot_after v p d = record { lane = lane_after v.lane d; group = group_after v.group (user_data v.lane.settings p) d }
