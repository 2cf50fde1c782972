-- A lane's past: whether it is open, and which packets came since its opening that were not refused, found from its calls and the replies alone. And what "in every
-- run" means.
use Rattle.std.specs.Prelude.{ℕ, cond, List, [], ◌∷◌, map}
use Rattle.lane.specs.declared.Settings.{Settings}
use Rattle.lane.specs.declared.Lane.{Lane}
use Rattle.lane.specs.Lane.{unset, closed}
use Rattle.rule.specs.Rule.{Taken, taken_of, accepted, lane_with}
use Rattle.demands.specs.Runs.{Handed, Start, begun, Call, opens, takes, closes, Reply, is_refused, AnyIntake, run, names}

-- closed; or open, with the settings of the opening and all packets since that were not refused, the newest first
pub data Past : Type 0 where
  shut : Past
  since : (settings : Settings) (packets : List Taken) → Past

abbrev pub settings_of : Past → Settings
settings_of shut = unset
settings_of (since settings packets) = settings

-- the packets that it has accepted: a Repeat changes nothing
abbrev pub accepted_in : Past → List Taken
accepted_in shut = []
accepted_in (since settings packets) = accepted packets

-- the lane that has accepted them
abbrev pub lane_from : Past → Lane
lane_from shut = closed
lane_from (since settings packets) = lane_with settings (accepted_in (since settings packets))

-- the past after one more call of that lane that isn't refused; a packet to a closed lane leaves no trace
abbrev pub grown : Past → Call → Past
grown past (opens i settings) = since settings []
grown shut (takes i packet out) = shut
grown (since settings packets) (takes i packet out) = since settings (taken_of settings packet ∷ packets)
grown past (closes i out) = shut

-- A refused packet counts as not received, and so does every refused call
abbrev pub later : Past → Call → Reply → Past
later past c r = cond (is_refused r) past (grown past c)

-- lane i's past after a run
unfoldable pub past_from : AnyIntake → ℕ → Past → Handed → List Call → Past
past_from n i past x [] = past
past_from n i past x (c ∷ calls) = past_from n i (cond (names i c) (later past c (n.reply_to x c)) past) (n.leaves x c) calls

abbrev pub past_of : AnyIntake → ℕ → Start → List Call → Past
past_of n i start calls = past_from n i shut (begun start) calls

-- the eight lanes, as their pasts make them
abbrev pub lanes_from : (ℕ → Past) → List Lane
lanes_from past = map (λ i. lane_from (past i)) (0 ∷ 1 ∷ 2 ∷ 3 ∷ 4 ∷ 5 ∷ 6 ∷ 7 ∷ [])

-- ---- in every run from a fresh start: of the state and the pool that it leaves, and of each lane's past
abbrev pub InEveryRun : AnyIntake → (Handed → (ℕ → Past) → Type 0) → Type 0
InEveryRun n P = (start : Start) (calls : List Call) → P (run n (begun start) calls) (λ i. past_of n i start calls)
