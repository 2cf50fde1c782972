-- The three calls: which refusal is given, or what is done.
use Rattle.std.specs.Prelude.{ℕ, true, false, cond, not, List, [], ◌∷◌, get_or, set, ltb, Result, Ok, Err}
use Rattle.octets.specs.Order.{Test, ◌gives◌, first, numbers_of}
use Rattle.record.specs.Record.{record_size}
use Rattle.lane.specs.declared.Settings.{Settings}
use Rattle.lane.specs.declared.Lane.{Lane}
use Rattle.refusal.specs.Refusal.{named}
use Rattle.grouping.specs.declared.Refused.{Refused}
use Rattle.grouping.specs.declared.Refused.TheVariants as refused
use Rattle.grouping.specs.declared.Plan.{Plan}
use Rattle.grouping.specs.declared.Plan.TheVariants.{Sure, Ask}
use Rattle.lane.specs.Lane.{closed, holding, illegal, tallies_possible}
use Rattle.grouping.specs.Plans.{packet_plan}
use Rattle.grouping.specs.Steps.{Outcome}
use Rattle.state.specs.declared.State.{State}
use Rattle.state.specs.State.{lane_at, within, unsound}

-- Opening gives a station number, APID, secondary length, share and cap; tallies and last start at 0
abbrev pub opened_with : Settings → Lane
opened_with settings =
    record { opened = true; settings = settings; units = 0; packets = 0; missing = 0; broken = 0; last = 0; grouped = false; octets = 0 }

-- Opening, after 24: 11, 21, 22, 23, judged on the lanes
abbrev pub opening_causes : List Lane → ℕ → Settings → List (Test (List ℕ))
opening_causes lanes i settings =
    (ltb 7 i gives (11 ∷ []))
    ∷ ((get_or lanes i closed).opened gives (21 ∷ []))
    ∷ (illegal settings gives (22 ∷ []))
    ∷ (not (within (set lanes i (opened_with settings))) gives (23 ∷ []))
    ∷ []

-- Opening: 24, then these; size is that of the lent pool
abbrev pub opening_tests : State → ℕ → Settings → ℕ → List (Test (List ℕ))
opening_tests s i settings size = (unsound s size gives (24 ∷ [])) ∷ opening_causes s.lanes i settings

unfoldable pub opening_refusal : State → ℕ → Settings → ℕ → ℕ
opening_refusal s i settings size = first 0 (numbers_of (opening_tests s i settings size))

-- Closing, after 24: 11, 9, 25; room is the output's
abbrev pub closing_causes : List Lane → ℕ → ℕ → List (Test (List ℕ))
closing_causes lanes i room =
    (not (get_or lanes i closed).opened gives (11 ∷ []))
    ∷ (ltb room record_size gives (9 ∷ []))
    ∷ (not (tallies_possible (get_or lanes i closed)) gives (25 ∷ []))
    ∷ []

-- Closing: 24, then these
abbrev pub closing_tests : State → ℕ → ℕ → ℕ → List (Test (List ℕ))
closing_tests s i size room = (unsound s size gives (24 ∷ [])) ∷ closing_causes s.lanes i room

unfoldable pub closing_refusal : State → ℕ → ℕ → ℕ → ℕ
closing_refusal s i size room = first 0 (numbers_of (closing_tests s i size room))

-- a plan that asks for room gets it where the lanes are within once lane i has an open group of n octets
unfoldable pub settle : List Lane → ℕ → Result Plan Refused → Outcome
settle lanes i (Err r) = Err r
settle lanes i (Ok (Sure step)) = Ok step
settle lanes i (Ok (Ask n refusal step)) =
    cond (within (set lanes i (holding (get_or lanes i closed) n))) (Ok step) (Err (refused.Untaken refusal))

-- Packet to a lane: 24, 11, reading, 12, 13, 14, 15, 16, 17, the repeat test, 18, 19, 27, 20
unfoldable pub packet_step : State → ℕ → List ℕ → ℕ → ℕ → Outcome
packet_step s i packet size room =
    first (settle s.lanes i (packet_plan (lane_at s i) packet room))
    ((unsound s size gives Err (refused.Untaken (named 24))) ∷ [])
