-- When a state is sound: the paper's sentence, clause for clause and in its order. The test `sound` counts blocks where this follows each to its place;
-- that the two say the same is stated at the end.
use Rattle.std.specs.Prelude.{ℕ, ◌≤◌, ◌<◌, ◌≡◌, true, false, ◌↔◌, length, get_or}
use Rattle.record.specs.Record.{possible}
use Rattle.marks.specs.Blocks.{blocks, lanes, mark, free}
use Rattle.lane.specs.Lane.{held, illegal, credit_of}
use Rattle.state.specs.declared.State.{State}
use Rattle.state.specs.State.{lane_at, total, sound}

-- a state has eight lanes and 64 marks, as the lengths of its arrays say
abbrev pub Shaped : State → Type 0
Shaped s = (length s.lanes ≡ lanes) × (length s.marks ≡ blocks)

-- the mark of a block: its lane x 64 + its place there, or that it is free
abbrev pub mark_at : State → ℕ → ℕ
mark_at s b = get_or s.marks b 0

-- lane i holds block b as its q-th, counted from 0: the lane's octets reach that place, and the block's mark names it
pub record Holds (s : State) (i q b : ℕ) : Type 0 where
  pub reached : q < held (lane_at s i)
  pub block : b < blocks
  pub marked : mark_at s b ≡ mark i q

-- A state is sound when
pub record IsSound (s : State) : Type 0 where
  -- open lanes' settings are legal,
  pub legal : (i : ℕ) → (lane_at s i).opened ≡ true → illegal (lane_at s i).settings ≡ false
  -- that sum is at most 64,
  pub sum : total s.lanes ≤ blocks
  -- each lane's blocks match its octets (it holds a block for each place that these reach, and no second one; no other block is taken; and without an
  -- open group there are no octets)
  pub match : (i q : ℕ) → q < held (lane_at s i) → (b : ℕ) × Holds s i q b
  pub single : (i q a b : ℕ) → Holds s i q a → Holds s i q b → a ≡ b
  pub taken : (b : ℕ) → b < blocks → (mark_at s b ≡ free → ⊥) → (i : ℕ) × (q : ℕ) × Holds s i q b
  pub group : (i : ℕ) → (lane_at s i).grouped ≡ false → (lane_at s i).octets ≡ 0
  -- and cap,
  pub cap : (i : ℕ) → held (lane_at s i) ≤ (lane_at s i).settings.cap
  -- no block is held twice,
  pub once : (b i q j r : ℕ) → Holds s i q b → Holds s j r b → (i ≡ j) × (q ≡ r)
  -- a closed lane holds nothing,
  pub shut : (i : ℕ) → (lane_at s i).opened ≡ false → ((lane_at s i).grouped ≡ false) × ((lane_at s i).octets ≡ 0)
  -- last is at most 16,383,
  pub last : (i : ℕ) → (lane_at s i).last ≤ 16383
  -- and the tallies, counting an open group as broken, form a possible record.
  pub tallies : (i : ℕ) → possible (credit_of (lane_at s i)) ≡ true

-- The test is passed by just the states that are sound.
abbrev pub SoundMeansSound : Type 0
SoundMeansSound = (s : State) → Shaped s → sound s ≡ true ↔ IsSound s
