-- Demand 1. Each public entry accepts every input, of every length, and ends. It refuses bad input with one of the numbers in the paper, for exactly the cause
-- written there. A refusal changes no state, no pool and no output octet.
use Rattle.std.specs.Prelude.{◌≡◌}
use prog.Linked.{World}
use prog.Wired.{Wired}
use Rattle.entries.specs.Entry.{Permits, Asked}
use Rattle.entries.specs.Exported.{Name, entry, read_packet_c, read_record_file_c}
use Rattle.entries.specs.Contract.{Promises, Ends, Determined}
use Rattle.entries.specs.Functions.{Public, the_entry, function}
use Rattle.entries.specs.Built.{Built, linked}
use Rattle.entries.specs.Views.{Permitted}

-- ---- each public entry refuses with one of the numbers in the paper, for exactly the cause written there, and refused means unchanged; and its code has just
-- that promise, which accepts every input, and ends on every input as it permits
abbrev pub EachEntry : Type 2
EachEntry = (n : Name) → Asked (entry n) × Promises (function (the_entry n)) (Permitted n) × Ends (function (the_entry n)) (Permitted n)

-- ---- the index that a C caller lends to the reader of record files belongs to 25: every other answer leaves it as it was
abbrev pub IndexStays : Type 0
IndexStays = (g : read_record_file_c.Given) (a : read_record_file_c.Answer) (l : read_record_file_c.Lent) → Permits read_record_file_c g a l → (a.0 ≡ 25 → ⊥) → a.1 ≡ g.1

-- ---- and the place that he lends to the reader of packets to 1 to 7: where nothing is refused it stays as it was
abbrev pub PlaceStays : Type 0
PlaceStays = (g : read_packet_c.Given) (a : read_packet_c.Answer) (l : read_packet_c.Lent) → Permits read_packet_c g a l → a.0 ≡ 0 → a.1 ≡ g.1

-- ---- each public function accepts every input and ends, and two answers that it may give are equal
abbrev pub EachFunction : Type 2
EachFunction = (p : Public) → Determined (function p)

-- ---- the machine of every build of the repository has each function's code: so it ends there as said
abbrev pub EachLinked : Type 0
EachLinked = (W : World) → Built W → (p : Public) → Wired (linked W) (function p).code

pub record Demand1 : Type 2 where
  pub each_entry : EachEntry
  pub index_stays : IndexStays
  pub place_stays : PlaceStays
  pub each_function : EachFunction
  pub each_linked : EachLinked
