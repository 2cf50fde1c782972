-- The part from the header to the end that was read is the data, by the law `part_told`.
use Rattle.std.proofs.Common.{ℕ, List, ◌≡◌, refl, arith}
use Rattle.std.specs.Prelude.{Result}
use Rattle.packet.specs.Told.{told, header_of, size_of}
use Rattle.packet.specs.declared.Packet.{Packet}
use Rattle.packet.specs.declared.Unread.{Unread}
use Rattle.reading.specs.Reading.{reading}
use Rattle.reading.proofs.Answers.{PartIs, says, part_told}
use Rattle.reading.proofs.data_of.Goals as goal

lies : (s : List ℕ) (r : Result Packet Unread) {a e : ℕ} → told r ≡ reading s → a ≡ header_of r → e ≡ size_of r → PartIs a e s
lies s r t from to = rw (from, to) (part_told r s (says r s t))

pub slice_bounds-result-end : goal.slice_bounds-result-end
slice_bounds-result-end c =
    let l = lies c.args.s.now c.read_packet-read.result c.read_packet-read.ensures c.header_of-from.ensures c.size_of-to.ensures in
    omega (arith, l.0, l.1)

pub returns-clause-result_value : goal.returns-clause-result_value
returns-clause-result_value c = (lies c.args.s.now c.read_packet-read.result c.read_packet-read.ensures c.header_of-from.ensures c.size_of-to.ensures).2

pub returns-clause-ref_ptr_value : goal.returns-clause-ref_ptr_value
returns-clause-ref_ptr_value c =
    let l = lies c.args.s.now c.read_packet-read.result c.read_packet-read.ensures c.header_of-from.ensures c.size_of-to.ensures in
    (refl, omega (arith, l.3))
