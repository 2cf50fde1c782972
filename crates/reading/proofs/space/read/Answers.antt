-- Each refusal has its cause, from the tests that led there.
use Rattle.std.proofs.Common.{◌≡◌, ap, ◌∙◌, true, false, eq-eqb, arith}
use Rattle.packet.specs.Space.{version, flagged_idle}
use Rattle.packet.specs.Told.{told}
use Rattle.reading.specs.Places.{fault_at}
use Rattle.reading.specs.Reading.{fields}
use Rattle.reading.specs.Causes.{space_header_cut, idle, space_packet, space}
use Rattle.reading.proofs.Exactly.{refused, accepted}
use Rattle.reading.proofs.space.read.Goals as goal

pub returns-then-s-lt-SPACE_HEADER : goal.returns-then-s-lt-SPACE_HEADER
unfolding fault_at
returns-then-s-lt-SPACE_HEADER c = ap told c.refused.ensures ∙ refused (space_header_cut c.requires c.if-s-lt-SPACE_HEADER.true)

pub returns-then-apid-secondary : goal.returns-then-apid-secondary
unfolding fault_at
returns-then-apid-secondary c =
    let i : flagged_idle c.args.s.now ≡ true = cc in
    ap told c.refused-then-apid-secondary.ensures ∙ refused (idle (c.requires, c.if-s-lt-SPACE_HEADER.false) i)

pub returns-then-s-octets : goal.returns-then-s-octets
unfolding fault_at
returns-then-s-octets c =
    let i : flagged_idle c.args.s.now ≡ false = cc in
    ap told c.refused-then-s-octets.ensures ∙ refused (space_packet ((c.requires, c.if-s-lt-SPACE_HEADER.false), i) (omega arith))

pub returns : goal.returns
unfolding fields
returns c =
    let s = c.args.s.now in
    let i : flagged_idle s ≡ false = cc in
    cc (simp (eq-eqb (version s) 0 c.requires.1) at (accepted {s = s} (space ((c.requires, c.if-s-lt-SPACE_HEADER.false), i) (omega arith))))
