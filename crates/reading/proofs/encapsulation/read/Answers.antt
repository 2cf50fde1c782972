-- Each field is what the octets say (`Exits`); what the packet tells with them is `verdict`'s.
use Rattle.std.proofs.Common.{refl, ap, ◌∙◌, arith}
use Rattle.packet.specs.Told.{told}
use Rattle.reading.specs.Places.{fault_at}
use Rattle.reading.specs.Causes.{encap_header_cut}
use Rattle.reading.proofs.Exits.{header_read, told_at}
use Rattle.reading.proofs.encapsulation.read.Goals as goal

pub returns-then-s-header : goal.returns-then-s-header
unfolding fault_at
returns-then-s-header c =
    let s = c.args.s.now in
    let h = header_read s c.octet_at-first.ensures c.header_for-header.ensures in
    ap told c.refused.ensures ∙ told_at s (encap_header_cut c.requires (omega (arith, h, c.if-s-header.true))) refl
