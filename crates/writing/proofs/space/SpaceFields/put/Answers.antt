-- The header's three numbers and the data are put one after the other, which is one text put once (`Puts`).
use Rattle.std.proofs.Common.{◌+◌, ◌*◌, ◌-◌, ◌++◌, refl, length, arith}
use Rattle.octets.specs.Octets.{octets2}
use Rattle.octets.proofs.Puts.{first_put, then_put}
use Rattle.packet.specs.Space.{apids, counts}
use Rattle.writing.specs.Space.{space_octets}
use Rattle.writing.proofs.space.SpaceFields.put.Goals as goal

pub returns : goal.returns
unfolding space_octets
returns c =
    let fits = c.requires.field_nonzero in
    let d = c.args.out.now in
    let field = c.args.field.now in
    let a = octets2 ((c.args.self.packet_type * 2 + c.args.self.secondary) * apids + c.args.self.apid) in
    let b = octets2 (c.args.self.flags * counts + c.args.self.count) in
    let n = octets2 (length field - 1) in
    let put1 = first_put d 0 a (omega (arith, fits)) refl c.put_be16.ensures in
    let put2 = then_put d 0 a b (omega (arith, fits)) refl put1 c.put_be16-2.ensures in
    let put3 = then_put d 0 (a ++ b) n (omega (arith, fits)) refl put2 c.put_be16-3.ensures in
    (then_put d 0 (a ++ b ++ n) field (omega (arith, fits)) refl put3 c.put_octets.ensures).1
