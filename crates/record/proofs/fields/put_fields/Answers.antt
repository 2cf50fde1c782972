-- The fields are put one after the other, which is one text put once (`Puts`).
use Rattle.std.proofs.Common.{◌++◌, refl, arith}
use Rattle.octets.specs.Octets.{octets2, octets4}
use Rattle.octets.proofs.Puts.{first_put, then_put}
use Rattle.record.specs.Record.{record_octets}
use Rattle.record.proofs.fields.put_fields.Goals as goal

pub returns : goal.returns
unfolding record_octets
returns c =
    let d = c.args.out.now in
    let r = c.args.r in
    let a = octets2 r.station in
    let b = a ++ octets2 r.apid in
    let e = b ++ octets4 r.units in
    let f = e ++ octets4 r.packets in
    let g = f ++ octets4 r.missing in
    let put1 = first_put d 0 a (omega arith) refl c.put_be16.ensures in
    let put2 = then_put d 0 a (octets2 r.apid) (omega arith) refl put1 c.put_be16-2.ensures in
    let put3 = then_put d 0 b (octets4 r.units) (omega arith) refl put2 c.put_be32.ensures in
    let put4 = then_put d 0 e (octets4 r.packets) (omega arith) refl put3 c.put_be32-2.ensures in
    let put5 = then_put d 0 f (octets4 r.missing) (omega arith) refl put4 c.put_be32-3.ensures in
    (then_put d 0 g (octets4 r.broken) (omega arith) refl put5 c.put_be32-4.ensures).1
