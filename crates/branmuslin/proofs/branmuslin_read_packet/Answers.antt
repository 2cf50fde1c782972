-- A packet's numbers are the struct's, and a refusal leaves them (`Cases`).
use Rattle.std.proofs.Common.{◌∙◌}
use Rattle.branmuslin.proofs.Cases.{of_packet, of_refused}
use Rattle.branmuslin.proofs.branmuslin_read_packet.Goals as goal

pub returns-in-Ok : goal.returns-in-Ok
returns-in-Ok c =
    let ends = of_packet c.args.octets.now c.args.numbers.now c.args.place.now c.in-Ok.p c.in-Ok.ensures in
    record { value = ends.0; numbers_after = c.packet_numbers.ensures ∙ ends.1; place_after = ends.2 }

pub returns-in-Err : goal.returns-in-Err
returns-in-Err c =
    let ends = of_refused c.args.octets.now c.args.numbers.now c.args.place.now c.in-Err.unread c.in-Err.ensures in
    record { value = c.from.ensures ∙ ends.0; numbers_after = ends.1; place_after = ends.2 }
