-- One store is a text of one octet; where there is no room, nothing is put.
use Rattle.std.proofs.Common.{[], ◌∷◌, refl, arith}
use Rattle.octets.proofs.Puts.{stored_one}
use Rattle.text.proofs.Cut.{nothing_put, all_put}
use Rattle.text.proofs.put_one.Goals as goal

pub returns-then-at-out : goal.returns-then-at-out
returns-then-at-out c =
    let put = all_put c.args.out.now c.args.at (c.args.octet ∷ []) (omega arith) (refl, stored_one c.args.out.now c.args.at c.args.octet c.if-at-out.true) in
    record { value = put.0; out_after = put.1 }

pub returns : goal.returns
returns c =
    let put = nothing_put c.args.out.now c.args.at (c.args.octet ∷ []) (omega arith) in
    record { value = put.0; out_after = put.1 }
