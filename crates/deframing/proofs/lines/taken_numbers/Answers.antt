-- A flag is told as the number that its octet is.
use Rattle.std.proofs.Common.{◌≡◌, ◌∷◌, [], take, rules, ◌∙◌}
use Rattle.octets.specs.Octets.{one}
use Rattle.adler.specs.Adler.{adler}
use Rattle.deframing.proofs.lines.taken_numbers.Goals as goal

pub returns : goal.returns
unfolding one
returns c =
    let f = c.args.framed in
    let given_up : c.from.result ≡ one f.given_up = search rules in
    let dropped : c.from-2.result ≡ one f.dropped = search rules in
    let sum : c.from-3.result ≡ adler (take f.octets c.args.out.now) = c.from-3.ensures ∙ c.adler32.ensures in
    λ i. f.packets ∷ f.octets ∷ given_up i ∷ dropped i ∷ sum i ∷ []
