-- The front of both (`fill_front`) decides (`headed`).
use Rattle.std.proofs.Common.{◌≡◌, ◌++◌, take, sym, ap, ◌∙◌, length-append}
use Rattle.reading.specs.Reading.{header, size, refusal}
use Rattle.pieces.specs.Pieces.{number_told, one_packet, unfinished, kind_of}
use Rattle.pieces.proofs.Headers.{headed}
use Rattle.pieces.proofs.judge_joined.Goals as goal

pub returns : goal.returns
unfolding one_packet unfinished
returns c =
    let p = c.args.piece.now in
    let l = c.args.lead.now in
    let s = p ++ l in
    let h = headed s in
    let first = c.with_sizes-first in
    let front = first.ensures ∙ c.fill_front-end.ensures.front_after in
    let read : number_told c.check.result ≡ refusal (take 8 s) = c.check.ensures ∙ ap refusal front in
    let announced = first.result.size_announced ∙ ap size front in
    let octets = sym (length-append p l) in
    let number : number_told c.read_of_all-read.result ≡ refusal s = c.read_of_all-read.ensures ∙ (rw (read, announced, octets) h.refusal_so) in
    let headers = first.result.header_announced ∙ ap header front ∙ h.header_so in
    let all = announced ∙ h.size_so in
    c.kind_of.ensures ∙ (λ i. kind_of (number i) (octets i) (headers i) (all i))
