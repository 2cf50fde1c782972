-- Demand 1, whole: that each entry is as asked (`Asked`), that its code promises just that (`Promised`) and ends so (`Ends`), that every function may give one
-- answer only (`OneAnswer`), and that the machine of every build has its code (`Built`).
use mathlib.Core.Path.{◌≡◌, sym, ap, ◌∙◌}
use borrow.Author.Tests.{eq-eqb, ne_eqb}
use lib.ListN.{drop}
use Rattle.octets.specs.Output.{leading}
use Rattle.reading.specs.Reading.{refusal}
use Rattle.record.specs.Reading.{file_refusal}
use Rattle.entries.specs.Functions.{the_entry, function}
use Rattle.entries.specs.Views.{Permitted}
use Rattle.entries.specs.Demand1.{EachEntry, IndexStays, PlaceStays, EachFunction, Demand1}
use Rattle.entries.proofs.Asked.{as_asked}
use Rattle.entries.proofs.Promised.{promised}
use Rattle.entries.proofs.Honours.{honours}
use Rattle.entries.proofs.Ends.{ends}
use Rattle.entries.proofs.OneAnswer.{one_answers}
use Rattle.entries.proofs.Built.{there}

each_entry : EachEntry
each_entry n = (as_asked n, promised n, ends (function (the_entry n)) (Permitted n) (honours (the_entry n)) (promised n))

index_stays : IndexStays
index_stays g a l (told, left) other =
    let number : a.0 ≡ file_refusal g.0.0 = ap leading told in
    let index = ap (λ t. leading (drop 1 t)) told in
    index ∙ simp (ne_eqb (file_refusal g.0.0) 25 (λ z. other (number ∙ z)))

place_stays : PlaceStays
unfolding refusal
place_stays g a l (told, left) none =
    let number : a.0 ≡ refusal g.0.0 = ap leading told in
    let place = ap (λ t. leading (drop 1 t)) told in
    place ∙ simp (eq-eqb (refusal g.0.0) 0 (sym number ∙ none))

each_function : EachFunction
each_function p =
    let one = one_answers p in
    record {
      Permits = one.Permits;
      promises = one.promises;
      ends = ends (function p) one.Permits (honours p) one.promises;
      one_answer = one.one_answer;
    }

pub demand1 : Demand1
demand1 = record { each_entry = each_entry; index_stays = index_stays; place_stays = place_stays; each_function = each_function; each_linked = there }
