-- A run's calls are what the entries permit, since what an answer tells fixes it.
use mathlib.Core.Path.{◌≡◌, refl, sym, ap, ap₂, ◌∙◌}
use lib.ListN.{length, drop}
use Rattle.octets.specs.Output.{leading}
use Rattle.state.specs.declared.State.{State}
use Rattle.intake.specs.After.{taking}
use Rattle.intake.proofs.Given.{answer_told}
use Rattle.entries.proofs.LaneEntries.{takes_packet}
use Rattle.demands.specs.Runs.{to_opening, to_packet, to_closing, reply, after}
use Rattle.demands.specs.Codes.{RunsAreTheCodes}

pub runs_are_the_codes : RunsAreTheCodes
unfolding reply after
runs_are_the_codes = record {
  openings = λ x i settings refusal s (told, left). (ap to_opening (sym (ap leading told)), ap (λ (t : State). record { state = t; pool = x.pool }) (sym left));
  packets = λ x shaped i packet out answer s pool output (told, left).
      let given = taking x.state i packet (length x.pool) (length out) in
      let same : given.answer ≡ answer = takes_packet.one_answer given.answer answer
      (answer_told x.state i packet (length x.pool) (length out) given refl ∙ sym told) in
      (ap₂ to_packet same (sym (ap (λ l. l.2) left)), λ j. record { state = (sym left j).0; pool = (sym left j).1 });
  closings = λ x i out refusal s output (told, left).
      (ap₂ to_closing (sym (ap leading told)) (sym (ap (λ l. l.1) left)), λ j. record { state = (sym left j).0; pool = x.pool });
  start = λ start s (told, left). sym left;
  reading = λ s p (told, left). sym told;
  data_of = λ s r (told, left). sym (ap (drop 3) told);
  space = λ g a out (told, left) j. record { tells = sym told j; out = sym left j };
  encapsulation = λ g a out (told, left) j. record { tells = sym told j; out = sym left j };
  reading_record = λ s a (told, left). sym told;
  reading_file = λ s a (told, left). sym told;
  writing_record = λ g a out (told, left) j. record { tells = sym told j; out = sym left j };
}
