-- The code's contracts say what the entries promise: clauses side by side are read as one (`Plain`), which says that what is told, and what is left, are those of
-- the promise.
use Prim.Native.Nat.{ℕ}
use mathlib.Core.Path.{◌≡◌, refl, sym, ap, ◌∙◌}
use mathlib.Core.List.{List, [], ◌∷◌}
use lib.Dec.{leb}
use lib.ListN.{length}
use Rattle.octets.specs.Octets.{one}
use Rattle.octets.specs.Output.{leading, output_after}
use Rattle.octets.proofs.Order.{either}
use Rattle.reading.specs.Reading.{refusal}
use Rattle.walk.specs.Walk.{walked}
use Rattle.lanes.specs.Numbers.{numbered}
use Rattle.listing.specs.Told.{listed, after}
use Rattle.entries.specs.Entries.{told_walked, told_framed}
use Rattle.entries.specs.Exported as name
use Rattle.entries.specs.Exported.{Name, told_numbered}
use Rattle.entries.specs.Contract.{Promises}
use Rattle.entries.specs.Functions.{the_entry, function}
use Rattle.entries.specs.Views.{view, Permitted}
use Rattle.entries.proofs.EachEntry.{found_told, found_again, same_walk, one_fixes}
use Rattle.entries.proofs.LaneEntries.{same_answered, same_numbered}
use Rattle.entries.proofs.FrameEntries.{same_framed}
use Rattle.entries.proofs.Plain.{in_words, two, three, four}

-- a list of one number; and what a listing leaves
number_alone : {n m : ℕ} → n ∷ [] ≡ m ∷ [] → n ≡ m
number_alone e = ap leading e

listed_after : (text out : List ℕ) → after text out ≡ output_after (leading (listed text (length out))) text out
unfolding after listed output_after
listed_after text out = either (leb (length text) (length out)) (λ t. simp t) (λ f. simp f)

pub promised : (n : Name) → Promises (function (the_entry n)) (Permitted n)
unfolding refusal walked numbered
promised name.read_packet κs a h M 𝓤 𝓛 mem run = in_words 𝓤 (λ r s. (λ c. (c, refl), λ p. p.0))
promised name.data_of κs a h M 𝓤 𝓛 mem run =
    two 𝓤 ∙ in_words 𝓤 (λ r s. (λ c. (λ i. 0 ∷ c.1.0 i ∷ c.1.1 i ∷ c.0 i, refl), λ p. let e = p.0 in (cc, (cc, cc))))
promised name.look_at κs a h M 𝓤 𝓛 mem run =
    in_words 𝓤 (λ r s. (let g = (view name.look_at).given κs a h in (λ c. (found_told g.octets g.at r c, refl), λ p. found_again g.octets g.at r p.0)))
promised name.walk κs a h M 𝓤 𝓛 mem run = in_words 𝓤 (λ r s. (λ c. (ap told_walked c, refl), λ p. same_walk _ _ p.0))
promised name.write_space κs a h M 𝓤 𝓛 mem run = two 𝓤
promised name.write_encapsulation κs a h M 𝓤 𝓛 mem run = two 𝓤
promised name.read_record κs a h M 𝓤 𝓛 mem run = in_words 𝓤 (λ r s. (λ c. (c, refl), λ p. p.0))
promised name.read_record_file κs a h M 𝓤 𝓛 mem run = in_words 𝓤 (λ r s. (λ c. (c, refl), λ p. p.0))
promised name.write_record κs a h M 𝓤 𝓛 mem run = two 𝓤
promised name.fresh_start κs a h M 𝓤 𝓛 mem run = in_words 𝓤 (λ r s. (λ c. (refl, c), λ p. p.1))
promised name.is_sound κs a h M 𝓤 𝓛 mem run = in_words 𝓤 (λ r s. (λ c. (ap (λ b. 0 ∷ one b ∷ []) c, refl), λ p. one_fixes _ _ (let e = p.0 in cc)))
promised name.open_lane κs a h M 𝓤 𝓛 mem run =
    in_words 𝓤 (λ r s. (λ c. (ap (λ x. x.refusal ∷ []) c, ap (λ x. x.state) c), λ p i. record { refusal = number_alone p.0 i; state = p.1 i }))
promised name.take_packet κs a h M 𝓤 𝓛 mem run =
    four 𝓤 ∙ in_words 𝓤 (λ r s. (
      λ c. (c.0, λ i. ((c.1.0 i).state, c.1.1.0 i, c.1.1.1 i)),
      λ p. (p.0, (same_answered ((view name.take_packet).given κs a h) r p.0 (λ i. (p.1 i).0), (λ i. (p.1 i).1, λ i. (p.1 i).2))),
    ))
promised name.close_lane κs a h M 𝓤 𝓛 mem run =
    two 𝓤 ∙ in_words 𝓤 (λ r s. (λ c. (ap (λ x. x.refusal ∷ []) c.0, λ i. ((c.0 i).state, c.1 i)), λ p. (λ i. record { refusal = number_alone p.0 i; state = (p.1 i).0 }, λ i. (p.1 i).1)))
promised name.list κs a h M 𝓤 𝓛 mem run = two 𝓤 ∙ in_words 𝓤 (λ r s. (λ c. (c.0, c.1 ∙ listed_after _ _), λ p. (p.0, p.1 ∙ sym (listed_after _ _))))
promised name.list_recording κs a h M 𝓤 𝓛 mem run = two 𝓤 ∙ in_words 𝓤 (λ r s. (λ c. (c.0, c.1 ∙ listed_after _ _), λ p. (p.0, p.1 ∙ sym (listed_after _ _))))
promised name.branmuslin_read_packet κs a h M 𝓤 𝓛 mem run =
    three 𝓤 ∙ in_words 𝓤 (λ r s. (λ c. (λ i. c.0 i ∷ c.1.1 i ∷ [], λ i. (tt, c.1.0 i)), λ p. let e = p.0 in (cc, (λ i. (p.1 i).1, cc))))
promised name.branmuslin_write_space κs a h M 𝓤 𝓛 mem run =
    three 𝓤 ∙ in_words 𝓤 (λ r s. (λ c. (ap (λ n. n ∷ []) c.0, λ i. (c.1.0 i, c.1.1 i)), λ p. (number_alone p.0, (λ i. (p.1 i).0, λ i. (p.1 i).1))))
promised name.branmuslin_write_encapsulation κs a h M 𝓤 𝓛 mem run =
    three 𝓤 ∙ in_words 𝓤 (λ r s. (λ c. (ap (λ n. n ∷ []) c.0, λ i. (c.1.0 i, c.1.1 i)), λ p. (number_alone p.0, (λ i. (p.1 i).0, λ i. (p.1 i).1))))
promised name.branmuslin_read_record κs a h M 𝓤 𝓛 mem run =
    two 𝓤 ∙ in_words 𝓤 (λ r s. (λ c. (ap (λ n. n ∷ []) c.0, λ i. (tt, c.1 i)), λ p. (number_alone p.0, λ i. (p.1 i).1)))
promised name.branmuslin_read_record_file κs a h M 𝓤 𝓛 mem run =
    three 𝓤 ∙ in_words 𝓤 (λ r s. (λ c. (λ i. c.0 i ∷ c.1.1 i ∷ [], λ i. (tt, c.1.0 i)), λ p. let e = p.0 in (cc, (λ i. (p.1 i).1, cc))))
promised name.branmuslin_write_record κs a h M 𝓤 𝓛 mem run =
    two 𝓤 ∙ in_words 𝓤 (λ r s. (λ c. (ap (λ n. n ∷ []) c.0, λ i. (c.1 i, tt)), λ p. (number_alone p.0, λ i. (p.1 i).0)))
promised name.branmuslin_fresh_start κs a h M 𝓤 𝓛 mem run = in_words 𝓤 (λ r s. (λ c. (refl, c), λ p. p.1))
promised name.branmuslin_is_sound κs a h M 𝓤 𝓛 mem run = in_words 𝓤 (λ r s. (λ c. (ap (λ b. 0 ∷ one b ∷ []) c, refl), λ p. one_fixes _ _ (let e = p.0 in cc)))
promised name.branmuslin_open_lane κs a h M 𝓤 𝓛 mem run =
    in_words 𝓤 (λ r s. (λ c. (ap (λ x. x.refusal ∷ []) c, ap (λ x. x.state) c), λ p i. record { refusal = number_alone p.0 i; state = p.1 i }))
promised name.branmuslin_take_packet κs a h M 𝓤 𝓛 mem run =
    three 𝓤 ∙ in_words 𝓤 (λ r s. (
      λ c. (ap told_numbered c.0, λ i. ((c.0 i).state, c.1.0 i, c.1.1 i)),
      λ p. (same_numbered r _ p.0 (λ i. (p.1 i).0), (λ i. (p.1 i).1, λ i. (p.1 i).2)),
    ))
promised name.branmuslin_close_lane κs a h M 𝓤 𝓛 mem run =
    two 𝓤 ∙ in_words 𝓤 (λ r s. (λ c. (ap (λ x. x.refusal ∷ []) c.0, λ i. ((c.0 i).state, c.1 i)), λ p. (λ i. record { refusal = number_alone p.0 i; state = (p.1 i).0 }, λ i. (p.1 i).1)))
promised name.branmuslin_fresh_frames κs a h M 𝓤 𝓛 mem run = in_words 𝓤 (λ r s. (λ c. (refl, c), λ p. p.1))
promised name.branmuslin_take_frame κs a h M 𝓤 𝓛 mem run =
    three 𝓤 ∙ in_words 𝓤 (λ r s. (
      λ c. (ap told_framed c.0, λ i. ((c.0 i).state, c.1.0 i, c.1.1 i)),
      λ p. (same_framed r _ p.0 (λ i. (p.1 i).0), (λ i. (p.1 i).1, λ i. (p.1 i).2)),
    ))
