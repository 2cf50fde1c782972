-- The part from the pointer on is what is left after dropping so many octets; 2046 and 2047 lie past the end, where nothing is.
use Rattle.std.proofs.Common.{ℕ, ◌≡◌, ◌+◌, ◌-◌, ◌≤◌, List, take, not, ◌&&◌, ◌||◌, ltb, leb, length, drop, min, sym, ap, ◌∙◌, length-drop, rules}
use Rattle.std.proofs.lemmas.List.{take_rest}
use Rattle.walk.specs.Walk.{walked, end, number_stopped}
use Rattle.walk.specs.declared.Walked.{Walked}
use Rattle.reading.specs.Reading.{announced}
use Rattle.reading.specs.declared.Sizes.{Sizes}
use Rattle.pieces.specs.Pieces.{longest, unfinished, drops}
use Rattle.pieces.proofs.Parts.{from_pointer, after_packets, ends_inside, cut_left}
use Rattle.pieces.proofs.read_on.Goals as goal

-- the walk is over the octets from the pointer on
there : (field : List ℕ) (pointer : ℕ) {from : ℕ} {w : Walked} → from ≡ min (length field) pointer → w ≡ walked (take (length field - from) (drop from field)) → w ≡ walked (drop pointer field)
there field pointer {from} begins e = e ∙ ap walked (take_rest field from ∙ from_pointer field pointer begins)

inside : (field : List ℕ) (pointer : ℕ) {from : ℕ} {w : Walked} → from ≡ min (length field) pointer → w ≡ walked (take (length field - from) (drop from field)) → from + w.at ≤ length field
unfolding walked
inside field pointer begins e = ends_inside field pointer begins (ap (λ (w : Walked). w.at) (there field pointer begins e))

pub overflow_add-to : goal.overflow_add-to
overflow_add-to c = let h = inside c.args.field.now c.args.pointer c.min-from.ensures c.walk-walked.ensures in search rules

pub slice_bounds-sizes_in-count : goal.slice_bounds-sizes_in-count
slice_bounds-sizes_in-count c = inside c.args.field.now c.args.pointer c.min-from.ensures c.walk-walked.ensures

pub slice_bounds-sizes_in-start : goal.slice_bounds-sizes_in-start
slice_bounds-sizes_in-start c = let h = inside c.args.field.now c.args.pointer c.min-from.ensures c.walk-walked.ensures in search rules

pub overflow_sub-field : goal.overflow_sub-field
overflow_sub-field c = inside c.args.field.now c.args.pointer c.min-from.ensures c.walk-walked.ensures

pub returns : goal.returns
unfolding walked unfinished drops announced
returns c =
    let field = c.args.field.now in
    let pointer = c.args.pointer in
    let s = drop pointer field in
    let begins = c.min-from.ensures in
    let e = there field pointer begins c.walk-walked.ensures in
    let ends = ap (λ (z : Walked). z.at) e in
    let left : drop (c.min-from.result + c.walk-walked.result.at) field ≡ drop (end s) s =
    after_packets field pointer begins c.walk-walked.result.at ∙ ap (λ n. drop n s) ends in
    let octets : length field - (c.min-from.result + c.walk-walked.result.at) ≡ length (drop (end s) s) = sym (length-drop _ field) ∙ ap length left in
    let sizes : c.sizes_in-sizes.result ≡ announced (drop (end s) s) = c.sizes_in-sizes.ensures ∙ ap announced (take_rest field _ ∙ left) in
    let h = ap (λ (z : Sizes). z.header) sizes in
    let n = ap (λ (z : Sizes). z.size) sizes in
    let packets = ap (λ (z : Walked). z.packets) e in
    let cut = c.is_cut_short.ensures ∙ ap (λ (z : Walked). leb (number_stopped z.stopped) 1) e ∙ cut_left s in
    let may = c.may_begin.ensures ∙ (λ i. ltb (octets i) (h i) || leb (n i) longest) in
    λ i. record { from = begins i; to = begins i + ends i; packets = packets i; dropped = not (cut i && may i) }
