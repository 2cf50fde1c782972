-- Lines are short: one has at most eight numbers of 64 bits, of at most 20 digits each. What is short enough is put whole where there is room for a step.
use Prim.Native.Nat.{ℕ, suc, ◌+◌, ◌^◌, ◌≤◌, ◌<◌}
use mathlib.Core.Path.{◌≡◌, ◌∙◌}
use mathlib.Core.List.{List, [], ◌∷◌}
use native.Mathlib.Omega.{arith}
use lib.Dec.{eqb}
use lib.ListN.{length, get_or, length-append}
use Rattle.octets.proofs.Order.{either}
use Rattle.text.proofs.Short.{Small, decimal_short, numbers_short}
use Rattle.text.proofs.Cut.{Put, wrote}
use Rattle.adler.specs.Adler.{adler}
use Rattle.adler.proofs.Below.{adler_below}
use Rattle.telling.specs.Lines.{line, bad_line, end_line, last_lines, line_room, Lined}

pub lined : (d : List ℕ) (at : ℕ) (text : List ℕ) {out : List ℕ} {to : ℕ} → at + line_room ≤ length d → length text ≤ line_room → Put d at text out to → Lined d at text out to
lined d at text room short p = let w = wrote d at text (omega arith) p in (w.0, w.1, omega (arith, w.0))

-- the place after it, by another name
pub lined_to : (d : List ℕ) (at : ℕ) (text : List ℕ) {out : List ℕ} {to to' : ℕ} → to' ≡ to → Lined d at text out to → Lined d at text out to'
lined_to d at text e (p, q, r) = (e ∙ p, q, omega (arith, e, r))

pub small : (ns : List ℕ) → ((k : ℕ) → get_or ns k 0 < 2 ^ 64) → Small ns
small [] h = tt
small (n ∷ ns) h = (h 0, small ns (λ k. h (suc k)))

pub line_short : (at : ℕ) (call : List ℕ) (number : ℕ) (word ns : List ℕ) → at < 2 ^ 64 → length call ≤ 8 → number < 2 ^ 64 → length word ≤ 8 → Small ns → length ns ≤ 6
    → length (line at call number word ns) ≤ line_room
unfolding line
line_short at call number word ns h c l w s n =
    simp length-append (omega (arith, decimal_short at h, numbers_short (number ∷ []) (l, tt), numbers_short ns s))

pub bad_short : (at : ℕ) → at < 2 ^ 64 → length (bad_line at) ≤ 25
unfolding bad_line
bad_short at h = simp length-append (omega (arith, decimal_short at h))

end_short : (at calls : ℕ) (held : List ℕ) → at < 2 ^ 64 → calls < 2 ^ 64 → length (end_line at calls held) ≤ 68
unfolding end_line
end_short at calls held h k =
    simp length-append (omega (arith, numbers_short (at ∷ calls ∷ adler held ∷ []) (h, (k, (omega (arith, adler_below held), tt)))))

pub last_short : (n at calls : ℕ) (held : List ℕ) → at < 2 ^ 64 → calls < 2 ^ 64 → length (last_lines n at calls held) ≤ line_room
unfolding last_lines
last_short n at calls held h k =
    let e = end_short at calls held h k in
    either (eqb at n) (λ t. simp t (omega (arith, e))) (λ f. simp (f, length-append) (omega (arith, e, bad_short at h)))
