-- The lines that the texts of runs share, and when there is room for a step of one.
use Rattle.std.specs.Prelude.{ℕ, ◌+◌, ◌≤◌, ◌≡◌, Bool, cond, not, ◌&&◌, List, [], ◌∷◌, ◌++◌, eqb, leb, length}
use Rattle.octets.specs.Output.{put}
use Rattle.text.specs.Text.{ascii, decimal, numbers}
use Rattle.adler.specs.Adler.{adler}

-- a call's offset, what is called, its number, what came of it, and numbers
unfoldable pub line : ℕ → List ℕ → ℕ → List ℕ → List ℕ → List ℕ
line at call number word ns = decimal at ++ call ++ numbers (number ∷ []) ++ word ++ numbers ns ++ ascii "\n"

-- `bad` where there is no whole call
unfoldable pub bad_line : ℕ → List ℕ
bad_line at = decimal at ++ ascii " bad\n"

-- `end` gives the octets of whole calls, their number, and the Adler-32 of what the run keeps its octets in
unfoldable pub end_line : ℕ → ℕ → List ℕ → List ℕ
end_line at calls held = ascii "end" ++ numbers (at ∷ calls ∷ adler held ∷ []) ++ ascii "\n"

-- the end of a run of n octets: `bad` if it stopped before its end, and `end`
unfoldable pub last_lines : ℕ → ℕ → ℕ → List ℕ → List ℕ
last_lines n at calls held = cond (eqb at n) [] (bad_line at) ++ end_line at calls held

-- the text of any step has at most so many octets
abbrev pub line_room : ℕ
line_room = 192

-- a step is taken where the run isn't done, and there is room for its text from index `to` on. No run has more calls than octets of calls, or more of these than
-- octets: where it is said otherwise, none is taken
unfoldable pub ready : Bool → ℕ → ℕ → ℕ → ℕ → ℕ → Bool
ready done calls at n to room = not done && leb calls at && leb at n && leb (to + line_room) room

-- text was put into d from index at on, whole, which gave out, and `to` is the place after it. Only functions within a crate promise it
abbrev pub Lined : List ℕ → ℕ → List ℕ → List ℕ → ℕ → Type 0
Lined d at text out to = (to ≡ at + length text) × (out ≡ put d at text) × (to ≤ length d)
