-- The lines of a run's text. Each begins with the call's offset, what is called and the lane.
use Rattle.std.specs.Prelude.{ℕ, cond, List, [], ◌∷◌, eqb, take, Result, Ok, Err}
use Rattle.text.specs.Text.{ascii}
use Rattle.telling.specs.Lines.{line}
use Rattle.record.specs.Record.{record_in, fields}
use Rattle.octets.specs.Octets.{one}
use Rattle.intake.specs.declared.Answer.{Answer}
use Rattle.intake.specs.declared.Answer.TheVariants.{Repeat, Stray, Held, Unit}
use Rattle.grouping.specs.declared.Refused.{Refused}
use Rattle.grouping.specs.declared.Refused.TheVariants.{Unread, Untaken}
use Rattle.refusal.specs.Refusal.{number}
use Rattle.adler.specs.Adler.{adler}
use Rattle.replaying.specs.declared.Outcome.{Outcome}
use Rattle.replaying.specs.declared.Outcome.TheVariants.{Opened, Taken, Closed}

-- `refused` gives the number of the refusal, where there is one
abbrev pub or_refused : ℕ → List ℕ → ℕ → ℕ → List ℕ → List ℕ
or_refused at call lane refusal told = cond (eqb refusal 0) told (line at call lane (ascii " refused") (refusal ∷ []))

-- `ok` where a lane was opened
abbrev pub open_line : ℕ → ℕ → ℕ → List ℕ
open_line at lane refusal = or_refused at (ascii " open") lane refusal (line at (ascii " open") lane (ascii " ok") [])

-- `refused` gives the number, and the place with those that have one; held, stray and unit give missing and 0 or 1 for a given-up group; unit
-- then its length and the Adler-32 of its octets
unfoldable pub packet_line : ℕ → ℕ → Result Answer Refused → List ℕ → List ℕ
packet_line at lane (Err (Untaken r)) out = line at (ascii " packet") lane (ascii " refused") (number r ∷ [])
packet_line at lane (Err (Unread u)) out = line at (ascii " packet") lane (ascii " refused") (number u.refusal ∷ u.place ∷ [])
packet_line at lane (Ok Repeat) out = line at (ascii " packet") lane (ascii " repeat") []
packet_line at lane (Ok (Stray missing givenUp)) out = line at (ascii " packet") lane (ascii " stray") (missing ∷ one givenUp ∷ [])
packet_line at lane (Ok (Held missing givenUp)) out = line at (ascii " packet") lane (ascii " held") (missing ∷ one givenUp ∷ [])
packet_line at lane (Ok (Unit n missing givenUp)) out =
    line at (ascii " packet") lane (ascii " unit") (missing ∷ one givenUp ∷ n ∷ adler (take n out) ∷ [])

-- record gives station, APID, units, packets, missing, broken, from the front of the output
unfoldable pub record_line : ℕ → ℕ → List ℕ → List ℕ
record_line at lane out = line at (ascii " close") lane (ascii " record") (fields (record_in out))

abbrev pub close_line : ℕ → ℕ → ℕ → List ℕ → List ℕ
close_line at lane refusal out = or_refused at (ascii " close") lane refusal (record_line at lane out)

-- the line of what is told of the call at index at, with the output after it.
unfoldable pub line_of : ℕ → Outcome → List ℕ → List ℕ
line_of at (Opened lane refusal) out = open_line at lane refusal
line_of at (Taken lane answer) out = packet_line at lane answer out
line_of at (Closed lane refusal) out = close_line at lane refusal out
