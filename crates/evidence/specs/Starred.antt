-- The paper's starred cases, as one table. `given` puts what the definitions say in the place of what the paper says; that the table
-- stays the same is the single statement (proofs/Starred.antt).
use Rattle.std.specs.Prelude.{ℕ, ◌+◌, ◌/◌, ◌%◌, false, List, [], ◌∷◌, Result, Ok, Err}
use Rattle.refusal.specs.Refusal.{named}
use Rattle.reading.specs.Reading.{reading, content}
use Rattle.packet.specs.Told.{told}
use Rattle.packet.specs.declared.Packet.TheVariants.{Space, Encapsulation}
use Rattle.pool.specs.Octets.{pool_octets}
use Rattle.grouping.specs.declared.Refused.{Refused}
use Rattle.intake.specs.declared.Answer.{Answer}
use Rattle.intake.specs.declared.Answer.TheVariants.{Repeat, Unit}
use Rattle.intake.specs.After.{taking}
use Rattle.demands.specs.Runs.{ours, Handed, opens, takes, begun, run}
use Rattle.evidence.specs.Examples.{zeros}

-- what is told of a refusal
infix 15 refused◌at◌
abbrev pub refused◌at◌ : ℕ → ℕ → List ℕ
refused number at place = told (Err (record { refusal = named number; place = place }))

-- a case of each kind that the paper has, with what comes of it
infix 15 last◌then◌gives◌
pub data Case : Type 0 where
  -- octets to read: what is told, and the data that is handed back
  read : List ℕ → List ℕ → List ℕ → Case
  -- the count of the last accepted packet, and that of the next: what is answered
  last◌then◌gives◌ : ℕ → ℕ → Result Answer Refused → Case

-- an unsegmented packet of APID 42 and count c, with one octet of user data
abbrev pub counting : ℕ → List ℕ
counting c = 0x00 ∷ 0x2A ∷ (0xC0 + c / 256) ∷ (c % 256) ∷ 0x00 ∷ 0x00 ∷ 0xAA ∷ []

-- lane 0 is opened for APID 42 and takes one such packet
abbrev pub last_was : ℕ → Handed
last_was c =
    run ours (begun zeros)
    (opens 0 (record { station = 7; apid = 42; secondary = 0; share = 1; cap = 2 })
    ∷ takes 0 (counting c) (0 ∷ [])
    ∷ [])

-- the next one makes a unit of one octet, with so many missing before it and no group given up
abbrev pub missing : ℕ → Result Answer Refused
missing n = Ok (Unit 1 n false)

abbrev pub given : Case → Case
given (read octets tells part) = read octets (reading octets) (content octets)
given (last c then d gives answer) = last c then d gives (taking (last_was c).state 0 (counting d) pool_octets 1).answer

abbrev pub starred : List Case
starred =
    read (0x00 ∷ 0x2A ∷ 0xC0 ∷ 0x05 ∷ 0x00 ∷ 0x01 ∷ 0xAA ∷ 0xBB ∷ []) (told (Ok (Space 0 0 42 3 5 2))) (0xAA ∷ 0xBB ∷ [])
    ∷ read (0x00 ∷ 0x2A ∷ 0xC0 ∷ 0x05 ∷ 0x00 ∷ 0x01 ∷ 0xAA ∷ []) (refused 1 at 7) []
    ∷ read (0x0F ∷ 0xFF ∷ 0xC0 ∷ 0x00 ∷ 0x00 ∷ 0x00 ∷ 0x00 ∷ []) (refused 3 at 0) []
    ∷ read (0x20 ∷ []) (refused 2 at 0) []
    ∷ read [] (refused 1 at 0) []
    ∷ read (0xE0 ∷ []) (told (Ok (Encapsulation 0 0 0 1 0))) []
    ∷ read (0xE4 ∷ []) (refused 6 at 0) []
    ∷ read (0xE9 ∷ 0x02 ∷ []) (refused 6 at 0) []
    ∷ read (0xE9 ∷ 0x05 ∷ 0x11 ∷ 0x22 ∷ 0x33 ∷ []) (told (Ok (Encapsulation 2 0 0 2 3))) (0x11 ∷ 0x22 ∷ 0x33 ∷ [])
    ∷ read (0xEB ∷ 0x00 ∷ 0x00 ∷ 0x00 ∷ 0x00 ∷ 0x01 ∷ 0x00 ∷ 0x07 ∷ []) (refused 5 at 4) []
    ∷ (last 16383 then 0 gives missing 0)
    ∷ (last 5 then 5 gives Ok Repeat)
    ∷ (last 5 then 9 gives missing 3)
    ∷ []
