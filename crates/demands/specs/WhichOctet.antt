-- Which octet is wrong, beside demands 2 and 3, which count the place as part of the answer: the place is honest, and a lane passes it on.
use Rattle.std.specs.Prelude.{ℕ, ◌≤◌, ◌<◌, ◌≡◌, true, List, [], ◌∷◌, ◌↔◌, length, Err}
use Rattle.octets.specs.Octets.{octet}
use Rattle.octets.specs.Output.{leading}
use Rattle.places.specs.AtFault.{IsHonest, head}
use Rattle.refusal.specs.Refusal.{number}
use Rattle.refusal.specs.declared.Refusal.{Refusal}
use Rattle.packet.specs.declared.Unread.{Unread}
use Rattle.grouping.specs.declared.Refused.TheVariants as refused
use Rattle.demands.specs.Runs.{AnyIntake, takes, to_packet}
use Rattle.demands.specs.Past.{lane_from, InEveryRun}

-- the packet at the front of s is refused with number k and place q
abbrev pub RefusedAt : AnyIntake → List ℕ → ℕ → ℕ → Type 0
RefusedAt n s k q = (n.reads s ≡ k ∷ q ∷ []) × (0 < k)

-- ---- each refusal of reading tells a place, and it is honest: the number of octets present (1); or an octet that is there and belongs to the field at fault (2 to
-- 7), the earlier if two faults hold
abbrev pub EachIsHonest : AnyIntake → Type 0
EachIsHonest n = (s : List ℕ) → (leading (n.reads s) ≡ 0 → ⊥) → (k q : ℕ) × RefusedAt n s k q × IsHonest s k q

-- ---- octets elsewhere than in the header can't change number or place
abbrev pub HeaderDecides : AnyIntake → Type 0
HeaderDecides n = (s t : List ℕ) → length t ≡ length s → ((k : ℕ) → k < head s → octet t k ≡ octet s k) → n.reads t ≡ n.reads s

-- ---- The lane passes the place on: an open lane answers with a number and a place exactly where the reader refuses the packet with these; and no other refusal
-- has a place, which are 8 and above
abbrev pub PassedOn : AnyIntake → Type 0
PassedOn n =
    InEveryRun n (λ x past. (i : ℕ) (packet out : List ℕ) → (lane_from (past i)).opened ≡ true
    → ((u : Unread) → (n.reply_to x (takes i packet out) ≡ to_packet (Err (refused.Unread u)) out) ↔ RefusedAt n packet (number u.refusal) u.place)
    × ((r : Refusal) → n.reply_to x (takes i packet out) ≡ to_packet (Err (refused.Untaken r)) out → 8 ≤ number r))

pub record WhichOctet (n : AnyIntake) : Type 0 where
  pub each_is_honest : EachIsHonest n
  pub header_decides : HeaderDecides n
  pub passed_on : PassedOn n
