-- What a header carries, said by the reader: a header of h octets carries protocol ID p, user field u, extension x and some content where there
-- is a packet with such a header that reads so.
use Rattle.std.specs.Prelude.{ℕ, ◌≤◌, ◌≡◌, List, [], ◌∷◌, length}
use Rattle.octets.specs.Octets.{AreOctets}
use Rattle.reading.specs.Reading.{reading, content}

pub record Carries (h p u x : ℕ) (given : List ℕ) : Type 0 where
  pub packet : List ℕ
  pub are_octets : AreOctets packet
  pub reads : reading packet ≡ 0 ∷ 7 ∷ p ∷ u ∷ x ∷ h ∷ length given ∷ []
  pub has_content : content packet ≡ given

-- the shortest header is one that carries them, and no header that does is shorter
abbrev pub IsShortest : ℕ → ℕ → ℕ → ℕ → List ℕ → Type 0
IsShortest h p u x given = Carries h p u x given × ((k : ℕ) → Carries k p u x given → h ≤ k)
