-- Which packets lie wholly in received frames: packet by packet, of the octets that came. A packet is decided once its last octet is sent.
use Prim.Native.Nat.{ℕ, zero, suc, ◌<◌}
use mathlib.Core.Path.{◌≡◌, refl, sym, ap, ◌∙◌}
use mathlib.Core.List.{List, [], ◌∷◌, ◌++◌, append_assoc, flatten}
use mathlib.Core.Bool.{Bool, true, false, cond, ◌&&◌, and_assoc}
use native.Mathlib.Omega.{arith}
use lib.ListN.{length, replicate, length-append, length-replicate, replicate-append-replicate}
use lib.Seq.{take_at, drop_at}
use Rattle.octets.proofs.Order.{both}
use Rattle.pieces.specs.Pieces.{one_packet}
use Rattle.recording.specs.Sent.{all}
use Rattle.recording.specs.Received.{wholly}
use Rattle.recording.proofs.Beginnings.{is_packet}

-- all octets came
abbrev pub all_came : List Bool → Bool
all_came came = all (λ b. b) came

pub came_append : (x y : List Bool) → all_came (x ++ y) ≡ all_came x && all_came y
came_append [] y = refl
came_append (b ∷ x) y = ap (λ z. b && z) (came_append x y) ∙ sym (and_assoc b (all_came x) (all_came y))

-- those of one frame
pub came_all : (n : ℕ) → all_came (replicate n true) ≡ true
came_all zero = refl
came_all (suc n) = came_all n

pub came_none : (n : ℕ) → 0 < n → all_came (replicate n false) ≡ false
came_none zero h = absurd (omega arith)
came_none (suc n) h = refl

pub came_one : (n : ℕ) (b : Bool) → 0 < n → all_came (replicate n b) ≡ b
came_one n true h = came_all n
came_one n false h = came_none n h

-- the first packet
pub wholly_first : (p : List ℕ) (ps : List (List ℕ)) (came more : List Bool) → length came ≡ length p
    → wholly (p ∷ ps) (came ++ more) ≡ cond (all_came came) (p ∷ []) [] ++ wholly ps more
unfolding wholly
wholly_first p ps came more e = rw (take_at came more (length p), drop_at came more (length p)) (by (all_came came) (wholly ps more))
  where
    by : (b : Bool) (l : List (List ℕ)) → cond b (p ∷ l) l ≡ cond b (p ∷ []) [] ++ l
    by true l = refl
    by false l = refl

-- whole packets of one frame
pub wholly_done : (done rest : List (List ℕ)) (b : Bool) (more : List Bool) → all one_packet done ≡ true
    → wholly (done ++ rest) (replicate (length (flatten done)) b ++ more) ≡ cond b done [] ++ wholly rest more
unfolding flatten
wholly_done [] rest true more a = refl
wholly_done [] rest false more a = refl
wholly_done (p ∷ done) rest b more a =
    let (o, a') = both (one_packet p) (all one_packet done) a in
    rw (length-append p (flatten done), ← replicate-append-replicate (length p) (length (flatten done)) b, append_assoc (replicate (length p) b))
    (wholly_first p (done ++ rest) (replicate (length p) b) (replicate (length (flatten done)) b ++ more) (length-replicate (length p) b)
    ∙ rw (came_one (length p) b (is_packet p o).some, wholly_done done rest b more a') (by b))
  where
    by : (b : Bool) → cond b (p ∷ []) [] ++ (cond b done [] ++ wholly rest more) ≡ cond b (p ∷ done) [] ++ wholly rest more
    by true = refl
    by false = refl
