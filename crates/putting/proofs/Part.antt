-- What is copied over a part of something is the text put there.
use Prim.Native.Nat.{ℕ, ◌+◌, ◌-◌, ◌≤◌}
use mathlib.Core.Path.{◌≡◌}
use mathlib.Core.List.{List, ◌++◌, append_assoc}
use native.Mathlib.Omega.{arith}
use borrow.Rule.Slice.PartMut.{put_mid, Post-is}
use lib.ListN.{length, take}
use lib.Seq.{take-append_seam}
use Rattle.octets.specs.Output.{put}

pub put_part : (d text : List ℕ) (at : ℕ) → at + length text ≤ length d → put_mid at (at + length text - at) d text ≡ put d at text
unfolding put
put_part d text at h = rw (Post-is at (at + length text) d (omega arith), append_assoc)

-- what begins with a text that was copied there gives it back
pub front : (text ys rest : List ℕ) → ys ≡ text → take (length text) (ys ++ rest) ≡ text
front text ys rest e = rw (e, take-append_seam text rest)
