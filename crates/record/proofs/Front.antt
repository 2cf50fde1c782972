-- A record depends on the first 20 octets alone: where those of two lists are the same, so are the numbers in them.
use Prim.Native.Nat.{ℕ, ◌+◌, ◌-◌, ◌<◌, min}
use mathlib.Core.Path.{◌≡◌, sym, ap, ◌∙◌}
use mathlib.Core.List.{List, ◌++◌}
use native.Mathlib.Omega.{arith}
use native.Mathlib.Decide.{dec_lt}
use lib.ListN.{length, take, drop, replicate, get_or-replicate, get_or-append}
use lib.Seq.{get_or-take, get_or-drop, get_or-append-add, length-take-le}
use Rattle.octets.specs.Octets.{octet, be16, be32}
use Rattle.octets.specs.Output.{put, put_if_fits}
use Rattle.octets.proofs.PastTheEnd.{octet_past}
use Rattle.octets.proofs.Puts.{put_fits}
use Rattle.record.specs.Record.{record_size, record_in}

module _ (s t : List ℕ) (same : (k : ℕ) → k < record_size → octet s k ≡ octet t k) where
  same16 : (k : ℕ) → k + 1 < record_size → be16 s k ≡ be16 t k
  same16 k h = let a = same k (omega arith) in let b = same (k + 1) h in cc

  same32 : (k : ℕ) → k + 2 + 1 < record_size → be32 s k ≡ be32 t k
  same32 k h = let a = same16 k (omega arith) in let b = same16 (k + 2) h in cc

  pub same_record : record_in s ≡ record_in t
  same_record i = record {
    station = same16 0 (omega arith) i;
    apid = same16 2 (omega arith) i;
    units = same32 4 (omega arith) i;
    packets = same32 8 (omega arith) i;
    missing = same32 12 (omega arith) i;
    broken = same32 16 (omega arith) i;
  }

-- so it is the same in zeros in which the first 20 octets lie, or as many as there are
module _ (m k : ℕ) (h : k < m) where
  in_zeros : (t : List ℕ) → octet (put (replicate m 0) 0 t) k ≡ octet t k
  unfolding put
  in_zeros t =
      elim (dec_lt k (length t)) [
        | yes low ↦ get_or-append t (drop (0 + length t) (replicate m 0)) 0 k low
        | no high ↦
            let at : k ≡ length t + (k - length t) = omega arith in
            ap (octet (t ++ drop (0 + length t) (replicate m 0))) at ∙ get_or-append-add t (drop (0 + length t) (replicate m 0)) (k - length t) 0
            ∙ get_or-drop (0 + length t) (replicate m 0) (k - length t) 0 ∙ get_or-replicate m (0 + length t + (k - length t)) 0 0 (omega arith)
            ∙ octet_past t k (omega arith)
      ]

  of_the_first : (s : List ℕ) (n : ℕ) → n ≡ min (length s) m → octet (take n s) k ≡ octet s k
  of_the_first s n front =
      elim (dec_lt k n) [
        | yes low ↦ get_or-take n s k 0 low
        | no high ↦ omega (arith, octet_past (take n s) k (omega (arith, length-take-le n s (omega (arith, front)))), octet_past s k (omega (arith, front)))
      ]

pub same_in_zeros : (s : List ℕ) (n : ℕ) → n ≡ min (length s) record_size → record_in (put_if_fits (replicate record_size 0) 0 (take n s)) ≡ record_in s
same_in_zeros s n front =
    ap record_in (sym (put_fits (replicate record_size 0) 0 (take n s) (omega (arith, front, length-take-le n s (omega (arith, front))))))
    ∙ same_record (put (replicate record_size 0) 0 (take n s)) s (λ k h. in_zeros record_size k h (take n s) ∙ of_the_first record_size k h s n front)
