-- A block by its held cells alone: zeros stand behind them.
-- Assumes nothing.
use mathlib.Core.Path.{◌≡◌, sym, ap, ◌∙◌}
use mathlib.Core.List.{List, ◌++◌}
use Prim.Native.Nat.{ℕ, ◌+◌, ◌-◌, ◌*◌, ◌<◌, ◌≤◌}
use native.Mathlib.Omega.{arith}
use lib.ListN.{length, take, drop, length-drop, take-append-drop}
use lib.Seq.{drop_at}
use Rattle.store.specs.Splice.{part, splice}
use Rattle.store.specs.Zeros.{zeros}
use Rattle.store.proofs.Part.{length_part, part_part}
use Rattle.store.proofs.Zeros.{all_zeros, length_zeros, zeros_split}
use Rattle.view.specs.declared.Header.{Header}
use Rattle.view.specs.declared.RecoveredRaftLogEntry.{RecoveredRaftLogEntry}
use Rattle.view.specs.Meaning.{Fits}
use Rattle.storage.specs.Model.{bytes_in}
use Rattle.soundness.proofs.Test.{blocks_zero}

-- The first n of 4,096 bytes, zeros behind them.
front : (cs : List ℕ) (n : ℕ) → n ≤ 4096 → length cs ≡ 4096 → drop n cs ≡ zeros (4096 - n) → splice (zeros 4096) 0 (take n cs) ≡ cs
unfolding splice
front cs n h l z =
    let lt : length (take n cs) ≡ n = length_part 0 n cs (omega arith) in
    let lz : 0 + length (take n cs) ≡ n = omega arith in
    let ln : length (zeros n) ≡ n = length_zeros n in
    let e : zeros 4096 ≡ zeros n ++ zeros (4096 - n) = zeros_split n (4096 - n) 4096 (omega arith) in
    let d : drop n (zeros 4096) ≡ zeros (4096 - n) = ap (drop n) e ∙ drop_at (zeros n) (zeros (4096 - n)) n ln in
    ap (λ (k : ℕ). take n cs ++ drop k (zeros 4096)) lz
    ∙ ap (λ (x : List ℕ). take n cs ++ x) (d ∙ sym z)
    ∙ take-append-drop n cs

module _ (h : Header) (es : List RecoveredRaftLogEntry) (st : List ℕ) (p : ℕ) (f : Fits h es (bytes_in st p)) (size : length st ≡ 32768) (low : p < 8) where
  -- The block of a replica is its held cells, and zeros.
  pub held_block : splice (zeros 4096) 0 (part (4096 * p) (64 * h.len) st) ≡ bytes_in st p
  held_block =
      let lb : length (bytes_in st p) ≡ 4096 = length_part (4096 * p) 4096 st (omega arith) in
      let n : 64 * h.len ≤ 4096 = omega (arith, f.short) in
      let a : part 0 (64 * h.len) (bytes_in st p) ≡ part (4096 * p + 0) (64 * h.len) st = part_part (4096 * p) 4096 st 0 (64 * h.len) (omega arith) (omega arith) in
      let k : 4096 * p + 0 ≡ 4096 * p = omega arith in
      let ld : length (drop (64 * h.len) (bytes_in st p)) ≡ 4096 - 64 * h.len = length-drop (64 * h.len) (bytes_in st p) ∙ omega arith in
      let z : drop (64 * h.len) (bytes_in st p) ≡ zeros (4096 - 64 * h.len) =
      all_zeros (drop (64 * h.len) (bytes_in st p)) (blocks_zero 64 64 h.len (bytes_in st p) f.short lb f.spare) ∙ ap zeros ld in
      ap (splice (zeros 4096) 0) (ap (λ (x : ℕ). part x (64 * h.len) st) (sym k) ∙ sym a)
      ∙ front (bytes_in st p) (64 * h.len) n lb z
