-- One element more leaves one blank less.
-- Assumes nothing.
use mathlib.Core.Path.{◌≡◌, sym, ap, ◌∙◌}
use mathlib.Core.List.{List}
use Prim.Native.Nat.{ℕ, ◌+◌, ◌-◌}
use native.Mathlib.Omega.{arith}
use lib.ListN.{drop, set, replicate}
use lib.Seq.{drop-drop, drop-set-lt}
use Rattle.std.proofs.lemmas.List.{drop-replicate}

pub blanks_left : {T : Type 0} (n len : ℕ) (cells : List T) (blank x : T) → drop len cells ≡ replicate (n - len) blank
    → drop (len + 1) (set cells len x) ≡ replicate (n - (len + 1)) blank
blanks_left n len cells blank x e =
    let fewer : n - len - 1 ≡ n - (len + 1) = omega arith in
    drop-set-lt (len + 1) cells len x (omega arith) ∙ sym (drop-drop 1 len cells) ∙ ap (drop 1) e ∙ drop-replicate 1 (n - len) blank
    ∙ ap (λ k. replicate k blank) fewer
