-- `extend`: no place before k is that of the entry's index; the first entries of the batch were taken.
use Prim.Native.Nat.{ℕ, ◌<◌}
use mathlib.Core.Path.{◌≡◌}
use mathlib.Core.Bool.{false}
use Rattle.preview.specs.Preview.{holds_at}
use Rattle.preview.proofs.Running.{Running}
use Rattle.preview.proofs.extend.Given as goal

abbrev pub invariant-loop-k : goal.invariant-loop-k
invariant-loop-k l = (l.q ≡ l.preview.head.len) × ((j : ℕ) → j < l.k → holds_at l.preview.head j l.r.index ≡ false)

abbrev pub invariant-batch : goal.invariant-batch
invariant-batch l = Running l.identity l.entries l.lent l.initial.preview l.initial.block l.preview l.block l.answer l.entry-index
