-- `store::is_zero` meets its contract: the iterator gives the bytes of s, and the fold over them is their largest.
use mathlib.Core.Path.{◌∙◌, ap}
use Prim.Native.Nat.{ℕ, max}
use Rattle.std.proofs.Common.{rules}
use Rattle.std.proofs.lemmas.Iterator.{YieldsList-from_slice}
use Rattle.std.proofs.lemmas.Iterator.Consumers.{fold_from_yields_List}
use Rattle.definition.specs.Table.{◌=?◌}
use Rattle.store.proofs.Zeros.{most_zero}
use Rattle.store.proofs.is_zero.Goals as goal

pub returns : goal.returns
returns c =
    ap (λ (m : ℕ). m =? 0) (fold_from_yields_List _ (λ m x. max m x) 0 c.fold.result c.fold.ensures.ran (YieldsList-from_slice c.args.s.now cc) (λ a x b q k. search rules))
    ∙ most_zero c.args.s.now
