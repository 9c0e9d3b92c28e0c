-- `replica_ok` meets its contract.
use Rattle.std.proofs.Common.{arith, sym, ◌≤◌}
use Rattle.std.proofs.lemmas.List.{length-take-le}
use Rattle.view.specs.Meaning.{lsn_of}
use Rattle.soundness.proofs.Test.{head_short}
use Rattle.soundness.proofs.replica_ok.Goals as goal

pub slice_bounds-entries_ok-end : goal.slice_bounds-entries_ok-end
slice_bounds-entries_ok-end c =
    let short : c.args.head.len ≤ 64 = head_short (lsn_of c.args.last) c.args.head (sym c.if-head_ok.ensures) in
    sym (length-take-le _ _ (omega arith))
