-- `maximum_term` meets its contract.
use Rattle.std.proofs.Common.{rules, length, min, take}
use Rattle.std.proofs.lemmas.List.{take_min}
use Rattle.view.proofs.Largest.{fold_largest}
use Rattle.view.proofs.Header.maximum_term.Goals as goal

pub returns : goal.returns
returns c =
    let es = c.args.entries.now in
    let n = c.args.self.len in
    rw (← take_min n es, ← fold_largest c.args.self.snapshot_term (take (min n (length es)) es)) (search rules)
