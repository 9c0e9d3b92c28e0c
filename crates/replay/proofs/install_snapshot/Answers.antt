-- `install_snapshot` meets its contract.
use mathlib.Core.Path.{sym, ap, ◌∙◌}
use Rattle.ids.specs.Identity.{identity_of}
use Rattle.ids.specs.Refusal.{checked_of}
use Rattle.replay.proofs.Written.{covered_few, dropped_is, plan_installs}
use Rattle.replay.proofs.install_snapshot.Goals as goal

pub returns : goal.returns
returns c =
    let a = c.args in
    let k = c.covered_by-k in
    plan_installs a.head a.e a.pointer a.lsn a.block.now _ k.result _ _ c.held_term-held.ensures
    (sym (c.decide_pointer.ensures (identity_of a.pointer.identity)) ∙ ap checked_of c.in_ok-decide_pointer.was)
    k.ensures
    c.with_pointer.ensures
    (dropped_is a.block.now k.result _ c.requires.0 (covered_few a.head a.pointer.last_included_index k.result k.ensures c.requires.1) c.drop_cells.ensures)
