-- `prepare::point` meets its contract.
use Prim.Native.Nat.{◌<◌}
use Rattle.definition.specs.Table.{u64_max}
use Rattle.ids.specs.Identity.{identity_of}
use Rattle.replay.proofs.Written.{covered_few, dropped_is}
use Rattle.persistence.proofs.Pointed.{point_out, point_lsn, point_in_lem}
use borrow.Author.Rules.{rules}
use Rattle.persistence.proofs.prepare.point.Goals as goal

pub returns-in_err-check_pointer : goal.returns-in_err-check_pointer
returns-in_err-check_pointer c =
    let a = c.args in
    point_out (identity_of a.identity) a.preview.now a.p a.block.now c.held_at-held.result c.check_pointer.result c.held_at-held.ensures c.check_pointer.ensures c.in_err-check_pointer.was _ c.from_residual.ensures.1

pub overflow_add-lsn : goal.overflow_add-lsn
overflow_add-lsn c =
    let a = c.args in
    let l : a.preview.now.lsn < u64_max = point_lsn (identity_of a.identity) a.preview.now a.p a.block.now c.held_at-held.result c.check_pointer.result c.held_at-held.ensures c.check_pointer.ensures c.in_ok-check_pointer.was in
    search rules

pub returns : goal.returns
returns c =
    let a = c.args in
    let k = c.covered_by-k in
    point_in_lem (identity_of a.identity) a.preview.now a.p a.block.now c.held_at-held.result c.check_pointer.result c.held_at-held.ensures c.check_pointer.ensures c.in_ok-check_pointer.was k.result c.with_pointer-preview.result c.move_entries.new.preview _ k.ensures c.with_pointer-preview.ensures c.move_entries.ensures
    (dropped_is a.block.now k.result _ c.requires.bytes (covered_few a.preview.now.head a.p.last_included_index k.result k.ensures c.requires.fits.short) c.drop_cells.ensures)
