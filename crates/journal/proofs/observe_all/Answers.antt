-- `journal::observe_all` meets its contract.
use mathlib.Core.Path.{◌≡◌, sym, ap, subst}
use native.Mathlib.Omega.{arith}
use Rattle.std.proofs.Common.{rules, length, ◌≤◌, ◌+◌, ℕ}
use Rattle.storage.specs.declared.RecoveredRaftStorage.{RecoveredRaftStorage}
use Rattle.arrayvec.specs.ArrayVec.{array_vec_len}
use Rattle.journal.specs.Recovered.{Follows}
use Rattle.journal.specs.ReadRecords.{ReadRecords}
use Rattle.journal.proofs.Reading.{follows_none, accepted_answer, follows_more}
use Rattle.journal.proofs.observe_all.Goals as goal

pub loop-done-init : goal.loop-done-init
loop-done-init c = (omega arith, λ e. subst (λ (s : RecoveredRaftStorage). Follows 0 s c.args.store.now) (sym c.fresh-state.ensures) (follows_none c.args.store.now e))

pub loop-done-preserved : goal.loop-done-preserved
loop-done-preserved c =
    let l = c.loop-done in
    let d = c.observe_records-d in
    let count : length c.as_slice-records.result.now ≡ c.len-done.result = search rules in
    let read = ap (λ (r : ReadRecords). array_vec_len r.records) c.chunk.view_is in
    let few : l.done + c.len-done.result ≤ c.args.most = omega (arith, read, c.read_chunk-chunk.ensures.within, c.len-done.ensures.value, c.loop-done-test.true) in (
      few,
      λ e. subst (λ (n : ℕ). Follows (l.done + n) d.result.state d.new.store) count
          (follows_more l.done l.state l.store (l.invariant.1 e) c.as_slice-records.result.now c.args.commands.now.bytes d.result d.new.store d.ensures
          (accepted_answer d.result.answer c.in_default.not-Err)
          (omega (arith, c.requires, few, count))),
    )
