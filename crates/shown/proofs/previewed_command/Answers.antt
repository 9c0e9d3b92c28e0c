-- `previewed_command` meets its contract.
use Rattle.std.proofs.Common.{rules}
use Rattle.definition.specs.Batch.{shown_bytes}
use Rattle.shown.specs.Shows.{shown_address}
use Rattle.shown.proofs.Answers.{shows_part}
use Rattle.shown.proofs.previewed_command.Goals as goal

pub returns-in-None-clause-bytes : goal.returns-in-None-clause-bytes
returns-in-None-clause-bytes c =
    let a = c.args in
    shows_part c.previewed_at.ensures (shown_bytes a.store.now a.lent.now) _ (rw c.in-None.is)

pub returns-in-None-clause-place : goal.returns-in-None-clause-place
returns-in-None-clause-place c =
    let a = c.args in
    shows_part c.previewed_at.ensures (shown_address a.store.ref_ptr a.store.now a.lent.ref_ptr a.lent.now) _ (rw c.in-None.is (search rules))

pub returns-in-Some-OfLog-clause-bytes : goal.returns-in-Some-OfLog-clause-bytes
returns-in-Some-OfLog-clause-bytes c =
    let a = c.args in
    let w = c.in-Some-OfLog in
    shows_part c.previewed_at.ensures (shown_bytes a.store.now a.lent.now) _ (rw (w.is, w.field-0-is) c.part.ensures.bytes)

pub returns-in-Some-OfLog-clause-place : goal.returns-in-Some-OfLog-clause-place
returns-in-Some-OfLog-clause-place c =
    let a = c.args in
    let w = c.in-Some-OfLog in
    shows_part c.previewed_at.ensures (shown_address a.store.ref_ptr a.store.now a.lent.ref_ptr a.lent.now) _ (rw (w.is, w.field-0-is) c.part.ensures.place)

pub returns-in-Some-OfBatch-clause-bytes : goal.returns-in-Some-OfBatch-clause-bytes
returns-in-Some-OfBatch-clause-bytes c =
    let a = c.args in
    let w = c.in-Some-OfBatch in
    shows_part c.previewed_at.ensures (shown_bytes a.store.now a.lent.now) _ (rw (w.is, w.field-0-is) c.part-in-Some-OfBatch.ensures.bytes)

pub returns-in-Some-OfBatch-clause-place : goal.returns-in-Some-OfBatch-clause-place
returns-in-Some-OfBatch-clause-place c =
    let a = c.args in
    let w = c.in-Some-OfBatch in
    shows_part c.previewed_at.ensures (shown_address a.store.ref_ptr a.store.now a.lent.ref_ptr a.lent.now) _ (rw (w.is, w.field-0-is) c.part-in-Some-OfBatch.ensures.place)
