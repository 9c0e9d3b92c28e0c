-- `observing::observe_entry` meets its contract.
use mathlib.Core.Path.{◌≡◌, sym, ap, ◌∙◌}
use Prim.Native.Nat.{ℕ, ◌+◌, ◌-◌, ◌*◌}
use native.Mathlib.Omega.{arith}
use lib.ListN.{get_or, set}
use borrow.Rule.Slice.PartMut.{put_mid}
use Rattle.std.proofs.Common.{Result, Ok, Err}
use Rattle.std.proofs.lemmas.Result.{err_from_is_err_and}
use Rattle.ids.specs.declared.Refusal.{Refusal}
use Rattle.codec.specs.declared.RaftWalRecord.TheVariants as W
use Rattle.view.specs.Meaning.{no_entry}
use Rattle.view.specs.Decisions.{outcome_of}
use Rattle.view.specs.Model.{with_entry}
use Rattle.storage.specs.Model.{no_header}
use Rattle.replay.specs.declared.Observation.{Observation}
use Rattle.replay.specs.Plan.{answer_of, len_after, entry_written}
use Rattle.recovery.proofs.Turn.{settleable_at, nothing, settled_here}
use Rattle.recovery.proofs.Arms.{entry_refuses, entry_planned}
use Rattle.recovery.proofs.observing.observe_entry.Goals as goal

pub decide-requires : goal.decide-requires
decide-requires c =
    let a = c.args in
    let k = c.requires in
    settleable_at a.t.now a.store.now a.p (W.Entry a.r) a.lsn a.lent.now k.linked k.below k.form _ c.look.ensures.place

pub returns-in_err-outcome : goal.returns-in_err-outcome
returns-in_err-outcome c =
    let a = c.args in
    let k = c.requires in
    let e = err_from_is_err_and _ c.from_residual.ensures.1 in
    let before = get_or a.t.now.entries (64 * a.p + c.look_before.result) no_entry in
    nothing a.t.now a.store.now a.p (W.Entry a.r) a.lsn a.lent.now _ _ c.look.ensures.place c.look_before.ensures.place k.linked.size (omega (arith, k.below, k.linked.few)) _
    (entry_refuses _ _ before a.r a.lsn _ a.lent.now _ _ c.decide.ensures c.in_err-outcome.was)
    ∙ ap (λ (y : Result Observation Refusal). record { answer = answer_of y; state = a.t.now; store = a.store.now }) (sym (e.1 ∙ ap Err e.2))

pub write_entry-requires : goal.write_entry-requires
write_entry-requires c =
    let a = c.args in
    let k = c.requires in
    settleable_at a.t.now a.store.now a.p (W.Entry a.r) a.lsn a.lent.now k.linked k.below k.form _ c.look.ensures.place

pub returns : goal.returns
returns c =
    let a = c.args in
    let k = c.requires in
    let v = c.in_ok-outcome.outcome in
    let before = get_or a.t.now.entries (64 * a.p + c.look_before.result) no_entry in
    let h = get_or a.t.now.heads a.p no_header in
    let head : c.with_entry.result ≡ with_entry h (len_after (outcome_of (Ok v)) h a.r.index) a.lsn = c.with_entry.ensures ∙ ap (λ (n : ℕ). with_entry h n a.lsn) c.len_after-len.ensures in
    settled_here a.t.now a.store.now a.p (W.Entry a.r) a.lsn a.lent.now _ _ c.look.ensures.place c.look_before.ensures.place
    (entry_written v h a.r.index a.lsn c.write_entry.result c.write_entry.new.block)
    (entry_planned h _ before a.r a.lsn _ a.lent.now _ v c.decide.ensures c.in_ok-outcome.was _ _ c.write_entry.ensures)
    c.write_entry.auto.block k.linked k.below (omega arith)
    ∙ λ j. record {
      answer = sym c.observation_of.ensures j;
      state = record { heads = set a.t.now.heads a.p (sym head j); entries = set a.t.now.entries (64 * a.p + c.look.result) c.write_entry.result; held = a.t.now.held; scan = a.t.now.scan };
      store = put_mid (4096 * a.p) (4096 * a.p + 4096 - 4096 * a.p) a.store.now c.write_entry.new.block;
    }
