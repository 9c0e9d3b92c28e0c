-- `prepare_sound` meets its contract.
use mathlib.Core.Path.{refl}
use borrow.Author.Rules.{rules}
use Rattle.readers.proofs.Owns.{owns}
use Rattle.persistence.proofs.Tried.{kept, tried_few}
use Rattle.persistence.proofs.Answered.{answers_refused, answers_ready, told_refused}
use Rattle.persistence.proofs.prepare_sound.Goals as goal

pub try_batch-requires : goal.try_batch-requires
try_batch-requires c = kept (owns c.args.sound.now.sound refl c.own-own.ensures)

pub returns-in_err-try_batch : goal.returns-in_err-try_batch
returns-in_err-try_batch c =
    let a = c.args in
    let w = owns a.sound.now.sound refl c.own-own.ensures in
    let z = answers_refused a.batch a.lent.now w c.try_batch.ensures.read _ (told_refused _ _ _ c.try_batch.ensures.is c.in_err-try_batch.was) in
    search (rules, z)

pub records_of-requires : goal.records_of-requires
records_of-requires c =
    let a = c.args in
    tried_few a.sound.now.state.now a.sound.now.store.now a.identity a.batch a.lent.now _ (told_refused _ _ _ c.try_batch.ensures.is c.in_ok-try_batch.was)

pub returns : goal.returns
returns c =
    let a = c.args in
    let w = owns a.sound.now.sound refl c.own-own.ensures in
    let q = told_refused _ _ _ c.try_batch.ensures.is c.in_ok-try_batch.was in
    answers_ready a.batch a.lent.now w c.try_batch.ensures.read _ q c.records_of.ensures
