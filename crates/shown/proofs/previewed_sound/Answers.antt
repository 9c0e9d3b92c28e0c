-- `previewed_sound` meets its contract.
use mathlib.Core.Path.{refl}
use Rattle.readers.proofs.Owns.{owns}
use Rattle.persistence.proofs.Tried.{kept}
use Rattle.shown.proofs.Answers.{shows_refused, shows_ready}
use Rattle.shown.proofs.previewed_sound.Goals as goal

pub try_batch-tried-requires : goal.try_batch-tried-requires
try_batch-tried-requires c = kept (owns c.args.sound.now.sound refl c.own-own.ensures)

pub returns-in-Err : goal.returns-in-Err
returns-in-Err c =
    let a = c.args in
    let w = owns c.args.sound.now.sound refl c.own-own.ensures in
    shows_refused a.sound.now.state.now a.sound.now.store.now a.identity a.batch a.lent.now a.index _ w c.try_batch-tried.ensures.read _ c.try_batch-tried.ensures.is _ c.in-Err.is

pub show-requires : goal.show-requires
show-requires c =
    let a = c.args in
    let w = owns c.args.sound.now.sound refl c.own-own.ensures in
    w.low

pub returns-in-Ok : goal.returns-in-Ok
returns-in-Ok c =
    let a = c.args in
    let w = owns c.args.sound.now.sound refl c.own-own.ensures in
    shows_ready a.sound.now.state.now a.sound.now.store.now a.identity a.batch a.lent.now a.index _ w c.try_batch-tried.ensures.read c.try_batch-tried.result c.try_batch-tried.ensures.is c.in-Ok.is c.show.result (c.show.ensures a.lent.now)
