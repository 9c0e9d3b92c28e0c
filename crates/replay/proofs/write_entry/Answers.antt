-- `write_entry` meets its contract.
use Rattle.std.proofs.Common.{rules}
use Rattle.replay.proofs.Written.{placed_is}
use Rattle.replay.proofs.write_entry.Goals as goal

pub returns-in-ReplacedSuffix : goal.returns-in-ReplacedSuffix
returns-in-ReplacedSuffix c =
    let a = c.args in
    search (
      rules,
      placed_is a.head a.e a.r a.block.now a.lent.now c.requires c.look-q.result a.lsn _ _ c.look-q.ensures.below c.put_payload-in-ReplacedSuffix.ensures c.keep_cells.ensures,
    )
