-- `batch_tables::put_hex` meets its contract: at the end all bytes are written.
use Rattle.std.proofs.Common.{◌≡◌, arith, length}
use Rattle.batch_tables.proofs.Hex.{hex_lines}
use Rattle.batch_tables.proofs.put_hex.Goals as goal

pub returns-clause-text : goal.returns-clause-text
returns-clause-text g c =
    let e : c.loop-b.b-index ≡ length c.args.bytes.now = omega arith in
    rw (c.loop-b.invariant.text, e, hex_lines)
