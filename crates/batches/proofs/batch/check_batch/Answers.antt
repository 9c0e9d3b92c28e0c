-- `check_batch` meets its contract.
use mathlib.Core.Path.{sym, ◌∙◌}
use borrow.Author.Tests.{ne_eqb, lt-ltb, le-ltb}
use Rattle.definition.specs.Batch.{batch_rows}
use Rattle.batches.proofs.Entries.{entries_count}
use Rattle.batches.proofs.batch.check_batch.Goals as goal

pub returns-then-batch-gt-MAX_BATCH_ENTRIES : goal.returns-then-batch-gt-MAX_BATCH_ENTRIES
unfolding batch_rows
returns-then-batch-gt-MAX_BATCH_ENTRIES c = λ lent was. simp (entries_count, lt-ltb _ _ c.if-batch-gt-MAX_BATCH_ENTRIES.true, ne_eqb _ _ c.if-identity-eq0-2.false, ne_eqb _ _ c.if-identity-eq0.false)

pub returns-then-pointer_alone : goal.returns-then-pointer_alone
unfolding batch_rows
returns-then-pointer_alone c = λ lent was. simp (entries_count, sym c.pointer_alone.ensures ∙ c.if-pointer_alone.true, le-ltb _ _ c.if-batch-gt-MAX_BATCH_ENTRIES.false, ne_eqb _ _ c.if-identity-eq0-2.false, ne_eqb _ _ c.if-identity-eq0.false)

pub returns : goal.returns
unfolding batch_rows
returns c = λ lent was. simp (entries_count, sym c.pointer_alone.ensures ∙ c.if-pointer_alone.false, le-ltb _ _ c.if-batch-gt-MAX_BATCH_ENTRIES.false, ne_eqb _ _ c.if-identity-eq0-2.false, ne_eqb _ _ c.if-identity-eq0.false)
