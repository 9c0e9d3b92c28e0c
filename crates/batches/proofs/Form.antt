-- Where a pointer's format version is 1, the batch's order of its form and the observation's refuse alike.
-- Assumes nothing.
use mathlib.Core.Path.{◌≡◌, refl}
use Rattle.definition.specs.Table.{◌=?◌, first_of}
use Rattle.definition.specs.Records.{form_rows}
use Rattle.definition.proofs.Laws.{first_under}
use Rattle.ids.specs.Identity.{identity_of}
use borrow.Author.Tests.{eq-eqb}
use Rattle.codec.specs.declared.RaftSnapshotPointerRecord.{RaftSnapshotPointerRecord}
use Rattle.codec.specs.Records.{pointer_kind_of, pointer_record_of}
use Rattle.batches.specs.Checks.{pointer_form_rows}

pub form_rows_lem : (p : RaftSnapshotPointerRecord) → p.format_version ≡ 1 → first_of (form_rows (identity_of p.identity) (pointer_kind_of p)) ≡ first_of (pointer_form_rows (pointer_record_of p))
unfolding form_rows
form_rows_lem p e =
    rw (eq-eqb p.format_version 1 e) (first_under 16 (p.identity.raft_group_id.0 =? 0) _ _ (first_under 17 (p.identity.replica_id.0 =? 0) _ _ refl))
