-- `on_empty` meets its contract.
use mathlib.Core.Path.{◌≡◌, sym, ap, ◌∙◌}
use Rattle.std.specs.Prelude.{None}
use Rattle.definition.specs.Table.{first_of}
use Rattle.ids.specs.Identity.{identity_of}
use Rattle.view.specs.declared.Header.{Header}
use Rattle.view.specs.Decisions.{pointer_rows_of}
use Rattle.view.specs.Model.{empty_header}
use Rattle.replay.specs.Plan.{identity_in, empty_refuses}
use Rattle.replay.proofs.on_empty.Goals as goal

pub returns-in-SnapshotPointer : goal.returns-in-SnapshotPointer
returns-in-SnapshotPointer c =
    let p = c.in-SnapshotPointer.p in
    let own : c.new-head.result ≡ empty_header p.identity = c.new-head.ensures ∙ ap empty_header (c.owner.ensures ∙ ap identity_in c.in-SnapshotPointer.is) in
    c.decide_pointer.ensures (identity_of p.identity)
    ∙ ap (λ (h : Header). first_of (pointer_rows_of (identity_of p.identity) h p None)) own
    ∙ sym (ap empty_refuses c.in-SnapshotPointer.is)
