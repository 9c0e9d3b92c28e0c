-- A record that is settled at its replica's place, held or just opened, is observed as the definition does.
-- Assumes nothing.
use Rattle.std.specs.Prelude.{None, Some, Ok, Err}
use mathlib.Core.Path.{◌≡◌, sym, ap, subst, ◌∙◌}
use mathlib.Core.Bool.{true}
use mathlib.Core.Logic.{⊎_elim}
use mathlib.Core.List.{List}
use Prim.Native.Nat.{ℕ, ◌<◌, ◌≤◌}
use Rattle.definition.specs.Table.{first_of}
use Rattle.definition.specs.Records.{Identity, Kind, form_rows}
use Rattle.definition.specs.Log as D
use Rattle.definition.specs.Recovery.{held, ascending}
use Rattle.ids.specs.declared.Lsn.{Lsn}
use Rattle.ids.specs.declared.RaftReplicaIdentity.{RaftReplicaIdentity}
use Rattle.ids.specs.Identity.{identity_of}
use Rattle.view.specs.Meaning.{id_of}
use Rattle.view.specs.Model.{empty_header}
use Rattle.storage.specs.declared.RecoveredRaftStorage.{RecoveredRaftStorage}
use Rattle.storage.specs.Model.{head_at, scan_next, scanned_only, opened, opened_store}
use Rattle.storage.specs.Meaning.{log_at, meaning, Linked, Step, Observes}
use Rattle.routing.specs.Settle.{Refuses, Accepts, Settles}
use Rattle.storage.proofs.Open.{new_log}
use Rattle.routing.proofs.Routed.{held_refused, held_accepted, full_observes, new_refused, new_accepted}
use Rattle.storage.proofs.Finding.{Told}

module _ (s : RecoveredRaftStorage) (st : List ℕ) (l : Lsn) (k : Linked s st) (i : RaftReplicaIdentity) (b : Kind) (form : first_of (form_rows (identity_of i) b) ≡ None) (p : ℕ) where
  abbrev j : Identity
  j = identity_of i

  -- Held at p.
  pub held_observes : Told s j (Ok p) → (a : D.Answer) (s' : RecoveredRaftStorage) (st' : List ℕ) → Settles s st p j b l a s' st' → Observes s st l.0 (Some (j, b)) a s' st'
  held_observes t a s' st' =
      ⊎_elim (λ (x : Refuses s st p j b l a s' st'). rw (x.answer, x.state, x.store) (held_refused s st l k j b form p t.0 t.1 t.2 x.number x.row))
      (λ (x : Accepts s st p j b l a s' st'). rw x.answer (held_accepted s st l k j b form p t.0 t.1 t.2 s' st' x.row x.step x.scan))

  module _ (t : Told s j (Err p)) (asc : ascending (meaning s st).replicas ≡ true) where
    -- Not held, where 8 are.
    pub full_is : 8 ≤ s.held → Observes s st l.0 (Some (j, b)) (D.refused 23) (scanned_only s (scan_next s.scan l)) st
    full_is h = full_observes s st l k j b form p t.0 t.1 asc h

    -- Not held, and its place was opened at p.
    module _ (lt : s.held < 8) where
      abbrev s⁺ : RecoveredRaftStorage
      s⁺ = opened s p (empty_header i)

      abbrev st⁺ : List ℕ
      st⁺ = opened_store st p s.held

      log : log_at s⁺ st⁺ p ≡ D.empty
      log = new_log s st p i k t.0.within lt

      pub new_observes : (a : D.Answer) (s' : RecoveredRaftStorage) (st' : List ℕ) → Settles s⁺ st⁺ p j b l a s' st' → Observes s st l.0 (Some (j, b)) a s' st'
      new_observes a s' st' = ⊎_elim refused accepted
        where
          refused : Refuses s⁺ st⁺ p j b l a s' st' → Observes s st l.0 (Some (j, b)) a s' st'
          refused x =
              let row : first_of (D.rows {T = ℕ} j b D.empty) ≡ Some x.number = ap (λ (v : D.Log ℕ). first_of (D.rows j b v)) (sym log) ∙ x.row in
              rw (x.answer, x.state, x.store) (new_refused s st l k i b form p t.0 t.1 asc lt x.number row)

          accepted : Accepts s⁺ st⁺ p j b l a s' st' → Observes s st l.0 (Some (j, b)) a s' st'
          accepted x =
              let row : first_of (D.rows {T = ℕ} j b D.empty) ≡ None = ap (λ (v : D.Log ℕ). first_of (D.rows j b v)) (sym log) ∙ x.row in
              let answer : a ≡ D.answer_to {T = ℕ} b D.empty = x.answer ∙ ap (λ (v : D.Log ℕ). D.answer_to b v) log in
              let step : Step s⁺ st⁺ p (held (id_of (head_at s⁺ p)) (D.accept b l.0 D.empty)) s' st' =
              subst (λ (v : D.Log ℕ). Step s⁺ st⁺ p (held (id_of (head_at s⁺ p)) (D.accept b l.0 v)) s' st') log x.step in
              rw answer (new_accepted s st l k i b form p t.0 t.1 asc lt s' st' row step x.scan)
