-- What the definition makes of a record of a replica, refusal by refusal; and that the model's states mean just that.
-- Assumes nothing.
use Rattle.std.specs.Prelude.{None, Some}
use mathlib.Core.Path.{◌≡◌, refl, sym, ap, ◌∙◌}
use mathlib.Core.Bool.{true, false, and-false}
use mathlib.Core.List.{List, [], ◌∷◌}
use Prim.Native.Nat.{ℕ, ◌<◌, ◌≤◌}
use native.Mathlib.Omega.{arith}
use borrow.Author.Tests.{le-leb, lt-leb}
use lib.ListN.{length}
use Rattle.definition.specs.Table.{◌≤?◌, Row, first_of}
use Rattle.definition.specs.Records.{Identity, Kind, Content, same, form_rows}
use Rattle.definition.specs.Log.{Log, Answer, counted, refused, empty, rows, answer_to, accept}
use Rattle.definition.specs.Recovery.{Held, held, lookup, put, keep, ascending, Out, out, too_many_replicas, judged, settled, admitted, visit, State, scan, route_by, routed}
use Rattle.definition.proofs.Laws.{first_join}
use Rattle.ids.specs.declared.Lsn.{Lsn}
use Rattle.ids.specs.declared.RaftReplicaIdentity.{RaftReplicaIdentity}
use Rattle.ids.specs.Identity.{identity_of}
use Rattle.view.specs.Meaning.{id_of}
use Rattle.view.specs.Model.{empty_header}
use Rattle.storage.specs.declared.RecoveredRaftStorage.{RecoveredRaftStorage}
use Rattle.storage.specs.Model.{head_at, scan_next, scanned_only, opened, opened_store}
use Rattle.storage.specs.Meaning.{log_at, meaning, Linked, Step, Observes}
use Rattle.storage.specs.Place.{Stands}
use Rattle.storage.proofs.Link.{scanned_linked, scanned_replicas, still_step}
use Rattle.storage.proofs.Open.{open_linked}
use Rattle.storage.proofs.Place.{scanned_is, replicas_length, held_found, held_step, open_found, opened_put, opened_step}

-- On the definition's state.
module _ (s : State) (lsn : ℕ) (i : Identity) (k : Kind) where
  -- 3 to 22
  pub form_refused : (n : ℕ) → first_of (form_rows i k) ≡ Some n → routed s lsn (Some (i, k)) ≡ out (refused n) (scan s lsn s.replicas)
  unfolding route_by routed visit admitted keep
  form_refused n e =
      let r : List Row = too_many_replicas (8 ≤? length s.replicas) (lookup i s.replicas) ∷ [] in
      rw (first_join (form_rows i k) r, e)

  module _ (form : first_of (form_rows i k) ≡ None) where
    -- 23
    pub full_refused : lookup i s.replicas ≡ None → 8 ≤ length s.replicas → routed s lsn (Some (i, k)) ≡ out (refused 23) (scan s lsn s.replicas)
    unfolding route_by routed visit admitted keep
    full_refused a l =
        rw (a, le-leb 8 (length s.replicas) l, first_join (form_rows i k) (too_many_replicas {L = Log ℕ} true None ∷ []), form)

    -- what a log makes of it
    abbrev settles : Log ℕ → Out State
    settles log = out (settled i k lsn log).answer (scan s lsn (keep i (settled i k lsn log).next s.replicas))

    held_routed : (log : Log ℕ) → lookup i s.replicas ≡ Some log → routed s lsn (Some (i, k)) ≡ settles log
    unfolding route_by routed visit admitted
    held_routed log a =
        rw (a, first_join (form_rows i k) (too_many_replicas (8 ≤? length s.replicas) (Some log) ∷ []), form, and-false (8 ≤? length s.replicas))

    new_routed : lookup i s.replicas ≡ None → length s.replicas < 8 → routed s lsn (Some (i, k)) ≡ settles empty
    unfolding route_by routed visit admitted
    new_routed a l =
        rw (a, lt-leb 8 (length s.replicas) l, first_join (form_rows i k) (too_many_replicas {L = Log ℕ} false None ∷ []), form)

    -- 24 to 42
    settles_refused : (log : Log ℕ) (n : ℕ) → first_of (rows i k log) ≡ Some n → settles log ≡ out (refused n) (scan s lsn (put i log s.replicas))
    unfolding settled judged keep
    settles_refused log n e = rw (e, settled)

    settles_accepted : (log : Log ℕ) → first_of (rows i k log) ≡ None → settles log ≡ out (answer_to k log) (scan s lsn (put i (accept k lsn log) s.replicas))
    unfolding settled judged keep
    settles_accepted log e = rw (e, settled)

-- On the state's places.
module _ (s : RecoveredRaftStorage) (st : List ℕ) (l : Lsn) (k : Linked s st) where
  abbrev scanned : RecoveredRaftStorage
  scanned = scanned_only s (scan_next s.scan l)

  scanned_means : meaning scanned st ≡ scan (meaning s st) l.0 (meaning s st).replicas
  scanned_means = scanned_is s scanned st st l (meaning s st).replicas refl (scanned_replicas s st (scan_next s.scan l))

  -- An answer that changes no replica.
  only_scanned_lem : (c : Content) (a : Answer) → routed (meaning s st) l.0 c ≡ out a (scan (meaning s st) l.0 (meaning s st).replicas) → Observes s st l.0 c a scanned st
  only_scanned_lem c a e = record { means = e ∙ ap (out a) (sym scanned_means); linked = scanned_linked s st k (scan_next s.scan l) }

  -- A record of no Raft kind.
  pub foreign_observes : Observes s st l.0 None counted scanned st
  unfolding route_by routed
  foreign_observes = only_scanned_lem None counted refl

  module _ (i : Identity) (b : Kind) where
    -- Refused for its form.
    pub form_observes : (n : ℕ) → first_of (form_rows i b) ≡ Some n → Observes s st l.0 (Some (i, b)) (refused n) scanned st
    form_observes n e = only_scanned_lem (Some (i, b)) (refused n) (form_refused (meaning s st) l.0 i b n e)

    module _ (form : first_of (form_rows i b) ≡ None) (p : ℕ) (at : Stands s i p) where
      -- Of a replica held at p: refused, or a step there.
      module _ (lt : p < s.held) (eq : same i (id_of (head_at s p)) ≡ true) where
        found : lookup i (meaning s st).replicas ≡ Some (log_at s st p)
        found = held_found s st i p at lt eq

        pub held_refused : (n : ℕ) → first_of (rows i b (log_at s st p)) ≡ Some n → Observes s st l.0 (Some (i, b)) (refused n) scanned st
        held_refused n e =
            let same-put : (meaning s st).replicas ≡ put i (log_at s st p) (meaning s st).replicas = held_step s st i p at lt eq (log_at s st p) s st (still_step s st p k lt s.scan) in
            only_scanned_lem (Some (i, b)) (refused n)
            (held_routed (meaning s st) l.0 i b form (log_at s st p) found ∙ settles_refused (meaning s st) l.0 i b form (log_at s st p) n e
            ∙ ap (λ (r : List (Held (Log ℕ))). out (refused n) (scan (meaning s st) l.0 r)) (sym same-put))

        pub held_accepted : (s' : RecoveredRaftStorage) (st' : List ℕ) → first_of (rows i b (log_at s st p)) ≡ None
            → Step s st p (held (id_of (head_at s p)) (accept b l.0 (log_at s st p))) s' st' → s'.scan ≡ scan_next s.scan l
            → Observes s st l.0 (Some (i, b)) (answer_to b (log_at s st p)) s' st'
        held_accepted s' st' e q sc =
            let v : Log ℕ = accept b l.0 (log_at s st p) in
            record {
              means =
                  held_routed (meaning s st) l.0 i b form (log_at s st p) found ∙ settles_accepted (meaning s st) l.0 i b form (log_at s st p) e
                  ∙ ap (out (answer_to b (log_at s st p))) (sym (scanned_is s s' st st' l (put i v (meaning s st).replicas) sc (held_step s st i p at lt eq v s' st' q)));
              linked = q.linked;
            }

      -- Of a replica not held, where 8 are.
      module _ (ne : p < s.held → same i (id_of (head_at s p)) ≡ false) (asc : ascending (meaning s st).replicas ≡ true) where
        pub full_observes : 8 ≤ s.held → Observes s st l.0 (Some (i, b)) (refused 23) scanned st
        full_observes h =
            only_scanned_lem (Some (i, b)) (refused 23) (full_refused (meaning s st) l.0 i b form (open_found s st i p at ne asc) (omega (arith, replicas_length s st)))

  -- Of a replica not held: refused by its empty log, or a step where its place was opened.
  module _ (i : RaftReplicaIdentity) (b : Kind) (form : first_of (form_rows (identity_of i) b) ≡ None) (p : ℕ) (at : Stands s (identity_of i) p)
      (ne : p < s.held → same (identity_of i) (id_of (head_at s p)) ≡ false) (asc : ascending (meaning s st).replicas ≡ true) (lt : s.held < 8) where
    abbrev s⁺ : RecoveredRaftStorage
    s⁺ = opened s p (empty_header i)

    abbrev st⁺ : List ℕ
    st⁺ = opened_store st p s.held

    missing : routed (meaning s st) l.0 (Some (identity_of i, b)) ≡ settles (meaning s st) l.0 (identity_of i) b form empty
    missing = new_routed (meaning s st) l.0 (identity_of i) b form (open_found s st (identity_of i) p at ne asc) (omega (arith, replicas_length s st))

    pub new_refused : (n : ℕ) → first_of (rows {T = ℕ} (identity_of i) b empty) ≡ Some n
        → Observes s st l.0 (Some (identity_of i, b)) (refused n) (scanned_only s⁺ (scan_next s.scan l)) st⁺
    new_refused n e =
        record {
          means =
              missing ∙ settles_refused (meaning s st) l.0 (identity_of i) b form empty n e
              ∙ ap (out (refused n)) (sym (scanned_is s (scanned_only s⁺ (scan_next s.scan l)) st st⁺ l (put (identity_of i) empty (meaning s st).replicas) refl
              (scanned_replicas s⁺ st⁺ (scan_next s.scan l) ∙ opened_put s st i p at ne k lt)));
          linked = scanned_linked s⁺ st⁺ (open_linked s st p i k at.within lt) (scan_next s.scan l);
        }

    pub new_accepted : (s' : RecoveredRaftStorage) (st' : List ℕ) → first_of (rows {T = ℕ} (identity_of i) b empty) ≡ None
        → Step s⁺ st⁺ p (held (id_of (head_at s⁺ p)) (accept b l.0 empty)) s' st' → s'.scan ≡ scan_next s.scan l
        → Observes s st l.0 (Some (identity_of i, b)) (answer_to {T = ℕ} b empty) s' st'
    new_accepted s' st' e q sc =
        let v : Log ℕ = accept b l.0 empty in
        record {
          means =
              missing ∙ settles_accepted (meaning s st) l.0 (identity_of i) b form empty e
              ∙ ap (out (answer_to {T = ℕ} b empty)) (sym (scanned_is s s' st st' l (put (identity_of i) v (meaning s st).replicas) sc (opened_step s st i p at ne k lt v s' st' q)));
          linked = q.linked;
        }
