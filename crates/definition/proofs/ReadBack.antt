-- The claim that a batch's records can be read back after a cut (document 02, Q-14), proved.
-- Assumes nothing.
use Prim.Native.Nat.{ℕ, zero, suc, ◌+◌, ◌≤◌, ◌<◌, max, min}
use mathlib.Core.Path.{◌≡◌, refl, sym, ap, ◌∙◌, subst}
use mathlib.Core.Logic.{◌⊎◌, inl, inr}
use mathlib.Core.Bool.{Bool, true, false, and-false}
use mathlib.Core.List.{List, [], ◌∷◌, ◌++◌, map}
use native.Mathlib.Omega.{arith}
use lib.ListN.{length, take, length-take, length-map}
use borrow.Author.Tests.{ltb-true, ltb-false, le-ltb, not-false, ne_eqb}
use Rattle.std.specs.Prelude.{Option, None, Some, option_map, unwrap_or, if◌then◌else◌, Ok}
use Rattle.definition.specs.Table.{every, Row, ◌=?◌, ◌<?◌, ◌≤?◌, if_some, is_some, u64_max}
use Rattle.definition.specs.Records.{Identity, same, LogEntry, HardState, Pointer, Kind, entry, hard_state, pointer, form_rows, Content, content, Record}
use Rattle.definition.specs.Log.{Log, PointerRecord, hard_state_successor_rows, snapshot_successor_rows, install_rows, rows, raised_by, empty, with_entry, with_hard_state, with_pointer, with_hard, accept, largest_term, maximum_observed_term, normalized_to, normalized_hard_state, normalize_hard_state_term}
use Rattle.definition.specs.Batch.{BatchEntry, Batch, Prepared, Preview, preview_entry, preview_pointer, preview_hard_state, prepare, batch_pointer_rows, batch_entry_rows, batch_hard_state_rows, batch_rows, concluded, hardened, extended, pointed, prepare_on}
use Rattle.definition.specs.Recovery.{lookup, Out, State, fresh_state, Recovery, fresh, sound, normalized, normalized_state, observed, answers, finish, state_answers, state_after, replica_of}
use Rattle.definition.specs.Two.{fits}
use Rattle.definition.specs.ReadBack.{commits_less, Written, SameEntries, Left, ReadsBack, ReadBack, ReadBackFromEmpty}
use Rattle.definition.proofs.Laws.{contra, Clear, clear_l, clear_r, clear_i}
use Rattle.definition.proofs.Order.{same_eq, lookup_map}
use Rattle.definition.proofs.SoundLog.{truncated_is}
use Rattle.definition.proofs.Alike.{stripped, Alike, entry_hardless, pointer_hardless, rows_alike, accept_alike, same_entries, commit_alike, last_alike}
use Rattle.definition.proofs.Sound.{replica_sound, state_steady, fresh_sound, sound_while_counted}
use Rattle.definition.proofs.Store.{laid, is_laid, state_sound, observed_laid, answers_laid, finish_whole, finish_sound, laid_sound, observed_fresh, observed_state}
use Rattle.definition.proofs.Taken.{onward, fold_log, Taken, AllTaken, room_for, Took, took}
use Rattle.definition.proofs.Prepared.{passed, pointer_records, entry_records, hard_state_records, later_records, batch_records, concluded_is, Passed, take_apart, few_records, prepare_sound}

-- A journal says, in order, what the first of the prepared records say.
abbrev Begins : List Record → Prepared → Type 0
Begins [] p = Unit {0}
Begins (r ∷ rs) [] = ⊥
Begins (r ∷ rs) (x ∷ p) = (content r ≡ Some x) × Begins rs p

-- A hard state may follow the one before (33 to 36).
abbrev MayFollow : HardState → Option HardState → Type 0
MayFollow h o = Clear (hard_state_successor_rows h o)

-- One that may follow the one before, and lies not below a pointer, may follow the one that the pointer makes.
raised_follows : (p : Pointer) (h : HardState) (o : Option HardState) → MayFollow h o
    → (h.current_term <? p.last_included_term) ≡ false → (h.commit <? p.last_included_index) ≡ false
    → MayFollow h (Some (raised_by p o))
unfolding hard_state_successor_rows raised_by
raised_follows p h None c s t = (s, (t, (and-false (h.current_term =? p.last_included_term), (and-false (h.current_term =? p.last_included_term), tt))))
raised_follows p h (Some o) c s t = go (p.last_included_term ≤? o.current_term)
  where
    go : (b : Bool)
        → MayFollow h (Some (if b
        then record { current_term = o.current_term; voted_for = o.voted_for; commit = max o.commit p.last_included_index }
        else record { current_term = p.last_included_term; voted_for = None; commit = p.last_included_index }))
    go true =
        let (term, (commit, votes)) = c in
        let high : max o.commit p.last_included_index ≤ h.commit = omega (arith, ltb-false h.commit o.commit commit, ltb-false h.commit p.last_included_index t) in
        (term, (le-ltb h.commit (max o.commit p.last_included_index) high, votes))
    go false = (s, (t, (and-false (h.current_term =? p.last_included_term), (and-false (h.current_term =? p.last_included_term), tt))))

-- A batch of the replica i, prepared on the log `was`, comes to the preview `end`.
module _ (i : Identity) (b : Batch) (was : Log ℕ) (end : Preview) where
  -- What of the batch's rows on its hard state does not look at the preview: 33 to 36, 47, 48.
  record Follows (h : HardState) : Type 0 where
    successor : MayFollow h was.hard_state
    term : if_some (λ p. h.current_term <? p.snapshot.last_included_term) b.snapshot ≡ false
    index : if_some (λ p. h.commit <? p.snapshot.last_included_index) b.snapshot ≡ false

  -- A preview, and the log that has been read back so far. The batch's hard state may follow the log's and commits not less than the view.
  record Standing (v : Preview) (log : Log ℕ) : Type 0 where
    alike : Alike v.log log
    tied : v.log.progress.truncated_through_index ≡ v.log.snapshot_index
    hard : (h : HardState) → b.hard_state ≡ Some h → Follows h
        → MayFollow h log.hard_state × ((h.commit <? v.log.committed_index) ≡ false)

  -- The log that is read back when all was read.
  record Whole (v : Preview) (log : Log ℕ) : Type 0 where
    pub entries : SameEntries v.log log
    pub hard : is_some b.hard_state ≡ true → v.log.hard_state ≡ log.hard_state

  -- From the log on, the records ws that begin p are taken.
  record End (log : Log ℕ) (p : Prepared) (ws : List Record) : Type 0 where
    pub taken : AllTaken i log ws
    pub whole : length p ≤ length ws → Whole end (fold_log log ws)

  step : (k : Kind) (log : Log ℕ) (p : Prepared) → Clear (form_rows i k) → Clear (rows i k log)
      → ((t : ℕ) (ws : List Record) → Begins ws p → End (accept k t log) p ws)
      → (ws : List Record) → Begins ws ((i, k) ∷ p) → End log ((i, k) ∷ p) ws
  step k log p f c next [] w = record { taken = tt; whole = λ n. absurd (omega (arith, n)) }
  step k log p f c next (y ∷ ws) (says, w) =
      let new : onward (content y) y.lsn log ≡ accept k y.lsn log = ap (λ (x : Content). onward x y.lsn log) says in
      let rest : End (accept k y.lsn log) p ws = next y.lsn ws w in
      record {
        taken = (subst (Taken i log) (sym says) (refl, f, c), subst (λ (u : Log ℕ). AllTaken i u ws) (sym new) rest.taken);
        whole = λ n. subst (λ (u : Log ℕ). Whole end (fold_log u ws)) (sym new) (rest.whole (omega (arith, n)));
      }

  none_left : (log : Log ℕ) → Whole end log → (ws : List Record) → Begins ws [] → End log [] ws
  none_left log x [] w = record { taken = tt; whole = λ n. x }
  none_left log x (y ∷ ws) w = absurd w

  module _ (g : (i.group =? 0) ≡ false) (r : (i.replica =? 0) ≡ false) where
    -- The hard state.
    hard_form : (h : HardState) (v : Preview) → Clear (batch_hard_state_rows i b was h v) → Clear (form_rows i (hard_state 1 h))
    unfolding form_rows batch_hard_state_rows
    hard_form h v c = (g, (r, (c.0, (refl, (c.1.0, tt)))))

    hard_rows : (h : HardState) → b.hard_state ≡ Some h → (v : Preview) (log : Log ℕ) → Standing v log
        → Clear (batch_hard_state_rows i b was h v) → Clear (rows i (hard_state 1 h) log)
    unfolding rows batch_hard_state_rows
    hard_rows h q v log s c =
        let before = clear_l (hard_state_successor_rows h was.hard_state) _ c.1.1 in
        let (term, (index, (beyond, z))) = clear_r (hard_state_successor_rows h was.hard_state) _ c.1.1 in
        let (after, commit) = s.hard h q (record { successor = before; term = term; index = index }) in
        clear_i (hard_state_successor_rows h log.hard_state) _ after
        (rw (← last_alike v.log log s.alike) beyond, (rw (← commit_alike v.log log s.alike) commit, tt))

    hard_whole : (h : HardState) (t : ℕ) (v : Preview) (log : Log ℕ) → Standing v log
        → Whole (preview_hard_state i h v) (accept (hard_state 1 h) t log)
    unfolding with_hard accept with_hard_state
    hard_whole h t v log s =
        let e : SameEntries v.log log = same_entries v.log log s.alike in
        record { entries = record { entries = e.entries; index = e.index; term = e.term; pointer = e.pointer }; hard = λ n. refl }

    concluded_whole : (v : Preview) (log : Log ℕ) → Whole v log → concluded i b was v ≡ Ok end → Whole end log
    concluded_whole v log x e = subst (λ (y : Preview). Whole y log) (concluded_is i b was end v e) x

    hardened_end : (o : Option HardState) → b.hard_state ≡ o → (v : Preview) (log : Log ℕ) → Standing v log
        → hardened i b was o v ≡ Ok end → (ws : List Record) → Begins ws (hard_state_records i o) → End log (hard_state_records i o) ws
    unfolding hardened
    hardened_end None q v log s e ws w =
        none_left log
        (concluded_whole v log (record { entries = same_entries v.log log s.alike; hard = λ n. contra (is_some b.hard_state) n (ap is_some q) }) e) ws w
    hardened_end (Some h) q v log s e ws w =
        let next : Preview = preview_hard_state i h v in
        let (c, f) = passed (batch_hard_state_rows i b was h v) next end (concluded i b was) e in
        step (hard_state 1 h) log [] (hard_form h v c) (hard_rows h q v log s c)
        (λ t ws w. none_left (accept (hard_state 1 h) t log) (concluded_whole next (accept (hard_state 1 h) t log) (hard_whole h t v log s) f) ws w) ws w

    -- An entry.
    entry_form : (e : LogEntry) (v : Preview) → Clear (batch_entry_rows i b was e v) → Clear (form_rows i (entry 1 e))
    unfolding form_rows batch_entry_rows
    entry_form e v c =
        let (lsn, (member, (index, (term, (version, (command, more)))))) = c in
        (member, (version, (refl, (g, (r, (index, (term, (command, tt))))))))

    entry_rows : (e : LogEntry) (v : Preview) (log : Log ℕ) → Standing v log → Clear (batch_entry_rows i b was e v)
        → Clear (rows i (entry 1 e) v.log)
    unfolding rows batch_entry_rows
    entry_rows e v log s c =
        let (lsn, (member, (index, (term, (version, (command, (boundary, more))))))) = c in
        (rw s.tied boundary, more)

    entry_stands : (e : LogEntry) (t : ℕ) (v : Preview) (log : Log ℕ) → Standing v log
        → Standing (preview_entry i e v) (accept (entry 1 e) t log)
    unfolding accept with_entry
    entry_stands e t v log s =
        record { alike = accept_alike v.log log s.alike (entry 1 e) (entry_hardless 1 e) (v.lsn + 1) t; tied = s.tied; hard = s.hard }

    extended_end : (es : List BatchEntry) (v : Preview) (log : Log ℕ) → Standing v log → extended i b was es v ≡ Ok end
        → (ws : List Record) → Begins ws (entry_records i es ++ hard_state_records i b.hard_state)
        → End log (entry_records i es ++ hard_state_records i b.hard_state) ws
    unfolding extended
    extended_end [] v log s e ws w = hardened_end b.hard_state refl v log s e ws w
    extended_end (x ∷ es) v log s e ws w =
        let d : LogEntry = x.log_entry in
        let next : Preview = preview_entry i d v in
        let (c, f) = passed (batch_entry_rows i b was d v) next end (extended i b was es) e in
        step (entry 1 d) log (entry_records i es ++ hard_state_records i b.hard_state) (entry_form d v c)
        (subst (λ (l : List Row). Clear l) (rows_alike v.log log s.alike (entry 1 d) (entry_hardless 1 d) i) (entry_rows d v log s c))
        (λ t ws w. extended_end es next (accept (entry 1 d) t log) (entry_stands d t v log s) f ws w) ws w

    -- The pointer. It is the batch's first record, so that the preview's log is still `was`.
    module _ (log : Log ℕ) (a : Alike was log) (tied : was.progress.truncated_through_index ≡ was.snapshot_index) (less : commits_less b was ≡ false)
        (follows : (h : HardState) → MayFollow h was.hard_state → MayFollow h log.hard_state) where
      commits : (h : HardState) → b.hard_state ≡ Some h → (h.commit <? was.committed_index) ≡ false
      commits h q = ap (if_some (λ (x : HardState). x.commit <? was.committed_index)) (sym q) ∙ less

      begun_stands : (v : Preview) → v.log ≡ was → Standing v log
      begun_stands v e =
          record {
            alike = subst (λ (x : Log ℕ). Alike x log) (sym e) a;
            tied = rw (e, tied) refl;
            hard = λ h q x. (follows h x.successor, rw e (commits h q));
          }

      pointer_is : (p : PointerRecord) (v : Preview) → Clear (batch_pointer_rows i b was p v) → p.identity ≡ i
      unfolding batch_pointer_rows
      pointer_is p v c =
          let (version, (group, (replica, (id, (boundary, (applied, (size, (mine, more)))))))) = c in
          sym (same_eq i p.identity (not-false (same i p.identity) mine))

      pointer_form : (p : PointerRecord) (v : Preview) → Clear (batch_pointer_rows i b was p v) → Clear (form_rows i (pointer p.snapshot))
      unfolding form_rows batch_pointer_rows
      pointer_form p v c =
          let (version, (group, (replica, (id, (boundary, (applied, (size, more))))))) = c in
          (g, (r, (version, (id, (boundary, (applied, (size, tt)))))))

      pointer_rows : (p : PointerRecord) (v : Preview) → p.identity ≡ i → v.log ≡ was → Clear (batch_pointer_rows i b was p v)
          → Clear (rows i (pointer p.snapshot) was)
      unfolding rows snapshot_successor_rows install_rows batch_pointer_rows
      pointer_rows p v e q c =
          let (version, (group, (replica, (id, (zero_boundary, (applied, (size, (mine, (regression, (conflict, (lsn, (term, (boundary, z))))))))))))) = c in
          (regression, (rw e at conflict, (rw q at term, (rw q at boundary, tt))))

      raised_stands : (p : PointerRecord) (v : Preview) (t : ℕ) → b.snapshot ≡ Some p → v.log ≡ was
          → Standing (preview_pointer p v) (accept (pointer p.snapshot) t log)
      unfolding accept with_pointer
      raised_stands p v t n q =
          record {
            alike = accept_alike v.log log (begun_stands v q).alike (pointer p.snapshot) (pointer_hardless p.snapshot) (v.lsn + 1) t;
            tied = refl;
            hard = λ h k x.
                let term : (h.current_term <? p.snapshot.last_included_term) ≡ false = rw n at x.term in
                let index : (h.commit <? p.snapshot.last_included_index) ≡ false = rw n at x.index in (
                  raised_follows p.snapshot h log.hard_state (follows h x.successor) term index,
                  rw q (le-ltb h.commit (max was.committed_index p.snapshot.last_included_index)
                      (omega (arith, ltb-false h.commit was.committed_index (commits h k), ltb-false h.commit p.snapshot.last_included_index index))),
                );
          }

      pointed_end : (o : Option PointerRecord) → b.snapshot ≡ o → (v : Preview) → v.log ≡ was → pointed i b was o v ≡ Ok end
          → (ws : List Record) → Begins ws (pointer_records o ++ later_records i b) → End log (pointer_records o ++ later_records i b) ws
      unfolding pointed
      pointed_end None n v q e ws w = extended_end b.entries v log (begun_stands v q) e ws w
      pointed_end (Some p) n v q e ws w =
          let next : Preview = preview_pointer p v in
          let (c, f) = passed (batch_pointer_rows i b was p v) next end (extended i b was b.entries) e in
          let own : p.identity ≡ i = pointer_is p v c in
          let all : Identity → Prepared = λ j. (j, pointer p.snapshot) ∷ later_records i b in
          subst (λ (j : Identity). Begins ws (all j) → End log (all j) ws) (sym own)
          (step (pointer p.snapshot) log (later_records i b) (pointer_form p v c)
          (subst (λ (l : List Row). Clear l) (rows_alike was log a (pointer p.snapshot) (pointer_hardless p.snapshot) i) (pointer_rows p v own q c))
          (λ t ws w. extended_end b.entries next (accept (pointer p.snapshot) t log) (raised_stands p v t n q) f ws w) ws) w

-- The first k of a list of records, as what they say.
begins : (ws : List Record) (k : ℕ) (p : Prepared) → map content ws ≡ map Some (take k p) → Begins ws p
begins [] k p e = tt
begins (r ∷ ws) zero p e = let z : ◌≡◌ {A = ℕ} 0 1 = cc in absurd (omega arith)
begins (r ∷ ws) (suc k) [] e = let z : ◌≡◌ {A = ℕ} 0 1 = cc in omega arith
begins (r ∷ ws) (suc k) (x ∷ p) e =
    let head : content r ≡ Some x = cc in
    let tail : map content ws ≡ map Some (take k p) = cc in
    (head, begins ws k p tail)

-- As many are read as are said.
read_count : (ws : List Record) (k : ℕ) (p : Prepared) → map content ws ≡ map Some (take k p) → length ws ≡ min k (length p)
read_count ws k p e = sym (length-map ws content) ∙ ap length e ∙ length-map (take k p) Some ∙ length-take k p

-- The records of a batch, read back on a sound recovery.
module _ (w : Recovery) (e : sound w ≡ true) (i : Identity) (b : Batch) (end : Preview) (k : ℕ) (ws : List Record) (m : every fits ws ≡ true)
    (c : Written w i b end k ws)
  where
    -- The log that the batch was prepared on differs from the recovery's in LSNs and hard state alone.
    record PreparedOn (was : Log ℕ) : Type 0 where
      comes : prepare_on i b was ≡ Ok end
      alike : Alike was (replica_of i w.state)
      tied : was.progress.truncated_through_index ≡ was.snapshot_index
      follows : (h : HardState) → MayFollow h was.hard_state → MayFollow h (replica_of i w.state).hard_state

    observed_is : (observed w ws).state ≡ state_after w.state ws
    unfolding laid
    observed_is = ap (λ (x : Recovery). (observed x ws).state) (is_laid w e) ∙ ap (λ (x : Recovery). x.state) (observed_laid w.state ws)

    answers_are : answers w ws ≡ state_answers w.state ws
    answers_are = ap (λ (x : Recovery). answers x ws) (is_laid w e) ∙ answers_laid w.state ws

    -- Its commit is not below the view's, there is room for the replica, and for as many records as a batch has.
    commits_enough : (was : Log ℕ) → Alike was (replica_of i w.state) → commits_less b was ≡ false
    commits_enough was a =
        ap (λ (n : ℕ). if_some (λ (h : HardState). h.commit <? n) b.hard_state) (commit_alike was (replica_of i w.state) a) ∙ c.admitted.commit

    room : room_for i w.state ≡ true
    room = c.admitted.room

    counted : (n : ℕ) → n ≤ 34 → w.state.scanned_records + n ≤ u64_max
    counted n h = omega (arith, c.admitted.counts)

    back : (was : Log ℕ) → PreparedOn was → ReadsBack w i b end k ws
    unfolding batch_rows
    back was o =
        record {
          accepted = rw answers_are t.accepted;
          left =
              subst (λ (x : State). Left w.state x i b end k) (sym observed_is)
              (record { others = t.others; same_entries = λ n. rw t.own (all n).entries; hard_state = λ n h. rw t.own ((all n).hard h) });
        }
      where
        p : Prepared
        p = batch_records i b

        apart : Passed i b was end
        apart = take_apart i b was end o.comes

        x : End i b was end (replica_of i w.state) p ws
        x =
            pointed_end i b was end apart.whole.0 apart.whole.1.0 (replica_of i w.state) o.alike o.tied (commits_enough was o.alike) o.follows b.snapshot refl
            apart.begin apart.on_was apart.goes ws
            (subst (Begins ws) apart.records (begins ws k end.records c.first_k))

        count : length ws ≡ min k (length p)
        count = read_count ws k end.records c.first_k ∙ ap (λ (q : Prepared). min k (length q)) apart.records

        t : Took w.state i ws
        t =
            took w.state i ws (state_steady w.state (state_sound w e)) (counted (length ws) (omega (arith, count, few_records i b was apart.whole)))
            c.admitted.rising m room x.taken

        all : length end.records ≤ k → Whole i b was end end (fold_log (replica_of i w.state) ws)
        all n = x.whole (omega (arith, n, count, ap length apart.records))

-- Finishing changes the hard state alone, and what may follow it may follow the one before.
unnormalized : (h : HardState) (m n : ℕ) (o : Option HardState) → MayFollow h (Some (normalized_to m n o)) → MayFollow h o
unfolding hard_state_successor_rows normalized_to
unnormalized h m n None c = (refl, (refl, (refl, (refl, tt))))
unnormalized h m n (Some o) c = go (o.current_term <? m) refl c
  where
    go : (b : Bool) → (o.current_term <? m) ≡ b
        → MayFollow h (Some (if b then record { current_term = m; voted_for = None; commit = o.commit } else o))
        → MayFollow h (Some o)
    go false e c = c
    go true e c =
        let up : o.current_term < h.current_term = omega (arith, ltb-true o.current_term m e, ltb-false h.current_term m c.0) in
        let ne : (h.current_term =? o.current_term) ≡ false = ne_eqb h.current_term o.current_term (λ q. omega (arith, up, q)) in
        (le-ltb h.current_term o.current_term (omega (arith, up)), (c.1.0, (rw ne, (rw ne, tt))))

finished_follows : (h : HardState) (log : Log ℕ) → MayFollow h (normalize_hard_state_term log).hard_state
    → MayFollow h log.hard_state
unfolding normalize_hard_state_term with_hard normalized_hard_state
finished_follows h log c = go (maximum_observed_term log =? 0) c
  where
    go : (b : Bool)
        → MayFollow h (if b then log.hard_state else Some (normalized_to (maximum_observed_term log) log.committed_index log.hard_state))
        → MayFollow h log.hard_state
    go true c = c
    go false c = unnormalized h (maximum_observed_term log) log.committed_index log.hard_state c

finished_alike : (log : Log ℕ) → Alike (normalize_hard_state_term log) log
unfolding normalize_hard_state_term with_hard stripped
finished_alike log = refl

finished_tied : (log : Log ℕ) → log.progress.truncated_through_index ≡ log.snapshot_index
    → (normalize_hard_state_term log).progress.truncated_through_index ≡ (normalize_hard_state_term log).snapshot_index
unfolding normalize_hard_state_term with_hard
finished_tied log e = e

empty_finished : normalize_hard_state_term (empty {T = ℕ}) ≡ empty
unfolding normalize_hard_state_term normalized_hard_state maximum_observed_term largest_term with_hard empty
empty_finished = refl

finished_replica : (i : Identity) (s : State) → replica_of i (normalized_state s) ≡ normalize_hard_state_term (replica_of i s)
unfolding replica_of normalized_state normalized
finished_replica i s =
    ap (λ (o : Option (Log ℕ)). unwrap_or o empty) (lookup_map (λ j log. normalize_hard_state_term log) i s.replicas) ∙ go (lookup i s.replicas)
  where
    go : (o : Option (Log ℕ)) → unwrap_or (option_map normalize_hard_state_term o) empty ≡ normalize_hard_state_term (unwrap_or o empty)
    go None = sym empty_finished
    go (Some log) = refl

pub read_back : ReadBack
unfolding laid
read_back w e i b end k ws m c = go c.accepted
  where
    log : Log ℕ
    log = replica_of i w.state

    tied : log.progress.truncated_through_index ≡ log.snapshot_index
    tied = truncated_is log (replica_sound w.state (state_sound w e) i)

    next : Recovery
    next = (finish w).next

    next_is : next ≡ laid (normalized_state w.state)
    next_is = ap (λ (o : Out Recovery). o.next) (finish_whole w e)

    finished_log : replica_of i next.state ≡ normalize_hard_state_term log
    finished_log = ap (λ (x : Recovery). replica_of i x.state) next_is ∙ finished_replica i w.state

    go : (prepare w i b ≡ Ok end) ⊎ (prepare next i b ≡ Ok end) → ReadsBack w i b end k ws
    go (inl p) = back w e i b end k ws m c log (record { comes = sym (prepare_sound w i b e) ∙ p; alike = refl; tied = tied; follows = λ h x. x })
    go (inr p) =
        back w e i b end k ws m c (normalize_hard_state_term log)
        (record {
          comes = ap (prepare_on i b) (sym finished_log) ∙ sym (prepare_sound next i b (finish_sound w e)) ∙ p;
          alike = finished_alike log;
          tied = finished_tied log tied;
          follows = λ h x. finished_follows h log x;
        })

pub read_back_from_empty : ReadBackFromEmpty
read_back_from_empty rs fit i b end k ws m c =
    let few : (state_after fresh_state rs).scanned_records < u64_max =
    omega (arith, c.admitted.counts, ap (λ (s : State). s.scanned_records) (observed_state rs)) in
    read_back (observed fresh rs)
    (ap sound (observed_fresh rs) ∙ laid_sound (state_after fresh_state rs) (sound_while_counted fresh_state rs fresh_sound fit few)) i b end k ws m c
