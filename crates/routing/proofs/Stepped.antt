-- The model of one observed record is the definition's: its answer, and what state and store mean then.
-- Assumes nothing.
use Rattle.std.specs.Prelude.{Option, None, Some, Result, Ok, Err}
use mathlib.Core.Path.{◌≡◌, refl, sym, ap, subst, ◌∙◌}
use mathlib.Core.Bool.{Bool, true, false, true≢false, ◌&&◌, cond}
use mathlib.Core.Logic.{⊎_elim, inl, inr}
use mathlib.Core.List.{List, [], ◌∷◌}
use Prim.Native.Nat.{ℕ, ◌+◌, ◌-◌, ◌*◌, ◌<◌, ◌≤◌}
use native.Mathlib.Omega.{arith}
use borrow.Author.Tests.{ltb-true, ltb-false, leb-true, leb-false, le-leb, lt-leb}
use lib.Dec.{ltb, leb}
use lib.ListN.{length, get_or, set, length-set}
use Rattle.definition.specs.Table.{◌≤?◌, ◌when◌, first_of, u64_max}
use Rattle.definition.specs.Records.{Identity, same, Kind, form_rows, Content, content_of, content, Record}
use Rattle.definition.specs.Log as D
use Rattle.definition.specs.Recovery.{held, Out, out, sound_state, Recovery, sound_store, sound, observe}
use Rattle.definition.specs.Two.{fits_kind, fits_content, fits}
use Rattle.definition.proofs.Sound.{over_test}
use Rattle.definition.proofs.Store.{observe_unsound}
use Rattle.ids.specs.declared.Lsn.{Lsn}
use Rattle.ids.specs.declared.RaftReplicaIdentity.{RaftReplicaIdentity}
use Rattle.ids.specs.Identity.{identity_of}
use Rattle.store.specs.Splice.{part, splice}
use Rattle.store.proofs.Part.{get_d_part, set_block, splice_self, set_self}
use Rattle.codec.specs.declared.RaftLogEntryRecord.{RaftLogEntryRecord}
use Rattle.codec.specs.declared.RaftWalRecord.{RaftWalRecord}
use Rattle.codec.specs.declared.RaftWalRecord.TheVariants as W
use Rattle.codec.specs.declared.WalRecord.{WalRecord}
use Rattle.codec.specs.Records.{kind_of, owner_of, body_of, record_of}
use Rattle.view.specs.declared.Header.{Header}
use Rattle.view.specs.declared.RecoveredRaftLogEntry.{RecoveredRaftLogEntry}
use Rattle.view.specs.Meaning.{no_entry, id_of}
use Rattle.view.specs.Model.{empty_header, with_hard_state, with_pointer, covered_by, dropped_entries, dropped_bytes}
use Rattle.view.specs.Decisions.{entry_answer, hard_state_rows_of, pointer_rows_of}
use Rattle.view.specs.Readers.{place_of}
use Rattle.view.proofs.Accepted.{refusing}
use Rattle.replay.specs.Plan.{identity_in, index_of, look_of, existing_in, prior_in, held_term_in, Plan, entry_plan, unless_row, plan_of, entries_after}
use Rattle.replay.specs.Settled.{Looks, Settled}
use Rattle.replay.specs.Settled as R
use Rattle.replay.proofs.Settled.{settle_means}
use Rattle.replay.proofs.Written.{look_below}
use Rattle.storage.specs.declared.Scan.{Scan}
use Rattle.storage.specs.declared.RecoveredRaftStorage.{RecoveredRaftStorage}
use Rattle.storage.specs.Model.{no_header, head_at, entries_in, bytes_in, scan_next, scanned_only, with_head, changed, opened, opened_store}
use Rattle.storage.specs.Meaning.{log_at, meaning, recovery_of, Linked, Observes}
use Rattle.storage.specs.Place.{owners_of, stands_at}
use Rattle.storage.proofs.At.{block_front, entries_length, bytes_length, step_at}
use Rattle.storage.proofs.Open.{open_linked}
use Rattle.storage.proofs.Place.{owner_at, stands, stands_one, opened_stands, opened_same}
use Rattle.storage.specs.Finding.{found_at}
use Rattle.routing.specs.Settle.{Settles}
use Rattle.routing.specs.Observe.{Stepped, scan_rows, only_scanned, moved_entries, plan_at, settled_at, found_step, form_step, body_step, scan_step, stepped}
use Rattle.storage.proofs.Finding.{is_held, Told, found_told}
use Rattle.routing.proofs.Routed.{foreign_observes, form_observes}
use Rattle.routing.proofs.Route.{held_observes, full_is, new_observes}
use Rattle.routing.proofs.Ready.{Ready, ready_sound, observes_ready, opened_ready}
use Rattle.routing.proofs.Observe.{stale, stale_observed, observed_is}

-- What a plan that drops entries leaves of them.
abbrev pub Drops : Header → Plan → Type 0
Drops h d = 0 < d.dropped → (d.dropped ≤ h.len) × (d.head.len ≡ h.len - d.dropped)

-- An entry drops none.
never_drops : (a : D.Answer) (h : Header) (e : RecoveredRaftLogEntry) (r : RaftLogEntryRecord) (l : Lsn) (cs lent : List ℕ) → (entry_plan a h e r l cs lent).dropped ≡ 0
never_drops D.counted h e r l cs lent = refl
never_drops D.appended h e r l cs lent = refl
never_drops D.idempotentReplay h e r l cs lent = refl
never_drops D.hard_state_kept h e r l cs lent = refl
never_drops (D.pointer_kept n) h e r l cs lent = refl
never_drops D.finished h e r l cs lent = refl
never_drops (D.replaced_suffix m) h e r l cs lent = refl
never_drops (D.refused n) h e r l cs lent = refl

unless_drops : (o : Option ℕ) (h : Header) (e : RecoveredRaftLogEntry) (cs : List ℕ) (d : Plan) → Drops h d → Drops h (unless_row o h e cs d)
unless_drops (Some n) h e cs d f x = absurd (omega arith)
unless_drops None h e cs d f x = f x

pub plan_drops : (h : Header) (e b : RecoveredRaftLogEntry) (k : RaftWalRecord) (l : Lsn) (cs lent : List ℕ) → Drops h (plan_of h e b k l cs lent)
plan_drops h e b (W.Entry r) l cs lent =
    let a : D.Answer = entry_answer h (existing_in (place_of h r.index) e cs r lent) (prior_in (place_of h (r.index - 1)) h.snapshot_term b.term) r.index r.term in
    λ x. absurd (omega (arith, never_drops a h e r l cs lent))
plan_drops h e b (W.HardState r) l cs lent =
    let d : Plan = record { answer = D.hard_state_kept; head = with_hard_state h r.hard_state l; entry = e; dropped = 0; bytes = cs } in
    unless_drops (first_of (hard_state_rows_of h r.hard_state)) h e cs d (λ x. absurd (omega arith))
plan_drops h e b (W.SnapshotPointer p) l cs lent =
    let n : ℕ = covered_by h p.last_included_index in
    let d : Plan = record { answer = D.pointer_kept n; head = with_pointer h p l n; entry = e; dropped = n; bytes = dropped_bytes cs n } in
    unless_drops (first_of (pointer_rows_of (identity_of p.identity) h p (held_term_in (place_of h p.last_included_index) e.term))) h e cs d (λ x. (omega arith, refl))

-- A refused record drops nothing.
row_drops : (o : Option ℕ) (h : Header) (e : RecoveredRaftLogEntry) (cs : List ℕ) (d : Plan) → refusing d.answer ≡ false → (n : ℕ) → (unless_row o h e cs d).answer ≡ D.refused n
    → (unless_row o h e cs d).dropped ≡ 0
row_drops (Some m) h e cs d f n w = refl
row_drops None h e cs d f n w = absurd (true≢false (sym (ap refusing w) ∙ f))

pub plan_refused : (h : Header) (e b : RecoveredRaftLogEntry) (k : RaftWalRecord) (l : Lsn) (cs lent : List ℕ) (n : ℕ) → (plan_of h e b k l cs lent).answer ≡ D.refused n
    → (plan_of h e b k l cs lent).dropped ≡ 0
plan_refused h e b (W.Entry r) l cs lent n w =
    never_drops
    (entry_answer h (existing_in (place_of h r.index) e cs r lent) (prior_in (place_of h (r.index - 1)) h.snapshot_term b.term) r.index r.term)
    h e r l cs lent
plan_refused h e b (W.HardState r) l cs lent n w =
    let d : Plan = record { answer = D.hard_state_kept; head = with_hard_state h r.hard_state l; entry = e; dropped = 0; bytes = cs } in
    row_drops (first_of (hard_state_rows_of h r.hard_state)) h e cs d refl n w
plan_refused h e b (W.SnapshotPointer p) l cs lent n w =
    let m : ℕ = covered_by h p.last_included_index in
    let d : Plan = record { answer = D.pointer_kept m; head = with_pointer h p l m; entry = e; dropped = m; bytes = dropped_bytes cs m } in
    row_drops (first_of (pointer_rows_of (identity_of p.identity) h p (held_term_in (place_of h p.last_included_index) e.term))) h e cs d refl n w

-- A plan keeps its replica's identity.
entry_keeps : (a : D.Answer) (h : Header) (e : RecoveredRaftLogEntry) (r : RaftLogEntryRecord) (l : Lsn) (cs lent : List ℕ) → (entry_plan a h e r l cs lent).head.identity ≡ h.identity
entry_keeps D.counted h e r l cs lent = refl
entry_keeps D.appended h e r l cs lent = refl
entry_keeps D.idempotentReplay h e r l cs lent = refl
entry_keeps D.hard_state_kept h e r l cs lent = refl
entry_keeps (D.pointer_kept n) h e r l cs lent = refl
entry_keeps D.finished h e r l cs lent = refl
entry_keeps (D.replaced_suffix m) h e r l cs lent = refl
entry_keeps (D.refused n) h e r l cs lent = refl

unless_keeps : (o : Option ℕ) (h : Header) (e : RecoveredRaftLogEntry) (cs : List ℕ) (d : Plan) → d.head.identity ≡ h.identity → (unless_row o h e cs d).head.identity ≡ h.identity
unless_keeps (Some n) h e cs d f = refl
unless_keeps None h e cs d f = f

pub plan_keeps : (h : Header) (e b : RecoveredRaftLogEntry) (k : RaftWalRecord) (l : Lsn) (cs lent : List ℕ) → (plan_of h e b k l cs lent).head.identity ≡ h.identity
plan_keeps h e b (W.Entry r) l cs lent =
    entry_keeps
    (entry_answer h (existing_in (place_of h r.index) e cs r lent) (prior_in (place_of h (r.index - 1)) h.snapshot_term b.term) r.index r.term)
    h e r l cs lent
plan_keeps h e b (W.HardState r) l cs lent =
    let d : Plan = record { answer = D.hard_state_kept; head = with_hard_state h r.hard_state l; entry = e; dropped = 0; bytes = cs } in
    unless_keeps (first_of (hard_state_rows_of h r.hard_state)) h e cs d refl
plan_keeps h e b (W.SnapshotPointer p) l cs lent =
    let n : ℕ = covered_by h p.last_included_index in
    let d : Plan = record { answer = D.pointer_kept n; head = with_pointer h p l n; entry = e; dropped = n; bytes = dropped_bytes cs n } in
    unless_keeps (first_of (pointer_rows_of (identity_of p.identity) h p (held_term_in (place_of h p.last_included_index) e.term))) h e cs d refl

-- From one block to the state.
module _ (s : RecoveredRaftStorage) (st : List ℕ) (p : ℕ) (k : Linked s st) (lt : p < s.held) where
  abbrev h : Header
  h = head_at s p

  abbrev es : List RecoveredRaftLogEntry
  es = entries_in s p

  abbrev cs : List ℕ
  cs = bytes_in st p

  module _ (q : ℕ) (ql : q < 64) (d : Plan) (x : Drops h d) where
    abbrev new : List RecoveredRaftLogEntry
    new = set es q d.entry

    new_length : length new ≡ 64
    new_length = length-set es q d.entry ∙ entries_length s st p k lt

    short : h.len ≤ 64
    short = (k.own p lt).short

    set_is : set s.entries (64 * p + q) d.entry ≡ splice s.entries (64 * p) new
    set_is = set_block s.entries (64 * p) 64 q d.entry ql (omega (arith, k))

    moved_is : moved_entries (set s.entries (64 * p + q) d.entry) (64 * p) d.dropped d.head.len ≡ splice s.entries (64 * p) (entries_after h es q d)
    moved_is = go (ltb 0 d.dropped) refl
      where
        all : List RecoveredRaftLogEntry
        all = set s.entries (64 * p + q) d.entry

        go : (b : Bool) → ltb 0 d.dropped ≡ b → cond b (splice all (64 * p) (part (64 * p + d.dropped) d.head.len all)) all ≡ splice s.entries (64 * p) (entries_after h es q d)
        go false e =
            let z : d.dropped ≡ 0 = omega (arith, ltb-false 0 d.dropped e) in
            set_is
            ∙ ap (λ (l : List RecoveredRaftLogEntry). splice s.entries (64 * p) l)
            (sym (ap (λ (n : ℕ). dropped_entries new n h.len) z ∙ splice_self new 0 (h.len - 0) (omega (arith, new_length, short))))
        go true e =
            let y = x (ltb-true 0 d.dropped e) in
            ap (λ (l : List RecoveredRaftLogEntry). splice l (64 * p) (part (64 * p + d.dropped) d.head.len l)) set_is
            ∙ block_front s.entries (64 * p) 64 d.dropped d.head.len new new_length (omega (arith, k)) (omega (arith, short, y.0, y.1))
            ∙ ap (λ (n : ℕ). splice s.entries (64 * p) (splice new 0 (part d.dropped n new))) y.1

  module _ (w : RaftWalRecord) (l : Lsn) (lent : List ℕ) where
    abbrev q : ℕ
    q = look_of h (index_of w)

    abbrev d : Plan
    d = plan_at s st p w l lent

    abbrev after : List RecoveredRaftLogEntry
    after = entries_after h es q d

    abbrev n : Scan
    n = scan_next s.scan l

    abbrev there : Stepped
    there = settled_at s st p w l lent

    state_is : there.state ≡ changed s p d.head after n
    unfolding settled_at
    state_is =
        ap (λ (m : List RecoveredRaftLogEntry). with_head s p d.head m n)
        (moved_is q (look_below h (index_of w)) d
        (plan_drops h (get_or s.entries (64 * p + q) no_entry) (get_or s.entries (64 * p + look_of h (index_of w - 1)) no_entry) w l cs lent))

    pub settles_at : (i : Identity) (b : Kind) → Settled h es cs i b l.0 d after → Settles s st p i b l there.answer there.state there.store
    unfolding settled_at
    settles_at i b = ⊎_elim refused accepted
      where
        refused : R.Refuses h es cs i b d after → Settles s st p i b l there.answer there.state there.store
        refused x =
            let heads : set s.heads p d.head ≡ s.heads = ap (λ (y : Header). set s.heads p y) x.head ∙ set_self s.heads p no_header in
            let entries : splice s.entries (64 * p) after ≡ s.entries =
            ap (λ (y : List RecoveredRaftLogEntry). splice s.entries (64 * p) y) x.entries ∙ splice_self s.entries (64 * p) 64 (omega (arith, k)) in
            let still : changed s p d.head after n ≡ scanned_only s n = λ t. record { heads = heads t; entries = entries t; held = s.held; scan = n } in
            inl (record {
              number = x.number;
              row = x.row;
              answer = x.answer;
              state = state_is ∙ still;
              store = ap (λ (y : List ℕ). splice st (4096 * p) y) x.store ∙ splice_self st (4096 * p) 4096 (omega (arith, k));
            })

        accepted : R.Accepts h es cs i b l.0 d after → Settles s st p i b l there.answer there.state there.store
        accepted x =
            let m = x.means in
            inr (record {
              row = x.row;
              answer = x.answer;
              step =
                  rw (state_is)
                  (step_at s st p k lt d.head after d.bytes n m.places m.bytes (held (id_of h) (D.accept b l.0 (log_at s st p))) m.fits
                  (λ t. held (x.same t) (m.view t)));
              scan = ap (λ (t : RecoveredRaftStorage). t.scan) state_is;
            })

    -- What it looks at.
    looks : Looks h es cs (index_of w) (get_or s.entries (64 * p + q) no_entry) (get_or s.entries (64 * p + look_of h (index_of w - 1)) no_entry)
    looks =
        record {
          fits = k.own p lt;
          places = entries_length s st p k lt;
          bytes = bytes_length s st p k lt;
          own = sym (get_d_part (64 * p) 64 s.entries q no_entry (look_below h (index_of w)));
          before = sym (get_d_part (64 * p) 64 s.entries (look_of h (index_of w - 1)) no_entry (look_below h (index_of w - 1)));
        }

-- Whose record it is.
pub owner_is : (k : RaftWalRecord) → identity_of (identity_in k) ≡ owner_of k
owner_is (W.Entry r) = refl
owner_is (W.HardState r) = refl
owner_is (W.SnapshotPointer p) = refl

-- What the model is in each case.
module _ (s : RecoveredRaftStorage) (st : List ℕ) (r : WalRecord) (lent : List ℕ) where
  -- 1 and 2
  pub stepped_stale : (n : ℕ) → first_of (scan_rows s.scan r.lsn) ≡ Some n → stepped s st r lent ≡ record { answer = D.refused n; state = s; store = st }
  unfolding stepped
  stepped_stale n e = ap (λ (o : Option ℕ). scan_step o s st r lent) e

  module _ (e : first_of (scan_rows s.scan r.lsn) ≡ None) where
    stepped_body : stepped s st r lent ≡ body_step r.body s st r.lsn lent
    unfolding stepped
    stepped_body = ap (λ (o : Option ℕ). scan_step o s st r lent) e

    pub stepped_foreign : r.body ≡ None → stepped s st r lent ≡ only_scanned D.counted s st r.lsn
    stepped_foreign f = stepped_body ∙ ap (λ (y : Option RaftWalRecord). body_step y s st r.lsn lent) f

    module _ (k : RaftWalRecord) (f : r.body ≡ Some k) where
      stepped_raft : stepped s st r lent ≡ form_step (first_of (form_rows (owner_of k) (kind_of k lent))) s st k r.lsn lent
      stepped_raft = stepped_body ∙ ap (λ (y : Option RaftWalRecord). body_step y s st r.lsn lent) f

      -- 3 to 22
      pub stepped_malformed : (n : ℕ) → first_of (form_rows (owner_of k) (kind_of k lent)) ≡ Some n → stepped s st r lent ≡ only_scanned (D.refused n) s st r.lsn
      stepped_malformed n g = stepped_raft ∙ ap (λ (o : Option ℕ). form_step o s st k r.lsn lent) g

      module _ (g : first_of (form_rows (owner_of k) (kind_of k lent)) ≡ None) (p : ℕ) where
        stepped_found : (x : Result ℕ ℕ) → found_at s (owner_of k) ≡ x → stepped s st r lent ≡ found_step x s st k r.lsn lent
        stepped_found x y =
            stepped_raft ∙ ap (λ (o : Option ℕ). form_step o s st k r.lsn lent) g ∙ ap (λ (z : Result ℕ ℕ). found_step z s st k r.lsn lent) y

        pub stepped_held : found_at s (owner_of k) ≡ Ok p → stepped s st r lent ≡ settled_at s st p k r.lsn lent
        stepped_held y = stepped_found (Ok p) y

        -- Not held: 23, or its place is opened first.
        stepped_missing : found_at s (owner_of k) ≡ Err p → (b : Bool) → leb 8 s.held ≡ b
            → stepped s st r lent
            ≡ cond b (only_scanned (D.refused 23) s st r.lsn) (settled_at (opened s p (empty_header (identity_in k))) (opened_store st p s.held) p k r.lsn lent)
        stepped_missing y b z =
            stepped_found (Err p) y
            ∙ ap (λ (b : Bool).
            cond b (only_scanned (D.refused 23) s st r.lsn) (settled_at (opened s p (empty_header (identity_in k))) (opened_store st p s.held) p k r.lsn lent)) z

        pub stepped_full : found_at s (owner_of k) ≡ Err p → 8 ≤ s.held → stepped s st r lent ≡ only_scanned (D.refused 23) s st r.lsn
        stepped_full y z = stepped_missing y true (le-leb 8 s.held z)

        pub stepped_new : found_at s (owner_of k) ≡ Err p → s.held < 8
            → stepped s st r lent ≡ settled_at (opened s p (empty_header (identity_in k))) (opened_store st p s.held) p k r.lsn lent
        stepped_new y z = stepped_missing y false (lt-leb 8 s.held z)

-- Where its place was opened, the record finds its replica there, and does what it did before.
module _ (s : RecoveredRaftStorage) (st : List ℕ) (r : WalRecord) (lent : List ℕ) (ready : Ready s st) (e : first_of (scan_rows s.scan r.lsn) ≡ None) (k : RaftWalRecord)
    (f : r.body ≡ Some k) (g : first_of (form_rows (owner_of k) (kind_of k lent)) ≡ None) (p : ℕ) (y : found_at s (owner_of k) ≡ Err p) (lt : s.held < 8) where
  abbrev i : Identity
  i = identity_of (identity_in k)

  abbrev s⁺ : RecoveredRaftStorage
  s⁺ = opened s p (empty_header (identity_in k))

  abbrev st⁺ : List ℕ
  st⁺ = opened_store st p s.held

  told : Told s i (Err p)
  told = subst (λ (j : Identity). Told s j (Err p)) (sym (owner_is k)) (subst (λ (x : Result ℕ ℕ). Told s (owner_of k) x) y (found_told s (owner_of k)))

  form : first_of (form_rows i (kind_of k lent)) ≡ None
  form = subst (λ (j : Identity). first_of (form_rows j (kind_of k lent)) ≡ None) (sym (owner_is k)) g

  pub opened_found : found_at s⁺ (owner_of k) ≡ Ok p
  opened_found =
      let os : List RaftReplicaIdentity = owners_of s⁺.heads in
      let one : p ≡ stands_at i s⁺.held os =
      stands_one s⁺ i p (stands_at i s⁺.held os) (opened_stands s st (identity_in k) p told.0 told.1 ready.linked lt) (stands i s⁺) in
      let own : Ok p ≡ found_at s⁺ i =
      is_held os s⁺.held i p one (omega (arith, told.0.within))
      (ap (λ (o : RaftReplicaIdentity). same i (identity_of o)) (owner_at s⁺.heads p) ∙ opened_same s st (identity_in k) p told.0 told.1 ready.linked lt) in
      subst (λ (j : Identity). found_at s⁺ j ≡ Ok p) (owner_is k) (sym own)

  pub opened_again : Ready s⁺ st⁺ × (stepped s⁺ st⁺ r lent ≡ stepped s st r lent)
  opened_again =
      (opened_ready s st ready p (identity_in k) (kind_of k lent) form told lt, stepped_held s⁺ st⁺ r lent e k f g p opened_found ∙ sym (stepped_new s st r lent e k f g p y lt))

-- At the place of its replica.
module _ (s : RecoveredRaftStorage) (st : List ℕ) (p : ℕ) (k : RaftWalRecord) (l : Lsn) (lent : List ℕ) where
  abbrev settling : Stepped
  settling = settled_at s st p k l lent

  pub settled_settles : Linked s st → p < s.held → first_of (form_rows (owner_of k) (kind_of k lent)) ≡ None → fits_kind (kind_of k lent) ≡ true
      → Settles s st p (owner_of k) (kind_of k lent) l settling.answer settling.state settling.store
  settled_settles w lt form m =
      settles_at s st p w lt k l lent (owner_of k) (kind_of k lent)
      (settle_means (head_at s p) (entries_in s p) (bytes_in st p) k lent l
      (get_or s.entries (64 * p + look_of (head_at s p) (index_of k)) no_entry) (get_or s.entries (64 * p + look_of (head_at s p) (index_of k - 1)) no_entry)
      (looks s st p w lt k l lent) form m)

module _ (s : RecoveredRaftStorage) (st : List ℕ) (ready : Ready s st) (l : Lsn) (lent : List ℕ) where
  abbrev Observing : Content → Stepped → Type 0
  Observing c x = Observes s st l.0 c x.answer x.state x.store

  module _ (k : RaftWalRecord) where
    abbrev kind : Kind
    kind = kind_of k lent

    abbrev owner : Identity
    owner = identity_of (identity_in k)

    abbrev Settling : Identity → Type 0
    Settling j =
        (t : RecoveredRaftStorage) (u : List ℕ) (p : ℕ) → Linked t u → p < t.held
        → Settles t u p j kind l (settled_at t u p k l lent).answer (settled_at t u p k l lent).state (settled_at t u p k l lent).store

    found_observes : first_of (form_rows owner kind) ≡ None → Settling owner → (x : Result ℕ ℕ) → Told s owner x → Observing (Some (owner, kind)) (found_step x s st k l lent)
    found_observes form here (Ok p) t =
        let a : Stepped = settled_at s st p k l lent in
        held_observes s st l ready.linked (identity_in k) kind form p t a.answer a.state a.store (here s st p ready.linked t.1)
    found_observes form here (Err p) t = go (leb 8 s.held) refl
      where
        s' : RecoveredRaftStorage
        s' = opened s p (empty_header (identity_in k))

        st' : List ℕ
        st' = opened_store st p s.held

        a : Stepped
        a = settled_at s' st' p k l lent

        go : (b : Bool) → leb 8 s.held ≡ b → Observing (Some (owner, kind)) (cond b (only_scanned (D.refused 23) s st l) a)
        go true e = full_is s st l ready.linked (identity_in k) kind form p t ready.ascends (leb-true 8 s.held e)
        go false e =
            let lt : s.held < 8 = leb-false 8 s.held e in
            new_observes s st l ready.linked (identity_in k) kind form p t ready.ascends lt a.answer a.state a.store
            (here s' st' p (open_linked s st p (identity_in k) ready.linked t.0.within lt) (omega (arith, t.0.within)))

    form_observed : fits_kind kind ≡ true → (o : Option ℕ) → first_of (form_rows (owner_of k) kind) ≡ o → Observing (Some (owner_of k, kind)) (form_step o s st k l lent)
    form_observed m (Some n) e = form_observes s st l ready.linked (owner_of k) kind n e
    form_observed m None e =
        subst (λ (j : Identity). first_of (form_rows j kind) ≡ None → Settling j → (x : Result ℕ ℕ) → Told s j x → Observing (Some (j, kind)) (found_step x s st k l lent)) (owner_is k)
        found_observes e (λ t u p w lt. settled_settles t u p k l lent w lt e m) (found_at s (owner_of k)) (found_told s (owner_of k))

  body_observed : (y : Option RaftWalRecord) → fits_content (content_of (body_of y lent)) ≡ true → Observing (content_of (body_of y lent)) (body_step y s st l lent)
  body_observed None m = foreign_observes s st l ready.linked
  body_observed (Some k) m = form_observed k m (first_of (form_rows (owner_of k) (kind_of k lent))) refl

-- One record.
module _ (s : RecoveredRaftStorage) (st : List ℕ) (r : WalRecord) (lent : List ℕ) (ready : Ready s st) (m : fits (record_of r lent) ≡ true) where
  abbrev x : Stepped
  x = stepped s st r lent

  abbrev w : Record
  w = record_of r lent

  pub stepped_observes : first_of (scan_rows s.scan r.lsn) ≡ None → Observes s st r.lsn.0 (content w) x.answer x.state x.store
  stepped_observes e =
      subst (λ (a : Stepped). Observes s st r.lsn.0 (content w) a.answer a.state a.store) (sym (stepped_body s st r lent e))
      (body_observed s st ready r.lsn lent r.body m)

  abbrev over : Bool
  over = u64_max ≤? s.scan.scanned_records

  scan_rows_lem : (a b : Bool) → over ≡ a → stale s r.lsn.0 ≡ b → first_of (scan_rows s.scan r.lsn) ≡ first_of ((1 when a) ∷ (2 when b) ∷ [])
  scan_rows_lem a b e f = λ t. first_of ((1 when e t) ∷ (2 when f t) ∷ [])

  abbrev told_by : Stepped → Out Recovery
  told_by a = out a.answer (recovery_of a.state a.store)

  over_sound : over ≡ true → sound (recovery_of s st) ≡ false
  unfolding sound meaning
  over_sound e = ap (λ (b : Bool). b && sound_store (recovery_of s st)) (over_test (meaning s st) (leb-true u64_max s.scan.scanned_records e))

  room : over ≡ false → sound_state (meaning s st) ≡ true
  room e = ready_sound s st ready (leb-false u64_max s.scan.scanned_records e)

  pub stepped_is : observe (recovery_of s st) w ≡ out x.answer (recovery_of x.state x.store)
  stepped_is = go over refl (stale s r.lsn.0) refl
    where
      go : (a : Bool) → over ≡ a → (b : Bool) → stale s r.lsn.0 ≡ b → observe (recovery_of s st) w ≡ out x.answer (recovery_of x.state x.store)
      go true e b f = observe_unsound (recovery_of s st) w (over_sound e) ∙ ap told_by (sym (stepped_stale s st r lent 1 (scan_rows_lem true b e f)))
      go false e true f = stale_observed s st ready.linked (room e) w f ∙ ap told_by (sym (stepped_stale s st r lent 2 (scan_rows_lem false true e f)))
      go false e false f = observed_is s st ready.linked (room e) w f x.answer x.state x.store (stepped_observes (scan_rows_lem false false e f))

  pub stepped_ready : Ready x.state x.store
  stepped_ready = go over refl (stale s r.lsn.0) refl
    where
      still : (n : ℕ) → first_of (scan_rows s.scan r.lsn) ≡ Some n → Ready x.state x.store
      still n e = subst (λ (a : Stepped). Ready a.state a.store) (sym (stepped_stale s st r lent n e)) ready

      go : (a : Bool) → over ≡ a → (b : Bool) → stale s r.lsn.0 ≡ b → Ready x.state x.store
      go true e b f = still 1 (scan_rows_lem true b e f)
      go false e true f = still 2 (scan_rows_lem false true e f)
      go false e false f = observes_ready s st ready r.lsn.0 (content w) x.answer x.state x.store f m (stepped_observes (scan_rows_lem false false e f))
