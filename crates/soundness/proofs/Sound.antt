-- The test of soundness holds exactly where counts and lengths keep their limits and what state and store mean is sound.
-- Assumes nothing.
use Rattle.std.specs.Prelude.{Option}
use mathlib.Core.Path.{◌≡◌, refl, sym, ap, ◌∙◌}
use mathlib.Core.Bool.{Bool, true, false, ◌&&◌, not}
use mathlib.Core.List.{List, ◌++◌, map}
use Prim.Native.Nat.{ℕ, zero, suc, ◌*◌, ◌<◌, ◌≤◌}
use native.Mathlib.Omega.{arith}
use borrow.Author.Tests.{leb-true, ltb-true, eqb-true, eqb-false, eq-eqb, le-leb, le-ltb, lt-ltb}
use lib.Dec.{eqb}
use lib.ListN.{length, get_or, take, drop, length-take}
use Rattle.definition.specs.Table.{every, all_of, present, u64_max}
use Rattle.definition.specs.Records.{before, unfit}
use Rattle.definition.specs.Log.{Entry, Log}
use Rattle.definition.specs.Recovery.{Held, log_clauses, kept_lsns, reached_by, lsns_reached, short_commands, held_clauses, sound_state, joined, block, layout, command_bytes, Recovery, sound_store, sound}
use Rattle.definition.proofs.Laws.{and_l, and_r, and_i, all_facts, all_test, every_append, every_map}
use Rattle.definition.proofs.Sound.{sound_held, state_facts, state_test}
use Rattle.definition.proofs.Store.{laid, sound_laid, laid_sound, state_sound}
use Rattle.store.specs.Splice.{part}
use Rattle.store.specs.Zeros.{zeros}
use Rattle.store.proofs.Part.{length_part}
use Rattle.view.specs.declared.EntryPayload.{EntryPayload}
use Rattle.view.specs.declared.EntryPayload.TheVariants as Y
use Rattle.view.specs.declared.Header.{Header}
use Rattle.view.specs.declared.RecoveredRaftLogEntry.{RecoveredRaftLogEntry}
use Rattle.view.specs.Tab.{tab}
use Rattle.view.specs.Meaning.{lsn_of, no_entry, cell_at, cell_of, payload_in, size_of, id_of, entry_at, view_of, held_of, Fits}
use Rattle.view.proofs.Tab.{length_tab}
use Rattle.view.proofs.Readers.{count_is}
use Rattle.storage.specs.declared.RecoveredRaftStorage.{RecoveredRaftStorage}
use Rattle.storage.specs.Model.{no_header, head_at, entries_in, bytes_in}
use Rattle.storage.specs.Meaning.{held_at, log_at, meaning, recovery_of, Linked}
use Rattle.clauses.specs.Clauses.{lsn_ok, head_clauses, head_ok}
use Rattle.soundness.specs.Sound.{replica_ok, replicas_ok, heads_rise, sound_clauses, sound_test, Sound}
use Rattle.storage.proofs.Walk.{get_d_next}
use Rattle.definition.proofs.Order.{before_trans}
use Rattle.storage.proofs.Rank.{every_at, every_tab, ascending_at, ascending_tab}
use Rattle.storage.proofs.Store.{length_pad, laid_own, laid_free, length_block, recovery_laid}
use Rattle.soundness.proofs.Test.{replicas_at, replicas_rest, replicas_test, zero_blocks, blocks_zero, head_indices, head_passes, replica_fits, reached_of, fits_replica}

-- A kept command of at most 64 bytes is fit.
fit : (x : EntryPayload) (c : List ℕ) → size_of x ≤ 64 → not (unfit (payload_in x c)) ≡ true
fit (Y.Normal n) c h =
    let l : length (take n c) ≤ 64 = simp length-take (omega arith) in
    ap not (le-ltb 64 (length (take n c)) l)
fit (Y.Configuration k v r) c h = refl

-- One replica: its header and its entries' LSNs, by the definition's clauses.
module _ (last : Option ℕ) (h : Header) (es : List RecoveredRaftLogEntry) (cs : List ℕ) where
  abbrev log : Log ℕ
  log = view_of h es cs

  abbrev entry_lsns : List ℕ
  entry_lsns = map (λ (e : Entry ℕ). e.lsn) (tab h.len (entry_at es cs))

  -- The kept LSNs: those of the entries, and the header's three.
  lsns_are : lsns_reached last log ≡ (every (reached_by last) entry_lsns && lsn_ok last h.snapshot_pointer_lsn && lsn_ok last h.hard_state_lsn && lsn_ok last h.last_replayed_lsn)
  unfolding kept_lsns view_of
  lsns_are =
      let a : List ℕ = present (lsn_of h.snapshot_pointer_lsn) in
      let b : List ℕ = present (lsn_of h.hard_state_lsn) in
      let c : List ℕ = present (lsn_of h.last_replayed_lsn) in
      let p : ℕ → Bool = reached_by last in
      every_append p (entry_lsns ++ a ++ b) c
      ∙ ap (λ (x : Bool). x && every p c) (every_append p (entry_lsns ++ a) b ∙ ap (λ (x : Bool). x && every p b) (every_append p entry_lsns a))

  entries_reached : every (reached_by last) entry_lsns ≡ every (λ (e : Entry ℕ). reached_by last e.lsn) (tab h.len (entry_at es cs))
  entries_reached = every_map (reached_by last) (λ (e : Entry ℕ). e.lsn) (tab h.len (entry_at es cs))

  short_commands_lem : Fits h es cs → short_commands log ≡ true
  unfolding view_of
  short_commands_lem f =
      every_tab (λ (e : Entry ℕ). not (unfit e.payload)) h.len (entry_at es cs) (λ q l. fit (get_or es q no_entry).payload (cell_at cs q) (f.sizes q l))

  -- The clauses of a log that a header tells, and those of a header that a log tells.
  log_clauses_lem : Fits h es cs → head_ok last h ≡ true → all_of (log_clauses log) ≡ true
  unfolding log_clauses view_of head_clauses
  log_clauses_lem f e =
      let c = all_facts (head_clauses last h) e in
      all_test (log_clauses log)
      (rw (count_is h es cs) c.1.0, (short_commands_lem f, (c.1.1.0, (c.1.1.1.0, (c.1.1.1.1.0, (rw (count_is h es cs) c.1.1.1.1.1.0, (c.1.1.1.1.1.1.0, tt)))))))

  pub head_sound : Fits h es cs → head_ok last h ≡ true → ((q : ℕ) → q < h.len → reached_by last (get_or es q no_entry).lsn.0 ≡ true) → sound_held last (held_of h es cs) ≡ true
  unfolding held_clauses head_clauses
  head_sound f e r =
      let c = all_facts (head_clauses last h) e in
      let own : every (reached_by last) entry_lsns ≡ true = entries_reached ∙ every_tab (λ (x : Entry ℕ). reached_by last x.lsn) h.len (entry_at es cs) r in
      let x : Bool = lsn_ok last h.snapshot_pointer_lsn in
      let y : Bool = lsn_ok last h.hard_state_lsn in
      let z : Bool = lsn_ok last h.last_replayed_lsn in
      let lsns : (every (reached_by last) entry_lsns && x && y && z) ≡ true =
      and_i (every (reached_by last) entry_lsns && x && y) z
      (and_i (every (reached_by last) entry_lsns && x) y (and_i (every (reached_by last) entry_lsns) x own c.1.1.1.1.1.1.1.0) c.1.1.1.1.1.1.1.1.0)
      c.1.1.1.1.1.1.1.1.1.0 in
      all_test (held_clauses last (held_of h es cs)) (c.0, (log_clauses_lem f e, (lsns_are ∙ lsns, tt)))

  module _ (e : sound_held last (held_of h es cs) ≡ true) where
    lsns : (every (reached_by last) entry_lsns && lsn_ok last h.snapshot_pointer_lsn && lsn_ok last h.hard_state_lsn && lsn_ok last h.last_replayed_lsn) ≡ true
    unfolding held_clauses
    lsns = sym lsns_are ∙ (all_facts (held_clauses last (held_of h es cs)) e).1.1.0

    abbrev x : Bool
    x = lsn_ok last h.snapshot_pointer_lsn

    abbrev y : Bool
    y = lsn_ok last h.hard_state_lsn

    abbrev z : Bool
    z = lsn_ok last h.last_replayed_lsn

    abbrev w : Bool
    w = every (reached_by last) entry_lsns

    pub sound_head : head_ok last h ≡ true
    unfolding held_clauses log_clauses view_of head_clauses
    sound_head =
        let a = all_facts (held_clauses last (held_of h es cs)) e in
        let c = all_facts (log_clauses log) a.1.0 in
        all_test (head_clauses last h) (
          a.0,
          (
            rw (count_is h es cs) at c.0,
            (
              c.1.1.0,
              (
                c.1.1.1.0,
                (
                  c.1.1.1.1.0,
                  (
                    rw (count_is h es cs) at c.1.1.1.1.1.0,
                    (
                      c.1.1.1.1.1.1.0,
                      (and_r w x (and_l (w && x) y (and_l (w && x && y) z lsns)), (and_r (w && x) y (and_l (w && x && y) z lsns), (and_r (w && x && y) z lsns, tt))),
                    ),
                  ),
                ),
              ),
            ),
          ),
        )

    pub sound_reached : (q : ℕ) → q < h.len → reached_by last (get_or es q no_entry).lsn.0 ≡ true
    sound_reached q l =
        every_at (λ (t : Entry ℕ). reached_by last t.lsn) h.len (entry_at es cs)
        (sym entries_reached ∙ and_l w x (and_l (w && x) y (and_l (w && x && y) z lsns))) q l

-- A block that is the definition's, of a header within its limits.
block_fits : (last : Option ℕ) (h : Header) (es : List RecoveredRaftLogEntry) (cs : List ℕ) → length cs ≡ 4096 → head_ok last h ≡ true → h.len ≤ 64
    → ((q : ℕ) → q < h.len → size_of (get_or es q no_entry).payload ≤ 64) → cs ≡ block (view_of h es cs) → Fits h es cs
unfolding block view_of
block_fits last h es cs lc e sh sz b =
    record {
      short = sh;
      indices = head_indices last h es cs lc e;
      sizes = sz;
      used = λ q l. ap (λ (d : List ℕ). part (64 * q) 64 d) b ∙ laid_own cell 64 wide 64 h.len (entry_at es cs) sh q l;
      spare = λ q l l'. ap (λ (d : List ℕ). part (64 * q) 64 d) b ∙ laid_free cell 64 wide 64 h.len (entry_at es cs) sh q l l';
    }
  where
    cell : Entry ℕ → List ℕ
    cell x = cell_of x.payload

    wide : (x : Entry ℕ) → length (cell_of x.payload) ≡ 64
    wide x = length_pad 64 (command_bytes x.payload)

-- Each header is before the next exactly where each is before all after it.
rise_next : (n : ℕ) (hs : List Header) → heads_rise n hs ≡ true → (a : ℕ) → suc a < n → before (id_of (get_or hs a no_header)) (id_of (get_or hs (suc a) no_header)) ≡ true
unfolding heads_rise
rise_next zero hs e a l = absurd (omega arith)
rise_next (suc zero) hs e a l = absurd (omega arith)
rise_next (suc (suc n)) hs e zero l = and_l (before (id_of (get_or hs 0 no_header)) (id_of (get_or hs 1 no_header))) (heads_rise (suc n) (drop 1 hs)) e
rise_next (suc (suc n)) hs e (suc a) l =
    rw (get_d_next hs a no_header, get_d_next hs (suc a) no_header) at
    (rise_next (suc n) (drop 1 hs) (and_r (before (id_of (get_or hs 0 no_header)) (id_of (get_or hs 1 no_header))) (heads_rise (suc n) (drop 1 hs)) e) a (omega arith))

rise_at : (n : ℕ) (hs : List Header) → heads_rise n hs ≡ true → (a b : ℕ) → a < b → b < n → before (id_of (get_or hs a no_header)) (id_of (get_or hs b no_header)) ≡ true
rise_at n hs e a zero l l' = absurd (omega arith)
rise_at n hs e a (suc b) l l' = go (eqb a b) refl (rise_at n hs e a b)
  where
    next : before (id_of (get_or hs b no_header)) (id_of (get_or hs (suc b) no_header)) ≡ true
    next = rise_next n hs e b l'

    go : (c : Bool) → eqb a b ≡ c → (a < b → b < n → before (id_of (get_or hs a no_header)) (id_of (get_or hs b no_header)) ≡ true)
        → before (id_of (get_or hs a no_header)) (id_of (get_or hs (suc b) no_header)) ≡ true
    go true x r = ap (λ (j : ℕ). before (id_of (get_or hs j no_header)) (id_of (get_or hs (suc b) no_header))) (eqb-true a b x) ∙ next
    go false x r =
        before_trans (id_of (get_or hs a no_header)) (id_of (get_or hs b no_header)) (id_of (get_or hs (suc b) no_header)) (r (omega (arith, eqb-false a b x)) (omega arith)) next

at_rise : (n : ℕ) (hs : List Header) → ((a : ℕ) → suc a < n → before (id_of (get_or hs a no_header)) (id_of (get_or hs (suc a) no_header)) ≡ true) → heads_rise n hs ≡ true
unfolding heads_rise
at_rise zero hs h = refl
at_rise (suc zero) hs h = refl
at_rise (suc (suc n)) hs h =
    and_i (before (id_of (get_or hs 0 no_header)) (id_of (get_or hs 1 no_header))) (heads_rise (suc n) (drop 1 hs)) (h 0 (omega arith))
    (at_rise (suc n) (drop 1 hs) (λ a l. rw (get_d_next hs a no_header, get_d_next hs (suc a) no_header) (h (suc a) (omega arith))))

-- The state.
module _ (s : RecoveredRaftStorage) (st : List ℕ) where
  abbrev last : Option ℕ
  last = lsn_of s.scan.last_scanned_lsn

  -- What is linked, and means a sound state, passes.
  pub linked_test : Linked s st → sound_state (meaning s st) ≡ true → sound_test s st ≡ true
  unfolding sound_clauses meaning
  linked_test k e =
      let f = state_facts (meaning s st) e in
      let each : (p : ℕ) → p < s.held → sound_held last (held_at s st p) ≡ true = every_at (sound_held last) s.held (held_at s st) f.each in
      all_test (sound_clauses s st) (
        eq-eqb (length st) 32768 k.size,
        (
          le-leb s.held 8 k.few,
          (
            lt-ltb s.scan.scanned_records u64_max f.below,
            (
              at_rise s.held s.heads (λ a l. ascending_at s.held (held_at s st) f.ascends a (suc a) (omega arith) l),
              (
                replicas_test last s.held s.heads s.entries st
                    (λ p l.
                    fits_replica last (head_at s p) (entries_in s p) (bytes_in st p) (length_part (4096 * p) 4096 st (omega (arith, k)))
                    (sound_head last (head_at s p) (entries_in s p) (bytes_in st p) (each p l)) (sound_reached last (head_at s p) (entries_in s p) (bytes_in st p) (each p l)) (k.own p l))
                    (blocks_zero 4096 8 s.held st k.few k.size k.free),
                tt,
              ),
            ),
          ),
        ),
      )

  module _ (eight : length s.heads ≡ 8) (all : length s.entries ≡ 512) where
    -- What passes is linked, and means a sound state.
    module _ (e : sound_test s st ≡ true) where
      size : length st ≡ 32768
      unfolding sound_clauses
      size = eqb-true (length st) 32768 (all_facts (sound_clauses s st) e).0

      few : s.held ≤ 8
      unfolding sound_clauses
      few = leb-true s.held 8 (all_facts (sound_clauses s st) e).1.0

      below : s.scan.scanned_records < u64_max
      unfolding sound_clauses
      below = ltb-true s.scan.scanned_records u64_max (all_facts (sound_clauses s st) e).1.1.0

      rise : heads_rise s.held s.heads ≡ true
      unfolding sound_clauses
      rise = (all_facts (sound_clauses s st) e).1.1.1.0

      walked : replicas_ok last s.held s.heads s.entries st ≡ true
      unfolding sound_clauses
      walked = (all_facts (sound_clauses s st) e).1.1.1.1.0

      block_size : (p : ℕ) → p < s.held → length (bytes_in st p) ≡ 4096
      block_size p l = length_part (4096 * p) 4096 st (omega (arith, size, few))

      passes : (p : ℕ) → p < s.held → replica_ok last (head_at s p) (entries_in s p) (bytes_in st p) ≡ true
      passes p l = replicas_at last s.held s.heads s.entries st walked p l

      fits : (p : ℕ) → p < s.held → Fits (head_at s p) (entries_in s p) (bytes_in st p)
      fits p l = replica_fits last (head_at s p) (entries_in s p) (bytes_in st p) (block_size p l) (passes p l)

      pub test_linked : Linked s st
      test_linked =
          record {
            eight = eight;
            all = all;
            size = size;
            few = few;
            own = fits;
            free = λ p l l'. zero_blocks 4096 s.held st (replicas_rest last s.held s.heads s.entries st walked) p l (omega (arith, size));
          }

      pub test_state : sound_state (meaning s st) ≡ true
      unfolding meaning
      test_state =
          state_test (meaning s st)
          (record {
            ascends = ascending_tab s.held (held_at s st) (rise_at s.held s.heads rise);
            few = omega (arith, length_tab s.held (held_at s st), few);
            each = every_tab (sound_held last) s.held (held_at s st) (λ p l.
                head_sound last (head_at s p) (entries_in s p) (bytes_in st p) (fits p l)
                (head_passes last (head_at s p) (entries_in s p) (bytes_in st p) (block_size p l) (passes p l))
                (reached_of last (head_at s p) (entries_in s p) (bytes_in st p) (block_size p l) (passes p l)));
            below = below;
          })

      pub test_sound : Sound s st
      test_sound =
          record {
            limits = record { few = few; short = λ p l. (fits p l).short; sizes = λ p l. (fits p l).sizes };
            whole = ap sound (recovery_laid s st test_linked) ∙ laid_sound (meaning s st) test_state;
          }

    -- And back: what is within its limits, and means a sound recovery, is linked and passes.
    module _ (k : Sound s st) where
      state_is : sound_state (meaning s st) ≡ true
      state_is = state_sound (recovery_of s st) k.whole

      store_is : st ≡ layout (meaning s st).replicas
      unfolding sound laid
      store_is = ap (λ (w : Recovery). w.store) (sound_laid (recovery_of s st) (and_r (sound_state (meaning s st)) (sound_store (recovery_of s st)) k.whole))

      store_size : length st ≡ 32768
      unfolding layout
      store_size = ap length store_is ∙ length_pad 32768 (joined (λ (a : Held (Log ℕ)). block a.log) (meaning s st).replicas)

      own_block : (p : ℕ) → p < s.held → bytes_in st p ≡ block (log_at s st p)
      unfolding layout meaning
      own_block p l =
          ap (λ (d : List ℕ). part (4096 * p) 4096 d) store_is
          ∙ laid_own (λ (a : Held (Log ℕ)). block a.log) 4096 (λ a. length_block a.log) 8 s.held (held_at s st) k.limits.few p l

      free_block : (p : ℕ) → s.held ≤ p → p < 8 → bytes_in st p ≡ zeros 4096
      unfolding layout meaning
      free_block p l l' =
          ap (λ (d : List ℕ). part (4096 * p) 4096 d) store_is
          ∙ laid_free (λ (a : Held (Log ℕ)). block a.log) 4096 (λ a. length_block a.log) 8 s.held (held_at s st) k.limits.few p l l'

      each_sound : (p : ℕ) → p < s.held → sound_held last (held_at s st p) ≡ true
      unfolding meaning
      each_sound = every_at (sound_held last) s.held (held_at s st) (state_facts (meaning s st) state_is).each

      own_fits : (p : ℕ) → p < s.held → Fits (head_at s p) (entries_in s p) (bytes_in st p)
      own_fits p l =
          block_fits last (head_at s p) (entries_in s p) (bytes_in st p) (length_part (4096 * p) 4096 st (omega (arith, store_size, k.limits.few)))
          (sound_head last (head_at s p) (entries_in s p) (bytes_in st p) (each_sound p l)) (k.limits.short p l) (k.limits.sizes p l) (own_block p l)

      pub sound_linked : Linked s st
      sound_linked = record { eight = eight; all = all; size = store_size; few = k.limits.few; own = own_fits; free = free_block }

      pub sound_test_lem : sound_test s st ≡ true
      sound_test_lem = linked_test sound_linked state_is
