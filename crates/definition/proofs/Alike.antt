-- Logs that differ in LSNs and hard state alone refuse entries and pointers alike, and stay so.
-- Assumes nothing.
use Prim.Native.Nat.{ℕ}
use mathlib.Core.Path.{◌≡◌, refl, sym, ap, ◌∙◌}
use Rattle.std.specs.Prelude.{None}
use Rattle.definition.specs.Records.{Identity, LogEntry, Pointer, Kind, entry, pointer}
use Rattle.definition.specs.Log.{Log, base, count, snapshot_boundary, last_index, last, place, at, is_held, predecessor_term, same_term, same_content, replay_rows, install_rows, snapshot_successor_rows, rows, placed, with_entry, beyond, with_pointer, with_hard, accept}
use Rattle.definition.specs.Two.{map_log}
use Rattle.definition.specs.ReadBack.{SameEntries}
use Rattle.definition.proofs.Natural.{last_map, rows_map, accept_map}

-- A log without LSNs and hard state.
unfoldable pub stripped : Log ℕ → Log (Unit {0})
stripped log = map_log (λ n. tt) (with_hard None log)

abbrev pub Alike : Log ℕ → Log ℕ → Type 0
Alike a b = stripped a ≡ stripped b

-- A record that does not look at the hard state: its rows, and the log that it leaves but for the hard state.
pub record Hardless (k : Kind) : Type 0 where
  pub rows_same : (i : Identity) (log : Log ℕ) → rows i k (with_hard None log) ≡ rows i k log
  pub onward : (t : ℕ) (log : Log ℕ) → with_hard None (accept k t log) ≡ with_hard None (accept k t (with_hard None log))

pub entry_hardless : (version : ℕ) (e : LogEntry) → Hardless (entry version e)
unfolding rows replay_rows with_hard base count snapshot_boundary last_index last place at is_held predecessor_term same_term same_content accept with_entry placed
entry_hardless version e = record { rows_same = λ i log. refl; onward = λ t log. refl }

pub pointer_hardless : (p : Pointer) → Hardless (pointer p)
unfolding rows install_rows snapshot_successor_rows with_hard base place at accept with_pointer beyond
pointer_hardless p = record { rows_same = λ i log. refl; onward = λ t log. refl }

module _ (a b : Log ℕ) (h : Alike a b) where
  abbrev f : ℕ → Unit {0}
  f = λ n. tt

  module _ (k : Kind) (x : Hardless k) where
    pub rows_alike : (i : Identity) → rows i k a ≡ rows i k b
    unfolding stripped
    rows_alike i =
        sym (x.rows_same i a) ∙ sym (rows_map f (with_hard None a) i k) ∙ ap (rows i k) h ∙ rows_map f (with_hard None b) i k ∙ x.rows_same i b

    -- What a record leaves, stripped, comes of the log stripped.
    accept_stripped : (t : ℕ) (log : Log ℕ) → stripped (accept k t log) ≡ with_hard None (accept k tt (stripped log))
    unfolding stripped with_hard map_log
    accept_stripped t log = ap (map_log f) (x.onward t log) ∙ ap (with_hard None) (sym (accept_map f (with_hard None log) k t))

    pub accept_alike : (t u : ℕ) → Alike (accept k t a) (accept k u b)
    accept_alike t u = accept_stripped t a ∙ ap (λ l. with_hard None (accept k tt l)) h ∙ sym (accept_stripped u b)

  -- What such logs share.
  pub same_entries : SameEntries a b
  unfolding stripped map_log with_hard
  same_entries =
      record {
        entries = ap (λ (x : Log (Unit {0})). x.entries) h;
        index = ap (λ (x : Log (Unit {0})). x.snapshot_index) h;
        term = ap (λ (x : Log (Unit {0})). x.snapshot_term) h;
        pointer = ap (λ (x : Log (Unit {0})). x.snapshot) h;
      }

  pub commit_alike : a.committed_index ≡ b.committed_index
  unfolding stripped map_log with_hard
  commit_alike = ap (λ (x : Log (Unit {0})). x.committed_index) h

  last_stripped : (log : Log ℕ) → last (stripped log) ≡ last log
  unfolding stripped with_hard last last_index base count snapshot_boundary
  last_stripped log = last_map f (with_hard None log)

  pub last_alike : last a ≡ last b
  last_alike = sym (last_stripped a) ∙ ap last h ∙ last_stripped b
