-- The output on the flat state is the definition's output on what the state means, where counts and indices keep their limits.
-- Assumes nothing.
use mathlib.Core.Path.{◌≡◌, refl, sym, ap, ◌∙◌}
use mathlib.Core.List.{List, ◌++◌}
use Prim.Native.Nat.{ℕ, zero, suc, ◌+◌, ◌*◌, ◌<◌}
use native.Mathlib.Omega.{arith}
use lib.ListN.{length, get_or}
use Rattle.definition.specs.Log.{Entry, base}
use Rattle.store.proofs.Part.{get_d_part}
use Rattle.view.specs.declared.RecoveredRaftLogEntry.{RecoveredRaftLogEntry}
use Rattle.view.specs.declared.Header.{Header}
use Rattle.view.specs.Tab.{tab}
use Rattle.view.specs.Meaning.{lsn_of, no_entry, payload_in, entry_at, view_of, snapshot_of, base_of, Fits}
use Rattle.view.specs.Readers.{first_retained_of}
use Rattle.view.proofs.Readers.{count_is, boundary_is, first_index_is, last_index_is, first_retained_is}
use Rattle.storage.specs.declared.RecoveredRaftStorage.{RecoveredRaftStorage}
use Rattle.storage.specs.Model.{head_at, bytes_in, entries_in as entries_of}
use Rattle.storage.specs.Meaning.{held_at, meaning, Linked}
use Rattle.readers.proofs.Readings.{cell_in_lem, minimum_is}
use Rattle.tables.specs.Model.{lines_to, index_at, len_of, held_in}
use Rattle.tables.proofs.Law.{lines_first, lines_same, joined_tab}
use Rattle.replica_line.specs.Lines.{line_of, replica_line}
use Rattle.state_tables.specs.Lines.{pointer_line, entry_line, entry_lines, replica_text, state_text}
use Rattle.replica_line.specs.Model.{line_in}
use Rattle.state_tables.specs.Model.{entry_in, place_in, entries_in, replica_in, scan_in, state_in}

-- ---- a replica

from_tab : (n b : ℕ) (e : ℕ → Entry ℕ) → entry_lines b (tab n e) ≡ lines_to n (λ q. entry_line (b + q) (e q).term (e q).lsn (e q).payload)
unfolding tab lines_to entry_lines
from_tab zero b e = refl
from_tab (suc n) b e =
    let f : ℕ → List ℕ = λ q. entry_line (b + q) (e q).term (e q).lsn (e q).payload in
    let z : b ≡ b + 0 = omega arith in
    let s : (q : ℕ) → suc b + q ≡ b + suc q = λ q. omega arith in
    ap (λ (x : ℕ). entry_line x (e 0).term (e 0).lsn (e 0).payload ++ entry_lines (suc b) (tab n (λ q. e (suc q)))) z
    ∙ ap (λ (l : List ℕ). f 0 ++ l)
    (from_tab n (suc b) (λ q. e (suc q))
    ∙ lines_same n (λ q. entry_line (suc b + q) (e (suc q)).term (e (suc q)).lsn (e (suc q)).payload) (λ q. f (suc q))
    (λ q _. ap (λ (x : ℕ). entry_line x (e (suc q)).term (e (suc q)).lsn (e (suc q)).payload) (s q)))
    ∙ sym (lines_first n f)

module _ (s : RecoveredRaftStorage) (st : List ℕ) (p : ℕ) (f : Fits (head_at s p) (entries_of s p) (bytes_in st p)) where
  own : (q : ℕ) → q < 64 → get_or s.entries (64 * p + q) no_entry ≡ get_or (entries_of s p) q no_entry
  own q l = sym (get_d_part (64 * p) 64 s.entries q no_entry l)

  first_own : get_or s.entries (64 * p) no_entry ≡ get_or (entries_of s p) 0 no_entry
  first_own = let z : 64 * p ≡ 64 * p + 0 = omega arith in ap (λ (k : ℕ). get_or s.entries k no_entry) z ∙ own 0 (omega arith)

  line_is : line_in (head_at s p) (get_or s.entries (64 * p) no_entry) ≡ line_of (held_at s st p)
  unfolding view_of
  line_is =
      let h : Header = head_at s p in
      let es : List RecoveredRaftLogEntry = entries_of s p in
      let cs : List ℕ = bytes_in st p in
      let a = sym (boundary_is h es cs) in
      let b = sym (minimum_is h es cs first_own) in
      let c = sym (count_is h es cs) in
      let d = sym (first_index_is h es cs) in
      let e = sym (last_index_is h es cs f.indices) in
      let g = ap (λ (y : RecoveredRaftLogEntry). lsn_of (first_retained_of h y)) first_own ∙ sym (first_retained_is h es cs) in
      λ i.
      record {
        id = (line_in h (get_or es 0 no_entry)).id;
        boundary = a i;
        progress = (line_in h (get_or es 0 no_entry)).progress;
        committed = (line_in h (get_or es 0 no_entry)).committed;
        hard = (line_in h (get_or es 0 no_entry)).hard;
        hard_lsn = (line_in h (get_or es 0 no_entry)).hard_lsn;
        pointer_lsn = (line_in h (get_or es 0 no_entry)).pointer_lsn;
        replayed = (line_in h (get_or es 0 no_entry)).replayed;
        minimum = b i;
        entries = c i;
        first = d i;
        last = e i;
        retained = g i;
      }

  module _ (few : p < 8) (size : length st ≡ 32768) where
    place_is : (q : ℕ) → q < (head_at s p).len
        → place_in s st p q
        ≡ entry_line (base_of (head_at s p) + q) (entry_at (entries_of s p) (bytes_in st p) q).term (entry_at (entries_of s p) (bytes_in st p) q).lsn (entry_at (entries_of s p) (bytes_in st p) q).payload
    place_is q l =
        let m : q < 64 = omega (arith, f.short) in
        let x : index_at (base_of (head_at s p)) q ≡ base_of (head_at s p) + q = omega (arith, f.indices) in
        ap (λ (k : ℕ). entry_in k (get_or s.entries (64 * p + q) no_entry) st (64 * p + q)) x
        ∙ ap (λ (e : RecoveredRaftLogEntry). entry_in (base_of (head_at s p) + q) e st (64 * p + q)) (own q m)
        ∙ ap (λ (c : List ℕ). entry_line (base_of (head_at s p) + q) (get_or (entries_of s p) q no_entry).term (get_or (entries_of s p) q no_entry).lsn.0 (payload_in (get_or (entries_of s p) q no_entry).payload c)) (sym (cell_in_lem st p q size few m))

    entries_are : entries_in s st p ≡ entry_lines (base (held_at s st p).log) (held_at s st p).log.entries
    unfolding view_of base
    entries_are =
        let n : ℕ = (head_at s p).len in
        let b : ℕ = base_of (head_at s p) in
        let e : ℕ → Entry ℕ = entry_at (entries_of s p) (bytes_in st p) in
        let short : len_of (head_at s p) ≡ n = omega (arith, f.short) in
        ap (λ (x : ℕ). lines_to x (place_in s st p)) short
        ∙ lines_same n (place_in s st p) (λ q. entry_line (b + q) (e q).term (e q).lsn (e q).payload) place_is
        ∙ sym (from_tab n b e)

    pub replica_is : replica_in s st p ≡ replica_text (held_at s st p)
    unfolding replica_in view_of
    replica_is = λ i. replica_line (line_is i) ++ pointer_line (snapshot_of (head_at s p).snapshot) ++ entries_are i

-- ---- the whole

-- What the code writes of a state that keeps its limits is the definition's text of what it means.
pub state_is : (s : RecoveredRaftStorage) (st : List ℕ) → Linked s st → state_in s st ≡ state_text (meaning s st)
unfolding state_in state_text meaning
state_is s st k =
    let n : ℕ = s.held in
    let few : held_in s ≡ n = omega (arith, k.few) in
    ap (λ (x : ℕ). scan_in s.scan ++ lines_to x (replica_in s st)) few
    ∙ ap (λ (l : List ℕ). scan_in s.scan ++ l)
    (lines_same n (replica_in s st) (λ p. replica_text (held_at s st p)) (λ p l. replica_is s st p (k.own p l) (omega (arith, k.few)) k.size)
    ∙ sym (joined_tab n replica_text (held_at s st)))
