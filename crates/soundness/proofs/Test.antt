-- The walking test of entries, cells and blocks, by index: what passes it is linked, and what is linked passes it.
-- Assumes nothing.
use Rattle.std.specs.Prelude.{Option}
use mathlib.Core.Path.{◌≡◌, sym, ap, ◌∙◌}
use mathlib.Core.Bool.{Bool, true, ◌&&◌}
use mathlib.Core.Logic.{⊎_elim}
use mathlib.Core.List.{List, ◌++◌}
use Prim.Native.Nat.{ℕ, zero, suc, ◌+◌, ◌-◌, ◌*◌, ◌<◌, ◌≤◌}
use native.Mathlib.Nat.{mul-add, mul-le-mul_left}
use native.Mathlib.Omega.{arith}
use borrow.Author.Tests.{leb-true, eqb-true, le-leb}
use lib.ListN.{length, get_or, take, drop, length-drop, take-append-drop}
use lib.Seq.{drop_at, drop-drop}
use Rattle.definition.specs.Table.{◌=?◌, ◌≤?◌, u64_max}
use Rattle.definition.specs.Recovery.{pad_to, reached_by}
use Rattle.definition.proofs.Laws.{and_l, and_r, and_i, or_cases, all_facts, all_test}
use Rattle.store.specs.Splice.{part}
use Rattle.store.specs.Zeros.{zeros, padded, all_zero}
use Rattle.store.proofs.Part.{length_part, part_next}
use Rattle.store.proofs.Zeros.{all_zeros, zeros_all, pad_to_is, part_zeros}
use Rattle.view.specs.declared.EntryPayload.{EntryPayload}
use Rattle.view.specs.declared.EntryPayload.TheVariants as Y
use Rattle.view.specs.declared.Header.{Header}
use Rattle.view.specs.declared.RecoveredRaftLogEntry.{RecoveredRaftLogEntry}
use Rattle.view.specs.Meaning.{no_entry, cell_at, cell_of, payload_in, size_of, base_of, Fits}
use Rattle.storage.specs.Model.{no_header}
use Rattle.clauses.specs.Clauses.{head_clauses, head_ok, entry_clauses, entry_ok}
use Rattle.soundness.specs.Sound.{entries_ok, replica_ok, replicas_ok}
use Rattle.storage.proofs.Walk.{get_d_next, drop_next}
use Rattle.storage.proofs.Store.{none_of}

-- The walk over entries and cells, by index.
module _ (last : Option ℕ) where
  pub entries_at : (n : ℕ) (es : List RecoveredRaftLogEntry) (cs : List ℕ) → entries_ok last n es cs ≡ true → (q : ℕ) → q < n → entry_ok last (get_or es q no_entry) (cell_at cs q) ≡ true
  unfolding entries_ok
  entries_at zero es cs e q h = absurd (omega arith)
  entries_at (suc n) es cs e zero h = and_l (entry_ok last (get_or es 0 no_entry) (take 64 cs)) (entries_ok last n (drop 1 es) (drop 64 cs)) e
  entries_at (suc n) es cs e (suc q) h =
      rw (part_next 64 cs q, get_d_next es q no_entry) at
      (entries_at n (drop 1 es) (drop 64 cs) (and_r (entry_ok last (get_or es 0 no_entry) (take 64 cs)) (entries_ok last n (drop 1 es) (drop 64 cs)) e) q (omega arith))

  pub entries_rest : (n : ℕ) (es : List RecoveredRaftLogEntry) (cs : List ℕ) → entries_ok last n es cs ≡ true → all_zero (drop (64 * n) cs) ≡ true
  unfolding entries_ok
  entries_rest zero es cs e = e
  entries_rest (suc n) es cs e =
      ap all_zero (sym (drop_next 64 n cs))
      ∙ entries_rest n (drop 1 es) (drop 64 cs) (and_r (entry_ok last (get_or es 0 no_entry) (take 64 cs)) (entries_ok last n (drop 1 es) (drop 64 cs)) e)

  pub entries_test : (n : ℕ) (es : List RecoveredRaftLogEntry) (cs : List ℕ) → ((q : ℕ) → q < n → entry_ok last (get_or es q no_entry) (cell_at cs q) ≡ true)
      → all_zero (drop (64 * n) cs) ≡ true → entries_ok last n es cs ≡ true
  unfolding entries_ok
  entries_test zero es cs a z = z
  entries_test (suc n) es cs a z =
      and_i (entry_ok last (get_or es 0 no_entry) (take 64 cs)) (entries_ok last n (drop 1 es) (drop 64 cs)) (a 0 (omega arith))
      (entries_test n (drop 1 es) (drop 64 cs) (λ q l. rw (part_next 64 cs q, get_d_next es q no_entry) (a (suc q) (omega arith))) (ap all_zero (drop_next 64 n cs) ∙ z))

  -- And over replicas and blocks.
  pub replicas_at : (n : ℕ) (hs : List Header) (es : List RecoveredRaftLogEntry) (st : List ℕ) → replicas_ok last n hs es st ≡ true
      → (p : ℕ) → p < n → replica_ok last (get_or hs p no_header) (part (64 * p) 64 es) (part (4096 * p) 4096 st) ≡ true
  unfolding replicas_ok
  replicas_at zero hs es st e p h = absurd (omega arith)
  replicas_at (suc n) hs es st e zero h =
      and_l (replica_ok last (get_or hs 0 no_header) (take 64 es) (take 4096 st)) (replicas_ok last n (drop 1 hs) (drop 64 es) (drop 4096 st)) e
  replicas_at (suc n) hs es st e (suc p) h =
      rw (part_next 64 es p, part_next 4096 st p, get_d_next hs p no_header) at
      (replicas_at n (drop 1 hs) (drop 64 es) (drop 4096 st)
      (and_r (replica_ok last (get_or hs 0 no_header) (take 64 es) (take 4096 st)) (replicas_ok last n (drop 1 hs) (drop 64 es) (drop 4096 st)) e) p (omega arith))

  pub replicas_rest : (n : ℕ) (hs : List Header) (es : List RecoveredRaftLogEntry) (st : List ℕ) → replicas_ok last n hs es st ≡ true → all_zero (drop (4096 * n) st) ≡ true
  unfolding replicas_ok
  replicas_rest zero hs es st e = e
  replicas_rest (suc n) hs es st e =
      ap all_zero (sym (drop_next 4096 n st))
      ∙ replicas_rest n (drop 1 hs) (drop 64 es) (drop 4096 st)
      (and_r (replica_ok last (get_or hs 0 no_header) (take 64 es) (take 4096 st)) (replicas_ok last n (drop 1 hs) (drop 64 es) (drop 4096 st)) e)

  pub replicas_test : (n : ℕ) (hs : List Header) (es : List RecoveredRaftLogEntry) (st : List ℕ)
      → ((p : ℕ) → p < n → replica_ok last (get_or hs p no_header) (part (64 * p) 64 es) (part (4096 * p) 4096 st) ≡ true) → all_zero (drop (4096 * n) st) ≡ true
      → replicas_ok last n hs es st ≡ true
  unfolding replicas_ok
  replicas_test zero hs es st a z = z
  replicas_test (suc n) hs es st a z =
      and_i (replica_ok last (get_or hs 0 no_header) (take 64 es) (take 4096 st)) (replicas_ok last n (drop 1 hs) (drop 64 es) (drop 4096 st)) (a 0 (omega arith))
      (replicas_test n (drop 1 hs) (drop 64 es) (drop 4096 st)
      (λ p l. rw (part_next 64 es p, part_next 4096 st p, get_d_next hs p no_header) (a (suc p) (omega arith))) (ap all_zero (drop_next 4096 n st) ∙ z))

-- Zeros from block n on, w bytes a block.
pub zero_blocks : (w n : ℕ) (d : List ℕ) → all_zero (drop (w * n) d) ≡ true → (i : ℕ) → n ≤ i → w * i + w ≤ length d → part (w * i) w d ≡ zeros w
zero_blocks w n d e i h h' =
    let b : ℕ = w * i - w * n in
    let le : w * n ≤ w * i = mul-le-mul_left {m = n} {n = i} w h in
    let eb : w * n + b ≡ w * i = omega arith in
    let ld : length (drop (w * n) d) ≡ length d - w * n = length-drop (w * n) d in
    sym (ap (take w) (drop-drop b (w * n) d ∙ ap (λ (x : ℕ). drop x d) eb))
    ∙ ap (λ (x : List ℕ). part b w x) (all_zeros (drop (w * n) d) e) ∙ part_zeros (length (drop (w * n) d)) b w (omega arith)

-- And back, of m blocks.
pub blocks_zero : (w m n : ℕ) (d : List ℕ) → n ≤ m → length d ≡ w * m → ((i : ℕ) → n ≤ i → i < m → part (w * i) w d ≡ zeros w) → all_zero (drop (w * n) d) ≡ true
blocks_zero w m n d h l z =
    let r : ℕ = m - n in
    let em : w * n + w * r ≡ w * m = sym (mul-add w n r) ∙ ap (λ (x : ℕ). w * x) (omega arith) in
    let le : length (drop (w * n) d) ≡ w * r = length-drop (w * n) d ∙ omega arith in
    ap all_zero (none_of w r (drop (w * n) d) le (λ i j. shift i ∙ z (n + i) (omega arith) (omega arith))) ∙ zeros_all (w * r)
  where
    shift : (i : ℕ) → part (w * i) w (drop (w * n) d) ≡ part (w * (n + i)) w d
    shift i = ap (take w) (drop-drop (w * i) (w * n) d ∙ ap (λ (x : ℕ). drop x d) (sym (mul-add w n i)))

-- A cell whose bytes after the command are zero.
pub tail_zeros : (c : List ℕ) (n : ℕ) → length c ≡ 64 → n ≤ 64 → all_zero (drop n c) ≡ true → c ≡ pad_to 64 (take n c)
tail_zeros c n l h e =
    let ld : length (drop n c) ≡ 64 - n = length-drop n c ∙ omega arith in
    let lt : length (take n c) ≡ n = length_part 0 n c (omega arith) in
    sym (take-append-drop n c) ∙ ap (λ (x : List ℕ). take n c ++ x) (all_zeros (drop n c) e ∙ ap zeros ld)
    ∙ sym (pad_to_is 64 (take n c) (omega arith) ∙ ap (λ (x : ℕ). padded (take n c) (64 - x)) lt)

pub zeros_tail : (c : List ℕ) (n : ℕ) → length c ≡ 64 → n ≤ 64 → c ≡ pad_to 64 (take n c) → all_zero (drop n c) ≡ true
zeros_tail c n l h e =
    let lt : length (take n c) ≡ n = length_part 0 n c (omega arith) in
    let p : pad_to 64 (take n c) ≡ take n c ++ zeros (64 - n) = pad_to_is 64 (take n c) (omega arith) ∙ ap (λ (x : ℕ). padded (take n c) (64 - x)) lt in
    ap all_zero (ap (drop n) (e ∙ p) ∙ drop_at (take n c) (zeros (64 - n)) n lt) ∙ zeros_all (64 - n)

cell_holds : (x : EntryPayload) (c : List ℕ) → length c ≡ 64 → size_of x ≤ 64 → all_zero (drop (size_of x) c) ≡ true → c ≡ cell_of (payload_in x c)
cell_holds (Y.Normal n) c l h e = tail_zeros c n l h e
cell_holds (Y.Configuration k v r) c l h e = tail_zeros c 0 l h e

holds_cell : (x : EntryPayload) (c : List ℕ) → length c ≡ 64 → size_of x ≤ 64 → c ≡ cell_of (payload_in x c) → all_zero (drop (size_of x) c) ≡ true
holds_cell (Y.Normal n) c l h e = zeros_tail c n l h e
holds_cell (Y.Configuration k v r) c l h e = zeros_tail c 0 l h e

entry_passes : (last : Option ℕ) (e : RecoveredRaftLogEntry) (c : List ℕ) → length c ≡ 64 → size_of e.payload ≤ 64 → reached_by last e.lsn.0 ≡ true
    → c ≡ cell_of (payload_in e.payload c) → entry_ok last e c ≡ true
unfolding entry_clauses
entry_passes last e c l h r k =
    all_test (entry_clauses last e c) (le-leb (size_of e.payload) 64 h, (r, (holds_cell e.payload c l h k, tt)))

pub head_short : (last : Option ℕ) (h : Header) → head_ok last h ≡ true → h.len ≤ 64
unfolding head_clauses
head_short last h e = leb-true h.len 64 (all_facts (head_clauses last h) e).1.0

-- One replica.
module _ (last : Option ℕ) (h : Header) (es : List RecoveredRaftLogEntry) (cs : List ℕ) (lc : length cs ≡ 4096) where
  cell_length : (q : ℕ) → q < 64 → length (cell_at cs q) ≡ 64
  cell_length q l = length_part (64 * q) 64 cs (omega arith)

  pub head_indices : head_ok last h ≡ true → base_of h + h.len ≤ u64_max + 1
  unfolding head_clauses
  head_indices e =
      let a : Bool = h.snapshot_index + h.len ≤? u64_max in
      let b : Bool = h.snapshot_index =? u64_max && h.len ≤? 1 in
      ⊎_elim (λ (x : a ≡ true). omega (arith, leb-true (h.snapshot_index + h.len) u64_max x))
      (λ (x : b ≡ true).
      omega (
        arith,
        eqb-true h.snapshot_index u64_max (and_l (h.snapshot_index =? u64_max) (h.len ≤? 1) x),
        leb-true h.len 1 (and_r (h.snapshot_index =? u64_max) (h.len ≤? 1) x),
      ))
      (or_cases a b (all_facts (head_clauses last h) e).1.1.1.1.1.0)

  module _ (e : replica_ok last h es cs ≡ true) where
    pub head_passes : head_ok last h ≡ true
    head_passes = and_l (head_ok last h) (entries_ok last h.len es cs) e

    entries_pass : entries_ok last h.len es cs ≡ true
    entries_pass = and_r (head_ok last h) (entries_ok last h.len es cs) e

    size_of_lem : (q : ℕ) → q < h.len → size_of (get_or es q no_entry).payload ≤ 64
    unfolding entry_clauses
    size_of_lem q l = leb-true (size_of (get_or es q no_entry).payload) 64 (all_facts (entry_clauses last (get_or es q no_entry) (cell_at cs q)) (entries_at last h.len es cs entries_pass q l)).0

    pub reached_of : (q : ℕ) → q < h.len → reached_by last (get_or es q no_entry).lsn.0 ≡ true
    unfolding entry_clauses
    reached_of q l = (all_facts (entry_clauses last (get_or es q no_entry) (cell_at cs q)) (entries_at last h.len es cs entries_pass q l)).1.0

    tail_of : (q : ℕ) → q < h.len → all_zero (drop (size_of (get_or es q no_entry).payload) (cell_at cs q)) ≡ true
    unfolding entry_clauses
    tail_of q l = (all_facts (entry_clauses last (get_or es q no_entry) (cell_at cs q)) (entries_at last h.len es cs entries_pass q l)).1.1.0

    pub replica_fits : Fits h es cs
    replica_fits =
        let sh : h.len ≤ 64 = head_short last h head_passes in
        record {
          short = sh;
          indices = head_indices head_passes;
          sizes = size_of_lem;
          used = λ q l. cell_holds (get_or es q no_entry).payload (cell_at cs q) (cell_length q (omega arith)) (size_of_lem q l) (tail_of q l);
          spare = λ q l l'. zero_blocks 64 h.len cs (entries_rest last h.len es cs entries_pass) q l (omega arith);
        }

  -- And back.
  pub fits_replica : head_ok last h ≡ true → ((q : ℕ) → q < h.len → reached_by last (get_or es q no_entry).lsn.0 ≡ true) → Fits h es cs → replica_ok last h es cs ≡ true
  fits_replica e r f =
      and_i (head_ok last h) (entries_ok last h.len es cs) e
      (entries_test last h.len es cs pass (blocks_zero 64 64 h.len cs f.short lc f.spare))
    where
      pass : (q : ℕ) → q < h.len → entry_ok last (get_or es q no_entry) (cell_at cs q) ≡ true
      pass q l = entry_passes last (get_or es q no_entry) (cell_at cs q) (cell_length q (omega (arith, f.short))) (f.sizes q l) (r q l) (f.used q l)
