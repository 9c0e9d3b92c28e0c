-- The output on the flat state is the definition's output on what the state means, where counts and indices keep their limits.
-- Assumes nothing.
use mathlib.Core.Path.{◌≡◌, refl, sym, ap, ◌∙◌}
use mathlib.Core.List.{List, ◌++◌, append_assoc, append-nil}
use Prim.Native.Nat.{ℕ, zero, suc, ◌+◌, ◌*◌, ◌<◌, ◌≤◌}
use native.Mathlib.Omega.{arith}
use lib.ListN.{length, get_or, take}
use lib.Seq.{length-take-le, get_or-take}
use Rattle.definition.specs.Records.{Identity}
use Rattle.definition.specs.Log.{Entry, Log, base, count}
use Rattle.definition.specs.Recovery.{Held, joined}
use Rattle.store.proofs.Part.{get_d_part}
use Rattle.view.specs.declared.RecoveredRaftLogEntry.{RecoveredRaftLogEntry}
use Rattle.view.specs.Tab.{tab}
use Rattle.view.specs.Meaning.{no_entry, entry_at, view_of, id_of, base_of, Fits}
use Rattle.view.proofs.Tab.{length_tab}
use Rattle.storage.specs.declared.RecoveredRaftStorage.{RecoveredRaftStorage}
use Rattle.view.specs.declared.Header.{Header}
use Rattle.storage.specs.Model.{no_header, head_at, entries_in, bytes_in}
use Rattle.storage.specs.Meaning.{held_at, meaning, Linked}
use Rattle.tables.specs.Tables.{replicas_word, entries_word, entry_line, line_of, lines_from, entry_lines_of, entry_count, count_line, tables}
use Rattle.tables.specs.Model.{lines_to, sum_to, head_line, index_at, len_of, held_in, log_lines, head_lines, tables_of}

-- ---- lists by their places

pub lines_first : (n : ℕ) (f : ℕ → List ℕ) → lines_to (suc n) f ≡ f 0 ++ lines_to n (λ i. f (suc i))
unfolding lines_to
lines_first zero f = sym (append-nil (f 0))
lines_first (suc n) f = ap (λ (l : List ℕ). l ++ f (suc n)) (lines_first n f) ∙ append_assoc (f 0) (lines_to n (λ i. f (suc i))) (f (suc n))

pub lines_same : (n : ℕ) (f g : ℕ → List ℕ) → ((i : ℕ) → i < n → f i ≡ g i) → lines_to n f ≡ lines_to n g
unfolding lines_to
lines_same zero f g h = refl
lines_same (suc n) f g h = λ k. lines_same n f g (λ i l. h i (omega arith)) k ++ h n (omega arith) k

sum_first : (n : ℕ) (f : ℕ → ℕ) → sum_to (suc n) f ≡ f 0 + sum_to n (λ i. f (suc i))
unfolding sum_to
sum_first zero f = omega arith
sum_first (suc n) f = omega (arith, sum_first n f)

sum_same : (n : ℕ) (f g : ℕ → ℕ) → ((i : ℕ) → i < n → f i ≡ g i) → sum_to n f ≡ sum_to n g
unfolding sum_to
sum_same zero f g h = refl
sum_same (suc n) f g h = λ k. sum_same n f g (λ i l. h i (omega arith)) k + h n (omega arith) k

pub joined_tab : {A : Type 0} (n : ℕ) (g : A → List ℕ) (h : ℕ → A) → joined g (tab n h) ≡ lines_to n (λ i. g (h i))
unfolding tab lines_to
joined_tab zero g h = refl
joined_tab (suc n) g h = ap (λ (l : List ℕ). g (h 0) ++ l) (joined_tab n g (λ i. h (suc i))) ∙ sym (lines_first n (λ i. g (h i)))

count_tab : (n : ℕ) (h : ℕ → Held (Log ℕ)) → entry_count (tab n h) ≡ sum_to n (λ i. count (h i).log)
unfolding tab sum_to entry_count
count_tab zero h = refl
count_tab (suc n) h = ap (λ (x : ℕ). count (h 0).log + x) (count_tab n (λ i. h (suc i))) ∙ sym (sum_first n (λ i. count (h i).log))

from_tab : (i : Identity) (n b : ℕ) (e : ℕ → Entry ℕ) → lines_from i b (tab n e) ≡ lines_to n (λ q. entry_line i (b + q) (e q).term (e q).lsn)
unfolding tab lines_to lines_from
from_tab i zero b e = refl
from_tab i (suc n) b e =
    let f : ℕ → List ℕ = λ q. entry_line i (b + q) (e q).term (e q).lsn in
    let z : b ≡ b + 0 = omega arith in
    let s : (q : ℕ) → suc b + q ≡ b + suc q = λ q. omega arith in
    ap (λ (x : ℕ). entry_line i x (e 0).term (e 0).lsn ++ lines_from i (suc b) (tab n (λ q. e (suc q)))) z
    ∙ ap (λ (l : List ℕ). f 0 ++ l)
    (from_tab i n (suc b) (λ q. e (suc q))
    ∙ lines_same n (λ q. entry_line i (suc b + q) (e (suc q)).term (e (suc q)).lsn) (λ q. f (suc q)) (λ q _. ap (λ (x : ℕ). entry_line i x (e (suc q)).term (e (suc q)).lsn) (s q)))
    ∙ sym (lines_first n f)

-- The lines of the first n headers.
pub head_lines_of : (hs : List Header) (n : ℕ) → n ≤ length hs → head_lines (take n hs) (length (take n hs)) ≡ head_lines hs n
head_lines_of hs n h =
    let l : length (take n hs) ≡ n = length-take-le n hs h in
    let b : lines_to n (λ p. head_line (get_or (take n hs) p no_header)) ≡ lines_to n (λ p. head_line (get_or hs p no_header)) =
    lines_same n (λ p. head_line (get_or (take n hs) p no_header)) (λ p. head_line (get_or hs p no_header)) (λ p k. ap head_line (get_or-take n hs p no_header k)) in
    let c : sum_to n (λ p. len_of (get_or (take n hs) p no_header)) ≡ sum_to n (λ p. len_of (get_or hs p no_header)) =
    sum_same n (λ p. len_of (get_or (take n hs) p no_header)) (λ p. len_of (get_or hs p no_header)) (λ p k. ap len_of (get_or-take n hs p no_header k)) in
    ap (λ (x : ℕ). head_lines (take n hs) x) l ∙ (λ i. count_line replicas_word n ++ b i ++ count_line entries_word (c i))

-- ---- a replica

module _ (s : RecoveredRaftStorage) (st : List ℕ) (p : ℕ) where
  line_is : head_line (head_at s p) ≡ line_of (held_at s st p)
  unfolding view_of
  line_is = refl

  count_is : Fits (head_at s p) (entries_in s p) (bytes_in st p) → len_of (head_at s p) ≡ count (held_at s st p).log
  unfolding view_of count
  count_is f = omega (arith, f.short, length_tab (head_at s p).len (entry_at (entries_in s p) (bytes_in st p)))

  lines_are : Fits (head_at s p) (entries_in s p) (bytes_in st p) → log_lines s p ≡ entry_lines_of (held_at s st p)
  unfolding view_of base
  lines_are f =
      let n : ℕ = (head_at s p).len in
      let b : ℕ = base_of (head_at s p) in
      let i : Identity = id_of (head_at s p) in
      let e : ℕ → Entry ℕ = entry_at (entries_in s p) (bytes_in st p) in
      let own : ℕ → RecoveredRaftLogEntry = λ q. get_or s.entries (64 * p + q) no_entry in
      let short : len_of (head_at s p) ≡ n = omega (arith, f.short) in
      ap (λ (x : ℕ). lines_to x (λ q. entry_line i (index_at b q) (own q).term (own q).lsn.0)) short
      ∙ lines_same n (λ q. entry_line i (index_at b q) (own q).term (own q).lsn.0) (λ q. entry_line i (b + q) (e q).term (e q).lsn)
      (λ q l.
      let x : index_at b q ≡ b + q = omega (arith, f.indices) in
      let g : own q ≡ get_or (entries_in s p) q no_entry = sym (get_d_part (64 * p) 64 s.entries q no_entry (omega (arith, f.short))) in
      ap (λ (y : ℕ). entry_line i y (own q).term (own q).lsn.0) x ∙ ap (λ (y : RecoveredRaftLogEntry). entry_line i (b + q) y.term y.lsn.0) g)
      ∙ sym (from_tab i n b e)

-- ---- the whole

-- What the code writes of a state that keeps its limits is document 01's output of what it means.
pub tables_are : (s : RecoveredRaftStorage) (st : List ℕ) → Linked s st → tables_of s ≡ tables (meaning s st)
unfolding tables_of tables meaning
tables_are s st k =
    let n : ℕ = s.held in
    let few : held_in s ≡ n = omega (arith, k.few) in
    let a : n ≡ length (tab n (held_at s st)) = sym (length_tab n (held_at s st)) in
    let b : lines_to n (λ p. head_line (head_at s p)) ≡ joined line_of (tab n (held_at s st)) =
    lines_same n (λ p. head_line (head_at s p)) (λ p. line_of (held_at s st p)) (λ p _. line_is s st p) ∙ sym (joined_tab n line_of (held_at s st)) in
    let c : sum_to n (λ p. len_of (head_at s p)) ≡ entry_count (tab n (held_at s st)) =
    sum_same n (λ p. len_of (head_at s p)) (λ p. count (held_at s st p).log) (λ p l. count_is s st p (k.own p l)) ∙ sym (count_tab n (held_at s st)) in
    let d : lines_to n (log_lines s) ≡ joined entry_lines_of (tab n (held_at s st)) =
    lines_same n (log_lines s) (λ p. entry_lines_of (held_at s st p)) (λ p l. lines_are s st p (k.own p l)) ∙ sym (joined_tab n entry_lines_of (held_at s st)) in
    ap (λ (x : ℕ). head_lines s.heads x ++ lines_to x (log_lines s)) few
    ∙ (λ i. count_line replicas_word (a i) ++ b i ++ count_line entries_word (c i) ++ d i)
