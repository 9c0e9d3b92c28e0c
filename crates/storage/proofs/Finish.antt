-- Finishing every replica: what it means, and how a loop over the headers gets there.
-- Assumes nothing.
use mathlib.Core.Path.{◌≡◌, refl, sym, ap, ◌∙◌}
use mathlib.Core.Bool.{Bool, true, false, cond}
use mathlib.Core.List.{List, ◌∷◌, map}
use Prim.Native.Nat.{ℕ, zero, suc, ◌+◌, ◌<◌, ◌≤◌}
use native.Mathlib.Omega.{arith}
use borrow.Author.Tests.{lt-ltb, le-ltb, ltb-true, ltb-false}
use lib.Dec.{ltb}
use lib.ListN.{length, set}
use lib.Seq.{ext_get_or}
use Rattle.definition.specs.Log.{Log, normalize_hard_state_term}
use Rattle.definition.specs.Recovery.{Held, held, normalized, normalized_state}
use Rattle.view.specs.declared.Header.{Header}
use Rattle.view.specs.Tab.{tab}
use Rattle.view.specs.Meaning.{id_of, view_of}
use Rattle.view.specs.Model.{maximum_term, finished}
use Rattle.view.proofs.Tab.{length_tab, get_d_tab, tab_same, tab_set}
use Rattle.view.proofs.Head.{finished_view, finished_fits, finished_again}
use Rattle.storage.specs.declared.RecoveredRaftStorage.{RecoveredRaftStorage}
use Rattle.storage.specs.Model.{no_header, head_at, entries_in, bytes_in, finished_head, finished_to, finished_storage}
use Rattle.storage.specs.Meaning.{held_at, meaning, Linked}
use Rattle.storage.proofs.At.{entries_length}

tab_map : {A B : Type 0} (n : ℕ) (φ : A → B) (f : ℕ → A) (g : ℕ → B) → ((i : ℕ) → i < n → g i ≡ φ (f i)) → tab n g ≡ map φ (tab n f)
unfolding tab
tab_map zero φ f g h = refl
tab_map (suc n) φ f g h = λ t. h 0 (omega arith) t ∷ tab_map n φ (λ i. f (suc i)) (λ i. g (suc i)) (λ i l. h (suc i) (omega arith)) t

-- The header at p, once j are finished.
abbrev head_to : RecoveredRaftStorage → ℕ → ℕ → Header
head_to s j p = cond (ltb p j) (finished_head s p) (head_at s p)

-- The loop: none is finished, and one more is.
pub finish_none : (s : RecoveredRaftStorage) → length s.heads ≡ 8 → finished_to 0 s ≡ s
finish_none s l =
    let e : tab 8 (head_to s 0) ≡ s.heads =
    ext_get_or no_header (tab 8 (head_to s 0)) s.heads (length_tab 8 (head_to s 0) ∙ sym l)
    (λ p h. get_d_tab 8 (head_to s 0) p no_header (omega (arith, length_tab 8 (head_to s 0))) ∙ rw (le-ltb p 0 (omega arith))) in
    λ t. record { heads = e t; entries = s.entries; held = s.held; scan = s.scan }

pub finish_one : (s : RecoveredRaftStorage) (j : ℕ) → j < 8 → set (finished_to j s).heads j (finished_head s j) ≡ (finished_to (j + 1) s).heads
finish_one s j l =
    let own : head_to s (j + 1) j ≡ finished_head s j = rw (lt-ltb j (j + 1) (omega arith)) in
    sym (tab_set 8 j (head_to s j) (head_to s (j + 1)) l (λ p h ne. ap (λ (b : Bool). cond b (finished_head s p) (head_at s p)) (other p ne)) ∙ ap (set (tab 8 (head_to s j)) j) own)
  where
    other : (p : ℕ) → (p ≡ j → ⊥) → ltb p (j + 1) ≡ ltb p j
    other p ne = go (ltb p j) refl
      where
        go : (b : Bool) → ltb p j ≡ b → ltb p (j + 1) ≡ b
        go true e = lt-ltb p (j + 1) (omega (arith, ltb-true p j e))
        go false e = le-ltb p (j + 1) (omega (arith, ltb-false p j e))

-- The header at place j is not finished yet.
pub finish_next : (s : RecoveredRaftStorage) (j : ℕ) → j < 8 → head_at (finished_to j s) j ≡ head_at s j
finish_next s j l = get_d_tab 8 (head_to s j) j no_header l ∙ rw (le-ltb j j (omega arith))

module _ (s : RecoveredRaftStorage) (st : List ℕ) (k : Linked s st) where
  head_is : (p : ℕ) → p < s.held → head_at (finished_storage s) p ≡ finished_head s p
  head_is p l = get_d_tab 8 (head_to s s.held) p no_header (omega (arith, k.few)) ∙ rw (lt-ltb p s.held l)

  within : (p : ℕ) → p < s.held → (head_at s p).len ≤ length (entries_in s p)
  within p l = omega (arith, entries_length s st p k l, (k.own p l).short)

  finish_replicas : (meaning (finished_storage s) st).replicas ≡ normalized (meaning s st).replicas
  unfolding meaning normalized
  finish_replicas =
      tab_map s.held (λ (a : Held (Log ℕ)). held a.id (normalize_hard_state_term a.log)) (held_at s st) (held_at (finished_storage s) st)
      (λ p l.
      ap (λ (h : Header). held (id_of h) (view_of h (entries_in s p) (bytes_in st p))) (head_is p l)
      ∙ ap (λ (v : Log ℕ). held (id_of (head_at s p)) v) (finished_view (head_at s p) (entries_in s p) (bytes_in st p) (within p l)))

  pub finish_means : meaning (finished_storage s) st ≡ normalized_state (meaning s st)
  unfolding meaning normalized_state
  finish_means = ap (λ (l : List (Held (Log ℕ))). record { replicas = l; scanned_records = (meaning s st).scanned_records; last_scanned_lsn = (meaning s st).last_scanned_lsn }) finish_replicas

  pub finish_linked : Linked (finished_storage s) st
  finish_linked =
      record {
        eight = length_tab 8 (head_to s s.held);
        all = k.all;
        size = k.size;
        few = k.few;
        own = λ p l. rw (head_is p l) (finished_fits (head_at s p) (entries_in s p) (bytes_in st p) (within p l) (k.own p l));
        free = k.free;
      }

-- Finishing again changes nothing (document 02, Q-5): each header has the same largest term as before.
pub finish_again : (s : RecoveredRaftStorage) → finished_storage (finished_storage s) ≡ finished_storage s
finish_again s =
    let e : tab 8 (head_to (finished_storage s) s.held) ≡ tab 8 (head_to s s.held) =
    tab_same 8 (head_to s s.held) (head_to (finished_storage s) s.held) (λ p l. each p (get_d_tab 8 (head_to s s.held) p no_header l)) in
    λ t. record { heads = e t; entries = s.entries; held = s.held; scan = s.scan }
  where
    each : (p : ℕ) → head_at (finished_storage s) p ≡ head_to s s.held p → head_to (finished_storage s) s.held p ≡ head_to s s.held p
    each p is = ap (λ (h : Header). cond (ltb p s.held) (finished h (maximum_term h (entries_in s p))) h) is ∙ go (ltb p s.held)
      where
        once : Bool → Header
        once b = cond b (finished_head s p) (head_at s p)

        go : (b : Bool) → cond b (finished (once b) (maximum_term (once b) (entries_in s p))) (once b) ≡ once b
        go true = finished_again (head_at s p) (maximum_term (head_at s p) (entries_in s p))
        go false = refl
