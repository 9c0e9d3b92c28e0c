-- The store of a linked state is the layout of what it means.
-- Assumes nothing.
use mathlib.Core.Path.{◌≡◌, refl, sym, ap, ◌∙◌}
use mathlib.Core.List.{List, [], ◌∷◌, ◌++◌}
use Prim.Native.Nat.{ℕ, zero, suc, ◌+◌, ◌*◌, ◌<◌, ◌≤◌}
use native.Mathlib.Nat.{mul-le-mul_left}
use native.Mathlib.Omega.{arith}
use lib.ListN.{length, take, drop, length-drop, take-append-drop}
use lib.Seq.{drop_at, take_all, take_at}
use Rattle.definition.specs.Log.{Entry, Log}
use Rattle.definition.specs.Recovery.{Held, pad_to, joined, command_bytes, block, layout}
use Rattle.definition.proofs.Store.{laid}
use Rattle.store.specs.Splice.{part}
use Rattle.store.specs.Zeros.{zeros}
use Rattle.store.proofs.Part.{length_part, part_next}
use Rattle.store.proofs.Zeros.{zeros_split, part_zeros}
use Rattle.view.specs.declared.Header.{Header}
use Rattle.view.specs.declared.RecoveredRaftLogEntry.{RecoveredRaftLogEntry}
use Rattle.view.specs.Tab.{tab}
use Rattle.view.specs.Meaning.{entry_at, cell_of, view_of, Fits}
use Rattle.storage.specs.declared.RecoveredRaftStorage.{RecoveredRaftStorage}
use Rattle.storage.specs.Model.{head_at, entries_in, bytes_in}
use Rattle.storage.specs.Meaning.{held_at, meaning, recovery_of, Linked}

pub pad_nil : (n : ℕ) → pad_to n [] ≡ zeros n
unfolding pad_to zeros
pad_nil zero = refl
pad_nil (suc n) = ap (λ (l : List ℕ). 0 ∷ l) (pad_nil n)

pub length_pad : (n : ℕ) (l : List ℕ) → length (pad_to n l) ≡ n
unfolding pad_to
length_pad zero l = refl
length_pad (suc n) [] = ap suc (length_pad n [])
length_pad (suc n) (x ∷ l) = ap suc (length_pad n l)

pub pad_append : (x y : List ℕ) (r n : ℕ) → n ≡ length x + r → pad_to n (x ++ y) ≡ x ++ pad_to r y
unfolding pad_to
pad_append [] y r n e = let p : n ≡ r = omega arith in ap (λ (i : ℕ). pad_to i y) p
pad_append (a ∷ x) y r zero e = absurd (omega arith)
pad_append (a ∷ x) y r (suc n) e = ap (λ (l : List ℕ). a ∷ l) (pad_append x y r n (omega arith))

first_part : (w : ℕ) (d : List ℕ) → part (w * 0) w d ≡ take w d
first_part w d = let q : w * 0 ≡ 0 = omega arith in ap (λ (x : ℕ). part x w d) q

-- Blocks of w bytes, all zeros.
pub none_of : (w m : ℕ) (d : List ℕ) → length d ≡ w * m → ((i : ℕ) → i < m → part (w * i) w d ≡ zeros w) → d ≡ zeros (w * m)
unfolding zeros
none_of w zero d l z =
    let q : w * 0 ≡ 0 = omega arith in
    sym (take_all 0 d (omega arith)) ∙ ap zeros (sym q)
none_of w (suc m) d l z =
    let r : drop w d ≡ zeros (w * m) = none_of w m (drop w d) (length-drop w d ∙ omega arith) (λ i j. part_next w d i ∙ z (suc i) (omega arith)) in
    sym (take-append-drop w d) ∙ ap (λ (x : List ℕ). x ++ drop w d) (sym (first_part w d) ∙ z 0 (omega arith)) ∙ ap (λ (x : List ℕ). zeros w ++ x) r
    ∙ sym (zeros_split w (w * m) (w * suc m) (omega arith))

-- Blocks of w bytes, m of them: those of the k things, and zeros.
module _ {X : Type 0} (g : X → List ℕ) (w : ℕ) (wide : (x : X) → length (g x) ≡ w) where
  blocks_laid : (m k : ℕ) (f : ℕ → X) (d : List ℕ) → k ≤ m → length d ≡ w * m → ((i : ℕ) → i < k → part (w * i) w d ≡ g (f i))
      → ((i : ℕ) → k ≤ i → i < m → part (w * i) w d ≡ zeros w) → d ≡ pad_to (w * m) (joined g (tab k f))
  unfolding tab
  blocks_laid m zero f d h l a z = none_of w m d l (λ i j. z i (omega arith) j) ∙ sym (pad_nil (w * m))
  blocks_laid zero (suc k) f d h l a z = absurd (omega arith)
  blocks_laid (suc m) (suc k) f d h l a z =
      let r : drop w d ≡ pad_to (w * m) (joined g (tab k (λ i. f (suc i)))) =
      blocks_laid m k (λ i. f (suc i)) (drop w d) (omega arith) (length-drop w d ∙ omega arith) (λ i j. part_next w d i ∙ a (suc i) (omega arith)) (λ i j j'. part_next w d i ∙ z (suc i) (omega arith) (omega arith)) in
      sym (take-append-drop w d) ∙ rw (← first_part w d, a 0 (omega arith), r)
      (sym (pad_append (g (f 0)) (joined g (tab k (λ i. f (suc i)))) (w * m) (w * suc m) (omega (arith, wide (f 0)))))

-- And what stands in each block of such a layout.
module _ {X : Type 0} (g : X → List ℕ) (w : ℕ) (wide : (x : X) → length (g x) ≡ w) where
  abbrev laid_bytes : ℕ → ℕ → (ℕ → X) → List ℕ
  laid_bytes m k f = pad_to (w * m) (joined g (tab k f))

  laid_cons : (m k : ℕ) (f : ℕ → X) → laid_bytes (suc m) (suc k) f ≡ g (f 0) ++ laid_bytes m k (λ i. f (suc i))
  unfolding tab
  laid_cons m k f = pad_append (g (f 0)) (joined g (tab k (λ i. f (suc i)))) (w * m) (w * suc m) (omega (arith, wide (f 0)))

  laid_first : (m k : ℕ) (f : ℕ → X) → part (w * 0) w (laid_bytes (suc m) (suc k) f) ≡ g (f 0)
  laid_first m k f =
      let r : List ℕ = laid_bytes m k (λ i. f (suc i)) in
      first_part w (laid_bytes (suc m) (suc k) f) ∙ ap (take w) (laid_cons m k f) ∙ take_at (g (f 0)) r w (wide (f 0))

  laid_next : (m k : ℕ) (f : ℕ → X) (i : ℕ) → part (w * suc i) w (laid_bytes (suc m) (suc k) f) ≡ part (w * i) w (laid_bytes m k (λ i. f (suc i)))
  laid_next m k f i =
      let r : List ℕ = laid_bytes m k (λ i. f (suc i)) in
      sym (part_next w (laid_bytes (suc m) (suc k) f) i)
      ∙ ap (λ (d : List ℕ). part (w * i) w d) (ap (drop w) (laid_cons m k f) ∙ drop_at (g (f 0)) r w (wide (f 0)))

  pub laid_own : (m k : ℕ) (f : ℕ → X) → k ≤ m → (i : ℕ) → i < k → part (w * i) w (laid_bytes m k f) ≡ g (f i)
  laid_own m zero f h i l = absurd (omega arith)
  laid_own zero (suc k) f h i l = absurd (omega arith)
  laid_own (suc m) (suc k) f h zero l = laid_first m k f
  laid_own (suc m) (suc k) f h (suc i) l = laid_next m k f i ∙ laid_own m k (λ i. f (suc i)) (omega arith) i (omega arith)

  pub laid_free : (m k : ℕ) (f : ℕ → X) → k ≤ m → (i : ℕ) → k ≤ i → i < m → part (w * i) w (laid_bytes m k f) ≡ zeros w
  unfolding tab
  laid_free m zero f h i l l' =
      ap (λ (d : List ℕ). part (w * i) w d) (pad_nil (w * m)) ∙ part_zeros (w * m) (w * i) w (omega (arith, mul-le-mul_left {m = suc i} {n = m} w l'))
  laid_free zero (suc k) f h i l l' = absurd (omega arith)
  laid_free (suc m) (suc k) f h zero l l' = absurd (omega arith)
  laid_free (suc m) (suc k) f h (suc i) l l' = laid_next m k f i ∙ laid_free m k (λ i. f (suc i)) (omega arith) i (omega arith) (omega arith)

pub block_laid : (h : Header) (es : List RecoveredRaftLogEntry) (cs : List ℕ) → Fits h es cs → length cs ≡ 4096 → cs ≡ block (view_of h es cs)
unfolding block view_of
block_laid h es cs f l =
    blocks_laid (λ (e : Entry ℕ). cell_of e.payload) 64 (λ e. length_pad 64 (command_bytes e.payload)) 64 h.len (entry_at es cs) cs f.short l f.used f.spare

pub length_block : (log : Log ℕ) → length (block log) ≡ 4096
unfolding block
length_block log = length_pad 4096 (joined (λ (e : Entry ℕ). cell_of e.payload) log.entries)

pub laid_out : (s : RecoveredRaftStorage) (st : List ℕ) → Linked s st → st ≡ layout (meaning s st).replicas
unfolding layout meaning
laid_out s st k =
    blocks_laid (λ (a : Held (Log ℕ)). block a.log) 4096 (λ a. length_block a.log) 8 s.held (held_at s st) st k.few k.size
    (λ p l. block_laid (head_at s p) (entries_in s p) (bytes_in st p) (k.own p l) (length_part (4096 * p) 4096 st (omega (arith, k)))) k.free

-- So state and store are the definition's state, laid out.
pub recovery_laid : (s : RecoveredRaftStorage) (st : List ℕ) → Linked s st → recovery_of s st ≡ laid (meaning s st)
unfolding laid
recovery_laid s st k = λ t. record { state = meaning s st; store = laid_out s st k t }
