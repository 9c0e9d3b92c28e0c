-- A change of the header alone: a hard state, the view's commit, finishing. A new replica.
-- Assumes nothing.
use mathlib.Core.Path.{◌≡◌, refl, sym, ap}
use mathlib.Core.Bool.{Bool, true, false, cond}
use mathlib.Core.List.{List, [], ◌∷◌}
use Prim.Native.Nat.{ℕ, zero, suc, ◌*◌, ◌<◌, ◌≤◌, max}
use native.Mathlib.Omega.{arith}
use borrow.Author.Tests.{le-ltb}
use lib.Dec.{ltb, eqb}
use lib.ListN.{length, get_or, take}
use Rattle.std.specs.Prelude.{if◌then◌else◌, Option, None, Some}
use Rattle.definition.specs.Log as D
use Rattle.ids.specs.declared.Lsn.{Lsn}
use Rattle.ids.specs.declared.RaftReplicaIdentity.{RaftReplicaIdentity}
use Rattle.store.specs.Zeros.{zeros}
use Rattle.store.proofs.Zeros.{part_zeros}
use Rattle.codec.specs.declared.HardState.{HardState}
use Rattle.codec.specs.Records.{hard_state_of, maybe_hard_state_of}
use Rattle.view.specs.declared.RecoveredRaftLogEntry.{RecoveredRaftLogEntry}
use Rattle.view.specs.declared.Header.{Header}
use Rattle.view.specs.Tab.{tab}
use Rattle.view.specs.Meaning.{no_entry, entry_at, view_of, Fits}
use Rattle.view.specs.Model.{empty_header, with_hard, with_hard_state, unvoted_hard, largest_of, maximum_term, normalized_from, normalized_hard, finished}
use Rattle.view.proofs.Block.{head_fits}

-- A replica that holds nothing, over zeros.
pub empty_view : (i : RaftReplicaIdentity) (es : List RecoveredRaftLogEntry) (cs : List ℕ) → view_of (empty_header i) es cs ≡ D.empty
unfolding view_of D.empty tab
empty_view i es cs = refl

pub empty_fits : (i : RaftReplicaIdentity) (es : List RecoveredRaftLogEntry) → Fits (empty_header i) es (zeros 4096)
empty_fits i es =
    record {
      short = omega arith;
      indices = omega arith;
      sizes = λ q l. absurd (omega arith);
      used = λ q l. absurd (omega arith);
      spare = λ q l l'. part_zeros 4096 (64 * q) 64 (omega arith);
    }

module _ (h : Header) (es : List RecoveredRaftLogEntry) (cs : List ℕ) where
  pub hard_state_view : (x : HardState) (l : Lsn) → view_of (with_hard_state h x l) es cs ≡ D.with_hard_state (hard_state_of x) l.0 (view_of h es cs)
  unfolding view_of D.with_hard_state
  hard_state_view x l = refl

  pub hard_state_fits : (x : HardState) (l : Lsn) → Fits h es cs → Fits (with_hard_state h x l) es cs
  hard_state_fits x l f = head_fits f refl refl

  -- Another hard state, its LSN untouched.
  pub hard_view : (x : Option HardState) → view_of (with_hard h x) es cs ≡ D.with_hard (maybe_hard_state_of x) (view_of h es cs)
  unfolding view_of D.with_hard
  hard_view x = refl

-- The largest of the terms at places that the entries have.
largest_tab : (n : ℕ) (es : List RecoveredRaftLogEntry) (g : ℕ → D.Entry ℕ) → n ≤ length es → ((i : ℕ) → i < n → (g i).term ≡ (get_or es i no_entry).term)
    → D.largest_term (tab n g) ≡ largest_of (take n es)
unfolding tab D.largest_term
largest_tab zero es g l k = refl
largest_tab (suc n) [] g l k = absurd (omega arith)
largest_tab (suc n) (e ∷ es) g l k =
    let a : (g 0).term ≡ e.term = k 0 (omega arith) in
    let b : D.largest_term (tab n (λ i. g (suc i))) ≡ largest_of (take n es) = largest_tab n es (λ i. g (suc i)) (omega arith) (λ i j. k (suc i) (omega arith)) in
    λ t. max (a t) (b t)

normalized_means : (m c : ℕ) (o : Option HardState) → hard_state_of (normalized_hard m c o) ≡ D.normalized_to m c (maybe_hard_state_of o)
unfolding D.normalized_to
normalized_means m c None = refl
normalized_means m c (Some o) = go (ltb o.current_term m)
  where
    go : (b : Bool) → hard_state_of (cond b (unvoted_hard m o.commit) o) ≡ (if b then record { current_term = m; voted_for = None; commit = o.commit } else hard_state_of o)
    go true = refl
    go false = refl

finished_means : (m c : ℕ) (o : Option HardState)
    → maybe_hard_state_of (cond (eqb m 0) o (Some (normalized_hard m c o))) ≡ (if eqb m 0 then maybe_hard_state_of o else Some (D.normalized_to m c (maybe_hard_state_of o)))
finished_means m c o = go (eqb m 0)
  where
    go : (b : Bool) → maybe_hard_state_of (cond b o (Some (normalized_hard m c o))) ≡ (if b then maybe_hard_state_of o else Some (D.normalized_to m c (maybe_hard_state_of o)))
    go true = refl
    go false = ap Some (normalized_means m c o)

-- Finishing again by the same largest term changes nothing: no hard state is below it any more.
normalized_again : (m c : ℕ) (o : Option HardState) → normalized_hard m c (Some (normalized_hard m c o)) ≡ normalized_hard m c o
normalized_again m c None = rw (le-ltb m m (omega arith))
normalized_again m c (Some o) = go (ltb o.current_term m) refl
  where
    go : (b : Bool) → ltb o.current_term m ≡ b → normalized_from m (cond b (unvoted_hard m o.commit) o) ≡ cond b (unvoted_hard m o.commit) o
    go true e = rw (le-ltb m m (omega arith))
    go false e = rw e

pub finished_again : (h : Header) (m : ℕ) → finished (finished h m) m ≡ finished h m
finished_again h m = ap (with_hard h) (go (eqb m 0))
  where
    once : Option HardState
    once = Some (normalized_hard m h.committed_index h.hard_state)

    go : (b : Bool) → cond b (cond b h.hard_state once) (Some (normalized_hard m h.committed_index (cond b h.hard_state once))) ≡ cond b h.hard_state once
    go true = refl
    go false = ap {B = Option HardState} Some (normalized_again m h.committed_index h.hard_state)

module _ (h : Header) (es : List RecoveredRaftLogEntry) (cs : List ℕ) (l : h.len ≤ length es) where
  pub maximum_is : D.maximum_observed_term (view_of h es cs) ≡ maximum_term h es
  unfolding view_of D.maximum_observed_term
  maximum_is = ap (max h.snapshot_term) (largest_tab h.len es (entry_at es cs) l (λ i k. refl))

  normalized_is : D.normalized_hard_state (view_of h es cs) ≡ maybe_hard_state_of (finished h (maximum_term h es)).hard_state
  unfolding view_of D.normalized_hard_state
  normalized_is = rw maximum_is (sym (finished_means (maximum_term h es) h.committed_index h.hard_state))

  pub finished_view : view_of (finished h (maximum_term h es)) es cs ≡ D.normalize_hard_state_term (view_of h es cs)
  unfolding D.normalize_hard_state_term
  finished_view = rw normalized_is (hard_view h es cs (finished h (maximum_term h es)).hard_state)

  pub finished_fits : Fits h es cs → Fits (finished h (maximum_term h es)) es cs
  finished_fits f = head_fits f refl refl
