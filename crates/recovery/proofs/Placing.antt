-- Where a replica stands when its place was found or opened, and what its record does there.
-- Assumes nothing.
use Rattle.std.specs.Prelude.{Option, None, Some, Result, Ok, Err}
use mathlib.Core.Path.{◌≡◌, refl, sym, subst, ◌∙◌}
use mathlib.Core.Bool.{Bool, true, false, cond}
use mathlib.Core.List.{List}
use Prim.Native.Nat.{ℕ, ◌+◌, ◌-◌, ◌*◌, ◌<◌, ◌≤◌}
use native.Mathlib.Omega.{arith}
use borrow.Author.Tests.{leb-true, leb-false}
use lib.Dec.{leb}
use lib.ListN.{get_or, take, drop}
use Rattle.definition.specs.Table.{first_of, unless}
use Rattle.definition.specs.Records.{Identity, form_rows}
use Rattle.definition.specs.Log as D
use Rattle.ids.specs.declared.Refusal.{Refusal}
use Rattle.ids.specs.Identity.{identity_of}
use Rattle.ids.specs.Refusal.{result_of}
use Rattle.codec.specs.declared.RaftWalRecord.{RaftWalRecord}
use Rattle.codec.specs.declared.WalRecord.{WalRecord}
use Rattle.codec.specs.Records.{kind_of, owner_of}
use Rattle.view.specs.declared.RecoveredRaftLogEntry.{RecoveredRaftLogEntry}
use Rattle.view.specs.Meaning.{no_entry}
use Rattle.view.specs.Model.{empty_header}
use Rattle.replay.specs.Plan.{identity_in, index_of, look_of, empty_refuses}
use Rattle.replay.proofs.Empty.{refused_on_empty}
use Rattle.storage.specs.declared.RecoveredRaftStorage.{RecoveredRaftStorage}
use Rattle.storage.specs.declared.Scan.{Scan}
use Rattle.storage.specs.Meaning.{Linked}
use Rattle.storage.specs.Model.{head_at, scan_next, scanned_only, opened, opened_store}
use Rattle.storage.proofs.Open.{new_head}
use Rattle.storage.specs.Finding.{found_at}
use Rattle.storage.proofs.Finding.{Told, found_told}
use Rattle.routing.specs.Observe.{scan_rows, stepped, settled_at}
use Rattle.routing.specs.declared.Admission.TheVariants as A
use Rattle.routing.specs.Admits.{Admitted}
use Rattle.routing.proofs.Ready.{Ready}
use Rattle.routing.proofs.Stepped.{owner_is, stepped_held, stepped_full, stepped_new, opened_again}
use Rattle.recovery.specs.Steps.{Placed, placed_by, Settling, settled}
use Rattle.recovery.proofs.Turn.{nothing}

pub at_below : (t : RecoveredRaftStorage) (i : Identity) (p : ℕ) → found_at t i ≡ Ok p → p < t.held
at_below t i p e = (subst (λ (x : Result ℕ ℕ). Told t i x) e (found_told t i)).1

pub missing_within : (t : RecoveredRaftStorage) (i : Identity) (p : ℕ) → found_at t i ≡ Err p → p ≤ t.held
missing_within t i p e = (subst (λ (x : Result ℕ ℕ). Told t i x) e (found_told t i)).0.within

-- The scan is linked to nothing.
rescanned : (t : RecoveredRaftStorage) (u : List ℕ) (n : Scan) → Linked t u → Linked (scanned_only t n) u
rescanned t u n k = record { eight = k.eight; all = k.all; size = k.size; few = k.few; own = k.own; free = k.free }

-- A record of a replica is refused, or settled at the place that its replica has then.
abbrev pub Told_at : RecoveredRaftStorage → List ℕ → WalRecord → List ℕ → RaftWalRecord → Result ℕ ℕ → RecoveredRaftStorage → List ℕ → Type 0
Told_at s st r lent k (Err n) s' st' = stepped s st r lent ≡ record { answer = D.refused n; state = s'; store = st' }
Told_at s st r lent k (Ok p) s' st' = Settling s' st' p k lent × (stepped s st r lent ≡ settled s' st' p k r.lsn lent)

module _ (s : RecoveredRaftStorage) (st : List ℕ) (r : WalRecord) (lent : List ℕ) (ready : Ready s st) (k : RaftWalRecord) where
  abbrev Told_by : Placed → Type 0
  Told_by x = Told_at s st r lent k x.place x.state x.store

  abbrev n : Scan
  n = scan_next s.scan r.lsn

  module _ (e : first_of (scan_rows s.scan r.lsn) ≡ None) (f : r.body ≡ Some k) (g : first_of (form_rows (owner_of k) (kind_of k lent)) ≡ None) where
    told_by : (x : Result ℕ ℕ) → found_at s (owner_of k) ≡ x → Told_by (placed_by x (scanned_only s n) st k)
    unfolding settled_at
    told_by (Ok p) q = (record { linked = rescanned s st n ready.linked; below = at_below s (owner_of k) p q; form = g }, stepped_held s st r lent e k f g p q)
    told_by (Err p) q = go (leb 8 s.held) refl
      where
        s⁺ : RecoveredRaftStorage
        s⁺ = opened (scanned_only s n) p (empty_header (identity_in k))

        st⁺ : List ℕ
        st⁺ = opened_store st p s.held

        by : Bool → Placed
        by b = cond b (record { place = Err 23; state = scanned_only s n; store = st }) (record { place = unless (empty_refuses k) p; state = s⁺; store = st⁺ })

        -- its place is opened, and an empty replica takes the record or does not
        linked : s.held < 8 → Linked s⁺ st⁺
        linked lt = rescanned (opened s p (empty_header (identity_in k))) st⁺ n (opened_again s st r lent ready e k f g p q lt).0.linked

        at_entry : ℕ → RecoveredRaftLogEntry
        at_entry x = get_or s⁺.entries (64 * p + look_of (head_at s⁺ p) x) no_entry

        tried : (lt : s.held < 8) (o : Option ℕ) → empty_refuses k ≡ o → Told_by (record { place = unless o p; state = s⁺; store = st⁺ })
        tried lt None w = (record { linked = linked lt; below = omega (arith, missing_within s (owner_of k) p q); form = g }, stepped_new s st r lent e k f g p q lt)
        tried lt (Some m) w =
            stepped_new s st r lent e k f g p q lt
            ∙ nothing s⁺ st⁺ p k r.lsn lent (look_of (head_at s⁺ p) (index_of k)) (look_of (head_at s⁺ p) (index_of k - 1)) refl refl (linked lt).size (omega (arith, missing_within s (owner_of k) p q)) m
            (refused_on_empty (at_entry (index_of k)) (at_entry (index_of k - 1)) r.lsn (take (4096 * p + 4096 - 4096 * p) (drop (4096 * p) st⁺)) lent m k (head_at s⁺ p) (new_head s st p (identity_in k) ready.linked (missing_within s (owner_of k) p q) lt) w)

        go : (b : Bool) → leb 8 s.held ≡ b → Told_by (by b)
        go true z = stepped_full s st r lent e k f g p q (leb-true 8 s.held z)
        go false z = tried (leb-false 8 s.held z) (empty_refuses k) refl

  -- As the code knows it.
  pub told_at : (n' : Scan) → Admitted (A.Raft n' k) s.scan r lent → (a b : Result ℕ Refusal) (s' : RecoveredRaftStorage) (st' : List ℕ)
      → ◌≡◌ {A = Placed} (record { place = result_of (λ n. n) a; state = s'; store = st' }) (placed_by (found_at (scanned_only s n') (identity_of (identity_in k))) (scanned_only s n') st k) → a ≡ b
      → Told_at s st r lent k (result_of (λ n. n) b) s' st'
  told_at n' m a b s' st' x ab =
      let y : placed_by (found_at (scanned_only s n') (identity_of (identity_in k))) (scanned_only s n') st k ≡ placed_by (found_at s (owner_of k)) (scanned_only s n) st k =
      (λ j. placed_by (found_at s (owner_is k j)) (scanned_only s (m.1 j)) st k) in
      subst (λ (a : Result ℕ Refusal). Told_at s st r lent k (result_of (λ n. n) a) s' st') ab
      (subst Told_by (sym (x ∙ y)) (told_by m.0 m.2 m.3 (found_at s (owner_of k)) refl))
