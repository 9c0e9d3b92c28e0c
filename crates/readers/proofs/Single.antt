-- The meaning of an answer says which answer it is: with one meaning for every input, a contract leaves one answer.
-- Assumes nothing.
use Rattle.std.specs.Prelude.{Option, None, Some, Result, Ok, Err, option_map}
use mathlib.Core.Path.{◌≡◌, refl, sym, ap, ◌∙◌}
use mathlib.Core.Bool.{Bool, true, false}
use mathlib.Core.List.{List}
use Prim.Native.Nat.{ℕ}
use lib.ListN.{length}
use Rattle.definition.specs.Records as D
use Rattle.definition.specs.Log.{Entry}
use Rattle.definition.specs.Recovery.{State, command_bytes}
use Rattle.ids.specs.Identity.{identity_of}
use Rattle.ids.specs.declared.RaftReplicaIdentity.{RaftReplicaIdentity}
use Rattle.ids.specs.declared.Refusal.TheVariants as W
use Rattle.ids.specs.Refusal.{result_of}
use Rattle.ids.proofs.Numbers.{number_of_injective, result_of_injective}
use Rattle.codec.specs.declared.ConfChangeKind.{ConfChangeKind}
use Rattle.codec.specs.declared.ConfChangeKind.TheVariants as K
use Rattle.codec.specs.Records.{change_of}
use Rattle.view.specs.declared.EntryPayload.{EntryPayload}
use Rattle.view.specs.declared.EntryPayload.TheVariants as Y
use Rattle.view.specs.declared.RecoveredRaftLogEntry.{RecoveredRaftLogEntry}
use Rattle.view.specs.Meaning.{lsn_of}
use Rattle.storage.specs.declared.RecoveredRaftStorage.{RecoveredRaftStorage}
use Rattle.storage.proofs.Store.{length_pad}
use Rattle.soundness.specs.Sound.{sound_test}
use Rattle.readers.specs.Reads.{Reads, ReadsReplica, ReadsPlace, Shows, read_replica_of, read_place_of, place_in, payload_with, entry_with, read_entry_of}
use Rattle.ids.specs.declared.Lsn.{Lsn}
use Rattle.view.specs.declared.Header.{Header}
use Rattle.ids.specs.declared.Refusal.{Refusal}

-- One meaning for every input.
module _ {A : Type 0} {s : RecoveredRaftStorage} {st : List ℕ} {f : State → A} where
  reads_one : {r r' : Result A ℕ} → Reads s st f r → Reads s st f r' → r ≡ r'
  reads_one {r = r} {r' = r'} k k' = go (sound_test s st) refl
    where
      go : (b : Bool) → sound_test s st ≡ b → r ≡ r'
      go true t = sym (k.means t) ∙ k'.means t
      go false t = k.refused t ∙ sym (k'.refused t)

  -- One answer, where its meaning m says which it is.
  pub one_answer : {R : Type 0} (m : R → Result A ℕ) → ((a b : R) → m a ≡ m b → a ≡ b) → (a b : R) → Reads s st f (m a) → Reads s st f (m b) → a ≡ b
  one_answer m h a b k k' = h a b (reads_one k k')

lsn_one : (a b : Option Lsn) → lsn_of a ≡ lsn_of b → a ≡ b
lsn_one None None e = refl
lsn_one None (Some m) e = cc e
lsn_one (Some l) None e = cc e
lsn_one (Some l) (Some m) e = ap (λ (n : ℕ). Some (record { 0 = n })) (cc e)

change_one : (a b : ConfChangeKind) → change_of a ≡ change_of b → a ≡ b
change_one K.AddLearner K.AddLearner e = refl
change_one K.AddLearner K.PromoteLearner e = cc e
change_one K.AddLearner K.RemoveReplica e = cc e
change_one K.PromoteLearner K.AddLearner e = cc e
change_one K.PromoteLearner K.PromoteLearner e = refl
change_one K.PromoteLearner K.RemoveReplica e = cc e
change_one K.RemoveReplica K.AddLearner e = cc e
change_one K.RemoveReplica K.PromoteLearner e = cc e
change_one K.RemoveReplica K.RemoveReplica e = refl

payload_one : (cell : List ℕ) (a b : EntryPayload) → payload_with a cell ≡ payload_with b cell → a ≡ b
payload_one cell (Y.Normal n) (Y.Normal m) e =
    ap Y.Normal (sym (length_pad n cell) ∙ ap (λ (x : D.Payload). length (command_bytes x)) e ∙ length_pad m cell)
payload_one cell (Y.Normal n) (Y.Configuration k v r) e = cc e
payload_one cell (Y.Configuration k v r) (Y.Normal m) e = cc e
payload_one cell (Y.Configuration k v r) (Y.Configuration k' v' r') e =
    let p : k ≡ k' = change_one k k' (cc e) in
    let q : v ≡ v' = cc e in
    let o : r.0 ≡ r'.0 = cc e in
    λ t. Y.Configuration (p t) (q t) (record { 0 = o t })

entry_one : (cell : List ℕ) (a b : RecoveredRaftLogEntry) → entry_with a cell ≡ entry_with b cell → a ≡ b
entry_one cell a b e =
    let p : a.term ≡ b.term = ap (λ (x : Entry ℕ). x.term) e in
    let q : a.lsn.0 ≡ b.lsn.0 = ap (λ (x : Entry ℕ). x.lsn) e in
    let o : a.payload ≡ b.payload = payload_one cell a.payload b.payload (ap (λ (x : Entry ℕ). x.payload) e) in
    λ t. record { term = p t; lsn = record { 0 = q t }; payload = o t }

pub entries_one : (cell : List ℕ) (a b : Option RecoveredRaftLogEntry) → option_map (λ e. entry_with e cell) a ≡ option_map (λ e. entry_with e cell) b → a ≡ b
entries_one cell None None e = refl
entries_one cell None (Some y) e = cc e
entries_one cell (Some x) None e = cc e
entries_one cell (Some x) (Some y) e = ap Some (entry_one cell x y (cc e))

-- The answers of the readers: a number, a flag, an index or a boundary is itself.
pub same_answer : {A : Type 0} (a b : Result A Refusal) → result_of (λ x. x) a ≡ result_of (λ x. x) b → a ≡ b
same_answer a b e = result_of_injective (λ x. x) (λ t u e. e) a b e

pub lsn_answer : (a b : Result (Option Lsn) Refusal) → result_of lsn_of a ≡ result_of lsn_of b → a ≡ b
lsn_answer a b e = result_of_injective lsn_of lsn_one a b e

pub entry_answer_lem : (cell : List ℕ) (a b : Result (Option RecoveredRaftLogEntry) Refusal) → read_entry_of cell a ≡ read_entry_of cell b → a ≡ b
entry_answer_lem cell a b e = result_of_injective (option_map (λ e. entry_with e cell)) (entries_one cell) a b e

-- Headers: the own one, or the refusal.
replica_refusal : (s : RecoveredRaftStorage) (st : List ℕ) (p : ℕ) (a : Result Header Refusal) → read_replica_of s st p a ≡ Err 1 → a ≡ Err W.Unsound
replica_refusal s st p (Ok h) e = cc e
replica_refusal s st p (Err v) e = ap Err (number_of_injective v W.Unsound (cc e))

place_refusal : (s : RecoveredRaftStorage) (st : List ℕ) (p : ℕ) (a : Result (Option Header) Refusal) → read_place_of s st p a ≡ Err 1 → a ≡ Err W.Unsound
place_refusal s st p (Ok h) e = cc e
place_refusal s st p (Err v) e = ap Err (number_of_injective v W.Unsound (cc e))

module _ {s : RecoveredRaftStorage} {st : List ℕ} where
  pub one_replica : {i : RaftReplicaIdentity} {a b : Result Header Refusal} → ReadsReplica s st i a → ReadsReplica s st i b → a ≡ b
  one_replica {i = i} {a = a} {b = b} k k' = go (sound_test s st) refl
    where
      p : ℕ
      p = place_in s st (identity_of i)

      go : (c : Bool) → sound_test s st ≡ c → a ≡ b
      go true t = k.own t ∙ sym (k'.own t)
      go false t = replica_refusal s st p a (k.reads.refused t) ∙ sym (replica_refusal s st p b (k'.reads.refused t))

  pub one_place : {p : ℕ} {a b : Result (Option Header) Refusal} → ReadsPlace s st p a → ReadsPlace s st p b → a ≡ b
  one_place {p = p} {a = a} {b = b} k k' = go (sound_test s st) refl
    where
      go : (c : Bool) → sound_test s st ≡ c → a ≡ b
      go true t = k.own t ∙ sym (k'.own t)
      go false t = place_refusal s st p a (k.reads.refused t) ∙ sym (place_refusal s st p b (k'.reads.refused t))

  -- And what is shown.
  pub one_shown : {i : D.Identity} {x : ℕ} {a b : List ℕ} → Shows s st i x a → Shows s st i x b → a ≡ b
  one_shown {a = a} {b = b} k k' = go (sound_test s st) refl
    where
      go : (c : Bool) → sound_test s st ≡ c → a ≡ b
      go true t = let e : ◌≡◌ {A = Result (List ℕ) ℕ} (Ok a) (Ok b) = sym (k.means t) ∙ k'.means t in cc e
      go false t = k.nothing t ∙ sym (k'.nothing t)
