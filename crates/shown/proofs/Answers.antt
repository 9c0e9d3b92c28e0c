-- What is shown, where state and store are sound and where they are not.
-- Assumes nothing.
use Rattle.std.specs.Prelude.{Option, Result, Ok, Err}
use mathlib.Core.Path.{◌≡◌, refl, sym, ap, ◌∙◌}
use mathlib.Core.Logic.{inl, inr}
use mathlib.Core.Bool.{true, false, true≢false}
use mathlib.Core.List.{List}
use Prim.Native.Nat.{ℕ}
use Rattle.definition.specs.Records.{Identity}
use Rattle.definition.specs.Log.{Log}
use Rattle.definition.specs.Recovery.{replica_of, sound}
use Rattle.definition.specs.Batch as M
use Rattle.definition.proofs.Prepared.{prepare_sound, prepare_unsound}
use Rattle.definition.proofs.Laws.{none_some}
use Rattle.ids.specs.declared.RaftReplicaIdentity.{RaftReplicaIdentity}
use Rattle.ids.specs.declared.Refusal.{Refusal}
use Rattle.ids.specs.Identity.{identity_of}
use Rattle.storage.specs.declared.RecoveredRaftStorage.{RecoveredRaftStorage}
use Rattle.storage.specs.Meaning.{meaning, recovery_of}
use Rattle.readers.specs.declared.Own.{Own}
use Rattle.soundness.specs.Sound.{sound_test}
use Rattle.readers.specs.declared.SoundStorage.{SoundStorage}
use Rattle.readers.specs.Sound.{opened_of, opens}
use Rattle.readers.proofs.Sound.{Parts, refused_parts, opened_is}
use Rattle.readers.proofs.Owns.{Owns}
use Rattle.batches.specs.declared.RaftPersistenceBatch.{RaftPersistenceBatch}
use Rattle.batches.specs.Meaning.{entries_of, batch_of}
use Rattle.persistence.specs.declared.TriedBatch.{TriedBatch}
use Rattle.preview.specs.Preview.{Ran}
use Rattle.persistence.specs.Prepares.{Prepares}
use Rattle.persistence.specs.Tries.{ran_of, tried_on, TriedReached}
use Rattle.persistence.proofs.Answered.{told_refused}
use Rattle.persistence.proofs.Tried.{tried, tried_fit}
use Rattle.shown.specs.declared.Shown.{Shown}
use Rattle.shown.specs.Shows.{shown_of, ShowsAt, shown_by}
use Rattle.shown.proofs.Previewed.{preview_shows}

-- The part of the bytes that is shown.
pub shows_part : {A : Type 0} {s : RecoveredRaftStorage} {st : List ℕ} {i : RaftReplicaIdentity} {b : RaftPersistenceBatch} {lent : List ℕ} {index : ℕ} {y : M.Shown}
    → ShowsAt s st i b lent index (λ x. x) y → (f : M.Shown → A) (r : A) → r ≡ f y → ShowsAt s st i b lent index f r
shows_part k f r e =
    record {
      means = λ t. e ∙ ap f (k.means t);
      refused = λ t. e ∙ ap f (k.refused t);
      unsound = λ u. e ∙ ap f (k.unsound u);
    }

module _ (s : RecoveredRaftStorage) (st : List ℕ) (i : RaftReplicaIdentity) (b : RaftPersistenceBatch) (lent : List ℕ) (index : ℕ) where
  abbrev own : Identity
  own = identity_of i

  abbrev batch : M.Batch
  batch = batch_of b lent

  abbrev was : Log ℕ
  was = replica_of own (meaning s st)

  abbrev defined : M.Shown
  defined = M.previewed_at (recovery_of s st) own batch index

  -- What a preparation shows.
  abbrev shown_for : Result M.Preview ℕ → M.Shown
  shown_for r = M.shown_in own (meaning s st) batch r index

  previewed_unsound : sound (recovery_of s st) ≡ false → M.nothing ≡ defined
  unfolding M.previewed_at M.shown_in
  previewed_unsound u = sym (ap shown_for (prepare_unsound (recovery_of s st) own batch u))

  previewed_sound : sound (recovery_of s st) ≡ true → (r : Result M.Preview ℕ) → M.prepare_on own batch was ≡ r → defined ≡ shown_for r
  unfolding M.previewed_at
  previewed_sound w r e = ap shown_for (prepare_sound (recovery_of s st) own batch w ∙ e)

  -- State and store are not sound.
  nothing_unsound : sound_test s st ≡ false → ShowsAt s st i b lent index (λ x. x) M.nothing
  nothing_unsound t = record { means = λ y. absurd (true≢false (sym y ∙ t)); refused = λ y. refl; unsound = previewed_unsound }

  -- They are, and the batch was tried.
  module _ (o : Own) (w : Owns s st i o) (reached : TriedReached s st i b lent o) where
    abbrev ran : Ran
    ran = tried_on s st i b lent o

    abbrev Asked : Type 0
    Asked = Prepares ran (M.prepare_on own batch was)

    shows_sound : (y : M.Shown) → y ≡ defined → ShowsAt s st i b lent index (λ x. x) y
    shows_sound y e = record { means = λ t. e; refused = λ t. absurd (true≢false (sym w.test ∙ t)); unsound = λ u. e }

    -- A refused preparation shows nothing, any other what its preview does.
    module _ (d : TriedBatch) (e : ran_of d (tried_on s st i b lent o).bytes ≡ tried_on s st i b lent o) where
      pub shows_refused : (why : Refusal) → d.answer ≡ Err why → ShowsAt s st i b lent index (λ x. x) M.nothing
      unfolding M.shown_in
      shows_refused why q = shows_sound M.nothing (go (tried w b lent reached))
        where
          go : Asked → M.nothing ≡ defined
          go (inl a) = sym (previewed_sound w.whole (Err a.number) a.says)
          go (inr a) = absurd (none_some (sym a.refused ∙ told_refused d ran (Err why) e q))

      pub shows_ready : d.answer ≡ (Ok tt) → (r : Option Shown) → r ≡ shown_by o d.preview (M.supplied index (entries_of b.entries.now lent)) index
          → ShowsAt s st i b lent index (λ x. x) (shown_of r)
      shows_ready q r y =
          shows_sound (shown_of r)
          (ap shown_of y ∙ ap (λ (x : Ran). shown_of (shown_by o x.preview (M.supplied index (entries_of b.entries.now lent)) index)) e ∙ go (tried w b lent reached))
        where
          go : Asked → shown_of (shown_by o ran.preview (M.supplied index (entries_of b.entries.now lent)) index) ≡ defined
          go (inl a) = absurd (none_some (sym (told_refused d ran (Ok tt) e q) ∙ a.refused))
          go (inr a) =
              preview_shows s st i o w b lent index ran a.next a.stands a.says (tried_fit s st i b lent o reached a.refused) ∙ sym (previewed_sound w.whole (Ok a.next) a.says)

module _ {s : RecoveredRaftStorage} {st : List ℕ} {i : RaftReplicaIdentity} {b : RaftPersistenceBatch} {lent : List ℕ} {index : ℕ}
    {r : Result SoundStorage Refusal} (e : opened_of r ≡ opens s st) where
  -- State and store are not sound ..
  pub shows_unsound : {w : Refusal} → r ≡ Err w → ShowsAt s st i b lent index (λ x. x) M.nothing
  shows_unsound o = nothing_unsound s st i b lent index (refused_parts s st e o).0

  -- .. or they are: what the tested ones show.
  pub shows_opened : {h : SoundStorage} → r ≡ Ok h → {y : M.Shown} → ShowsAt h.state.now h.store.now i b lent index (λ x. x) y → ShowsAt s st i b lent index (λ x. x) y
  shows_opened o {y = y} k = opened_is e o (λ (p : Parts). ShowsAt p.0 p.1 i b lent index (λ x. x) y) k
