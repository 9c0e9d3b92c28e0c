-- What a sound state's reader answers is what the reader of a state and a store answers, which tests them first.
-- Assumes nothing.
use Rattle.std.specs.Prelude.{if◌then◌else◌, Option, None, Some, option_map, Result, Ok, Err}
use Rattle.std.specs.Result.{IsErr, IsErrAnd}
use Rattle.std.proofs.lemmas.Result.{err_from_is_err_and}
use mathlib.Core.Path.{◌≡◌, refl, sym, ap, subst, ◌∙◌}
use mathlib.Core.Bool.{Bool, true, false, true≢false}
use mathlib.Core.List.{List, []}
use Prim.Native.Nat.{ℕ}
use Rattle.definition.specs.Table.{◌<?◌}
use Rattle.definition.specs.Recovery.{State, place_of, replica_at}
use Rattle.ids.specs.Identity.{identity_of}
use Rattle.ids.specs.Refusal.{result_of}
use Rattle.ids.specs.declared.RaftReplicaIdentity.{RaftReplicaIdentity}
use Rattle.ids.specs.declared.Refusal.{Refusal}
use Rattle.ids.specs.declared.Refusal.TheVariants as W
use Rattle.view.specs.declared.Header.{Header}
use Rattle.view.specs.Meaning.{view_of, held_of}
use Rattle.storage.specs.declared.RecoveredRaftStorage.{RecoveredRaftStorage}
use Rattle.storage.specs.Model.{head_at, entries_in, bytes_in}
use Rattle.storage.specs.Meaning.{recovery_of}
use Rattle.soundness.specs.Sound.{sound_test}
use Rattle.readers.specs.declared.SoundStorage.{SoundStorage}
use Rattle.readers.specs.Own.{own_in}
use Rattle.readers.specs.Reads.{Reads, ReadsReplica, ReadsPlace, Shows, place_in, command_at}
use Rattle.readers.specs.Sound.{opened_of, opens, state_in, log_for}
use Rattle.definition.proofs.Store.{ask_sound, ask_unsound}
use Rattle.readers.proofs.Answers.{test_passed, whole, reads_sound}

ok_if : {A : Type 0} (b : Bool) (x y : A) → ◌≡◌ {A = Result A Refusal} (Ok (if b then x else y)) (if b then Ok x else Ok y)
ok_if true x y = refl
ok_if false x y = refl

abbrev pub Parts : Type 0
Parts = RecoveredRaftStorage × List ℕ

module _ (s : RecoveredRaftStorage) (st : List ℕ) where
  -- What was opened is the state and the store that were given.
  ok_parts : (p : Parts) → Ok p ≡ opens s st → p ≡ (s, st)
  ok_parts p = go (sound_test s st)
    where
      go : (b : Bool) → Ok p ≡ (if b then Ok (s, st) else Err W.Unsound) → p ≡ (s, st)
      go true e = cc e
      go false e = cc e

  err_parts : (w : Refusal) → ◌≡◌ {A = Result Parts Refusal} (Err w) (opens s st) → (sound_test s st ≡ false) × (w ≡ W.Unsound)
  err_parts w = go (sound_test s st) refl
    where
      go : (b : Bool) → sound_test s st ≡ b → ◌≡◌ {A = Result Parts Refusal} (Err w) (if b then Ok (s, st) else Err W.Unsound) → (sound_test s st ≡ false) × (w ≡ W.Unsound)
      go true t e = cc e
      go false t e = (t, cc e)

  pub refused_parts : {r : Result SoundStorage Refusal} → opened_of r ≡ opens s st → {w : Refusal} → r ≡ Err w → (sound_test s st ≡ false) × (w ≡ W.Unsound)
  refused_parts e {w = w} o = err_parts w (ap opened_of (sym o) ∙ e)

module _ {s : RecoveredRaftStorage} {st : List ℕ} {r : Result SoundStorage Refusal} (e : opened_of r ≡ opens s st) where
  -- Where they are sound: what the opened ones give, of any two that are the given ones.
  module _ {h : SoundStorage} (o : r ≡ Ok h) where
    pub opened_is : (P : Parts → Type 0) → P (h.state.now, h.store.now) → P (s, st)
    opened_is P = subst P (ok_parts s st (h.state.now, h.store.now) (ap opened_of (sym o) ∙ e))

    pub reads_in : {A : Type 0} {f : State → A} (x : Parts → A) → x (h.state.now, h.store.now) ≡ f (state_in h) → Reads s st f (Ok (x (s, st)))
    reads_in {f = f} x a = opened_is (λ (p : Parts). Reads p.0 p.1 f (Ok (x p))) (reads_sound h.sound refl (ap Ok (sym a)))

    pub reads_opened : {A : Type 0} {f : State → A} {x : A} → x ≡ f (state_in h) → Reads s st f (Ok x)
    reads_opened {x = x} a = reads_in (λ p. x) a

    pub replica_opened : {i : RaftReplicaIdentity} {x : Header} → view_of x (entries_in h.state.now (place_in h.state.now h.store.now (identity_of i))) (bytes_in h.store.now (place_in h.state.now h.store.now (identity_of i))) ≡ log_for h i
        → x ≡ (own_in h.state.now i (place_of (identity_of i) (state_in h).replicas)).head → ReadsReplica s st i (Ok x)
    replica_opened {i = i} {x = x} a b =
        opened_is (λ (p : Parts). ReadsReplica p.0 p.1 i (Ok x)) (record { reads = reads_sound h.sound refl (ap Ok (sym a)); own = λ t. ap Ok b })

    pub place_opened : {p : ℕ} {x : Option Header} → option_map (λ y. held_of y (entries_in h.state.now p) (bytes_in h.store.now p)) x ≡ replica_at p (state_in h)
        → x ≡ (if p <? h.state.now.held then Some (head_at h.state.now p) else None) → ReadsPlace s st p (Ok x)
    place_opened {p = p} {x = x} a b =
        opened_is (λ (q : Parts). ReadsPlace q.0 q.1 p (Ok x))
        (record { reads = reads_sound h.sound refl (ap Ok (sym a)); own = λ t. ap Ok b ∙ ok_if (p <? h.state.now.held) (Some (head_at h.state.now p)) None })

    pub shows_opened : {i : RaftReplicaIdentity} {x : ℕ} {shown : List ℕ} → shown ≡ command_at (identity_of i) x (state_in h) → Shows s st (identity_of i) x shown
    shows_opened {i = i} {x = x} {shown = shown} a =
        opened_is (λ (p : Parts). Shows p.0 p.1 (identity_of i) x shown)
        (record {
          means = λ t. ask_sound (command_at (identity_of i) x) (recovery_of h.state.now h.store.now) (whole h.sound refl) ∙ ap Ok (sym a);
          nothing = λ t. absurd (true≢false (sym (test_passed h.sound refl) ∙ t));
          unsound = λ u. absurd (true≢false (sym (whole h.sound refl) ∙ u));
        })

  -- Where they are not: the refusal.
  module _ {w : Refusal} (o : r ≡ Err w) where
    pub reads_refused : {T : Type 0} (q : Result T Refusal) → IsErr q → IsErrAnd q (λ v. v ≡ w) → {A : Type 0} (g : T → A) {f : State → A} → Reads s st f (result_of g q)
    reads_refused q i a g {f = f} =
        let p = err_from_is_err_and q a in
        let k = refused_parts s st e o in
        let m : result_of g q ≡ Err 1 = ap (result_of g) (p.1 ∙ ap Err (p.2 ∙ k.1)) in
        record {
          means = λ t. absurd (true≢false (sym t ∙ k.0));
          refused = λ t. m;
          unsound = λ u. ask_unsound f (recovery_of s st) u ∙ sym m;
        }

    pub shows_refused : {i : RaftReplicaIdentity} {x : ℕ} → Shows s st (identity_of i) x []
    shows_refused {i = i} {x = x} =
        record {
          means = λ t. absurd (true≢false (sym t ∙ (refused_parts s st e o).0));
          nothing = λ t. refl;
          unsound = ask_unsound (command_at (identity_of i) x) (recovery_of s st);
        }
