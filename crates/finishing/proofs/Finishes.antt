-- The loops of finishing, and what its answer means.
-- Assumes nothing.
use mathlib.Core.Path.{◌≡◌, sym, ap, ◌∙◌}
use mathlib.Core.Bool.{Bool, true, false, cond, true≢false}
use mathlib.Core.List.{List}
use Prim.Native.Nat.{ℕ, ◌+◌, ◌<◌, ◌≤◌}
use native.Mathlib.Omega.{arith}
use lib.ListN.{length}
use Rattle.definition.specs.Recovery.{out}
use Rattle.definition.proofs.Store.{finish_unsound}
use Rattle.view.specs.declared.Header.{Header}
use Rattle.view.specs.Model.{maximum_term, finished}
use Rattle.storage.specs.declared.RecoveredRaftStorage.{RecoveredRaftStorage}
use Rattle.finishing.specs.declared.Finished.{Finished}
use Rattle.storage.specs.Model.{head_at, entries_in, headed, finished_head, finished_to, finished_storage}
use Rattle.storage.specs.Meaning.{recovery_of}
use Rattle.soundness.specs.Sound.{sound_test, Limits}
use Rattle.finishing.specs.Finishes.{finished_of, finished_done, unsound_done, Finishes}
use Rattle.storage.proofs.Finish.{finish_none, finish_one, finish_next}
use Rattle.soundness.proofs.Sound.{test_linked, test_state, test_sound}
use Rattle.finishing.proofs.Sound.{finished_is, finished_test}

-- One more replica is finished.
pub finish_turn : (s t : RecoveredRaftStorage) (j m : ℕ) (h : Header) → j < 8 → t ≡ finished_to j s → m ≡ maximum_term (head_at t j) (entries_in t j) → h ≡ finished (head_at t j) m
    → headed t j h t.scan ≡ finished_to (j + 1) s
finish_turn s t j m h l e em eh =
    let own : h ≡ finished_head s j =
    eh ∙ ap (finished (head_at t j)) em
    ∙ ap (λ (x : RecoveredRaftStorage). finished_head x j) e
    ∙ ap (λ (x : Header). finished x (maximum_term x (entries_in s j))) (finish_next s j l) in
    ap (λ (x : RecoveredRaftStorage). headed x j h x.scan) e
    ∙ ap (λ (x : Header). headed (finished_to j s) j x s.scan) own
    ∙ (λ i. record { heads = finish_one s j l i; entries = s.entries; held = s.held; scan = s.scan })

-- What the loop keeps, from s: t is s with the first j replicas finished.
pub record Finishing (s t : RecoveredRaftStorage) (j : ℕ) : Type 0 where
  pub limits : Limits s
  pub done : t ≡ finished_to j s

pub finishing_start : (s : RecoveredRaftStorage) → length s.heads ≡ 8 → Limits s → Finishing s s 0
finishing_start s l k = record { limits = k; done = sym (finish_none s l) }

pub finishing_turn : (s t : RecoveredRaftStorage) (j m : ℕ) (h : Header) → j < 8 → Finishing s t j → m ≡ maximum_term (head_at t j) (entries_in t j) → h ≡ finished (head_at t j) m
    → Finishing s (headed t j h t.scan) (j + 1)
finishing_turn s t j m h l f em eh = record { limits = f.limits; done = finish_turn s t j m h l f.done em eh }

pub finishing_end : (s t : RecoveredRaftStorage) (j : ℕ) → Finishing s t j → j ≤ s.held → s.held ≤ j → t ≡ finished_storage s
finishing_end s t j f l l' =
    let e : j ≡ s.held = omega arith in
    f.done ∙ ap (λ (i : ℕ). finished_to i s) e

-- The answer and the state, where state and store are sound and where they are not.
pub finishes_sound : (s : RecoveredRaftStorage) (st : List ℕ) (d : Finished) → length s.heads ≡ 8 → length s.entries ≡ 512 → sound_test s st ≡ true → d ≡ finished_done s → Finishes s st d
finishes_sound s st d eight all q e =
    let k = test_linked s st eight all q in
    let o = test_state s st eight all q in
    record {
      model = e ∙ sym (ap (λ (b : Bool). cond b (finished_done s) (unsound_done s)) q);
      means = λ q'. finished_is s st k o ∙ sym (ap (λ (x : Finished). out (finished_of x.answer) (recovery_of x.state st)) e);
      stays = λ q'. ap (λ (x : Finished). sound_test x.state st) e ∙ finished_test s st k o;
      refused = λ q'. absurd (true≢false (sym q ∙ q'));
      kept = λ q'. absurd (true≢false (sym q ∙ q'));
      unsound = λ q'. absurd (true≢false (sym (test_sound s st eight all q).whole ∙ q'));
    }

pub finishes_unsound : (s : RecoveredRaftStorage) (st : List ℕ) (d : Finished) → sound_test s st ≡ false → d ≡ unsound_done s → Finishes s st d
finishes_unsound s st d q e =
    record {
      model = e ∙ sym (ap (λ (b : Bool). cond b (finished_done s) (unsound_done s)) q);
      means = λ q'. absurd (true≢false (sym q' ∙ q));
      stays = λ q'. absurd (true≢false (sym q' ∙ q));
      refused = λ q'. ap (λ (x : Finished). x.answer) e;
      kept = λ q'. ap (λ (x : Finished). x.state) e;
      unsound = λ q'. finish_unsound (recovery_of s st) q' ∙ sym (ap (λ (x : Finished). out (finished_of x.answer) (recovery_of x.state st)) e);
    }
