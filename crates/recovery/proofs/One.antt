-- One record observed, from a state that is sound and from one that is not.
-- Assumes nothing.
use Rattle.std.specs.Prelude.{Result, Err}
use mathlib.Core.Path.{◌≡◌, refl, sym, ap, subst, ◌∙◌}
use mathlib.Core.Bool.{true, false, true≢false}
use mathlib.Core.List.{List}
use Prim.Native.Nat.{ℕ, ◌<◌}
use lib.ListN.{length}
use Rattle.definition.specs.Recovery.{out, observe}
use Rattle.definition.proofs.Store.{observe_unsound}
use Rattle.ids.specs.declared.Refusal.{Refusal}
use Rattle.ids.specs.declared.Refusal.TheVariants as R
use Rattle.codec.specs.declared.WalRecord.{WalRecord}
use Rattle.codec.specs.Records.{record_of}
use Rattle.replay.specs.declared.Observation.{Observation}
use Rattle.replay.specs.Plan.{answer_of}
use Rattle.storage.specs.declared.RecoveredRaftStorage.{RecoveredRaftStorage}
use Rattle.storage.specs.Meaning.{recovery_of}
use Rattle.soundness.specs.Sound.{sound_test}
use Rattle.soundness.proofs.Sound.{test_sound}
use Rattle.routing.specs.Observe.{Stepped, stepped}
use Rattle.routing.specs.Admits.{index_in}
use Rattle.routing.proofs.Ready.{Ready, test_ready, ready_test}
use Rattle.routing.proofs.Stepped.{stepped_is, stepped_ready}
use Rattle.recovery.specs.Runs.{Observing}
use Rattle.recovery.proofs.Turn.{fits_record}

-- What a step leaves means the definition's next state, and is ready for the next one.
module _ (s : RecoveredRaftStorage) (st : List ℕ) (r : WalRecord) (lent : List ℕ) (ready : Ready s st) (b : Result Observation Refusal) (s' : RecoveredRaftStorage) (st' : List ℕ)
    (m : index_in r.body < 18446744073709551616) (x : stepped s st r lent ≡ record { answer = answer_of b; state = s'; store = st' }) where
  pub step_means : observe (recovery_of s st) (record_of r lent) ≡ out (answer_of b) (recovery_of s' st')
  step_means = stepped_is s st r lent ready (fits_record r lent m) ∙ ap (λ (y : Stepped). out y.answer (recovery_of y.state y.store)) x

  pub step_ready : Ready s' st'
  step_ready = subst (λ (y : Stepped). Ready y.state y.store) x (stepped_ready s st r lent ready (fits_record r lent m))

module _ (s : RecoveredRaftStorage) (st : List ℕ) (r : WalRecord) (lent : List ℕ) (eight : length s.heads ≡ 8) (all : length s.entries ≡ 512) where
  pub one_observes : sound_test s st ≡ true → (b : Result Observation Refusal) (s' : RecoveredRaftStorage) (st' : List ℕ) → index_in r.body < 18446744073709551616
      → stepped s st r lent ≡ record { answer = answer_of b; state = s'; store = st' } → Observing s st r lent (record { answer = b; state = s' }) st'
  one_observes f b s' st' m x =
      let ready = test_ready s st eight all f in
      record {
        model = rw f (sym x);
        means = λ q. step_means s st r lent ready b s' st' m x;
        machine = λ q. fits_record r lent m;
        stays = λ q l. ready_test s' st' (step_ready s st r lent ready b s' st' m x) l;
        refused = λ q. absurd (true≢false (sym f ∙ q));
        unsound = λ q. absurd (true≢false (sym (test_sound s st eight all f).whole ∙ q));
      }

  pub one_unsound : sound_test s st ≡ false → Observing s st r lent (record { answer = Err R.Unsound; state = s }) st
  one_unsound f =
      record {
        model = rw f refl;
        means = λ q. absurd (true≢false (sym q ∙ f));
        machine = λ q. absurd (true≢false (sym q ∙ f));
        stays = λ q l. absurd (true≢false (sym q ∙ f));
        refused = λ q. refl;
        unsound = λ q. observe_unsound (recovery_of s st) (record_of r lent) q;
      }
