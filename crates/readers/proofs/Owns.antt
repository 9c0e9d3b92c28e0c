-- A replica by its place and header: what the definition holds for it.
-- Assumes nothing.
use Rattle.std.specs.Prelude.{Option, None, Some, unwrap_or, Result, Ok, Err}
use mathlib.Core.Path.{◌≡◌, refl, sym, ap, subst, ◌∙◌}
use mathlib.Core.Bool.{Bool, true}
use mathlib.Core.List.{List}
use Prim.Native.Nat.{ℕ, ◌+◌, ◌*◌, ◌<◌, ◌≤◌}
use native.Mathlib.Omega.{arith}
use lib.ListN.{length, get_or}
use Rattle.definition.specs.Table.{u64_max}
use Rattle.definition.specs.Log.{Log, empty}
use Rattle.definition.specs.Recovery.{place_of, ascending, replica_of, sound}
use Rattle.definition.proofs.Sound.{state_facts}
use Rattle.ids.specs.Identity.{identity_of}
use Rattle.ids.specs.declared.RaftReplicaIdentity.{RaftReplicaIdentity}
use Rattle.store.proofs.Part.{length_part, splice_none}
use Rattle.store.proofs.Zeros.{length_zeros}
use Rattle.store.specs.Zeros.{zeros}
use Rattle.view.specs.Meaning.{no_entry, size_of, view_of, base_of, Fits, Means}
use Rattle.view.specs.Model.{empty_header}
use Rattle.view.proofs.Head.{empty_view, empty_fits}
use Rattle.storage.specs.declared.RecoveredRaftStorage.{RecoveredRaftStorage}
use Rattle.storage.specs.Model.{head_at, entries_in, bytes_in}
use Rattle.storage.specs.Meaning.{meaning, recovery_of, Linked}
use Rattle.storage.specs.Finding.{found_at}
use Rattle.storage.proofs.Finding.{Told, found_told, at_lookup, at_place, missing_lookup, missing_place}
use Rattle.soundness.specs.Sound.{sound_test, Sound}
use Rattle.soundness.proofs.Sound.{test_linked, test_state, test_sound}
use Rattle.readers.specs.declared.Own.{Own}
use Rattle.readers.specs.Own.{Passes, own_in, found_place, own_for, block_of}
use Rattle.readers.specs.Reads.{place_in}
use Rattle.readers.proofs.Answers.{test_passed}
use Rattle.readers.proofs.Kept.{held_block}

-- What stands at an own place: the log that the definition holds for the replica, within its limits.
abbrev pub log_in : RecoveredRaftStorage → List ℕ → Own → Log ℕ
log_in s st o = view_of o.head (entries_in s o.place) (bytes_in st o.place)

pub record Owns (s : RecoveredRaftStorage) (st : List ℕ) (i : RaftReplicaIdentity) (o : Own) : Type 0 where
  pub test : sound_test s st ≡ true
  pub whole : sound (recovery_of s st) ≡ true
  pub view : log_in s st o ≡ replica_of (identity_of i) (meaning s st)
  pub stands : o ≡ own_in s i (place_of (identity_of i) (meaning s st).replicas)
  pub low : o.place < 8
  pub size : length st ≡ 32768
  pub short : o.head.len ≤ 64
  pub indices : base_of o.head + o.head.len ≤ u64_max + 1
  pub sizes : (q : ℕ) → q < o.head.len → size_of (get_or (entries_in s o.place) q no_entry).payload ≤ 64
  pub all : length s.entries ≡ 512
  pub means : Means o.head (entries_in s o.place) (block_of st o) (replica_of (identity_of i) (meaning s st))

module _ (s : RecoveredRaftStorage) (st : List ℕ) (i : RaftReplicaIdentity) (e : sound_test s st ≡ true) (k : Sound s st) (l : Linked s st) (asc : ascending (meaning s st).replicas ≡ true) where
  own_view : (p : ℕ) → Told s (identity_of i) (Ok p) → view_of (head_at s p) (entries_in s p) (bytes_in st p) ≡ replica_of (identity_of i) (meaning s st)
  unfolding replica_of
  own_view p t = sym (ap (λ (x : Option (Log ℕ)). unwrap_or x empty) (at_lookup s st (identity_of i) p t))

  no_view : (p : ℕ) → Told s (identity_of i) (Err p) → (cs : List ℕ) → view_of (empty_header i) (entries_in s 0) cs ≡ replica_of (identity_of i) (meaning s st)
  unfolding replica_of
  no_view p t cs = empty_view i (entries_in s 0) cs ∙ sym (ap (λ (x : Option (Log ℕ)). unwrap_or x empty) (missing_lookup s st (identity_of i) p asc t))

  owns_found : (x : Result ℕ ℕ) → Told s (identity_of i) x → Owns s st i (own_in s i (found_place x))
  owns_found (Ok p) t =
      let f : Fits (head_at s p) (entries_in s p) (bytes_in st p) = l.own p t.1 in
      record {
        test = e;
        whole = k.whole;
        view = own_view p t;
        stands = sym (ap (own_in s i) (at_place s st (identity_of i) p t));
        low = omega (arith, t.1, l.few);
        size = l.size;
        short = f.short;
        indices = f.indices;
        sizes = f.sizes;
        all = l.all;
        means =
            subst (λ (cs : List ℕ). Means (head_at s p) (entries_in s p) cs (replica_of (identity_of i) (meaning s st)))
            (sym (held_block (head_at s p) (entries_in s p) st p f l.size (omega (arith, t.1, l.few))))
            (record {
              view = own_view p t;
              fits = f;
              places = length_part (64 * p) 64 s.entries (omega (arith, t.1, l.few, l.all));
              bytes = length_part (4096 * p) 4096 st (omega (arith, t.1, l.few, l.size));
            });
      }
  owns_found (Err p) t =
      record {
        test = e;
        whole = k.whole;
        view = no_view p t (bytes_in st 0);
        stands = sym (ap (own_in s i) (missing_place s st (identity_of i) p asc t));
        low = omega arith;
        size = l.size;
        short = omega arith;
        indices = omega arith;
        sizes = λ q h. absurd (omega arith);
        all = l.all;
        means =
            subst (λ (cs : List ℕ). Means (empty_header i) (entries_in s 0) cs (replica_of (identity_of i) (meaning s st))) (sym (splice_none (zeros 4096) 0))
            (record {
              view = no_view p t (zeros 4096);
              fits = empty_fits i (entries_in s 0);
              places = length_part 0 64 s.entries (omega (arith, l.all));
              bytes = length_zeros 4096;
            });
      }

own_place : (s : RecoveredRaftStorage) (i : RaftReplicaIdentity) (x : Option ℕ) → unwrap_or x 0 ≡ (own_in s i x).place
own_place s i None = refl
own_place s i (Some p) = refl

module _ {s : RecoveredRaftStorage} {st : List ℕ} {i : RaftReplicaIdentity} {o : Own} where
  -- Where the test was passed, and the place is the one that was found.
  pub owns : {b : Bool} → Passes s st b → b ≡ true → o ≡ own_for s i → Owns s st i o
  owns k q e =
      let t : sound_test s st ≡ true = test_passed k q in
      let asc : ascending (meaning s st).replicas ≡ true = (state_facts (meaning s st) (test_state s st k.eight k.all t)).ascends in
      rw e
      (owns_found s st i t (test_sound s st k.eight k.all t) (test_linked s st k.eight k.all t) asc (found_at s (identity_of i)) (found_told s (identity_of i)))

  -- The place is the definition's.
  pub place_in_lem : Owns s st i o → place_in s st (identity_of i) ≡ o.place
  place_in_lem w = own_place s i (place_of (identity_of i) (meaning s st).replicas) ∙ ap (λ (x : Own). x.place) (sym w.stands)
