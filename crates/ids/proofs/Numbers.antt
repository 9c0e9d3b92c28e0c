-- A refusal's number says which refusal it is, and so does the meaning of a check's answer.
-- Assumes nothing.
use Prim.Native.Nat.{ℕ, pred}
use mathlib.Core.Path.{◌≡◌, refl, ap, sym, ◌∙◌}
use mathlib.Core.List.{List, [], ◌∷◌}
use native.Mathlib.Omega.{arith}
use lib.ListN.{get_or}
use Rattle.ids.specs.declared.Refusal.{Refusal}
use Rattle.ids.specs.declared.Refusal.TheVariants as R
use Rattle.std.specs.Prelude.{Result, Ok, Err}
use Rattle.ids.specs.Refusal.{number_of, checked_of, result_of}

-- By number, less one. 29 is reserved: at its place the next stands.
abbrev refusals : List Refusal
refusals =
    R.Unsound
    ∷ R.NonIncreasingWalLsn
    ∷ R.ZeroConfigurationReplicaId
    ∷ R.ZeroConfigurationVersion
    ∷ R.UnsupportedEntryVersion
    ∷ R.ZeroRaftGroupId
    ∷ R.ZeroReplicaId
    ∷ R.ZeroLogIndex
    ∷ R.ZeroTerm
    ∷ R.CommandUnfit
    ∷ R.ZeroHardStateGroupId
    ∷ R.ZeroHardStateReplicaId
    ∷ R.ZeroVotedForReplicaId
    ∷ R.UnsupportedHardStateVersion
    ∷ R.ZeroCurrentTerm
    ∷ R.ZeroSnapshotGroupId
    ∷ R.ZeroSnapshotReplicaId
    ∷ R.UnsupportedSnapshotVersion
    ∷ R.ZeroSnapshotId
    ∷ R.InvalidSnapshotBoundary
    ∷ R.SnapshotAppliedIndexMismatch
    ∷ R.InvalidSnapshotFileMetadata
    ∷ R.TooManyReplicas
    ∷ R.EntryAtOrBelowTruncation
    ∷ R.EntryAtOrBelowSnapshot
    ∷ R.ConflictingPayload
    ∷ R.CommittedPrefixOverwrite
    ∷ R.MissingLogPrefix
    ∷ R.NonContiguousAppend
    ∷ R.NonContiguousAppend
    ∷ R.LogTermRegression
    ∷ R.LogFull
    ∷ R.TermRegression
    ∷ R.CommitRegression
    ∷ R.VoteChangedInTerm
    ∷ R.VoteClearedInTerm
    ∷ R.HardStateCommitBeyondRecoveredLog
    ∷ R.ViewCommitRegression
    ∷ R.SnapshotIndexRegression
    ∷ R.ConflictingSnapshotPointer
    ∷ R.SnapshotTermRegression
    ∷ R.SnapshotBoundaryTermMismatch
    ∷ R.TooManyEntries
    ∷ R.SnapshotWithoutHardState
    ∷ R.SnapshotIdentityMismatch
    ∷ R.PreviewLsnExhausted
    ∷ R.HardStateBeforeSnapshotTerm
    ∷ R.HardStateBeforeSnapshotCommit
    ∷ R.CommitBeyondLog
    ∷ R.HardStateBeforeLogTerm
    ∷ R.TermWithoutBoundary
    ∷ R.BoundaryWithoutTerm
    ∷ R.TruncationBeyondApplied
    ∷ R.TruncationRegression
    ∷ R.AppliedRegression
    ∷ R.BoundaryTermChanged
    ∷ []

abbrev refusal_at : ℕ → Refusal
refusal_at n = get_or refusals (pred n) R.Unsound

found : (r : Refusal) → refusal_at (number_of r) ≡ r
found R.Unsound = refl
found R.NonIncreasingWalLsn = refl
found R.ZeroConfigurationReplicaId = refl
found R.ZeroConfigurationVersion = refl
found R.UnsupportedEntryVersion = refl
found R.ZeroRaftGroupId = refl
found R.ZeroReplicaId = refl
found R.ZeroLogIndex = refl
found R.ZeroTerm = refl
found R.CommandUnfit = refl
found R.ZeroHardStateGroupId = refl
found R.ZeroHardStateReplicaId = refl
found R.ZeroVotedForReplicaId = refl
found R.UnsupportedHardStateVersion = refl
found R.ZeroCurrentTerm = refl
found R.ZeroSnapshotGroupId = refl
found R.ZeroSnapshotReplicaId = refl
found R.UnsupportedSnapshotVersion = refl
found R.ZeroSnapshotId = refl
found R.InvalidSnapshotBoundary = refl
found R.SnapshotAppliedIndexMismatch = refl
found R.InvalidSnapshotFileMetadata = refl
found R.TooManyReplicas = refl
found R.EntryAtOrBelowTruncation = refl
found R.EntryAtOrBelowSnapshot = refl
found R.ConflictingPayload = refl
found R.CommittedPrefixOverwrite = refl
found R.MissingLogPrefix = refl
found R.NonContiguousAppend = refl
found R.LogTermRegression = refl
found R.LogFull = refl
found R.TermRegression = refl
found R.CommitRegression = refl
found R.VoteChangedInTerm = refl
found R.VoteClearedInTerm = refl
found R.HardStateCommitBeyondRecoveredLog = refl
found R.ViewCommitRegression = refl
found R.SnapshotIndexRegression = refl
found R.ConflictingSnapshotPointer = refl
found R.SnapshotTermRegression = refl
found R.SnapshotBoundaryTermMismatch = refl
found R.TooManyEntries = refl
found R.SnapshotWithoutHardState = refl
found R.SnapshotIdentityMismatch = refl
found R.PreviewLsnExhausted = refl
found R.HardStateBeforeSnapshotTerm = refl
found R.HardStateBeforeSnapshotCommit = refl
found R.CommitBeyondLog = refl
found R.HardStateBeforeLogTerm = refl
found R.TermWithoutBoundary = refl
found R.BoundaryWithoutTerm = refl
found R.TruncationBeyondApplied = refl
found R.TruncationRegression = refl
found R.AppliedRegression = refl
found R.BoundaryTermChanged = refl

pub number_of_injective : (r s : Refusal) → number_of r ≡ number_of s → r ≡ s
number_of_injective r s e = sym (found r) ∙ ap refusal_at e ∙ found s

-- No refusal has the number 29 (document 02, Q-2).
pub reserved_29 : (r : Refusal) → number_of r ≡ 29 → ⊥
reserved_29 r e = let z : ◌≡◌ {A = ℕ} 29 30 = sym e ∙ ap number_of (sym (found r) ∙ ap refusal_at e) in omega arith

pub checked_of_injective : (a b : Result (Unit {0}) Refusal) → checked_of a ≡ checked_of b → a ≡ b
checked_of_injective (Ok _) (Ok _) e = refl
checked_of_injective (Ok _) (Err s) e = cc e
checked_of_injective (Err r) (Ok _) e = cc e
checked_of_injective (Err r) (Err s) e = ap Err (number_of_injective r s (cc e))

pub result_of_injective : {T A : Type 0} (f : T → A) → ((t u : T) → f t ≡ f u → t ≡ u) → (a b : Result T Refusal) → result_of f a ≡ result_of f b → a ≡ b
result_of_injective f one (Ok t) (Ok u) e = ap Ok (one t u (cc e))
result_of_injective f one (Ok t) (Err s) e = cc e
result_of_injective f one (Err r) (Ok u) e = cc e
result_of_injective f one (Err r) (Err s) e = ap Err (number_of_injective r s (cc e))
