-- Document 01's number of each refusal, and what a check's answer means: the number of the refusal, none where there is none.
-- Assumes nothing.
use Rattle.std.specs.Prelude.{ℕ, Result, Ok, Err, Option, None, Some}
use Rattle.ids.specs.declared.Refusal.{Refusal}
use Rattle.ids.specs.declared.Refusal.TheVariants as R

abbrev pub number_of : Refusal → ℕ
number_of R.Unsound = 1
number_of R.NonIncreasingWalLsn = 2
number_of R.ZeroConfigurationReplicaId = 3
number_of R.ZeroConfigurationVersion = 4
number_of R.UnsupportedEntryVersion = 5
number_of R.ZeroRaftGroupId = 6
number_of R.ZeroReplicaId = 7
number_of R.ZeroLogIndex = 8
number_of R.ZeroTerm = 9
number_of R.CommandUnfit = 10
number_of R.ZeroHardStateGroupId = 11
number_of R.ZeroHardStateReplicaId = 12
number_of R.ZeroVotedForReplicaId = 13
number_of R.UnsupportedHardStateVersion = 14
number_of R.ZeroCurrentTerm = 15
number_of R.ZeroSnapshotGroupId = 16
number_of R.ZeroSnapshotReplicaId = 17
number_of R.UnsupportedSnapshotVersion = 18
number_of R.ZeroSnapshotId = 19
number_of R.InvalidSnapshotBoundary = 20
number_of R.SnapshotAppliedIndexMismatch = 21
number_of R.InvalidSnapshotFileMetadata = 22
number_of R.TooManyReplicas = 23
number_of R.EntryAtOrBelowTruncation = 24
number_of R.EntryAtOrBelowSnapshot = 25
number_of R.ConflictingPayload = 26
number_of R.CommittedPrefixOverwrite = 27
number_of R.MissingLogPrefix = 28
number_of R.NonContiguousAppend = 30
number_of R.LogTermRegression = 31
number_of R.LogFull = 32
number_of R.TermRegression = 33
number_of R.CommitRegression = 34
number_of R.VoteChangedInTerm = 35
number_of R.VoteClearedInTerm = 36
number_of R.HardStateCommitBeyondRecoveredLog = 37
number_of R.ViewCommitRegression = 38
number_of R.SnapshotIndexRegression = 39
number_of R.ConflictingSnapshotPointer = 40
number_of R.SnapshotTermRegression = 41
number_of R.SnapshotBoundaryTermMismatch = 42
number_of R.TooManyEntries = 43
number_of R.SnapshotWithoutHardState = 44
number_of R.SnapshotIdentityMismatch = 45
number_of R.PreviewLsnExhausted = 46
number_of R.HardStateBeforeSnapshotTerm = 47
number_of R.HardStateBeforeSnapshotCommit = 48
number_of R.CommitBeyondLog = 49
number_of R.HardStateBeforeLogTerm = 50
number_of R.TermWithoutBoundary = 51
number_of R.BoundaryWithoutTerm = 52
number_of R.TruncationBeyondApplied = 53
number_of R.TruncationRegression = 54
number_of R.AppliedRegression = 55
number_of R.BoundaryTermChanged = 56

abbrev pub checked_of : Result (Unit {0}) Refusal → Option ℕ
checked_of (Ok _) = None
checked_of (Err r) = Some (number_of r)

-- The same of an answer that gives something: f says what.
abbrev pub result_of : {T A : Type 0} → (T → A) → Result T Refusal → Result A ℕ
result_of f (Ok t) = Ok (f t)
result_of f (Err r) = Err (number_of r)
