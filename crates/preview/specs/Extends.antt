-- What the entries of a batch are to the definition: a refusal ends the whole, else the rest of the batch follows on the preview that
-- the entries leave.
-- Assumes nothing.
use Rattle.std.specs.Prelude.{ℕ, ◌+◌, ◌≡◌, ◌⊎◌, List, None, Some, Result, Err}
use Rattle.definition.specs.Records.{Identity, LogEntry}
use Rattle.definition.specs.Log as D
use Rattle.definition.specs.Batch as M
use Rattle.view.specs.Meaning.{view_of, Means}
use Rattle.preview.specs.declared.Preview.{Preview}
use Rattle.preview.specs.Preview.{Ran}

-- x is what the entry d leaves of the preview p, at the next LSN.
pub record Next (p : Preview) (cs : List ℕ) (d : LogEntry) (x : Ran) : Type 0 where
  pub means : Means x.preview.head x.preview.entries x.bytes (D.with_entry d (p.lsn + 1) (view_of p.head p.entries cs))
  pub lsn : x.preview.lsn ≡ p.lsn + 1

-- An entry refuses the batch ..
pub record Ends (x : Ran) (whole : Result M.Preview ℕ) : Type 0 where
  pub number : ℕ
  pub refused : x.refused ≡ Some number
  pub says : whole ≡ Err number

-- .. or none does, and what follows the entries is asked on the preview that they leave.
pub record Goes (x : Ran) (i : Identity) (batch : M.Batch) (was : D.Log ℕ) (whole : Result M.Preview ℕ) : Type 0 where
  pub next : M.Preview
  pub refused : x.refused ≡ None
  pub says : whole ≡ M.hardened i batch was batch.hard_state next
  pub means : Means x.preview.head x.preview.entries x.bytes next.log
  pub lsn : next.lsn ≡ x.preview.lsn

abbrev pub Extends : Ran → Identity → M.Batch → D.Log ℕ → Result M.Preview ℕ → Type 0
Extends x i batch was whole = Ends x whole ⊎ Goes x i batch was whole
