-- What a whole preparation is to the definition: a refusal by its number, or its preview.
-- Assumes nothing.
use Rattle.std.specs.Prelude.{ℕ, ◌≡◌, ◌⊎◌, None, Result, Ok}
use Rattle.definition.specs.Batch as M
use Rattle.view.specs.Meaning.{Means}
use Rattle.preview.specs.Preview.{Ran}
use Rattle.preview.specs.Extends.{Ends}

-- What is left is the preview v of the definition.
pub record Stands (x : Ran) (v : M.Preview) : Type 0 where
  pub means : Means x.preview.head x.preview.entries x.bytes v.log
  pub lsn : v.lsn ≡ x.preview.lsn

-- A part of a preparation refuses the batch, or what follows is asked on the preview v, which is what is left.
pub record Passes (x : Ran) (v : M.Preview) (go : M.Preview → Result M.Preview ℕ) (whole : Result M.Preview ℕ) : Type 0 where
  pub refused : x.refused ≡ None
  pub says : whole ≡ go v
  pub stands : Stands x v

abbrev pub Steps : Ran → M.Preview → (M.Preview → Result M.Preview ℕ) → Result M.Preview ℕ → Type 0
Steps x v go whole = Ends x whole ⊎ Passes x v go whole

-- The whole is ok with a preview ..
pub record Comes (x : Ran) (whole : Result M.Preview ℕ) : Type 0 where
  pub next : M.Preview
  pub refused : x.refused ≡ None
  pub says : whole ≡ Ok next
  pub stands : Stands x next

-- .. or it is refused.
abbrev pub Prepares : Ran → Result M.Preview ℕ → Type 0
Prepares x whole = Ends x whole ⊎ Comes x whole
