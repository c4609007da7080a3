-- What a shelf of files holds, and what a fetch gives.
use Rattle.std.specs.Prelude.{◌≡◌, ◌⊎◌, ℕ, ◌≤◌, List, Option, None, Some, Result, OnErr, OnOk, length, take, drop, ⊤}
use Rattle.std.specs.Ordering.{nat_cmp}
use Rattle.std.specs.Cmp.Lexicographic.{slice_cmp}
use Rattle.std.specs.FinMap.{FinMap, get}
use Rattle.outside.specs.Causes.{Rose}

-- a finite map from the bytes of a name to the bytes of a file
abbrev pub Files : Type 0
Files = FinMap (slice_cmp nat_cmp) (List ℕ)

-- what holds of the file of a name, which may be none, where the shelf tells what it holds
abbrev pub FileIs : Option Files → List ℕ → (Option (List ℕ) → Type 0) → Type 0
FileIs None name P = ⊤
FileIs (Some files) name P = P (get files name)

-- the shelf tells what it holds, and the name is not among it
abbrev pub IsAbsent : Option Files → List ℕ → Type 0
IsAbsent None name = ⊥
IsAbsent (Some files) name = get files name ≡ None

-- the n bytes of the piece are those of the file from a place on, and none exactly at its end or past it
pub record IsPieceOf (file : List ℕ) (at n : ℕ) (piece : List ℕ) : Type 0 where
  pub bytes : piece ≡ take n (drop at file)
  pub end : n ≡ 0 → length file ≤ at
  pub past : length file ≤ at → n ≡ 0

-- a fetch gave a piece of the file, and never anything of a file that is not held
abbrev pub FetchGives : Option (List ℕ) → ℕ → ℕ → List ℕ → Type 0
FetchGives None at n piece = ⊥
FetchGives (Some file) at n piece = IsPieceOf file at n piece

-- the count never falls; a failure comes only where it rose or the name is absent; a success and an absent name
-- leave it
pub record FetchHasCause {T E : Type 0} (holds : Option Files) (name : List ℕ) (before now : ℕ) (result : Result T E)
    : Type 0 where
  pub later : before ≤ now
  pub failed : OnErr result (Rose before now ⊎ IsAbsent holds name)
  pub kept : OnOk result (now ≡ before)
  pub absent : IsAbsent holds name → now ≡ before
