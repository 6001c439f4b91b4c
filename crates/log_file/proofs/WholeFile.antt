-- What is known of a file before it is read, and what that comes to once a piece is read.
use Rattle.std.proofs.Common.{◌≡◌, ℕ, List, take}
use Rattle.std.proofs.Common.{Option, Some, None, IfSome, subst}
use Rattle.ground_form.specs.declared.ground.Ground.{Ground}
use Rattle.desk_io.specs.Desk.{Files, OfFile}
use Rattle.log_check.specs.Fed.{Left, HasTaken, FailsAt}

-- P holds of the file's bytes, where files are told and the file is there
abbrev pub OfAny : Option Files → List ℕ → (List ℕ → Type 0) → Type 0
OfAny told name P = IfSome told (λ files. IfSome (files name) P)

-- the file is there, and so is what was known before
joined_here :
    (told : Option Files) (name : List ℕ) (P R Q : List ℕ → Type 0)
    → ((file : List ℕ) → P file → R file → Q file) → OfAny told name P → OfFile told name R
    → OfFile told name Q
joined_here None name P R Q both known read = tt
joined_here (Some files) name P R Q both known read =
    let there : P read.0 = subst (λ (o : Option (List ℕ)). IfSome o P) read.1 known in
    (read.0, read.1, both read.0 there read.2)

pub joined :
    (told mid : Option Files) (name : List ℕ) (P R Q : List ℕ → Type 0) → mid ≡ told
    → ((file : List ℕ) → P file → R file → Q file) → OfAny told name P → OfFile mid name R
    → OfFile told name Q
joined told mid name P R Q same both known read =
    joined_here told name P R Q both known
    (subst (λ (now : Option Files). OfFile now name R) same read)

-- a line that is refused
pub front_refused :
    (told mid : Option Files) (name : List ℕ) (g k : Ground) (done limit line : ℕ) (old : Left)
    → mid ≡ told → k ≡ g → OfAny told name (λ file. HasTaken g (take done file) old)
    → OfFile mid name (λ file. HasTaken k (take done file) old → FailsAt k (take limit file) line)
    → OfFile told name (λ file. FailsAt g (take limit file) line)
front_refused told mid name g k done limit line old same ground known read =
    joined told mid name (λ file. HasTaken g (take done file) old)
    (λ file. HasTaken k (take done file) old → FailsAt k (take limit file) line)
    (λ file. FailsAt g (take limit file) line) same
    (λ file h r.
    subst (λ (x : Ground). HasTaken x (take done file) old → FailsAt x (take limit file) line)
    ground r h)
    known read
