-- What a journal holds.
use Rattle.std.specs.Prelude.{ℕ, List, [], ◌∷◌, ◌++◌, Option, Some, None}
use Rattle.ground_form.specs.declared.ground.Ground.{Ground}
use Rattle.log_form.specs.declared.line.Line.{Line}
use Rattle.proof_log.specs.declared.journal.Round.{Round}

-- the present round's ground problem, where one was kept, and its lines; and the rounds before it
pub record Journal : Type 0 where
  pub ground : Option Ground
  pub lines : List Line
  pub rounds : List Round

-- nothing at all
abbrev pub empty : Journal
empty = record { ground = None; lines = []; rounds = [] }

-- the present round is moved to the others, with the parts that it is about, and an empty one
-- begins
abbrev pub closed : Option Ground → Journal → List ℕ → Journal
closed None journal part = journal
closed (Some g) journal part =
    record {
      ground = None;
      lines = [];
      rounds = journal.rounds
          ++ record { ground = g; lines = journal.lines; part = part } ∷ [];
    }
