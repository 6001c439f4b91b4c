-- What is known of a model on the way to its objects. What a reader believes after this file: nothing
-- that `run` says; these are what the steps hand on.
use Rattle.std.specs.Prelude.{◌≡◌, List}
use Rattle.class_table.specs.Faults.{Stands}
use Rattle.class_table.specs.Outline.{Outline}
use Rattle.class_table.specs.declared.fault.TableFault.{TableFault}
use Rattle.conf_syntax.specs.declared.tree.Program.{Program}
use Rattle.conf_types.specs.Programs.{ResolvedConstraint, ResolvedGoal}
use Rattle.model_reader.specs.Meaning.{IsTyped}
use Rattle.model_reader.specs.Models.{outline_of, constraints_of, goals_of}

-- no fault stands in the declarations
abbrev pub IsDeclared : Program → Type 0
IsDeclared p = (f : TableFault) → Stands p.items f → ⊥

-- no fault stands in the model, and the table and the resolved expressions are its own
pub record IsResolved (p : Program) (table : Outline) (ks : List ResolvedConstraint)
    (gs : List ResolvedGoal) : Type 0 where
  pub typed : IsTyped p
  pub table_is : table ≡ outline_of p
  pub constraints_are : ks ≡ constraints_of p
  pub goals_are : gs ≡ goals_of p
