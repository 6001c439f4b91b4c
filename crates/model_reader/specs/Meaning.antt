-- Which faults of meaning stand in a model, and at which places. A model without one is typed.
use Rattle.std.specs.Prelude.{◌⊎◌, Contains, ℕ}
use Rattle.conf_syntax.specs.declared.tree.Program.{Program}
use Rattle.class_table.specs.Faults.{Stands}
use Rattle.class_table.specs.declared.fault.TableFault.TheVariants as table
use Rattle.class_table.specs.Outline.{outline}
use Rattle.conf_types.specs.Programs.{faults}
use Rattle.conf_types.specs.declared.fault.TypeFault.{TypeFault}
use Rattle.conf_types.specs.declared.fault.TypeFault.TheVariants as type
use Rattle.run_status.specs.declared.status.Fault.{Fault}
use Rattle.run_status.specs.declared.status.Fault.TheVariants as fault

-- the fault stands in an expression of the model
abbrev pub InExpression : Program → TypeFault → Type 0
InExpression p f = Contains (faults (outline p.items) p.items) f

-- the fault stands at the place, in the declarations or in an expression
abbrev pub IsFaultOf : Program → Fault → ℕ → Type 0
IsFaultOf p fault.Duplicate place = Stands p.items (table.Duplicate place)
IsFaultOf p fault.Unknown place =
    Stands p.items (table.Unknown place) ⊎ InExpression p (type.Unknown place)
IsFaultOf p fault.NotAClass place = Stands p.items (table.NotAClass place)
IsFaultOf p fault.InheritCycle place = Stands p.items (table.InheritCycle place)
IsFaultOf p fault.ContainCycle place = Stands p.items (table.ContainCycle place)
IsFaultOf p fault.AbstractObject place = Stands p.items (table.AbstractObject place)
IsFaultOf p fault.EmptyRange place = Stands p.items (table.EmptyRange place)
IsFaultOf p fault.WrongType place = InExpression p (type.WrongType place)
IsFaultOf p fault.NonLinear place = InExpression p (type.NonLinear place)
IsFaultOf p fault.Shadow place = InExpression p (type.Shadow place)

-- no fault stands in the model
abbrev pub IsTyped : Program → Type 0
IsTyped p = (fault : Fault) (place : ℕ) → IsFaultOf p fault place → ⊥
