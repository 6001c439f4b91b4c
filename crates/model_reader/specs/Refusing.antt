-- The status that each error is.
use Rattle.std.specs.Prelude.{None, Some}
use Rattle.class_table.specs.declared.fault.TableFault.{TableFault}
use Rattle.class_table.specs.declared.fault.TableFault.TheVariants as table
use Rattle.conf_limits.specs.declared.limit.LimitFault.{LimitFault}
use Rattle.conf_limits.specs.declared.limit.LimitFault.TheVariants as measure
use Rattle.conf_types.specs.declared.fault.TypeFault.{TypeFault}
use Rattle.conf_types.specs.declared.fault.TypeFault.TheVariants as type
use Rattle.object_alloc.specs.declared.fault.AllocFault.{AllocFault}
use Rattle.object_alloc.specs.declared.fault.AllocFault.TheVariants as objects
use Rattle.model_reader.specs.declared.model.TextError.{TextError}
use Rattle.model_reader.specs.declared.model.TextError.TheVariants as error
use Rattle.run_status.specs.declared.status.Fault.TheVariants as fault
use Rattle.run_status.specs.declared.status.LimitKind.{LimitKind}
use Rattle.run_status.specs.declared.status.LimitKind.TheVariants as kind
use Rattle.run_status.specs.declared.status.Status.{Status}
use Rattle.run_status.specs.declared.status.Status.TheVariants as status

-- a limit without a place
abbrev pub above : LimitKind → Status
above kind = status.Limit kind None

abbrev pub refusal_of : TextError → Status
refusal_of (error.Syntax place) = status.Syntax place
refusal_of (error.Literal place) = status.Limit kind.Literal (Some place)
refusal_of (error.Nesting place) = status.Limit kind.Nesting (Some place)
refusal_of error.Memory = status.Memory

-- a fault of declarations
abbrev pub declared : TableFault → Status
declared (table.Duplicate place) = status.Meaning fault.Duplicate place
declared (table.Unknown place) = status.Meaning fault.Unknown place
declared (table.NotAClass place) = status.Meaning fault.NotAClass place
declared (table.InheritCycle place) = status.Meaning fault.InheritCycle place
declared (table.ContainCycle place) = status.Meaning fault.ContainCycle place
declared (table.AbstractObject place) = status.Meaning fault.AbstractObject place
declared (table.EmptyRange place) = status.Meaning fault.EmptyRange place
declared table.Memory = status.Memory

-- a fault of expressions
abbrev pub expressed : TypeFault → Status
expressed (type.Unknown place) = status.Meaning fault.Unknown place
expressed (type.WrongType place) = status.Meaning fault.WrongType place
expressed (type.NonLinear place) = status.Meaning fault.NonLinear place
expressed (type.Shadow place) = status.Meaning fault.Shadow place
expressed type.Memory = status.Memory

abbrev pub allocated : AllocFault → Status
allocated objects.TooManyObjects = above kind.Objects
allocated objects.TooDeep = above kind.Depth
allocated objects.TooManyCells = above kind.Cells
allocated objects.Memory = status.Memory

abbrev pub measured : LimitFault → Status
measured measure.TooHeavy = above kind.Weight
measured measure.TooWide = above kind.Width
