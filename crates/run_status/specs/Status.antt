-- The number and the line of each way in which a run ends. What a reader believes after this file:
-- no two ways share a number, but for what they carry, and an answer has no line beside it.
use Rattle.std.specs.Prelude.{ℕ, List, [], ◌∷◌, ◌++◌, Option, Some, None, codes, decimal}
use Rattle.run_status.specs.declared.status.Fault.{Fault}
use Rattle.run_status.specs.declared.status.Fault.TheVariants as fault
use Rattle.run_status.specs.declared.status.FormerKind.{FormerKind}
use Rattle.run_status.specs.declared.status.FormerKind.TheVariants as former
use Rattle.run_status.specs.declared.status.LimitKind.{LimitKind}
use Rattle.run_status.specs.declared.status.LimitKind.TheVariants as kind
use Rattle.run_status.specs.declared.status.Status.{Status}
use Rattle.run_status.specs.declared.status.Status.TheVariants as status

-- the exit status of the program
abbrev pub number_of : Status → ℕ
number_of status.Done = 0
number_of status.NoneExists = 1
number_of (status.Undecided decisions) = 2
number_of (status.Syntax place) = 3
number_of (status.Meaning fault place) = 4
number_of (status.Limit kind place) = 5
number_of status.Usage = 6
number_of status.ReadFault = 7
number_of status.WriteFault = 8
number_of (status.Former kind) = 9
number_of (status.Rejected line) = 10
number_of (status.Broken place path) = 11
number_of status.Memory = 12
number_of (status.Events line) = 14

abbrev pub kind_text : LimitKind → List ℕ
kind_text kind.Model = codes "Model"
kind_text kind.Literal = codes "Literal"
kind_text kind.Nesting = codes "Nesting"
kind_text kind.Objects = codes "Objects"
kind_text kind.Depth = codes "Depth"
kind_text kind.Cells = codes "Cells"
kind_text kind.Weight = codes "Weight"
kind_text kind.Width = codes "Width"
kind_text kind.Former = codes "Former"
kind_text kind.Log = codes "Log"
kind_text kind.Events = codes "Events"

abbrev pub fault_text : Fault → List ℕ
fault_text fault.Duplicate = codes "Duplicate"
fault_text fault.Unknown = codes "Unknown"
fault_text fault.NotAClass = codes "NotAClass"
fault_text fault.InheritCycle = codes "InheritCycle"
fault_text fault.ContainCycle = codes "ContainCycle"
fault_text fault.AbstractObject = codes "AbstractObject"
fault_text fault.EmptyRange = codes "EmptyRange"
fault_text fault.WrongType = codes "WrongType"
fault_text fault.NonLinear = codes "NonLinear"
fault_text fault.Shadow = codes "Shadow"

abbrev pub former_text : FormerKind → List ℕ
former_text former.NotJson = codes "former not JSON"
former_text former.NotObject = codes "former not an object"
former_text (former.UnknownObject word) = codes "former unknown object " ++ decimal word

-- a place, where there is one
abbrev pub place_text : Option ℕ → List ℕ
place_text None = []
place_text (Some place) = codes " at " ++ decimal place

abbrev pub limit_text : LimitKind → Option ℕ → List ℕ
limit_text kind place = codes "limit " ++ kind_text kind ++ place_text place

-- the object for which a constraint is broken; nothing at the top level
abbrev pub for_text : List ℕ → List ℕ
for_text [] = []
for_text (b ∷ bs) = codes " for " ++ b ∷ bs

abbrev pub broken_text : Option ℕ → List ℕ → List ℕ
broken_text None path = codes "broken no value for " ++ path
broken_text (Some place) path = codes "broken at " ++ (decimal place ++ for_text path)

-- the line, without its line feed; empty where an answer was printed
abbrev pub line_text : Status → List ℕ
line_text status.Done = []
line_text status.NoneExists = []
line_text (status.Undecided decisions) = []
line_text (status.Syntax place) = codes "syntax at " ++ decimal place
line_text (status.Meaning fault place) =
    codes "meaning " ++ (fault_text fault ++ (codes " at " ++ decimal place))
line_text (status.Limit kind place) = limit_text kind place
line_text status.Usage =
    codes "usage: confsolve solve MODEL, reconfigure MODEL FORMER [FAILED ..], "
    ++ (codes "check MODEL LOG [FORMER [FAILED ..]], verify MODEL CONFIG, "
    ++ codes "session MODEL FORMER EVENTS, core MODEL, gen N")
line_text status.ReadFault = codes "read fault"
line_text status.WriteFault = codes "write fault"
line_text (status.Former kind) = former_text kind
line_text (status.Rejected line) = codes "rejected at line " ++ decimal line
line_text (status.Broken place path) = broken_text place path
line_text status.Memory = codes "out of memory"
line_text (status.Events line) = codes "events at line " ++ decimal line
