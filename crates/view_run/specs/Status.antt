-- The numbers and the lines of statuses.
use Rattle.std.specs.Prelude.{ℕ, List, [], codes}
use Rattle.view_run.specs.declared.status.Source.TheVariants.{Former, New, Config}
use Rattle.view_run.specs.declared.status.Status.{Status as Ended}
use Rattle.view_run.specs.declared.status.Status.TheVariants.{Same, Differs, Shown, Stuck, Usage, Unreadable, TooLong, NotJson, NotObject, NoAttribute, NoPart, NoStop, MovesSets, WriteFault, Memory}

abbrev pub number_of : Ended → ℕ
number_of Same = 0
number_of Differs = 1
number_of Shown = 0
number_of Stuck = 9
number_of Usage = 2
number_of (Unreadable s) = 3
number_of (TooLong s) = 4
number_of (NotJson s) = 5
number_of (NotObject s) = 5
number_of NoAttribute = 6
number_of NoPart = 6
number_of NoStop = 6
number_of MovesSets = 6
number_of WriteFault = 7
number_of Memory = 8

abbrev pub line_of : Ended → List ℕ
line_of Same = []
line_of Differs = []
line_of Shown = []
line_of Stuck = codes "stuck"
line_of Usage = codes "usage: confsolve-view plan|picture|steps|breaks|page FILE .."
line_of (Unreadable Former) = codes "former unreadable"
line_of (Unreadable New) = codes "new unreadable"
line_of (Unreadable Config) = codes "configuration unreadable"
line_of (TooLong Former) = codes "former longer than 16 MiB"
line_of (TooLong New) = codes "new longer than 16 MiB"
line_of (TooLong Config) = codes "configuration longer than 16 MiB"
line_of (NotJson Former) = codes "former not JSON"
line_of (NotJson New) = codes "new not JSON"
line_of (NotJson Config) = codes "configuration not JSON"
line_of (NotObject Former) = codes "former not an object"
line_of (NotObject New) = codes "new not an object"
line_of (NotObject Config) = codes "configuration not an object"
line_of NoAttribute = codes "no such attribute"
line_of NoPart = codes "failed part not in the configuration"
line_of NoStop = codes "stop not an object of the configuration"
line_of MovesSets = codes "a set among the moves"
line_of WriteFault = codes "output not written"
line_of Memory = codes "no memory"
