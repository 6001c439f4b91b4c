-- Which kind each constraint is of.
use Rattle.ground_form.specs.declared.con.Con.{Con}
use Rattle.ground_form.specs.declared.con.Con.TheVariants.{LinLe, LinDef, ReifLe, AndDef, MemberDef, EqDef, ElementDef, CondDef, ClauseCon, AllDiff, Pack}
use Rattle.ground_form.specs.declared.kind.Kind.{Kind}
use Rattle.ground_form.specs.declared.kind.Kind.TheVariants as kind

abbrev pub kind_of : Con → Kind
kind_of (LinLe terms bound) = kind.LinLe
kind_of (LinDef out terms offset) = kind.LinDef
kind_of (ReifLe flag terms bound) = kind.ReifLe
kind_of (AndDef flag parts) = kind.AndDef
kind_of (MemberDef flag var set) = kind.MemberDef
kind_of (EqDef flag left right) = kind.EqDef
kind_of (ElementDef out index items) = kind.ElementDef
kind_of (CondDef out flag item) = kind.CondDef
kind_of (ClauseCon clause) = kind.ClauseCon
kind_of (AllDiff vars) = kind.AllDiff
kind_of (Pack items) = kind.Pack
