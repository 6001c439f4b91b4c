-- The kinds that the propagator handles.
use Rattle.std.specs.Prelude.{Bool, true, false}
use Rattle.ground_form.specs.declared.kind.Kind.{Kind}
use Rattle.ground_form.specs.declared.kind.Kind.TheVariants as kind

-- sums with a bound, sums that define a variable, flags that say whether a sum keeps a bound
abbrev pub is_handled : Kind → Bool
is_handled kind.LinLe = true
is_handled kind.LinDef = true
is_handled kind.ReifLe = true
is_handled kind.AndDef = false
is_handled kind.MemberDef = false
is_handled kind.EqDef = false
is_handled kind.ElementDef = false
is_handled kind.CondDef = false
is_handled kind.ClauseCon = false
is_handled kind.AllDiff = false
is_handled kind.Pack = false
