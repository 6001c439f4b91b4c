-- Which kinds the propagator handles.
use Rattle.std.specs.Prelude.{Bool, true, false}
use Rattle.ground_form.specs.declared.kind.Kind.{Kind}
use Rattle.ground_form.specs.declared.kind.Kind.TheVariants as kind

-- elements, equalities and conditionals
abbrev pub is_handled : Kind → Bool
is_handled kind.LinLe = false
is_handled kind.LinDef = false
is_handled kind.ReifLe = false
is_handled kind.AndDef = false
is_handled kind.MemberDef = false
is_handled kind.EqDef = true
is_handled kind.ElementDef = true
is_handled kind.CondDef = true
is_handled kind.ClauseCon = false
is_handled kind.AllDiff = false
is_handled kind.Pack = false
