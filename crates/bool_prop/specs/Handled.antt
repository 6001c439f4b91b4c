-- Which kinds the propagator handles.
use Rattle.std.specs.Prelude.{Bool, true, false}
use Rattle.ground_form.specs.declared.kind.Kind.{Kind}
use Rattle.ground_form.specs.declared.kind.Kind.TheVariants as kind

-- conjunctions, memberships and clauses
abbrev pub is_handled : Kind → Bool
is_handled kind.LinLe = false
is_handled kind.LinDef = false
is_handled kind.ReifLe = false
is_handled kind.AndDef = true
is_handled kind.MemberDef = true
is_handled kind.EqDef = false
is_handled kind.ElementDef = false
is_handled kind.CondDef = false
is_handled kind.ClauseCon = true
is_handled kind.AllDiff = false
is_handled kind.Pack = false
