-- Which kinds the propagator handles.
use Rattle.std.specs.Prelude.{Bool, true, false}
use Rattle.ground_form.specs.declared.kind.Kind.{Kind}
use Rattle.ground_form.specs.declared.kind.Kind.TheVariants as kind

-- variables that differ, and items to be packed
abbrev pub is_handled : Kind → Bool
is_handled kind.AllDiff = true
is_handled kind.Pack = true
is_handled k = false
