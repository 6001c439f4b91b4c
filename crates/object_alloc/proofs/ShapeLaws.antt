-- The shapes of a sound outline name classes and enumerations that are there.
use Rattle.std.proofs.Common.{◌≡◌, ℕ, zero, suc, List, [], ◌∷◌, length, get_or, subst, arith}
use Rattle.std.specs.Prelude.{Contains}
use Rattle.class_table.specs.declared.table.Variable.{Variable}
use Rattle.class_table.specs.Outline.{Outline, attributes}
use Rattle.class_table.specs.Sound.{IsSound}
use Rattle.class_table.specs.Tables.{IsShapeOf, HasShapes}

found : (vs : List Variable) (v : Variable) (h : Contains vs v) → get_or vs h.0 v ≡ v
found [] v h = absurd (omega (arith, h.1))
found (x ∷ xs) v (zero, lt, e) = e
found (x ∷ xs) v (suc k, lt, e) = found xs v (k, omega (arith, lt), e)

each : (o : Outline) (vs : List Variable) → HasShapes o vs → (v : Variable) → Contains vs v → IsShapeOf (length o.classes) (length o.enumerations) v.shape
each o vs all v has = subst (λ (x : Variable). IsShapeOf (length o.classes) (length o.enumerations) x.shape) (found vs v has) (all has.0 v has.1)

pub shapes : (o : Outline) → IsSound o → (c : ℕ) (v : Variable) → Contains (attributes o.classes c) v → IsShapeOf (length o.classes) (length o.enumerations) v.shape
shapes o sound c = each o (attributes o.classes c) (sound.closed.attributes_have c)

pub root_shapes : (o : Outline) → IsSound o → (v : Variable) → Contains o.roots v → IsShapeOf (length o.classes) (length o.enumerations) v.shape
root_shapes o sound = each o o.roots sound.closed.roots_have
