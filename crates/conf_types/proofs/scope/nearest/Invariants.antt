use Rattle.std.proofs.Common.{◌≡◌, drop, length}
use Rattle.class_table.specs.Outline.{Outline}
use Rattle.conf_types.specs.Checked.{locals_of, told, IsSenseOf, AreLocals}
use Rattle.conf_types.specs.Scopes.{local_or}
use Rattle.conf_types.proofs.scope.nearest.Given as goal

-- with what is left it is that of all
abbrev pub invariant-loop-k : goal.invariant-loop-k
invariant-loop-k l =
    record {
      same : local_or (told l.found) l.name (locals_of (drop l.k l.locals)) ≡ local_or (told l.fn.other) l.name (locals_of l.locals);
      exists : (o : Outline) → IsSenseOf o l.fn.other → AreLocals (length o.classes) l.locals → IsSenseOf o l.found;
      left : (o : Outline) → AreLocals (length o.classes) l.locals → AreLocals (length o.classes) (drop l.k l.locals);
    }
