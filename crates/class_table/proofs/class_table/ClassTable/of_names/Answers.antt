use Rattle.std.proofs.Common.{◌≡◌, [], sym, subst, ap, ◌∙◌, length, arith}
use Rattle.std.specs.List.{flat_map}
use Rattle.class_table.specs.Faults.{pointed, item_faults}
use Rattle.class_table.specs.Names.{space, classes, roots}
use Rattle.class_table.specs.Outline.{class_of, variable_of}
use Rattle.class_table.specs.Paths.{ArePaths, HavePaths}
use Rattle.class_table.specs.Tables.{IsTable}
use Rattle.std.proofs.Common.{map}
use Rattle.class_table.specs.Sound.{HasNesting}
use Rattle.class_table.proofs.BuildLaws.{numbered, items_stand, made_few, roots_few, values_few, no_stand}
use Rattle.class_table.proofs.ClosedLaws.{closed_parts}
use Rattle.class_table.proofs.WordNames.{table_named}
use Rattle.class_table.proofs.class_table.ClassTable.of_names.Goals as goal

pub resolve_items-requires : goal.resolve_items-requires
resolve_items-requires c = record { numbered = numbered c.args.items.now c.args.names.entries c.args.decls.now c.requires.names c.requires.decls }

pub returns-in-Err-clause-fault : goal.returns-in-Err-clause-fault
returns-in-Err-clause-fault c = items_stand c.args.items.now c.args.names.entries c.args.decls.now c.in-Err.fault c.requires.names c.requires.decls c.in-Err.ensures.fault

pub paths_of-requires-clause-few : goal.paths_of-requires-clause-few
paths_of-requires-clause-few c =
    let items = c.args.items.now in
    let classes_are : c.in-Ok.parts.classes.items ≡ map (class_of (space items)) (classes items) = c.in-Ok.ensures.classes ∙ ap (λ n. map (class_of n) (classes items)) c.requires.names in
    let few = made_few items c.in-Ok.parts.classes.items classes_are c.requires.small in
    omega (arith, few, ap length c.deref-2.ensures.value)

pub invariant_of-result : goal.invariant_of-result
invariant_of-result c =
    let items = c.args.items.now in
    let classes_are : c.in-Ok.parts.classes.items ≡ map (class_of (space items)) (classes items) = c.in-Ok.ensures.classes ∙ ap (λ n. map (class_of n) (classes items)) c.requires.names in
    let table : IsTable c.in-Ok.parts.classes.items c.in-Ok-check_classes.family.counts.items c.in-Ok-check_classes.family.order.items = subst (λ cs. IsTable cs c.in-Ok-check_classes.family.counts.items c.in-Ok-check_classes.family.order.items) c.deref.ensures.value c.in-Ok-check_classes.ensures.table in
    record {
      table = table;
      classes = made_few items c.in-Ok.parts.classes.items classes_are c.requires.small;
      roots = roots_few items c.in-Ok.parts.roots.items (c.in-Ok.ensures.roots ∙ ap (λ n. map (variable_of n) (roots items)) c.requires.names) c.requires.small;
      values = values_few items c.in-Ok.parts.enumerations.items c.in-Ok.ensures.enumerations c.requires.small;
      paths = subst (λ os. ArePaths c.in-Ok.parts.classes.items os c.in_ok-paths.paths.all.items c.in_ok-paths.paths.on.items) c.deref-4.ensures.value
          (subst (λ cs. ArePaths cs c.deref-4.result.now c.in_ok-paths.paths.all.items c.in_ok-paths.paths.on.items) c.deref-2.ensures.value c.in_ok-paths.ensures.paths);
      all = subst (λ cs. HavePaths cs c.in_ok-paths.paths.on.items) c.deref-2.ensures.value c.in_ok-paths.ensures.all;
      closed = closed_parts items c.args.names.entries c.in-Ok.parts.classes.items c.in-Ok.parts.enumerations.items c.in-Ok.parts.roots.items c.requires.names classes_are c.in-Ok.ensures.enumerations (c.in-Ok.ensures.roots ∙ ap (λ n. map (variable_of n) (roots items)) c.requires.names);
      named = table_named items c.args.names.entries c.in-Ok.parts.classes.items c.in-Ok.parts.enumerations.items c.in-Ok.parts.roots.items c.requires.names classes_are (c.in-Ok.ensures.roots ∙ ap (λ n. map (variable_of n) (roots items)) c.requires.names) c.requires.words c.requires.new;
      nesting = subst HasNesting c.deref.ensures.value c.in-Ok-check_classes.ensures.nesting;
    }

pub returns-clause-right : goal.returns-clause-right
returns-clause-right c =
    let items = c.args.items.now in
    let within : flat_map (item_faults (space items) (classes items)) items ≡ [] =
    sym (ap (λ n. flat_map (item_faults n (pointed c.args.decls.now)) items) c.requires.names ∙ ap (λ ds. flat_map (item_faults (space items) ds) items) c.requires.decls) ∙ c.in-Ok.ensures.right in
    no_stand items c.requires.new within c.in-Ok-check_classes.ensures.right
