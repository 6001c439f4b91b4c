use Rattle.std.proofs.Common.{◌≡◌, ◌<◌, Some, length, map, sym, ap, ◌∙◌, subst}
use Rattle.std.specs.Prelude.{IfSome, position, slice_index_or}
use Rattle.std.specs.Cmp.Lexicographic.{bytes_decides}
use Rattle.std.proofs.lemmas.Bool.{false≢true}
use Rattle.class_table.specs.Names.{means}
use Rattle.class_table.specs.Outline.{Outline, attributes, variable_name}
use Rattle.class_table.specs.Same.{same_name}
use Rattle.class_table.specs.Tables.{root_meant}
use Rattle.object_alloc.specs.Variables.{variables_of}
use Rattle.object_alloc.specs.Named.{HasName}
use Rattle.object_alloc.specs.Walk.{objects}
use Rattle.object_alloc.proofs.StepLaws.{class_low, variables_in, name_found, name_finds, name_read, name_is_read, root_found}
use Rattle.object_alloc.proofs.objects.Objects.variable_named.Goals as goal

pub attribute_spelled-requires : goal.attribute_spelled-requires
attribute_spelled-requires c =
    let there = subst (λ w. IfSome w (λ n. n < length (objects c.args.self.now))) c.in-Some.is c.requires.owner in
    record { class = subst (λ (o : Outline). c.class.result < length o.classes) (sym c.table.ensures.table) (class_low c.args.self.now c.in-Some.owner c.class.result there c.class.ensures.class c.sound_count-count.ensures.sound) }

pub returns-in-Some-clause-name : goal.returns-in-Some-clause-name
returns-in-Some-clause-name c =
    let o = c.args.self.now in
    let there = subst (λ w. IfSome w (λ n. n < length (objects o))) c.in-Some.is c.requires.owner in
    let vs = attributes o.classes c.class.result in
    let same = ap (variables_of o) c.in-Some.is ∙ variables_in o c.in-Some.owner c.class.result there c.class.ensures.class in
    let number = c.attribute_spelled.ensures.number ∙ ap (λ (t : Outline). position (same_name c.args.name.now) (map variable_name (attributes t.classes c.class.result))) c.table.ensures.table in
    subst (λ us. IfSome c.attribute_spelled.result (HasName us c.args.name.now)) (sym same) (name_found vs c.args.name.now c.attribute_spelled.result number)

pub returns-in-Some-clause-named : goal.returns-in-Some-clause-named
returns-in-Some-clause-named c k h =
    let o = c.args.self.now in
    let there = subst (λ w. IfSome w (λ n. n < length (objects o))) c.in-Some.is c.requires.owner in
    let vs = attributes o.classes c.class.result in
    let same = ap (variables_of o) c.in-Some.is ∙ variables_in o c.in-Some.owner c.class.result there c.class.ensures.class in
    let low = class_low o c.in-Some.owner c.class.result there c.class.ensures.class c.sound_count-count.ensures.sound in
    let number = c.attribute_spelled.ensures.number ∙ ap (λ (t : Outline). position (same_name c.args.name.now) (map variable_name (attributes t.classes c.class.result))) c.table.ensures.table in
    number ∙ name_finds vs c.args.name.now k (c.sound_count-count.ensures.sound.differ c.class.result low) (subst (λ us. HasName us c.args.name.now k) same h)

pub returns-then-eq-clause-name : goal.returns-then-eq-clause-name
returns-then-eq-clause-name c =
    let o = c.args.self.now in
    let root = c.in_ok-root-in-None.root in
    let low = subst (λ (t : Outline). root < length t.roots) c.table-in-None.ensures.table c.in_ok-root-in-None.ensures.exists in
    let same : c.root.result.name.now ≡ c.args.name.now = sym c.as_bytes.ensures.bytes ∙ (bytes_decides c.as_bytes.result.now c.args.name.now).0 (sym c.if-eq.ensures) in
    subst (λ us. HasName us c.args.name.now root) (sym (ap (variables_of o) c.in-None.is))
    (name_read o.roots root c.root.result.name.now c.args.name.now low (λ d. c.root.ensures.name d ∙ ap (λ (t : Outline). (slice_index_or t.roots root d).name) c.table-in-None-2.ensures.table) same)

pub returns-else-eq-clause-named : goal.returns-else-eq-clause-named
returns-else-eq-clause-named c k h =
    let o = c.args.self.now in
    let root = c.in_ok-root-in-None.root in
    let has : HasName o.roots c.args.name.now k = subst (λ us. HasName us c.args.name.now k) (ap (variables_of o) c.in-None.is) h in
    let found : Some root ≡ Some k = c.in_ok-root-in-None.ensures.root ∙ ap (λ (t : Outline). root_meant (means t.names c.args.name.now)) c.table-in-None.ensures.table ∙ root_found o c.args.name.now k c.sound_count-count.ensures.sound.named has in
    let at : root ≡ k = cc in
    let read : c.root.result.name.now ≡ c.args.name.now = name_is_read o.roots root c.root.result.name.now c.args.name.now (λ d. c.root.ensures.name d ∙ ap (λ (t : Outline). (slice_index_or t.roots root d).name) c.table-in-None-2.ensures.table) (subst (HasName o.roots c.args.name.now) (sym at) has) in
    absurd (false≢true (c.if-eq.ensures ∙ (bytes_decides c.as_bytes.result.now c.args.name.now).1 (c.as_bytes.ensures.bytes ∙ read)))
