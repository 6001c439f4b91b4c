use Rattle.std.proofs.Common.{◌++◌, ◌<◌, length, None, sym, ap, ◌∙◌, subst, arith, get_or}
use Rattle.std.specs.Prelude.{IfSome}
use Rattle.std.proofs.lemmas.Result.{on_ok_weaker}
use Rattle.object_alloc.specs.declared.object.Object.{Object}
use Rattle.object_alloc.specs.Paths.{owner_path, path_within}
use Rattle.object_alloc.specs.Variables.{variables}
use Rattle.object_alloc.proofs.Asked.{class_there}
use Rattle.object_alloc.proofs.PathLaws.{attribute_there, owner_before, owner_is_there, path_made, owner_made, read_again, owner_measure}
use Rattle.object_alloc.proofs.paths.+path.Goals as goal

pub push_owner-returns-in_ok-push-in-Some : goal.push_owner-returns-in_ok-push-in-Some
push_owner-returns-in_ok-push-in-Some t c =
    let o = c.args.table.now in
    let xs = c.args.objects.now in
    let before : c.in-Some.owner < c.args.steps = subst (λ p. IfSome p (λ q. q < c.args.steps)) c.in-Some.is c.requires.before in
    let made = owner_made o xs c.args.steps c.in-Some.owner c.args.text.now.items c.push_path.new.text.items c.push.new.self.items c.requires.objects before c.in_ok-push_path-in-Some.ensures.text c.in_ok-push-in-Some.ensures.items in
    record { text = made ∙ ap (λ p. c.args.text.now.items ++ owner_path (path_within o xs c.args.steps) p) (sym c.in-Some.is) }

pub push_path-push_owner-requires : goal.push_path-push_owner-requires
push_path-push_owner-requires t c =
    let xs = c.args.objects.now in
    let d : Object = record { class = 0; depth = 0; owner = None; attribute = 0; element = 0 } in
    let x = get_or xs c.args.n d in
    let read = read_again xs c.args.n d c.requires.object in
    let before = owner_before c.args.table.now xs c.requires.objects c.args.n x c.requires.object read in
    let less = owner_measure x.owner c.args.n before in
    (omega (arith, c.decreases, less), (c.requires.objects, (c.requires.classes, (owner_is_there c.args.table.now xs c.requires.objects c.args.n x c.requires.object read, before))))

pub push_path-class_of-class-requires : goal.push_path-class_of-class-requires
push_path-class_of-class-requires t c =
    let xs = c.args.objects.now in
    let d : Object = record { class = 0; depth = 0; owner = None; attribute = 0; element = 0 } in
    record { owner = owner_is_there c.args.table.now xs c.requires.objects c.args.n (get_or xs c.args.n d) c.requires.object (read_again xs c.args.n d c.requires.object) }

pub push_path-push_step-requires-clause-class : goal.push_path-push_step-requires-clause-class
push_path-push_step-requires-clause-class t c =
    let o = c.args.table.now in
    let xs = c.args.objects.now in
    let d : Object = record { class = 0; depth = 0; owner = None; attribute = 0; element = 0 } in
    let x = get_or xs c.args.n d in
    subst (λ k. IfSome k (λ i. i < length o.classes)) (sym c.class_of-class.ensures.class) (class_there (length o.classes) xs x.owner c.requires.classes (owner_is_there o xs c.requires.objects c.args.n x c.requires.object (read_again xs c.args.n d c.requires.object)))

pub push_path-push_step-requires-clause-attribute :
    goal.push_path-push_step-requires-clause-attribute
push_path-push_step-requires-clause-attribute t c =
    let o = c.args.table.now in
    let xs = c.args.objects.now in
    let d : Object = record { class = 0; depth = 0; owner = None; attribute = 0; element = 0 } in
    let x = get_or xs c.args.n d in
    subst (λ k. x.attribute < length (variables o k)) (sym c.class_of-class.ensures.class) (attribute_there o xs c.requires.objects c.args.n x c.requires.object (read_again xs c.args.n d c.requires.object))

pub push_path-returns : goal.push_path-returns
push_path-returns t c =
    let o = c.args.table.now in
    let xs = c.args.objects.now in
    let d : Object = record { class = 0; depth = 0; owner = None; attribute = 0; element = 0 } in
    let x = get_or xs c.args.n d in
    record { text = on_ok_weaker c.push_step.result (λ h. path_made o xs c.requires.objects c.args.n x c.requires.object (read_again xs c.args.n d c.requires.object) c.args.text.now.items c.push_owner.new.text.items c.push_step.new.text.items c.class_of-class.result c.class_of-class.ensures.class c.in_ok-push_owner.ensures.text h) c.push_step.ensures.text }
