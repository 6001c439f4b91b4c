use Rattle.std.proofs.Common.{◌++◌, suc, sym, ap, ◌∙◌, subst}
use Rattle.std.proofs.lemmas.Result.{IfOk-weaker}
use Rattle.object_alloc.specs.Laying.{AreClassed}
use Rattle.object_alloc.specs.Paths.{path, path_within}
use Rattle.object_alloc.proofs.objects.Objects.path_of.Goals as goal

pub push_path-requires-clause-classes : goal.push_path-requires-clause-classes
push_path-requires-clause-classes c = subst (AreClassed c.self.inside.table.now) (sym c.deref.ensures.value) c.self.invariant.classes

pub returns : goal.returns
returns c =
    let o = c.self.inside.table.now in
    let xs = c.deref.result.now in
    let start = ap (λ ys. ys ++ path_within o xs (suc c.args.object) c.args.object) c.new-text.ensures.items in
    let same = ap (λ ys. path_within o ys (suc c.args.object) c.args.object) (c.deref.ensures.value ∙ c.self.invariant.objects_are) ∙ ap (λ z. path z c.args.object) c.self.view_is in
    let text = c.deref-2.ensures.value ∙ c.in_ok-push_path.ensures.text ∙ start ∙ same in
    record { path = IfOk-weaker c.of.result _ _ (λ x h. h ∙ text) c.of.ensures.bytes }
