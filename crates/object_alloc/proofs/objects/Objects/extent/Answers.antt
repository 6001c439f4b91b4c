use Rattle.std.proofs.Common.{length, sym, ap, ◌∙◌, subst, arith}
use Rattle.std.proofs.lemmas.Result.{IfOk-weaker}
use Rattle.object_alloc.specs.Cells.{extent, extent_from}
use Rattle.object_alloc.specs.Laying.{AreClassed}
use Rattle.object_alloc.proofs.objects.Objects.extent.Goals as goal

pub extent_of-requires-clause-classes : goal.extent_of-requires-clause-classes
extent_of-requires-clause-classes c = subst (AreClassed c.self.inside.table.now) (sym c.deref.ensures.value) c.self.invariant.classes

pub extent_of-requires-clause-few : goal.extent_of-requires-clause-few
extent_of-requires-clause-few c = omega (arith, c.self.invariant.limits.objects, ap length c.self.invariant.objects_are, ap length c.deref.ensures.value)

pub returns : goal.returns
returns c =
    let same = ap (λ xs. extent_from c.self.inside.table.now.classes c.args.class 0 xs) (c.deref.ensures.value ∙ c.self.invariant.objects_are) ∙ ap (λ o. extent o c.args.class) c.self.view_is in
    record { extent = IfOk-weaker c.extent_of.result _ _ (λ x h. h ∙ same) c.extent_of.ensures.extent }
