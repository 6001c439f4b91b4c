use Rattle.std.proofs.Common.{◌≡◌, ℕ, Some, None, ap, sym, ◌∙◌, subst}
use Rattle.std.specs.Prelude.{slice_index_or}
use Rattle.class_table.specs.declared.table.Variable.{Variable}
use Rattle.object_alloc.specs.Variables.{variables_of}
use Rattle.object_alloc.specs.Parts.{IsElement}
use Rattle.object_alloc.proofs.PlaceLaws.{rest_is}
use Rattle.object_alloc.proofs.PartNames.{has_low, part_step, named_by, same_found}
use Rattle.object_alloc.proofs.objects.Objects.part_named.Goals as goal

some_is : {a b : ℕ} → Some a ≡ Some b → a ≡ b
some_is e = cc

pub shape-requires-clause-attribute : goal.shape-requires-clause-attribute
shape-requires-clause-attribute c = has_low _ _ c.in_ok-k.k c.in_ok-k.ensures.name

pub part-requires : goal.part-requires
part-requires c =
    record {
      owner = c.requires.owner;
      attribute = has_low _ _ c.in_ok-k.k c.in_ok-k.ensures.name;
      element = λ d. subst (λ s. IsElement s c.in_ok-element.element) (c.shape.ensures.shape d) c.in_ok-element.ensures.element;
    }

pub returns-in_err-k-clause-named : goal.returns-in_err-k-clause-named
returns-in_err-k-clause-named c n step =
    let f = c.sound_count-count.ensures in
    let named = f.sound.named in
    let r = named_by c.args.self.now f.sound f.few c.args.owner c.args.step.now c.first_of-end.result named c.first_of-end.ensures.place n step in
    let wrong : None ≡ Some r.k = c.in_err-k.ensures.named r.k r.name in
    absurd cc

pub returns-in_err-element-clause-named : goal.returns-in_err-element-clause-named
returns-in_err-element-clause-named c n step =
    let f = c.sound_count-count.ensures in
    let named = f.sound.named in
    let o = c.args.self.now in
    let end = c.first_of-end.result in
    let r = named_by o f.sound f.few c.args.owner c.args.step.now end named c.first_of-end.ensures.place n step in
    let same = some_is (c.in_ok-k.ensures.named r.k r.name) in
    let read = λ (d : Variable). c.shape.ensures.shape d ∙ ap (λ j. (slice_index_or (variables_of o c.args.owner) j d).shape) same in
    let wrong : None ≡ Some r.i = c.in_err-element.ensures.named r.i r.small (r.element c.shape.result read) (r.index c.shape.result read ∙ sym (rest_is end c.args.step.now)) in
    absurd cc

pub returns : goal.returns
returns c =
    let o = c.args.self.now in
    let f = c.sound_count-count.ensures in
    let end = c.first_of-end.result in
    record {
      there = c.part.ensures.there;
      step = part_step o f.sound f.few c.args.owner c.args.step.now end c.in_ok-k.k c.in_ok-element.element c.part.result c.shape.result c.in_ok-k.ensures.name c.shape.ensures.shape (c.in_ok-element.ensures.text ∙ rest_is end c.args.step.now) c.part.ensures.there c.part.ensures.part;
      named = λ n step.
          let named = f.sound.named in
          let r = named_by o f.sound f.few c.args.owner c.args.step.now end named c.first_of-end.ensures.place n step in
          let same = some_is (c.in_ok-k.ensures.named r.k r.name) in
          let read = λ (d : Variable). c.shape.ensures.shape d ∙ ap (λ j. (slice_index_or (variables_of o c.args.owner) j d).shape) same in
          let element = some_is (c.in_ok-element.ensures.named r.i r.small (r.element c.shape.result read) (r.index c.shape.result read ∙ sym (rest_is end c.args.step.now))) in
          ap Some (same_found o f.sound f.few c.args.owner c.args.step.now end c.in_ok-k.k c.in_ok-element.element n c.part.result r same element c.part.ensures.there c.part.ensures.part);
    }
