use Rattle.std.proofs.Common.{◌<◌, Bool, [], length, sym, ap, ◌∙◌, subst, not}
use Rattle.std.proofs.lemmas.List.Elements.{All-nil}
use Rattle.signed_clause.specs.Clauses.{Literal, Literals}
use Rattle.form_build.specs.Forms.{truth_at}
use Rattle.form_build.proofs.Growth.{world_before, adds_nothing, defines_more}
use Rattle.form_truths.specs.Disjunctions.{disjunction_at, IsWithin}
use Rattle.quantifier_forms.proofs.PartsKept.{literals_kept}
use Rattle.pairwise_forms.proofs.LoadSteps.{items_kept, narrow_kept, overfull_step, overfull_all}
use Rattle.pairwise_forms.proofs.loads.none_overfull.Goals as goal

pub loop-e-init : goal.loop-e-init
loop-e-init c = record {
  value = λ a w. ap (λ (d : Bool × Literals). disjunction_at d a) c.new-some.ensures;
  exist = subst (λ (d : Bool × Literals). IsWithin (length c.args.maker.now.domains) d.1) (sym c.new-some.ensures) (All-nil (λ (l : Literal). l.0 < length c.args.maker.now.domains));
  items = c.requires.items;
  narrow = c.requires.narrow;
  adds = adds_nothing [] c.args.maker.now;
}

pub loop-e-preserved : goal.loop-e-preserved
loop-e-preserved c =
    let there = c.loop-e.invariant in
    let more = c.in_ok-t.ensures in
    record {
      value = λ a w.
          overfull_step c.args.items.now c.args.items.now c.loop-e.e-index c.e-item.result a (disjunction_at c.loop-e.some a) (disjunction_at c.push.new.self a) (truth_at c.in_ok-t.t a)
          c.loop-e-test.true c.e-item.is
          (there.value a (world_before c.loop-e.maker c.overfull.new.maker a more.adds.grows w)) (more.value a w) (c.in_ok-push.ensures.value a);
      exist = c.in_ok-push.ensures.variables (length c.overfull.new.maker.domains) more.variable (literals_kept c.loop-e.maker c.overfull.new.maker more.adds.grows c.loop-e.some.1 there.exist);
      items = items_kept c.loop-e.maker c.overfull.new.maker c.args.items.now more.adds.grows there.items;
      narrow = narrow_kept c.loop-e.maker c.overfull.new.maker c.args.items.now more.adds.grows there.narrow;
      adds = defines_more c.args.maker.now c.loop-e.maker c.overfull.new.maker there.adds more.adds;
    }

pub returns-clause-value : goal.returns-clause-value
returns-clause-value c a w =
    let before = world_before c.loop-e.maker c.none_from.new.maker a c.in_ok-t-2.ensures.adds.grows w in
    c.in_ok-t-2.ensures.value a w ∙ ap not (overfull_all c.args.items.now c.args.items.now c.loop-e.e-index a (disjunction_at c.loop-e.some a) c.loop-e-test.false (c.loop-e.invariant.value a before))

pub returns-clause-adds : goal.returns-clause-adds
returns-clause-adds c = defines_more c.args.maker.now c.loop-e.maker c.none_from.new.maker c.loop-e.invariant.adds c.in_ok-t-2.ensures.adds
