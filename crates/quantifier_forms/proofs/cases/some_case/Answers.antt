use Rattle.std.proofs.Common.{◌<◌, Bool, [], length, sym, ap, ◌∙◌, subst}
use Rattle.std.proofs.lemmas.List.Elements.{All-nil}
use Rattle.signed_clause.specs.Clauses.{Literal, Literals}
use Rattle.form_build.proofs.Growth.{world_before, adds_nothing, defines_more}
use Rattle.form_truths.specs.Disjunctions.{disjunction_at, IsWithin}
use Rattle.quantifier_forms.proofs.CaseLaws.{cases_step, cases_all}
use Rattle.quantifier_forms.proofs.cases.some_case.Goals as goal

pub loop-p-init : goal.loop-p-init
loop-p-init c = record {
  value = λ a w. ap (λ (d : Bool × Literals). disjunction_at d a) c.new-cases.ensures;
  exist = subst (λ (d : Bool × Literals). IsWithin (length c.args.maker.now.domains) d.1) (sym c.new-cases.ensures) (All-nil (λ (l : Literal). l.0 < length c.args.maker.now.domains));
  adds = adds_nothing [] c.args.maker.now;
}

pub loop-p-preserved : goal.loop-p-preserved
loop-p-preserved c =
    let there = c.loop-p.invariant in
    let more = c.in_ok-push_case.ensures in
    record {
      value = λ a w.
          cases_step c.args.want c.args.parts.now c.loop-p.p-index c.p-item.result a (disjunction_at c.loop-p.cases a) (disjunction_at c.push_case.new.d a)
          c.loop-p-test.true c.p-item.is
          (there.value a (world_before c.loop-p.maker c.push_case.new.maker a more.adds.grows w)) (more.value a w);
      exist = more.exist;
      adds = defines_more c.args.maker.now c.loop-p.maker c.push_case.new.maker there.adds more.adds;
    }

pub returns-clause-value : goal.returns-clause-value
returns-clause-value c a w =
    let before = world_before c.loop-p.maker c.truth_in_blocks.new.m a c.in_ok-t.ensures.adds.grows w in
    c.in_ok-t.ensures.value a w ∙ cases_all c.args.want c.args.parts.now c.loop-p.p-index a (disjunction_at c.loop-p.cases a) c.loop-p-test.false (c.loop-p.invariant.value a before)

pub returns-clause-adds : goal.returns-clause-adds
returns-clause-adds c = defines_more c.args.maker.now c.loop-p.maker c.truth_in_blocks.new.m c.loop-p.invariant.adds c.in_ok-t.ensures.adds
