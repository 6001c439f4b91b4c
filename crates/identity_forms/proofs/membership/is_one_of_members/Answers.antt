use Rattle.std.proofs.Common.{◌<◌, ◌&&◌, ◌∙◌, Bool, [], length, nat_eq, refl, sym, ap, subst}
use Rattle.std.specs.List.{list_any}
use Rattle.std.proofs.lemmas.List.{take_all}
use Rattle.std.proofs.lemmas.List.Elements.{All-nil}
use Rattle.signed_clause.specs.Clauses.{Literal, Literals}
use Rattle.form_build.specs.Forms.{truth_at}
use Rattle.form_build.proofs.Growth.{world_before, adds_nothing, defines_more}
use Rattle.form_truths.specs.Disjunctions.{disjunction_at, IsWithin}
use Rattle.expr_forms.specs.declared.form.Member.{Member}
use Rattle.expr_forms.specs.FormValues.{choice_at}
use Rattle.expr_forms.proofs.Growing.{boxes_kept, choice_kept}
use Rattle.identity_forms.proofs.MemberLaws.{any_members, variables_kept}
use Rattle.identity_forms.proofs.PairLaws.{both_same, any_step}
use Rattle.identity_forms.proofs.membership.is_one_of_members.Goals as goal

pub loop-m-init : goal.loop-m-init
loop-m-init c = record {
  value = λ a w. ap (λ (z : Bool × Literals). disjunction_at z a) c.new-some.ensures;
  exist = subst (λ (z : Bool × Literals). IsWithin (length c.args.maker.now.domains) z.1) (sym c.new-some.ensures) (All-nil (λ (l : Literal). l.0 < length c.args.maker.now.domains));
  adds = adds_nothing [] c.args.maker.now;
  choice = c.requires.choice;
  members = c.requires.members;
}

pub loop-m-preserved : goal.loop-m-preserved
loop-m-preserved c =
    let i = c.loop-m.invariant in
    let more = c.in_ok-push_both.ensures in
    let kept = boxes_kept c.loop-m.maker c.push_both.new.maker more.adds.grows in
    record {
      value = λ a w.
          let before = world_before c.loop-m.maker c.push_both.new.maker a more.adds.grows w in
          any_step (λ (m : Member). nat_eq (choice_at c.args.c.now a) m.object && truth_at m.is a) c.args.members.now c.loop-m.m-index c.m-item.result (disjunction_at c.loop-m.some a) (disjunction_at c.push_both.new.some a)
          (truth_at c.in_ok-same.same a && truth_at c.m-item.result.is a) c.loop-m-test.true (i.value a before) (more.value a w)
          (both_same _ _ _ _ (c.in_ok-same.ensures.value a before.within) refl ∙ ap (λ (m : Member). nat_eq (choice_at c.args.c.now a) m.object && truth_at m.is a) c.m-item.is);
      exist = more.exist i.exist;
      adds = defines_more c.args.maker.now c.loop-m.maker c.push_both.new.maker i.adds more.adds;
      choice = choice_kept c.loop-m.maker.domains c.push_both.new.maker.domains kept (λ n. Unit {0}) c.args.c.now i.choice;
      members = variables_kept c.loop-m.maker.domains c.push_both.new.maker.domains kept c.args.members.now i.members;
    }

pub returns-clause-value : goal.returns-clause-value
returns-clause-value c a w =
    let i = c.loop-m.invariant in
    let before = world_before c.loop-m.maker c.truth_in_blocks.new.m a c.in_ok-t.ensures.adds.grows w in
    c.in_ok-t.ensures.value a w ∙ i.value a before
    ∙ ap (list_any (λ (m : Member). nat_eq (choice_at c.args.c.now a) m.object && truth_at m.is a)) (take_all c.loop-m.m-index c.args.members.now c.loop-m-test.false)
    ∙ any_members (choice_at c.args.c.now a) c.args.members.now a

pub returns-clause-adds : goal.returns-clause-adds
returns-clause-adds c = defines_more c.args.maker.now c.loop-m.maker c.truth_in_blocks.new.m c.loop-m.invariant.adds c.in_ok-t.ensures.adds
