use Rattle.std.proofs.Common.{◌<◌, ◌&&◌, ◌∙◌, Bool, ℕ, [], length, nat_eq, sym, ap, subst}
use Rattle.std.specs.List.{list_any}
use Rattle.std.proofs.lemmas.List.{take_all}
use Rattle.std.proofs.lemmas.List.Elements.{All-nil}
use Rattle.signed_clause.specs.Clauses.{Literal, Literals}
use Rattle.form_build.specs.Forms.{truth_at}
use Rattle.form_build.proofs.Growth.{world_before, adds_nothing, defines_more}
use Rattle.form_truths.specs.Disjunctions.{disjunction_at, IsWithin}
use Rattle.expr_forms.specs.FormValues.{choice_at}
use Rattle.expr_forms.proofs.Growing.{boxes_kept, choice_kept}
use Rattle.identity_forms.proofs.PairLaws.{both_same, any_step}
use Rattle.identity_forms.proofs.SameLaws.{both_among}
use Rattle.identity_forms.proofs.same.same_among.Goals as goal

pub loop-n-init : goal.loop-n-init
loop-n-init c = record {
  value = λ a w. ap (λ (z : Bool × Literals). disjunction_at z a) c.new-some.ensures;
  exist = subst (λ (z : Bool × Literals). IsWithin (length c.args.maker.now.domains) z.1) (sym c.new-some.ensures) (All-nil (λ (l : Literal). l.0 < length c.args.maker.now.domains));
  adds = adds_nothing [] c.args.maker.now;
  left = c.requires.left;
  right = c.requires.right;
}

pub loop-n-preserved : goal.loop-n-preserved
loop-n-preserved c =
    let i = c.loop-n.invariant in
    let more = c.in_ok-push_both.ensures in
    let kept = boxes_kept c.loop-n.maker c.push_both.new.maker more.adds.grows in
    record {
      value = λ a w.
          let before = world_before c.loop-n.maker c.push_both.new.maker a more.adds.grows w in
          any_step (λ (n : ℕ). nat_eq (choice_at c.args.c.now a) n && nat_eq (choice_at c.args.d.now a) n) c.args.objects.now c.loop-n.n-index 0 (disjunction_at c.loop-n.some a) (disjunction_at c.push_both.new.some a)
          (truth_at c.in_ok-left.left a && truth_at c.in_ok-right.right a) c.loop-n-test.true (i.value a before) (more.value a w)
          (both_same _ _ _ _ (c.in_ok-left.ensures.value a before.within) (c.in_ok-right.ensures.value a before.within));
      exist = more.exist i.exist;
      adds = defines_more c.args.maker.now c.loop-n.maker c.push_both.new.maker i.adds more.adds;
      left = choice_kept c.loop-n.maker.domains c.push_both.new.maker.domains kept (λ (n : ℕ). Unit {0}) c.args.c.now i.left;
      right = choice_kept c.loop-n.maker.domains c.push_both.new.maker.domains kept (λ (n : ℕ). Unit {0}) c.args.d.now i.right;
    }

pub returns-clause-value : goal.returns-clause-value
returns-clause-value c a w =
    let i = c.loop-n.invariant in
    let before = world_before c.loop-n.maker c.truth_in_blocks.new.m a c.in_ok-t.ensures.adds.grows w in
    let first = world_before c.args.maker.now c.loop-n.maker a i.adds.grows before in
    c.in_ok-t.ensures.value a w ∙ i.value a before
    ∙ ap (list_any (λ (n : ℕ). nat_eq (choice_at c.args.c.now a) n && nat_eq (choice_at c.args.d.now a) n)) (take_all c.loop-n.n-index c.args.objects.now c.loop-n-test.false)
    ∙ both_among (choice_at c.args.c.now a) (choice_at c.args.d.now a) c.args.objects.now (c.requires.among a first.within)

pub returns-clause-adds : goal.returns-clause-adds
returns-clause-adds c = defines_more c.args.maker.now c.loop-n.maker c.truth_in_blocks.new.m c.loop-n.invariant.adds c.in_ok-t.ensures.adds
