use Rattle.std.proofs.Common.{◌<◌, ◌||◌, Bool, length, sym, ap, subst, ◌∙◌}
use Rattle.std.specs.List.{list_any}
use Rattle.std.proofs.lemmas.List.Elements.{All-nil}
use Rattle.signed_clause.specs.Clauses.{Literal, Literals}
use Rattle.form_build.specs.Forms.{truth_at}
use Rattle.form_build.proofs.Growth.{world_before, defines_more}
use Rattle.form_truths.specs.Disjunctions.{disjunction_at, IsWithin}
use Rattle.quantifier_forms.proofs.PartsKept.{literals_kept}
use Rattle.pairwise_forms.specs.Clashing.{clash_at}
use Rattle.pairwise_forms.proofs.ClashSteps.{row_is}
use Rattle.pairwise_forms.proofs.clashes.push_row.Goals as goal

pub push_clashes-requires-clause-exist : goal.push_clashes-requires-clause-exist
push_clashes-requires-clause-exist c =
    subst (λ (d : Bool × Literals). IsWithin (length c.args.maker.now.domains) d.1) (sym c.new-row.ensures) (All-nil (λ (l : Literal). l.0 < length c.args.maker.now.domains))

pub push_turned-requires-clause-exist : goal.push_turned-requires-clause-exist
push_turned-requires-clause-exist c =
    literals_kept c.push_clashes.new.maker c.none_from.new.maker c.in_ok-apart.ensures.adds.grows c.args.d.now.1
    (literals_kept c.args.maker.now c.push_clashes.new.maker c.in_ok-push_clashes.ensures.adds.grows c.args.d.now.1 c.requires.exist)

pub returns-clause-value : goal.returns-clause-value
returns-clause-value c a w =
    let some = list_any (λ f. clash_at c.args.e.now f a) c.args.others.now in
    let before = world_before c.push_clashes.new.maker c.none_from.new.maker a c.in_ok-apart.ensures.adds.grows w in
    row_is some (disjunction_at c.args.d.now a) (disjunction_at c.push_clashes.new.d a) (truth_at c.in_ok-apart.apart a) (disjunction_at c.push_turned.new.d a)
    (c.in_ok-push_clashes.ensures.value a before ∙ ap (λ (d : Bool × Literals). disjunction_at d a || some) c.new-row.ensures)
    (c.in_ok-apart.ensures.value a w)
    (c.in_ok-push_turned.ensures.value a w)

pub returns-clause-adds : goal.returns-clause-adds
returns-clause-adds c = defines_more c.args.maker.now c.push_clashes.new.maker c.none_from.new.maker c.in_ok-push_clashes.ensures.adds c.in_ok-apart.ensures.adds
