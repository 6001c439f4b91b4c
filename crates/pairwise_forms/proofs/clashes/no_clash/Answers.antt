use Rattle.std.proofs.Common.{◌<◌, ◌+◌, Bool, [], ◌||◌, length, sym, ap, subst}
use Rattle.std.proofs.lemmas.List.Elements.{All-nil}
use Rattle.signed_clause.specs.Clauses.{Literal, Literals}
use Rattle.form_build.specs.Forms.{truth_at}
use Rattle.form_build.proofs.Growth.{world_before, adds_nothing, defines_more}
use Rattle.form_truths.specs.Disjunctions.{disjunction_at, IsWithin}
use Rattle.pairwise_forms.specs.Clashing.{some_clash}
use Rattle.pairwise_forms.proofs.ClashSteps.{rest_step, rest_done}
use Rattle.pairwise_forms.proofs.KeptParts.{members_kept, member_at, members_behind}
use Rattle.pairwise_forms.proofs.clashes.no_clash.Goals as goal

pub loop-i-init : goal.loop-i-init
loop-i-init c = record {
  value = λ a w. ap (λ (d : Bool × Literals). disjunction_at d a || some_clash c.args.members.now a) c.new-clashes.ensures;
  exist = subst (λ (d : Bool × Literals). IsWithin (length c.args.maker.now.domains) d.1) (sym c.new-clashes.ensures) (All-nil (λ (l : Literal). l.0 < length c.args.maker.now.domains));
  members = c.requires.members;
  adds = adds_nothing [] c.args.maker.now;
}

pub push_member-requires-clause-left : goal.push_member-requires-clause-left
push_member-requires-clause-left c = member_at (length c.loop-i.maker.domains) c.args.members.now c.loop-i.i c.index-members-i.result c.loop-i.invariant.members c.loop-i-test.true c.index-members-i.is

pub push_member-requires-clause-right : goal.push_member-requires-clause-right
push_member-requires-clause-right c = members_behind (length c.loop-i.maker.domains) c.args.members.now (c.loop-i.i + 1) c.loop-i.invariant.members

pub loop-i-preserved : goal.loop-i-preserved
loop-i-preserved c =
    let there = c.loop-i.invariant in
    let more = c.in_ok-push_member.ensures in
    record {
      value = λ a w.
          rest_step c.args.members.now c.loop-i.i c.index-members-i.result a (some_clash c.args.members.now a) (disjunction_at c.loop-i.clashes a) (disjunction_at c.push_member.new.d a)
          c.loop-i-test.true c.index-members-i.is
          (there.value a (world_before c.loop-i.maker c.push_member.new.maker a more.adds.grows w)) (more.value a w);
      exist = more.exist;
      members = members_kept c.loop-i.maker c.push_member.new.maker c.args.members.now more.adds.grows there.members;
      adds = defines_more c.args.maker.now c.loop-i.maker c.push_member.new.maker there.adds more.adds;
    }

pub returns-clause-value : goal.returns-clause-value
returns-clause-value c a w =
    let before = world_before c.loop-i.maker c.none_from.new.maker a c.in_ok-t.ensures.adds.grows w in
    rest_done c.args.members.now c.loop-i.i a (some_clash c.args.members.now a) (disjunction_at c.loop-i.clashes a) (truth_at c.in_ok-t.t a) c.loop-i-test.false (c.loop-i.invariant.value a before) (c.in_ok-t.ensures.value a w)

pub returns-clause-adds : goal.returns-clause-adds
returns-clause-adds c = defines_more c.args.maker.now c.loop-i.maker c.none_from.new.maker c.loop-i.invariant.adds c.in_ok-t.ensures.adds
