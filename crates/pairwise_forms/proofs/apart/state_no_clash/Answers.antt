use Rattle.std.proofs.Common.{[], ◌+◌, ◌-◌, List, ℤ, not, ◌&&◌, take, drop, length}
use Rattle.std.specs.List.{list_any}
use Rattle.form_build.proofs.Growth.{adds_nothing, adds_more, adds_same}
use Rattle.pairwise_forms.specs.Clashing.{clash_at, some_clash}
use Rattle.pairwise_forms.proofs.ApartLaws.{clash_upto, upto_more, upto_all}
use Rattle.pairwise_forms.proofs.KeptParts.{members_kept, member_at, members_behind}
use Rattle.pairwise_forms.proofs.apart.state_no_clash.Goals as goal

pub loop-i-init : goal.loop-i-init
loop-i-init c = record {
  says = adds_nothing [] c.args.maker.now;
  members = c.requires.members;
}

pub state_apart_from-requires-clause-left : goal.state_apart_from-requires-clause-left
state_apart_from-requires-clause-left c = member_at (length c.loop-i.maker.domains) c.args.members.now c.loop-i.i c.index-members-i.result c.loop-i.invariant.members c.loop-i-test.true c.index-members-i.is

pub state_apart_from-requires-clause-right : goal.state_apart_from-requires-clause-right
state_apart_from-requires-clause-right c = members_behind (length c.loop-i.maker.domains) c.args.members.now (c.loop-i.i + 1) c.loop-i.invariant.members

pub loop-i-preserved : goal.loop-i-preserved
loop-i-preserved c =
    let es = c.args.members.now in
    let k = c.loop-i.i in
    let e = c.index-members-i.result in
    let there = c.loop-i.invariant in
    let more = c.in_ok-state_apart_from.ensures in
    let behind = take (length es - (k + 1)) (drop (k + 1) es) in
    record {
      says = adds_same [] c.args.maker.now c.state_apart_from.new.maker (λ (a : List ℤ). not (clash_upto k es a) && not (list_any (λ f. clash_at e f a) behind)) (λ (a : List ℤ). not (clash_upto (k + 1) es a))
          (λ a w kn. upto_more es k e a c.loop-i-test.true c.index-members-i.is)
          (adds_more [] c.args.maker.now c.loop-i.maker c.state_apart_from.new.maker (λ (a : List ℤ). not (clash_upto k es a)) (λ (a : List ℤ). not (list_any (λ f. clash_at e f a) behind)) there.says more.says);
      members = members_kept c.loop-i.maker c.state_apart_from.new.maker es more.says.grows there.members;
    }

pub returns : goal.returns
returns c =
    let es = c.args.members.now in
    let k = c.loop-i.i in
    record {
      says = adds_same [] c.args.maker.now c.loop-i.maker (λ (a : List ℤ). not (clash_upto k es a)) (λ (a : List ℤ). not (some_clash es a))
          (λ a w kn. upto_all es k a c.loop-i-test.false) c.loop-i.invariant.says;
    }
