use Rattle.std.proofs.Common.{[], ◌+◌, List, ℤ, not, ◌&&◌, take}
use Rattle.std.specs.List.{list_any}
use Rattle.form_build.proofs.Growth.{adds_nothing, adds_more, adds_same}
use Rattle.pairwise_forms.specs.Clashing.{clash_at}
use Rattle.pairwise_forms.proofs.ApartLaws.{apart_more, apart_all}
use Rattle.pairwise_forms.proofs.KeptParts.{member_kept, members_kept}
use Rattle.pairwise_forms.proofs.apart.state_apart_from.Goals as goal

pub loop-f-init : goal.loop-f-init
loop-f-init c = record {
  says = adds_nothing [] c.args.maker.now;
  left = c.requires.left;
  right = c.requires.right;
}

pub loop-f-preserved : goal.loop-f-preserved
loop-f-preserved c =
    let e = c.args.e.now in
    let fs = c.args.others.now in
    let k = c.loop-f.f-index in
    let there = c.loop-f.invariant in
    let more = c.in_ok-state_apart.ensures in
    record {
      says = adds_same [] c.args.maker.now c.state_apart.new.maker (λ (a : List ℤ). not (list_any (λ f. clash_at e f a) (take k fs)) && not (clash_at e c.f-item.result a)) (λ (a : List ℤ). not (list_any (λ f. clash_at e f a) (take (k + 1) fs)))
          (λ a w kn. apart_more e fs k c.f-item.result a c.loop-f-test.true c.f-item.is)
          (adds_more [] c.args.maker.now c.loop-f.maker c.state_apart.new.maker (λ (a : List ℤ). not (list_any (λ f. clash_at e f a) (take k fs))) (λ (a : List ℤ). not (clash_at e c.f-item.result a)) there.says more.says);
      left = member_kept c.loop-f.maker c.state_apart.new.maker e more.says.grows there.left;
      right = members_kept c.loop-f.maker c.state_apart.new.maker fs more.says.grows there.right;
    }

pub returns : goal.returns
returns c =
    let e = c.args.e.now in
    let fs = c.args.others.now in
    let k = c.loop-f.f-index in
    record {
      says = adds_same [] c.args.maker.now c.loop-f.maker (λ (a : List ℤ). not (list_any (λ f. clash_at e f a) (take k fs))) (λ (a : List ℤ). not (list_any (λ f. clash_at e f a) fs))
          (λ a w kn. apart_all e fs k a c.loop-f-test.false) c.loop-f.invariant.says;
    }
