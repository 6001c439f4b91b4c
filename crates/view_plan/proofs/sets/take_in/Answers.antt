use Rattle.std.proofs.Common.{rules, ◌≡◌, map, ap, ◌∙◌}
use Rattle.serde_json.specs.Data.{string}
use Rattle.serde_json.specs.View.{view}
use Rattle.serde_json.specs.declared.value.Value.{the_lemmas}
use Rattle.view_plan.specs.Words.{with_value}
use Rattle.view_plan.proofs.SetLaws.{now_insert}
use Rattle.view_plan.proofs.sets.take_in.Goals as goal

pub returns-in_ok-insert-in-String : goal.returns-in_ok-insert-in-String
returns-in_ok-insert-in-String c =
    let seen : string c.as_str.result.now ≡ view c.args.value.now = rw c.in-String.is (search (rules, the_lemmas)) in
    ap (λ ks. map (λ k. k.now) ks) c.in_ok-insert-in-String.ensures.keys
    ∙ now_insert c.args.words.now.keys c.as_str.result
    ∙ ap (with_value (map (λ k. k.now) c.args.words.now.keys)) seen
