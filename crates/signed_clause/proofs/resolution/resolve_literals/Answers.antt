use Rattle.std.proofs.Common.{◌++◌, ◌≤◌, ◌⊎◌, inl, inr, length, drop, ap, ◌∙◌, sym}
use Rattle.std.proofs.lemmas.List.{append_assoc}
use Rattle.signed_clause.specs.Clauses.{Literals}
use Rattle.signed_clause.proofs.ResolventLaws.{resolvent-done}
use Rattle.signed_clause.proofs.resolution.resolve_literals.Goals as goal
use Rattle.signed_clause.proofs.resolution.resolve_literals.Goals.{then-loop-i-test+else-j-b, else-loop-i-test}

pub returns : goal.returns
returns c =
    let a = c.args.a.now in let b = c.args.b.now in
    let over : (length a ≤ c.loop-i.i) ⊎ (length b ≤ c.loop-i.j) =
    elim c.loop-i-test.branch [ then-loop-i-test+else-j-b w ↦ inr w.if-j-b.false | else-loop-i-test w ↦ inl w.loop-i-test.false ] in
    let first = c.in_ok-push_rest.ensures in let second = c.in_ok-push_rest-2.ensures in
    second ∙ ap (λ (z : Literals). z ++ drop c.loop-i.j b) first ∙ append_assoc c.loop-i.out.items (drop c.loop-i.i a) (drop c.loop-i.j b)
    ∙ ap (λ (z : Literals). c.loop-i.out.items ++ z) (sym (resolvent-done c.args.x a b c.loop-i.i c.loop-i.j over)) ∙ c.loop-i.invariant
