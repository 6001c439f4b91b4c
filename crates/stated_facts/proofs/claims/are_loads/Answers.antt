use Rattle.std.proofs.Common.{All, List, ℕ, ℤ, pos, take, get_or, refl, sym, subst, arith}
use Rattle.std.proofs.lemmas.List.{take_more, take_all}
use Rattle.std.proofs.lemmas.List.Elements.{All-push}
use Rattle.stated_facts.specs.Claims.{IsLoad}
use Rattle.stated_facts.proofs.claims.are_loads.Goals as goal

pub loop-t-preserved : goal.loop-t-preserved
loop-t-preserved c =
    let ts = c.args.terms.now in
    let k = c.loop-t.t-index in
    subst (λ (z : List (ℤ × ℕ)). All (IsLoad c.args.boxes.now c.args.rises) z) (sym (take_more ts k (pos 0, 0) c.loop-t-test.true))
    (All-push (IsLoad c.args.boxes.now c.args.rises) (take k ts) (get_or ts k (pos 0, 0)) c.loop-t.invariant (c.if-not-is_load.ensures refl))

pub returns : goal.returns
returns c e =
    subst (λ (z : List (ℤ × ℕ)). All (IsLoad c.args.boxes.now c.args.rises) z) (take_all c.loop-t.t-index c.args.terms.now (omega arith)) c.loop-t.invariant
