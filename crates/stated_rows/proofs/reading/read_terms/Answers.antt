use Rattle.std.proofs.Common.{ℕ, ℤ, pos, List, ◌∷◌, ◌++◌, [], Option, IfSome, get_or, take, sym, subst}
use Rattle.std.proofs.lemmas.List.{take_more}
use Rattle.stated_rows.specs.Following.{IsBelow}
use Rattle.stated_rows.specs.declared.reading.Reading.{Reading}
use Rattle.stated_rows.proofs.reading.read_terms.Goals as goal

pub loop-t-preserved : goal.loop-t-preserved
loop-t-preserved c =
    let g = c.args.maker.now in
    let bin = pos c.args.bin in
    let d : ℤ × ℕ = (pos 0, 0) in
    let t = get_or c.args.terms.now c.loop-t.t-index d in
    let next = c.in-Some.next in
    let step = subst (λ (o : Option Reading). IfSome o (λ n. (terms : List (ℤ × ℕ)) → IsBelow g bin c.loop-t.r.loads.items c.loop-t.r.least.value terms → IsBelow g bin n.loads.items n.least.value (terms ++ t ∷ []))) c.in-Some.is c.in_ok-next.ensures in
    subst (λ (z : List (ℤ × ℕ)). IsBelow g bin next.loads.items next.least.value z) (sym (take_more c.args.terms.now c.loop-t.t-index d c.loop-t-test.true)) (step (take c.loop-t.t-index c.args.terms.now) c.loop-t.invariant)
