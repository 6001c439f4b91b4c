use Rattle.std.proofs.Common.{ap, ◌∙◌, rules, w64, pos, ◌*ℤ◌, refl}
use Rattle.std.specs.Int.{w128, int_min, int_max}
use Rattle.std.proofs.lemmas.Int.{to_z-of_z}
use Rattle.conf_limits.specs.Limits.{narrowed}
use Rattle.conf_limits.specs.Measures.{many}
use Rattle.conf_limits.proofs.CapLaws.{many_capped}
use Rattle.conf_limits.proofs.interval.many.Goals as goal

pub returns : goal.returns
returns c = λ r e.
    let i = c.args.i in
    let il = to_z-of_z w64 i.low (search rules) in
    let ih = to_z-of_z w64 i.high (search rules) in
    let low = to_z-of_z w64 c.min.result (search rules) ∙ c.min.ensures.value ∙ ap (λ x. int_min x (pos 0)) il in
    let high = to_z-of_z w64 c.max.result (search rules) ∙ c.max.ensures.value ∙ ap (λ x. int_max x (pos 0)) ih in
    let p = to_z-of_z w128 c.repeated.result (search rules) ∙ c.repeated.ensures c.args.reach (int_min i.low (pos 0)) refl low in
    let q = to_z-of_z w128 c.repeated-2.result (search rules) ∙ c.repeated-2.ensures c.args.reach (int_max i.high (pos 0)) refl high in
    c.narrowed.ensures (pos c.args.reach *ℤ int_min i.low (pos 0)) (pos c.args.reach *ℤ int_max i.high (pos 0)) p q ∙ ap (λ n. narrowed (many n i)) e ∙ many_capped r i
