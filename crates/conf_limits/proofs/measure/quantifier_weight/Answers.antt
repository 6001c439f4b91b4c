use Rattle.std.proofs.Common.{◌+◌, ◌*◌, ap, sym, ◌∙◌, refl}
use Rattle.conf_limits.specs.Limits.{capped}
use Rattle.conf_limits.specs.Measures.{quantifier_weight}
use Rattle.conf_limits.proofs.measure.quantifier_weight.Goals as goal

pub returns-in-Pack : goal.returns-in-Pack
returns-in-Pack c = λ r over filter bodies e f.
    let all = 1 + over + filter + bodies in
    let each = c.capped_sum-each.ensures 1 (r * all) refl (c.capped_product.ensures r all e f) in
    let square = c.capped_product-in-Pack.ensures r r e e in
    let triple = c.capped_product-in-Pack-2.ensures 3 (r * r) refl square in
    c.capped_sum-in-Pack.ensures (1 + r * all) (3 * (r * r)) each triple ∙ ap (λ k. capped (quantifier_weight k r over filter bodies)) (sym c.in-Pack.is)
