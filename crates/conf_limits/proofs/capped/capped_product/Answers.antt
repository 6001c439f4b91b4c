use Rattle.std.proofs.Common.{◌≡◌, ◌∙◌, ◌*◌, ap, arith}
use Rattle.conf_limits.specs.Limits.{capped}
use Rattle.conf_limits.proofs.CapLaws.{product_capped}
use Rattle.conf_limits.proofs.capped.capped_product.Goals as goal

pub returns : goal.returns
returns c = λ m n a b.
    let h = c.min.ensures in
    let k = c.saturating_mul.ensures in
    let same : c.min.result ≡ capped (c.args.a * c.args.b) = omega (arith, h, k) in
    same ∙ ap (λ x. capped (x * c.args.b)) a ∙ ap (λ x. capped (capped m * x)) b ∙ product_capped m n
