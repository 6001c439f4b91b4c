use Rattle.std.proofs.Common.{◌≡◌, ℤ, pos, ◌*ℤ◌, ◌≤ℤ◌, List, arith}
use Rattle.std.proofs.lemmas.Int.{ints}
use Rattle.ground_form.specs.declared.sums.Number.{Number}
use Rattle.ground_form.specs.Meaning.{value_of}
use Rattle.form_build.specs.Worlds.{IsWorld, AllHold}
use Rattle.stated_rows.proofs.LoadLaws.{if_some}
use Rattle.stated_rows.proofs.ShareLaws.{least_product}
use Rattle.stated_rows.proofs.shares.least_size.Goals as goal

pub returns-then-low-ge0 : goal.returns-then-low-ge0
returns-then-low-ge0 c =
    let g = c.args.maker.now in
    let t = c.args.t in
    let low = c.in_ok-low.low.value in
    let some : pos 0 ≤ℤ t.0 = let h = c.if-t-gt0.true in omega (arith, ints, h) in
    if_some (λ (p : Number). p.value ≡ (t.0 *ℤ low))
    (λ (p : Number). (a : List ℤ) → IsWorld g a → AllHold g a → p.value ≤ℤ (t.0 *ℤ value_of a c.args.item))
    c.times.result (λ p is a w all. least_product g t c.args.item low c.in_ok-low.field-0-1.value p c.in_ok-low.ensures some is a w all) c.times.ensures
