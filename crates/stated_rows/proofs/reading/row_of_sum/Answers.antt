use Rattle.std.proofs.Common.{◌≡◌, true, ℕ, ℤ, pos, ◌≤ℤ◌, List, Option, IfSome, subst}
use Rattle.ground_form.specs.declared.ground.Ground.{Ground}
use Rattle.ground_form.specs.Meaning.{sum_at}
use Rattle.form_build.specs.Worlds.{IsWorld, AllHold}
use Rattle.packed_rows.specs.declared.row.Row.{Row}
use Rattle.packed_rows.specs.Loads.{row_holds}
use Rattle.stated_rows.specs.Following.{IsBelow}
use Rattle.stated_rows.specs.declared.reading.Reading.{Reading}
use Rattle.stated_rows.proofs.LoadLaws.{if_some}
use Rattle.stated_rows.proofs.reading.row_of_sum.Goals as goal

pub returns-in-Some-2 : goal.returns-in-Some-2
returns-in-Some-2 c =
    let g = c.args.maker.now in
    let r = c.in-Some-2.r in
    let below = subst (λ (o : Option Reading). IfSome o (λ z. IsBelow g (pos c.in-Some.bin) z.loads.items z.least.value c.args.terms.now)) c.in-Some-2.is c.in_ok-r.ensures in
    if_some (λ (row : Row). (h : Ground) (terms : List (ℤ × ℕ)) (a : List ℤ) → IsBelow h (pos c.in-Some.bin) r.loads.items r.least.value terms → IsWorld h a → AllHold h a → sum_at terms a ≤ℤ c.args.bound.value → row_holds a row ≡ true)
    (λ (row : Row). (a : List ℤ) → IsWorld g a → AllHold g a → sum_at c.args.terms.now a ≤ℤ c.args.bound.value → row_holds a row ≡ true)
    c.row_from.result (λ row h a w all le. h g c.args.terms.now a below w all le) c.row_from.ensures
