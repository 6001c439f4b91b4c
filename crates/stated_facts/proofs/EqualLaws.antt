-- Rows of cells.
use Rattle.std.proofs.Common.{◌≡◌, ℕ, ◌^◌, ◌≤◌, true, List, ℤ, negsuc, neg_ℤ, ◌*ℤ◌, ◌≤ℤ◌, int_le, unsigned_abs, sym, ap, ◌∙◌, subst, arith}
use Rattle.std.specs.Prelude.{Contains}
use Rattle.std.proofs.lemmas.Int.{ints}
use Rattle.std.proofs.lemmas.List.Elements.{All-contains}
use Rattle.signed_clause.specs.Clauses.{Boxes}
use Rattle.ground_form.specs.declared.con.Con.{Con}
use Rattle.ground_form.specs.declared.con.Con.TheVariants.{LinLe}
use Rattle.ground_form.specs.declared.ground.Ground.{Ground}
use Rattle.ground_form.specs.Meaning.{sum_at, con_true}
use Rattle.ground_form.specs.Bounds.{weight_of, most_sum}
use Rattle.ground_form.specs.WellMade.{IsWellMade, IsWellMadeCon}
use Rattle.form_build.specs.declared.form.Linear.{Linear}
use Rattle.form_build.specs.Forms.{linear_at}
use Rattle.form_build.specs.Sums.{AreTerms, IsLinear}
use Rattle.form_build.proofs.Linears.{minus_one}
use Rattle.stated_facts.specs.Rows.{Follows, IsAbove}

le_of : (x y : ℤ) → int_le x y ≡ true → x ≤ℤ y
le_of x y h = grind (arith, ints)

abs_neg : (b : ℤ) → unsigned_abs (neg_ℤ b) ≡ unsigned_abs b
abs_neg b = grind (arith, ints)

-- the row that a constraint says
pub row_follows : (g : Ground) (ts : List (ℤ × ℕ)) (bound : ℤ) (r : Linear) → Contains g.cons (LinLe ts bound) → r.terms ≡ ts → r.offset ≡ neg_ℤ bound → Follows g r
row_follows g ts bound r there e f a w all =
    let says = le_of (sum_at ts a) bound (All-contains (λ (c : Con). con_true c a ≡ true) g.cons (LinLe ts bound) all there) in
    let sum = ap (λ (z : List (ℤ × ℕ)). sum_at z a) e in
    omega (arith, ints, says, sum, f)

pub row_linear : (boxes : Boxes) (ts : List (ℤ × ℕ)) (bound : ℤ) (r : Linear) → r.terms ≡ ts → r.offset ≡ neg_ℤ bound → AreTerms boxes 0 ts → weight_of ts boxes ≤ 2 ^ 19 → unsigned_abs bound ≤ 2 ^ 19 → IsLinear (2 ^ 20) boxes r
row_linear boxes ts bound r e f terms light small = record {
  terms = subst (λ (z : List (ℤ × ℕ)). AreTerms boxes 0 z) (sym e) terms;
  bounded =
      let weight = ap (λ (z : List (ℤ × ℕ)). weight_of z boxes) e in
      let size = ap unsigned_abs f ∙ abs_neg bound in
      omega (arith, weight, size, light, small);
}

-- its numbers are bounded, since the problem is well made
pub row_bounded : (g : Ground) (ts : List (ℤ × ℕ)) (bound : ℤ) → IsWellMade g → Contains g.cons (LinLe ts bound) → weight_of ts g.domains ≤ most_sum
row_bounded g ts bound made there = (All-contains (IsWellMadeCon g.domains) g.cons (LinLe ts bound) made.constraints there).bounded

-- a row with its signs turned
pub opposite_is : (r turned o : Linear) (a : List ℤ) → linear_at turned a ≡ (negsuc 0 *ℤ linear_at r a) → turned.offset ≡ o.offset → turned.terms ≡ o.terms → linear_at o a ≡ neg_ℤ (linear_at r a)
opposite_is r turned o a times e f =
    let one = minus_one (linear_at r a) in
    let sum = ap (λ (z : List (ℤ × ℕ)). sum_at z a) f in
    omega (arith, ints, times, one, sum, e)

pub above_by : (g : Ground) (r o : Linear) → Follows g o → ((a : List ℤ) → linear_at o a ≡ neg_ℤ (linear_at r a)) → IsAbove g r
above_by g r o h turned a w all =
    let below = h a w all in
    let is = turned a in
    omega (arith, ints, below, is)
