-- What is said of variables, by constraints that stand.
use Rattle.std.proofs.Common.{◌≡◌, ℕ, ◌<◌, true, List, [], ℤ, ◌≤ℤ◌, Contains, All, length, sym, subst}
use Rattle.std.proofs.lemmas.List.Elements.{All-contains}
use Rattle.signed_clause.specs.Ranges.{Ranges, has, IsValid}
use Rattle.signed_clause.specs.Clauses.{box_of}
use Rattle.ground_form.specs.Bounds.{low_of, high_of}
use Rattle.ground_form.proofs.Ends.{low_le, le_high}
use Rattle.ground_form.specs.declared.con.Con.{Con}
use Rattle.ground_form.specs.declared.ground.Ground.{Ground}
use Rattle.ground_form.specs.Meaning.{value_of, con_true}
use Rattle.form_build.specs.Worlds.{IsWorld, AllHold}
use Rattle.stated_rows.specs.Following.{AreEnds}

-- a constraint that stands is true
pub said_by : (g : Ground) (c : Con) (x : ℕ) (s : Ranges) → Contains g.cons c → ((a : List ℤ) → con_true c a ≡ true → has s (value_of a x) ≡ true) → (a : List ℤ) → AllHold g a → has s (value_of a x) ≡ true
said_by g c x s has_it says a all = says a (All-contains (λ (k : Con). con_true k a ≡ true) g.cons c all has_it)

-- the ends of a set that a variable is in
pub ends_of_set : (g : Ground) (x : ℕ) (s : Ranges) (low high : ℤ) → IsValid s → low ≡ low_of s → high ≡ high_of s → ((a : List ℤ) → IsWorld g a → AllHold g a → has s (value_of a x) ≡ true) → AreEnds g x low high
ends_of_set g x s low high valid l h in_it a w all =
    let k = in_it a w all in
    (subst (λ (z : ℤ). z ≤ℤ value_of a x) (sym l) (low_le s (value_of a x) valid k), subst (λ (z : ℤ). value_of a x ≤ℤ z) (sym h) (le_high s (value_of a x) valid k))

-- those of its box
pub ends_of_box : (g : Ground) (x : ℕ) (low high : ℤ) → All (λ d. IsValid d) g.domains → x < length g.domains → low ≡ low_of (box_of g.domains x) → high ≡ high_of (box_of g.domains x) → AreEnds g x low high
ends_of_box g x low high valid lt l h = ends_of_set g x (box_of g.domains x) low high (valid x [] lt) l h (λ a w all. w.within x lt)

-- both have the variable between them
pub ends_both : (g : Ground) (x : ℕ) (l1 h1 l2 h2 low high : ℤ) → ((v : ℤ) → l1 ≤ℤ v → l2 ≤ℤ v → low ≤ℤ v) → ((v : ℤ) → v ≤ℤ h1 → v ≤ℤ h2 → v ≤ℤ high) → AreEnds g x l1 h1 → AreEnds g x l2 h2 → AreEnds g x low high
ends_both g x l1 h1 l2 h2 low high above below one other a w all =
    let m = one a w all in
    let n = other a w all in
    (above (value_of a x) m.0 n.0, below (value_of a x) m.1 n.1)
