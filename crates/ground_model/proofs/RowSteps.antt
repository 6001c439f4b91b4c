-- Rows, one for each object, and what they say together.
use Rattle.std.proofs.Common.{◌≡◌, ℕ, ◌+◌, ◌<◌, ◌≤◌, Bool, true, false, not, ◌&&◌, ◌||◌, List, [], ◌∷◌, ◌++◌, ℤ, get_or, length, take, refl, sym, ap, ◌∙◌}
use Rattle.std.specs.List.{list_all}
use Rattle.std.proofs.lemmas.List.{take_all}
use Rattle.std.proofs.lemmas.List.Folds.{list_all_more, list_all-append}
use Rattle.ground_form.specs.declared.ground.Ground.{Ground}
use Rattle.form_build.specs.Worlds.{Adds, Defines, Grows}
use Rattle.form_build.proofs.Growth.{world_before, adds_fewer, adds_more, adds_same}
use Rattle.packed_rows.specs.declared.row.Row.{Row}
use Rattle.packed_rows.specs.Loads.{row_holds, rows_hold}
use Rattle.ground_model.specs.Requiring.{Requires}
use Rattle.ground_model.specs.RowsAsked.{IsRowWhere, AreRowsWhere}

and_true : (b : Bool) → (b && true) ≡ b
and_true true = refl
and_true false = refl

-- no row yet
pub rows_none : {X : Type 0} (known : List (ℕ × ℤ)) (g : Ground) (p : List ℤ → X → Bool) (xs : List X) (rows : List Row) → rows ≡ [] → AreRowsWhere known g (λ values. list_all (p values) (take 0 xs)) rows
rows_none known g p xs rows e a w kn = sym (ap (λ (z : List Row). rows_hold z a) e)

-- one row more
pub rows_next : {X : Type 0} (known : List (ℕ × ℤ)) (g h : Ground) (p : List ℤ → X → Bool) (xs : List X) (k : ℕ) (x : X) (rows more : List Row) (r : Row) → k < length xs → x ≡ get_or xs k x → more ≡ rows ++ r ∷ [] → Grows g h →
    AreRowsWhere known g (λ values. list_all (p values) (take k xs)) rows → IsRowWhere known h (λ values. p values x) r → AreRowsWhere known h (λ values. list_all (p values) (take (k + 1) xs)) more
rows_next known g h p xs k x rows more r lt is made grows are one a w kn =
    list_all_more (p (take h.search a)) xs k x lt
    ∙ ap (λ y. list_all (p (take h.search a)) (take k xs) && p (take h.search a) y) (sym is)
    ∙ ap (λ (b : Bool). list_all (p (take h.search a)) (take k xs) && b) (one a w kn)
    ∙ ap (λ (n : ℕ). list_all (p (take n a)) (take k xs) && row_holds a r) grows.search
    ∙ ap (λ (b : Bool). b && row_holds a r) (are a (world_before g h a grows w) kn)
    ∙ ap (λ (b : Bool). rows_hold rows a && b) (sym (and_true (row_holds a r)))
    ∙ sym (list_all-append (row_holds a) rows (r ∷ []))
    ∙ sym (ap (λ (z : List Row). rows_hold z a) made)

-- rows that are stated, where they are packed, in place of the test
pub rows_stated : (known : List (ℕ × ℤ)) (f g h : Ground) (test : List ℤ → Bool) (rows : List Row) (packs : Bool) → Defines f g → AreRowsWhere known g test rows → Adds [] g h (λ a. not packs || rows_hold rows a) → Requires known f h (λ values. not packs || test values)
rows_stated known f g h test rows packs d are s =
    adds_same known f h (λ a. true && (not packs || rows_hold rows a)) (λ a. not packs || test (take f.search a))
    (λ a w kn.
    ap (λ (b : Bool). not packs || b) (sym (are a (world_before g h a s.grows w) kn) ∙ ap (λ (n : ℕ). test (take n a)) d.grows.search))
    (adds_more known f g h (λ a. true) (λ a. not packs || rows_hold rows a) (adds_fewer known f g (λ a. true) d) (adds_fewer known g h (λ a. not packs || rows_hold rows a) s))

pub nothing_stated : (known : List (ℕ × ℤ)) (f g : Ground) (test : List ℤ → Bool) → Defines f g → Requires known f g (λ values. not false || test values)
nothing_stated known f g test d = adds_fewer known f g (λ a. true) d

-- all rows
pub rows_all : {X : Type 0} (known : List (ℕ × ℤ)) (g : Ground) (p : List ℤ → X → Bool) (xs : List X) (k : ℕ) (rows : List Row) → length xs ≤ k → AreRowsWhere known g (λ values. list_all (p values) (take k xs)) rows → AreRowsWhere known g (λ values. list_all (p values) xs) rows
rows_all known g p xs k rows h are a w kn = sym (ap (list_all (p (take g.search a))) (take_all k xs h)) ∙ are a w kn

-- what is stated of a packing, and then again of each
pub once_more : (p t : Bool) → ((not p || t) && t) ≡ t
once_more true true = refl
once_more true false = refl
once_more false true = refl
once_more false false = refl
