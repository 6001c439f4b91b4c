-- A configuration changes none of its own values.
use Rattle.std.proofs.Common.{◌≡◌, ◌∙◌, ℕ, zero, suc, true, false, not, ◌&&◌, ◌||◌, cond, List, [], ◌∷◌, Some, length, map, refl, ap, arith}
use Rattle.std.specs.Prelude.{ℤ, int_le, take, drop}
use Rattle.std.specs.List.{list_all}
use Rattle.std.proofs.lemmas.Int.{ints}
use Rattle.class_table.specs.Outline.{Outline}
use Rattle.object_alloc.specs.declared.object.Leaf.{Leaf}
use Rattle.object_alloc.specs.Cells.{cells, leaf_cells}
use Rattle.object_alloc.specs.Changes.{allowed, changes, changes_of, differs, is_changed, is_sound, named}
use Rattle.object_alloc.specs.Walk.{leaves_in, walk}

same_value : (v : ℤ) → int_le v v ≡ true
same_value v = grind (arith, ints)

own_same : (v : ℤ) → differs (Some v) v ≡ false
own_same v = ap (λ b. not (b && b)) (same_value v)

own_unchanged : (vs : List ℤ) → is_changed (map Some vs) vs ≡ false
own_unchanged [] = refl
own_unchanged (v ∷ vs) = ap (λ b. b || is_changed (map Some vs) vs) (own_same v) ∙ own_unchanged vs

taken : (n : ℕ) (vs : List ℤ) → take n (map Some vs) ≡ map Some (take n vs)
taken zero [] = refl
taken zero (v ∷ vs) = refl
taken (suc n) [] = refl
taken (suc n) (v ∷ vs) = ap (λ hs. Some v ∷ hs) (taken n vs)

dropped : (n : ℕ) (vs : List ℤ) → drop n (map Some vs) ≡ map Some (drop n vs)
dropped zero [] = refl
dropped zero (v ∷ vs) = refl
dropped (suc n) [] = refl
dropped (suc n) (v ∷ vs) = dropped n vs

no_changes : (o : Outline) (ls : List Leaf) (vs : List ℤ) → changes_of o ls (map Some vs) vs ≡ 0
no_changes o [] vs = refl
no_changes o (l ∷ ls) vs =
    let n = length (leaf_cells o l) in
    let behind = ap (λ hs. changes_of o ls hs (drop n vs)) (dropped n vs) ∙ no_changes o ls (drop n vs) in
    let here = ap (λ hs. is_changed hs (take n vs)) (taken n vs) ∙ own_unchanged (take n vs) in
    ap (λ b. cond b (suc (changes_of o ls (drop n (map Some vs)) (drop n vs))) (changes_of o ls (drop n (map Some vs)) (drop n vs))) here ∙ behind

pub own_changes : (o : Outline) (vs : List ℤ) → changes o (map Some vs) vs ≡ 0
own_changes o vs = no_changes o (leaves_in (walk o)) vs

all_sound : (o : Outline) (ns : List ℕ) → list_all (is_sound o []) ns ≡ true
all_sound o [] = refl
all_sound o (n ∷ ns) = all_sound o ns

pub none_failed : (o : Outline) (vs : List ℤ) → allowed o [] vs ≡ true
none_failed o vs = all_sound o (named (cells o) vs)
