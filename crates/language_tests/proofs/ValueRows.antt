-- Values that fit their cells one after the other, and a model's first objective.
use Rattle.std.proofs.Common.{◌≡◌, ℕ, zero, suc, pos, refl, ◌+◌, ◌<◌, List, [], ◌∷◌, ℤ, length, drop, get_or, slice_index_or, sym, subst, arith}
use Rattle.std.specs.Prelude.{All}
use Rattle.std.proofs.lemmas.List.Elements.{All-head}
use Rattle.class_table.proofs.ListLaws.{drop_next}
use Rattle.class_table.specs.Outline.{Outline}
use Rattle.conf_types.specs.Programs.{ResolvedGoal}
use Rattle.object_alloc.specs.declared.object.Cell.{Cell}
use Rattle.object_alloc.specs.Configurations.{AreValues, IsInDomain}

pub one_more : (o : Outline) (cs : List Cell) (vs : List ℤ) (i : ℕ) (d : Cell) → i < length cs → length cs ≡ length vs → IsInDomain o (get_or cs i d).domain (get_or vs i (pos 0)) → AreValues o (drop (i + 1) cs) (drop (i + 1) vs) → AreValues o (drop i cs) (drop i vs)
one_more o cs vs i d lt same h rest =
    subst (λ (xs : List Cell). AreValues o xs (drop i vs)) (sym (next cs d lt))
    (subst (λ (ys : List ℤ). AreValues o (get_or cs i d ∷ drop (i + 1) cs) ys) (sym (next vs (pos 0) (subst (λ n. i < n) same lt))) (h, rest))
  where
    again : {X : Type 0} (xs : List X) (k : ℕ) (e : X) → get_or xs k e ≡ get_or xs k (get_or xs k e)
    again [] k e = refl
    again (x ∷ xs) zero e = refl
    again (x ∷ xs) (suc k) e = again xs k e

    next : {X : Type 0} (xs : List X) (e : X) → i < length xs → drop i xs ≡ get_or xs i e ∷ drop (i + 1) xs
    next xs e lt = drop_next xs i (get_or xs i e) lt (again xs i e)

pub first_of_all : (P : ResolvedGoal → Type 0) (gs : List ResolvedGoal) (d : ResolvedGoal) → 0 < length gs → All P gs → P (slice_index_or gs 0 d)
first_of_all P [] d lt h = absurd (omega (arith, lt))
first_of_all P (g ∷ gs) d lt h = All-head P g gs h
