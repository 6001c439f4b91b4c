-- Quantifiers' variables, one by one.
use Rattle.std.proofs.Common.{◌≡◌, ℕ, zero, suc, ◌+◌, ◌-◌, ◌<◌, ◌≤◌, cond, List, [], ◌∷◌, ◌++◌, Some, length, get_or, drop, take, refl, ap, sym, ◌∙◌, subst, arith, length-append}
use Rattle.std.proofs.lemmas.List.{take_all}
use Rattle.class_table.specs.Same.{same_name}
use Rattle.conf_types.specs.declared.scope.Local.{Local}
use Rattle.conf_types.specs.Checked.{locals_of, AreLocals}
use Rattle.conf_types.specs.Scopes.{Sense, ALocal, local_or}

pub locals_append : (xs ys : List Local) (n : ℕ) → AreLocals n xs → AreLocals n ys → AreLocals n (xs ++ ys)
locals_append [] ys n a b = b
locals_append (x ∷ xs) ys n a b = (a.0, locals_append xs ys n a.1 b)

length_locals : (xs : List Local) → length (locals_of xs) ≡ length xs
length_locals [] = refl
length_locals (x ∷ xs) = ap suc (length_locals xs)

drop_next : (xs : List Local) (i : ℕ) (x : Local) → i < length xs → x ≡ get_or xs i x → drop i xs ≡ x ∷ drop (i + 1) xs
drop_next [] i x h e = absurd (omega (arith, h))
drop_next (y ∷ ys) zero x h e = ap (λ z. z ∷ ys) (sym e)
drop_next (y ∷ ys) (suc i) x h e =
    let same : suc (i + 1) ≡ suc i + 1 = omega arith in
    subst (λ k. drop i ys ≡ x ∷ drop k (y ∷ ys)) same (drop_next ys i x (omega (arith, h)) e)

length_drop : (xs : List Local) (i : ℕ) → i ≤ length xs → length (drop i xs) ≡ length xs - i
length_drop [] zero h = refl
length_drop [] (suc i) h = absurd (omega (arith, h))
length_drop (x ∷ xs) zero h = omega arith
length_drop (x ∷ xs) (suc i) h = let l = length_drop xs i (omega (arith, h)) in omega arith

-- one variable more was looked at
pub nearer : (xs : List Local) (i : ℕ) (x : Local) (w : List ℕ) (found next : Sense) → i < length xs → x ≡ get_or xs i x → next ≡ cond (same_name w x.name.now) (ALocal (length xs - 1 - i) (Some x.class)) found → local_or next w (locals_of (drop (i + 1) xs)) ≡ local_or found w (locals_of (drop i xs))
nearer xs i x w found next h e is =
    let behind : length xs - 1 - i ≡ length (locals_of (drop (i + 1) xs)) = omega (arith, h, length_locals (drop (i + 1) xs), length_drop xs (i + 1) (omega (arith, h))) in
    ap (λ s. local_or s w (locals_of (drop (i + 1) xs))) (is ∙ ap (λ n. cond (same_name w x.name.now) (ALocal n (Some x.class)) found) behind)
    ∙ sym (ap (λ ls. local_or found w (locals_of ls)) (drop_next xs i x h e))

pub left_more : (xs : List Local) (i n : ℕ) (x : Local) → i < length xs → x ≡ get_or xs i x → AreLocals n (drop i xs) → (x.class < n) × AreLocals n (drop (i + 1) xs)
left_more xs i n x h e a = subst (AreLocals n) (drop_next xs i x h e) a

pub copied : (xs ys zs : List Local) (i : ℕ) (x : Local) → ys ≡ take i xs → length xs ≤ i → zs ≡ ys ++ x ∷ [] → zs ≡ xs ++ x ∷ []
copied xs ys zs i x e end grown = grown ∙ ap (λ ls. ls ++ x ∷ []) (e ∙ take_all i xs end)

pub locals_more : (xs : List Local) (x : Local) → locals_of (xs ++ x ∷ []) ≡ locals_of xs ++ (x.name.now, Some x.class) ∷ []
locals_more [] x = refl
locals_more (y ∷ ys) x = ap (λ ls. (y.name.now, Some y.class) ∷ ls) (locals_more ys x)

pub length_more : (xs zs : List Local) (x : Local) → zs ≡ xs ++ x ∷ [] → length zs ≡ length xs + 1
length_more xs zs x e = omega (arith, ap length e, length-append xs (x ∷ []))

-- all variables were copied, and one more
pub one_more : (xs ys zs : List Local) (i n : ℕ) (x : Local) → ys ≡ take i xs → length xs ≤ i → zs ≡ ys ++ x ∷ [] → AreLocals n xs → x.class < n → AreLocals n zs
one_more xs ys zs i n x e end grown a h =
    subst (AreLocals n) (sym (grown ∙ ap (λ ls. ls ++ x ∷ []) (e ∙ take_all i xs end))) (locals_append xs (x ∷ []) n a (h, tt))
