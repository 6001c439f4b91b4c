-- Lists that grow at their ends.
use Rattle.std.proofs.Common.{◌≡◌, ℕ, zero, suc, ◌<◌, List, [], ◌∷◌, ◌++◌, ℤ, All, arith, length, length-append, take, refl, ap, subst}
use Rattle.std.specs.Prelude.{Contains}
use Rattle.std.proofs.lemmas.List.Elements.{All-contains_itself}
use Rattle.std.proofs.Math.ListN.{get_or-append}
use Rattle.signed_clause.specs.Clauses.{Boxes, box_of}
use Rattle.ground_form.specs.declared.con.Con.{Con}

-- the front of two lists
pub front_part : (P : Con → Type 0) (xs ys : List Con) → All P (xs ++ ys) → All P xs
front_part P xs ys h k d lt =
    subst P (get_or-append xs ys d k lt) (h k d (omega (arith, length-append xs ys, lt)))

-- the last item
pub last_part : (P : Con → Type 0) (xs : List Con) (y : Con) → All P (xs ++ y ∷ []) → P y
last_part P [] y h = h 0 y (omega arith)
last_part P (x ∷ xs) y h = last_part P xs y (λ j e l. h (suc j) e (omega (arith, l)))

pub both_parts : (P : Con → Type 0) (xs : List Con) (y : Con) → All P xs → P y → All P (xs ++ y ∷ [])
both_parts P [] y h p zero d lt = p
both_parts P [] y h p (suc k) d lt = absurd (omega (arith, lt))
both_parts P (x ∷ xs) y h p zero d lt = h zero d (omega arith)
both_parts P (x ∷ xs) y h p (suc k) d lt =
    both_parts P xs y (λ j e l. h (suc j) e (omega (arith, l))) p k d (omega (arith, lt))

pub last_contained : (xs : List Con) (y : Con) → Contains (xs ++ y ∷ []) y
last_contained xs y = last_part (Contains (xs ++ y ∷ [])) xs y (All-contains_itself (xs ++ y ∷ []))

pub no_con : (P : Con → Type 0) → All P []
no_con P k d lt = absurd (omega (arith, lt))

pub box_front : (ds e : Boxes) (x : ℕ) → x < length ds → box_of (ds ++ e) x ≡ box_of ds x
box_front ds e x h = get_or-append ds e [] x h

pub take_all : (n : ℕ) (t : List ℤ) → length t ≡ n → take n t ≡ t
take_all zero [] h = refl
take_all zero (v ∷ t) h = absurd (omega (arith, h))
take_all (suc n) [] h = absurd (omega (arith, h))
take_all (suc n) (v ∷ t) h = ap (λ (z : List ℤ). v ∷ z) (take_all n t (omega (arith, h)))

pub take_front : (n : ℕ) (xs ys : Boxes) → n ≡ length xs → take n (xs ++ ys) ≡ xs
take_front zero [] ys e = refl
take_front zero (x ∷ xs) ys e = absurd (omega (arith, e))
take_front (suc n) [] ys e = absurd (omega (arith, e))
take_front (suc n) (x ∷ xs) ys e = ap (λ (z : Boxes). x ∷ z) (take_front n xs ys (omega (arith, e)))
