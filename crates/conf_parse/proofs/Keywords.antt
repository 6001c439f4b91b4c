-- A word that spells none of the keywords in the table spells no keyword.
use Rattle.std.specs.Prelude.{Bool as Truth}
use Rattle.std.proofs.Common.{◌≡◌, ℕ, ◌<◌, ◌≤◌, MatchBool, false, List, [], ◌∷◌, length, get_or, subst, arith}
use Rattle.std.proofs.lemmas.List.{get_or_default}
use Rattle.conf_syntax.specs.declared.token.Key.{Key}
use Rattle.conf_syntax.specs.declared.token.Key.TheVariants.{Enum, Abstract, Class, Extends, Var, As, Int, Bool, Ref, Where, Forall, Exists, Sum, Count, AllDifferent, Pack, In, Maximize, Minimize, True, False, This, And, Or, Not}
use Rattle.conf_syntax.specs.Spelling.{IsKeySpelling}

abbrev pub keys : List Key
keys =
    Enum ∷ Abstract ∷ Class ∷ Extends ∷ Var ∷ As ∷ Int ∷ Bool ∷ Ref ∷ Where ∷ Forall ∷ Exists ∷ Sum ∷ Count ∷ AllDifferent ∷ Pack ∷ In ∷ Maximize ∷ Minimize ∷ True ∷ False ∷ This ∷ And ∷ Or ∷ Not ∷ []

-- one more keyword that isn't spelled
pub not_this : (list : List Key) (word : List ℕ) (i : ℕ) (d other : Key) → i < length list → (b : Truth) → b ≡ false → MatchBool b (IsKeySpelling (get_or list i d) word) (IsKeySpelling (get_or list i d) word → ⊥) → IsKeySpelling (get_or list i other) word → ⊥
not_this list word i d other within b failed answer spelled =
    let P : Key → Type 0 = λ k. IsKeySpelling k word in
    let none = rw failed at answer in
    none (subst P (get_or_default list i other d within) spelled)

pub no_keyword : (word : List ℕ) (n : ℕ) → 25 ≤ n → ((i : ℕ) → i < n → (other : Key) → IsKeySpelling (get_or keys i other) word → ⊥) → (k : Key) → IsKeySpelling k word → ⊥
no_keyword word n all none Enum = none 0 (omega arith) Enum
no_keyword word n all none Abstract = none 1 (omega arith) Abstract
no_keyword word n all none Class = none 2 (omega arith) Class
no_keyword word n all none Extends = none 3 (omega arith) Extends
no_keyword word n all none Var = none 4 (omega arith) Var
no_keyword word n all none As = none 5 (omega arith) As
no_keyword word n all none Int = none 6 (omega arith) Int
no_keyword word n all none Bool = none 7 (omega arith) Bool
no_keyword word n all none Ref = none 8 (omega arith) Ref
no_keyword word n all none Where = none 9 (omega arith) Where
no_keyword word n all none Forall = none 10 (omega arith) Forall
no_keyword word n all none Exists = none 11 (omega arith) Exists
no_keyword word n all none Sum = none 12 (omega arith) Sum
no_keyword word n all none Count = none 13 (omega arith) Count
no_keyword word n all none AllDifferent = none 14 (omega arith) AllDifferent
no_keyword word n all none Pack = none 15 (omega arith) Pack
no_keyword word n all none In = none 16 (omega arith) In
no_keyword word n all none Maximize = none 17 (omega arith) Maximize
no_keyword word n all none Minimize = none 18 (omega arith) Minimize
no_keyword word n all none True = none 19 (omega arith) True
no_keyword word n all none False = none 20 (omega arith) False
no_keyword word n all none This = none 21 (omega arith) This
no_keyword word n all none And = none 22 (omega arith) And
no_keyword word n all none Or = none 23 (omega arith) Or
no_keyword word n all none Not = none 24 (omega arith) Not
