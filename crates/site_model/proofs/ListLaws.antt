-- The items of a list, one by one.
use Rattle.std.proofs.Common.{◌≡◌, ℕ, ◌<◌, ◌+◌, ◌++◌, suc, List, [], ◌∷◌, codes, drop, length, get_or, Some, ap, sym, subst, ◌∙◌, add-one, append_assoc}
use Rattle.std.specs.List.{slice_get}
use Rattle.std.proofs.lemmas.Option.{slice_get_within, slice_get-get_or}
use Rattle.std.proofs.Math.Seq.{drop-cons}
use Rattle.site_model.specs.Classes.{listed}
use Rattle.site_model.specs.Lines.{joined}
use Rattle.site_names.specs.Words.{word_of}
use Rattle.site_tables.specs.Grid.{GridCell, GridRow}

-- an item stands before those behind it
drop_got : (xs : List (List ℕ)) (k : ℕ) (x : List ℕ) → slice_get xs k ≡ Some x
    → drop k xs ≡ x ∷ drop (suc k) xs
drop_got xs k x h =
    let within : k < length xs = slice_get_within xs k x h in
    let got : slice_get xs k ≡ Some (get_or xs k x) = slice_get-get_or xs k x within in
    let same : get_or xs k x ≡ x = cc in
    drop-cons xs k x within ∙ ap (λ y. y ∷ drop (suc k) xs) same

-- what is written with one word more, and those behind it
pub word_listed : (vs : List (List ℕ)) (k : ℕ) (v before text all : List ℕ)
    → slice_get vs k ≡ Some v → text ++ listed before (drop k vs) ≡ all
    → (text ++ joined (before ∷ word_of v ∷ [])) ++ listed (codes ", ") (drop (k + 1) vs) ≡ all
word_listed vs k v before text all here h =
    let e : drop k vs ≡ v ∷ drop (k + 1) vs = drop_got vs k v here ∙ ap (λ n. v ∷ drop n vs) (sym (add-one k)) in
    append_assoc text (joined (before ∷ word_of v ∷ [])) (listed (codes ", ") (drop (k + 1) vs))
    ∙ ap (λ xs. text ++ listed before xs) (sym e) ∙ h

-- two pieces
pub two_written : (was one all a b : List ℕ) → one ≡ was ++ a → all ≡ one ++ b
    → all ≡ was ++ (a ++ b)
two_written was one all a b h1 h2 = h2 ∙ ap (λ t. t ++ b) h1 ∙ append_assoc was a b

-- three pieces
pub three_written : (was one two all a b c : List ℕ) → one ≡ was ++ a → two ≡ one ++ b
    → all ≡ two ++ c → all ≡ was ++ (a ++ b ++ c)
three_written was one two all a b c h1 h2 h3 =
    h3 ∙ ap (λ t. t ++ c) (h2 ∙ ap (λ t. t ++ b) h1 ∙ append_assoc was a b)
    ∙ append_assoc was (a ++ b) c

-- what is written of columns and rows that are these
pub of_table : (was now : List ℕ) (f : List GridCell → List GridRow → List ℕ) (a b : List GridCell)
    (c d : List GridRow) → a ≡ b → c ≡ d → now ≡ was ++ f a c → now ≡ was ++ f b d
of_table was now f a b c d p q h =
    subst (λ x. now ≡ was ++ f x d) p (subst (λ y. now ≡ was ++ f a y) q h)
