-- Names with their texts, one by one, for the walks of the crates above.
use Rattle.std.proofs.Common.{◌≡◌, ℕ, ◌<◌, ◌+◌, suc, if◌then◌else◌, List, ◌∷◌, Option, Some, length, map, drop, get_or, sym, ap, ◌∙◌, add-one}
use Rattle.std.proofs.Math.Seq.{drop-cons}
use Rattle.site_names.specs.Meeting.{same_word}
use Rattle.site_texts.specs.Pairs.{NamedText, last_under}

next_item : {X : Type 0} (xs : List X) (k : ℕ) (x : X) → k < length xs → x ≡ get_or xs k x
    → drop k xs ≡ x ∷ drop (k + 1) xs
next_item xs k x less is =
    drop-cons xs k x less ∙ ap (λ y. y ∷ drop (suc k) xs) (sym is)
    ∙ ap (λ n. x ∷ drop n xs) (sym (add-one k))

-- what was found, with one more, and those behind it
pub next_pair : {X Y : Type 0} (g : X → Y) (f : Y → NamedText) (q : List ℕ) (xs : List X) (k : ℕ)
    (x : X) (name text : List ℕ) (was now all : Option (List ℕ)) → k < length xs
    → x ≡ get_or xs k x → name ≡ (f (g x)).0 → text ≡ (f (g x)).1
    → now ≡ (if same_word name q then Some text else was)
    → last_under q was (map f (map g (drop k xs))) ≡ all
    → last_under q now (map f (map g (drop (k + 1) xs))) ≡ all
next_pair g f q xs k x name text was now all less is named told found h =
    let one : now ≡ (if same_word (f (g x)).0 q then Some (f (g x)).1 else was) =
    found ∙ ap (λ n. if same_word n q then Some text else was) named
    ∙ ap (λ t. if same_word (f (g x)).0 q then Some t else was) told in
    ap (λ w. last_under q w (map f (map g (drop (k + 1) xs)))) one
    ∙ sym (ap (λ ys. last_under q was (map f (map g ys))) (next_item xs k x less is)) ∙ h
