-- The items of a list, one by one.
use Rattle.std.proofs.Common.{◌≡◌, ℕ, ◌<◌, ◌+◌, ◌++◌, suc, Bool, true, false, Bor, List, [], ◌∷◌, drop, length, map, get_or, Some, option_map, ap, sym, ◌∙◌, add-one, append_assoc}
use Rattle.std.specs.List.{list_all, slice_get}
use Rattle.std.proofs.lemmas.Option.{slice_get_within, slice_get-get_or, slice_get-map}
use Rattle.std.proofs.Math.Seq.{drop-cons}
use Rattle.site_faults.specs.Meets.{entry_seen}
use Rattle.site_faults.specs.declared.meets.Entry.{Entry}
use Rattle.site_names.specs.Words.{word_of}

-- an item stands before those behind it
drop_got : (xs : List (List ℕ)) (k : ℕ) (x : List ℕ) → slice_get xs k ≡ Some x
    → drop k xs ≡ x ∷ drop (suc k) xs
drop_got xs k x h =
    let within : k < length xs = slice_get_within xs k x h in
    let got : slice_get xs k ≡ Some (get_or xs k x) = slice_get-get_or xs k x within in
    let same : get_or xs k x ≡ x = cc in
    drop-cons xs k x within ∙ ap (λ y. y ∷ drop (suc k) xs) same

-- what is made with one word more, and those behind it
pub word_made : (vs : List (List ℕ)) (k : ℕ) (v : List ℕ) (made all : List (List ℕ))
    → slice_get vs k ≡ Some v → made ++ map word_of (drop k vs) ≡ all
    → (made ++ word_of v ∷ []) ++ map word_of (drop (k + 1) vs) ≡ all
word_made vs k v made all here h =
    let e : drop k vs ≡ v ∷ drop (k + 1) vs = drop_got vs k v here ∙ ap (λ n. v ∷ drop n vs) (sym (add-one k)) in
    append_assoc made (word_of v ∷ []) (map word_of (drop (k + 1) vs))
    ∙ ap (λ xs. made ++ map word_of xs) (sym e) ∙ h

pub entry_here : (list : List Entry) (k : ℕ)
    → slice_get (map entry_seen list) k ≡ option_map entry_seen (slice_get list k)
entry_here list k = slice_get-map entry_seen list k

-- a test of all texts ends at one of which it is false, and goes on behind one of which it is true
pub all_ended : (P : List ℕ → Bool) (ts : List (Bor (List ℕ))) (k : ℕ) (d : Bor (List ℕ)) (all : Bool)
    → k < length ts → P (get_or ts k d).now ≡ false
    → list_all P (map (λ t. t.now) (drop k ts)) ≡ all → false ≡ all
all_ended P ts k d all within e h =
    let here : list_all P (map (λ t. t.now) (drop k ts)) ≡ false = rw (drop-cons ts k d within, e) in
    sym here ∙ h

pub all_behind : (P : List ℕ → Bool) (ts : List (Bor (List ℕ))) (k : ℕ) (d : Bor (List ℕ)) (all : Bool)
    → k < length ts → P (get_or ts k d).now ≡ true
    → list_all P (map (λ t. t.now) (drop k ts)) ≡ all
    → list_all P (map (λ t. t.now) (drop (k + 1) ts)) ≡ all
all_behind P ts k d all within e h = rw add-one (rw (drop-cons ts k d within, e) at h)
