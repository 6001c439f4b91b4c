-- A set of borrowed words, as the words.
use Rattle.std.proofs.Common.{◌≡◌, ℕ, suc, length, List, [], ◌∷◌, Bool, ◌||◌, map, Ordering, Less, Equal, Greater, is_eq, nat_cmp, Bor, refl, ap, ◌∙◌}
use Rattle.std.specs.List.{list_any}
use Rattle.std.specs.Cmp.Lexicographic.{slice_cmp}
use Rattle.std.specs.Ordering.{match_ordering}
use Rattle.std.specs.BTreeSet.{insert_key}
use Rattle.serde_json.specs.Events.{items_len}
use Rattle.serde_json.specs.View.{items_view}
use Rattle.serde_json.specs.declared.value.Value.{Value}
use Rattle.view_plan.specs.Words.{with_word, has_word}

abbrev pub word_cmp : Bor (List ℕ) → Bor (List ℕ) → Ordering
word_cmp x y = slice_cmp nat_cmp x.now y.now

abbrev words_now : List (Bor (List ℕ)) → List (List ℕ)
words_now ks = map (λ k. k.now) ks

now_match : (o : Ordering) (a b c : List (Bor (List ℕ)))
    → words_now (match_ordering o a b c)
    ≡ match_ordering o (words_now a) (words_now b) (words_now c)
now_match Less a b c = refl
now_match Equal a b c = refl
now_match Greater a b c = refl

pub now_insert : (ks : List (Bor (List ℕ))) (k : Bor (List ℕ))
    → map (λ x. x.now) (insert_key word_cmp ks k) ≡ with_word (map (λ x. x.now) ks) k.now
now_insert [] k = refl
now_insert (x ∷ xs) k =
    now_match (word_cmp k x) (k ∷ x ∷ xs) (x ∷ xs) (x ∷ insert_key word_cmp xs k)
    ∙ ap (λ ws. match_ordering (word_cmp k x) (k.now ∷ x.now ∷ words_now xs) (x.now ∷ words_now xs) (x.now ∷ ws)) (now_insert xs k)

pub now_has : (ks : List (Bor (List ℕ))) (w : List ℕ)
    → list_any (λ k. is_eq (slice_cmp nat_cmp w k.now)) ks ≡ has_word (map (λ x. x.now) ks) w
now_has [] w = refl
now_has (x ∷ xs) w = ap (λ b. is_eq (slice_cmp nat_cmp w x.now) || b) (now_has xs w)

pub words_counted : (ks : List (Bor (List ℕ))) → length (map (λ x. x.now) ks) ≡ length ks
words_counted [] = refl
words_counted (x ∷ xs) = ap suc (words_counted xs)

pub items_counted : (vs : List Value) → items_len (items_view vs) ≡ length vs
items_counted [] = refl
items_counted (v ∷ vs) = ap suc (items_counted vs)
