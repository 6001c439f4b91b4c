-- Lists item by item, and rooms word by word.
use Rattle.std.proofs.Common.{◌≡◌, ℕ, zero, suc, ◌+◌, ◌<◌, ◌≤◌, ℤ, Bool, true, false, List, [], ◌∷◌, ◌++◌, Option, None, Some, Vec, Bor, if◌then◌else◌, length, drop, get_or, option_map, refl, sym, ap, ◌∙◌, subst, arith, add-one, append_assoc}
use Rattle.std.specs.List.{All}
use Rattle.std.specs.Prelude.{IfSome}
use Rattle.std.specs.Map.{lookup, lookup_key}
use Rattle.std.proofs.lemmas.List.{drop_all}
use Rattle.std.proofs.lemmas.Map.Made.{lookup_key_passes}
use Rattle.std.proofs.lemmas.List.Elements.{All-nil, All-cons}
use Rattle.view_steps.specs.Rooms.{Room, Entries, allowed, taken, first, rest, all_allowed, all_taken, found, is_one, some_allowed, some_taken, word_allowed}
use Rattle.view_steps.proofs.OrderLaws.{same_word}

next_at : {X : Type 0} (xs : List X) (k : ℕ) (x : X) → k < length xs → x ≡ get_or xs k x
    → drop k xs ≡ x ∷ drop (suc k) xs
next_at [] k x h is = absurd (omega arith)
next_at (y ∷ xs) zero x h is = ap (λ z. z ∷ xs) (sym is)
next_at (y ∷ xs) (suc k) x h is = next_at xs k x (omega arith) is

pub next_item : {X : Type 0} (xs : List X) (k : ℕ) (x : X) → k < length xs → x ≡ get_or xs k x
    → drop k xs ≡ x ∷ drop (k + 1) xs
next_item xs k x h is = rw (add-one k) (next_at xs k x h is)

rest_suc : (n : ℕ) (vs : List ℤ) → rest (drop n vs) ≡ drop (suc n) vs
rest_suc zero [] = refl
rest_suc zero (v ∷ vs) = refl
rest_suc (suc n) [] = refl
rest_suc (suc n) (v ∷ vs) = rest_suc n vs

rest_drop : (n : ℕ) (vs : List ℤ) → rest (drop n vs) ≡ drop (n + 1) vs
rest_drop n vs = rw (add-one n) (rest_suc n vs)

allowed_step : (r : Room) (rs : List Room) (vs : List ℤ) → allowed r (first vs) ≡ true
    → all_allowed (r ∷ rs) vs ≡ all_allowed rs (rest vs)
allowed_step r rs vs h = rw h refl

-- below the length no default counts
item_same : {X : Type 0} (xs : List X) (k : ℕ) (d e : X) → k < length xs
    → get_or xs k d ≡ get_or xs k e
item_same [] k d e h = absurd (omega arith)
item_same (x ∷ xs) zero d e h = refl
item_same (x ∷ xs) (suc k) d e h = item_same xs k d e (omega arith)

-- one more room allows what is put there
pub allowed_next : (rs : List Room) (vs : List ℤ) (n : ℕ) (all : Bool) → n < length rs
    → allowed (get_or rs n None) (first (drop n vs)) ≡ true
    → all_allowed (drop n rs) (drop n vs) ≡ all
    → all_allowed (drop (n + 1) rs) (drop (n + 1) vs) ≡ all
allowed_next rs vs n all less fit h =
    let r : Room = get_or rs n None in
    ap (all_allowed (drop (n + 1) rs)) (sym (rest_drop n vs))
    ∙ sym (allowed_step r (drop (n + 1) rs) (drop n vs) fit)
    ∙ ap (λ xs. all_allowed xs (drop n vs)) (sym (next_item rs n r less (item_same rs n None r less)))
    ∙ h

step_fails : (r : Room) (rs : List Room) (vs : List ℤ) → allowed r (first vs) ≡ false
    → all_allowed (r ∷ rs) vs ≡ false
step_fails r rs vs h = rw h refl

-- one doesn't
pub allowed_not : (rs : List Room) (vs : List ℤ) (n : ℕ) (all : Bool) → n < length rs
    → allowed (get_or rs n None) (first (drop n vs)) ≡ false
    → all_allowed (drop n rs) (drop n vs) ≡ all → false ≡ all
allowed_not rs vs n all less fails h =
    let r : Room = get_or rs n None in
    sym (step_fails r (drop (n + 1) rs) (drop n vs) fails)
    ∙ ap (λ xs. all_allowed xs (drop n vs)) (sym (next_item rs n r less (item_same rs n None r less)))
    ∙ h

-- and one more was taken from
pub taken_next : (rs : List Room) (vs : List ℤ) (n : ℕ) (x : Room) (done all : List Room)
    → n < length rs → x ≡ taken (get_or rs n None) (first (drop n vs))
    → done ++ all_taken (drop n rs) (drop n vs) ≡ all
    → (done ++ x ∷ []) ++ all_taken (drop (n + 1) rs) (drop (n + 1) vs) ≡ all
taken_next rs vs n x done all less made h =
    let r : Room = get_or rs n None in
    ap (λ ws. (done ++ x ∷ []) ++ all_taken (drop (n + 1) rs) ws) (sym (rest_drop n vs))
    ∙ append_assoc done (x ∷ []) (all_taken (drop (n + 1) rs) (rest (drop n vs)))
    ∙ ap (λ y. done ++ y ∷ all_taken (drop (n + 1) rs) (rest (drop n vs))) made
    ∙ ap (λ xs. done ++ all_taken xs (drop n vs)) (sym (next_item rs n r less (item_same rs n None r less)))
    ∙ h

-- what holds of one more item
pub all_next : {X : Type 0} (P : X → Type 0) (xs : List X) (n : ℕ) (x : X) → n < length xs
    → x ≡ get_or xs n x → P x → (All P (drop n xs) → All P xs) → All P (drop (n + 1) xs)
    → All P xs
all_next P xs n x less is here h more =
    h (subst (All P) (sym (next_item xs n x less is)) (All-cons P x (drop (n + 1) xs) here more))

pub all_done : {X : Type 0} (P : X → Type 0) (xs : List X) (n : ℕ) → length xs ≤ n
    → (All P (drop n xs) → All P xs) → All P xs
all_done P xs n most h = h (subst (All P) (sym (drop_all n xs most)) (All-nil P))

-- the rooms of a word that was found
pub allowed_found : {A : Type 0} (es : Entries A) (o : Option (Bor (List ℕ))) (b : Bor (List ℕ))
    (v : Vec Room A) (text : List ℕ) (vs : List ℤ) → o ≡ Some b → text ≡ b.now
    → Some v ≡ lookup (λ k. is_one text k.now) es
    → all_allowed v.items vs ≡ word_allowed es (option_map (λ w. w.now) o) vs
allowed_found es o b v text vs is same here =
    ap (λ x. some_allowed (option_map (λ y. y.items) x) vs) here
    ∙ ap (λ t. some_allowed (found es t) vs) same
    ∙ ap (λ x. word_allowed es (option_map (λ w. w.now) x) vs) (sym is)

put_case : (e : Bool) (w v : List ℕ) (old mid new : Option (List Room)) (list : List Room)
    (vs : List ℤ) → is_one v w ≡ e
    → (e ≡ true → old ≡ Some list)
    → mid ≡ (if e then None else old)
    → new ≡ (if e then Some (all_taken list vs) else mid)
    → new ≡ (if e then some_taken old vs else old)
put_case true w v old mid new list vs is here left put =
    put ∙ sym (ap (λ x. some_taken x vs) (here refl))
put_case false w v old mid new list vs is here left put = put ∙ left

-- what was put where a holder's rooms were taken out, under the spelling that was kept
pub put_found : {A : Type 0} (old mid new : Entries A) (v text : List ℕ) (list left : List Room)
    (vs : List ℤ) → is_one v text ≡ true → Some list ≡ found old v
    → ((w : Bor (List ℕ)) → found mid w.now ≡ (if is_one v w.now then None else found old w.now))
    → left ≡ all_taken list vs
    → ((w : Bor (List ℕ)) → found new w.now ≡ (if is_one text w.now then Some left else found mid w.now))
    → (w : Bor (List ℕ)) → found new w.now
    ≡ (if is_one v w.now then some_taken (found old w.now) vs else found old w.now)
put_found old mid new v text list left vs same is out made put w =
    put_case (is_one v w.now) w.now v (found old w.now) (found mid w.now) (found new w.now) list vs
    refl
    (λ e. ap (found old) (sym (same_word v w.now e)) ∙ sym is)
    (out w)
    (put w ∙ ap (λ x. if is_one x w.now then Some left else found mid w.now) (sym (same_word v text same))
    ∙ ap (λ l. if is_one v w.now then Some l else found mid w.now) made)

none_case : (e : Bool) (old new : Option (List Room)) (vs : List ℤ) → (e ≡ true → old ≡ None)
    → new ≡ (if e then None else old) → new ≡ (if e then some_taken old vs else old)
none_case true old new vs here h = h ∙ ap (λ x. some_taken x vs) (sym (here refl))
none_case false old new vs here h = h

-- and where there is no such holder
pub put_nowhere : {A : Type 0} (old new : Entries A) (v : List ℕ) (vs : List ℤ)
    → None ≡ found old v
    → ((w : Bor (List ℕ)) → found new w.now ≡ (if is_one v w.now then None else found old w.now))
    → (w : Bor (List ℕ)) → found new w.now
    ≡ (if is_one v w.now then some_taken (found old w.now) vs else found old w.now)
put_nowhere old new v vs is out w =
    none_case (is_one v w.now) (found old w.now) (found new w.now) vs
    (λ e. ap (found old) (sym (same_word v w.now e)) ∙ sym is)
    (out w)

-- a key that was found passes the test
pub found_passes : {A : Type 0} (t : Bor (List ℕ) → Bool) (es : Entries A)
    (o : Option (Bor (List ℕ) × Vec Room A)) → option_map (λ p. p.0) o ≡ lookup_key t es
    → IfSome o (λ p. t p.0 ≡ true)
found_passes t es None h = tt
found_passes t es (Some p) h = lookup_key_passes t es p.0 (sym h)
