-- A leaf's mentions: noted once, and those of all leaves in order.
use Rattle.std.proofs.Common.{rules, Option, Some, None, ◌≡◌, ℕ, zero, suc, ◌+◌, ◌<◌, ◌≤◌, List, [], ◌∷◌, ◌++◌, Bool, true, false, ◌||◌, if◌then◌else◌, nat_eq, map, filter, refl, sym, ap, ◌∙◌, subst, arith, append_assoc, bytes_eq, length, drop, get_or, add-one}
use Rattle.std.specs.List.{AllByRecursion}
use Rattle.std.proofs.lemmas.Bool.{eq-eqb}
use Rattle.view_leaves.specs.declared.path.Step.{Step}
use Rattle.view_leaves.specs.Leaves.{PathLeaf}
use Rattle.view_leaves.specs.Paths.{PathStep, Path, index, key}
use Rattle.view_leaves.specs.Views.{step_seen, leaf_seen, leaves_seen}
use Rattle.view_leaves.specs.declared.leaf.Leaf.{Leaf}
use Rattle.serde_json.specs.View.{view, items_view}
use Rattle.serde_json.specs.declared.value.Value.{Value}
use Rattle.view_picture.specs.declared.mentions.Mention.{Mention}
use Rattle.view_picture.specs.Mentions.{is_named, owner, without_last, is_same, has_item, refers, guests, numbered}
use Rattle.view_picture.specs.Mentioned.{mention_seen, is_noted, with_mention, guest_by}

abbrev Noted : Type 0
Noted = List (ℕ × Path)

noted_last : (ms : Noted) (m : ℕ × Path) (n : ℕ) → is_noted (ms ++ m ∷ []) n ≡ nat_eq m.0 n
noted_last [] m n = refl
noted_last (l ∷ []) m n = refl
noted_last (l ∷ k ∷ ms) m n = noted_last (k ∷ ms) m n

map_last : (rest : List Mention) (m : Mention)
    → map mention_seen (rest ++ m ∷ []) ≡ map mention_seen rest ++ mention_seen m ∷ []
map_last [] m = refl
map_last (r ∷ rest) m = ap (λ ms. mention_seen r ∷ ms) (map_last rest m)

-- whether the last is of this leaf
pub noted_by_last : (ms rest : List Mention) (m : Mention) (n : ℕ) → ms ≡ rest ++ m ∷ []
    → is_noted (map mention_seen ms) n ≡ nat_eq m.number n
noted_by_last ms rest m n h =
    ap (λ xs. is_noted (map mention_seen xs) n) h
    ∙ ap (λ xs. is_noted xs n) (map_last rest m)
    ∙ noted_last (map mention_seen rest) (mention_seen m) n

twice_by : (b : Bool) (ms : Noted) (m : ℕ × Path) → is_noted ms m.0 ≡ b
    → with_mention (with_mention ms m) m ≡ with_mention ms m
twice_by true ms m h = rw h (rw h refl)
twice_by false ms m h =
    rw h (rw (noted_last ms m m.0 ∙ eq-eqb m.0 m.0 refl) refl)

-- noted twice is noted once
pub noted_twice : (ms : Noted) (m : ℕ × Path)
    → with_mention (with_mention ms m) m ≡ with_mention ms m
noted_twice ms m = twice_by (is_noted ms m.0) ms m refl

-- noted where one of two words is it
pub noted_either : (b d : Bool) (ms : Noted) (m : ℕ × Path)
    → (if d then with_mention (if b then with_mention ms m else ms) m
    else (if b then with_mention ms m else ms))
    ≡ (if b || d then with_mention ms m else ms)
noted_either true true ms m = noted_twice ms m
noted_either true false ms m = refl
noted_either false true ms m = refl
noted_either false false ms m = refl

-- ---- paths by their last step

abbrev pub is_key : List ℕ → PathStep → Bool
is_key a (index n) = false
is_key a (key k) = bytes_eq k a

named_last : (p : Path) (s : PathStep) (a : List ℕ) → is_named a (p ++ s ∷ []) ≡ is_key a s
named_last [] (index n) a = refl
named_last [] (key k) a = refl
named_last (t ∷ []) (index n) a = refl
named_last (t ∷ []) (key k) a = refl
named_last (t ∷ u ∷ p) s a = named_last (u ∷ p) s a

front_last : (p : Path) (s : PathStep) → without_last (p ++ s ∷ []) ≡ p
front_last [] s = refl
front_last (t ∷ []) s = refl
front_last (t ∷ u ∷ p) s = ap (λ q. t ∷ q) (front_last (u ∷ p) s)

owner_last : (p : Path) (t s : PathStep) → owner ((t ∷ p) ++ s ∷ []) ≡ t ∷ p
owner_last [] t s = refl
owner_last (u ∷ p) t s = front_last (t ∷ u ∷ p) s

seen_last : (rest : List Step) (s : Step)
    → map step_seen (rest ++ s ∷ []) ≡ map step_seen rest ++ step_seen s ∷ []
seen_last [] s = refl
seen_last (r ∷ rest) s = ap (λ p. step_seen r ∷ p) (seen_last rest s)

guest_named : (ss rest : List Step) (s : Step) (a : List ℕ) → ss ≡ rest ++ s ∷ []
    → is_named a (map step_seen ss) ≡ is_key a (step_seen s)
guest_named ss rest s a h =
    ap (λ xs. is_named a (map step_seen xs)) h ∙ ap (is_named a) (seen_last rest s)
    ∙ named_last (map step_seen rest) (step_seen s) a

owner_top : (ss rest : List Step) (s : Step) → ss ≡ rest ++ s ∷ [] → length rest ≡ 0
    → owner (map step_seen ss) ≡ map step_seen ss
owner_top ss [] s h e = ap (λ xs. owner (map step_seen xs)) h ∙ ap (λ xs. map step_seen xs) (sym h)
owner_top ss (r ∷ rest) s h e = absurd (omega arith)

owner_deeper : (ss rest : List Step) (s : Step) → ss ≡ rest ++ s ∷ [] → 0 < length rest
    → owner (map step_seen ss) ≡ map step_seen rest
owner_deeper ss [] s h e = absurd (omega arith)
owner_deeper ss (r ∷ rest) s h e =
    ap (λ xs. owner (map step_seen xs)) h ∙ ap owner (seen_last (r ∷ rest) s)
    ∙ owner_last (map step_seen rest) (step_seen r) (step_seen s)

-- no guest where the last step is none to the key
pub no_guest : (ss rest : List Step) (s : Step) (a : List ℕ) → ss ≡ rest ++ s ∷ []
    → is_key a (step_seen s) ≡ false → None ≡ guest_by a (map step_seen ss)
no_guest ss rest s a h e = rw (guest_named ss rest s a h ∙ e) refl

guest_is : (ss rest : List Step) (s : Step) (a : List ℕ) (g : Path) → ss ≡ rest ++ s ∷ []
    → is_key a (step_seen s) ≡ true → owner (map step_seen ss) ≡ g
    → Some g ≡ guest_by a (map step_seen ss)
guest_is ss rest s a g h e o = rw (guest_named ss rest s a h ∙ e) (ap (λ p. Some p) (sym o))

-- a variable of the top level
pub top_guest : (ss rest : List Step) (s : Step) (a : List ℕ) → ss ≡ rest ++ s ∷ []
    → is_key a (step_seen s) ≡ true → length rest ≡ 0
    → Some (map step_seen ss) ≡ guest_by a (map step_seen ss)
top_guest ss rest s a h e n = guest_is ss rest s a (map step_seen ss) h e (owner_top ss rest s h n)

pub deeper_guest : (ss rest : List Step) (s : Step) (a : List ℕ) → ss ≡ rest ++ s ∷ []
    → is_key a (step_seen s) ≡ true → 0 < length rest
    → Some (map step_seen rest) ≡ guest_by a (map step_seen ss)
deeper_guest ss rest s a h e n = guest_is ss rest s a (map step_seen rest) h e (owner_deeper ss rest s h n)

-- ---- mentions of the leaves before one

abbrev pub AreBelow : ℕ → List (ℕ × Path) → Type 0
AreBelow n ms = AllByRecursion (λ m. m.0 < n) ms

differ : (m n : ℕ) → m < n → nat_eq m n ≡ false
differ m n h = grind arith

not_noted : (ms : Noted) (n : ℕ) → AreBelow n ms → is_noted ms n ≡ false
not_noted [] n h = refl
not_noted (m ∷ []) n h = differ m.0 n h.0
not_noted (m ∷ l ∷ ms) n h = not_noted (l ∷ ms) n h.1

below_more_last : (ms : Noted) (n : ℕ) (p : Path) → AreBelow n ms
    → AreBelow (n + 1) (ms ++ (n, p) ∷ [])
below_more_last [] n p h = (omega arith, tt)
below_more_last (m ∷ ms) n p h = (omega (arith, h.0), below_more_last ms n p h.1)

below_more : (ms : Noted) (n : ℕ) → AreBelow n ms → AreBelow (n + 1) ms
below_more [] n h = tt
below_more (m ∷ ms) n h = (omega (arith, h.0), below_more ms n h.1)

-- the next leaf was looked at
pub noted_next : (b : Bool) (was now left all : Noted) (n : ℕ) (p : Path)
    → AreBelow n was
    → now ≡ (if b then with_mention was (n, p) else was)
    → was ++ ((if b then (n, p) ∷ [] else []) ++ left) ≡ all
    → (now ++ left ≡ all) × AreBelow (n + 1) now
noted_next true was now left all n p below is h =
    let pushed : now ≡ was ++ (n, p) ∷ [] = is ∙ rw (not_noted was n below) refl in (
      ap (λ ms. ms ++ left) pushed ∙ append_assoc was ((n, p) ∷ []) left ∙ h,
      subst (AreBelow (n + 1)) (sym pushed) (below_more_last was n p below),
    )
noted_next false was now left all n p below is h = (
  ap (λ ms. ms ++ left) is ∙ h,
  subst (AreBelow (n + 1)) (sym is) (below_more was n below),
)

guests_by : (b : Bool) (a w : List ℕ) (n : ℕ) (l : PathLeaf) (ls : List PathLeaf)
    → refers a w l ≡ b
    → map (λ (m : ℕ × Path). m.1) (numbered a w (suc n) ls) ≡ guests a w ls
    → map (λ (m : ℕ × Path). m.1) (numbered a w n (l ∷ ls)) ≡ guests a w (l ∷ ls)
guests_by true a w n l ls h more = rw h (ap (λ ps. owner l.0 ∷ ps) more)
guests_by false a w n l ls h more = rw h more

-- the leaves' numbers left out, the guests
pub numbered_guests : (a w : List ℕ) (n : ℕ) (ls : List PathLeaf)
    → map (λ (m : ℕ × Path). m.1) (numbered a w n ls) ≡ guests a w ls
numbered_guests a w n [] = refl
numbered_guests a w n (l ∷ ls) =
    guests_by (refers a w l) a w n l ls refl (numbered_guests a w (suc n) ls)

-- ---- lists by index

next_at : {X : Type 0} (xs : List X) (k : ℕ) (x : X) → k < length xs → x ≡ get_or xs k x
    → drop k xs ≡ x ∷ drop (suc k) xs
next_at [] k x h is = absurd (omega arith)
next_at (y ∷ xs) zero x h is = ap (λ z. z ∷ xs) (sym is)
next_at (y ∷ xs) (suc k) x h is = next_at xs k x (omega arith) is

pub next_item : {X : Type 0} (xs : List X) (k : ℕ) (x : X) → k < length xs → x ≡ get_or xs k x
    → drop k xs ≡ x ∷ drop (k + 1) xs
next_item xs k x h is = rw (add-one k) (next_at xs k x h is)

-- the next value of a set was noted
pub item_noted : (w : List ℕ) (vs : List Value) (k : ℕ) (v : Value) (was now first : Noted)
    (m : ℕ × Path) → k < length vs → v ≡ get_or vs k v
    → now ≡ (if is_same w (view v) then with_mention was m else was)
    → (if has_item w (items_view (drop k vs)) then with_mention was m else was) ≡ first
    → (if has_item w (items_view (drop (k + 1) vs)) then with_mention now m else now) ≡ first
item_noted w vs k v was now first m h is noted h2 =
    let left = has_item w (items_view (drop (k + 1) vs)) in
    ap (λ x. if left then with_mention x m else x) noted
    ∙ noted_either (is_same w (view v)) left was m
    ∙ ap (λ xs. if has_item w (items_view xs) then with_mention was m else was) (sym (next_item vs k v h is))
    ∙ h2

-- the next leaf's mentions
pub leaf_noted : (a w : List ℕ) (ls : List Leaf) (n : ℕ) (l : Leaf) (was now all : Noted)
    → n < length ls → l ≡ get_or ls n l
    → now ≡ (if refers a w (leaf_seen l) then with_mention was (n, owner (leaf_seen l).0) else was)
    → (was ++ numbered a w n (leaves_seen (drop n ls)) ≡ all) × AreBelow n was
    → (now ++ numbered a w (n + 1) (leaves_seen (drop (n + 1) ls)) ≡ all) × AreBelow (n + 1) now
leaf_noted a w ls n l was now all h is noted kept =
    let left = λ (m : ℕ). numbered a w m (leaves_seen (drop (n + 1) ls)) in
    let step : numbered a w n (leaves_seen (drop n ls)) ≡ (if refers a w (leaf_seen l) then (n, owner (leaf_seen l).0) ∷ [] else []) ++ left (n + 1) = ap (λ xs. numbered a w n (leaves_seen xs)) (next_item ls n l h is) ∙ ap (λ m. (if refers a w (leaf_seen l) then (n, owner (leaf_seen l).0) ∷ [] else []) ++ left m) (sym (add-one n)) in
    noted_next (refers a w (leaf_seen l)) was now (left (n + 1)) all n (owner (leaf_seen l).0) kept.1
    noted (ap (λ ms. was ++ ms) (sym step) ∙ kept.0)
