-- The parts on the way along a path, one by one.
use Rattle.std.proofs.Common.{◌≡◌, ℕ, zero, suc, ◌+◌, ◌<◌, ◌≤◌, List, [], ◌∷◌, ◌++◌, Bool, true, false, length, drop, take, map, refl, sym, ap, ◌∙◌, subst, ◌-◌, get_or, arith, add-one, append_assoc, append-nil, Bor}
use Rattle.std.specs.Ordering.{is_eq}
use Rattle.std.proofs.lemmas.List.{drop_all}
use Rattle.view_leaves.specs.declared.path.Step.{Step}
use Rattle.view_leaves.specs.Paths.{PathStep, Path, step_cmp}
use Rattle.view_leaves.specs.Views.{step_seen}
use Rattle.view_leaves.specs.declared.leaf.Leaf.{Leaf}
use Rattle.view_leaves.specs.Leaves.{PathLeaf}
use Rattle.view_leaves.specs.Views.{leaf_seen, leaves_seen}
use Rattle.view_picture.specs.Views.{path_seen, paths_seen}
use Rattle.view_picture.specs.Parts.{shared, ways, parts_behind, path_at, path_before}

map_drop : (f : Path → Path) (k : ℕ) (ps : List Path) → drop k (map f ps) ≡ map f (drop k ps)
map_drop f zero ps = refl
map_drop f (suc k) [] = refl
map_drop f (suc k) (p ∷ ps) = map_drop f k ps

-- the next part on the way
pub next_way : (ss : List Step) (k : ℕ) → k < length ss
    → drop k (ways (map step_seen ss))
    ≡ map step_seen (take (suc k) ss) ∷ drop (suc k) (ways (map step_seen ss))
next_way [] k h = absurd (omega arith)
next_way (s ∷ ss) zero h = refl
next_way (s ∷ ss) (suc k) h =
    let f = λ (q : Path). step_seen s ∷ q in
    map_drop f k (ways (map step_seen ss))
    ∙ ap (map f) (next_way ss k (omega arith))
    ∙ ap (λ qs. map step_seen (take (suc (suc k)) (s ∷ ss)) ∷ qs)
    (sym (map_drop f (suc k) (ways (map step_seen ss))))

no_way : (f : Path → Path) (k : ℕ) (ps : List Path) → drop k ps ≡ [] → drop k (map f ps) ≡ []
no_way f k ps h = map_drop f k ps ∙ ap (map f) h

-- no more
pub ways_end : (ss : List Step) (k : ℕ) → length ss ≤ k → drop k (ways (map step_seen ss)) ≡ []
ways_end [] zero h = refl
ways_end [] (suc k) h = refl
ways_end (s ∷ ss) zero h = absurd (omega arith)
ways_end (s ∷ ss) (suc k) h =
    no_way (λ (q : Path). step_seen s ∷ q) k (ways (map step_seen ss)) (ways_end ss k (omega arith))

shared_none : (p : Path) → shared p [] ≡ 0
shared_none [] = refl
shared_none (s ∷ p) = refl

-- nothing is shared behind the end of the second
pub shared_end : (ls rs : List Step) (i : ℕ) → length rs ≤ i
    → shared (map step_seen (drop i ls)) (map step_seen (drop i rs)) ≡ 0
shared_end ls rs i h = rw (drop_all i rs h) (shared_none (map step_seen (drop i ls)))

drop_next : (ls : List PathLeaf) (n : ℕ) (before : Path) → n < length ls
    → parts_behind before (drop n ls)
    ≡ drop (shared before (path_at ls n)) (ways (path_at ls n))
    ++ parts_behind (path_at ls n) (drop (suc n) ls)
drop_next [] n before h = absurd (omega arith)
drop_next (l ∷ ls) zero before h = refl
drop_next (l ∷ ls) (suc n) before h = drop_next ls n before (omega arith)

seen_drop : (ls : List Leaf) (n : ℕ) → leaves_seen (drop n ls) ≡ drop n (leaves_seen ls)
seen_drop ls zero = refl
seen_drop [] (suc n) = refl
seen_drop (l ∷ ls) (suc n) = seen_drop ls n

seen_length : (ls : List Leaf) → length (leaves_seen ls) ≡ length ls
seen_length [] = refl
seen_length (l ∷ ls) = ap suc (seen_length ls)

-- the parts that the next leaf adds
pub next_parts : (ls : List Leaf) (n : ℕ) → n < length ls
    → parts_behind (path_before (leaves_seen ls) n) (leaves_seen (drop n ls))
    ≡ drop (shared (path_before (leaves_seen ls) n) (path_at (leaves_seen ls) n)) (ways (path_at (leaves_seen ls) n))
    ++ parts_behind (path_before (leaves_seen ls) (n + 1)) (leaves_seen (drop (n + 1) ls))
next_parts ls n h =
    let ps = leaves_seen ls in
    let before = path_before ps n in
    rw (add-one n) (rw (seen_drop ls n) (rw (seen_drop ls (suc n)) (drop_next ps n before
    (subst (λ m. n < m) (sym (seen_length ls)) h))))

seen_append : (ps qs : List (Bor (List Step))) → paths_seen (ps ++ qs) ≡ paths_seen ps ++ paths_seen qs
seen_append [] qs = refl
seen_append (p ∷ ps) qs = ap (λ rs. path_seen p ∷ rs) (seen_append ps qs)

-- one more part was listed
pub way_listed : (ss : List Step) (k : ℕ) (was now : List (Bor (List Step))) (p : Bor (List Step))
    → k < length ss → p.now ≡ take (k + 1) ss → now ≡ was ++ p ∷ [] → (all : List Path)
    → paths_seen was ++ drop k (ways (map step_seen ss)) ≡ all
    → paths_seen now ++ drop (k + 1) (ways (map step_seen ss)) ≡ all
way_listed ss k was now p h is pushed all listed =
    let left = drop (suc k) (ways (map step_seen ss)) in
    rw (add-one k) (
    ap (λ ps. paths_seen ps ++ left) pushed
    ∙ ap (λ ps. ps ++ left) (seen_append was (p ∷ []))
    ∙ append_assoc (paths_seen was) (path_seen p ∷ []) left
    ∙ ap (λ ts. paths_seen was ++ map step_seen ts ∷ left) (is ∙ ap (λ n. take n ss) (add-one k))
    ∙ ap (λ ps. paths_seen was ++ ps) (sym (next_way ss k h))
    ∙ listed
    )

-- and none is left
pub all_listed : (ss : List Step) (k : ℕ) (ps : List (Bor (List Step))) → length ss ≤ k
    → (all : List Path) → paths_seen ps ++ drop k (ways (map step_seen ss)) ≡ all
    → paths_seen ps ≡ all
all_listed ss k ps h all listed =
    sym (append-nil (paths_seen ps)) ∙ ap (λ qs. paths_seen ps ++ qs) (sym (ways_end ss k h))
    ∙ listed

-- the path of a leaf that was looked up
pub indexed_path : (ls : List Leaf) (n : ℕ) (l : Leaf) → n < length ls → l ≡ get_or ls n l
    → path_at (leaves_seen ls) n ≡ map step_seen l.path.items
indexed_path [] n l h is = absurd (omega arith)
indexed_path (x ∷ ls) zero l h is = ap (λ (y : Leaf). map step_seen y.path.items) (sym is)
indexed_path (x ∷ ls) (suc n) l h is = indexed_path ls n l (omega arith) is

pub before_path : (ls : List PathLeaf) (n : ℕ) → 0 < n → path_before ls n ≡ path_at ls (n - 1)
before_path ls zero h = absurd (omega arith)
before_path ls (suc n) h =
    let less : n ≡ suc n - 1 = omega arith in
    ap (path_at ls) less

-- a leaf and the one before it share so many steps
pub steps_known : (ls : List Leaf) (n r : ℕ) (a b : Leaf) (p q : List Step) → (n ≡ 0 → ⊥)
    → n < length ls → a ≡ get_or ls (n - 1) a → b ≡ get_or ls n b
    → p ≡ a.path.items → q ≡ b.path.items
    → r ≡ shared (map step_seen p) (map step_seen q)
    → r ≡ shared (path_before (leaves_seen ls) n) (path_at (leaves_seen ls) n)
steps_known ls n r a b p q some h is-a is-b is-p is-q is =
    rw (before_path (leaves_seen ls) n (omega (arith, some)))
    (rw (indexed_path ls (n - 1) a (omega (arith, h)) is-a)
    (rw (indexed_path ls n b h is-b) (is ∙ ap (λ x. shared (map step_seen x) (map step_seen q)) is-p
    ∙ ap (λ x. shared (map step_seen a.path.items) (map step_seen x)) is-q)))

-- the next leaf's parts were listed
pub parts_listed : (ls : List Leaf) (n k : ℕ) (l : Leaf) (p : List Step)
    (was now : List (Bor (List Step))) (all : List Path)
    → n < length ls → l ≡ get_or ls n l → p ≡ l.path.items
    → k ≡ shared (path_before (leaves_seen ls) n) (path_at (leaves_seen ls) n)
    → paths_seen now ≡ paths_seen was ++ drop k (ways (map step_seen p))
    → paths_seen was ++ parts_behind (path_before (leaves_seen ls) n) (leaves_seen (drop n ls)) ≡ all
    → paths_seen now ++ parts_behind (path_before (leaves_seen ls) (n + 1)) (leaves_seen (drop (n + 1) ls)) ≡ all
parts_listed ls n k l p was now all h is is-p is-k pushed listed =
    let more = parts_behind (path_before (leaves_seen ls) (n + 1)) (leaves_seen (drop (n + 1) ls)) in
    let here = path_at (leaves_seen ls) n in
    ap (λ ps. ps ++ more) pushed
    ∙ ap (λ x. paths_seen was ++ drop k (ways (map step_seen x)) ++ more) is-p
    ∙ ap (λ x. paths_seen was ++ drop k (ways x) ++ more) (sym (indexed_path ls n l h is))
    ∙ ap (λ x. paths_seen was ++ drop x (ways here) ++ more) is-k
    ∙ append_assoc (paths_seen was) (drop (shared (path_before (leaves_seen ls) n) here) (ways here)) more
    ∙ ap (λ ps. paths_seen was ++ ps) (sym (next_parts ls n h))
    ∙ listed
