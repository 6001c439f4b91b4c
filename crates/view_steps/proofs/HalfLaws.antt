-- The site behind steps of which some go to the stop, and what one of these changes of a load.
use Rattle.std.proofs.Common.{◌≡◌, ℕ, ℤ, pos, ◌+ℤ◌, ◌-ℤ◌, Bool, true, false, not, ◌&&◌, ◌||◌, cond, if◌then◌else◌, List, [], ◌∷◌, ◌++◌, Option, Some, None, Ordering, Less, Equal, Greater, map, option_map, filter, is_eq, is_some, bytes_eq, refl, sym, ap, ◌∙◌, subst, arith}
use Rattle.std.proofs.lemmas.Int.{ints}
use Rattle.std.proofs.lemmas.Slice.Eq.{bytes_eq-Decides}
use Rattle.std.specs.Ordering.{ordering_reverse}
use Rattle.serde_json.specs.Data.{Data, null, boolean, number, string, array, object}
use Rattle.serde_json.specs.Find.{as_str}
use Rattle.view_leaves.specs.Ascending.{IsAscending}
use Rattle.view_leaves.specs.Leaves.{PathLeaf}
use Rattle.view_leaves.specs.Paths.{Path, path_cmp}
use Rattle.view_leaves.proofs.PathOrder.{path_total}
use Rattle.view_picture.specs.Mentions.{has_word}
use Rattle.view_picture.specs.Picture.{PictureSize}
use Rattle.view_plan.specs.Changes.{PlanChange, Added, Removed, Changed, Members}
use Rattle.view_plan.specs.Plan.{found_at, line_path}
use Rattle.view_steps.specs.Moves.{from_word, to_word, is_word, is_other, refers_to, to_stop, from_stop, on_stop}
use Rattle.view_steps.specs.Runs.{IsSite}
use Rattle.view_steps.specs.Steps.{Site, Leg, halts, ended, halted, behind, changed_at, is_among, waits, load_behind}
use Rattle.view_steps.specs.Views.{move_line, move_path, IsMove}
use Rattle.view_steps.specs.declared.moves.Move.{Move}
use Rattle.view_steps.proofs.RoomLaws.{contrary, none_first, none_second, IsShifted, size_by, agree, moved}
use Rattle.view_steps.proofs.Standing.{path_same, equal_of, is_itself, sum_append, sum_of, sum_where, where_more, weight_named}

-- ---- what a move by way of the stop is made of

-- the halves of a change
pub record IsHalved (stop : Option Data) (c half : PlanChange) : Type 0 where
  pub from : from_word half ≡ from_word c
  pub to : to_word (from_stop stop c) ≡ to_word c
  pub over : from_word (from_stop stop c) ≡ to_word half
  pub stands : is_some (from_word c) ≡ true
  pub refers : (d : Data) (w : List ℕ) → has_word w (on_stop stop d) ≡ is_word (to_word half) w
  pub comes : (w : List ℕ) → is_word (to_word half) w ≡ true → is_word (from_word half) w ≡ false
  pub goes : (w : List ℕ) → is_word (to_word c) w ≡ true → is_word (to_word half) w ≡ false

one_word : (w v : List ℕ) → bytes_eq w v ≡ true → w ≡ v
one_word w v h = (bytes_eq-Decides w v).0 h

itself : (v : List ℕ) → bytes_eq v v ≡ true
itself v = (bytes_eq-Decides v v).1 refl

other_case : (a b w : List ℕ) (x : Bool) → bytes_eq a b ≡ false → bytes_eq w b ≡ true
    → bytes_eq w a ≡ x → x ≡ false
other_case a b w true apart to from =
    absurd (contrary (bytes_eq a b) apart
    (ap (λ x. bytes_eq x b) (sym (one_word w a from)) ∙ to))
other_case a b w false apart to from = refl

-- words that differ
others : (o p : Option (List ℕ)) (a b : List ℕ) → o ≡ Some a → p ≡ Some b → bytes_eq a b ≡ false
    → (w : List ℕ) → is_word p w ≡ true → is_word o w ≡ false
others o p a b e k apart w h =
    ap (λ x. is_word x w) e
    ∙ other_case a b w (bytes_eq w a) apart (ap (λ x. is_word x w) (sym k) ∙ h) refl

flipped : (a b : List ℕ) (x : Bool) → bytes_eq a b ≡ false → bytes_eq b a ≡ x → x ≡ false
flipped a b true apart same =
    absurd (contrary (bytes_eq a b) apart
    (ap (λ x. bytes_eq x b) (sym (one_word b a same)) ∙ itself b))
flipped a b false apart same = refl

word_has : (s : Data) (t : List ℕ) → as_str s ≡ Some t → (w : List ℕ) → has_word w s ≡ is_word (as_str s) w
word_has null t h w = refl
word_has (boolean b) t h w = refl
word_has (number n) t h w = refl
word_has (string v) t h w = refl
word_has (array ds) t h w = absurd cc
word_has (object ms) t h w = refl

some_same : (b c : PlanChange) → ◌≡◌ {A = Option PlanChange} (Some b) (Some c) → b ≡ c
some_same b c h = cc

by_tests : (s d e : Data) (half : PlanChange) (t a b : List ℕ) (x y : Bool)
    → as_str s ≡ Some t → as_str d ≡ Some a → as_str e ≡ Some b
    → bytes_eq a t ≡ x → bytes_eq b t ≡ y
    → (if not x && not y then Some (Changed d s) else None) ≡ Some half
    → IsHalved (Some s) (Changed d e) half
by_tests s d e half t a b true y i j k l m h = absurd cc
by_tests s d e half t a b false true i j k l m h = absurd cc
by_tests s d e half t a b false false i j k l m h =
    subst (IsHalved (Some s) (Changed d e)) (some_same (Changed d s) half h) (record {
      from = refl;
      to = refl;
      over = refl;
      stands = ap is_some j;
      refers = λ c w. word_has s t i w;
      comes = others (as_str d) (as_str s) a t j i l;
      goes = others (as_str s) (as_str e) t b i k (flipped b t (bytes_eq t b) m refl);
    })

by_words : (s d e : Data) (half : PlanChange) (o p q : Option (List ℕ))
    → as_str s ≡ o → as_str d ≡ p → as_str e ≡ q
    → (if is_other o p q then Some (Changed d s) else None) ≡ Some half
    → IsHalved (Some s) (Changed d e) half
by_words s d e half None p q i j k h = absurd cc
by_words s d e half (Some t) None q i j k h = absurd cc
by_words s d e half (Some t) (Some a) None i j k h = absurd cc
by_words s d e half (Some t) (Some a) (Some b) i j k h =
    by_tests s d e half t a b (bytes_eq a t) (bytes_eq b t) i j k refl refl h

pub halved : (stop : Option Data) (c half : PlanChange) → to_stop stop c ≡ Some half
    → IsHalved stop c half
halved None c half h = absurd cc
halved (Some s) (Added e) half h = absurd cc
halved (Some s) (Removed d) half h = absurd cc
halved (Some s) (Changed d e) half h = by_words s d e half (as_str s) (as_str d) (as_str e) refl refl refl h
halved (Some s) (Members added taken both) half h = absurd cc

never_other : (o p : Option (List ℕ)) → is_other o o p ≡ false
never_other None p = refl
never_other (Some t) None = refl
never_other (Some t) (Some b) = rw (itself t) refl

-- what comes from the stop doesn't go there
pub goes_once : (stop : Option Data) (c : PlanChange) → to_stop stop (from_stop stop c) ≡ None
goes_once None c = refl
goes_once (Some s) (Added e) = refl
goes_once (Some s) (Removed d) = refl
goes_once (Some s) (Changed d e) = rw (never_other (as_str s) (as_str e)) refl
goes_once (Some s) (Members added taken both) = refl

-- ---- lists in which what stands at some paths was replaced

reversed_eq : (o : Ordering) → is_eq (ordering_reverse o) ≡ is_eq o
reversed_eq Less = refl
reversed_eq Equal = refl
reversed_eq Greater = refl

pub either_side : (p q : Path) → is_eq (path_cmp p q) ≡ is_eq (path_cmp q p)
either_side p q = ap is_eq (path_total.antisymm p q) ∙ reversed_eq (path_cmp q p)

module _ {X : Type 0} (f : X → X) where
  abbrev entry : List Path → Path × X → Path × X
  entry ps x = (x.0, if is_among ps x.0 then f x.1 else x.1)

  pub changed_paths : (ps : List Path) (xs : List (Path × X))
      → map (λ (x : Path × X). x.0) (changed_at f ps xs) ≡ map (λ (x : Path × X). x.0) xs
  changed_paths ps [] = refl
  changed_paths ps (x ∷ xs) = ap (λ qs. x.0 ∷ qs) (changed_paths ps xs)

  pub changed_none : (xs : List (Path × X)) → changed_at f [] xs ≡ xs
  changed_none [] = refl
  changed_none (x ∷ xs) = ap (λ ys. x ∷ ys) (changed_none xs)

  found_case : (ps : List Path) (p : Path) (x : Path × X) (xs : List (Path × X)) (b : Bool)
      → is_eq (path_cmp p x.0) ≡ b
      → found_at p (changed_at f ps xs) ≡ option_map (λ v. if is_among ps p then f v else v) (found_at p xs)
      → found_at p (changed_at f ps (x ∷ xs))
      ≡ option_map (λ v. if is_among ps p then f v else v) (found_at p (x ∷ xs))
  found_case ps p x xs true e more =
      rw e (ap (λ q. Some (if is_among ps q then f x.1 else x.1)) (sym (path_same p x.0 (equal_of (path_cmp p x.0) e))))
  found_case ps p x xs false e more = rw e more

  pub changed_found : (ps : List Path) (p : Path) (xs : List (Path × X))
      → found_at p (changed_at f ps xs) ≡ option_map (λ v. if is_among ps p then f v else v) (found_at p xs)
  changed_found ps p [] = refl
  changed_found ps p (x ∷ xs) = found_case ps p x xs (is_eq (path_cmp p x.0)) refl (changed_found ps p xs)

  -- one more of them, elsewhere
  pub found_elsewhere : (ps : List Path) (p q : Path) (xs : List (Path × X))
      → is_eq (path_cmp p q) ≡ false
      → found_at q (changed_at f (p ∷ ps) xs) ≡ found_at q (changed_at f ps xs)
  found_elsewhere ps p q xs apart =
      changed_found (p ∷ ps) q xs
      ∙ ap (λ b. option_map (λ v. if b || is_among ps q then f v else v) (found_at q xs)) apart
      ∙ sym (changed_found ps q xs)

  -- one more of them, as a change of what was changed
  abbrev pub one_changed : Path → Path × X → Path × X
  one_changed p x = (x.0, if is_eq (path_cmp p x.0) then f x.1 else x.1)

  entry_case : (ps : List Path) (p : Path) (x : Path × X) (b : Bool) → is_among ps p ≡ false
      → is_eq (path_cmp p x.0) ≡ b → entry (p ∷ ps) x ≡ one_changed p (entry ps x)
  entry_case ps p x true out e =
      let none : is_among ps x.0 ≡ false = ap (is_among ps) (sym (path_same p x.0 (equal_of (path_cmp p x.0) e))) ∙ out in
      rw e (rw none refl)
  entry_case ps p x false out e = rw e refl

  pub changed_more : (ps : List Path) (p : Path) (xs : List (Path × X)) → is_among ps p ≡ false
      → changed_at f (p ∷ ps) xs ≡ map (one_changed p) (changed_at f ps xs)
  changed_more ps p [] out = refl
  changed_more ps p (x ∷ xs) out =
      ap (λ y. y ∷ changed_at f (p ∷ ps) xs) (entry_case ps p x (is_eq (path_cmp p x.0)) out refl)
      ∙ ap (λ ys. one_changed p (entry ps x) ∷ ys) (changed_more ps p xs out)

  still_case : (p : Path) (x : Path × X) → is_eq (path_cmp p x.0) ≡ false → one_changed p x ≡ x
  still_case p x e = rw e refl

  pub still : (p : Path) (xs : List (Path × X)) → is_among (map (λ (x : Path × X). x.0) xs) p ≡ false
      → map (one_changed p) xs ≡ xs
  still p [] out = refl
  still p (x ∷ xs) out =
      let rest = is_among (map (λ (y : Path × X). y.0) xs) p in
      ap (λ y. y ∷ map (one_changed p) xs) (still_case p x (either_side p x.0 ∙ none_first (is_eq (path_cmp x.0 p)) rest out))
      ∙ ap (λ ys. x ∷ ys) (still p xs (none_second (is_eq (path_cmp x.0 p)) rest out))

  -- tests that leave that path out don't see the change
  kept_case : (t : Path → Bool) (ps : List Path) (p : Path) (x : Path × X) (xs : List (Path × X)) (b : Bool)
      → is_eq (path_cmp p x.0) ≡ b → t p ≡ false
      → filter (λ (y : Path × X). t y.0) (changed_at f (p ∷ ps) xs) ≡ filter (λ (y : Path × X). t y.0) (changed_at f ps xs)
      → filter (λ (y : Path × X). t y.0) (changed_at f (p ∷ ps) (x ∷ xs)) ≡ filter (λ (y : Path × X). t y.0) (changed_at f ps (x ∷ xs))
  kept_case t ps p x xs true e out more =
      let none : t x.0 ≡ false = ap t (sym (path_same p x.0 (equal_of (path_cmp p x.0) e))) ∙ out in
      rw none more
  kept_case t ps p x xs false e out more =
      rw e (ap (λ ys. cond (t x.0) (entry ps x ∷ ys) ys) more)

  pub changed_kept : (t : Path → Bool) (ps : List Path) (p : Path) (xs : List (Path × X)) → t p ≡ false
      → filter (λ (y : Path × X). t y.0) (changed_at f (p ∷ ps) xs) ≡ filter (λ (y : Path × X). t y.0) (changed_at f ps xs)
  changed_kept t ps p [] out = refl
  changed_kept t ps p (x ∷ xs) out = kept_case t ps p x xs (is_eq (path_cmp p x.0)) refl out (changed_kept t ps p xs out)

-- ---- the site behind steps

pub behind_paths : (site : Site) (stop : Option Data) (gs : List Leg)
    → map line_path (behind site stop gs).moves ≡ map line_path site.moves
behind_paths site stop gs = changed_paths (from_stop stop) (halted gs) site.moves

pub behind_site : (site : Site) (stop : Option Data) (gs : List Leg) → IsSite site
    → IsSite (behind site stop gs)
behind_site site stop gs is = record {
  old = subst IsAscending (sym (changed_paths (on_stop stop) (halted gs) site.old)) is.old;
  new = is.new;
  moves = subst IsAscending (sym (behind_paths site stop gs)) is.moves;
}

pub behind_none : (site : Site) (stop : Option Data) → behind site stop [] ≡ site
behind_none site stop =
    ap (λ ls. record { whole = site.whole; attribute = site.attribute; sizes = site.sizes; old = ls; new = site.new; moves = changed_at (from_stop stop) [] site.moves }) (changed_none (on_stop stop) site.old)
    ∙ ap (λ ls. record { whole = site.whole; attribute = site.attribute; sizes = site.sizes; old = site.old; new = site.new; moves = ls }) (changed_none (from_stop stop) site.moves)

-- ---- a load and a step to the stop

-- what is found where something stands refers to the stop, once it is there
stands_there : (stop : Option Data) (c half : PlanChange) (o : Option Data) (w : List ℕ)
    → IsHalved stop c half → ((v : List ℕ) → refers_to v o ≡ is_word (from_word c) v)
    → refers_to w (option_map (on_stop stop) o) ≡ is_word (to_word half) w
stands_there stop c half (Some d) w is former = is.refers d w
stands_there stop c half None w is former = nowhere (from_word c) refl
  where
    nowhere : (o : Option (List ℕ)) → from_word c ≡ o
        → false ≡ is_word (to_word half) w
    nowhere None e = absurd (contrary (is_some (from_word c)) (ap is_some e) is.stands)
    nowhere (Some v) e =
        absurd (contrary (is_word (from_word c) v) (sym (former v)) (ap (λ x. is_word x v) e ∙ itself v))

placed : (stop : Option Data) (b : Bool) (o : Option Data)
    → option_map (on_stop stop) (option_map (λ v. if b then on_stop stop v else v) o)
    ≡ option_map (on_stop stop) o
placed None b None = refl
placed None true (Some d) = refl
placed None false (Some d) = refl
placed (Some s) b None = refl
placed (Some s) b (Some d) = refl

-- what stands at a path that goes to the stop
pub found_halted : (stop : Option Data) (ps : List Path) (p : Path) (ls : List PathLeaf)
    → found_at p (changed_at (on_stop stop) (p ∷ ps) ls)
    ≡ option_map (on_stop stop) (found_at p (changed_at (on_stop stop) ps ls))
found_halted stop ps p ls =
    changed_found (on_stop stop) (p ∷ ps) p ls
    ∙ ap (λ b. option_map (λ v. if b || is_among ps p then on_stop stop v else v) (found_at p ls)) (is_itself p)
    ∙ sym (placed stop (is_among ps p) (found_at p ls))
    ∙ ap (option_map (on_stop stop)) (sym (changed_found (on_stop stop) ps p ls))

pub refers_halted : (site : Site) (stop : Option Data) (gs : List Leg) (m : Move) (half : PlanChange)
    (w : List ℕ) → IsMove (behind site stop gs) m → to_stop stop (move_line m).1 ≡ Some half
    → refers_to w (found_at (move_path m) (behind site stop (halts (move_path m, half) ∷ gs)).old)
    ≡ is_word (to_word half) w
refers_halted site stop gs m half w move e =
    ap (refers_to w) (found_halted stop (halted gs) (move_path m) site.old)
    ∙ stands_there stop (move_line m).1 half (found_at (move_path m) (behind site stop gs).old) w
    (halved stop (move_line m).1 half e) move.former

added_up : (a b r f g : ℤ) (n : ℤ) → a ≡ f +ℤ r → b ≡ g +ℤ r
    → b +ℤ n ≡ (a +ℤ n) +ℤ (g -ℤ f)
added_up a b r f g n h k = omega (arith, ints)

-- whether a path waits, by the paths of the moves
abbrev waiting : List Path → List Path → Path → Bool
waiting qs made p = is_among qs p && not (is_among made p)

-- the load of a holder, by these
abbrev load_by : Site → List Path → List Path → List PathLeaf → List ℕ → PictureSize → ℤ
load_by site made qs ls w s =
    sum_of site.whole s.name site.attribute w
    (filter (λ (l : PathLeaf). waiting qs made l.0) ls
    ++ filter (λ (l : PathLeaf). not (waiting qs made l.0)) site.new)

load_halted : (site : Site) (stop : Option Data) (gs : List Leg) (m : Move) (half : PlanChange)
    (w : List ℕ) (s : PictureSize) → IsSite site → IsMove (behind site stop gs) m
    → waits (behind site stop gs) (ended gs) (move_path m) ≡ true
    → to_stop stop (move_line m).1 ≡ Some half
    → load_behind site stop (halts (move_path m, half) ∷ gs) w s
    ≡ load_behind site stop gs w s +ℤ
    (cond (is_word (to_word half) w) (size_by site m s) (pos 0) -ℤ
    cond (is_word (from_word half) w) (size_by site m s) (pos 0))
load_halted site stop gs m half w s is move here e =
    let d = site.whole in
    let a = site.attribute in
    let p = move_path m in
    let before = behind site stop gs in
    let after = behind site stop (halts (p, half) ∷ gs) in
    let made = ended gs in
    let size = size_by site m s in
    let same : map line_path after.moves ≡ map line_path before.moves = behind_paths site stop (halts (p, half) ∷ gs) ∙ sym (behind_paths site stop gs) in
    let t = waits before made in
    let u = waits before (p ∷ made) in
    let none : u p ≡ false = moved before made p in
    let sum = sum_where d s.name a w in
    let rest = sum_of d s.name a w (filter (λ (l : PathLeaf). not (t l.0)) site.new) in
    let old : sum t before.old ≡ cond (is_word (from_word half) w) size (pos 0) +ℤ sum u before.old =
    where_more d s.name a w t u p before.old (behind_site site stop gs is).old here none (agree before made p)
    ∙ ap (λ n. n +ℤ sum u before.old) (weight_named d s.name a w p (found_at p before.old) move.sized.named
    ∙ ap (λ b. cond b size (pos 0)) (move.former w ∙ ap (λ o. is_word o w) (sym (halved stop (move_line m).1 half e).from))) in
    let new : sum t after.old ≡ cond (is_word (to_word half) w) size (pos 0) +ℤ sum u before.old =
    where_more d s.name a w t u p after.old (behind_site site stop (halts (p, half) ∷ gs) is).old here none (agree before made p)
    ∙ ap (λ n. n +ℤ sum u after.old) (weight_named d s.name a w p (found_at p after.old) move.sized.named
    ∙ ap (λ b. cond b size (pos 0)) (refers_halted site stop gs m half w move e))
    ∙ ap (λ ls. cond (is_word (to_word half) w) size (pos 0) +ℤ sum_of d s.name a w ls) (changed_kept (on_stop stop) u (halted gs) p site.old none) in
    ap (λ qs. load_by site made qs after.old w s) same
    ∙ sum_append d s.name a w (filter (λ (l : PathLeaf). t l.0) after.old) (filter (λ (l : PathLeaf). not (t l.0)) site.new)
    ∙ added_up (sum t before.old) (sum t after.old) (sum u before.old)
    (cond (is_word (from_word half) w) size (pos 0)) (cond (is_word (to_word half) w) size (pos 0)) rest old new
    ∙ ap (λ n. n +ℤ (cond (is_word (to_word half) w) size (pos 0) -ℤ cond (is_word (from_word half) w) size (pos 0)))
    (sym (sum_append d s.name a w (filter (λ (l : PathLeaf). t l.0) before.old) (filter (λ (l : PathLeaf). not (t l.0)) site.new)))

pub halt_shifts : (site : Site) (stop : Option Data) (gs : List Leg) (m : Move) (half : PlanChange)
    (w : List ℕ) → IsSite site → IsMove (behind site stop gs) m
    → waits (behind site stop gs) (ended gs) (move_path m) ≡ true
    → to_stop stop (move_line m).1 ≡ Some half
    → IsShifted (is_word (to_word half) w) (is_word (from_word half) w) (size_by site m)
    (load_behind site stop gs w) (load_behind site stop (halts (move_path m, half) ∷ gs) w)
halt_shifts site stop gs m half w is move here e = record {
  by = λ s. load_halted site stop gs m half w s is move here e;
  apart = (halved stop (move_line m).1 half e).comes w;
}
