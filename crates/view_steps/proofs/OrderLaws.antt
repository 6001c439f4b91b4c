-- A step more, and what its fitting says.
use Rattle.std.proofs.Common.{◌≡◌, ℕ, zero, suc, get_or, ◌+◌, ◌<◌, ◌≤◌, ℤ, Bool, true, false, not, ◌&&◌, ◌||◌, cond, List, [], ◌∷◌, ◌++◌, Option, Some, None, Less, map, is_eq, is_some, bytes_eq, refl, sym, ap, ◌∙◌, subst, arith, length, reverse}
use Rattle.std.specs.Prelude.{sum_by, All, IsPermutation, remove, slice_index_or}
use Rattle.std.specs.List.{swap_remove}
use Rattle.std.specs.Borrow.{Bor}
use Rattle.std.specs.Ordering.{ordering_reverse}
use Rattle.std.specs.List.{list_all, AllByRecursion}
use Rattle.std.specs.List.Sorted.{IsStrictlySortedBy}
use Rattle.std.proofs.lemmas.List.Elements.{All-head, All-tail}
use Rattle.std.proofs.lemmas.List.{reverse-append}
use Rattle.std.proofs.lemmas.List.Sorted.{IsPermutation-map, IsPermutation-trans, IsPermutation-append_right, IsPermutation-middle, IsPermutation-remove, IsPermutation-swap_remove, All-permutation, sum_by-IsPermutation}
use Rattle.std.proofs.lemmas.List.Sums.{sum_by-append, sum_by-cons}
use mathlib.Core.List.{map-append}
use Rattle.serde_json.specs.Data.{Data}
use Rattle.view_leaves.specs.Ascending.{IsAscending}
use Rattle.view_leaves.specs.Paths.{Path, path_cmp}
use Rattle.view_leaves.proofs.PathOrder.{path_total}
use Rattle.view_picture.specs.Picture.{PictureSize}
use Rattle.view_plan.specs.Changes.{PlanChange}
use Rattle.view_plan.specs.Plan.{PlanLine, line_path}
use Rattle.view_plan.specs.Views.{line_seen, lines_seen}
use Rattle.view_steps.specs.Moves.{from_word, to_word, is_word, to_stop}
use Rattle.view_steps.specs.Rooms.{Entries, Room, found, word_allowed, some_allowed}
use Rattle.view_steps.specs.Runs.{change_fits, is_fit, may_halt, half_fits, put_by, steps_of, IsFitAt, IsAtEnd, IsSite, IsRun}
use Rattle.view_steps.specs.Steps.{Site, Leg, ends, halts, leg_line, reached, ended, behind, is_among, waits, load_behind, Lacks, IsStuck}
use Rattle.view_steps.specs.Views.{move_line, move_path, goes_from, goes_to, IsMove}
use Rattle.view_steps.specs.declared.moves.Move.{Move}
use Rattle.view_steps.specs.declared.run.Run.{Run}
use Rattle.view_steps.proofs.Standing.{path_same, equal_of, is_itself}
use Rattle.std.proofs.lemmas.Slice.Eq.{bytes_eq-Decides}
use Rattle.view_steps.proofs.HalfLaws.{behind_site, halt_shifts}
use Rattle.view_steps.proofs.RoomLaws.{contrary, rooms_by, bears_change, IsShifted, AreSizes, size_by, move_sizes, move_shifts, rooms_put, bears_to, bears_from, bears_neither}

-- ---- a move that is left waits

abbrev one_at : Path → Path → ℕ
one_at p q = cond (is_eq (path_cmp q p)) 1 0

abbrev times : Path → List Path → ℕ
times p ps = sum_by (one_at p) ps

none_step : (b c : Bool) (n : ℕ) → cond b 1 0 + n ≡ 0 → (n ≡ 0 → c ≡ false) → (b || c) ≡ false
none_step true c n h k = absurd (omega arith)
none_step false c n h k = k (omega arith)

none_times : (p : Path) (ps : List Path) → times p ps ≡ 0 → is_among ps p ≡ false
none_times p [] h = refl
none_times p (q ∷ ps) h =
    none_step (is_eq (path_cmp q p)) (is_among ps p) (times p ps)
    (sym (sum_by-cons (one_at p) q ps) ∙ h) (none_times p ps)

some_step : (b c : Bool) (n : ℕ) → 1 ≤ cond b 1 0 + n → (1 ≤ n → c ≡ true) → (b || c) ≡ true
some_step true c n h k = refl
some_step false c n h k = k (omega arith)

some_times : (p : Path) (ps : List Path) → 1 ≤ times p ps → is_among ps p ≡ true
some_times p [] h = absurd (omega arith)
some_times p (q ∷ ps) h =
    some_step (is_eq (path_cmp q p)) (is_among ps p) (times p ps)
    (subst (λ n. 1 ≤ n) (sum_by-cons (one_at p) q ps) h) (some_times p ps)

zero_step : (b : Bool) (n : ℕ) → b ≡ false → n ≡ 0 → cond b 1 0 + n ≡ 0
zero_step true n h k = absurd cc
zero_step false n h k = omega arith

is_behind : (p q r : Path) → q ≡ p → path_cmp q r ≡ Less → is_eq (path_cmp r p) ≡ false
is_behind p q r same h =
    ap (λ x. is_eq (path_cmp r x)) (sym same)
    ∙ ap is_eq (path_total.antisymm r q ∙ ap ordering_reverse h)

later_times : (p q : Path) (ps : List Path) → q ≡ p
    → AllByRecursion (λ r. path_cmp q r ≡ Less) ps → times p ps ≡ 0
later_times p q [] same h = refl
later_times p q (r ∷ ps) same h =
    sum_by-cons (one_at p) r ps
    ∙ zero_step (is_eq (path_cmp r p)) (times p ps) (is_behind p q r same h.0)
    (later_times p q ps same h.1)

once_step : (b : Bool) (n : ℕ) → (b ≡ true → n ≡ 0) → n ≤ 1 → cond b 1 0 + n ≤ 1
once_step true n h k = let none = h refl in omega arith
once_step false n h k = omega arith

-- paths that ascend have each of them once
once : (p : Path) (ps : List Path) → IsAscending ps → times p ps ≤ 1
unfolding IsStrictlySortedBy
once p [] h = omega arith
once p (q ∷ ps) h =
    subst (λ n. n ≤ 1) (sym (sum_by-cons (one_at p) q ps))
    (once_step (is_eq (path_cmp q p)) (times p ps)
    (λ e. later_times p q ps (path_same q p (equal_of (path_cmp q p) e)) h.0) (once p ps h.1))

times_here : (p : Path) (xs ys : List Path) → times p (xs ++ p ∷ ys) ≡ times p xs + (1 + times p ys)
times_here p xs ys =
    sum_by-append (one_at p) xs (p ∷ ys)
    ∙ ap (λ n. times p xs + n) (sum_by-cons (one_at p) p ys
    ∙ ap (λ b. cond b 1 0 + times p ys) (is_itself p))

waits_by : (b c : Bool) → b ≡ true → c ≡ false → (b && not c) ≡ true
waits_by b c h k = rw h (rw k refl)

-- of paths that ascend, one stands neither before nor behind itself
pub stands_once : (p : Path) (all made left : List Path) → IsAscending all
    → IsPermutation all (made ++ p ∷ left)
    → (is_among all p ≡ true) × (is_among made p ≡ false) × (is_among left p ≡ false)
stands_once p all made left ascends same =
    let sum = sum_by-IsPermutation (one_at p) all (made ++ p ∷ left) same in
    let here = times_here p made left in
    let few = once p all ascends in
    let known : 1 ≤ times p all = omega (arith, sum, here) in
    let before : times p made ≡ 0 = omega (arith, sum, here, few) in
    let behind : times p left ≡ 0 = omega (arith, sum, here, few) in
    (some_times p all known, none_times p made before, none_times p left behind)

-- a path that is among all the moves, and stands behind those that were made, waits
waits_here : (site : Site) (made : List Path) (p : Path) (left : List Path)
    → IsAscending (map line_path site.moves)
    → IsPermutation (map line_path site.moves) (made ++ p ∷ left)
    → waits site made p ≡ true
waits_here site made p left ascends same =
    let stands = stands_once p (map line_path site.moves) made left ascends same in
    waits_by (is_among (map line_path site.moves) p) (is_among made p) stands.0 stands.1

-- ---- what fitting says

first_of_both : (a b : Bool) → (a && b) ≡ true → a ≡ true
first_of_both true b h = refl
first_of_both false b h = absurd cc

second_of_both : (a b : Bool) → (a && b) ≡ true → b ≡ true
second_of_both true b h = h
second_of_both false b h = absurd cc

not_to : (b f : Bool) → (b ≡ true → f ≡ false) → f ≡ true → b ≡ false
not_to true f h k = absurd (contrary f (h refl) k)
not_to false f h k = refl

pub same_word : (w v : List ℕ) → bytes_eq w v ≡ true → w ≡ v
same_word w v h = (bytes_eq-Decides w v).0 h

pub word_itself : (v : List ℕ) → bytes_eq v v ≡ true
word_itself v = (bytes_eq-Decides v v).1 refl

-- a step by a change, of a guest of these sizes, and the loads before it and behind it
pub record IsStep (site : Site) (c : PlanChange) (size : PictureSize → ℤ) (f g : List ℕ → PictureSize → ℤ) (more less : List ℤ) : Type 0 where
  pub sizes_are : AreSizes site size more less
  pub shifted : (w : List ℕ) → IsShifted (is_word (to_word c) w) (is_word (from_word c) w) size (f w) (g w)

fit_at : (site : Site) (size f g : PictureSize → ℤ) (more less : List ℤ) (w : List ℕ) (to from : Bool)
    → AreSizes site size more less → IsShifted to from size f g
    → (to ≡ true → some_allowed (rooms_by site f w) more ≡ true)
    → (from ≡ true → some_allowed (rooms_by site f w) less ≡ true)
    → list_all (bears_change site f g w) site.sizes ≡ true
fit_at site size f g more less w true from are is h k = bears_to site size f g more less w from are is ∙ h refl
fit_at site size f g more less w false true are is h k = bears_from site size f g more less w are is ∙ k refl
fit_at site size f g more less w false false are is h k = bears_neither site size f g w is

-- rooms that are kept are those of a word that is given
allowed_at : {A : Type 0} (es : Entries A) (kept : List ℕ → Option (List Room)) (o : Option (List ℕ))
    (w : List ℕ) (vs : List ℤ) → ((v : List ℕ) → found es v ≡ kept v)
    → is_word o w ≡ true → word_allowed es o vs ≡ some_allowed (kept w) vs
allowed_at es kept None w vs h is = absurd cc
allowed_at es kept (Some v) w vs h is =
    ap (λ rs. some_allowed rs vs) (h v)
    ∙ ap (λ x. some_allowed (kept x) vs) (sym (same_word w v is))

abbrev kept_by : Site → (List ℕ → PictureSize → ℤ) → List ℕ → Option (List Room)
kept_by site f w = rooms_by site (f w) w

pub fits : {A : Type 0} (es : Entries A) (site : Site) (c : PlanChange) (size : PictureSize → ℤ)
    (f g : List ℕ → PictureSize → ℤ) (more less : List ℤ)
    → ((v : List ℕ) → found es v ≡ rooms_by site (f v) v) → IsStep site c size f g more less
    → change_fits es c more less ≡ true
    → (w : List ℕ) → list_all (bears_change site (f w) (g w) w) site.sizes ≡ true
fits es site c size f g more less same step fit = λ w.
    let to = to_word c in
    let from = from_word c in
    fit_at site size (f w) (g w) more less w (is_word to w) (is_word from w) step.sizes_are (step.shifted w)
    (λ h. sym (allowed_at es (kept_by site f) to w more same h) ∙ first_of_both (word_allowed es to more) (word_allowed es from less) fit)
    (λ h. sym (allowed_at es (kept_by site f) from w less same h) ∙ second_of_both (word_allowed es to more) (word_allowed es from less) fit)

-- a holder that doesn't bear it
record IsShort (site : Site) (f g : List ℕ → PictureSize → ℤ) : Type 0 where
  pub holder : List ℕ
  pub short : list_all (bears_change site (f holder) (g holder) holder) site.sizes ≡ false

lacks_to : {A : Type 0} (es : Entries A) (site : Site) (c : PlanChange) (size : PictureSize → ℤ)
    (f g : List ℕ → PictureSize → ℤ) (more less : List ℤ) (o : Option (List ℕ)) → o ≡ to_word c
    → ((v : List ℕ) → found es v ≡ rooms_by site (f v) v) → IsStep site c size f g more less
    → word_allowed es o more ≡ false → IsShort site f g
lacks_to es site c size f g more less None e same step fails = absurd cc
lacks_to es site c size f g more less (Some v) e same step fails =
    let here : is_word (to_word c) v ≡ true = ap (λ x. is_word x v) (sym e) ∙ word_itself v in record {
      holder = v;
      short = bears_to site size (f v) (g v) more less v (is_word (from_word c) v) step.sizes_are
          (subst (λ b. IsShifted b (is_word (from_word c) v) size (f v) (g v)) here (step.shifted v))
          ∙ ap (λ rs. some_allowed rs more) (sym (same v)) ∙ fails;
    }

lacks_from : {A : Type 0} (es : Entries A) (site : Site) (c : PlanChange) (size : PictureSize → ℤ)
    (f g : List ℕ → PictureSize → ℤ) (more less : List ℤ) (o : Option (List ℕ)) → o ≡ from_word c
    → ((v : List ℕ) → found es v ≡ rooms_by site (f v) v) → IsStep site c size f g more less
    → word_allowed es o less ≡ false → IsShort site f g
lacks_from es site c size f g more less None e same step fails = absurd cc
lacks_from es site c size f g more less (Some v) e same step fails =
    let from : is_word (from_word c) v ≡ true = ap (λ x. is_word x v) (sym e) ∙ word_itself v in
    let to : is_word (to_word c) v ≡ false = not_to (is_word (to_word c) v) (is_word (from_word c) v) (step.shifted v).apart from in
    record {
      holder = v;
      short = bears_from site size (f v) (g v) more less v step.sizes_are
          (subst (λ b. IsShifted b true size (f v) (g v)) to
          (subst (λ b. IsShifted (is_word (to_word c) v) b size (f v) (g v)) from (step.shifted v)))
          ∙ ap (λ rs. some_allowed rs less) (sym (same v)) ∙ fails;
    }

lacks_by : {A : Type 0} (es : Entries A) (site : Site) (c : PlanChange) (size : PictureSize → ℤ)
    (f g : List ℕ → PictureSize → ℤ) (more less : List ℤ) (b : Bool)
    → word_allowed es (to_word c) more ≡ b
    → ((v : List ℕ) → found es v ≡ rooms_by site (f v) v) → IsStep site c size f g more less
    → change_fits es c more less ≡ false → IsShort site f g
lacks_by es site c size f g more less true e same step fails =
    lacks_from es site c size f g more less (from_word c) refl same step
    (sym (ap (λ b. b && word_allowed es (from_word c) less) e) ∙ fails)
lacks_by es site c size f g more less false e same step fails =
    lacks_to es site c size f g more less (to_word c) refl same step e

lacks : {A : Type 0} (es : Entries A) (site : Site) (c : PlanChange) (size : PictureSize → ℤ)
    (f g : List ℕ → PictureSize → ℤ) (more less : List ℤ)
    → ((v : List ℕ) → found es v ≡ rooms_by site (f v) v) → IsStep site c size f g more less
    → change_fits es c more less ≡ false → IsShort site f g
lacks es site c size f g more less same step fails =
    lacks_by es site c size f g more less (word_allowed es (to_word c) more) refl same step fails

-- ---- the steps of a move

-- its whole
whole_step : (site : Site) (stop : Option Data) (gs : List Leg) (m : Move) → IsSite site
    → IsMove (behind site stop gs) m → waits (behind site stop gs) (ended gs) (move_path m) ≡ true
    → IsStep (behind site stop gs) (move_line m).1 (size_by site m) (load_behind site stop gs)
    (load_behind site stop (ends (move_line m) ∷ gs)) m.more.items m.less.items
whole_step site stop gs m is move here = record {
  sizes_are = move_sizes (behind site stop gs) m move;
  shifted = λ w. move_shifts (behind site stop gs) (ended gs) m w (behind_site site stop gs is) move here;
}

-- its first half
pub half_step : (site : Site) (stop : Option Data) (gs : List Leg) (m : Move) (c : PlanChange)
    → IsSite site → IsMove (behind site stop gs) m
    → waits (behind site stop gs) (ended gs) (move_path m) ≡ true
    → to_stop stop (move_line m).1 ≡ Some c
    → IsStep (behind site stop gs) c (size_by site m) (load_behind site stop gs)
    (load_behind site stop (halts (move_path m, c) ∷ gs)) m.more.items m.less.items
half_step site stop gs m c is move here half = record {
  sizes_are = move_sizes (behind site stop gs) m move;
  shifted = λ w. halt_shifts site stop gs m c w is move here half;
}

-- ---- one step more

pub lines_paths : (ms : List Move) → map line_path (map move_line ms) ≡ map move_path ms
lines_paths [] = refl
lines_paths (m ∷ ms) = ap (λ ps. move_path m ∷ ps) (lines_paths ms)

-- what is known of a move that is left
pub record IsLeft (site : Site) (stop : Option Data) (gs : List Leg) (x : Move) (rest : List Move) : Type 0 where
  pub move : IsMove (behind site stop gs) x
  pub others : All (IsMove (behind site stop gs)) rest
  pub same : IsPermutation (behind site stop gs).moves (reached gs ++ move_line x ∷ map move_line rest)
  pub here : waits (behind site stop gs) (ended gs) (move_path x) ≡ true
  pub before : is_among (ended gs) (move_path x) ≡ false
  pub apart : is_among (map move_path rest) (move_path x) ≡ false

pub is_left : (site : Site) (stop : Option Data) (run : Run) (x : Move) (rest : List Move)
    (is : IsRun site stop run) → IsPermutation run.left.items (x ∷ rest)
    → IsLeft site stop is.legs x rest
is_left site stop run x rest is left =
    let gs = is.legs in
    let now = behind site stop gs in
    let every : All (IsMove now) (x ∷ rest) = All-permutation (IsMove now) run.left.items (x ∷ rest) left is.each in
    let same : IsPermutation now.moves (reached gs ++ move_line x ∷ map move_line rest) = IsPermutation-trans now.moves (reached gs ++ map move_line run.left.items) (reached gs ++ map move_line (x ∷ rest)) is.same (IsPermutation-append_right (reached gs) (map move_line run.left.items) (map move_line (x ∷ rest)) (IsPermutation-map move_line run.left.items (x ∷ rest) left)) in
    let paths : IsPermutation (map line_path now.moves) (ended gs ++ move_path x ∷ map move_path rest) = subst (IsPermutation (map line_path now.moves)) (map-append line_path (reached gs) (move_line x ∷ map move_line rest) ∙ ap (λ ps. ended gs ++ move_path x ∷ ps) (lines_paths rest)) (IsPermutation-map line_path now.moves (reached gs ++ move_line x ∷ map move_line rest) same) in
    let ascends = (behind_site site stop gs is.site_is).moves in
    let stands = stands_once (move_path x) (map line_path now.moves) (ended gs) (map move_path rest) ascends paths in
    record {
      move = All-head (IsMove now) x rest every;
      others = All-tail (IsMove now) x rest every;
      same = same;
      here = waits_here now (ended gs) (move_path x) (map move_path rest) ascends paths;
      before = stands.1;
      apart = stands.2;
    }

-- the lines behind one more step
pub lines_more : (gs : List Leg) (g : Leg) (old new : List PlanLine) → old ≡ map leg_line (reverse gs)
    → new ≡ old ++ leg_line g ∷ [] → new ≡ map leg_line (reverse (g ∷ gs))
lines_more gs g old new h more =
    more ∙ ap (λ ls. ls ++ leg_line g ∷ []) h
    ∙ sym (map-append leg_line (reverse gs) (g ∷ []))
    ∙ ap (map leg_line) (sym (reverse-append (g ∷ []) gs))

pub one_more : (site : Site) (stop : Option Data) (run new : Run) (x : Move) → IsRun site stop run
    → IsPermutation run.left.items (x ∷ new.left.items)
    → new.made.items ≡ run.made.items ++ x.line ∷ []
    → is_fit run.rooms.entries x ≡ true
    → ((w : Bor (List ℕ)) → found new.rooms.entries w.now
    ≡ put_by (goes_to x w.now) (goes_from x w.now) x.more.items x.less.items (found run.rooms.entries w.now))
    → IsRun site stop new
one_more site stop run new x is left made fit put =
    let gs = is.legs in
    let now = behind site stop gs in
    let l = is_left site stop run x new.left.items is left in
    let step = whole_step site stop gs x is.site_is l.move l.here in
    let more = map move_line new.left.items in
    record {
      legs = ends (move_line x) ∷ gs;
      lines = lines_more gs (ends (move_line x)) (lines_seen run.made.items) (lines_seen new.made.items) is.lines
          (ap lines_seen made ∙ map-append line_seen run.made.items (x.line ∷ []));
      site_is = is.site_is;
      each = l.others;
      same = IsPermutation-trans now.moves (reached gs ++ move_line x ∷ more) (move_line x ∷ (reached gs ++ more)) l.same (IsPermutation-middle (reached gs) (move_line x) more);
      fit = (
        (
          fits run.rooms.entries now (move_line x).1 (size_by site x) (load_behind site stop gs)
              (load_behind site stop (ends (move_line x) ∷ gs)) x.more.items x.less.items is.rooms_are step fit,
          tt,
        ),
        is.fit,
      );
      rooms_are = λ w.
          put (record { ref_ptr = (0, 0); now = w })
          ∙ ap (put_by (goes_to x w) (goes_from x w) x.more.items x.less.items) (is.rooms_are w)
          ∙ sym (rooms_put now (size_by site x) (load_behind site stop gs w)
          (load_behind site stop (ends (move_line x) ∷ gs) w) x.more.items x.less.items w
          (goes_to x w) (goes_from x w) step.sizes_are (step.shifted w));
    }

-- ---- those that are left

half_lacks : (site : Site) (stop : Option Data) (run : Run) (is : IsRun site stop run) (x : Move)
    (rest : List Move) (c : PlanChange) → IsLeft site stop is.legs x rest
    → to_stop stop (move_line x).1 ≡ Some c
    → may_halt run.rooms.entries stop x ≡ false → Lacks site stop is.legs (halts (move_path x, c))
half_lacks site stop run is x rest c l half fails =
    let gs = is.legs in
    let short = lacks run.rooms.entries (behind site stop gs) c (size_by site x) (load_behind site stop gs)
    (load_behind site stop (halts (move_path x, c) ∷ gs)) x.more.items x.less.items is.rooms_are
    (half_step site stop gs x c is.site_is l.move l.here half)
    (ap (λ o. half_fits run.rooms.entries o x.more.items x.less.items) (sym half) ∙ fails) in
    record { holder = short.holder; lacks = short.short }

left_stuck : (site : Site) (stop : Option Data) (run : Run) (is : IsRun site stop run) (k : ℕ) (x : Move)
    → k < length run.left.items → x ≡ get_or run.left.items k x
    → is_fit run.rooms.entries x ≡ false → may_halt run.rooms.entries stop x ≡ false
    → IsStuck site stop is.legs (move_line x)
left_stuck site stop run is k x less here fails halts_not =
    let gs = is.legs in
    let rest = remove run.left.items k in
    let l = is_left site stop run x rest is (IsPermutation-remove run.left.items k x less here) in
    let short = lacks run.rooms.entries (behind site stop gs) (move_line x).1 (size_by site x)
    (load_behind site stop gs) (load_behind site stop (ends (move_line x) ∷ gs)) x.more.items x.less.items
    is.rooms_are (whole_step site stop gs x is.site_is l.move l.here) fails in
    record {
      whole = record { holder = short.holder; lacks = short.short };
      half = λ c e. half_lacks site stop run is x rest c l e halts_not;
    }

pub default_same : {X : Type 0} (xs : List X) (k : ℕ) (d e : X) → k < length xs
    → slice_index_or xs k d ≡ slice_index_or xs k e
default_same [] k d e h = absurd (omega arith)
default_same (x ∷ xs) zero d e h = refl
default_same (x ∷ xs) (suc k) d e h = default_same xs k d e (omega arith)

pub all_stuck : (site : Site) (stop : Option Data) (run : Run) (is : IsRun site stop run)
    → IsAtEnd stop run → All (λ m. IsStuck site stop is.legs (move_line m)) run.left.items
all_stuck site stop run is end = λ k d less.
    let x = slice_index_or run.left.items k d in
    left_stuck site stop run is k x less (default_same run.left.items k d x less) (end.whole k d less)
    (end.half k d less)

-- those that are left in another order
pub left_moved : (site : Site) (stop : Option Data) (run new : Run) → IsRun site stop run
    → IsPermutation run.left.items new.left.items → new.made.items ≡ run.made.items
    → ((w : List ℕ) → found new.rooms.entries w ≡ found run.rooms.entries w)
    → IsRun site stop new
left_moved site stop run new is left made kept =
    let gs = is.legs in
    record {
      legs = gs;
      lines = ap lines_seen made ∙ is.lines;
      site_is = is.site_is;
      each = All-permutation (IsMove (behind site stop gs)) run.left.items new.left.items left is.each;
      same = IsPermutation-trans (behind site stop gs).moves (reached gs ++ map move_line run.left.items) (reached gs ++ map move_line new.left.items) is.same
          (IsPermutation-append_right (reached gs) (map move_line run.left.items) (map move_line new.left.items)
          (IsPermutation-map move_line run.left.items new.left.items left));
      fit = is.fit;
      rooms_are = λ w. kept w ∙ is.rooms_are w;
    }

-- a move that was found to fit, and the run behind it
pub fits_at : (run : Run) (k : ℕ) (x : Move) → k < length run.left.items
    → x ≡ get_or run.left.items k x → is_fit run.rooms.entries x ≡ true → IsFitAt run k
fits_at run k x less here fit = record {
  there = less;
  fit = λ d. ap (is_fit run.rooms.entries) (default_same run.left.items k d x less ∙ sym here) ∙ fit;
}

pub made_one : (site : Site) (stop : Option Data) (run new : Run) (k : ℕ) (x : Move)
    → IsRun site stop run → IsFitAt run k
    → x ≡ get_or run.left.items k x → new.left.items ≡ swap_remove run.left.items k x
    → new.made.items ≡ run.made.items ++ x.line ∷ []
    → ((w : Bor (List ℕ)) → found new.rooms.entries w.now
    ≡ put_by (goes_to x w.now) (goes_from x w.now) x.more.items x.less.items (found run.rooms.entries w.now))
    → IsRun site stop new
made_one site stop run new k x is at here left made put =
    one_more site stop run new x is
    (subst (λ ms. IsPermutation run.left.items (x ∷ ms)) (sym left)
    (IsPermutation-swap_remove run.left.items k x at.there here))
    made (ap (is_fit run.rooms.entries) here ∙ at.fit x) put

-- ---- how many steps are left

pub fewer_by : (n a b : ℕ) → b ≡ 1 + a + n → n < b
fewer_by n a b h = omega arith

pub fewer_made : (stop : Option Data) (left new : List Move) (k : ℕ) (x : Move)
    → k < length left → x ≡ get_or left k x → new ≡ swap_remove left k x
    → steps_of stop new < steps_of stop left
fewer_made stop left new k x less here is =
    let weight = λ (m : Move). 1 + cond (is_some (to_stop stop (move_line m).1)) 1 0 in
    fewer_by (steps_of stop new) (cond (is_some (to_stop stop (move_line x).1)) 1 0) (steps_of stop left)
    (sym (sum_by-IsPermutation weight left (x ∷ new)
    (subst (λ ms. IsPermutation left (x ∷ ms)) (sym is) (IsPermutation-swap_remove left k x less here)))
    ∙ sum_by-cons weight x new)
