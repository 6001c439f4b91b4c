-- The site of a plan: what is known of its moves, and the rooms before all of them.
use Rattle.std.proofs.Common.{◌≡◌, ℕ, suc, ◌-ℤ◌, Bool, true, false, not, ◌&&◌, ◌||◌, ◌==◌, cond, if◌then◌else◌, List, [], ◌∷◌, ◌++◌, Option, Some, None, Less, map, filter, option_map, is_eq, is_some, bytes_eq, refl, sym, ap, ◌∙◌, subst, arith, length}
use Rattle.std.specs.Prelude.{All}
use Rattle.std.specs.Ordering.{ordering_reverse}
use Rattle.std.specs.List.{AllByRecursion}
use Rattle.std.specs.List.Sorted.{IsStrictlySortedBy}
use Rattle.std.proofs.lemmas.List.Elements.{All-nil, All-cons}
use Rattle.serde_json.specs.Data.{Data, null, boolean, number, string, array, object, Items}
use Rattle.serde_json.specs.Find.{as_array, as_str}
use Rattle.view_leaves.specs.Ascending.{IsAscending, paths}
use Rattle.view_leaves.specs.Leaves.{PathLeaf}
use Rattle.view_leaves.specs.Paths.{Path, path_cmp}
use Rattle.view_leaves.specs.Spelling.{path_text}
use Rattle.view_leaves.proofs.PathOrder.{path_total}
use Rattle.view_picture.specs.Mentions.{is_named, has_word, guests}
use Rattle.view_picture.specs.Parts.{parts}
use Rattle.view_picture.specs.Picture.{PictureLoad, PictureSize, carried, load_of, number_at, total}
use Rattle.view_plan.specs.Changes.{PlanChange, Added, Removed, Changed, Members, change_by, fits, same_value}
use Rattle.view_plan.specs.Words.{Words, words_of, lacking}
use Rattle.view_plan.specs.Plan.{PlanLine, found_at, change_at, line_path, IsPlan}
use Rattle.view_steps.specs.Moves.{is_single, is_plain, are_plain, from_word, to_word, is_word, refers_to}
use Rattle.view_steps.specs.Rooms.{room_of, rooms, load_room, first_rooms}
use Rattle.view_steps.specs.Runs.{IsSite, all_back}
use Rattle.view_steps.specs.Steps.{Site, is_among, waits, standing, spelled}
use Rattle.view_steps.specs.Views.{move_line, move_path, IsSized, IsMove}
use Rattle.view_steps.specs.declared.moves.Move.{Move}
use Rattle.view_steps.proofs.OrderLaws.{lines_paths, same_word, word_itself}
use Rattle.view_steps.proofs.RoomLaws.{contrary, rooms_back}
use Rattle.view_steps.proofs.Standing.{is_itself}

-- ---- lines that ascend

all_filter_by : (P : Path → Type 0) (t : PlanLine → Bool) (b : Bool) (l : PlanLine)
    (ls : List PlanLine) → P l.0 → AllByRecursion P (map line_path (filter t ls))
    → AllByRecursion P (map line_path (cond b (l ∷ filter t ls) (filter t ls)))
all_filter_by P t true l ls h more = (h, more)
all_filter_by P t false l ls h more = more

all_filter : (P : Path → Type 0) (t : PlanLine → Bool) (ls : List PlanLine)
    → AllByRecursion P (map line_path ls) → AllByRecursion P (map line_path (filter t ls))
all_filter P t [] h = tt
all_filter P t (l ∷ ls) h = all_filter_by P t (t l) l ls h.0 (all_filter P t ls h.1)

ascends_by : (t : PlanLine → Bool) (b : Bool) (l : PlanLine) (ls : List PlanLine)
    → AllByRecursion (λ q. path_cmp l.0 q ≡ Less) (map line_path (filter t ls))
    → IsAscending (map line_path (filter t ls))
    → IsAscending (map line_path (cond b (l ∷ filter t ls) (filter t ls)))
unfolding IsStrictlySortedBy
ascends_by t true l ls h more = (h, more)
ascends_by t false l ls h more = more

filter_ascends : (t : PlanLine → Bool) (ls : List PlanLine) → IsAscending (map line_path ls)
    → IsAscending (map line_path (filter t ls))
unfolding IsStrictlySortedBy
filter_ascends t [] h = h
filter_ascends t (l ∷ ls) h =
    ascends_by t (t l) l ls (all_filter (λ q. path_cmp l.0 q ≡ Less) t ls h.0)
    (filter_ascends t ls h.1)

is_after : (p q : Path) → path_cmp p q ≡ Less → is_eq (path_cmp q p) ≡ false
is_after p q h = ap is_eq (path_total.antisymm q p ∙ ap ordering_reverse h)

-- ---- each line is what is found at its path

abbrev IsFound : List PlanLine → PlanLine → Type 0
IsFound ls l = found_at l.0 ls ≡ Some l.1

found_behind : (l : PlanLine) (ls xs : List PlanLine)
    → AllByRecursion (λ q. path_cmp l.0 q ≡ Less) (map line_path xs)
    → AllByRecursion (IsFound ls) xs → AllByRecursion (IsFound (l ∷ ls)) xs
found_behind l ls [] h k = tt
found_behind l ls (x ∷ xs) h k =
    (rw (is_after l.0 x.0 h.0) k.0, found_behind l ls xs h.1 k.1)

pub lines_found : (ls : List PlanLine) → IsAscending (map line_path ls)
    → AllByRecursion (IsFound ls) ls
unfolding IsStrictlySortedBy
lines_found [] h = tt
lines_found (l ∷ ls) h =
    (rw (is_itself l.0) refl, found_behind l ls ls h.0 (lines_found ls h.1))

-- ---- what a change says

single_word : (e : Data) → is_single e ≡ true → (w : List ℕ) → has_word w e ≡ is_word (as_str e) w
single_word null h w = refl
single_word (boolean b) h w = refl
single_word (number n) h w = refl
single_word (string s) h w = refl
single_word (array ds) h w = absurd cc
single_word (object ms) h w = refl

words_apart : (s t w : List ℕ) → bytes_eq s t ≡ false → bytes_eq w t ≡ true
    → (b : Bool) → bytes_eq w s ≡ b → b ≡ false
words_apart s t w fails to true from =
    let same : s ≡ t = sym (same_word w s from) ∙ same_word w t to in
    absurd (contrary (bytes_eq s t) fails (ap (λ x. bytes_eq s x) (sym same) ∙ word_itself s))
words_apart s t w fails to false from = refl

apart_words : (d e : Data) → same_value d e ≡ false → (w : List ℕ)
    → is_word (as_str e) w ≡ true → is_word (as_str d) w ≡ false
apart_words null e h w to = refl
apart_words (boolean b) e h w to = refl
apart_words (number n) e h w to = refl
apart_words (string s) null h w to = absurd cc
apart_words (string s) (boolean b) h w to = absurd cc
apart_words (string s) (number n) h w to = absurd cc
apart_words (string s) (string t) h w to = words_apart s t w h to (bytes_eq w s) refl
apart_words (string s) (array ds) h w to = absurd cc
apart_words (string s) (object ms) h w to = absurd cc
apart_words (array ds) e h w to = refl
apart_words (object ms) e h w to = refl

-- what is known of a change of one leaf
pub record IsShift (before behind : Option Data) (c : PlanChange) : Type 0 where
  pub former : (w : List ℕ) → refers_to w before ≡ is_word (from_word c) w
  pub new : (w : List ℕ) → refers_to w behind ≡ is_word (to_word c) w
  pub apart : (w : List ℕ) → is_word (to_word c) w ≡ true → is_word (from_word c) w ≡ false

some_same : (b c : PlanChange) → ◌≡◌ {A = Option PlanChange} (Some b) (Some c) → b ≡ c
some_same b c h = cc

both_first : (a b : Bool) → (a && b) ≡ true → a ≡ true
both_first true b h = refl
both_first false b h = absurd cc

both_second : (a b : Bool) → (a && b) ≡ true → b ≡ true
both_second true b h = h
both_second false b h = absurd cc

added_shift : (e : Data) → is_single e ≡ true → IsShift None (Some e) (Added e)
added_shift e plain = record {
  former = λ w. refl;
  new = λ w. single_word e plain w;
  apart = λ w h. refl;
}

removed_shift : (d : Data) → is_single d ≡ true → IsShift (Some d) None (Removed d)
removed_shift d plain = record {
  former = λ w. single_word d plain w;
  new = λ w. refl;
  apart = λ w h. absurd cc;
}

changed_shift : (d e : Data) → (is_single d && is_single e) ≡ true → same_value d e ≡ false
    → IsShift (Some d) (Some e) (Changed d e)
changed_shift d e plain fails = record {
  former = λ w. single_word d (both_first (is_single d) (is_single e) plain) w;
  new = λ w. single_word e (both_second (is_single d) (is_single e) plain) w;
  apart = λ w h. apart_words d e fails w h;
}

by_same : (d e : Data) (c : PlanChange) (b : Bool) → same_value d e ≡ b
    → (if b then None else Some (Changed d e)) ≡ Some c → is_plain c ≡ true
    → IsShift (Some d) (Some e) c
by_same d e c true fails h plain = absurd cc
by_same d e c false fails h plain =
    let is = some_same (Changed d e) c h in
    subst (IsShift (Some d) (Some e)) is
    (changed_shift d e (ap is_plain is ∙ plain) fails)

no_members : (b : Bool) (added taken : Words) (both : Bool) (c : PlanChange)
    → ◌≡◌ {A = Option PlanChange} (if b then None else Some (Members added taken both)) (Some c)
    → is_plain c ≡ true → ⊥
no_members true added taken both c h plain = absurd cc
no_members false added taken both c h plain =
    let is = some_same (Members added taken both) c h in
    contrary (is_plain c) (sym (ap is_plain is)) plain

not_single : (d : Data) (ds : Items) → Some ds ≡ as_array d → is_single d ≡ false
not_single d ds h = ap (λ o. not (is_some o)) (sym h)

by_arrays : (d e : Data) (c : PlanChange) (o p : Option Items) → o ≡ as_array d → p ≡ as_array e
    → change_by o p d e ≡ Some c → is_plain c ≡ true → IsShift (Some d) (Some e) c
by_arrays d e c (Some ds) (Some es) k l h plain =
    absurd (no_members ((length (lacking (words_of [] es) (words_of [] ds)) == 0) && (length (lacking (words_of [] ds) (words_of [] es)) == 0))
    (lacking (words_of [] es) (words_of [] ds)) (lacking (words_of [] ds) (words_of [] es))
    (fits ds es) c h plain)
by_arrays d e c (Some ds) None k l h plain =
    let is = some_same (Changed d e) c h in
    absurd (contrary (is_single d) (not_single d ds k)
    (both_first (is_single d) (is_single e) (ap is_plain is ∙ plain)))
by_arrays d e c None (Some es) k l h plain =
    let is = some_same (Changed d e) c h in
    absurd (contrary (is_single e) (not_single e es l)
    (both_second (is_single d) (is_single e) (ap is_plain is ∙ plain)))
by_arrays d e c None None k l h plain = by_same d e c (same_value d e) refl h plain

by_change : (x y : Option Data) (c : PlanChange) → change_at x y ≡ Some c → is_plain c ≡ true
    → IsShift x y c
by_change None None c h plain = absurd cc
by_change None (Some e) c h plain =
    let is = some_same (Added e) c h in
    subst (IsShift None (Some e)) is (added_shift e (ap is_plain is ∙ plain))
by_change (Some d) None c h plain =
    let is = some_same (Removed d) c h in
    subst (IsShift (Some d) None) is (removed_shift d (ap is_plain is ∙ plain))
by_change (Some d) (Some e) c h plain =
    by_arrays d e c (as_array d) (as_array e) refl refl h plain

-- ---- the moves of a plan

abbrev IsLine : List PathLeaf → List PathLeaf → PlanLine → Type 0
IsLine old new l = change_at (found_at l.0 old) (found_at l.0 new) ≡ Some l.1

found_filter_by : (P : PlanLine → Type 0) (t : PlanLine → Bool) (b : Bool) (l : PlanLine)
    (ls : List PlanLine) → P l → AllByRecursion P (filter t ls)
    → AllByRecursion P (cond b (l ∷ filter t ls) (filter t ls))
found_filter_by P t true l ls h more = (h, more)
found_filter_by P t false l ls h more = more

found_filter : (P : PlanLine → Type 0) (t : PlanLine → Bool) (ls : List PlanLine)
    → AllByRecursion P ls → AllByRecursion P (filter t ls)
found_filter P t [] h = tt
found_filter P t (l ∷ ls) h = found_filter_by P t (t l) l ls h.0 (found_filter P t ls h.1)

are_lines : (old new : List PathLeaf) (lines ls : List PlanLine) → IsPlan old new lines
    → AllByRecursion (IsFound lines) ls → AllByRecursion (IsLine old new) ls
are_lines old new lines [] plan h = tt
are_lines old new lines (l ∷ ls) plan h =
    (sym (plan.each l.0) ∙ h.0, are_lines old new lines ls plan h.1)

plain_first : (l : PlanLine) (ls : List PlanLine) → are_plain (l ∷ ls) ≡ true → is_plain l.1 ≡ true
plain_first l ls h = both_first (is_plain l.1) (are_plain ls) h

plain_rest : (l : PlanLine) (ls : List PlanLine) → are_plain (l ∷ ls) ≡ true → are_plain ls ≡ true
plain_rest l ls h = both_second (is_plain l.1) (are_plain ls) h

move_by : (site : Site) (m : Move) → IsSized site.whole site.attribute site.sizes m
    → IsShift (found_at (move_path m) site.old) (found_at (move_path m) site.new) (move_line m).1
    → IsMove site m
move_by site m sized shift = record {
  sized = sized;
  former = shift.former;
  new = shift.new;
  apart = shift.apart;
}

all_tail : {X : Type 0} (P : X → Type 0) (x : X) (xs : List X) → All P (x ∷ xs) → All P xs
all_tail P x xs h = λ k d less. h (suc k) d (omega arith)

all_head : {X : Type 0} (P : X → Type 0) (x : X) (xs : List X) → All P (x ∷ xs) → P x
all_head P x xs h = h 0 x (omega arith)

are_moves : (site : Site) (ms : List Move)
    → All (IsSized site.whole site.attribute site.sizes) ms
    → AllByRecursion (IsLine site.old site.new) (map move_line ms)
    → are_plain (map move_line ms) ≡ true → All (IsMove site) ms
are_moves site [] h k plain = All-nil (IsMove site)
are_moves site (m ∷ ms) h k plain =
    All-cons (IsMove site) m ms
    (move_by site m (all_head (IsSized site.whole site.attribute site.sizes) m ms h)
    (by_change (found_at (move_path m) site.old) (found_at (move_path m) site.new) (move_line m).1
    k.0 (plain_first (move_line m) (map move_line ms) plain)))
    (are_moves site ms (all_tail (IsSized site.whole site.attribute site.sizes) m ms h) k.1
    (plain_rest (move_line m) (map move_line ms) plain))

pub site_moves : (site : Site) (lines : List PlanLine) (ms : List Move)
    → site.moves ≡ filter (λ (l : PlanLine). is_named site.attribute l.0) lines
    → map move_line ms ≡ site.moves → IsPlan site.old site.new lines
    → All (IsSized site.whole site.attribute site.sizes) ms
    → are_plain (map move_line ms) ≡ true → All (IsMove site) ms
site_moves site lines ms e same plan sized plain =
    are_moves site ms sized
    (subst (AllByRecursion (IsLine site.old site.new)) (sym (same ∙ e))
    (found_filter (IsLine site.old site.new) (λ (l : PlanLine). is_named site.attribute l.0) lines
    (are_lines site.old site.new lines lines plan (lines_found lines plan.ascending))))
    plain

pub site_is : (site : Site) (lines : List PlanLine)
    → site.moves ≡ filter (λ (l : PlanLine). is_named site.attribute l.0) lines
    → IsPlan site.old site.new lines → IsAscending (paths site.old) → IsAscending (paths site.new)
    → IsSite site
site_is site lines e plan old new = record {
  old = old;
  new = new;
  moves = subst (λ ls. IsAscending (map line_path ls)) (sym e)
      (filter_ascends (λ (l : PlanLine). is_named site.attribute l.0) lines plan.ascending);
}

-- ---- behind all the moves, all stands as in the new configuration

filter_none : {X : Type 0} (t : X → Bool) (xs : List X) → ((x : X) → t x ≡ false)
    → filter t xs ≡ []
filter_none t [] h = refl
filter_none t (x ∷ xs) h = rw (h x) (filter_none t xs h)

filter_all : {X : Type 0} (t : X → Bool) (xs : List X) → ((x : X) → t x ≡ true)
    → filter t xs ≡ xs
filter_all t [] h = refl
filter_all t (x ∷ xs) h = rw (h x) (ap (λ ys. x ∷ ys) (filter_all t xs h))

not_itself : (b : Bool) → (b && not b) ≡ false
not_itself true = refl
not_itself false = refl

none_waits : (site : Site) (made : List Path)
    → ((p : Path) → is_among (map line_path site.moves) p ≡ is_among made p) → (p : Path)
    → waits site made p ≡ false
none_waits site made h p =
    ap (λ b. b && not (is_among made p)) (h p) ∙ not_itself (is_among made p)

pub stands_new : (site : Site) (made : List Path)
    → ((p : Path) → is_among (map line_path site.moves) p ≡ is_among made p)
    → standing site made ≡ site.new
stands_new site made h =
    ap (λ ls. ls ++ filter (λ (l : PathLeaf). not (waits site made l.0)) site.new)
    (filter_none (λ (l : PathLeaf). waits site made l.0) site.old (λ l. none_waits site made h l.0))
    ∙ filter_all (λ (l : PathLeaf). not (waits site made l.0)) site.new
    (λ l. ap not (none_waits site made h l.0))

load_room_new : (site : Site) (made : List Path) (w : List ℕ) (p : Path) (s : PictureSize)
    → standing site made ≡ site.new → path_text p ≡ w
    → load_room (load_of site.whole p (guests site.attribute (path_text p) site.new) s)
    ≡ room_of site made w p s
load_room_new site made w p s all here =
    ap (λ x. option_map (λ c. c -ℤ total site.whole s.name (guests site.attribute x site.new)) (number_at site.whole s.capacity p)) here
    ∙ ap (λ ls. option_map (λ c. c -ℤ total site.whole s.name (guests site.attribute w ls)) (number_at site.whole s.capacity p)) (sym all)

load_rooms_new : (site : Site) (made : List Path) (w : List ℕ) (p : Path) (ss : List PictureSize)
    → standing site made ≡ site.new → path_text p ≡ w
    → map load_room (map (load_of site.whole p (guests site.attribute (path_text p) site.new)) ss)
    ≡ map (room_of site made w p) ss
load_rooms_new site made w p [] all here = refl
load_rooms_new site made w p (s ∷ ss) all here =
    ap (λ r. r ∷ map load_room (map (load_of site.whole p (guests site.attribute (path_text p) site.new)) ss)) (load_room_new site made w p s all here)
    ∙ ap (λ rs. room_of site made w p s ∷ rs) (load_rooms_new site made w p ss all here)

abbrev pub scale_of : Site → Path → List ℕ × List PictureLoad
scale_of site p = carried site.whole site.attribute site.sizes site.new p

rooms_by_text : (site : Site) (made : List Path) (w : List ℕ) (b : Bool) (p : Path)
    (ps : List Path) → standing site made ≡ site.new → bytes_eq (path_text p) w ≡ b
    → first_rooms (map (scale_of site) ps) w
    ≡ option_map (λ q. map (room_of site made w q) site.sizes) (spelled ps w)
    → first_rooms (map (scale_of site) (p ∷ ps)) w
    ≡ option_map (λ q. map (room_of site made w q) site.sizes) (spelled (p ∷ ps) w)
rooms_by_text site made w true p ps all here more =
    rw here (ap (λ x. Some x) (load_rooms_new site made w p site.sizes all (same_word (path_text p) w here)))
rooms_by_text site made w false p ps all here more = rw here more

rooms_among : (site : Site) (made : List Path) (w : List ℕ) (ps : List Path)
    → standing site made ≡ site.new
    → first_rooms (map (scale_of site) ps) w
    ≡ option_map (λ q. map (room_of site made w q) site.sizes) (spelled ps w)
rooms_among site made w [] all = refl
rooms_among site made w (p ∷ ps) all =
    rooms_by_text site made w (bytes_eq (path_text p) w) p ps all refl
    (rooms_among site made w ps all)

pub rooms_new : (site : Site) (made : List Path) (w : List ℕ)
    → map line_path site.moves ≡ made
    → first_rooms (map (scale_of site) (parts site.new)) w ≡ rooms site made w
rooms_new site made w h =
    rooms_among site made w (parts site.new)
    (stands_new site made (λ p. ap (λ ps. is_among ps p) h))

-- ---- before all of them

either_true : (b : Bool) → (b || true) ≡ true
either_true true = refl
either_true false = refl

among_more : (p q : Path) (ps : List Path) → is_among ps p ≡ true → is_among (q ∷ ps) p ≡ true
among_more p q ps h = rw h (either_true (is_eq (path_cmp q p)))

all_among_more : (q : Path) (ps xs : List Path) → AllByRecursion (λ p. is_among ps p ≡ true) xs
    → AllByRecursion (λ p. is_among (q ∷ ps) p ≡ true) xs
all_among_more q ps [] h = tt
all_among_more q ps (x ∷ xs) h = (among_more x q ps h.0, all_among_more q ps xs h.1)

all_among : (ps : List Path) → AllByRecursion (λ p. is_among ps p ≡ true) ps
all_among [] = tt
all_among (p ∷ ps) = (rw (is_itself p) refl, all_among_more p ps ps (all_among ps))

not_behind : (p : Path) (ps : List Path) → AllByRecursion (λ q. path_cmp p q ≡ Less) ps
    → is_among ps p ≡ false
not_behind p [] h = refl
not_behind p (q ∷ ps) h = rw (is_after p q h.0) (not_behind p ps h.1)

pub back_to_start : (site : Site) (ms : List Move) (w : List ℕ) → IsSite site
    → All (IsMove site) ms
    → AllByRecursion (λ p. is_among (map line_path site.moves) p ≡ true) (map move_path ms)
    → IsAscending (map move_path ms)
    → all_back ms w (rooms site (map move_path ms) w) ≡ rooms site [] w
unfolding IsStrictlySortedBy
back_to_start site [] w is each among ascends = refl
back_to_start site (m ∷ ms) w is each among ascends =
    let made = map move_path ms in
    let here : waits site made (move_path m) ≡ true = rw among.0 (rw (not_behind (move_path m) made ascends.0) refl) in
    ap (all_back ms w) (sym (rooms_back site made m w is (all_head (IsMove site) m ms each) here))
    ∙ back_to_start site ms w is (all_tail (IsMove site) m ms each) among.1 ascends.1

pub rooms_old : (site : Site) (ms : List Move) (w : List ℕ) → IsSite site
    → All (IsMove site) ms → map move_line ms ≡ site.moves
    → all_back ms w (rooms site (map move_path ms) w) ≡ rooms site [] w
rooms_old site ms w is each same =
    let these : map move_path ms ≡ map line_path site.moves = sym (lines_paths ms) ∙ ap (map line_path) same in
    back_to_start site ms w is each
    (subst (AllByRecursion (λ p. is_among (map line_path site.moves) p ≡ true)) (sym these) (all_among (map line_path site.moves)))
    (subst IsAscending (sym these) is.moves)
