-- What one step changes of the rooms, and when it fits.
use Rattle.std.proofs.Common.{◌≡◌, ℕ, ℤ, pos, ◌+ℤ◌, ◌-ℤ◌, Bool, true, false, not, ◌&&◌, ◌||◌, cond, List, [], ◌∷◌, Option, Some, None, map, option_map, option_and_then, filter, is_eq, refl, sym, ap, ◌∙◌, arith}
use Rattle.std.specs.Prelude.{int_le}
use Rattle.std.specs.List.{list_all}
use Rattle.std.proofs.lemmas.Int.{ints}
use Rattle.view_leaves.specs.Leaves.{PathLeaf}
use Rattle.view_leaves.specs.Paths.{Path, path_cmp}
use Rattle.view_picture.specs.Mentions.{owner}
use Rattle.view_picture.specs.Parts.{parts}
use Rattle.view_picture.specs.Picture.{PictureSize, amount, number_at}
use Rattle.view_plan.specs.Plan.{found_at, line_path}
use Rattle.view_steps.specs.Moves.{turned}
use Rattle.view_steps.specs.Rooms.{Room, rooms, allowed, taken, all_allowed, all_taken, some_allowed, some_taken}
use Rattle.view_steps.specs.Runs.{IsSite, put_by}
use Rattle.view_steps.specs.Steps.{Site, is_among, waits, load, spelled, capacity, bears}
use Rattle.view_steps.specs.Views.{move_path, goes_from, goes_to, IsMove}
use Rattle.view_steps.specs.declared.moves.Move.{Move}
use Rattle.view_steps.proofs.Standing.{is_itself, sum_append, sum_where, where_more, weight_named}

pub contrary : (b : Bool) → b ≡ false → b ≡ true → ⊥
contrary true h k = absurd cc
contrary false h k = absurd cc

pub none_first : (a b : Bool) → (a || b) ≡ false → a ≡ false
none_first true b h = absurd cc
none_first false b h = refl

pub none_second : (a b : Bool) → (a || b) ≡ false → b ≡ false
none_second true b h = absurd cc
none_second false b h = h

-- ---- one move and one load

pub agree : (site : Site) (made : List Path) (p q : Path) → is_eq (path_cmp p q) ≡ false
    → waits site made q ≡ waits site (p ∷ made) q
agree site made p q h = rw h refl

none_of : (b : Bool) → (b && false) ≡ false
none_of true = refl
none_of false = refl

pub moved : (site : Site) (made : List Path) (p : Path) → waits site (p ∷ made) p ≡ false
moved site made p = rw (is_itself p) (none_of (is_among (map line_path site.moves) p))

added : (a b c n f g : ℤ) → a ≡ f +ℤ b → n ≡ g +ℤ c
    → b +ℤ n ≡ (a +ℤ c) +ℤ (g -ℤ f)
added a b c n f g h k = omega (arith, ints)

pub load_step : (site : Site) (made : List Path) (m : Move) (w : List ℕ) (s : PictureSize)
    → IsSite site → IsMove site m → waits site made (move_path m) ≡ true
    → load site (move_path m ∷ made) w s
    ≡ load site made w s +ℤ
    (cond (goes_to m w) (amount site.whole s.name (owner (move_path m))) (pos 0) -ℤ
    cond (goes_from m w) (amount site.whole s.name (owner (move_path m))) (pos 0))
load_step site made m w s is move here =
    let d = site.whole in
    let a = site.attribute in
    let p = move_path m in
    let t = waits site made in
    let u = waits site (p ∷ made) in
    let size = amount d s.name (owner p) in
    let sum = sum_where d s.name a w in
    let old : sum t site.old ≡ cond (goes_from m w) size (pos 0) +ℤ sum u site.old =
    where_more d s.name a w t u p site.old is.old here (moved site made p) (agree site made p)
    ∙ ap (λ n. n +ℤ sum u site.old) (weight_named d s.name a w p (found_at p site.old) move.sized.named
    ∙ ap (λ b. cond b size (pos 0)) (move.former w)) in
    let new : sum (λ q. not (u q)) site.new ≡ cond (goes_to m w) size (pos 0) +ℤ sum (λ q. not (t q)) site.new =
    where_more d s.name a w (λ q. not (u q)) (λ q. not (t q)) p site.new is.new
    (ap not (moved site made p)) (ap not here) (λ q h. ap not (sym (agree site made p q h)))
    ∙ ap (λ n. n +ℤ sum (λ q. not (t q)) site.new) (weight_named d s.name a w p (found_at p site.new) move.sized.named
    ∙ ap (λ b. cond b size (pos 0)) (move.new w)) in
    sum_append d s.name a w (filter (λ (l : PathLeaf). u l.0) site.old) (filter (λ (l : PathLeaf). not (u l.0)) site.new)
    ∙ added (sum t site.old) (sum u site.old) (sum (λ q. not (t q)) site.new)
    (sum (λ q. not (u q)) site.new) (cond (goes_from m w) size (pos 0))
    (cond (goes_to m w) size (pos 0)) old new
    ∙ ap (λ n. n +ℤ (cond (goes_to m w) size (pos 0) -ℤ cond (goes_from m w) size (pos 0)))
    (sym (sum_append d s.name a w (filter (λ (l : PathLeaf). t l.0) site.old) (filter (λ (l : PathLeaf). not (t l.0)) site.new)))

-- ---- rooms by loads

-- the room of a part, and the rooms of a word, by the loads of a holder
abbrev pub room_by : Site → (PictureSize → ℤ) → Path → PictureSize → Room
room_by site f p size = option_map (λ c. c -ℤ f size) (number_at site.whole size.capacity p)

abbrev pub rooms_by : Site → (PictureSize → ℤ) → List ℕ → Option (List Room)
rooms_by site f w = option_map (λ p. map (room_by site f p) site.sizes) (spelled (parts site.new) w)

less_by : (c l k v : ℤ) → k ≡ l +ℤ v → c -ℤ k ≡ (c -ℤ l) -ℤ v
less_by c l k v h = omega (arith, ints)

taken_by : (o : Option ℤ) (l k v : ℤ) → k ≡ l +ℤ v
    → option_map (λ c. c -ℤ k) o ≡ taken (option_map (λ c. c -ℤ l) o) v
taken_by None l k v h = refl
taken_by (Some c) l k v h = ap (λ x. Some x) (less_by c l k v h)

all_taken_by : (ss : List PictureSize) (f g : PictureSize → Room) (h : PictureSize → ℤ)
    → ((s : PictureSize) → g s ≡ taken (f s) (h s))
    → map g ss ≡ all_taken (map f ss) (map h ss)
all_taken_by [] f g h e = refl
all_taken_by (s ∷ ss) f g h e =
    ap (λ r. r ∷ map g ss) (e s)
    ∙ ap (λ rs. taken (f s) (h s) ∷ rs) (all_taken_by ss f g h e)

part_shift : (site : Site) (f g h : PictureSize → ℤ) (o : Option Path)
    → ((s : PictureSize) → g s ≡ f s +ℤ h s)
    → option_map (λ p. map (room_by site g p) site.sizes) o
    ≡ some_taken (option_map (λ p. map (room_by site f p) site.sizes) o) (map h site.sizes)
part_shift site f g h None e = refl
part_shift site f g h (Some p) e =
    ap (λ x. Some x) (all_taken_by site.sizes (room_by site f p) (room_by site g p) h
    (λ s. taken_by (number_at site.whole s.capacity p) (f s) (g s) (h s) (e s)))

-- rooms where each load has changed by so much
rooms_shift : (site : Site) (f g h : PictureSize → ℤ) (w : List ℕ)
    → ((s : PictureSize) → g s ≡ f s +ℤ h s)
    → rooms_by site g w ≡ some_taken (rooms_by site f w) (map h site.sizes)
rooms_shift site f g h w e = part_shift site f g h (spelled (parts site.new) w) e

rooms_alike : (ss : List PictureSize) (f g : PictureSize → Room)
    → ((s : PictureSize) → g s ≡ f s) → map g ss ≡ map f ss
rooms_alike [] f g e = refl
rooms_alike (s ∷ ss) f g e = ap (λ r. r ∷ map g ss) (e s) ∙ ap (λ rs. f s ∷ rs) (rooms_alike ss f g e)

part_alike : (site : Site) (f g : PictureSize → ℤ) (o : Option Path)
    → ((s : PictureSize) → g s ≡ f s)
    → option_map (λ p. map (room_by site g p) site.sizes) o
    ≡ option_map (λ p. map (room_by site f p) site.sizes) o
part_alike site f g None e = refl
part_alike site f g (Some p) e =
    ap (λ x. Some x) (rooms_alike site.sizes (room_by site f p) (room_by site g p)
    (λ s. ap (λ l. option_map (λ c. c -ℤ l) (number_at site.whole s.capacity p)) (e s)))

rooms_same : (site : Site) (f g : PictureSize → ℤ) (w : List ℕ)
    → ((s : PictureSize) → g s ≡ f s)
    → rooms_by site g w ≡ rooms_by site f w
rooms_same site f g w e = part_alike site f g (spelled (parts site.new) w) e

-- ---- what fits

le_by : (c l k v : ℤ) → k ≡ l +ℤ v → int_le k c ≡ int_le v (c -ℤ l)
le_by c l k v h = grind (arith, ints)

le_before : (l k v : ℤ) → k ≡ l +ℤ v → int_le k l ≡ int_le v (pos 0)
le_before l k v h = grind (arith, ints)

bears_by : (o : Option ℤ) (l k v : ℤ) → k ≡ l +ℤ v
    → bears o l k ≡ allowed (option_map (λ c. c -ℤ l) o) v
bears_by None l k v h = refl
bears_by (Some c) l k v h =
    ap (λ b. b || int_le k l) (le_by c l k v h)
    ∙ ap (λ b. int_le v (c -ℤ l) || b) (le_before l k v h)

all_true : {X : Type 0} (ss : List X) (p : X → Bool) → ((s : X) → p s ≡ true)
    → list_all p ss ≡ true
all_true [] p h = refl
all_true (s ∷ ss) p h = rw (h s) (all_true ss p h)

all_by : (ss : List PictureSize) (p : PictureSize → Bool) (f : PictureSize → Room)
    (h : PictureSize → ℤ) → ((s : PictureSize) → p s ≡ allowed (f s) (h s))
    → list_all p ss ≡ all_allowed (map f ss) (map h ss)
all_by [] p f h e = refl
all_by (s ∷ ss) p f h e =
    ap (λ b. b && list_all p ss) (e s)
    ∙ ap (λ b. allowed (f s) (h s) && b) (all_by ss p f h e)

-- whether a holder bears a change of its loads
abbrev pub bears_change : Site → (PictureSize → ℤ) → (PictureSize → ℤ) → List ℕ → PictureSize → Bool
bears_change site f g w s = bears (capacity site w s) (f s) (g s)

abbrev by_part : Site → (PictureSize → ℤ) → (PictureSize → ℤ) → Option Path → PictureSize → Bool
by_part site f g o s =
    bears (option_and_then (number_at site.whole s.capacity) o) (f s) (g s)

part_bears : (site : Site) (f g h : PictureSize → ℤ) (o : Option Path)
    → ((s : PictureSize) → g s ≡ f s +ℤ h s)
    → list_all (by_part site f g o) site.sizes
    ≡ some_allowed (option_map (λ q. map (room_by site f q) site.sizes) o) (map h site.sizes)
part_bears site f g h None e = all_true site.sizes (by_part site f g None) (λ s. refl)
part_bears site f g h (Some q) e =
    all_by site.sizes (by_part site f g (Some q)) (room_by site f q) h
    (λ s. bears_by (number_at site.whole s.capacity q) (f s) (g s) (h s) (e s))

-- whether a holder bears what changes each of its loads by so much
bears_shift : (site : Site) (f g h : PictureSize → ℤ) (w : List ℕ)
    → ((s : PictureSize) → g s ≡ f s +ℤ h s)
    → list_all (bears_change site f g w) site.sizes
    ≡ some_allowed (rooms_by site f w) (map h site.sizes)
bears_shift site f g h w e = part_bears site f g h (spelled (parts site.new) w) e

le_itself : (l k : ℤ) → k ≡ l → int_le k l ≡ true
le_itself l k h = grind (arith, ints)

either_way : (b : Bool) → (b || true) ≡ true
either_way true = refl
either_way false = refl

bears_same : (o : Option ℤ) (l k : ℤ) → k ≡ l → bears o l k ≡ true
bears_same None l k h = refl
bears_same (Some c) l k h = ap (λ b. int_le k c || b) (le_itself l k h) ∙ either_way (int_le k c)

bears_still : (site : Site) (f g : PictureSize → ℤ) (w : List ℕ)
    → ((s : PictureSize) → g s ≡ f s)
    → list_all (bears_change site f g w) site.sizes ≡ true
bears_still site f g w e =
    all_true site.sizes (bears_change site f g w)
    (λ s. bears_same (capacity site w s) (f s) (g s) (e s))

-- ---- one step and the rooms

minus_by : (l v : ℤ) → l +ℤ (v -ℤ pos 0) ≡ l +ℤ v
minus_by l v = omega (arith, ints)

minus_none : (l : ℤ) → l +ℤ (pos 0 -ℤ pos 0) ≡ l
minus_none l = omega (arith, ints)

turned_by : (ss : List PictureSize) (h : PictureSize → ℤ)
    → turned (map h ss) ≡ map (λ s. pos 0 -ℤ h s) ss
turned_by [] h = refl
turned_by (s ∷ ss) h = ap (λ vs. (pos 0 -ℤ h s) ∷ vs) (turned_by ss h)

-- a holder's loads before a step and behind it, by whether the step goes there and whether it comes
-- from there, of a guest of these sizes
pub record IsShifted (to from : Bool) (size f g : PictureSize → ℤ) : Type 0 where
  pub by : (s : PictureSize) → g s ≡ f s +ℤ (cond to (size s) (pos 0) -ℤ cond from (size s) (pos 0))
  pub apart : to ≡ true → from ≡ false

loads_to : (from : Bool) (size f g : PictureSize → ℤ) → IsShifted true from size f g
    → (s : PictureSize) → g s ≡ f s +ℤ size s
loads_to true size f g is s = absurd (contrary true (is.apart refl) refl)
loads_to false size f g is s = is.by s ∙ minus_by (f s) (size s)

loads_from : (size f g : PictureSize → ℤ) → IsShifted false true size f g
    → (s : PictureSize) → g s ≡ f s +ℤ (pos 0 -ℤ size s)
loads_from size f g is s = is.by s

loads_still : (size f g : PictureSize → ℤ) → IsShifted false false size f g
    → (s : PictureSize) → g s ≡ f s
loads_still size f g is s = is.by s ∙ minus_none (f s)

-- the sizes of a guest as they are kept
pub record AreSizes (site : Site) (size : PictureSize → ℤ) (more less : List ℤ) : Type 0 where
  pub more_is : more ≡ map size site.sizes
  pub less_is : less ≡ turned (map size site.sizes)

less_as : (site : Site) (size : PictureSize → ℤ) (more less : List ℤ) → AreSizes site size more less
    → map (λ s. pos 0 -ℤ size s) site.sizes ≡ less
less_as site size more less are = sym (turned_by site.sizes size) ∙ sym are.less_is

-- the rooms behind one more step
pub rooms_put : (site : Site) (size f g : PictureSize → ℤ) (more less : List ℤ) (w : List ℕ)
    (to from : Bool) → AreSizes site size more less → IsShifted to from size f g
    → rooms_by site g w ≡ put_by to from more less (rooms_by site f w)
rooms_put site size f g more less w true true are is = absurd (contrary true (is.apart refl) refl)
rooms_put site size f g more less w true false are is =
    rooms_shift site f g size w (loads_to false size f g is)
    ∙ ap (some_taken (rooms_by site f w)) (sym are.more_is)
rooms_put site size f g more less w false true are is =
    rooms_shift site f g (λ s. pos 0 -ℤ size s) w (loads_from size f g is)
    ∙ ap (some_taken (rooms_by site f w)) (less_as site size more less are)
rooms_put site size f g more less w false false are is =
    rooms_same site f g w (loads_still size f g is)

-- whether a holder bears a step, by whether it goes there and whether it comes from there
pub bears_to : (site : Site) (size f g : PictureSize → ℤ) (more less : List ℤ) (w : List ℕ)
    (from : Bool) → AreSizes site size more less → IsShifted true from size f g
    → list_all (bears_change site f g w) site.sizes ≡ some_allowed (rooms_by site f w) more
bears_to site size f g more less w from are is =
    bears_shift site f g size w (loads_to from size f g is)
    ∙ ap (some_allowed (rooms_by site f w)) (sym are.more_is)

pub bears_from : (site : Site) (size f g : PictureSize → ℤ) (more less : List ℤ) (w : List ℕ)
    → AreSizes site size more less → IsShifted false true size f g
    → list_all (bears_change site f g w) site.sizes ≡ some_allowed (rooms_by site f w) less
bears_from site size f g more less w are is =
    bears_shift site f g (λ s. pos 0 -ℤ size s) w (loads_from size f g is)
    ∙ ap (some_allowed (rooms_by site f w)) (less_as site size more less are)

pub bears_neither : (site : Site) (size f g : PictureSize → ℤ) (w : List ℕ)
    → IsShifted false false size f g
    → list_all (bears_change site f g w) site.sizes ≡ true
bears_neither site size f g w is = bears_still site f g w (loads_still size f g is)

-- ---- one move

-- the size of a move's guest
abbrev pub size_by : Site → Move → PictureSize → ℤ
size_by site m s = amount site.whole s.name (owner (move_path m))

pub move_sizes : (site : Site) (m : Move) → IsMove site m
    → AreSizes site (size_by site m) m.more.items m.less.items
move_sizes site m move = record { more_is = move.sized.more; less_is = move.sized.less }

pub move_shifts : (site : Site) (made : List Path) (m : Move) (w : List ℕ)
    → IsSite site → IsMove site m → waits site made (move_path m) ≡ true
    → IsShifted (goes_to m w) (goes_from m w) (size_by site m) (load site made w) (load site (move_path m ∷ made) w)
move_shifts site made m w is move here = record {
  by = λ s. load_step site made m w s is move here;
  apart = move.apart w;
}

turned_step : (l k v u : ℤ) → k ≡ l +ℤ (v -ℤ u) → l ≡ k +ℤ (u -ℤ v)
turned_step l k v u h = omega (arith, ints)

other_way : (to from : Bool) → (to ≡ true → from ≡ false) → from ≡ true → to ≡ false
other_way true from h k = absurd (contrary from (h refl) k)
other_way false from h k = refl

-- the rooms before a move, from those behind it
pub rooms_back : (site : Site) (made : List Path) (m : Move) (w : List ℕ)
    → IsSite site → IsMove site m → waits site made (move_path m) ≡ true
    → rooms site made w
    ≡ put_by (goes_from m w) (goes_to m w) m.more.items m.less.items
    (rooms site (move_path m ∷ made) w)
rooms_back site made m w is move here =
    rooms_put site (size_by site m) (load site (move_path m ∷ made) w) (load site made w)
    m.more.items m.less.items w (goes_from m w) (goes_to m w) (move_sizes site m move)
    (record {
      by = λ s. turned_step (load site made w s) (load site (move_path m ∷ made) w s)
          (cond (goes_to m w) (size_by site m s) (pos 0)) (cond (goes_from m w) (size_by site m s) (pos 0))
          (load_step site made m w s is move here);
      apart = other_way (goes_to m w) (goes_from m w) (move.apart w);
    })
