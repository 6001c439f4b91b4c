-- Hints for the cells of a leaf.
use Rattle.std.proofs.Common.{◌≡◌, Vec, Global, ℕ, zero, suc, ◌+◌, ◌-◌, ◌<◌, List, [], ◌∷◌, ◌++◌, Option, None, Some, Bool, cond, ℤ, length, map, refl, sym, ap, ◌∙◌, arith, drop, append_assoc, append-nil, ◌≤◌, pos}
use Rattle.std.specs.Prelude.{slice_get, slice_index_or, filter_map, replicate, is_some, option_map}
use Rattle.std.specs.List.{flat_map}
use Rattle.std.proofs.lemmas.List.{length-map}
use Rattle.std.proofs.lemmas.Option.{slice_get-get_or}
use Rattle.std.specs.Option.{option_map_or}
use Rattle.class_table.specs.declared.table.Resolved.{Resolved}
use Rattle.class_table.specs.declared.table.Resolved.TheVariants.{Span, Truth, Choice, One, Many, Ref, RefSet}
use Rattle.class_table.specs.Outline.{Outline}
use Rattle.class_table.specs.Sound.{IsSound}
use Rattle.object_alloc.specs.declared.object.Cell.{Cell}
use Rattle.object_alloc.specs.declared.object.Leaf.{Leaf}
use Rattle.object_alloc.specs.Cells.{cells, member_cells, leaf_cells, shape_cells}
use Rattle.object_alloc.specs.Groups.{own_cells}
use Rattle.object_alloc.specs.Leaves.{IsHeldLeaf}
use Rattle.object_alloc.specs.Own.{inside_of}
use Rattle.object_alloc.specs.Walk.{leaf, walk, leaves_in}
use Rattle.object_alloc.proofs.HeldLeaves.{leaf_held}
use Rattle.object_alloc.proofs.OwnLaws.{owned}
use Rattle.config_json.specs.declared.values.FormerValue.{FormerValue}
use Rattle.config_json.specs.declared.values.FormerValue.TheVariants as kept
use Rattle.config_json.specs.Former.{first_missing, former, leaf_hints, leaf_path}
use Rattle.config_json.specs.Marked.{element_at, marked, member_extent, numbers_of}
use Rattle.serde_json.specs.Data.{Data}

-- one cell further
pub none_next : (count cell : ℕ) (old now new : List (Option ℤ)) → cell < count → new ≡ now ++ None ∷ [] → now ++ replicate (count - cell) None ≡ old → new ++ replicate (count - (cell + 1)) None ≡ old
none_next count cell old now new h e i =
    let left : count - cell ≡ suc (count - (cell + 1)) = omega (arith, h) in
    ap (λ xs. xs ++ replicate (count - (cell + 1)) None) e ∙ append_assoc now (None ∷ []) (replicate (count - (cell + 1)) None) ∙ ap (λ n. now ++ replicate n None) (sym left) ∙ i

some_is : {X : Type 0} {a b : X} → Some a ≡ Some b → a ≡ b
some_is e = cc

abbrev element_of : Cell → Option ℕ
element_of x = x.element

-- the objects of cells that are told by their numbers
elements_read : (cs : List Cell) (ns : List ℕ) (xs : List Cell) → map (λ i. slice_get cs i) ns ≡ map Some xs → filter_map (element_at cs) ns ≡ filter_map element_of xs
elements_read cs [] [] e = refl
elements_read cs [] (x ∷ xs) e = cc
elements_read cs (n ∷ ns) [] e = cc
elements_read cs (n ∷ ns) (x ∷ xs) e =
    let first : slice_get cs n ≡ Some x = cc in
    let rest : map (λ i. slice_get cs i) ns ≡ map Some xs = cc in
    rw (first, elements_read cs ns xs rest) refl

member_elements : (l : Leaf) (ns : List ℕ) → filter_map element_of (member_cells l ns) ≡ ns
member_elements l [] = refl
member_elements l (n ∷ ns) = ap (λ ms. n ∷ ms) (member_elements l ns)

shape_elements : (o : Outline) (l : Leaf) (s : Resolved) → filter_map element_of (shape_cells o l s) ≡ member_extent o s
shape_elements o l (Span low high) = refl
shape_elements o l Truth = refl
shape_elements o l (Choice e) = refl
shape_elements o l (Ref c) = refl
shape_elements o l (RefSet c count) = member_elements l _
shape_elements o l (One c) = refl
shape_elements o l (Many c count) = refl

module _ (o : Outline) (l : Leaf) (sound : IsSound o) (held : IsHeldLeaf o l) where
  read : map (λ i. slice_get (cells o) i) (own_cells o l.owner l.attribute) ≡ map Some (leaf_cells o l)
  read = (owned o sound l.owner l.attribute held.variable held.owner held.has).cells ∙ ap (λ s. map Some (leaf_cells o (leaf (inside_of o l.owner) l.attribute s))) held.shape

  -- as many hints as cells
  pub own_count : length (own_cells o l.owner l.attribute) ≡ length (leaf_cells o l)
  own_count = sym (length-map (own_cells o l.owner l.attribute) (λ i. slice_get (cells o) i)) ∙ ap length read ∙ length-map (leaf_cells o l) Some

  -- the objects that a leaf's cells stand for
  pub own_elements : filter_map (element_at (cells o)) (own_cells o l.owner l.attribute) ≡ member_extent o l.shape
  own_elements = elements_read (cells o) (own_cells o l.owner l.attribute) (leaf_cells o l) read ∙ shape_elements o l l.shape

  -- the hints for the cells of a leaf with this former value
  abbrev pub with_hints : List (Option ℤ) → Option FormerValue → List (Option ℤ)
  with_hints old found = old ++ option_map_or (map Some) (option_map (numbers_of (member_extent o l.shape)) found) (replicate (length (leaf_cells o l)) None)

  pub members_pushed : (found : Option FormerValue) (marks : Vec Bool Global) (own : List ℕ) (flags : List Bool) (old new : List (Option ℤ)) → found ≡ Some (kept.Members marks) → own ≡ own_cells o l.owner l.attribute → flags ≡ marks.items → new ≡ old ++ map Some (marked (filter_map (element_at (cells o)) own) flags) → new ≡ with_hints old found
  members_pushed found marks own flags old new is own_is flags_are e =
      e ∙ ap (λ ns. old ++ map Some (marked ns flags)) (ap (filter_map (element_at (cells o))) own_is ∙ own_elements)
      ∙ ap (λ fs. old ++ map Some (marked (member_extent o l.shape) fs)) flags_are ∙ ap (with_hints old) (sym is)

  pub none_pushed : (found : Option FormerValue) (own : List ℕ) (count : ℕ) (old new : List (Option ℤ)) → found ≡ None → own ≡ own_cells o l.owner l.attribute → count ≡ length own → new ≡ old ++ replicate count None → new ≡ with_hints old found
  none_pushed found own count old new is own_is count_is e =
      e ∙ ap (λ n. old ++ replicate n None) (count_is ∙ ap length own_is ∙ own_count) ∙ ap (with_hints old) (sym is)

-- Leaves one by one

abbrev pub some_leaf : Leaf
some_leaf = record { owner = None; attribute = 0; shape = Span (pos 0) (pos 0) }

drop_at : {X : Type 0} (xs : List X) (k : ℕ) (d : X) → k < length xs → drop k xs ≡ slice_index_or xs k d ∷ drop (k + 1) xs
drop_at [] k d h = absurd (omega (arith, h))
drop_at (x ∷ xs) zero d h = refl
drop_at (x ∷ xs) (suc k) d h = let next : suc (k + 1) ≡ suc k + 1 = omega arith in drop_at xs k d (omega (arith, h)) ∙ ap (λ i. slice_index_or xs k d ∷ drop i (x ∷ xs)) next

drop_all : {X : Type 0} (xs : List X) (k : ℕ) → length xs ≤ k → drop k xs ≡ []
drop_all [] zero h = refl
drop_all [] (suc k) h = refl
drop_all (x ∷ xs) zero h = absurd (omega (arith, h))
drop_all (x ∷ xs) (suc k) h = drop_all xs k (omega (arith, h))

module _ {X Y : Type 0} (f : X → List Y) (xs : List X) (k : ℕ) where
  -- with one more
  pub all_next : (d : X) (now new all : List Y) → k < length xs → new ≡ now ++ f (slice_index_or xs k d) → now ++ flat_map f (drop k xs) ≡ all → new ++ flat_map f (drop (k + 1) xs) ≡ all
  all_next d now new all h e i =
      ap (λ ys. ys ++ flat_map f (drop (k + 1) xs)) e ∙ append_assoc now (f (slice_index_or xs k d)) (flat_map f (drop (k + 1) xs)) ∙ ap (λ ys. now ++ flat_map f ys) (sym (drop_at xs k d h)) ∙ i

  -- with all
  pub all_done : (now all : List Y) → length xs ≤ k → now ++ flat_map f (drop k xs) ≡ all → now ≡ all
  all_done now all h i = sym (append-nil now) ∙ ap (λ ys. now ++ flat_map f ys) (sym (drop_all xs k h)) ∙ i

-- a leaf of the list is one of the model
pub leaf_at : (o : Outline) (ls : List Leaf) (k : ℕ) (d : Leaf) → ls ≡ leaves_in (walk o) → k < length ls → IsHeldLeaf o (slice_index_or ls k d)
leaf_at o ls k d is h = leaf_held o k (slice_index_or ls k d) (ap (λ xs. slice_get xs k) (sym is) ∙ slice_get-get_or ls k d h)

-- the hints for the cells of a leaf are those of its former value
pub hints_made :
    (o : Outline) (d : Data) (l : Leaf) (found : Option FormerValue) (old new : List (Option ℤ))
    → option_map (numbers_of (member_extent o l.shape)) found ≡ former o d l
    → new ≡ old
    ++ option_map_or (map Some) (option_map (numbers_of (member_extent o l.shape)) found)
    (replicate (length (leaf_cells o l)) None)
    → new ≡ old ++ leaf_hints o d l
hints_made o d l found old new is e =
    e ∙ ap (λ v. old ++ option_map_or (map Some) v (replicate (length (leaf_cells o l)) None)) is

-- the first leaf without a former value, among those that are left
pub missing_here : (o : Outline) (d : Data) (ls : List Leaf) (k : ℕ) (e : Leaf) (found : Option FormerValue) (path : List ℕ) → k < length ls → found ≡ None → option_map (numbers_of (member_extent o (slice_index_or ls k e).shape)) found ≡ former o d (slice_index_or ls k e) → path ≡ leaf_path o (slice_index_or ls k e) → Some path ≡ first_missing o d (drop k ls)
missing_here o d ls k e found path h none value is =
    ap Some is
    ∙ sym (ap (first_missing o d) (drop_at ls k e h) ∙ ap (λ v. cond (is_some v) (first_missing o d (drop (k + 1) ls)) (Some (leaf_path o (slice_index_or ls k e)))) (sym value ∙ ap (option_map (numbers_of (member_extent o (slice_index_or ls k e).shape))) none))

pub missing_none : (o : Outline) (d : Data) (ls : List Leaf) (k : ℕ) → length ls ≤ k → None ≡ first_missing o d (drop k ls)
missing_none o d ls k h = sym (ap (first_missing o d) (drop_all ls k h))
