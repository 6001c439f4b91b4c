-- The definition of quantifiers, over the values of the bodies alone; and parts that are made of
-- members one after the other.
use Rattle.std.proofs.Common.{◌≡◌, ℕ, ◌+◌, ◌<◌, Bool, true, false, not, ◌&&◌, ◌||◌, cond, List, [], ◌∷◌, ◌++◌, map, take, length, get_or, ℤ, pos, ◌+ℤ◌, refl, sym, ap, ◌∙◌, arith}
use Rattle.std.specs.Prelude.{count_by, filter}
use Rattle.std.specs.List.{list_all, list_any}
use Rattle.std.specs.Ordering.{int_eq}
use Rattle.std.proofs.lemmas.Int.{ints}
use Rattle.std.proofs.lemmas.List.{map-append, take_more}
use Rattle.std.proofs.lemmas.List.Elements.{filter-append}
use Rattle.std.proofs.lemmas.List.Sums.{sum_by-cons}
use Rattle.conf_syntax.specs.declared.tree.QuantKind.{QuantKind}
use Rattle.conf_syntax.specs.declared.tree.QuantKind.TheVariants as kind
use Rattle.form_build.specs.Forms.{truth_at}
use Rattle.conf_eval.specs.declared.value.Value.{Value}
use Rattle.conf_eval.specs.declared.value.Value.TheVariants.{Int, Truth}
use Rattle.conf_eval.specs.Meaning.{Item, int_of, first_of, item_of, total, all_differ, fits_all, all_true, quantified}
use Rattle.expr_forms.specs.declared.form.Member.{Member}
use Rattle.expr_forms.specs.declared.form.Slot.{Slot}
use Rattle.expr_forms.specs.FormValues.{members_at, cell_for, owned_at}
use Rattle.quantifier_forms.specs.declared.part.Part.{Part}
use Rattle.quantifier_forms.specs.PartValues.{body_values, kept_values, over_values}
use Rattle.quantifier_forms.specs.Quantified.{compares_members}

-- ---- the definition

module _ (keeps : ℕ → Bool) (bodies : ℕ → List Value) where
  all_step : (b : Bool) (x : ℕ) (ys : List ℕ) (r : Bool) → r ≡ list_all all_true (map bodies ys) → ((not b || all_true (bodies x)) && r) ≡ list_all all_true (map bodies (cond b (x ∷ ys) ys))
  all_step true x ys r e = ap (λ (z : Bool). all_true (bodies x) && z) e
  all_step false x ys r e = e

  all_over : (xs : List ℕ) → list_all (λ x. not (keeps x) || all_true (bodies x)) xs ≡ list_all all_true (map bodies (filter keeps xs))
  all_over [] = refl
  all_over (x ∷ xs) = all_step (keeps x) x (filter keeps xs) (list_all (λ y. not (keeps y) || all_true (bodies y)) xs) (all_over xs)

  any_step : (b : Bool) (x : ℕ) (ys : List ℕ) (r : Bool) → r ≡ list_any all_true (map bodies ys) → ((b && all_true (bodies x)) || r) ≡ list_any all_true (map bodies (cond b (x ∷ ys) ys))
  any_step true x ys r e = ap (λ (z : Bool). all_true (bodies x) || z) e
  any_step false x ys r e = e

  any_over : (xs : List ℕ) → list_any (λ x. keeps x && all_true (bodies x)) xs ≡ list_any all_true (map bodies (filter keeps xs))
  any_over [] = refl
  any_over (x ∷ xs) = any_step (keeps x) x (filter keeps xs) (list_any (λ y. keeps y && all_true (bodies y)) xs) (any_over xs)

  total_step : (b : Bool) (x : ℕ) (ys : List ℕ) (r : ℤ) → r ≡ total (map (λ vs. int_of (first_of vs)) (map bodies ys)) → (cond b (int_of (first_of (bodies x))) (pos 0) +ℤ r) ≡ total (map (λ vs. int_of (first_of vs)) (map bodies (cond b (x ∷ ys) ys)))
  total_step true x ys r e = ap (λ (z : ℤ). int_of (first_of (bodies x)) +ℤ z) e
  total_step false x ys r e = omega (arith, ints, e)

  total_over : (xs : List ℕ) → total (map (λ x. cond (keeps x) (int_of (first_of (bodies x))) (pos 0)) xs) ≡ total (map (λ vs. int_of (first_of vs)) (map bodies (filter keeps xs)))
  total_over [] = refl
  total_over (x ∷ xs) = total_step (keeps x) x (filter keeps xs) (total (map (λ y. cond (keeps y) (int_of (first_of (bodies y))) (pos 0)) xs)) (total_over xs)

  count_step : (b : Bool) (x : ℕ) (ys : List ℕ) (r : ℕ) → r ≡ count_by all_true (map bodies ys) → (cond (b && all_true (bodies x)) 1 0 + r) ≡ count_by all_true (map bodies (cond b (x ∷ ys) ys))
  count_step true x ys r e = ap (λ (z : ℕ). cond (all_true (bodies x)) 1 0 + z) e ∙ sym (sum_by-cons (λ vs. cond (all_true vs) 1 0) (bodies x) (map bodies ys))
  count_step false x ys r e = omega (arith, e)

  count_over : (xs : List ℕ) → count_by (λ x. keeps x && all_true (bodies x)) xs ≡ count_by all_true (map bodies (filter keeps xs))
  count_over [] = refl
  count_over (x ∷ xs) =
      sum_by-cons (λ y. cond (keeps y && all_true (bodies y)) 1 0) x xs
      ∙ count_step (keeps x) x (filter keeps xs) (count_by (λ y. keeps y && all_true (bodies y)) xs) (count_over xs)

  -- without a filter
  kept_all : (xs : List ℕ) → ((x : ℕ) → keeps x ≡ true) → filter keeps xs ≡ xs
  kept_all [] h = refl
  kept_all (x ∷ xs) h = ap (λ (b : Bool). cond b (x ∷ filter keeps xs) (filter keeps xs)) (h x) ∙ ap (λ (ys : List ℕ). x ∷ ys) (kept_all xs h)

  each_over : {Y : Type 0} (f : List Value → Y) (xs : List ℕ) → ((x : ℕ) → keeps x ≡ true) → map (λ x. f (bodies x)) xs ≡ map f (map bodies (filter keeps xs))
  each_over f xs h = both f xs ∙ ap (λ (ys : List ℕ). map f (map bodies ys)) (sym (kept_all xs h))
    where
      both : {Y : Type 0} (f : List Value → Y) (xs : List ℕ) → map (λ x. f (bodies x)) xs ≡ map f (map bodies xs)
      both f [] = refl
      both f (x ∷ xs) = ap (λ (ys : List _). f (bodies x) ∷ ys) (both f xs)

  -- a quantifier is one over the values of the bodies at the members that meet the filter; one that
  -- compares its members has no filter
  pub quantified_over : (q : QuantKind) (xs : List ℕ) → (compares_members q ≡ true → (x : ℕ) → keeps x ≡ true) → quantified q xs keeps bodies ≡ over_values q (map bodies (filter keeps xs))
  quantified_over kind.Forall xs h = ap (λ (b : Bool). Truth b) (all_over xs)
  quantified_over kind.Exists xs h = ap (λ (b : Bool). Truth b) (any_over xs)
  quantified_over kind.Sum xs h = ap (λ (v : ℤ). Int v) (total_over xs)
  quantified_over kind.Count xs h = ap (λ (n : ℕ). Int (pos n)) (count_over xs)
  quantified_over kind.AllDifferent xs h = ap (λ (vs : List Value). Truth (all_differ vs)) (each_over first_of xs (h refl))
  quantified_over kind.Pack xs h = ap (λ (is : List Item). Truth (fits_all is is)) (each_over item_of xs (h refl))

-- the same of every filter: a quantifier that compares its members looks at none
pub quantified_always : (keeps : ℕ → Bool) (bodies : ℕ → List Value) (q : QuantKind) (xs : List ℕ) → quantified q xs keeps bodies ≡ over_values q (map bodies (filter (λ x. compares_members q || keeps x) xs))
quantified_always keeps bodies kind.Forall xs = quantified_over keeps bodies kind.Forall xs (λ e. absurd cc)
quantified_always keeps bodies kind.Exists xs = quantified_over keeps bodies kind.Exists xs (λ e. absurd cc)
quantified_always keeps bodies kind.Sum xs = quantified_over keeps bodies kind.Sum xs (λ e. absurd cc)
quantified_always keeps bodies kind.Count xs = quantified_over keeps bodies kind.Count xs (λ e. absurd cc)
quantified_always keeps bodies kind.AllDifferent xs = quantified_over (λ x. true) bodies kind.AllDifferent xs (λ e x. refl)
quantified_always keeps bodies kind.Pack xs = quantified_over (λ x. true) bodies kind.Pack xs (λ e x. refl)

-- ---- parts of members, one after the other

grown : (b : Bool) (vs : List Value) (vss wss : List (List Value)) → cond b (vs ∷ (vss ++ wss)) (vss ++ wss) ≡ cond b (vs ∷ vss) vss ++ wss
grown true vs vss wss = refl
grown false vs vss wss = refl

pub kept_values-append : (ps qs : List Part) (a : List ℤ) → kept_values (ps ++ qs) a ≡ kept_values ps a ++ kept_values qs a
kept_values-append [] qs a = refl
kept_values-append (p ∷ ps) qs a =
    ap (λ (vss : List (List Value)). cond (truth_at p.kept a) (body_values p a ∷ vss) vss) (kept_values-append ps qs a)
    ∙ grown (truth_at p.kept a) (body_values p a) (kept_values ps a) (kept_values qs a)

-- a member, where it is one
abbrev pub member_where : Bool → ℕ → List ℕ
member_where is x = cond is (x ∷ []) []

members_grown : (b : Bool) (x : ℕ) (xs ys : List ℕ) → cond b (x ∷ (xs ++ ys)) (xs ++ ys) ≡ cond b (x ∷ xs) xs ++ ys
members_grown true x xs ys = refl
members_grown false x xs ys = refl

pub members_more : (ms : List Member) (m : Member) (a : List ℤ) → members_at (ms ++ m ∷ []) a ≡ members_at ms a ++ member_where (truth_at m.is a) m.object
members_more [] m a = refl
members_more (n ∷ ms) m a =
    ap (λ (xs : List ℕ). cond (truth_at n.is a) (n.object ∷ xs) xs) (members_more ms m a)
    ∙ members_grown (truth_at n.is a) n.object (members_at ms a) (member_where (truth_at m.is a) m.object)

pub owned_more : (owner : ℕ) (ss : List Slot) (s : Slot) (a : List ℤ) → owned_at owner (ss ++ s ∷ []) a ≡ owned_at owner ss a ++ member_where (int_eq (cell_for owner s.cells.items a) (pos 1)) s.object
owned_more owner [] s a = refl
owned_more owner (r ∷ ss) s a =
    ap (λ (xs : List ℕ). cond (int_eq (cell_for owner r.cells.items a) (pos 1)) (r.object ∷ xs) xs) (owned_more owner ss s a)
    ∙ members_grown (int_eq (cell_for owner r.cells.items a) (pos 1)) r.object (owned_at owner ss a) (member_where (int_eq (cell_for owner s.cells.items a) (pos 1)) s.object)

module _ (keeps : ℕ → Bool) (bodies : ℕ → List Value) where
  -- what is kept of one member
  kept_one : (is : Bool) (x : ℕ) (t : Bool) (vs : List Value) → t ≡ (is && keeps x) → vs ≡ bodies x → cond t (vs ∷ []) [] ≡ map bodies (filter keeps (member_where is x))
  kept_one true x t vs e h = ap (λ (b : Bool). cond b (vs ∷ []) []) e ∙ by (keeps x)
    where
      by : (b : Bool) → cond b (vs ∷ []) [] ≡ map bodies (cond b (x ∷ []) [])
      by true = ap (λ (z : List Value). z ∷ []) h
      by false = refl
  kept_one false x t vs e h = ap (λ (b : Bool). cond b (vs ∷ []) []) e

  kept_none : (is : Bool) (x : ℕ) → (is && keeps x) ≡ false → map bodies (filter keeps (member_where is x)) ≡ []
  kept_none true x e = ap (λ (b : Bool). map bodies (cond b (x ∷ []) [])) e
  kept_none false x e = refl

  kept_append : (xs ys : List ℕ) → map bodies (filter keeps (xs ++ ys)) ≡ map bodies (filter keeps xs) ++ map bodies (filter keeps ys)
  kept_append xs ys = ap (map bodies) (filter-append keeps xs ys) ∙ map-append bodies (filter keeps xs) (filter keeps ys)

  -- with a part more for a member more: the part is kept where that is a member and meets the
  -- filter, and its bodies have their values at it
  pub kept_more : (ps : List Part) (p : Part) (a : List ℤ) (xs : List ℕ) (is : Bool) (x : ℕ) → truth_at p.kept a ≡ (is && keeps x) → body_values p a ≡ bodies x → kept_values ps a ≡ map bodies (filter keeps xs) → kept_values (ps ++ p ∷ []) a ≡ map bodies (filter keeps (xs ++ member_where is x))
  kept_more ps p a xs is x e h so_far =
      kept_values-append ps (p ∷ []) a
      ∙ ap (λ (vss : List (List Value)). vss ++ cond (truth_at p.kept a) (body_values p a ∷ []) []) so_far
      ∙ ap (λ (vss : List (List Value)). map bodies (filter keeps xs) ++ vss) (kept_one is x (truth_at p.kept a) (body_values p a) e h)
      ∙ sym (kept_append xs (member_where is x))

  -- without a part for a possible member that is none, or doesn't meet the filter
  pub kept_same : (ps : List Part) (a : List ℤ) (xs : List ℕ) (is : Bool) (x : ℕ) → (is && keeps x) ≡ false → kept_values ps a ≡ map bodies (filter keeps xs) → kept_values ps a ≡ map bodies (filter keeps (xs ++ member_where is x))
  kept_same ps a xs is x e so_far =
      so_far
      ∙ sym (none_behind (map bodies (filter keeps xs)))
      ∙ ap (λ (vss : List (List Value)). map bodies (filter keeps xs) ++ vss) (sym (kept_none is x e))
      ∙ sym (kept_append xs (member_where is x))
    where
      none_behind : (vss : List (List Value)) → vss ++ [] ≡ vss
      none_behind [] = refl
      none_behind (vs ∷ vss) = ap (λ (z : List (List Value)). vs ∷ z) (none_behind vss)

  members_same : (ms : List Member) (k : ℕ) (m : Member) (a : List ℤ) → k < length ms → m ≡ get_or ms k m → map bodies (filter keeps (members_at (take k ms) a ++ member_where (truth_at m.is a) m.object)) ≡ map bodies (filter keeps (members_at (take (k + 1) ms) a))
  members_same ms k m a lt e =
      ap (λ (xs : List ℕ). map bodies (filter keeps xs))
      (sym (members_more (take k ms) m a) ∙ ap (λ (ns : List Member). members_at ns a) (ap (λ (n : Member). take k ms ++ n ∷ []) e ∙ sym (take_more ms k m lt)))

  -- the same along a list of members
  pub kept_member : (ps : List Part) (p : Part) (a : List ℤ) (ms : List Member) (k : ℕ) (m : Member) → k < length ms → m ≡ get_or ms k m → truth_at p.kept a ≡ (truth_at m.is a && keeps m.object) → body_values p a ≡ bodies m.object → kept_values ps a ≡ map bodies (filter keeps (members_at (take k ms) a)) →
      kept_values (ps ++ p ∷ []) a ≡ map bodies (filter keeps (members_at (take (k + 1) ms) a))
  kept_member ps p a ms k m lt e is values so_far = kept_more ps p a (members_at (take k ms) a) (truth_at m.is a) m.object is values so_far ∙ members_same ms k m a lt e

  pub left_member : (ps : List Part) (a : List ℤ) (ms : List Member) (k : ℕ) (m : Member) → k < length ms → m ≡ get_or ms k m → (truth_at m.is a && keeps m.object) ≡ false → kept_values ps a ≡ map bodies (filter keeps (members_at (take k ms) a)) →
      kept_values ps a ≡ map bodies (filter keeps (members_at (take (k + 1) ms) a))
  left_member ps a ms k m lt e out so_far = kept_same ps a (members_at (take k ms) a) (truth_at m.is a) m.object out so_far ∙ members_same ms k m a lt e

  -- what the parts give once there is one for each member is what the quantifier is over
  pub quantified_kept : (q : QuantKind) (xs : List ℕ) (ps : List Part) (a : List ℤ) → (compares_members q ≡ true → (x : ℕ) → keeps x ≡ true) → kept_values ps a ≡ map bodies (filter keeps xs) → quantified q xs keeps bodies ≡ over_values q (kept_values ps a)
  quantified_kept q xs ps a h e = quantified_over keeps bodies q xs h ∙ ap (over_values q) (sym e)
