-- Constraints that stand whole: their variables have the values of parts that are kept in any case,
-- and they stand in what the problem grows to.
use Rattle.std.proofs.Common.{◌≡◌, ℕ, ◌≤ℤ◌, ◌^◌, Bool, true, cond, List, [], ◌∷◌, map, ℤ, pos, Contains, length, refl, sym, ap, ◌∙◌, subst, arith}
use Rattle.std.specs.List.{All}
use Rattle.std.proofs.lemmas.Int.{ints}
use Rattle.std.proofs.lemmas.List.{length-map}
use Rattle.std.proofs.lemmas.List.Elements.{All-map, All-head, All-tail, Contains-append_left}
use Rattle.signed_clause.specs.Ranges.{Ranges}
use Rattle.signed_clause.specs.Clauses.{Boxes}
use Rattle.ground_form.specs.declared.con.Con.{Con}
use Rattle.ground_form.specs.declared.con.Con.TheVariants.{AllDiff, Pack}
use Rattle.ground_form.specs.declared.ground.Ground.{Ground}
use Rattle.ground_form.specs.Meaning.{value_of}
use Rattle.ground_form.specs.Bounds.{low_of, high_of, LiesWithin, size_sum, IsPackBounded}
use Rattle.ground_build.specs.Growing.{AreItemVariables}
use Rattle.form_build.specs.declared.form.Truth.{Truth}
use Rattle.form_build.specs.declared.form.Truth.TheVariants as truth
use Rattle.form_build.specs.Forms.{truth_at}
use Rattle.form_build.specs.Worlds.{IsWorld, Grows}
use Rattle.form_build.proofs.Growth.{world_before, box_kept}
use Rattle.conf_eval.specs.declared.value.Value.{Value}
use Rattle.quantifier_forms.specs.declared.part.Part.{Part}
use Rattle.quantifier_forms.specs.PartValues.{body_values, kept_values}
use Rattle.pairwise_forms.specs.declared.members.Keyed.{Keyed}
use Rattle.pairwise_forms.specs.declared.members.Packed.{Packed}
use Rattle.pairwise_forms.specs.Clashing.{kept_key, part_key, AreKeyed}
use Rattle.pairwise_forms.specs.Packing.{Seen, seen_item, seen_part, AreItems}
use Rattle.pairwise_forms.specs.Rows.{row_values, item_values, AreRows}
use Rattle.pairwise_forms.specs.Wholes.{AreKept, first_key, item_numbers, HasDifferent, HasPacking, HasItems}
use Rattle.pairwise_forms.proofs.LoadSteps.{mapped_back}
use Rattle.pairwise_forms.proofs.WholeLaws.{rows_there}

-- ---- what is kept in any case

all_kept : {X : Type 0} (f : X → Truth) (xs : List X) (ps : List Part) → map f xs ≡ map (λ (p : Part). p.kept) ps → AreKept ps → All (λ x. f x ≡ truth.Fixed true) xs
all_kept f xs ps e h =
    mapped_back (λ (t : Truth). t ≡ truth.Fixed true) f xs
    (subst (All (λ (t : Truth). t ≡ truth.Fixed true)) (sym e) (All-map (λ (t : Truth). t ≡ truth.Fixed true) (λ (p : Part). p.kept) ps h))

pub kept_members : (g : Ground) (ps : List Part) (es : List Keyed) → AreKeyed g ps es → AreKept ps → All (λ (e : Keyed). e.kept ≡ truth.Fixed true) es
kept_members g ps es are h = all_kept (λ (e : Keyed). e.kept) es ps are.kept h

pub kept_items : (g : Ground) (ps : List Part) (es : List Packed) → AreItems g ps es → AreKept ps → All (λ (e : Packed). e.kept ≡ truth.Fixed true) es
kept_items g ps es are h = all_kept (λ (e : Packed). e.kept) es ps are.kept h

as_many : {X : Type 0} (f : X → Truth) (xs : List X) (ps : List Part) → map f xs ≡ map (λ (p : Part). p.kept) ps → length xs ≡ length ps
as_many f xs ps e = sym (length-map xs f) ∙ ap length e ∙ length-map ps (λ (p : Part). p.kept)

pub member_count : (g : Ground) (ps : List Part) (es : List Keyed) → AreKeyed g ps es → length es ≡ length ps
member_count g ps es are = as_many (λ (e : Keyed). e.kept) es ps are.kept

-- all bodies' values
kept_all : (ps : List Part) (a : List ℤ) → AreKept ps → kept_values ps a ≡ map (λ (p : Part). body_values p a) ps
kept_all [] a h = refl
kept_all (p ∷ ps) a h =
    ap (λ (t : Truth). cond (truth_at t a) (body_values p a ∷ kept_values ps a) (kept_values ps a)) (All-head (λ (q : Part). q.kept ≡ truth.Fixed true) p ps h)
    ∙ ap (λ (vss : List (List Value)). body_values p a ∷ vss) (kept_all ps a (All-tail (λ (q : Part). q.kept ≡ truth.Fixed true) p ps h))

map_twice : {X Y Z : Type 0} (f : Y → Z) (g : X → Y) (xs : List X) → map f (map g xs) ≡ map (λ x. f (g x)) xs
map_twice f g [] = refl
map_twice f g (x ∷ xs) = ap (λ ys. f (g x) ∷ ys) (map_twice f g xs)

-- ---- values that differ

keys_seen : (g : Ground) (ps : List Part) (es : List Keyed) (a : List ℤ) → AreKeyed g ps es → AreKept ps → IsWorld g a → map (λ x. value_of a x) (map (λ (e : Keyed). e.key) es) ≡ map first_key (kept_values ps a)
keys_seen g ps es a are h w =
    map_twice (λ x. value_of a x) (λ (e : Keyed). e.key) es
    ∙ sym (map_twice (λ (z : Bool × ℤ). z.1) (λ (e : Keyed). kept_key e a) es)
    ∙ ap (map (λ (z : Bool × ℤ). z.1)) (are.seen a w)
    ∙ map_twice (λ (z : Bool × ℤ). z.1) (λ (p : Part). part_key p a) ps
    ∙ sym (map_twice first_key (λ (p : Part). body_values p a) ps)
    ∙ ap (map first_key) (sym (kept_all ps a h))

pub different_whole : (mid new : Ground) (ps : List Part) (es fs : List Keyed) → Grows mid new → AreKeyed mid ps es → fs ≡ es → AreKept ps → Contains new.cons (AllDiff (map (λ (e : Keyed). e.key) fs)) → HasDifferent new (length ps) (λ a. Unit {0}) (λ a. kept_values ps a)
different_whole mid new ps es fs g are same h stands = record {
  vars = map (λ (e : Keyed). e.key) es;
  stands = subst (λ (xs : List Keyed). Contains new.cons (AllDiff (map (λ (e : Keyed). e.key) xs))) same stands;
  count = length-map es (λ (e : Keyed). e.key) ∙ member_count mid ps es are;
  values = λ a w u. keys_seen mid ps es a are h (world_before mid new a g w);
}

pub different_still : (old new : Ground) (n : ℕ) (P Q : List ℤ → Type 0) (vs ws : List ℤ → List (List Value)) → Grows old new → ((a : List ℤ) → IsWorld new a → Q a → P a) → ((a : List ℤ) → IsWorld new a → Q a → vs a ≡ ws a) → HasDifferent old n P vs → HasDifferent new n Q ws
different_still old new n P Q vs ws g only same h = record {
  vars = h.vars;
  stands = subst (λ (cs : List Con). Contains cs (AllDiff h.vars)) (sym g.cons) (Contains-append_left old.cons g.added (AllDiff h.vars) h.stands);
  count = h.count;
  values = λ a w q. h.values a (world_before old new a g w) (only a w q) ∙ ap (map first_key) (same a w q);
}

-- ---- packings

size_same : (old new : Ground) (rows : List (ℕ × ℕ × ℕ)) → Grows old new → All (AreItemVariables old) rows → size_sum rows new.domains ≡ size_sum rows old.domains
size_same old new [] g h = refl
size_same old new (r ∷ rows) g h =
    let there = All-head (AreItemVariables old) r rows h in
    let one = ap high_of (box_kept old new r.1 g there.1) in
    let rest = size_same old new rows g (All-tail (AreItemVariables old) r rows h) in
    omega (arith, ints, one, rest)

-- numbers that are bounded where the problem has grown were so before
bounded_before : (old new : Ground) (rows : List (ℕ × ℕ × ℕ)) → Grows old new → All (AreItemVariables old) rows → IsPackBounded rows new.domains → IsPackBounded rows old.domains
bounded_before old new rows g h b = record {
  places = λ k d lt. subst (λ (z : Ranges). LiesWithin (pos 0) (pos 9999) z) (box_kept old new _ g (h k d lt).0) (b.places k d lt);
  sizes = λ k d lt. subst (λ (z : Ranges). pos 0 ≤ℤ low_of z) (box_kept old new _ g (h k d lt).1) (b.sizes k d lt);
  total = subst (λ (v : ℤ). v ≤ℤ pos (2 ^ 60)) (size_same old new rows g h) b.total;
}

pub bounded_there : (old new : Ground) (rows all : List (ℕ × ℕ × ℕ)) (boxes : Boxes) → Grows old new → All (AreItemVariables old) rows → all ≡ rows → boxes ≡ old.domains → IsPackBounded rows new.domains → IsPackBounded all boxes
bounded_there old new rows all boxes g h same is b =
    subst (IsPackBounded all) (sym is) (subst (λ (z : List (ℕ × ℕ × ℕ)). IsPackBounded z old.domains) (sym same) (bounded_before old new rows g h b))

pub items_stand : (mid new : Ground) (es : List Packed) (rows : List (ℕ × ℕ × ℕ)) → Grows mid new → AreRows mid es rows → (IsPackBounded rows new.domains → Contains new.cons (Pack rows)) → HasItems new es
items_stand mid new es rows g are stands = record {
  rows = rows;
  are = record { exist = rows_there mid new rows g are.exist; count = are.count; seen = λ a w. are.seen a (world_before mid new a g w) };
  stands = stands;
}

abbrev three : Seen → ℤ × ℤ × ℤ
three s = (s.place, s.size, s.room)

items_seen : (g : Ground) (ps : List Part) (es : List Packed) (a : List ℤ) → AreItems g ps es → AreKept ps → IsWorld g a → map (λ (e : Packed). item_values e a) es ≡ map item_numbers (kept_values ps a)
items_seen g ps es a are h w =
    sym (map_twice three (λ (e : Packed). seen_item e a) es)
    ∙ ap (map three) (are.seen a w)
    ∙ map_twice three (λ (p : Part). seen_part p a) ps
    ∙ sym (map_twice item_numbers (λ (p : Part). body_values p a) ps)
    ∙ ap (map item_numbers) (sym (kept_all ps a h))

pub packing_whole : (mid new : Ground) (ps : List Part) (es fs : List Packed) → Grows mid new → AreItems mid ps es → fs ≡ es → AreKept ps → HasItems new fs → HasPacking new (length ps) (λ a. Unit {0}) (λ a. kept_values ps a)
packing_whole mid new ps es fs g are same h has =
    let them : HasItems new es = subst (HasItems new) same has in
    record {
      items = them.rows;
      exist = them.are.exist;
      stands = them.stands;
      count = them.are.count ∙ as_many (λ (e : Packed). e.kept) es ps are.kept;
      values = λ a w u. them.are.seen a w ∙ items_seen mid ps es a are h (world_before mid new a g w);
    }

pub packing_still : (old new : Ground) (n : ℕ) (P Q : List ℤ → Type 0) (vs ws : List ℤ → List (List Value)) → Grows old new → ((a : List ℤ) → IsWorld new a → Q a → P a) → ((a : List ℤ) → IsWorld new a → Q a → vs a ≡ ws a) → HasPacking old n P vs → HasPacking new n Q ws
packing_still old new n P Q vs ws g only same h = record {
  items = h.items;
  exist = rows_there old new h.items g h.exist;
  stands = λ b. subst (λ (cs : List Con). Contains cs (Pack h.items)) (sym g.cons) (Contains-append_left old.cons g.added (Pack h.items) (h.stands (bounded_before old new h.items g h.exist b)));
  count = h.count;
  values = λ a w q. h.values a (world_before old new a g w) (only a w q) ∙ ap (map item_numbers) (same a w q);
}
