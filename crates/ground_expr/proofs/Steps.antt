-- From the forms of parts to the form of a node, with what was made on the way.
use Rattle.std.proofs.Common.{◌≡◌, ℕ, ◌^◌, Bool, true, false, not, ◌&&◌, ◌≤◌, List, [], ◌∷◌, ℤ, pos, neg_ℤ, ◌-ℤ◌, ◌≤ℤ◌, Option, None, Some, int_le, length, map, take, refl, sym, ap, ◌∙◌, subst, arith}
use Rattle.std.specs.Prelude.{unwrap_or, Contains}
use Rattle.std.specs.List.{All}
use Rattle.std.proofs.lemmas.List.{length-map}
use Rattle.std.proofs.lemmas.List.Elements.{All-nil, All-cons, All-head, All-tail}
use Rattle.std.proofs.lemmas.Bool.{and_parts}
use Rattle.std.proofs.lemmas.Int.{ints}
use Rattle.class_table.specs.Outline.{Outline}
use Rattle.class_table.specs.declared.table.Resolved.{Resolved}
use Rattle.conf_syntax.specs.declared.tree.Op.{Op}
use Rattle.conf_syntax.specs.declared.tree.QuantKind.{QuantKind}
use Rattle.conf_syntax.specs.declared.tree.QuantKind.TheVariants as kind
use Rattle.conf_types.specs.declared.types.ExprType.{ExprType}
use Rattle.conf_types.specs.declared.types.ExprType.TheVariants as type
use Rattle.conf_types.specs.Readings.{list_class}
use Rattle.conf_types.specs.Typing.{inside, within, tree_type, filter_fits, bodies_fit}
use Rattle.conf_types.specs.Trees.{Tree, Filter, Bodies}
use Rattle.conf_types.specs.TreeOf.{tree_of, quant_tree, optional_tree, trees_of}
use Rattle.conf_types.specs.declared.tree.RQuant as quant
use Rattle.conf_eval.proofs.EvalLaws.{quant_is}
use Rattle.conf_types.specs.Trees as tree
use Rattle.model_limits.specs.Limits.{most_width}
use Rattle.conf_limits.specs.Measures.{interval, body_interval, quantifier_interval, reach, is_near, is_narrow, narrow}
use Rattle.conf_limits.specs.declared.interval.Interval.{Interval}
use Rattle.conf_eval.specs.Meaning.{objects_of}
use Rattle.object_alloc.specs.Cells.{extent}
use Rattle.conf_eval.proofs.LawsNarrow.{narrow_interval}
use Rattle.conf_eval.proofs.LawsValues.{IsQuantifier, quantifier_typed}
use Rattle.signed_clause.specs.Clauses.{Boxes}
use Rattle.ground_form.specs.declared.ground.Ground.{Ground}
use Rattle.form_build.specs.declared.form.Linear.{Linear}
use Rattle.form_build.specs.declared.form.Truth.{Truth as ATruth}
use Rattle.form_build.specs.declared.form.Truth.TheVariants as truth
use Rattle.form_build.specs.Forms.{linear_at, truth_at, HasVariable}
use Rattle.form_build.specs.Sums.{least_linear, greatest_linear, LiesFrom, IsSum}
use Rattle.form_build.specs.Worlds.{IsWorld, IsInBoxes, Defines}
use Rattle.form_build.proofs.Growth.{adds_nothing, defines_more, world_before}
use Rattle.form_build.proofs.Linears.{sum_wider}
use Rattle.expr_forms.specs.declared.form.Choice.{Choice}
use Rattle.expr_forms.specs.declared.form.Choice.TheVariants as choice
use Rattle.expr_forms.specs.declared.form.Form.{Form}
use Rattle.expr_forms.specs.declared.form.Form.TheVariants as form
use Rattle.expr_forms.specs.declared.form.Listing.{Listing}
use Rattle.expr_forms.specs.declared.form.Member.{Member}
use Rattle.expr_forms.specs.FormBounds.{IsListing, IsFormOf, target_count, IsGroundForm}
use Rattle.expr_forms.specs.FormValues.{form_value, listing_at, members_at, number_part, truth_part}
use Rattle.expr_forms.specs.Standing.{IsStanding}
use Rattle.expr_forms.specs.FixedForms.{is_part, is_fixed_choice, is_fixed_list, is_fixed_form}
use Rattle.expr_forms.proofs.Growing.{ground_still}
use Rattle.expr_forms.proofs.Inside.{in_left, in_right}
use Rattle.reference_forms.specs.Dots.{IsDotForm}
use Rattle.quantifier_forms.specs.declared.part.Part.{Part}
use Rattle.ground_expr.specs.Bodies.{own_filter, values_over, IsPartOf, ArePartsOf, AreMembersOf}
use Rattle.pairwise_forms.specs.AlikeParts.{AreAlike, AreSizes}
use Rattle.ground_expr.specs.Chosen.{class_part, choice_part, slots_part}
use Rattle.ground_expr.specs.Known.{IsKnownForm}
use Rattle.identity_forms.specs.Lists.{slot_objects}
use Rattle.operator_forms.specs.Operating.{IsSide, AreOperands, IsOperated}
use Rattle.quantifier_forms.specs.Quantified.{AreParts, IsQuantified, compares_members}
use Rattle.ground_expr.specs.Usable.{IsUsable}
use Rattle.ground_expr.specs.Made.{IsMade}
use Rattle.ground_expr.specs.Fixed.{is_fixed_path}
use Rattle.ground_expr.proofs.Nodes.{paren_is, not_is, minus_is, pair_is, chosen_dot_is, fixed_dot_is, quant_form_is}
use Rattle.identity_forms.proofs.ListingLaws.{listing_objects, slots_counted}
use Rattle.ground_expr.proofs.NameForms.{no_this}
use Rattle.ground_expr.proofs.PartLaws.{form_usable, first_parts, parts_there, parts_alike, parts_sized}
use Rattle.ground_expr.proofs.Factors.{pair_factor}

at_most : (a b : ℤ) → int_le a b ≡ true → a ≤ℤ b
at_most a b h = grind (arith, ints)

-- the ends of a narrow interval
pub record AreNear (least most : ℤ) : Type 0 where
  pub low : neg_ℤ (pos (2 ^ 50)) ≤ℤ least
  pub high : most ≤ℤ pos (2 ^ 50)

pub near_ends : (o : Outline) (t : Tree) → narrow o t ≡ true → AreNear (interval o t).low (interval o t).high
near_ends o t n =
    let i = interval o t in
    let p = and_parts (is_near i.low) (is_near i.high) (narrow_interval o t n) in
    record {
      low = at_most (neg_ℤ (pos most_width)) i.low (and_parts (int_le (neg_ℤ (pos most_width)) i.low) (int_le i.low (pos most_width)) p.0).0;
      high = at_most i.high (pos most_width) (and_parts (int_le (neg_ℤ (pos most_width)) i.high) (int_le i.high (pos most_width)) p.1).1;
    }

-- ---- lists

object_class : {a b : ℕ} → Some a ≡ Some b → a ≡ b
object_class g = cc

all_mapped : (P : ℕ → Type 0) (ms : List Member) (xs : List ℕ) → map (λ (m : Member). m.object) ms ≡ xs → All P xs → All (λ (m : Member). P m.object) ms
all_mapped P [] xs e h = All-nil (λ (m : Member). P m.object)
all_mapped P (m ∷ ms) [] e h = cc
all_mapped P (m ∷ ms) (x ∷ xs) e h = All-cons (λ (n : Member). P n.object) m ms (subst P (sym (first_same e)) (All-head P x xs h)) (all_mapped P ms xs (rest_same e) (All-tail P x xs h))
  where
    first_same : {p q : ℕ} {rest more : List ℕ} → p ∷ rest ≡ q ∷ more → p ≡ q
    first_same g = cc

    rest_same : {p q : ℕ} {rest more : List ℕ} → p ∷ rest ≡ q ∷ more → rest ≡ more
    rest_same g = cc

slots_contained : (o : Outline) (boxes : Boxes) (ty : ExprType) (c : ℕ) (f : Form) → list_class (Some ty) ≡ Some c → IsFormOf o boxes ty f → All (Contains (extent o c)) (slots_part f)
slots_contained o boxes (type.Objects d) c (form.List l) e h = listing_objects o boxes c l (subst (λ (z : ℕ). IsListing o boxes z l) (object_class e) h)
slots_contained o boxes (type.Class d) c (form.List l) e h = listing_objects o boxes c l (subst (λ (z : ℕ). IsListing o boxes z l) (object_class e) h)
slots_contained o boxes type.Int c f e h = cc
slots_contained o boxes type.Truth c f e h = cc
slots_contained o boxes (type.Choice d) c f e h = cc
slots_contained o boxes (type.Object d) c f e h = cc
slots_contained o boxes ty c (form.Number f) e h = All-nil (Contains (extent o c))
slots_contained o boxes ty c (form.Truth t) e h = All-nil (Contains (extent o c))
slots_contained o boxes ty c (form.Choice d x) e h = All-nil (Contains (extent o c))
slots_contained o boxes ty c (form.Object d x) e h = All-nil (Contains (extent o c))

objects_in : (o : Outline) (boxes : Boxes) (t : Option ExprType) (c : ℕ) (f : Form) → list_class t ≡ Some c → ((ty : ExprType) → t ≡ Some ty → IsFormOf o boxes ty f) → (ms : List Member) → map (λ (m : Member). m.object) ms ≡ slots_part f → All (λ (m : Member). Contains (extent o c) m.object) ms
objects_in o boxes None c f e typed ms is = cc
objects_in o boxes (Some ty) c f e typed ms is = all_mapped (Contains (extent o c)) ms (slots_part f) is (slots_contained o boxes ty c f e (typed ty refl))

slots_count : (o : Outline) (f : Form) → length (slots_part f) ≤ target_count o f
slots_count o (form.List l) = let e = slots_counted l in omega (arith, e)
slots_count o (form.Number f) = omega arith
slots_count o (form.Truth t) = omega arith
slots_count o (form.Choice e c) = omega arith
slots_count o (form.Object d c) = omega arith

-- ---- what is fixed

never_fixed : (b : Bool) → false ≡ true → b ≡ true
never_fixed b e = cc

-- a form that is fixed is one object, whatever it is taken for
chosen_fixed : (f : Form) → is_fixed_form f ≡ true → is_fixed_choice (choice_part f) ≡ true
chosen_fixed (form.Object d c) h = h
chosen_fixed (form.Number f) h = refl
chosen_fixed (form.Truth t) h = refl
chosen_fixed (form.Choice e c) h = refl
chosen_fixed (form.List l) h = refl

pub not_fixed : (c : Choice) → ((n : ℕ) → c ≡ choice.Fixed n → ⊥) → is_fixed_choice c ≡ false
not_fixed (choice.Fixed n) h = absurd (h n refl)
not_fixed (choice.Cell x) h = refl
not_fixed (choice.Mapped x m) h = refl

module _ (o : Outline) (known : List (ℕ × ℤ)) (this : Option ℕ) (vars : List ℕ) where
  pub made_leaf : (g : Ground) (t : Tree) (f : Form) → IsGroundForm o g known t this vars f → (is_fixed_path t ≡ true → is_fixed_form f ≡ true) → IsMade o known g g t this vars f
  made_leaf g t f h p = record { form = h; adds = adds_nothing [] g; fixed = p }

  pub made_paren : (old new : Ground) (i : ℕ) (e : Tree) (f : Form) → IsMade o known old new e this vars f → IsMade o known old new (tree.Paren i e) this vars f
  made_paren old new i e f h = record { form = paren_is o new known this vars i e f h.form; adds = h.adds; fixed = h.fixed }

  pub made_not : (old new : Ground) (i : ℕ) (e : Tree) (f : Form) (u : ATruth) → IsMade o known old new e this vars f → HasVariable (length new.domains) u → ((a : List ℤ) → IsInBoxes new.domains a → truth_at u a ≡ not (truth_at (truth_part f) a)) → IsMade o known old new (tree.Not i e) this vars (form.Truth u)
  made_not old new i e f u h variable value = record { form = not_is o new known this vars i e f u h.form variable value; adds = h.adds; fixed = λ p. p }

  pub made_minus : (old mid new : Ground) (i : ℕ) (e : Tree) (f : Form) (z m r : Linear) → m ≡ number_part f → IsMade o known old mid e this vars f → ((a : List ℤ) → linear_at z a ≡ pos 0) → LiesFrom (pos 0) (pos 0) mid.domains z →
      ((a : List ℤ) → IsWorld new a → linear_at r a ≡ linear_at z a -ℤ linear_at m a) →
      IsSum new.domains (least_linear z mid.domains -ℤ greatest_linear m mid.domains) (greatest_linear z mid.domains -ℤ least_linear m mid.domains) r →
      Defines mid new → IsMade o known old new (tree.Minus i e) this vars (form.Number r)
  made_minus old mid new i e f z m r em h none lies value sum adds =
      let bounds = (subst (λ (y : Linear). IsSum mid.domains (interval o e).low (interval o e).high y) (sym em) h.form.form.number).lies in
      let low : neg_ℤ (interval o e).high ≤ℤ (least_linear z mid.domains -ℤ greatest_linear m mid.domains) = omega (arith, ints, lies.low_is, bounds.high_is) in
      let high : (greatest_linear z mid.domains -ℤ least_linear m mid.domains) ≤ℤ neg_ℤ (interval o e).low = omega (arith, ints, lies.high_is, bounds.low_is) in
      record {
        form = minus_is o new known this vars i e f r (ground_still o mid new known e this vars f adds.grows h.form) (sum_wider new.domains _ _ _ _ r low high sum)
            (λ a w. let v = value a w in let n = none a in let k = ap (λ (y : Linear). linear_at y a) em in omega (arith, ints, v, n, k));
        adds = defines_more old mid new h.adds adds;
        fixed = λ p. p;
      }

  pub made_at : (old new : Ground) (t x : Tree) (f : Form) → t ≡ x → IsMade o known old new x this vars f → IsMade o known old new t this vars f
  made_at old new t x f e h = subst (λ (z : Tree). IsMade o known old new z this vars f) (sym e) h

  -- the place of a quantifier is none of its meaning
  pub made_moved : (old new : Ground) (q : quant.RQuant) (i j : ℕ) (f : Form) → IsMade o known old new (quant_tree q i) this vars f → IsMade o known old new (quant_tree q j) this vars f
  made_moved old new q i j f h =
      let r = quant.out-RQuant q in
      subst (λ (z : Tree). IsMade o known old new z this vars f) (sym (quant_is q j))
      (anywhere r.kind (tree_of r.over) (optional_tree r.filter) (trees_of r.body.items) (subst (λ (z : Tree). IsMade o known old new z this vars f) (quant_is q i) h))
    where
      anywhere : (k : QuantKind) (over : Tree) (g : Filter) (bs : Bodies) → IsMade o known old new (tree.Quant i k over g bs) this vars f → IsMade o known old new (tree.Quant j k over g bs) this vars f
      anywhere k over g bs m = record {
        form = record {
          stands = m.form.stands;
          form = record { number = m.form.form.number; truth = m.form.form.truth; typed = m.form.form.typed; reached = m.form.form.reached };
        };
        adds = m.adds;
        fixed = m.fixed;
      }

  pub stand_at : (t x : Tree) → t ≡ x → IsStanding o t this vars → IsStanding o x this vars
  stand_at t x e h = subst (λ (z : Tree). IsStanding o z this vars) e h

  -- both sides of an operator, where both are made
  module _ (old one two : Ground) (i : ℕ) (q : Op) (l r : Tree) (f h : Form) (st : IsStanding o (tree.Pair i q l r) this vars) (left : IsMade o known old one l this vars f) (right : IsMade o known one two r this vars h) where
    left_two : IsGroundForm o two known l this vars f
    left_two = ground_still o one two known l this vars f right.adds.grows left.form

    left_side : IsSide two.domains (interval o l) f
    left_side = record { number = left_two.form.number; truth = left_two.form.truth }

    right_side : IsSide two.domains (interval o r) h
    right_side = record { number = right.form.form.number; truth = right.form.form.truth }

    pub left_usable : IsUsable two.domains f
    left_usable = form_usable o two known l this vars f (in_left o this vars i q l r st) left_two

    pub right_usable : IsUsable two.domains h
    right_usable = form_usable o two known r this vars h (in_right o this vars i q l r st) right.form

    pub operands : AreOperands two.domains q f h
    operands = record {
      left = interval o l;
      right = interval o r;
      left_is = left_side;
      right_is = right_side;
      narrow = narrow_interval o (tree.Pair i q l r) st.numbers;
      factor = pair_factor o i q l r st.place st.type st.typed;
    }

    pub made_pair : (new : Ground) (m : Form) → Defines two new → ((z : Outline) (a b : Interval) → IsSide two.domains a f → IsSide two.domains b h → IsOperated z new q a b f h m) → IsMade o known old new (tree.Pair i q l r) this vars m
    made_pair new m adds is = record {
      form = pair_is o new known this vars i q l r f h m (ground_still o two new known l this vars f adds.grows left_two) (ground_still o two new known r this vars h adds.grows right.form)
          (is o (interval o l) (interval o r) left_side right_side);
      adds = defines_more old two new (defines_more old one two left.adds right.adds) adds;
      fixed = never_fixed (is_fixed_form m);
    }

  -- an attribute of a chosen object
  pub made_dot : (old mid new : Ground) (i k : ℕ) (e : Tree) (s : Resolved) (f r : Form) → IsStanding o (tree.Dot i e k s) this vars → IsMade o known old mid e this vars f → Defines mid new → IsDotForm o new (class_part f) (choice_part f) k s r → is_fixed_choice (choice_part f) ≡ false → IsMade o known old new (tree.Dot i e k s) this vars r
  made_dot old mid new i k e s f r st inner adds h open_choice = record {
    form = chosen_dot_is o new known this vars i k e s f r st (ground_still o mid new known e this vars f adds.grows inner.form) h;
    adds = defines_more old mid new inner.adds adds;
    fixed = λ p. never_fixed (is_fixed_form r) (sym open_choice ∙ chosen_fixed f (inner.fixed (and_parts (is_part s) (is_fixed_path e) p).1));
  }

  -- an attribute of an object that is known
  pub made_fixed_dot : (old mid : Ground) (i k : ℕ) (e : Tree) (s : Resolved) (f r : Form) (n : ℕ) → IsStanding o (tree.Dot i e k s) this vars → IsMade o known old mid e this vars f → choice_part f ≡ choice.Fixed n → IsKnownForm o mid known (Some n) k s r → IsMade o known old mid (tree.Dot i e k s) this vars r
  made_fixed_dot old mid i k e s f r n st inner fixed h = record {
    form = fixed_dot_is o mid known this vars i k e s f r n st inner.form fixed h;
    adds = inner.adds;
    fixed = λ p. h.fixed (and_parts (is_part s) (is_fixed_path e) p).0;
  }

  -- the list of a quantifier, member by member
  pub members_made : (mid new : Ground) (e : Tree) (f : Form) (l : Listing) (ms : List Member) → IsGroundForm o mid known e this vars f → Defines mid new →
      ((a : List ℤ) → listing_at l a ≡ objects_of (form_value f a)) → slot_objects l ≡ slots_part f →
      ((a : List ℤ) → IsWorld new a → members_at ms a ≡ listing_at l a) → map (λ (m : Member). m.object) ms ≡ slot_objects l → All (λ (m : Member). HasVariable (length new.domains) m.is) ms →
      (is_fixed_path e ≡ true → is_fixed_form f ≡ true) → (is_fixed_form f ≡ true → is_fixed_list l ≡ true) → (is_fixed_list l ≡ true → All (λ (m : Member). m.is ≡ truth.Fixed true) ms) →
      AreMembersOf o new known e this vars ms
  members_made mid new e f l ms h adds list slots value objects variables path listed sure =
      let still = ground_still o mid new known e this vars f adds.grows h in
      let all = objects ∙ slots in
      record {
        value = λ a w kn. ap objects_of (still.stands a w kn) ∙ sym (list a) ∙ sym (value a w);
        variables = variables;
        objects = λ p c fits is. objects_in o new.domains (tree_type o e p) c f is (λ ty t. still.form.typed p ty fits t) ms all;
        few = let size = ap length all in let count = slots_count o f in omega (arith, size, count, still.form.reached, length-map ms (λ (m : Member). m.object));
        sure = λ p. sure (listed (path p));
      }

  -- a quantifier
  module _ (mid : Ground) (i : ℕ) (q : QuantKind) (over : Tree) (f : Filter) (bs : Bodies) (parts : List Part) (st : IsStanding o (tree.Quant i q over f bs) this vars) (are : ArePartsOf o mid known over (own_filter q f) bs this vars parts) where
    class_of : IsQuantifier q (list_class (tree_type o over st.place)) (filter_fits o f (within st.place (list_class (tree_type o over st.place))) && bodies_fit o q bs 0 (within st.place (list_class (tree_type o over st.place)))) st.type
    class_of = quantifier_typed q (list_class (tree_type o over st.place)) _ st.type st.typed

    each : All (IsPartOf o mid.domains (inside st.place class_of.class) this bs) parts
    each = are.each st.place class_of.class st.setting class_of.over_is

    bodies : bodies_fit o q bs 0 (inside st.place class_of.class) ≡ true
    bodies = subst (λ l. bodies_fit o q bs 0 (within st.place l) ≡ true) class_of.over_is (and_parts (filter_fits o f (within st.place (list_class (tree_type o over st.place)))) _ class_of.parts_fit).1

    whole : is_narrow (quantifier_interval q (reach o over) (body_interval o bs 0) (body_interval o bs 1)) ≡ true
    whole = narrow_interval o (tree.Quant i q over f bs) st.numbers

    pub quant_parts : AreParts mid.domains q parts
    quant_parts = parts_there o mid.domains (inside st.place class_of.class) this q (reach o over) bs parts each are.few whole

    pub quant_alike : compares_members q ≡ true → AreAlike mid.domains parts
    quant_alike k = parts_alike o mid.domains (inside st.place class_of.class) this q bs parts k bodies each

    pub quant_sized : q ≡ kind.Pack → AreSizes mid.domains parts
    quant_sized e = parts_sized o mid.domains (inside st.place class_of.class) this (reach o over) bs parts each are.few (subst (λ (k : QuantKind). is_narrow (quantifier_interval k (reach o over) (body_interval o bs 0) (body_interval o bs 1)) ≡ true) e whole)

    pub made_quant : (old new : Ground) (m : Form) → Defines old mid → Defines mid new → IsQuantified mid new q parts m → IsMade o known old new (tree.Quant i q over f bs) this vars m
    made_quant old new m before adds is = record {
      form = quant_form_is o mid new known this vars i q over f bs parts m
          (λ a w kn. are.value a (world_before mid new a adds.grows w) kn ∙ ap (λ (n : ℕ). values_over over (own_filter q f) bs (record { outline = o; values = take n a; this = this; vars = vars })) (sym adds.grows.search))
          (first_parts o mid.domains (inside st.place class_of.class) this bs parts each) are.few is;
      adds = defines_more old mid new before adds;
      fixed = never_fixed (is_fixed_form m);
    }

-- the ends of `- ..`
pub minus_low : (o : Outline) (mid : Ground) (known : List (ℕ × ℤ)) (i : ℕ) (e : Tree) (f : Form) (this : Option ℕ) (vars : List ℕ) (z m : Linear) → narrow o (tree.Minus i e) ≡ true → IsGroundForm o mid known e this vars f → LiesFrom (pos 0) (pos 0) mid.domains z → m ≡ number_part f → neg_ℤ (pos (2 ^ 50)) ≤ℤ (least_linear z mid.domains -ℤ greatest_linear m mid.domains)
minus_low o mid known i e f this vars z m k h lies em =
    let near = near_ends o (tree.Minus i e) k in
    let bounds = h.form.number.lies in
    let same = ap (λ (y : Linear). greatest_linear y mid.domains) em in
    omega (arith, ints, near.low, lies.low_is, bounds.high_is, same)

pub minus_high : (o : Outline) (mid : Ground) (known : List (ℕ × ℤ)) (i : ℕ) (e : Tree) (f : Form) (this : Option ℕ) (vars : List ℕ) (z m : Linear) → narrow o (tree.Minus i e) ≡ true → IsGroundForm o mid known e this vars f → LiesFrom (pos 0) (pos 0) mid.domains z → m ≡ number_part f → (greatest_linear z mid.domains -ℤ least_linear m mid.domains) ≤ℤ pos (2 ^ 50)
minus_high o mid known i e f this vars z m k h lies em =
    let near = near_ends o (tree.Minus i e) k in
    let bounds = h.form.number.lies in
    let same = ap (λ (y : Linear). least_linear y mid.domains) em in
    omega (arith, ints, near.high, lies.high_is, bounds.low_is, same)

pub this_there : (o : Outline) (this : Option ℕ) (vars : List ℕ) (i : ℕ) → IsStanding o (tree.This i) this vars → this ≡ Some (unwrap_or this 0)
this_there o None vars i h = absurd (no_this o None vars i refl h)
this_there o (Some x) vars i h = refl
