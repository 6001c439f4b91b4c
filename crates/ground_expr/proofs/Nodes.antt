-- The form of a node from those of its parts.
use Rattle.std.proofs.Common.{◌≡◌, ℕ, ◌<◌, ◌≤◌, ◌^◌, Bool, true, not, List, map, ℤ, pos, neg_ℤ, Option, Some, length, take, refl, sym, ap, ◌∙◌, subst, arith, ◌⊎◌, inl, inr}
use Rattle.std.specs.Prelude.{unsigned_abs, filter, Contains}
use Rattle.std.specs.List.{All}
use Rattle.class_table.specs.Outline.{Outline}
use Rattle.class_table.specs.declared.table.Resolved.{Resolved}
use Rattle.class_table.specs.Sound.{IsSound}
use Rattle.conf_syntax.specs.declared.tree.Op.{Op}
use Rattle.conf_syntax.specs.declared.tree.Op.TheVariants as op
use Rattle.conf_syntax.specs.declared.tree.QuantKind.{QuantKind}
use Rattle.conf_syntax.specs.declared.tree.QuantKind.TheVariants as kind
use Rattle.conf_types.specs.declared.types.ExprType.{ExprType}
use Rattle.conf_types.specs.Readings.{list_class}
use Rattle.conf_types.specs.Types.{quant_result}
use Rattle.conf_types.specs.Typing.{tree_type}
use Rattle.object_alloc.specs.Cells.{extent}
use Rattle.conf_types.specs.declared.types.ExprType.TheVariants as type
use Rattle.conf_types.specs.Trees.{Tree, Filter, Bodies}
use Rattle.conf_types.specs.Trees as tree
use Rattle.conf_types.specs.Operators.{class_of, made_by}
use Rattle.conf_eval.specs.declared.value.Value.{Value}
use Rattle.conf_eval.specs.declared.value.Value.TheVariants.{Int, Truth}
use Rattle.conf_eval.specs.Fitting.{HasShape}
use Rattle.conf_eval.specs.Meaning.{Setting, bind, value, keeps, values_of, int_of, truth_of, object_of, objects_of, operate, quantified, attribute_value}
use Rattle.conf_limits.specs.Measures.{interval, body_interval, reach}
use Rattle.conf_eval.proofs.LawsValues.{some_is, if_typed, dotted, quantifier_typed}
use Rattle.signed_clause.specs.Clauses.{Boxes}
use Rattle.ground_form.specs.declared.ground.Ground.{Ground}
use Rattle.form_build.specs.declared.form.Linear.{Linear}
use Rattle.form_build.specs.declared.form.Truth.{Truth as ATruth}
use Rattle.form_build.specs.declared.form.Truth.TheVariants as truth
use Rattle.form_build.specs.Forms.{linear_at, truth_at, HasVariable}
use Rattle.form_build.specs.Sums.{IsLinear, LiesFrom, IsSum}
use Rattle.form_build.specs.Worlds.{IsWorld, IsInBoxes, AreKnown}
use Rattle.form_build.proofs.Linears.{linear_more}
use Rattle.expr_forms.specs.declared.form.Choice.{Choice}
use Rattle.expr_forms.specs.declared.form.Choice.TheVariants as choice
use Rattle.expr_forms.specs.declared.form.Form.{Form}
use Rattle.expr_forms.specs.declared.form.Form.TheVariants as form
use Rattle.expr_forms.specs.FormBounds.{IsChoiceOf, IsFrom, IsFormOf, candidate_count, target_count, IsGroundForm}
use Rattle.expr_forms.specs.FormValues.{choice_at, form_value, number_part, truth_part}
use Rattle.expr_forms.specs.Standing.{IsStanding, world_setting}
use Rattle.expr_forms.proofs.Inside.{shape_at}
use Rattle.expr_forms.proofs.PartValues.{number_part_at, truth_part_at}
use Rattle.expr_forms.proofs.Trees.{number_tree, truth_tree}
use Rattle.reference_forms.specs.Candidates.{HaveShape}
use Rattle.reference_forms.specs.Dots.{IsDotForm}
use Rattle.reference_forms.proofs.DotLaws.{choice_weaker}
use Rattle.quantifier_forms.specs.declared.part.Part.{Part}
use Rattle.ground_expr.specs.Bodies.{own_filter, values_over}
use Rattle.ground_expr.specs.Chosen.{class_part, choice_part}
use Rattle.ground_expr.specs.Known.{IsKnownForm}
use Rattle.quantifier_forms.specs.PartValues.{kept_values, over_values}
use Rattle.operator_forms.specs.Operating.{IsOperated}
use Rattle.quantifier_forms.specs.Quantified.{IsPart, IsQuantified, compares_members}
use Rattle.quantifier_forms.proofs.KeptLaws.{quantified_over}

no_target : (o : Outline) (ty : ExprType) (boxes : Boxes) (f : Form) → IsFormOf o boxes ty f → (ty ≡ type.Int) ⊎ (ty ≡ type.Truth) → target_count o f ≡ 0
no_target o ty boxes (form.Number f) h e = refl
no_target o ty boxes (form.Truth t) h e = refl
no_target o ty boxes (form.Choice d c) h e = refl
no_target o (type.Object k) boxes (form.Object d c) h (inl e) = cc
no_target o (type.Object k) boxes (form.Object d c) h (inr e) = cc
no_target o type.Int boxes (form.Object d c) h e = absurd h
no_target o type.Truth boxes (form.Object d c) h e = absurd h
no_target o (type.Choice k) boxes (form.Object d c) h e = absurd h
no_target o (type.Objects k) boxes (form.Object d c) h e = absurd h
no_target o (type.Class k) boxes (form.Object d c) h e = absurd h
no_target o type.Int boxes (form.List l) h e = absurd h
no_target o type.Truth boxes (form.List l) h e = absurd h
no_target o (type.Choice k) boxes (form.List l) h e = absurd h
no_target o (type.Object k) boxes (form.List l) h e = absurd h
no_target o (type.Objects k) boxes (form.List l) h (inl e) = cc
no_target o (type.Objects k) boxes (form.List l) h (inr e) = cc
no_target o (type.Class k) boxes (form.List l) h (inl e) = cc
no_target o (type.Class k) boxes (form.List l) h (inr e) = cc

plain_result : (q : Op) → (made_by (class_of q) ≡ type.Int) ⊎ (made_by (class_of q) ≡ type.Truth)
plain_result op.Add = inl refl
plain_result op.Sub = inl refl
plain_result op.Mul = inl refl
plain_result op.Implies = inr refl
plain_result op.Or = inr refl
plain_result op.And = inr refl
plain_result op.Eq = inr refl
plain_result op.Ne = inr refl
plain_result op.Lt = inr refl
plain_result op.Le = inr refl
plain_result op.Gt = inr refl
plain_result op.Ge = inr refl
plain_result op.In = inr refl

plain_quant : (q : QuantKind) → (quant_result q ≡ type.Int) ⊎ (quant_result q ≡ type.Truth)
plain_quant kind.Sum = inl refl
plain_quant kind.Count = inl refl
plain_quant kind.Forall = inr refl
plain_quant kind.Exists = inr refl
plain_quant kind.AllDifferent = inr refl
plain_quant kind.Pack = inr refl

no_filter : (q : QuantKind) (f : Filter) (s : Setting) → compares_members q ≡ true → (x : ℕ) → keeps (own_filter q f) (bind s x) ≡ true
no_filter kind.AllDifferent f s h x = refl
no_filter kind.Pack f s h x = refl
no_filter kind.Forall f s h x = cc
no_filter kind.Exists f s h x = cc
no_filter kind.Sum f s h x = cc
no_filter kind.Count f s h x = cc

-- a kind that has no filter looks at none
own_is : (q : QuantKind) (f : Filter) (bs : Bodies) (s : Setting) (xs : List ℕ) → quantified q xs (λ x. keeps f (bind s x)) (λ x. values_of bs (bind s x)) ≡ quantified q xs (λ x. keeps (own_filter q f) (bind s x)) (λ x. values_of bs (bind s x))
own_is kind.Forall f bs s xs = refl
own_is kind.Exists f bs s xs = refl
own_is kind.Sum f bs s xs = refl
own_is kind.Count f bs s xs = refl
own_is kind.AllDifferent f bs s xs = refl
own_is kind.Pack f bs s xs = refl

pub own_quantified : (q : QuantKind) (f : Filter) (bs : Bodies) (s : Setting) (xs : List ℕ) → quantified q xs (λ x. keeps f (bind s x)) (λ x. values_of bs (bind s x)) ≡ over_values q (map (λ x. values_of bs (bind s x)) (filter (λ x. keeps (own_filter q f) (bind s x)) xs))
own_quantified q f bs s xs = own_is q f bs s xs ∙ quantified_over (λ x. keeps (own_filter q f) (bind s x)) (λ x. values_of bs (bind s x)) q xs (no_filter q f s)

-- a form of an object is one
object_is : (o : Outline) (boxes : Boxes) (c : ℕ) (f : Form) → IsFormOf o boxes (type.Object c) f → f ≡ form.Object (class_part f) (choice_part f)
object_is o boxes c (form.Object d x) h = refl
object_is o boxes c (form.Number f) h = absurd h
object_is o boxes c (form.Truth t) h = absurd h
object_is o boxes c (form.Choice e x) h = absurd h
object_is o boxes c (form.List l) h = absurd h

module _ (o : Outline) (g : Ground) (known : List (ℕ × ℤ)) (this : Option ℕ) (vars : List ℕ) where
  pub number_is : (i n : ℕ) (f : Linear) → n < 2 ^ 32 → ((a : List ℤ) → linear_at f a ≡ pos n) → ((boxes : Boxes) → IsLinear (unsigned_abs (pos n)) boxes f) → ((boxes : Boxes) → LiesFrom (pos n) (pos n) boxes f) → IsGroundForm o g known (tree.Number i n) this vars (form.Number f)
  number_is i n f small value linear lies =
      number_tree o g known (tree.Number i n) this vars f (λ p ty e. some_is e)
      (record { linear = linear_more n (2 ^ 58) g.domains f (omega (arith, small)) (linear g.domains); lies = lies g.domains })
      (λ a w kn. ap (λ (v : ℤ). Int v) (sym (value a)))

  pub truth_is : (i : ℕ) (b : Bool) → IsGroundForm o g known (tree.Truth i b) this vars (form.Truth (truth.Fixed b))
  truth_is i b = truth_tree o g known (tree.Truth i b) this vars (truth.Fixed b) (λ p ty e. some_is e) refl refl tt (λ a w kn. refl)

  pub paren_is : (i : ℕ) (e : Tree) (f : Form) → IsGroundForm o g known e this vars f → IsGroundForm o g known (tree.Paren i e) this vars f
  paren_is i e f h = record {
    stands = h.stands;
    form = record { number = h.form.number; truth = h.form.truth; typed = h.form.typed; reached = h.form.reached };
  }

  -- the number and the truth of a form are those of the tree
  pub number_stands : (e : Tree) (f : Form) (a : List ℤ) → IsGroundForm o g known e this vars f → IsWorld g a → AreKnown known a → int_of (value e (world_setting o g a this vars)) ≡ linear_at (number_part f) a
  number_stands e f a h w kn = ap int_of (h.stands a w kn) ∙ sym (number_part_at f a)

  pub truth_stands : (e : Tree) (f : Form) (a : List ℤ) → IsGroundForm o g known e this vars f → IsWorld g a → AreKnown known a → truth_of (value e (world_setting o g a this vars)) ≡ truth_at (truth_part f) a
  truth_stands e f a h w kn = ap truth_of (h.stands a w kn) ∙ sym (truth_part_at f a)

  pub not_is : (i : ℕ) (e : Tree) (f : Form) (u : ATruth) → IsGroundForm o g known e this vars f → HasVariable (length g.domains) u → ((a : List ℤ) → IsInBoxes g.domains a → truth_at u a ≡ not (truth_at (truth_part f) a)) → IsGroundForm o g known (tree.Not i e) this vars (form.Truth u)
  not_is i e f u h variable value =
      truth_tree o g known (tree.Not i e) this vars u (λ p ty is. (if_typed _ type.Truth ty is).is) refl refl variable
      (λ a w kn. ap (λ (b : Bool). Truth b) (ap not (truth_stands e f a h w kn) ∙ sym (value a w.within)))

  -- what a sum lies in
  pub minus_is : (i : ℕ) (e : Tree) (f : Form) (r : Linear) → IsGroundForm o g known e this vars f → IsSum g.domains (neg_ℤ (interval o e).high) (neg_ℤ (interval o e).low) r → ((a : List ℤ) → IsWorld g a → linear_at r a ≡ neg_ℤ (linear_at (number_part f) a)) → IsGroundForm o g known (tree.Minus i e) this vars (form.Number r)
  minus_is i e f r h sum value =
      number_tree o g known (tree.Minus i e) this vars r (λ p ty is. (if_typed _ type.Int ty is).is) sum
      (λ a w kn. ap (λ (v : ℤ). Int v) (ap neg_ℤ (number_stands e f a h w kn) ∙ sym (value a w)))

  pub pair_is : (i : ℕ) (q : Op) (l r : Tree) (f h m : Form) → IsGroundForm o g known l this vars f → IsGroundForm o g known r this vars h →
      IsOperated o g q (interval o l) (interval o r) f h m → IsGroundForm o g known (tree.Pair i q l r) this vars m
  pair_is i q l r f h m left right is = record {
    stands = λ a w kn. ap (λ (v : Value). operate q v (value r (world_setting o g a this vars))) (left.stands a w kn) ∙ ap (operate q (form_value f a)) (right.stands a w kn) ∙ sym (is.value a w);
    form = record {
      number = is.number;
      truth = is.truth;
      typed = λ p ty fits e. subst (λ (z : ExprType). IsFormOf o g.domains z m) (if_typed _ (made_by (class_of q)) ty e).is is.typed;
      reached = let none = no_target o (made_by (class_of q)) g.domains m is.typed (plain_result q) in omega (arith, none);
    };
  }

  -- every object that the expression before the dot may be has the attribute
  pub chosen_shapes : (i k : ℕ) (e : Tree) (s : Resolved) (f : Form) → IsSound o → IsStanding o (tree.Dot i e k s) this vars → IsGroundForm o g known e this vars f → IsChoiceOf g.domains (HaveShape o k s) (choice_part f) × IsFrom o g.domains (class_part f) (choice_part f)
  chosen_shapes i k e s f sound st h =
      let d = dotted o (tree_type o e st.place) k s st.type st.typed in
      let typed = h.form.typed st.place (type.Object d.class) st.setting d.is_object in
      let is = object_is o g.domains d.class f typed in
      let both = subst (λ (z : Form). IsFormOf o g.domains (type.Object d.class) z) is typed in
      (choice_weaker g.domains (Contains (extent o d.class)) (HaveShape o k s) (λ n m. shape_at o this vars sound i e k s st.place st.type d.class n st.typed d.is_object m) (choice_part f) both.0, both.1)

  pub chosen_dot_is : (i k : ℕ) (e : Tree) (s : Resolved) (f r : Form) → IsStanding o (tree.Dot i e k s) this vars → IsGroundForm o g known e this vars f → IsDotForm o g (class_part f) (choice_part f) k s r → IsGroundForm o g known (tree.Dot i e k s) this vars r
  chosen_dot_is i k e s f r st inner h =
      let d = dotted o (tree_type o e st.place) k s st.type st.typed in
      let is = object_is o g.domains d.class f (inner.form.typed st.place (type.Object d.class) st.setting d.is_object) in
      record {
        stands = λ a w kn.
            ap (λ (z : Value). attribute_value o (take g.search a) (Some (object_of z)) k s) (inner.stands a w kn ∙ ap (λ (z : Form). form_value z a) is) ∙ h.stands a w;
        form = record {
          number = h.number;
          truth = h.truth;
          typed = λ p ty fits t. subst (λ (z : ExprType). IsFormOf o g.domains z r) (dotted o (tree_type o e p) k s ty t).variable.type_is h.typed;
          reached = h.reached (reach o e) (subst (λ (z : Form). target_count o z ≤ reach o e) is inner.form.reached);
        };
      }

  -- every object that the expression before the dot is known to be has the attribute
  pub fixed_shape : (k : ℕ) (s : Resolved) (c : Choice) (n : ℕ) → c ≡ choice.Fixed n → IsChoiceOf g.domains (HaveShape o k s) c → HasShape o (Some n) k s
  fixed_shape k s c n e h = subst (IsChoiceOf g.domains (HaveShape o k s)) e h

  -- an attribute of an object that is known
  pub fixed_dot_is : (i k : ℕ) (e : Tree) (s : Resolved) (f r : Form) (n : ℕ) → IsStanding o (tree.Dot i e k s) this vars → IsGroundForm o g known e this vars f → choice_part f ≡ choice.Fixed n → IsKnownForm o g known (Some n) k s r → IsGroundForm o g known (tree.Dot i e k s) this vars r
  fixed_dot_is i k e s f r n st inner fixed h =
      let d = dotted o (tree_type o e st.place) k s st.type st.typed in
      let is = object_is o g.domains d.class f (inner.form.typed st.place (type.Object d.class) st.setting d.is_object) in
      let one = subst (λ (c : Choice). candidate_count o (class_part f) c ≤ reach o e) fixed (subst (λ (z : Form). target_count o z ≤ reach o e) is inner.form.reached) in
      record {
        stands = λ a w kn.
            ap (λ (z : Value). attribute_value o (take g.search a) (Some (object_of z)) k s) (inner.stands a w kn ∙ ap (λ (z : Form). form_value z a) is)
            ∙ ap (λ (c : Choice). attribute_value o (take g.search a) (Some (choice_at c a)) k s) fixed ∙ h.stands a w kn;
        form = record {
          number = h.number;
          truth = h.truth;
          typed = λ p ty fits t. subst (λ (z : ExprType). IsFormOf o g.domains z r) (dotted o (tree_type o e p) k s ty t).variable.type_is h.typed;
          reached = h.reached (reach o e) one;
        };
      }

module _ (o : Outline) (mid g : Ground) (known : List (ℕ × ℤ)) (this : Option ℕ) (vars : List ℕ) where
  -- a quantifier, of its parts
  pub quant_form_is : (i : ℕ) (q : QuantKind) (over : Tree) (f : Filter) (bs : Bodies) (parts : List Part) (m : Form) → ((a : List ℤ) → IsWorld g a → AreKnown known a → kept_values parts a ≡ values_over over (own_filter q f) bs (world_setting o g a this vars)) →
      All (IsPart mid.domains (body_interval o bs 0)) parts → length parts ≤ reach o over → IsQuantified mid g q parts m → IsGroundForm o g known (tree.Quant i q over f bs) this vars m
  quant_form_is i q over f bs parts m are first few is = record {
    stands = λ a w kn.
        own_quantified q f bs (world_setting o g a this vars) (objects_of (value over (world_setting o g a this vars)))
        ∙ ap (over_values q) (sym (are a w kn)) ∙ sym (is.value a w);
    form = record {
      number = is.number (body_interval o bs 0) (body_interval o bs 1) (reach o over) first few;
      truth = is.truth;
      typed = λ p ty fits e. subst (λ (z : ExprType). IsFormOf o g.domains z m) (quantifier_typed q (list_class (tree_type o over p)) _ ty e).type_is (is.typed o);
      reached = let none = no_target o (quant_result q) g.domains m (is.typed o) (plain_quant q) in omega (arith, none);
    };
  }
