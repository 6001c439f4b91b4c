-- The parts of a quantifier, step by step.
use Rattle.std.proofs.Common.{◌≡◌, ℕ, ◌+◌, ◌<◌, ◌≤◌, Bool, true, false, ◌&&◌, cond, List, [], ◌∷◌, ◌++◌, ℤ, Option, None, Some, length, map, drop, take, get_or, refl, sym, ap, ◌∙◌, subst, arith, append_assoc}
use Rattle.std.specs.Prelude.{filter, Contains}
use Rattle.std.specs.List.{All}
use Rattle.std.proofs.lemmas.List.{drop_all, drop_more, take_all}
use Rattle.std.proofs.lemmas.List.Elements.{All-nil, All-cons, All-append, All-push, All-weaker}
use Rattle.class_table.specs.Outline.{Outline}
use Rattle.conf_types.specs.declared.tree.RExpr.{RExpr}
use Rattle.conf_types.specs.Trees.{Tree, Filter, NoFilter, Where, Bodies, NoBody}
use Rattle.conf_types.specs.TreeOf.{tree_of, trees_of, optional_tree}
use Rattle.conf_eval.specs.declared.value.Value.{Value}
use Rattle.conf_types.specs.Typing.{Place, inside}
use Rattle.conf_eval.specs.Fitting.{Fits}
use Rattle.conf_eval.proofs.LawsNarrow.{inner_fits}
use Rattle.conf_eval.specs.Meaning.{keeps, values_of, objects_of}
use Rattle.conf_eval.specs.Meaning as meaning
use Rattle.object_alloc.specs.Cells.{extent}
use Rattle.ground_form.specs.declared.ground.Ground.{Ground}
use Rattle.form_build.specs.declared.form.Truth.{Truth}
use Rattle.form_build.specs.declared.form.Truth.TheVariants as truth
use Rattle.form_build.specs.Forms.{truth_at, HasVariable}
use Rattle.form_build.specs.Worlds.{IsWorld, AreKnown, Grows, Defines}
use Rattle.form_build.proofs.Growth.{world_before}
use Rattle.expr_forms.specs.declared.form.Form.{Form}
use Rattle.expr_forms.specs.declared.form.Member.{Member}
use Rattle.expr_forms.specs.FormBounds.{IsGroundForm}
use Rattle.expr_forms.specs.FormValues.{truth_part}
use Rattle.expr_forms.specs.Standing.{bare_setting, world_setting}
use Rattle.expr_forms.proofs.Growing.{ground_still}
use Rattle.quantifier_forms.specs.declared.part.Part.{Part}
use Rattle.quantifier_forms.specs.PartValues.{kept_values}
use Rattle.pairwise_forms.specs.Wholes.{AreKept}
use Rattle.ground_expr.specs.Bodies.{AreBodies, IsPartOf, AreMembersOf, ArePartsOf, IsKept, given}
use Rattle.ground_expr.specs.Insides.{IsOver, IsInside}
use Rattle.ground_expr.proofs.PartLaws.{kept_push, given_next, bodies_value, bodies_within, parts_kept}
use Rattle.ground_expr.proofs.Nodes.{truth_stands}

-- an item of a list of which all have it
pub item_at : {X : Type 0} (P : X → Type 0) (xs : List X) (i : ℕ) (x : X) → i < length xs → x ≡ get_or xs i x → All P xs → P x
item_at P xs i x lt is h = subst P (sym is) (h i x lt)

-- no parts give nothing
pub none_kept : (ps : List Part) (vss : List (List Value)) (a : List ℤ) → ps ≡ [] → kept_values ps a ++ vss ≡ vss
none_kept ps vss a e = subst (λ (xs : List Part). kept_values xs a ++ vss ≡ vss) (sym e) refl

-- what holds of a scene holds of an equal one
pub at_scene : (P : Outline → Option ℕ → List ℕ → Type 0) (o o' : Outline) (this this' : Option ℕ) (vars vars' : List ℕ) → o' ≡ o → this' ≡ this → vars' ≡ vars → P o this vars → P o' this' vars'
at_scene P o o' this this' vars vars' e f g h =
    subst (λ (x : Outline). P x this' vars') (sym e) (subst (λ (x : Option ℕ). P o x vars') (sym f) (subst (λ (x : List ℕ). P o this x) (sym g) h))

module _ (o : Outline) (known : List (ℕ × ℤ)) (this : Option ℕ) (vars : List ℕ) where
  pub no_bodies : (g : Ground) (fs : List Form) → fs ≡ [] → AreBodies o g known NoBody this vars fs
  no_bodies g fs e = subst (AreBodies o g known NoBody this vars) (sym e) tt

  pub all_bodies : (g : Ground) (es : List RExpr) (i : ℕ) (fs : List Form) → length es ≤ i → AreBodies o g known (trees_of (take i es)) this vars fs → AreBodies o g known (trees_of es) this vars fs
  all_bodies g es i fs le h = subst (λ (xs : List RExpr). AreBodies o g known (trees_of xs) this vars fs) (take_all i es le) h

  -- ---- kept

  pub kept_none : (g : Ground) (is t : Truth) (f : Option RExpr) → f ≡ None → t ≡ is → HasVariable (length g.domains) is → IsKept o g known is (optional_tree f) this vars t
  kept_none g is t f e same h = record {
    variable = subst (HasVariable (length g.domains)) (sym same) h;
    value = λ a w kn. ap (λ (x : Truth). truth_at x a) same ∙ sure (truth_at is a) _ (ap (λ (x : Option RExpr). keeps (optional_tree x) (world_setting o g a this vars)) e);
    same = λ n. same;
  }
    where
      sure : (b d : Bool) → d ≡ true → b ≡ (b && d)
      sure b d e = grind (arith, e)

  pub kept_some : (mid new : Ground) (is t u : Truth) (f : Option RExpr) (e : RExpr) (form : Form) → f ≡ Some e → u ≡ truth_part form → IsGroundForm o mid known (tree_of e) this vars form → Grows mid new → HasVariable (length new.domains) t → ((a : List ℤ) → IsWorld new a → truth_at t a ≡ (truth_at is a && truth_at u a)) → IsKept o new known is (optional_tree f) this vars t
  kept_some mid new is t u f e form at same h grows variable value = record {
    variable = variable;
    value = λ a w kn.
        value a w
        ∙ ap (λ (b : Bool). truth_at is a && b) (ap (λ (x : Truth). truth_at x a) same ∙ sym (truth_stands o new known this vars (tree_of e) form a (ground_still o mid new known (tree_of e) this vars form grows h) w kn))
        ∙ ap (λ (x : Option RExpr). truth_at is a && keeps (optional_tree x) (world_setting o new a this vars)) (sym at);
    same = λ n. absurd (no_filter (tree_of e) (sym n ∙ ap optional_tree at));
  }
    where
      no_filter : (x : Tree) → NoFilter ≡ Where x → ⊥
      no_filter x h = cc

  -- ---- one part more

  nothing_more : {X : Type 0} (xs : List X) → xs ≡ xs ++ []
  nothing_more [] = refl
  nothing_more (x ∷ xs) = ap (λ ys. x ∷ ys) (nothing_more xs)

  pub not_pushed : (new : Ground) (is kept : Truth) (f : Filter) (bs : Bodies) (ps : List Part) → IsKept o new known is f this vars kept → ((a : List ℤ) → truth_at kept a ≡ false) →
      (a : List ℤ) → IsWorld new a → AreKnown known a → kept_values ps a ≡ kept_values ps a ++ cond (truth_at is a && keeps f (world_setting o new a this vars)) (values_of bs (world_setting o new a this vars) ∷ []) []
  not_pushed new is kept f bs ps k never a w kn =
      nothing_more (kept_values ps a)
      ∙ ap (λ (b : Bool). kept_values ps a ++ cond b (values_of bs (world_setting o new a this vars) ∷ []) []) (sym (never a) ∙ k.value a w kn)

  pub pushed : (mid new : Ground) (is : Truth) (f : Filter) (bs : Bodies) (ps qs : List Part) (p : Part) → qs ≡ ps ++ p ∷ [] → IsKept o mid known is f this vars p.kept → Defines mid new → AreBodies o new known bs this vars p.bodies.items →
      (a : List ℤ) → IsWorld new a → AreKnown known a → kept_values qs a ≡ kept_values ps a ++ cond (truth_at is a && keeps f (world_setting o new a this vars)) (values_of bs (world_setting o new a this vars) ∷ []) []
  pushed mid new is f bs ps qs p e k adds are a w kn =
      ap (λ (xs : List Part). kept_values xs a) e
      ∙ kept_push ps p a
      ∙ ap (λ (vs : List Value). kept_values ps a ++ cond (truth_at p.kept a) (vs ∷ []) []) (bodies_value o this vars new known bs p.bodies.items a are w kn)
      ∙ ap (λ (b : Bool). kept_values ps a ++ cond b (values_of bs (world_setting o new a this vars) ∷ []) [])
      (k.value a (world_before mid new a adds.grows w) kn
      ∙ ap (λ (n : ℕ). truth_at is a && keeps f (record { outline = o; values = take n a; this = this; vars = vars })) (sym adds.grows.search))

  pub pushed_each : (old mid new : Ground) (bs : Bodies) (ps qs : List Part) (q : Part) → qs ≡ ps ++ q ∷ [] → Defines old mid → Defines mid new → HasVariable (length new.domains) q.kept → AreBodies o new known bs this vars q.bodies.items →
      (p : Place) → Fits o [] p (bare_setting o this vars) → All (IsPartOf o old.domains p this bs) ps → All (IsPartOf o new.domains p this bs) qs
  pushed_each old mid new bs ps qs q e one two kept are p fits h =
      subst (All (IsPartOf o new.domains p this bs)) (sym e)
      (All-append (IsPartOf o new.domains p this bs) ps (q ∷ []) (parts_kept o mid new two.grows p this bs ps (parts_kept o old mid one.grows p this bs ps h))
      (All-cons (IsPartOf o new.domains p this bs) q [] (record { kept = kept; bodies = bodies_within o this vars new known p bs q.bodies.items fits are }) (All-nil (IsPartOf o new.domains p this bs))))

  -- without a filter it is kept in any case, where it is a member in any case
  pub pushed_kept : (g : Ground) (is : Truth) (f : Filter) (ps qs : List Part) (q : Part) → qs ≡ ps ++ q ∷ [] → IsKept o g known is f this vars q.kept → f ≡ NoFilter → is ≡ truth.Fixed true → AreKept ps → AreKept qs
  pushed_kept g is f ps qs q e k none sure h = subst AreKept (sym e) (All-push (λ (p : Part). p.kept ≡ truth.Fixed true) ps q h (k.same none ∙ sure))

  -- ---- member by member

  -- one member more
  pub part_next : (old new : Ground) (f : Filter) (bs : Bodies) (ms : List Member) (i : ℕ) (m : Member) (ps qs : List Part) → Grows old new → i < length ms → m ≡ get_or ms i m →
      ((a : List ℤ) → IsWorld old a → AreKnown known a → kept_values ps a ++ given (λ x. keeps f (world_setting o old a this (vars ++ x ∷ []))) (λ x. values_of bs (world_setting o old a this (vars ++ x ∷ []))) (drop i ms) a ≡ given (λ x. keeps f (world_setting o old a this (vars ++ x ∷ []))) (λ x. values_of bs (world_setting o old a this (vars ++ x ∷ []))) ms a) →
      ((a : List ℤ) → IsWorld new a → AreKnown known a → kept_values qs a ≡ kept_values ps a ++ cond (truth_at m.is a && keeps f (world_setting o new a this (vars ++ m.object ∷ []))) (values_of bs (world_setting o new a this (vars ++ m.object ∷ [])) ∷ []) []) →
      (a : List ℤ) → IsWorld new a → AreKnown known a → kept_values qs a ++ given (λ x. keeps f (world_setting o new a this (vars ++ x ∷ []))) (λ x. values_of bs (world_setting o new a this (vars ++ x ∷ []))) (drop (i + 1) ms) a ≡ given (λ x. keeps f (world_setting o new a this (vars ++ x ∷ []))) (λ x. values_of bs (world_setting o new a this (vars ++ x ∷ []))) ms a
  part_next old new f bs ms i m ps qs grows lt is inv step a w kn =
      let keep = λ (x : ℕ). keeps f (world_setting o new a this (vars ++ x ∷ [])) in
      let values = λ (x : ℕ). values_of bs (world_setting o new a this (vars ++ x ∷ [])) in
      let one = cond (truth_at m.is a && keep m.object) (values m.object ∷ []) [] in
      let rest = given keep values (drop (i + 1) ms) a in
      ap (λ (vss : List (List Value)). vss ++ rest) (step a w kn)
      ∙ append_assoc (kept_values ps a) one rest
      ∙ ap (λ (vss : List (List Value)). kept_values ps a ++ vss) (sym (given_next keep values m (drop (i + 1) ms) a))
      ∙ ap (λ (xs : List Member). kept_values ps a ++ given keep values xs a) (sym (drop_more ms i m lt ∙ ap (λ (x : Member). x ∷ drop (i + 1) ms) (sym is)))
      ∙ subst (λ (n : ℕ).
      kept_values ps a ++ given (λ x. keeps f (record { outline = o; values = take n a; this = this; vars = vars ++ x ∷ [] })) (λ x. values_of bs (record { outline = o; values = take n a; this = this; vars = vars ++ x ∷ [] })) (drop i ms) a
      ≡ given (λ x. keeps f (record { outline = o; values = take n a; this = this; vars = vars ++ x ∷ [] })) (λ x. values_of bs (record { outline = o; values = take n a; this = this; vars = vars ++ x ∷ [] })) ms a)
      (sym grows.search) (inv a (world_before old new a grows w) kn)

  -- at the end nothing is left
  pub part_end : (g : Ground) (f : Filter) (bs : Bodies) (ms : List Member) (i : ℕ) (ps : List Part) → length ms ≤ i →
      ((a : List ℤ) → IsWorld g a → AreKnown known a → kept_values ps a ++ given (λ x. keeps f (world_setting o g a this (vars ++ x ∷ []))) (λ x. values_of bs (world_setting o g a this (vars ++ x ∷ []))) (drop i ms) a ≡ given (λ x. keeps f (world_setting o g a this (vars ++ x ∷ []))) (λ x. values_of bs (world_setting o g a this (vars ++ x ∷ []))) ms a) →
      (a : List ℤ) → IsWorld g a → AreKnown known a → kept_values ps a ≡ given (λ x. keeps f (world_setting o g a this (vars ++ x ∷ []))) (λ x. values_of bs (world_setting o g a this (vars ++ x ∷ []))) ms a
  part_end g f bs ms i ps le inv a w kn =
      nothing_more (kept_values ps a)
      ∙ sym (ap (λ (xs : List Member). kept_values ps a ++ given (λ x. keeps f (world_setting o g a this (vars ++ x ∷ []))) (λ x. values_of bs (world_setting o g a this (vars ++ x ∷ []))) xs a) (drop_all i ms le))
      ∙ inv a w kn

  -- ---- over a list

  pub over_parts : (mid new : Ground) (over : Tree) (f : Filter) (bs : Bodies) (ms : List Member) (ps : List Part) → AreMembersOf o mid known over this vars ms → Defines mid new →
      ((a : List ℤ) → IsWorld new a → AreKnown known a → kept_values ps a ≡ given (λ x. keeps f (world_setting o new a this (vars ++ x ∷ []))) (λ x. values_of bs (world_setting o new a this (vars ++ x ∷ []))) ms a) →
      ((p : Place) → All (λ (m : Member). Fits o [] p (bare_setting o this (vars ++ m.object ∷ []))) ms → All (IsPartOf o new.domains p this bs) ps) → length ps ≤ length ms → (f ≡ NoFilter → All (λ (m : Member). m.is ≡ truth.Fixed true) ms → AreKept ps) → ArePartsOf o new known over f bs this vars ps
  over_parts mid new over f bs ms ps are adds value each few kept = record {
    value = λ a w kn.
        value a w kn
        ∙ ap (λ (xs : List ℕ). map (λ x. values_of bs (world_setting o new a this (vars ++ x ∷ []))) (filter (λ x. keeps f (world_setting o new a this (vars ++ x ∷ []))) xs))
        (sym (are.value a (world_before mid new a adds.grows w) kn) ∙ ap (λ (n : ℕ). objects_of (meaning.value over (record { outline = o; values = take n a; this = this; vars = vars }))) (sym adds.grows.search));
    each = λ p c fits is.
        each (inside p c)
        (All-weaker (λ (m : Member). Contains (extent o c) m.object) (λ (m : Member). Fits o [] (inside p c) (bare_setting o this (vars ++ m.object ∷ []))) (λ m h. inner_fits o [] p (bare_setting o this vars) c m.object fits h) ms (are.objects p c fits is));
    few = let most = are.few in omega (arith, few, most);
    kept = λ none p. kept none (are.sure p);
  }

  pub members_inside : (g : Ground) (over : Tree) (f : Filter) (bs : Bodies) (ms : List Member) → IsOver o over f bs this vars → AreMembersOf o g known over this vars ms → All (λ (m : Member). IsInside o f bs this (vars ++ m.object ∷ [])) ms
  members_inside g over f bs ms h are =
      All-weaker (λ (m : Member). Contains (extent o h.class) m.object) (λ (m : Member). IsInside o f bs this (vars ++ m.object ∷ [])) (λ m c. h.inside m.object c) ms (are.objects h.place h.class h.setting h.listed)
