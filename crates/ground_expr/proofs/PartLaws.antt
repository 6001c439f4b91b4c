-- Parts of a quantifier, made member by member.
use Rattle.std.proofs.Common.{◌≡◌, ℕ, zero, suc, ◌+◌, ◌^◌, ◌<◌, ◌≤◌, Bool, true, false, not, ◌&&◌, cond, List, [], ◌∷◌, ◌++◌, ℤ, Option, Some, length, map, take, get_or, refl, sym, ap, ◌∙◌, subst, arith}
use Rattle.std.specs.Prelude.{filter, Contains}
use Rattle.std.specs.List.{All}
use Rattle.std.proofs.lemmas.Bool.{and_parts}
use Rattle.std.proofs.lemmas.List.Elements.{All-nil, All-cons, All-weaker}
use Rattle.class_table.specs.Outline.{Outline}
use Rattle.conf_types.specs.declared.tree.RExpr.{RExpr}
use Rattle.conf_types.specs.declared.types.ExprType.{ExprType}
use Rattle.conf_types.specs.declared.types.ExprType.TheVariants as type
use Rattle.conf_types.specs.declared.types.Need.{Need}
use Rattle.conf_types.specs.Readings.{has}
use Rattle.conf_types.specs.Types.{is_list, is_object, meets, body_need}
use Rattle.conf_types.specs.Typing.{Place, tree_type, bodies_fit}
use Rattle.conf_types.specs.Trees.{Tree, Bodies, NoBody, Body}
use Rattle.conf_types.specs.TreeOf.{tree_of, trees_of}
use Rattle.conf_eval.specs.declared.value.Value.{Value}
use Rattle.conf_eval.specs.Meaning.{value, values_of}
use Rattle.conf_syntax.specs.declared.tree.QuantKind.{QuantKind}
use Rattle.conf_syntax.specs.declared.tree.QuantKind.TheVariants as kind
use Rattle.conf_limits.specs.Measures.{body_interval, many, quantifier_interval, is_narrow}
use Rattle.conf_eval.specs.Fitting.{Fits}
use Rattle.conf_eval.proofs.LawsIntervals.{typed_of_has}
use Rattle.pairwise_forms.specs.AlikeParts.{first_form, second_number, AreAlike, AreSizes}
use Rattle.object_alloc.specs.Cells.{extent, value_count}
use Rattle.expr_forms.proofs.Trees.{no_number}
use Rattle.quantifier_forms.proofs.KeptLaws.{kept_values-append}
use Rattle.quantifier_forms.proofs.Narrowness.{narrow_fewer}
use Rattle.signed_clause.specs.Clauses.{Boxes}
use Rattle.ground_form.specs.declared.ground.Ground.{Ground}
use Rattle.form_build.specs.Forms.{truth_at, HasVariable}
use Rattle.form_build.specs.Sums.{IsLinear, IsSum}
use Rattle.form_build.specs.Worlds.{IsWorld, AreKnown, Grows}
use Rattle.expr_forms.specs.declared.form.Form.{Form}
use Rattle.expr_forms.specs.declared.form.Form.TheVariants as form
use Rattle.expr_forms.specs.declared.form.Member.{Member}
use Rattle.expr_forms.specs.FormBounds.{IsFormOf, IsGroundForm}
use Rattle.expr_forms.specs.FormValues.{form_value, members_at, number_part, truth_part}
use Rattle.expr_forms.specs.Standing.{IsStanding, bare_setting, world_setting}
use Rattle.expr_forms.proofs.Growing.{boxes_kept, variable_kept, form_kept, ground_still}
use Rattle.identity_forms.proofs.ChoiceLaws.{choice_is}
use Rattle.identity_forms.proofs.ListingLaws.{listing_has}
use Rattle.quantifier_forms.specs.declared.part.Part.{Part}
use Rattle.ground_expr.specs.Bodies.{AreBodies, AreWithin, IsPartOf, given}
use Rattle.quantifier_forms.specs.PartValues.{body_values, kept_values, first_number}
use Rattle.quantifier_forms.specs.Quantified.{IsPart, AreParts, compares_members}
use Rattle.ground_expr.specs.Usable.{IsUsable}

-- ---- forms that can be used

pub usable : (o : Outline) (boxes : Boxes) (ty : ExprType) (f : Form) → IsFormOf o boxes ty f → IsUsable boxes f
usable o boxes ty (form.Number f) h = tt
usable o boxes ty (form.Truth t) h = tt
usable o boxes (type.Choice e) (form.Choice d c) h = choice_is boxes (λ n. n < value_count o e) c h.1
usable o boxes (type.Object e) (form.Object d c) h = choice_is boxes (Contains (extent o e)) c h.0
usable o boxes (type.Objects c) (form.List l) h = listing_has o boxes c l h
usable o boxes (type.Class c) (form.List l) h = listing_has o boxes c l h
usable o boxes ty f h = absurd h

pub form_usable : (o : Outline) (g : Ground) (known : List (ℕ × ℤ)) (t : Tree) (this : Option ℕ) (vars : List ℕ) (f : Form) → IsStanding o t this vars → IsGroundForm o g known t this vars f → IsUsable g.domains f
form_usable o g known t this vars f s h = usable o g.domains s.type f (h.form.typed s.place s.type s.setting s.typed)

-- ---- bodies

module _ (o : Outline) (this : Option ℕ) (vars : List ℕ) where
  pub bodies_still : (old new : Ground) (known : List (ℕ × ℤ)) (bs : Bodies) (fs : List Form) → Grows old new → AreBodies o old known bs this vars fs → AreBodies o new known bs this vars fs
  bodies_still old new known NoBody [] g h = tt
  bodies_still old new known NoBody (f ∷ fs) g h = h
  bodies_still old new known (Body e bs) [] g h = h
  bodies_still old new known (Body e bs) (f ∷ fs) g h = (ground_still o old new known e this vars f g h.0, bodies_still old new known bs fs g h.1)

  module _ (g : Ground) (known : List (ℕ × ℤ)) where
    -- one body more
    pub bodies_push : (es : List RExpr) (i : ℕ) (e : RExpr) (fs : List Form) (f : Form) → i < length es → e ≡ get_or es i e → AreBodies o g known (trees_of (take i es)) this vars fs → IsGroundForm o g known (tree_of e) this vars f → AreBodies o g known (trees_of (take (i + 1) es)) this vars (fs ++ f ∷ [])
    bodies_push es i e fs f lt is h m = let next : suc i ≡ i + 1 = omega arith in subst (λ (n : ℕ). AreBodies o g known (trees_of (take n es)) this vars (fs ++ f ∷ [])) next (by es i fs lt is h)
      where
        by : (es : List RExpr) (i : ℕ) (fs : List Form) → i < length es → e ≡ get_or es i e → AreBodies o g known (trees_of (take i es)) this vars fs → AreBodies o g known (trees_of (take (suc i) es)) this vars (fs ++ f ∷ [])
        by [] i fs lt is h = absurd (omega (arith, lt))
        by (b ∷ es) zero [] lt is h = (subst (λ (x : RExpr). IsGroundForm o g known (tree_of x) this vars f) is m, tt)
        by (b ∷ es) zero (d ∷ fs) lt is h = absurd h
        by (b ∷ es) (suc i) [] lt is h = absurd h
        by (b ∷ es) (suc i) (d ∷ fs) lt is h = (h.0, by es i fs (omega (arith, lt)) is h.1)

    -- in a world they have the bodies' values
    pub bodies_value : (bs : Bodies) (fs : List Form) (a : List ℤ) → AreBodies o g known bs this vars fs → IsWorld g a → AreKnown known a → map (λ f. form_value f a) fs ≡ values_of bs (world_setting o g a this vars)
    bodies_value NoBody [] a h w k = refl
    bodies_value NoBody (f ∷ fs) a h w k = absurd h
    bodies_value (Body e bs) [] a h w k = absurd h
    bodies_value (Body e bs) (f ∷ fs) a h w k =
        ap (λ (v : Value). v ∷ map (λ f. form_value f a) fs) (sym (h.0.stands a w k))
        ∙ ap (λ (us : List Value). value e (world_setting o g a this vars) ∷ us) (bodies_value bs fs a h.1 w k)

    -- they are those of the bodies at the place
    pub bodies_within : (p : Place) (bs : Bodies) (fs : List Form) → Fits o [] p (bare_setting o this vars) → AreBodies o g known bs this vars fs → AreWithin o g.domains p this bs fs
    bodies_within p NoBody [] s h = tt
    bodies_within p NoBody (f ∷ fs) s h = h
    bodies_within p (Body e bs) [] s h = h
    bodies_within p (Body e bs) (f ∷ fs) s h = (record { at = vars; setting = s; form = h.0.form }, bodies_within p bs fs s h.1)

-- ---- parts

module _ (o : Outline) (old new : Ground) (g : Grows old new) (p : Place) (this : Option ℕ) where
  within_kept : (bs : Bodies) (fs : List Form) → AreWithin o old.domains p this bs fs → AreWithin o new.domains p this bs fs
  within_kept NoBody [] h = tt
  within_kept NoBody (f ∷ fs) h = h
  within_kept (Body e bs) [] h = h
  within_kept (Body e bs) (f ∷ fs) h = (
    record { at = h.0.at; setting = h.0.setting; form = form_kept old.domains new.domains (boxes_kept old new g) o e this h.0.at f h.0.form },
    within_kept bs fs h.1,
  )

  pub parts_kept : (bs : Bodies) (ps : List Part) → All (IsPartOf o old.domains p this bs) ps → All (IsPartOf o new.domains p this bs) ps
  parts_kept bs ps h =
      All-weaker (IsPartOf o old.domains p this bs) (IsPartOf o new.domains p this bs) (λ q i. record {
        kept = variable_kept old.domains new.domains (boxes_kept old new g) q.kept i.kept;
        bodies = within_kept bs q.bodies.items i.bodies;
      }) ps h

pub kept_push : (ps : List Part) (p : Part) (a : List ℤ) → kept_values (ps ++ p ∷ []) a ≡ kept_values ps a ++ cond (truth_at p.kept a) (body_values p a ∷ []) []
kept_push ps p a = kept_values-append ps (p ∷ []) a

pub given_next : (keep : ℕ → Bool) (values : ℕ → List Value) (m : Member) (ms : List Member) (a : List ℤ) → given keep values (m ∷ ms) a ≡ cond (truth_at m.is a && keep m.object) (values m.object ∷ []) [] ++ given keep values ms a
given_next keep values m ms a = by (truth_at m.is a) (keep m.object) refl
  where
    by : (b d : Bool) → keep m.object ≡ d → map values (filter keep (cond b (m.object ∷ members_at ms a) (members_at ms a))) ≡ cond (b && d) (values m.object ∷ []) [] ++ given keep values ms a
    by true true e = ap (λ (z : Bool). map values (cond z (m.object ∷ filter keep (members_at ms a)) (filter keep (members_at ms a)))) e
    by true false e = ap (λ (z : Bool). map values (cond z (m.object ∷ filter keep (members_at ms a)) (filter keep (members_at ms a)))) e
    by false d e = refl

-- ---- parts by their bodies

module _ (o : Outline) (boxes : Boxes) (p : Place) (this : Option ℕ) where
  body_truths : (bs : Bodies) (fs : List Form) → AreWithin o boxes p this bs fs → All (λ f. HasVariable (length boxes) (truth_part f)) fs
  body_truths bs [] h = All-nil (λ f. HasVariable (length boxes) (truth_part f))
  body_truths NoBody (f ∷ fs) h = absurd h
  body_truths (Body e bs) (f ∷ fs) h = All-cons (λ f. HasVariable (length boxes) (truth_part f)) f fs h.0.form.truth (body_truths bs fs h.1)

  body_numbers : (bs : Bodies) (fs : List Form) → AreWithin o boxes p this bs fs → All (λ f. IsLinear (2 ^ 58) boxes (number_part f)) fs
  body_numbers bs [] h = All-nil (λ f. IsLinear (2 ^ 58) boxes (number_part f))
  body_numbers NoBody (f ∷ fs) h = absurd h
  body_numbers (Body e bs) (f ∷ fs) h = All-cons (λ f. IsLinear (2 ^ 58) boxes (number_part f)) f fs h.0.form.number.linear (body_numbers bs fs h.1)

  first_body : (bs : Bodies) (fs : List Form) → AreWithin o boxes p this bs fs → IsSum boxes (body_interval o bs 0).low (body_interval o bs 0).high (first_number fs)
  first_body NoBody [] h = no_number boxes _ _ refl refl
  first_body NoBody (f ∷ fs) h = absurd h
  first_body (Body e bs) [] h = absurd h
  first_body (Body e bs) (f ∷ fs) h = h.0.form.number

  second_body : (bs : Bodies) (fs : List Form) → AreWithin o boxes p this bs fs → IsSum boxes (body_interval o bs 1).low (body_interval o bs 1).high (second_number fs)
  second_body NoBody [] h = no_number boxes _ _ refl refl
  second_body NoBody (f ∷ fs) h = absurd h
  second_body (Body e bs) [] h = absurd h
  second_body (Body e NoBody) (f ∷ []) h = no_number boxes _ _ refl refl
  second_body (Body e NoBody) (f ∷ g ∷ fs) h = absurd h.1
  second_body (Body e (Body d bs)) (f ∷ []) h = absurd h.1
  second_body (Body e (Body d bs)) (f ∷ g ∷ fs) h = h.1.0.form.number

  pub first_parts : (bs : Bodies) (ps : List Part) → All (IsPartOf o boxes p this bs) ps → All (IsPart boxes (body_interval o bs 0)) ps
  first_parts bs ps h =
      All-weaker (IsPartOf o boxes p this bs) (IsPart boxes (body_interval o bs 0)) (λ q i. record {
        truths = record { kept = i.kept; bodies = body_truths bs q.bodies.items i.bodies };
        numbers = body_numbers bs q.bodies.items i.bodies;
        first_is = first_body bs q.bodies.items i.bodies;
      }) ps h

  pub parts_there : (q : QuantKind) (n : ℕ) (bs : Bodies) (ps : List Part) → All (IsPartOf o boxes p this bs) ps → length ps ≤ n → is_narrow (quantifier_interval q n (body_interval o bs 0) (body_interval o bs 1)) ≡ true → AreParts boxes q ps
  parts_there q n bs ps h few narrow = record {
    first = body_interval o bs 0;
    second = body_interval o bs 1;
    parts = first_parts bs ps h;
    narrow = narrow_fewer q (length ps) n (body_interval o bs 0) (body_interval o bs 1) few narrow;
  }

  -- ---- members that are compared

  no_first : (fs : List Form) → AreWithin o boxes p this NoBody fs → IsFormOf o boxes type.Truth (first_form fs)
  no_first [] h = tt
  no_first (f ∷ fs) h = absurd h

  first_typed : (e : Tree) (bs : Bodies) (ty : ExprType) (fs : List Form) → tree_type o e p ≡ Some ty → AreWithin o boxes p this (Body e bs) fs → IsFormOf o boxes ty (first_form fs)
  first_typed e bs ty [] is h = absurd h
  first_typed e bs ty (f ∷ fs) is h = h.0.form.typed p ty h.0.setting is

  no_list : (b : Bool) → not b ≡ true → b ≡ false
  no_list true e = cc
  no_list false e = refl

  no_object_list : (ty : ExprType) → is_object ty ≡ true → is_list ty ≡ false
  no_object_list (type.Object c) e = refl
  no_object_list type.Int e = cc
  no_object_list type.Truth e = cc
  no_object_list (type.Choice d) e = cc
  no_object_list (type.Objects c) e = cc
  no_object_list (type.Class c) e = cc

  compared : (q : QuantKind) (ty : ExprType) → compares_members q ≡ true → meets (body_need q 0) ty ≡ true → is_list ty ≡ false
  compared kind.AllDifferent ty k e = no_list (is_list ty) e
  compared kind.Pack ty k e = no_object_list ty e
  compared kind.Forall ty k e = cc
  compared kind.Exists ty k e = cc
  compared kind.Sum ty k e = cc
  compared kind.Count ty k e = cc

  met : (n : Need) (t : Option ExprType) (ty : ExprType) → t ≡ Some ty → has n t ≡ true → meets n ty ≡ true
  met n t ty is h = subst (λ (z : Option ExprType). has n z ≡ true) is h

  pub parts_alike : (q : QuantKind) (bs : Bodies) (ps : List Part) → compares_members q ≡ true → bodies_fit o q bs 0 p ≡ true → All (IsPartOf o boxes p this bs) ps → AreAlike boxes ps
  parts_alike q NoBody ps k fit h = record {
    outline = o;
    type = type.Truth;
    comparable = refl;
    typed = All-weaker (IsPartOf o boxes p this NoBody) (λ r. IsFormOf o boxes type.Truth (first_form r.bodies.items)) (λ r i. no_first r.bodies.items i.bodies) ps h;
  }
  parts_alike q (Body e bs) ps k fit h =
      let m = and_parts (has (body_need q 0) (tree_type o e p)) _ fit in
      let t = typed_of_has (body_need q 0) (tree_type o e p) m.0 in
      record {
        outline = o;
        type = t.type_is;
        comparable = compared q t.type_is k (met (body_need q 0) (tree_type o e p) t.type_is t.there m.0);
        typed = All-weaker (IsPartOf o boxes p this (Body e bs)) (λ r. IsFormOf o boxes t.type_is (first_form r.bodies.items)) (λ r i. first_typed e bs t.type_is r.bodies.items t.there i.bodies) ps h;
      }

  pub parts_sized : (n : ℕ) (bs : Bodies) (ps : List Part) → All (IsPartOf o boxes p this bs) ps → length ps ≤ n → is_narrow (many n (body_interval o bs 1)) ≡ true → AreSizes boxes ps
  parts_sized n bs ps h few narrow = record {
    second = body_interval o bs 1;
    sizes = All-weaker (IsPartOf o boxes p this bs) (λ r. IsSum boxes (body_interval o bs 1).low (body_interval o bs 1).high (second_number r.bodies.items)) (λ r i. second_body bs r.bodies.items i.bodies) ps h;
    narrow = narrow_fewer kind.Pack (length ps) n (body_interval o bs 0) (body_interval o bs 1) few narrow;
  }
