-- What making the parts of a quantifier comes to. What a reader believes after this file: in every
-- world the parts that are kept give the values of the bodies at the members that the filter keeps,
-- in order; and without a filter all parts of a path of parts are kept in any case.
use Rattle.std.specs.Prelude.{◌≡◌, Bool, true, ℕ, ◌≤◌, ◌&&◌, Some, Contains, List, [], ◌∷◌, map, filter, ℤ, Option, length}
use Rattle.std.specs.List.{All}
use Rattle.class_table.specs.Outline.{Outline}
use Rattle.conf_types.specs.Readings.{list_class}
use Rattle.conf_types.specs.Typing.{Place, inside, tree_type}
use Rattle.object_alloc.specs.Cells.{extent}
use Rattle.conf_eval.specs.Fitting.{Fits}
use Rattle.conf_types.specs.Trees.{Tree, Filter, NoFilter, Bodies, NoBody, Body}
use Rattle.conf_syntax.specs.declared.tree.QuantKind.{QuantKind}
use Rattle.conf_syntax.specs.declared.tree.QuantKind.TheVariants as kind
use Rattle.signed_clause.specs.Clauses.{Boxes}
use Rattle.ground_form.specs.declared.ground.Ground.{Ground}
use Rattle.form_build.specs.Forms.{truth_at, HasVariable}
use Rattle.form_build.specs.declared.form.Truth.{Truth}
use Rattle.form_build.specs.declared.form.Truth.TheVariants as truth
use Rattle.form_build.specs.Worlds.{IsWorld, AreKnown}
use Rattle.conf_eval.specs.declared.value.Value.{Value}
use Rattle.conf_eval.specs.Meaning.{Setting, bind, value, keeps, values_of, objects_of}
use Rattle.conf_limits.specs.Measures.{reach}
use Rattle.expr_forms.specs.declared.form.Form.{Form}
use Rattle.expr_forms.specs.declared.form.Member.{Member}
use Rattle.expr_forms.specs.FormBounds.{IsForm, IsGroundForm}
use Rattle.expr_forms.specs.FormValues.{members_at}
use Rattle.expr_forms.specs.Standing.{bare_setting, world_setting}
use Rattle.quantifier_forms.specs.declared.part.Part.{Part}
use Rattle.quantifier_forms.specs.PartValues.{kept_values}
use Rattle.pairwise_forms.specs.Wholes.{AreKept}
use Rattle.ground_expr.specs.Fixed.{is_fixed_path}

-- the filter of a quantifier of this kind; the last two kinds have none
abbrev pub own_filter : QuantKind → Filter → Filter
own_filter kind.Forall f = f
own_filter kind.Exists f = f
own_filter kind.Sum f = f
own_filter kind.Count f = f
own_filter kind.AllDifferent f = NoFilter
own_filter kind.Pack f = NoFilter

-- the values of the bodies at the members that the filter keeps
abbrev pub values_over : Tree → Filter → Bodies → Setting → List (List Value)
values_over over f bs s =
    map (λ x. values_of bs (bind s x)) (filter (λ x. keeps f (bind s x))
    (objects_of (value over s)))

-- the forms stand for the bodies, each for its own
abbrev pub AreBodies : Outline → Ground → List (ℕ × ℤ) → Bodies → Option ℕ → List ℕ → List Form
    → Type 0
AreBodies o g known NoBody this vars [] = Unit {0}
AreBodies o g known NoBody this vars (f ∷ fs) = ⊥
AreBodies o g known (Body e bs) this vars [] = ⊥
AreBodies o g known (Body e bs) this vars (f ∷ fs) =
    IsGroundForm o g known e this vars f × AreBodies o g known bs this vars fs

-- a body's form is that of the body at the place, for some object of the quantifier's variable
pub record IsBody (o : Outline) (boxes : Boxes) (p : Place) (this : Option ℕ) (e : Tree) (f : Form) : Type 0 where
  pub at : List ℕ
  pub setting : Fits o [] p (bare_setting o this at)
  pub form : IsForm o boxes e this at f

abbrev pub AreWithin : Outline → Boxes → Place → Option ℕ → Bodies → List Form → Type 0
AreWithin o boxes p this NoBody [] = Unit {0}
AreWithin o boxes p this NoBody (f ∷ fs) = ⊥
AreWithin o boxes p this (Body e bs) [] = ⊥
AreWithin o boxes p this (Body e bs) (f ∷ fs) =
    IsBody o boxes p this e f × AreWithin o boxes p this bs fs

pub record IsPartOf (o : Outline) (boxes : Boxes) (p : Place) (this : Option ℕ) (bs : Bodies) (q : Part) : Type 0 where
  pub kept : HasVariable (length boxes) q.kept
  pub bodies : AreWithin o boxes p this bs q.bodies.items

pub record ArePartsOf (o : Outline) (g : Ground) (known : List (ℕ × ℤ)) (over : Tree) (f : Filter) (bs : Bodies) (this : Option ℕ) (vars : List ℕ) (parts : List Part) : Type 0 where
  pub value : (a : List ℤ) → IsWorld g a → AreKnown known a → kept_values parts a
      ≡ values_over over f bs (world_setting o g a this vars)
  pub each : (p : Place) (c : ℕ) → Fits o [] p (bare_setting o this vars)
      → list_class (tree_type o over p) ≡ Some c → All (IsPartOf o g.domains (inside p c) this bs)
      parts
  pub few : length parts ≤ reach o over
  pub kept : f ≡ NoFilter → is_fixed_path over ≡ true → AreKept parts

-- the objects that may be members, each with its truth: in every world those whose truth holds are
-- the list; of a path of parts all hold in any case
pub record AreMembersOf (o : Outline) (g : Ground) (known : List (ℕ × ℤ)) (e : Tree) (this : Option ℕ) (vars : List ℕ) (ms : List Member) : Type 0 where
  pub value : (a : List ℤ) → IsWorld g a → AreKnown known a
      → objects_of (value e (world_setting o g a this vars)) ≡ members_at ms a
  pub variables : All (λ (m : Member). HasVariable (length g.domains) m.is) ms
  pub objects : (p : Place) (c : ℕ) → Fits o [] p (bare_setting o this vars)
      → list_class (tree_type o e p) ≡ Some c → All (λ (m : Member). Contains (extent o c) m.object)
      ms
  pub few : length ms ≤ reach o e
  pub sure : is_fixed_path e ≡ true → All (λ (m : Member). m.is ≡ truth.Fixed true) ms

-- the truth that an object is a member which the filter keeps; without one it is that it is a
-- member
pub record IsKept (o : Outline) (g : Ground) (known : List (ℕ × ℤ)) (is : Truth) (f : Filter) (this : Option ℕ) (vars : List ℕ) (t : Truth) : Type 0 where
  pub variable : HasVariable (length g.domains) t
  pub value : (a : List ℤ) → IsWorld g a → AreKnown known a → truth_at t a
      ≡ (truth_at is a && keeps f (world_setting o g a this vars))
  pub same : f ≡ NoFilter → t ≡ is

-- what these possible members give: the values at those that are members and are kept
abbrev pub given : (ℕ → Bool) → (ℕ → List Value) → List Member → List ℤ → List (List Value)
given keep values ms a = map values (filter keep (members_at ms a))
