-- What stands inside of a quantifier that stands somewhere.
use Rattle.std.proofs.Common.{◌≡◌, ℕ, suc, true, ◌&&◌, List, [], ◌∷◌, ◌++◌, Option, None, Some, refl, subst}
use Rattle.std.proofs.lemmas.Bool.{and_parts}
use Rattle.class_table.specs.Outline.{Outline}
use Rattle.conf_syntax.specs.declared.tree.QuantKind.{QuantKind}
use Rattle.conf_types.specs.declared.types.ExprType.{ExprType}
use Rattle.conf_types.specs.declared.types.Need.TheVariants as need
use Rattle.conf_types.specs.Readings.{has, list_class}
use Rattle.conf_types.specs.Trees.{Tree, Filter, NoFilter, Where, Bodies, NoBody, Body}
use Rattle.conf_types.specs.Trees as tree
use Rattle.conf_types.specs.Types.{body_need}
use Rattle.conf_types.specs.Typing.{inside, within, tree_type, filter_fits, bodies_fit}
use Rattle.conf_eval.specs.Evaluating.{AllEvaluable}
use Rattle.conf_eval.specs.Fitting.{IsEvaluableFilter, AreEvaluable}
use Rattle.conf_eval.specs.Meaning.{Setting}
use Rattle.conf_limits.specs.Measures.{narrow, filter_narrow, bodies_narrow}
use Rattle.conf_eval.proofs.LawsIntervals.{typed_of_has}
use Rattle.conf_eval.proofs.LawsNarrow.{inner_fits}
use Rattle.conf_eval.proofs.LawsValues.{quantifier_typed}
use Rattle.expr_forms.specs.Standing.{IsStanding, bare_setting}
use Rattle.ground_expr.specs.Insides.{IsOver}

all_evaluable : (o : Outline) (q : QuantKind) (n : ℕ) (bs : Bodies) (s : Setting) → AreEvaluable o [] q n bs s → AllEvaluable o [] bs s
all_evaluable o q n NoBody s e = tt
all_evaluable o q n (Body t bs) s e =
    let m = and_parts (has (body_need q n) (tree_type o t e.place)) _ e.typed in
    let g = typed_of_has (body_need q n) (tree_type o t e.place) m.0 in
    let k = and_parts (narrow o t) (bodies_narrow o bs) e.numbers in (
      record { place = e.place; type = g.type_is; setting = e.setting; typed = g.there; numbers = k.0 },
      all_evaluable o q (suc n) bs s (record { place = e.place; setting = e.setting; typed = m.1; numbers = k.1 }),
    )

over_typed : (t : Option ExprType) (c : ℕ) → list_class t ≡ Some c → (ty : ExprType) × (t ≡ Some ty)
over_typed None c h = cc
over_typed (Some ty) c h = (ty, refl)

module _ (o : Outline) (this : Option ℕ) (vars : List ℕ) where
  pub in_filter : (t : Tree) → IsEvaluableFilter o [] (Where t) (bare_setting o this vars) → IsStanding o t this vars
  in_filter t e =
      let g = typed_of_has need.Truth (tree_type o t e.place) e.typed in
      record { place = e.place; type = g.type_is; setting = e.setting; typed = g.there; numbers = e.numbers }

  pub over_stands : (i : ℕ) (q : QuantKind) (over : Tree) (f : Filter) (bs : Bodies) → IsStanding o (tree.Quant i q over f bs) this vars → IsOver o over f bs this vars
  over_stands i q over f bs e =
      let g = quantifier_typed q (list_class (tree_type o over e.place)) _ e.type e.typed in
      let t = over_typed (tree_type o over e.place) g.class g.over_is in
      let n = (and_parts (narrow o over && (filter_narrow o f && bodies_narrow o bs)) _ e.numbers).0 in
      let k = and_parts (narrow o over) (filter_narrow o f && bodies_narrow o bs) n in
      let m = and_parts (filter_narrow o f) (bodies_narrow o bs) k.1 in
      let fits = and_parts (filter_fits o f (within e.place (list_class (tree_type o over e.place)))) _ g.parts_fit in
      let filter : filter_fits o f (inside e.place g.class) ≡ true = subst (λ l. filter_fits o f (within e.place l) ≡ true) g.over_is fits.0 in
      let bodies : bodies_fit o q bs 0 (inside e.place g.class) ≡ true = subst (λ l. bodies_fit o q bs 0 (within e.place l) ≡ true) g.over_is fits.1 in
      record {
        class = g.class;
        place = e.place;
        setting = e.setting;
        listed = g.over_is;
        over = record { place = e.place; type = t.0; setting = e.setting; typed = t.1; numbers = k.0 };
        inside = λ x h.
            let there = inner_fits o [] e.place (bare_setting o this vars) g.class x e.setting h in
            record {
              filter = record { place = inside e.place g.class; setting = there; typed = filter; numbers = m.0 };
              bodies = all_evaluable o q 0 bs (bare_setting o this (vars ++ x ∷ [])) (record { place = inside e.place g.class; setting = there; typed = bodies; numbers = m.1 });
            };
      }

  -- without its filter it stands too
  pub without_filter : (over : Tree) (f : Filter) (bs : Bodies) → IsOver o over f bs this vars → IsOver o over NoFilter bs this vars
  without_filter over f bs h = record {
    class = h.class;
    place = h.place;
    setting = h.setting;
    listed = h.listed;
    over = h.over;
    inside = λ x c. let i = h.inside x c in record {
      filter = record { place = i.filter.place; setting = i.filter.setting; typed = refl; numbers = refl };
      bodies = i.bodies;
    };
  }
