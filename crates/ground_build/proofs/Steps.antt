-- The two steps of a builder, from its fields to the problem that they make.
use Rattle.std.proofs.Common.{◌≡◌, ℕ, ◌-◌, ◌^◌, ◌<◌, List, [], ◌∷◌, ◌++◌, length, refl, sym, ap, ◌∙◌, subst, ◌≤◌}
use Rattle.signed_clause.specs.Ranges.{Ranges}
use Rattle.signed_clause.specs.Clauses.{Boxes}
use Rattle.ground_form.specs.declared.con.Con.{Con}
use Rattle.ground_form.specs.declared.ground.Ground.{Ground}
use Rattle.ground_form.specs.WellMade.{IsWellMade}
use Rattle.ground_build.specs.Growing.{problem, with_definition, with_constraint, HasRoom, IsDefined, IsRequired}
use Rattle.ground_build.specs.Defining.{IsNewDefinition, IsNewStatement, Determines}
use Rattle.ground_build.proofs.Kept.{well_made_definition, well_made_constraint}
use Rattle.ground_build.proofs.Extended.{keeps_extensions, keeps_same}

pub definition_view : (g : Ground) (ds new_ds : Boxes) (s : ℕ) (cs new_cs : List Con) (domain : Ranges) (con : Con) → problem ds s cs ≡ g → new_ds ≡ ds ++ domain ∷ [] → new_cs ≡ cs ++ con ∷ [] → problem new_ds s new_cs ≡ with_definition g domain con
definition_view g ds new_ds s cs new_cs domain con e d c =
    ap (λ (x : Boxes). problem x s new_cs) d ∙ ap (λ (y : List Con). problem (ds ++ domain ∷ []) s y) c ∙ ap (λ (h : Ground). with_definition h domain con) e

pub statement_view : (g : Ground) (ds : Boxes) (s : ℕ) (cs new_cs : List Con) (con : Con) → problem ds s cs ≡ g → new_cs ≡ cs ++ con ∷ [] → problem ds s new_cs ≡ with_constraint g con
statement_view g ds s cs new_cs con e c = ap (λ (y : List Con). problem ds s y) c ∙ ap (λ (h : Ground). with_constraint h con) e

pub definition_made : (g new : Ground) (domain : Ranges) (con : Con) → IsWellMade g → HasRoom g → IsNewDefinition g domain con → new ≡ with_definition g domain con → IsWellMade new
definition_made g new domain con made room fits e = subst (λ (h : Ground). IsWellMade h) (sym e) (well_made_definition g domain con made room fits)

pub definition_done : (g new : Ground) (x : ℕ) (domain : Ranges) (con : Con) → IsWellMade g → HasRoom g → IsNewDefinition g domain con → Determines g.domains domain con → x ≡ length g.domains → new ≡ with_definition g domain con → IsDefined g new x domain con
definition_done g new x domain con made room fits determines at e =
    subst (λ (h : Ground). IsDefined g h x domain con) (sym e) (record {
      variable = at;
      later = subst (λ (y : ℕ). g.search ≤ y) (sym at) made.search;
      grown = refl;
      keeps = keeps_extensions g domain con made fits.defines determines;
      well_made = well_made_definition g domain con made room fits;
    })

pub statement_made : (g new : Ground) (con : Con) → IsWellMade g → length g.cons < 2 ^ 32 - 1 → IsNewStatement g con → new ≡ with_constraint g con → IsWellMade new
statement_made g new con made room fits e = subst (λ (h : Ground). IsWellMade h) (sym e) (well_made_constraint g con made room fits)

pub statement_done : (g new : Ground) (con : Con) → IsWellMade g → length g.cons < 2 ^ 32 - 1 → IsNewStatement g con → new ≡ with_constraint g con → IsRequired g new con
statement_done g new con made room fits e =
    subst (λ (h : Ground). IsRequired g h con) (sym e) (record {
      grown = refl;
      keeps = keeps_same g con fits.no_definition;
      well_made = well_made_constraint g con made room fits;
    })
