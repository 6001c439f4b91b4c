-- A well made problem stays well made as it grows.
use Rattle.std.proofs.Common.{◌≡◌, ℕ, zero, suc, ◌-◌, ◌^◌, ◌<◌, ◌≤◌, List, [], ◌∷◌, ◌++◌, length, length-append, All, arith, refl, sym, ap, ◌∙◌, subst, Some, None, ◌⊎◌, inl, inr}
use Rattle.std.specs.Prelude.{slice_get}
use Rattle.std.proofs.lemmas.Bool.{cases_lt}
use Rattle.std.proofs.lemmas.Option.{get_or_from_slice_get, slice_get_within}
use Rattle.std.proofs.lemmas.List.Elements.{All-append}
use Rattle.signed_clause.specs.Ranges.{Ranges, IsValid}
use Rattle.ground_form.specs.declared.con.Con.{Con}
use Rattle.ground_form.specs.declared.ground.Ground.{Ground}
use Rattle.ground_form.specs.declared.ground.GroundGoal.{GroundGoal}
use Rattle.ground_form.specs.WellMade.{defined_by, IsWellMadeCon, IsDefinedAt, IsWellMade}
use Rattle.ground_build.specs.Growing.{with_definition, with_constraint, with_goals, HasRoom}
use Rattle.ground_build.specs.Defining.{IsNewDefinition, IsNewStatement}
use Rattle.ground_build.proofs.Appended.{well_made_con_kept, defined_named}

pub only_con : (P : Con → Type 0) (c : Con) → P c → All P (c ∷ [])
only_con P c p zero d lt = p
only_con P c p (suc k) d lt = absurd (omega arith)

only_set : (P : Ranges → Type 0) (r : Ranges) → P r → All P (r ∷ [])
only_set P r p zero d lt = p
only_set P r p (suc k) d lt = absurd (omega arith)

some_same : (x y : ℕ) → Some x ≡ Some y → x ≡ y
some_same x y e = cc

none_some : (x : ℕ) → (None ≡ Some x) → ⊥
none_some x e = cc

-- ---- the constraints behind one more

get_front : (xs : List Con) (y : Con) (k : ℕ) (c : Con) → slice_get xs k ≡ Some c → slice_get (xs ++ y ∷ []) k ≡ Some c
get_front [] y k c e = absurd cc
get_front (x ∷ xs) y zero c e = e
get_front (x ∷ xs) y (suc k) c e = get_front xs y k c e

get_last : (xs : List Con) (y : Con) → slice_get (xs ++ y ∷ []) (length xs) ≡ Some y
get_last [] y = refl
get_last (x ∷ xs) y = get_last xs y

get_split : (xs : List Con) (y : Con) (j : ℕ) (c : Con) → slice_get (xs ++ y ∷ []) j ≡ Some c → (slice_get xs j ≡ Some c) ⊎ ((j ≡ length xs) × (y ≡ c))
get_split [] y zero c e = inr (refl, cc)
get_split [] y (suc j) c e = absurd cc
get_split (x ∷ xs) y zero c e = inl e
get_split (x ∷ xs) y (suc j) c e = elim (get_split xs y j c e) [ inl h ↦ inl h | inr h ↦ inr (ap suc h.0, h.1) ]

defined_front : (cons : List Con) (con : Con) (x k : ℕ) → (defined_by con ≡ Some x → ⊥) → IsDefinedAt cons x k → IsDefinedAt (cons ++ con ∷ []) x k
defined_front cons con x k other d = record {
  there = (d.there.0, get_front cons con k d.there.0 d.there.1, d.there.2, d.there.3);
  alone = λ j c at by. elim (get_split cons con j c at) [ inl h ↦ d.alone j c h by | inr h ↦ absurd (other (ap defined_by h.1 ∙ by)) ];
}

-- no constraint of a well made problem defines a variable that isn't there
not_defined : (g : Ground) → IsWellMade g → (j : ℕ) (c : Con) → slice_get g.cons j ≡ Some c → defined_by c ≡ Some (length g.domains) → ⊥
not_defined g w j c at by =
    let here = get_or_from_slice_get g.cons j c c at in
    let made = subst (λ (z : Con). IsWellMadeCon g.domains z) here (w.constraints j c (slice_get_within g.cons j c at)) in
    let lt = defined_named c (length g.domains) (length g.domains) by made.named in omega arith

-- ---- a definition

defined_new : (g : Ground) (domain : Ranges) (con : Con) → IsWellMade g → IsNewDefinition g domain con → IsDefinedAt (g.cons ++ con ∷ []) (length g.domains) (length g.cons)
defined_new g domain con w n = record {
  there = (con, get_last g.cons con, n.defines, n.inputs);
  alone = λ j c at by. elim (get_split g.cons con j c at) [ inl h ↦ absurd (not_defined g w j c h by) | inr h ↦ h.0 ];
}

defined_all : (g : Ground) (domain : Ranges) (con : Con) → IsWellMade g → IsNewDefinition g domain con → (x : ℕ) → g.search ≤ x → x < length (g.domains ++ domain ∷ []) → (k : ℕ) × IsDefinedAt (g.cons ++ con ∷ []) x k
defined_all g domain con w n x low high =
    elim (cases_lt x (length g.domains)) [
      | inl h ↦ let d = w.defined x low h in (d.0, defined_front g.cons con x d.0 (λ e. let same : length g.domains ≡ x = some_same _ _ (sym n.defines ∙ e) in omega arith) d.1)
      | inr h ↦
          let same : length g.domains ≡ x = omega (arith, length-append g.domains (domain ∷ [])) in
          (length g.cons, subst (λ (z : ℕ). IsDefinedAt (g.cons ++ con ∷ []) z (length g.cons)) same (defined_new g domain con w n))
    ]

pub well_made_definition : (g : Ground) (domain : Ranges) (con : Con) → IsWellMade g → HasRoom g → IsNewDefinition g domain con → IsWellMade (with_definition g domain con)
well_made_definition g domain con w room n = record {
  few_variables = let r = room.variables in omega (arith, length-append g.domains (domain ∷ []));
  few_constraints = let r = room.constraints in omega (arith, length-append g.cons (con ∷ []));
  search = let s = w.search in omega (arith, length-append g.domains (domain ∷ []));
  defined = defined_all g domain con w n;
  constraints = All-append (λ c. IsWellMadeCon (g.domains ++ domain ∷ []) c) g.cons (con ∷ []) (λ k d lt. well_made_con_kept _ g.domains (domain ∷ []) (w.constraints k d lt)) (only_con (λ c. IsWellMadeCon (g.domains ++ domain ∷ []) c) con n.well_made);
  goals = λ k d lt. let h = w.goals k d lt in omega (arith, length-append g.domains (domain ∷ []));
  domains = All-append (λ d. IsValid d) g.domains (domain ∷ []) w.domains (only_set (λ d. IsValid d) domain n.valid);
}

-- ---- a statement

pub well_made_constraint : (g : Ground) (con : Con) → IsWellMade g → length g.cons < 2 ^ 32 - 1 → IsNewStatement g con → IsWellMade (with_constraint g con)
well_made_constraint g con w room new = record {
  few_variables = w.few_variables;
  few_constraints = omega (arith, length-append g.cons (con ∷ []));
  search = w.search;
  defined = λ x low high. let d = w.defined x low high in (d.0, defined_front g.cons con x d.0 (λ e. none_some _ (sym new.no_definition ∙ e)) d.1);
  constraints = All-append (λ c. IsWellMadeCon g.domains c) g.cons (con ∷ []) w.constraints (only_con (λ c. IsWellMadeCon g.domains c) con new.well_made);
  goals = w.goals;
  domains = w.domains;
}

pub well_made_goals : (g : Ground) (goals : List GroundGoal) → IsWellMade g → All (λ goal. goal.var < length g.domains) goals → IsWellMade (with_goals g goals)
well_made_goals g goals w h = record {
  few_variables = w.few_variables;
  few_constraints = w.few_constraints;
  search = w.search;
  defined = w.defined;
  constraints = w.constraints;
  goals = h;
  domains = w.domains;
}
