-- Definitions that stand in their places.
use Rattle.std.proofs.Common.{◌≡◌, ℕ, ◌+◌, ◌-◌, ◌<◌, ◌≤◌, List, [], pos, Some, All, length, drop, get_or, sym, subst, refl, ap, ◌∙◌, arith, inl, inr}
use Rattle.std.specs.Prelude.{slice_get}
use Rattle.std.proofs.lemmas.Bool.{cases_lt}
use Rattle.std.proofs.lemmas.Option.{slice_get-get_or, slice_get_within}
use Rattle.signed_clause.specs.Ranges.{IsValid}
use Rattle.ground_form.specs.declared.con.Con.{Con}
use Rattle.ground_form.specs.declared.con.Con.TheVariants.{LinLe, LinDef, ReifLe, AndDef, MemberDef, EqDef, ElementDef, CondDef, ClauseCon, AllDiff, Pack}
use Rattle.ground_form.specs.declared.ground.Ground.{Ground}
use Rattle.ground_form.specs.Meaning.{vars_of}
use Rattle.ground_form.specs.WellMade.{defined_by, inputs_of, IsWellMadeCon, IsDefinedAt, IsWellMade}
use Rattle.test_well_made.specs.Defined.{DoesDefine, IsPlaced, ArePlaced}

-- behind the variable that is defined stand the inputs
inputs_behind : (con : Con) (x : ℕ) → defined_by con ≡ Some x → drop 1 (vars_of con) ≡ inputs_of con
inputs_behind (LinLe ts b) x e = absurd cc
inputs_behind (LinDef y ts b) x e = refl
inputs_behind (ReifLe y ts b) x e = refl
inputs_behind (AndDef y ps) x e = refl
inputs_behind (MemberDef y z s) x e = refl
inputs_behind (EqDef y l r) x e = refl
inputs_behind (ElementDef y i ts) x e = refl
inputs_behind (CondDef y f i) x e = refl
inputs_behind (ClauseCon c) x e = absurd cc
inputs_behind (AllDiff vs) x e = absurd cc
inputs_behind (Pack is) x e = absurd cc

pub defined_from : (con : Con) (x : ℕ) (vars : List ℕ) → defined_by con ≡ Some x → vars ≡ vars_of con → All (λ y. y < x) (drop 1 vars) → DoesDefine x con
defined_from con x vars e v h = record {
  defines = e;
  inputs = subst (λ (ys : List ℕ). All (λ y. y < x) ys) (ap (λ (zs : List ℕ). drop 1 zs) v ∙ inputs_behind con x e) h;
}

pub con_there : (cons : List Con) (k : ℕ) (d : Con) → k < length cons → slice_get cons k ≡ Some (get_or cons k d)
con_there cons k d lt = slice_get-get_or cons k d lt

some_same : (x y : ℕ) → Some x ≡ Some y → x ≡ y
some_same x y e = cc

one_con : (a b : Con) → Some a ≡ Some b → a ≡ b
one_con a b e = cc

-- ---- a whole problem

defined_at : (g : Ground) (count x : ℕ) → count ≤ length g.cons → ArePlaced g.search count g.cons → g.search ≤ x → x < g.search + count → (k : ℕ) × IsDefinedAt g.cons x k
defined_at g count x enough placed low high =
    let k = x - g.search in
    let below : k < length g.cons = omega arith in
    let head : Con = get_or g.cons k (LinLe [] (pos 0)) in
    let at : slice_get g.cons k ≡ Some head = slice_get-get_or g.cons k (LinLe [] (pos 0)) below in
    let is = (placed k head at).defining (omega arith) in
    let same : g.search + k ≡ x = omega arith in (
      k,
      record {
        there = (head, at, subst (λ (z : ℕ). defined_by head ≡ Some z) same is.defines, subst (λ (z : ℕ). All (λ y. y < z) (inputs_of head)) same is.inputs);
        alone = λ j con e d. elim (cases_lt j count) [
          | inl h ↦ let other : g.search + j ≡ x = some_same _ _ (sym ((placed j con e).defining h).defines ∙ d) in omega arith
          | inr h ↦ let less = (placed j con e).other h x d in absurd (omega arith)
        ];
      },
    )

pub made_whole : (g : Ground) → length g.domains ≤ 1000000 → length g.cons ≤ 1000000 → g.search ≤ length g.domains → length g.domains - g.search ≤ length g.cons → ArePlaced g.search (length g.domains - g.search) g.cons → All (λ con. IsWellMadeCon g.domains con) g.cons → All (λ goal. goal.var < length g.domains) g.goals → All (λ s. IsValid s) g.domains → IsWellMade g
made_whole g few less is enough placed made goals sets = record {
  few_variables = omega arith;
  few_constraints = omega arith;
  search = is;
  defined = λ x from below. defined_at g (length g.domains - g.search) x enough placed from (omega arith);
  constraints = made;
  goals = goals;
  domains = sets;
}

-- ---- one constraint after another

pub placed_step : (search count i : ℕ) (cons : List Con) (head : Con) → slice_get cons i ≡ Some head → IsPlaced search count i head → ((j : ℕ) (con : Con) → j < i → slice_get cons j ≡ Some con → IsPlaced search count j con) → (j : ℕ) (con : Con) → j < i + 1 → slice_get cons j ≡ Some con → IsPlaced search count j con
placed_step search count i cons head at here before j con lt e =
    elim (cases_lt j i) [
      | inl h ↦ before j con h e
      | inr h ↦
          let same : j ≡ i = omega arith in
          let there : Some head ≡ Some con = sym at ∙ subst (λ (z : ℕ). slice_get cons z ≡ Some con) same e in
          subst (λ (z : ℕ). IsPlaced search count z con) (sym same) (subst (λ (z : Con). IsPlaced search count i z) (one_con head con there) here)
    ]

pub placed_all : (search count i : ℕ) (cons : List Con) → length cons ≤ i → ((j : ℕ) (con : Con) → j < i → slice_get cons j ≡ Some con → IsPlaced search count j con) → ArePlaced search count cons
placed_all search count i cons h before k con e =
    let below = slice_get_within cons k con e in before k con (omega arith) e
