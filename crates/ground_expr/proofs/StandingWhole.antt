-- Quantifiers that stand as constraints of their own: from their parts, and in what the problem
-- grows to.
use Rattle.std.proofs.Common.{◌≡◌, ℕ, suc, ◌<◌, Bool, true, false, ◌&&◌, cond, List, [], ◌∷◌, ℤ, Option, length, take, refl, sym, ap, ◌∙◌, subst, arith}
use Rattle.std.specs.Prelude.{filter}
use Rattle.std.proofs.lemmas.List.{length-map}
use Rattle.std.proofs.lemmas.List.Elements.{All-head, All-tail}
use Rattle.class_table.specs.Outline.{Outline}
use Rattle.conf_syntax.specs.declared.tree.QuantKind.{QuantKind}
use Rattle.conf_syntax.specs.declared.tree.QuantKind.TheVariants as kind
use Rattle.conf_types.specs.Trees.{Tree, Filter, NoFilter, Bodies}
use Rattle.conf_types.specs.Trees as tree
use Rattle.conf_types.specs.TreeOf.{quant_tree}
use Rattle.conf_types.specs.declared.tree.RQuant as quant
use Rattle.conf_eval.specs.declared.value.Value.{Value}
use Rattle.conf_eval.specs.Meaning.{bind, value, values_of, objects_of}
use Rattle.conf_eval.proofs.EvalLaws.{quant_is}
use Rattle.ground_form.specs.declared.ground.Ground.{Ground}
use Rattle.form_build.specs.declared.form.Truth.{Truth}
use Rattle.form_build.specs.declared.form.Truth.TheVariants as truth
use Rattle.form_build.specs.Forms.{truth_at}
use Rattle.form_build.specs.Worlds.{IsWorld, AreKnown, Grows}
use Rattle.form_build.proofs.Growth.{world_before, grows_none}
use Rattle.expr_forms.specs.Standing.{world_setting}
use Rattle.quantifier_forms.specs.declared.part.Part.{Part}
use Rattle.quantifier_forms.specs.PartValues.{body_values, kept_values}
use Rattle.quantifier_forms.specs.Quantified.{compares_members}
use Rattle.pairwise_forms.specs.Wholes.{AreKept}
use Rattle.pairwise_forms.proofs.HasWholes.{different_still, packing_still}
use Rattle.ground_expr.specs.Bodies.{own_filter, values_over, ArePartsOf}
use Rattle.ground_expr.specs.Fixed.{is_fixed_path}
use Rattle.ground_expr.specs.StandsWhole.{HasWhole, StandsWhole}

-- ---- in what the problem grows to

pub whole_still : (q : QuantKind) (old new : Ground) (n : ℕ) (P Q : List ℤ → Type 0) (vs ws : List ℤ → List (List Value)) → Grows old new → ((a : List ℤ) → IsWorld new a → Q a → P a) → ((a : List ℤ) → IsWorld new a → Q a → vs a ≡ ws a) → HasWhole q old n P vs → HasWhole q new n Q ws
whole_still kind.AllDifferent old new n P Q vs ws g only same h = λ two few. different_still old new n P Q vs ws g only same (h two few)
whole_still kind.Pack old new n P Q vs ws g only same h = λ two few. packing_still old new n P Q vs ws g only same (h two few)
whole_still kind.Forall old new n P Q vs ws g only same h = tt
whole_still kind.Exists old new n P Q vs ws g only same h = tt
whole_still kind.Sum old new n P Q vs ws g only same h = tt
whole_still kind.Count old new n P Q vs ws g only same h = tt

quant_still : (o : Outline) (this : Option ℕ) (vars : List ℕ) (old new : Ground) (P Q : List ℤ → Type 0) (i : ℕ) (q : QuantKind) (over : Tree) (f : Filter) (bs : Bodies) → Grows old new → ((a : List ℤ) → IsWorld new a → Q a → P a) → StandsWhole o old P (tree.Quant i q over f bs) this vars → StandsWhole o new Q (tree.Quant i q over f bs) this vars
quant_still o this vars old new P Q i q over f bs g only h path w world premise =
    let before = λ (a : List ℤ). values_over over NoFilter bs (world_setting o old a this vars) in
    let now = λ (a : List ℤ). values_over over NoFilter bs (world_setting o new a this vars) in
    subst (λ (k : ℕ). HasWhole q new (length (objects_of (value over (record { outline = o; values = take k w; this = this; vars = vars })))) Q now) (sym g.search)
    (whole_still q old new _ P Q before now g only
    (λ a x y. ap (λ (k : ℕ). values_over over NoFilter bs (record { outline = o; values = take k a; this = this; vars = vars })) (sym g.search))
    (h path w (world_before old new w g world) (only w world premise)))

pub stands_still : (o : Outline) (this : Option ℕ) (vars : List ℕ) (old new : Ground) (P Q : List ℤ → Type 0) (t : Tree) → Grows old new → ((a : List ℤ) → IsWorld new a → Q a → P a) → StandsWhole o old P t this vars → StandsWhole o new Q t this vars
stands_still o this vars old new P Q (tree.Paren i e) g only h = stands_still o this vars old new P Q e g only h
stands_still o this vars old new P Q (tree.Quant i q over f bs) g only h = quant_still o this vars old new P Q i q over f bs g only h
stands_still o this vars old new P Q t g only h = tt

-- the place of a quantifier is none of its meaning
pub stands_moved : (o : Outline) (this : Option ℕ) (vars : List ℕ) (g : Ground) (P : List ℤ → Type 0) (q : quant.RQuant) (i j : ℕ) → StandsWhole o g P (quant_tree q i) this vars → StandsWhole o g P (quant_tree q j) this vars
stands_moved o this vars g P q i j h =
    subst (λ (z : Tree). StandsWhole o g P z this vars) (sym (quant_is q j)) (subst (λ (z : Tree). StandsWhole o g P z this vars) (quant_is q i) h)

-- ---- what is not compared, or not over a path of parts

pub not_compared : (o : Outline) (this : Option ℕ) (vars : List ℕ) (g : Ground) (P : List ℤ → Type 0) (i : ℕ) (q : QuantKind) (over : Tree) (f : Filter) (bs : Bodies) → (compares_members q && is_fixed_path over) ≡ false → StandsWhole o g P (tree.Quant i q over f bs) this vars
not_compared o this vars g P i kind.AllDifferent over f bs e = λ path. absurd (never (is_fixed_path over) e path)
  where
    never : (b : Bool) → b ≡ false → b ≡ true → ⊥
    never true e h = cc
    never false e h = cc
not_compared o this vars g P i kind.Pack over f bs e = λ path. absurd (never (is_fixed_path over) e path)
  where
    never : (b : Bool) → b ≡ false → b ≡ true → ⊥
    never true e h = cc
    never false e h = cc
not_compared o this vars g P i kind.Forall over f bs e = λ path w world premise. tt
not_compared o this vars g P i kind.Exists over f bs e = λ path w world premise. tt
not_compared o this vars g P i kind.Sum over f bs e = λ path w world premise. tt
not_compared o this vars g P i kind.Count over f bs e = λ path w world premise. tt

-- fewer than two members have none, and more than can be packed none either
pub too_few : (q : QuantKind) (g : Ground) (n : ℕ) (P : List ℤ → Type 0) (vs : List ℤ → List (List Value)) → n < 2 → HasWhole q g n P vs
too_few kind.AllDifferent g n P vs lt = λ two few. absurd (omega (arith, lt, two))
too_few kind.Pack g n P vs lt = λ two few. absurd (omega (arith, lt, two))
too_few kind.Forall g n P vs lt = tt
too_few kind.Exists g n P vs lt = tt
too_few kind.Sum g n P vs lt = tt
too_few kind.Count g n P vs lt = tt

-- ---- from parts that are kept in any case

kept_count : (ps : List Part) (a : List ℤ) → AreKept ps → length (kept_values ps a) ≡ length ps
kept_count [] a h = refl
kept_count (p ∷ ps) a h =
    ap (λ (t : Truth). length (cond (truth_at t a) (body_values p a ∷ kept_values ps a) (kept_values ps a))) (All-head (λ (q : Part). q.kept ≡ truth.Fixed true) p ps h)
    ∙ ap (λ (n : ℕ). suc n) (kept_count ps a (All-tail (λ (q : Part). q.kept ≡ truth.Fixed true) p ps h))

all_stay : (xs : List ℕ) → length (filter (λ (x : ℕ). true) xs) ≡ length xs
all_stay [] = refl
all_stay (x ∷ xs) = ap (λ (n : ℕ). suc n) (all_stay xs)

module _ (o : Outline) (known : List (ℕ × ℤ)) (this : Option ℕ) (vars : List ℕ) (mid new : Ground) (i : ℕ) (over : Tree) (bs : Bodies) (ps : List Part) (are : ArePartsOf o mid known over NoFilter bs this vars ps) (g : Grows mid new) where
  parts_give : (a : List ℤ) → IsWorld new a → AreKnown known a → kept_values ps a ≡ values_over over NoFilter bs (world_setting o new a this vars)
  parts_give a w kn =
      are.value a (world_before mid new a g w) kn
      ∙ ap (λ (n : ℕ). values_over over NoFilter bs (record { outline = o; values = take n a; this = this; vars = vars })) (sym g.search)

  part_count : (a : List ℤ) → IsWorld new a → AreKnown known a → AreKept ps → length ps ≡ length (objects_of (value over (world_setting o new a this vars)))
  part_count a w kn kept =
      let s = world_setting o new a this vars in
      sym (kept_count ps a kept) ∙ ap length (parts_give a w kn)
      ∙ length-map (filter (λ (x : ℕ). true) (objects_of (value over s))) (λ x. values_of bs (bind s x))
      ∙ all_stay (objects_of (value over s))

  parts_whole : (q : QuantKind) (f : Filter) → (AreKept ps → HasWhole q new (length ps) (λ a. Unit {0}) (λ a. kept_values ps a)) → StandsWhole o new (AreKnown known) (tree.Quant i q over f bs) this vars
  parts_whole q f h path w world kn =
      let kept = are.kept refl path in
      let now = λ (a : List ℤ). values_over over NoFilter bs (world_setting o new a this vars) in
      subst (λ (n : ℕ). HasWhole q new n (AreKnown known) now) (part_count w world kn kept)
      (whole_still q new new (length ps) (λ a. Unit {0}) (AreKnown known) (λ a. kept_values ps a) now (grows_none new) (λ a x y. tt) parts_give (h kept))

-- of a quantifier whose kind has no filter; the others have nothing that stands
pub stands_parts : (o : Outline) (known : List (ℕ × ℤ)) (this : Option ℕ) (vars : List ℕ) (mid new : Ground) (i : ℕ) (q : QuantKind) (over : Tree) (f : Filter) (bs : Bodies) (ps : List Part) → ArePartsOf o mid known over (own_filter q f) bs this vars ps → Grows mid new →
    (AreKept ps → HasWhole q new (length ps) (λ a. Unit {0}) (λ a. kept_values ps a)) → StandsWhole o new (AreKnown known) (tree.Quant i q over f bs) this vars
stands_parts o known this vars mid new i kind.AllDifferent over f bs ps are g h = parts_whole o known this vars mid new i over bs ps are g kind.AllDifferent f h
stands_parts o known this vars mid new i kind.Pack over f bs ps are g h = parts_whole o known this vars mid new i over bs ps are g kind.Pack f h
stands_parts o known this vars mid new i kind.Forall over f bs ps are g h = λ path w world premise. tt
stands_parts o known this vars mid new i kind.Exists over f bs ps are g h = λ path w world premise. tt
stands_parts o known this vars mid new i kind.Sum over f bs ps are g h = λ path w world premise. tt
stands_parts o known this vars mid new i kind.Count over f bs ps are g h = λ path w world premise. tt
