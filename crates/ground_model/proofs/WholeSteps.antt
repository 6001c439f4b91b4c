-- What stands whole, requirement by requirement, and in what the problem grows to.
use Rattle.std.proofs.Common.{◌≡◌, ℕ, ◌+◌, ◌<◌, ◌≤◌, Bool, true, false, true≢false, not, ◌||◌, List, [], ◌∷◌, ℤ, Option, None, Some, get_or, length, take, refl, sym, ap, subst}
use Rattle.std.specs.List.{All}
use Rattle.std.proofs.lemmas.List.{take_all}
use Rattle.std.proofs.lemmas.List.Elements.{All-nil, All-cons, All-head, All-tail, All-map, All-more, All-weaker}
use Rattle.class_table.specs.Outline.{Outline}
use Rattle.conf_syntax.specs.declared.tree.QuantKind.{QuantKind}
use Rattle.conf_syntax.specs.declared.tree.QuantKind.TheVariants as kind
use Rattle.conf_types.specs.Programs.{ResolvedConstraint}
use Rattle.conf_types.specs.Trees.{Tree, Filter, Bodies, NoFilter}
use Rattle.conf_types.specs.Trees as tree
use Rattle.conf_types.specs.TreeOf.{quant_tree}
use Rattle.conf_types.specs.declared.tree.RQuant as quant
use Rattle.conf_eval.proofs.EvalLaws.{quant_is}
use Rattle.conf_eval.specs.declared.value.Value.{Value}
use Rattle.conf_eval.specs.Satisfying.{stated_for}
use Rattle.object_alloc.specs.Cells.{extent}
use Rattle.ground_form.specs.declared.ground.Ground.{Ground}
use Rattle.ground_form.specs.declared.ground.GroundGoal.{GroundGoal}
use Rattle.ground_build.specs.Growing.{with_goals}
use Rattle.form_build.specs.Worlds.{IsWorld, AllHold, AreKnown, Grows}
use Rattle.form_build.proofs.Growth.{all_before, grows_none}
use Rattle.form_truths.specs.Tests.{wanted}
use Rattle.quantifier_forms.specs.Quantified.{compares_members}
use Rattle.expr_forms.specs.Standing.{world_setting}
use Rattle.ground_expr.specs.Bodies.{values_over}
use Rattle.ground_expr.specs.StandsWhole.{HasWhole, StandsWhole}
use Rattle.ground_expr.proofs.StandingWhole.{stands_still}
use Rattle.ground_model.specs.Fixing.{fixes}
use Rattle.ground_model.specs.Known.{AreFixed}
use Rattle.ground_model.specs.WholesStand.{compares, HasWholes, HasWholesIn, WholesStand}

-- ---- what compares no members

pub quant_compares : (q : quant.RQuant) (at : ℕ) → compares (quant_tree q at) ≡ compares_members (quant.out-RQuant q).kind
quant_compares q at = ap compares (quant_is q at)

no_members : (o : Outline) (g : Ground) (P : List ℤ → Type 0) (this : Option ℕ) (vars : List ℕ) (i : ℕ) (q : QuantKind) (over : Tree) (f : Filter) (bs : Bodies) → compares_members q ≡ false → StandsWhole o g P (tree.Quant i q over f bs) this vars
no_members o g P this vars i kind.AllDifferent over f bs e = absurd (true≢false e)
no_members o g P this vars i kind.Pack over f bs e = absurd (true≢false e)
no_members o g P this vars i kind.Forall over f bs e = λ path w world premise. tt
no_members o g P this vars i kind.Exists over f bs e = λ path w world premise. tt
no_members o g P this vars i kind.Sum over f bs e = λ path w world premise. tt
no_members o g P this vars i kind.Count over f bs e = λ path w world premise. tt

pub nothing_compared : (o : Outline) (g : Ground) (P : List ℤ → Type 0) (t : Tree) (this : Option ℕ) (vars : List ℕ) → compares t ≡ false → StandsWhole o g P t this vars
nothing_compared o g P (tree.Paren i e) this vars h = nothing_compared o g P e this vars h
nothing_compared o g P (tree.Quant i q over f bs) this vars h = no_members o g P this vars i q over f bs h
nothing_compared o g P t this vars h = tt

pub none_compared : (o : Outline) (g : Ground) (P : List ℤ → Type 0) (t : Tree) (ns : List ℕ) → compares t ≡ false → All (λ (n : ℕ). StandsWhole o g P t (Some n) []) ns
none_compared o g P t [] h = All-nil (λ (n : ℕ). StandsWhole o g P t (Some n) [])
none_compared o g P t (n ∷ ns) h = All-cons (λ (n : ℕ). StandsWhole o g P t (Some n) []) n ns (nothing_compared o g P t (Some n) [] h) (none_compared o g P t ns h)

-- what a packing tells
pub told : (b x : Bool) → b ≡ true → (not b || x) ≡ x
told true x e = refl
told false x e = absurd (true≢false (sym e))

-- ---- member by member

module _ (o : Outline) (known : List (ℕ × ℤ)) (t : Tree) where
  pub next_stands : (old new : Ground) (ns : List ℕ) (i n : ℕ) → Grows old new → i < length ns → n ≡ get_or ns i n → All (λ (n : ℕ). StandsWhole o old (AreKnown known) t (Some n) []) (take i ns) → StandsWhole o new (AreKnown known) t (Some n) [] → All (λ (n : ℕ). StandsWhole o new (AreKnown known) t (Some n) []) (take (i + 1) ns)
  next_stands old new ns i n g lt is before here =
      All-more (λ (n : ℕ). StandsWhole o new (AreKnown known) t (Some n) []) ns i n lt
      (All-weaker (λ (n : ℕ). StandsWhole o old (AreKnown known) t (Some n) []) (λ (n : ℕ). StandsWhole o new (AreKnown known) t (Some n) []) (λ m h. stands_still o (Some m) [] old new (AreKnown known) (AreKnown known) t g (λ a w kn. kn) h) (take i ns) before)
      (subst (λ (m : ℕ). StandsWhole o new (AreKnown known) t (Some m) []) is here)

  pub all_stand : (g : Ground) (ns : List ℕ) (i : ℕ) → length ns ≤ i → All (λ (n : ℕ). StandsWhole o g (AreKnown known) t (Some n) []) (take i ns) → All (λ (n : ℕ). StandsWhole o g (AreKnown known) t (Some n) []) ns
  all_stand g ns i le h = subst (All (λ (n : ℕ). StandsWhole o g (AreKnown known) t (Some n) [])) (take_all i ns le) h

-- a constraint of a class, and one of the top level
pub class_stands : (o : Outline) (g : Ground) (P : List ℤ → Type 0) (k : ResolvedConstraint) (c : ℕ) → k.class ≡ Some c → All (λ (n : ℕ). StandsWhole o g P k.tree (Some n) []) (extent o c) → HasWholes o g P k
class_stands o g P k c e h =
    subst (λ (x : Option ℕ). All (λ (this : Option ℕ). StandsWhole o g P k.tree this []) (stated_for o x)) (sym e)
    (All-map (λ (this : Option ℕ). StandsWhole o g P k.tree this []) (λ (n : ℕ). Some n) (extent o c) h)

pub top_stands : (o : Outline) (g : Ground) (P : List ℤ → Type 0) (k : ResolvedConstraint) → k.class ≡ None → StandsWhole o g P k.tree None [] → HasWholes o g P k
top_stands o g P k e h =
    subst (λ (x : Option ℕ). All (λ (this : Option ℕ). StandsWhole o g P k.tree this []) (stated_for o x)) (sym e)
    (All-cons (λ (this : Option ℕ). StandsWhole o g P k.tree this []) None [] h (All-nil (λ (this : Option ℕ). StandsWhole o g P k.tree this [])))

-- ---- in what the problem grows to

pub wholes_still : (o : Outline) (old new : Ground) (P Q : List ℤ → Type 0) (k : ResolvedConstraint) → Grows old new → ((a : List ℤ) → IsWorld new a → Q a → P a) → HasWholes o old P k → HasWholes o new Q k
wholes_still o old new P Q k g only h =
    All-weaker (λ (this : Option ℕ). StandsWhole o old P k.tree this []) (λ (this : Option ℕ). StandsWhole o new Q k.tree this []) (λ this s. stands_still o this [] old new P Q k.tree g only s) (stated_for o k.class) h

pub all_still : (o : Outline) (old new : Ground) (P Q : List ℤ → Type 0) (ks : List ResolvedConstraint) → Grows old new → ((a : List ℤ) → IsWorld new a → Q a → P a) → All (HasWholes o old P) ks → All (HasWholes o new Q) ks
all_still o old new P Q ks g only h = All-weaker (HasWholes o old P) (HasWholes o new Q) (λ k s. wholes_still o old new P Q k g only s) ks h

-- ---- constraint by constraint

module _ (o : Outline) (known : List (ℕ × ℤ)) (fixing : Bool) where
  pub next_wholes : (old new : Ground) (ks : List ResolvedConstraint) (i : ℕ) (k : ResolvedConstraint) → Grows old new → i < length ks → k ≡ get_or ks i k → All (HasWholesIn fixing o old (AreKnown known)) (take i ks) → HasWholesIn fixing o new (AreKnown known) k → All (HasWholesIn fixing o new (AreKnown known)) (take (i + 1) ks)
  next_wholes old new ks i k g lt is before here =
      All-more (HasWholesIn fixing o new (AreKnown known)) ks i k lt
      (All-weaker (HasWholesIn fixing o old (AreKnown known)) (HasWholesIn fixing o new (AreKnown known)) (λ m h w. wholes_still o old new (AreKnown known) (AreKnown known) m g (λ a x kn. kn) (h w)) (take i ks) before)
      (subst (HasWholesIn fixing o new (AreKnown known)) is here)

  pub all_wholes : (g : Ground) (ks : List ResolvedConstraint) (i : ℕ) → length ks ≤ i → All (HasWholesIn fixing o g (AreKnown known)) (take i ks) → All (HasWholesIn fixing o g (AreKnown known)) ks
  all_wholes g ks i le h = subst (All (HasWholesIn fixing o g (AreKnown known))) (take_all i ks le) h

-- each constraint is of one of the two passes
either_pass : (f : Bool) (X Y Z : Type 0) → (X → Z) → (Y → Z) → (wanted true f ≡ true → X) → (wanted false f ≡ true → Y) → Z
either_pass true X Y Z one two x y = one (x refl)
either_pass false X Y Z one two x y = two (y refl)

pub passes_stand : (o : Outline) (known : List (ℕ × ℤ)) (mid new : Ground) (ks : List ResolvedConstraint) → Grows mid new → All (HasWholesIn true o mid (AreKnown known)) ks → All (HasWholesIn false o new (AreKnown known)) ks → All (HasWholes o new (AreKnown known)) ks
passes_stand o known mid new [] g h j = All-nil (HasWholes o new (AreKnown known))
passes_stand o known mid new (k ∷ ks) g h j =
    let P = HasWholesIn true o mid (AreKnown known) in
    let Q = HasWholesIn false o new (AreKnown known) in
    All-cons (HasWholes o new (AreKnown known)) k ks
    (either_pass (fixes k.tree) (HasWholes o mid (AreKnown known) k) (HasWholes o new (AreKnown known) k) (HasWholes o new (AreKnown known) k)
    (λ s. wholes_still o mid new (AreKnown known) (AreKnown known) k g (λ a x kn. kn) s) (λ s. s) (All-head P k ks h) (All-head Q k ks j))
    (passes_stand o known mid new ks g (All-tail P k ks h) (All-tail Q k ks j))

-- ---- in every solution

-- where the constraints fix the known cells
pub fixed_stand : (o : Outline) (known : List (ℕ × ℤ)) (g : Ground) (ks : List ResolvedConstraint) → AreFixed known g → All (HasWholes o g (AreKnown known)) ks → WholesStand o g ks
fixed_stand o known g ks fixed h = all_still o g g (AreKnown known) (AllHold g) ks (grows_none g) fixed h

pub solutions_still : (o : Outline) (old new : Ground) (ks : List ResolvedConstraint) → Grows old new → WholesStand o old ks → WholesStand o new ks
solutions_still o old new ks g h = all_still o old new (AllHold old) (AllHold new) ks g (λ a w all. all_before old new a g all) h

-- whatever is aimed at
world_of : (g : Ground) (goals : List GroundGoal) (a : List ℤ) → IsWorld (with_goals g goals) a → IsWorld g a
world_of g goals a w = record { long = w.long; within = w.within; defined = w.defined }

whole_aimed : (q : QuantKind) (g : Ground) (goals : List GroundGoal) (n : ℕ) (P : List ℤ → Type 0) (vs : List ℤ → List (List Value)) → HasWhole q g n P vs → HasWhole q (with_goals g goals) n P vs
whole_aimed kind.AllDifferent g goals n P vs h = λ two few.
    let d = h two few in
    record { vars = d.vars; stands = d.stands; count = d.count; values = λ a w p. d.values a (world_of g goals a w) p }
whole_aimed kind.Pack g goals n P vs h = λ two few.
    let d = h two few in
    record { items = d.items; exist = d.exist; stands = λ b. d.stands b; count = d.count; values = λ a w p. d.values a (world_of g goals a w) p }
whole_aimed kind.Forall g goals n P vs h = tt
whole_aimed kind.Exists g goals n P vs h = tt
whole_aimed kind.Sum g goals n P vs h = tt
whole_aimed kind.Count g goals n P vs h = tt

stands_aimed : (o : Outline) (g : Ground) (goals : List GroundGoal) (P : List ℤ → Type 0) (t : Tree) (this : Option ℕ) (vars : List ℕ) → StandsWhole o g P t this vars → StandsWhole o (with_goals g goals) P t this vars
stands_aimed o g goals P (tree.Paren i e) this vars h = stands_aimed o g goals P e this vars h
stands_aimed o g goals P (tree.Quant i q over f bs) this vars h = λ path w world premise.
    whole_aimed q g goals _ P (λ (a : List ℤ). values_over over NoFilter bs (world_setting o g a this vars)) (h path w (world_of g goals w world) premise)
stands_aimed o g goals P t this vars h = tt

pub wholes_aimed : (o : Outline) (g f : Ground) (goals : List GroundGoal) (ks : List ResolvedConstraint) → f ≡ with_goals g goals → WholesStand o g ks → WholesStand o f ks
wholes_aimed o g f goals ks e h =
    subst (λ (z : Ground). WholesStand o z ks) (sym e)
    (All-weaker (HasWholes o g (AllHold g)) (HasWholes o (with_goals g goals) (AllHold g)) (λ k s.
    All-weaker (λ (this : Option ℕ). StandsWhole o g (AllHold g) k.tree this []) (λ (this : Option ℕ). StandsWhole o (with_goals g goals) (AllHold g) k.tree this []) (λ this x. stands_aimed o g goals (AllHold g) k.tree this [] x) (stated_for o k.class) s) ks h)

-- ---- where there is no world

never_stands : (o : Outline) (g : Ground) (P : List ℤ → Type 0) (t : Tree) (this : Option ℕ) (vars : List ℕ) → ((a : List ℤ) → IsWorld g a → ⊥) → StandsWhole o g P t this vars
never_stands o g P (tree.Paren i e) this vars no_world = never_stands o g P e this vars no_world
never_stands o g P (tree.Quant i q over f bs) this vars no_world = λ path w world premise. absurd (no_world w world)
never_stands o g P t this vars no_world = tt

pub never_wholes : (o : Outline) (g : Ground) (ks : List ResolvedConstraint) → ((a : List ℤ) → IsWorld g a → ⊥) → WholesStand o g ks
never_wholes o g [] no_world = All-nil (HasWholes o g (AllHold g))
never_wholes o g (k ∷ ks) no_world =
    All-cons (HasWholes o g (AllHold g)) k ks (λ i d lt. never_stands o g (AllHold g) k.tree _ [] no_world) (never_wholes o g ks no_world)
