-- Requirements one after the other, and one for each item of a list.
use Rattle.std.proofs.Common.{◌≡◌, ℕ, zero, suc, ◌+◌, ◌<◌, ◌≤◌, Bool, true, false, true≢false, cond, ◌&&◌, List, [], ◌∷◌, ℤ, Option, None, Some, get_or, length, take, refl, sym, ap, ◌∙◌, arith}
use Rattle.std.specs.List.{list_all}
use Rattle.std.proofs.lemmas.List.{take_all}
use Rattle.std.proofs.lemmas.List.Folds.{list_all_more, list_all-map}
use Rattle.class_table.specs.Outline.{Outline}
use Rattle.conf_types.specs.Programs.{ResolvedConstraint}
use Rattle.object_alloc.specs.Cells.{extent}
use Rattle.conf_eval.specs.Satisfying.{stated_for}
use Rattle.ground_form.specs.declared.ground.Ground.{Ground}
use Rattle.form_build.specs.Forms.{truth_at}
use Rattle.form_build.specs.declared.form.Truth.{Truth}
use Rattle.form_build.specs.Worlds.{IsWorld, AllHold, AreKnown, Adds, Defines}
use Rattle.form_build.proofs.Growth.{world_before, adds_nothing, adds_more, adds_same, adds_fewer, adds_known}
use Rattle.ground_expr.specs.Asked.{holds_for, holds_of}
use Rattle.form_truths.specs.Tests.{wanted}
use Rattle.ground_model.specs.Fixing.{fixes, holds_in}
use Rattle.ground_model.specs.Requiring.{Requires}

and_true : (b : Bool) → (b && true) ≡ b
and_true true = refl
and_true false = refl

and_false : (b : Bool) → (b && false) ≡ false
and_false true = refl
and_false false = refl

all_false : {X : Type 0} (test : X → Bool) (xs : List X) (k : ℕ) (x : X) → k < length xs → x ≡ get_or xs k x → test x ≡ false → list_all test xs ≡ false
all_false test [] k x lt is never = absurd (omega (arith, lt))
all_false test (y ∷ ys) zero x lt is never = ap (λ b. b && list_all test ys) (ap test (sym is) ∙ never)
all_false test (y ∷ ys) (suc k) x lt is never =
    ap (λ b. test y && b) (all_false test ys k x (omega (arith, lt)) is never) ∙ and_false (test y)

module _ (known : List (ℕ × ℤ)) where
  -- what was added says this where worlds have what they begin with
  pub requires_from : (old new : Ground) (says : List ℤ → Bool) (test : List ℤ → Bool) → ((a : List ℤ) → IsWorld new a → AreKnown known a → says a ≡ test (take new.search a)) → Adds known old new says → Requires known old new test
  requires_from old new says test means added =
      adds_same known old new says (λ a. test (take old.search a)) (λ a w kn. means a w kn ∙ ap (λ (n : ℕ). test (take n a)) added.grows.search) added

  -- a test that always passes
  pub requires_nothing : (g : Ground) (test : List ℤ → Bool) → ((values : List ℤ) → test values ≡ true) → Requires known g g test
  requires_nothing g test always =
      adds_same known g g (λ a. true) (λ a. test (take g.search a)) (λ a w kn. sym (always (take g.search a))) (adds_nothing known g)

  -- the same test in other words
  pub requires_same : (old new : Ground) (p q : List ℤ → Bool) → ((values : List ℤ) → p values ≡ q values) → Requires known old new p → Requires known old new q
  requires_same old new p q e h =
      adds_same known old new (λ a. p (take old.search a)) (λ a. q (take old.search a)) (λ a w kn. e (take old.search a)) h

  pub requires_more : (f g h : Ground) (p q : List ℤ → Bool) → Requires known f g p → Requires known g h q → Requires known f h (λ values. p values && q values)
  requires_more f g h p q one two =
      adds_same known f h (λ a. p (take f.search a) && q (take g.search a)) (λ a. p (take f.search a) && q (take f.search a))
      (λ a w kn. ap (λ (n : ℕ). p (take f.search a) && q (take n a)) one.grows.search)
      (adds_more known f g h (λ a. p (take f.search a)) (λ a. q (take g.search a)) one two)

  -- no item yet
  pub requires_none : {X : Type 0} (g : Ground) (p : List ℤ → X → Bool) (xs : List X) → Requires known g g (λ values. list_all (p values) (take 0 xs))
  requires_none g p xs = requires_nothing g (λ values. list_all (p values) (take 0 xs)) (λ values. refl)

  -- one item more
  pub requires_next : {X : Type 0} (f g h : Ground) (p : List ℤ → X → Bool) (xs : List X) (k : ℕ) (x : X) → k < length xs → x ≡ get_or xs k x →
      Requires known f g (λ values. list_all (p values) (take k xs)) → Requires known g h (λ values. p values x) → Requires known f h (λ values. list_all (p values) (take (k + 1) xs))
  requires_next f g h p xs k x lt is one two =
      requires_same f h (λ values. list_all (p values) (take k xs) && p values x) (λ values. list_all (p values) (take (k + 1) xs))
      (λ values. ap (λ y. list_all (p values) (take k xs) && p values y) is ∙ sym (list_all_more (p values) xs k x lt))
      (requires_more f g h (λ values. list_all (p values) (take k xs)) (λ values. p values x) one two)

  -- an item that never passes: none needs to be looked at behind it
  pub requires_never : {X : Type 0} (f g h : Ground) (p : List ℤ → X → Bool) (xs : List X) (k : ℕ) (x : X) → k < length xs → x ≡ get_or xs k x → ((values : List ℤ) → p values x ≡ false) →
      Requires known f g (λ values. list_all (p values) (take k xs)) → Requires known g h (λ values. p values x) → Requires known f h (λ values. list_all (p values) xs)
  requires_never f g h p xs k x lt is never one two =
      requires_same f h (λ values. list_all (p values) (take k xs) && p values x) (λ values. list_all (p values) xs)
      (λ values. ap (λ b. list_all (p values) (take k xs) && b) (never values) ∙ and_false (list_all (p values) (take k xs))
      ∙ sym (all_false (p values) xs k x lt is (never values)))
      (requires_more f g h (λ values. list_all (p values) (take k xs)) (λ values. p values x) one two)

  -- all items
  pub requires_all : {X : Type 0} (f g : Ground) (p : List ℤ → X → Bool) (xs : List X) (k : ℕ) → length xs ≤ k → Requires known f g (λ values. list_all (p values) (take k xs)) → Requires known f g (λ values. list_all (p values) xs)
  requires_all f g p xs k h r =
      requires_same f g (λ values. list_all (p values) (take k xs)) (λ values. list_all (p values) xs) (λ values. ap (list_all (p values)) (take_all k xs h)) r

  -- a constraint of a class, and one of the top level
  pub requires_class : (o : Outline) (k : ResolvedConstraint) (c : ℕ) (f g : Ground) → k.class ≡ Some c → Requires known f g (λ values. list_all (λ n. holds_for o values k (Some n)) (extent o c)) → Requires known f g (λ values. holds_of o values k)
  requires_class o k c f g e r =
      requires_same f g (λ values. list_all (λ n. holds_for o values k (Some n)) (extent o c)) (λ values. holds_of o values k)
      (λ values. sym (list_all-map (holds_for o values k) (λ n. Some n) (extent o c)) ∙ sym (ap (λ (x : Option ℕ). list_all (holds_for o values k) (stated_for o x)) e)) r

  pub requires_top : (o : Outline) (k : ResolvedConstraint) (f g : Ground) → k.class ≡ None → Requires known f g (λ values. holds_for o values k None) → Requires known f g (λ values. holds_of o values k)
  requires_top o k f g e r =
      requires_same f g (λ values. holds_for o values k None) (λ values. holds_of o values k)
      (λ values. sym (and_true (holds_for o values k None)) ∙ sym (ap (λ (x : Option ℕ). list_all (holds_for o values k) (stated_for o x)) e)) r

-- a constraint in a pass: of the other pass, and of this one
pub passed_over : (o : Outline) (values : List ℤ) (k : ResolvedConstraint) (fixing b : Bool) → b ≡ wanted fixing (fixes k.tree) → b ≡ false → holds_in fixing o values k ≡ true
passed_over o values k fixing true e h = absurd (true≢false h)
passed_over o values k fixing false e h = ap (λ (z : Bool). cond z (holds_of o values k) true) (sym e)

pub of_pass : (o : Outline) (values : List ℤ) (k : ResolvedConstraint) (fixing b : Bool) → b ≡ wanted fixing (fixes k.tree) → b ≡ true → holds_of o values k ≡ holds_in fixing o values k
of_pass o values k fixing true e h = ap (λ (z : Bool). cond z (holds_of o values k) true) e
of_pass o values k fixing false e h = absurd (true≢false (sym h))

-- both passes ask for all constraints
two_passes : (f p : Bool) (a b : Bool) → ((cond (wanted true f) p true && a) && (cond (wanted false f) p true && b)) ≡ (p && (a && b))
two_passes true true a b = refl
two_passes true false a b = refl
two_passes false true a b = refl
two_passes false false true b = refl
two_passes false false false b = refl

pub both_passes : (o : Outline) (values : List ℤ) (ks : List ResolvedConstraint) → (list_all (holds_in true o values) ks && list_all (holds_in false o values) ks) ≡ list_all (holds_of o values) ks
both_passes o values [] = refl
both_passes o values (k ∷ ks) =
    two_passes (fixes k.tree) (holds_of o values k) (list_all (holds_in true o values) ks) (list_all (holds_in false o values) ks)
    ∙ ap (λ (b : Bool). holds_of o values k && b) (both_passes o values ks)

-- definitions, and then a statement by a truth, which is the test's in each world
pub requires_truth : (known : List (ℕ × ℤ)) (f g h : Ground) (t : Truth) (test : List ℤ → Bool) → Defines f g → Adds [] g h (λ a. truth_at t a) → ((a : List ℤ) → IsWorld g a → AreKnown known a → truth_at t a ≡ test (take g.search a)) → Requires known f h test
requires_truth known f g h t test d s means =
    adds_same known f h (λ a. true && truth_at t a) (λ a. test (take f.search a)) (λ a w kn. means a (world_before g h a s.grows w) kn ∙ ap (λ (n : ℕ). test (take n a)) d.grows.search)
    (adds_more known f g h (λ a. true) (λ a. truth_at t a) (adds_fewer known f g (λ a. true) d) (adds_fewer known g h (λ a. truth_at t a) s))

-- what is asked where known cells have their values is asked of all configurations, where the
-- constraints before give the cells those values
pub requires_known : (known : List (ℕ × ℤ)) (old new : Ground) (test : List ℤ → Bool) → ((a : List ℤ) → AllHold old a → AreKnown known a) → Requires known old new test → Requires [] old new test
requires_known known old new test fixed r = adds_known known old new (λ a. test (take old.search a)) (λ a w all. fixed a all) r
