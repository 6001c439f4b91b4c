-- The test says what satisfying says.
use Rattle.std.proofs.Common.{◌≡◌, ◌↔◌, ℕ, Bool, true, ◌&&◌, List, [], ◌∷◌, ℤ, length, nat_eq, refl, subst, arith}
use Rattle.std.specs.Prelude.{All}
use Rattle.std.specs.List.{list_all}
use Rattle.std.proofs.lemmas.Bool.{and_parts}
use Rattle.std.proofs.lemmas.Bool.Decides.{nat_tests}
use Rattle.std.proofs.lemmas.List.Elements.{All-nil, All-cons, All-head, All-tail, All-weaker}
use Rattle.class_table.specs.declared.table.Resolved.{Resolved}
use Rattle.class_table.specs.declared.table.Resolved.TheVariants as shape
use Rattle.class_table.specs.Outline.{Outline}
use Rattle.conf_types.specs.Programs.{ResolvedConstraint}
use Rattle.object_alloc.specs.declared.object.Leaf.{Leaf}
use Rattle.object_alloc.specs.Walk.{walk, leaves_in}
use Rattle.conf_eval.specs.Meaning.{objects_of, attribute_value}
use Rattle.conf_eval.specs.Satisfying.{IsFull, Holds, Satisfies, stated_for}
use Rattle.ground_expr.specs.Asked.{has_count, is_full, are_full, holds_for, holds_of, satisfied_by}

all_from : {X : Type 0} (p : X → Bool) (xs : List X) → list_all p xs ≡ true → All (λ x. p x ≡ true) xs
all_from p [] h = All-nil (λ x. p x ≡ true)
all_from p (x ∷ xs) h = let b = and_parts (p x) (list_all p xs) h in All-cons (λ x. p x ≡ true) x xs b.0 (all_from p xs b.1)

both_true : (a b : Bool) → a ≡ true → b ≡ true → (a && b) ≡ true
both_true a b h k = grind arith

from_all : {X : Type 0} (p : X → Bool) (xs : List X) → All (λ x. p x ≡ true) xs → list_all p xs ≡ true
from_all p [] h = refl
from_all p (x ∷ xs) h = both_true (p x) (list_all p xs) (All-head (λ x. p x ≡ true) x xs h) (from_all p xs (All-tail (λ x. p x ≡ true) x xs h))

counted : (s : Resolved) (m : ℕ) → has_count s m ≡ true → (c n : ℕ) → s ≡ shape.RefSet c n → m ≡ n
counted s m h c n e = by (subst (λ (z : Resolved). has_count z m ≡ true) e h)
  where
    by : nat_eq m n ≡ true → m ≡ n
    by g = grind (arith, nat_tests)

count_is : (s : Resolved) (m : ℕ) → ((c n : ℕ) → s ≡ shape.RefSet c n → m ≡ n) → has_count s m ≡ true
count_is (shape.RefSet c n) m h = let e = h c n refl in grind (arith, nat_tests)
count_is (shape.Span low high) m h = refl
count_is shape.Truth m h = refl
count_is (shape.Choice e) m h = refl
count_is (shape.Ref c) m h = refl
count_is (shape.One c) m h = refl
count_is (shape.Many c n) m h = refl

full_is : (o : Outline) (values : List ℤ) (l : Leaf) → is_full o values l ≡ true → IsFull o values l
full_is o values l h c n e = counted l.shape (length (objects_of (attribute_value o values l.owner l.attribute l.shape))) h c n e

is_full_of : (o : Outline) (values : List ℤ) (l : Leaf) → IsFull o values l → is_full o values l ≡ true
is_full_of o values l h = count_is l.shape (length (objects_of (attribute_value o values l.owner l.attribute l.shape))) h

pub satisfied_is : (o : Outline) (ks : List ResolvedConstraint) (values : List ℤ) → satisfied_by o ks values ≡ true ↔ Satisfies o ks values
satisfied_is o ks values = (
  (λ h.
      let b = and_parts (are_full o values) (list_all (holds_of o values) ks) h in
      record {
        sets = All-weaker (λ l. is_full o values l ≡ true) (IsFull o values) (λ l f. full_is o values l f) (leaves_in (walk o)) (all_from (is_full o values) (leaves_in (walk o)) b.0);
        constraints = All-weaker (λ k. holds_of o values k ≡ true) (Holds o values) (λ k f. all_from (holds_for o values k) (stated_for o k.class) f) ks (all_from (holds_of o values) ks b.1);
      }),
  (λ s. both_true (are_full o values) (list_all (holds_of o values) ks)
      (from_all (is_full o values) (leaves_in (walk o)) (All-weaker (IsFull o values) (λ l. is_full o values l ≡ true) (λ l f. is_full_of o values l f) (leaves_in (walk o)) s.sets))
      (from_all (holds_of o values) ks (All-weaker (Holds o values) (λ k. holds_of o values k ≡ true) (λ k f. from_all (holds_for o values k) (stated_for o k.class) f) ks s.constraints))),
)
