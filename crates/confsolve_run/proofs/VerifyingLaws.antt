-- A JSON value that gives each leaf a value is a configuration with full sets.
use Rattle.std.proofs.Common.{inr, ◌≡◌, ◌∙◌, ◌<◌, List, [], ◌∷◌, ◌++◌, Option, None, Some, IfSome, All, Contains, true, is_some, length, map, sym, ap, subst, refl, slice_index_or, ℕ, ℤ}
use native.Mathlib.Omega.{arith}
use Rattle.std.proofs.lemmas.List.Elements as elements
use Rattle.std.specs.List.{list_all}
use Rattle.class_table.specs.Outline.{Outline}
use Rattle.config_json.specs.Whole.{IsWhole}
use Rattle.object_alloc.specs.Members.{HasItsSize}
use Rattle.conf_eval.specs.Meaning.{attribute_value, objects_of}
use Rattle.conf_eval.specs.Breaking.{IsWrongConstraint, IsWrongSet}
use Rattle.conf_eval.specs.Satisfying.{IsFull, stated_for}
use Rattle.conf_eval.proofs.LawsClasses.{object_low}
use Rattle.conf_types.specs.Programs.{ResolvedConstraint}
use Rattle.object_alloc.specs.declared.object.Leaf.{Leaf}
use Rattle.object_alloc.specs.Configurations.{IsConfiguration}
use Rattle.object_alloc.specs.Cells.{extent}
use Rattle.object_alloc.specs.Walk.{walk, leaves_in, objects}
use Rattle.run_promise.specs.Answer.{IsConfigOf}
use Rattle.run_promise.specs.Asking.{IsShort}
use Rattle.run_promise.specs.Refusal.{IsBroken, IsUnverified, stated_path}
use Rattle.run_status.specs.Stages.{Denied}
use Rattle.confsolve_run.specs.Verifying.{HasFullSets}
use Rattle.run_status.specs.declared.status.Status.{Status}
use Rattle.run_status.specs.declared.status.Status.TheVariants as status

given : (ts : List ℤ) → list_all is_some (map Some ts) ≡ true
given [] = refl
given (t ∷ ts) = given ts

same_values : (ts us : List ℤ) → map Some ts ≡ map Some us → ts ≡ us
same_values [] [] e = refl
same_values [] (u ∷ us) e = absurd cc
same_values (t ∷ ts) [] e = absurd cc
same_values (t ∷ ts) (u ∷ us) e =
    let first : t ≡ u = cc in
    let rest : map Some ts ≡ map Some us = cc in
    let more = same_values ts us rest in
    cc

full : (o : Outline) (values : List ℤ) (l : Leaf) → HasItsSize o values l → IsFull o values l
full o values l h = λ c n is. subst (λ s. length (objects_of (attribute_value o values l.owner l.attribute s)) ≡ n) (sym is) (h c n is)

module _ (o : Outline) (hs : List (Option ℤ)) (w : IsWhole o hs) where
  pub all_given : list_all is_some hs ≡ true
  all_given = ap (list_all is_some) w.all ∙ given w.values

  values_are : (ts : List ℤ) → hs ≡ map Some ts → w.values ≡ ts
  values_are ts e = same_values w.values ts (sym w.all ∙ e)

  pub is_configuration : (ts : List ℤ) → hs ≡ map Some ts → IsConfiguration o ts
  is_configuration ts e = subst (IsConfiguration o) (values_are ts e) w.configuration

  pub sets_full : (ts : List ℤ) → hs ≡ map Some ts → HasFullSets o ts
  sets_full ts e = subst (HasFullSets o) (values_are ts e) (λ k d h. full o w.values (slice_index_or (leaves_in (walk o)) k d) (w.sets k d h))

-- What is broken first

mid : {X : Type 0} (P : X → Type 0) (xs before after : List X) (x : X) → All P xs → xs ≡ before ++ x ∷ after → P x
mid P xs before after x all split =
    elements.All-contains P xs x all (subst (λ ys. Contains ys x) (sym split) (elements.Contains-append_right before (x ∷ after) x (0, omega arith, refl)))

abbrev IsThere : Outline → Option ℕ → Type 0
IsThere o x = IfSome x (λ n. n < length (objects o))

stated_there : (o : Outline) (class : Option ℕ) → All (IsThere o) (stated_for o class)
stated_there o None = elements.All-from_recursion (IsThere o) (None ∷ []) (tt, tt)
stated_there o (Some c) = elements.All-map (IsThere o) Some (extent o c) (λ k d lt. object_low o c (slice_index_or (extent o c) k d) (elements.Contains-get_or (extent o c) k d lt))

pub object_there : (o : Outline) (ks : List ResolvedConstraint) (t : List ℤ) (index : ℕ) (object : Option ℕ) → IsWrongConstraint o ks t index object → IsThere o object
object_there o ks t index object w = mid (IsThere o) (stated_for o w.constraint.class) w.earlier w.first_object.after object (stated_there o w.constraint.class) w.first_object.split

-- a configuration with full sets has no set of another size
pub no_wrong_set : (o : Outline) (t : List ℤ) (cell : ℕ) → HasFullSets o t → IsWrongSet o t cell → ⊥
no_wrong_set o t cell sets w = w.first.not (mid (IsFull o t) (leaves_in (walk o)) w.before w.first.after w.set sets w.first.split)

place_at : (cs : List ResolvedConstraint) (before : List ResolvedConstraint) (k : ResolvedConstraint) (after : List ResolvedConstraint) (d : ResolvedConstraint) → cs ≡ before ++ k ∷ after → (slice_index_or cs (length before) d).place ≡ k.place
place_at [] [] k after d e = absurd cc
place_at [] (b ∷ bs) k after d e = absurd cc
place_at (x ∷ xs) [] k after d e =
    let first : x ≡ k = cc in
    ap (λ (z : ResolvedConstraint). z.place) first
place_at (x ∷ xs) (b ∷ bs) k after d e =
    let rest : xs ≡ bs ++ k ∷ after = cc in
    place_at xs bs k after d rest

pub some_constraint : (cs : List ResolvedConstraint) (before : List ResolvedConstraint) (k : ResolvedConstraint) (after : List ResolvedConstraint) → cs ≡ before ++ k ∷ after → ResolvedConstraint
some_constraint [] [] k after e = absurd cc
some_constraint [] (b ∷ bs) k after e = absurd cc
some_constraint (x ∷ xs) before k after e = x

-- the constraint that is named, by its place and the path of its object, is the first that is broken
pub is_broken : (o : Outline) (cs : List ResolvedConstraint) (bytes : List ℕ) (t : List ℤ) (index : ℕ) (object : Option ℕ) (d : ResolvedConstraint) → IsConfigOf o bytes t → IsWrongConstraint o cs t index object → IsBroken o cs bytes (slice_index_or cs index d).place (stated_path o object)
is_broken o cs bytes t index object d is w =
    record {
      config = t;
      is = is;
      broken = record {
        index = index;
        object = object;
        wrong = w;
        place_is = ap (λ i. (slice_index_or cs i d).place) w.number ∙ place_at cs w.before w.constraint w.first.after d w.first.split;
        path_is = refl;
      };
    }

pub broken_denied : (o : Outline) (cs : List ResolvedConstraint) (bytes : List ℕ) (t : List ℤ) (index : ℕ) (object : Option ℕ) (s : Status) → IsShort bytes → IsConfigOf o bytes t → IsWrongConstraint o cs t index object → ((d : ResolvedConstraint) → s ≡ status.Broken (Some (slice_index_or cs index d).place) (stated_path o object)) → Denied s (IsUnverified o cs bytes s)
broken_denied o cs bytes t index object s short is w named =
    let d = some_constraint cs w.before w.constraint w.first.after w.first.split in
    subst (λ x. Denied x (IsUnverified o cs bytes x)) (sym (named d)) (inr (refl, (short, is_broken o cs bytes t index object d is w)))
