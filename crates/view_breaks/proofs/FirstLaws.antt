-- The first break is the constraint, with its object, that is found to be broken first.
use Rattle.std.proofs.Common.{◌≡◌, ℕ, ◌+◌, Bool, true, false, not, cond, List, [], ◌∷◌, ◌++◌, Option, None, Some, ℤ, refl, ap, sym, ◌∙◌, subst, map}
use native.Mathlib.Omega.{arith}
use Rattle.std.specs.Prelude.{All, Contains, filter}
use Rattle.std.proofs.lemmas.List.Elements as elements
use Rattle.class_table.specs.Outline.{Outline}
use Rattle.conf_eval.proofs.FindingLaws.{set_is_wrong, no_wrong_constraint, constraint_is_wrong}
use Rattle.conf_eval.specs.Breaking.{IsWrongConstraint}
use Rattle.conf_eval.specs.declared.broken.BrokenAt.{BrokenAt}
use Rattle.conf_eval.specs.declared.broken.BrokenAt.TheVariants.{Constraint}
use Rattle.conf_eval.specs.Finding.{first_failing, holds_for, broken_by, wrong_constraint, wrong_set}
use Rattle.conf_eval.specs.Satisfying.{IsFull, Holds, Satisfies, stated_for}
use Rattle.conf_types.specs.Programs.{ResolvedConstraint}
use Rattle.object_alloc.specs.Walk.{walk, leaves_in}
use Rattle.view_breaks.specs.Answer.{HasFullSets}
use Rattle.view_breaks.specs.Breaks.{fails, break_of, breaks_among, breaks_from, breaks}
use Rattle.view_breaks.specs.declared.breaks.Break.{Break}

-- the first of these breaks, as it is found
abbrev pub named : List Break → Option BrokenAt
named [] = None
named (b ∷ bs) = Some (Constraint b.constraint b.object)

mid : {X : Type 0} (P : X → Type 0) (xs before after : List X) (x : X) → All P xs → xs ≡ before ++ x ∷ after → P x
mid P xs before after x all split =
    elements.All-contains P xs x all (subst (λ ys. Contains ys x) (sym split) (elements.Contains-append_right before (x ∷ after) x (0, omega arith, refl)))

module _ (o : Outline) (vs : List ℤ) where
  among_named : (n : ℕ) (k : ResolvedConstraint) (xs : List (Option ℕ)) (more : List Break) → broken_by n (first_failing (holds_for o vs k) xs) (named more) ≡ named (breaks_among o vs n k xs ++ more)
  among_named n k [] more = refl
  among_named n k (x ∷ xs) more = by (holds_for o vs k x) (among_named n k xs more)
    where
      by : (b : Bool) → broken_by n (first_failing (holds_for o vs k) xs) (named more) ≡ named (breaks_among o vs n k xs ++ more) → broken_by n (cond b (first_failing (holds_for o vs k) xs) (Some x)) (named more) ≡ named (map (break_of n k) (cond (not b) (x ∷ filter (fails o vs k) xs) (filter (fails o vs k) xs)) ++ more)
      by true h = h
      by false h = refl

  from_named : (n : ℕ) (ks : List ResolvedConstraint) → wrong_constraint o vs n ks ≡ named (breaks_from o vs n ks)
  from_named n [] = refl
  from_named n (k ∷ ks) =
      ap (λ rest. broken_by n (first_failing (holds_for o vs k) (stated_for o k.class)) rest) (from_named (n + 1) ks)
      ∙ among_named n k (stated_for o k.class) (breaks_from o vs (n + 1) ks)

  no_wrong_set : HasFullSets o vs → wrong_set o vs 0 (leaves_in (walk o)) ≡ None
  no_wrong_set sets = by (wrong_set o vs 0 (leaves_in (walk o))) refl
    where
      by : (found : Option ℕ) → wrong_set o vs 0 (leaves_in (walk o)) ≡ found → found ≡ None
      by None e = refl
      by (Some cell) e =
          let w = set_is_wrong o vs cell e in
          absurd (w.first.not (mid (IsFull o vs) (leaves_in (walk o)) w.before w.first.after w.set sets w.first.split))

  module _ (ks : List ResolvedConstraint) (sets : HasFullSets o vs) where
    pub none_broken : breaks o vs ks ≡ [] → Satisfies o ks vs
    none_broken e = record { sets = sets; constraints = no_wrong_constraint o vs 0 ks (from_named 0 ks ∙ ap named e) }

    pub first_named : (b : Break) (more : List Break) → breaks o vs ks ≡ b ∷ more → IsWrongConstraint o ks vs b.constraint b.object
    first_named b more e = constraint_is_wrong o vs ks (Constraint b.constraint b.object) (no_wrong_set sets) (from_named 0 ks ∙ ap named e)

    pub satisfied_none : Satisfies o ks vs → breaks o vs ks ≡ []
    satisfied_none s = by (breaks o vs ks) refl
      where
        by : (bs : List Break) → breaks o vs ks ≡ bs → bs ≡ []
        by [] e = refl
        by (b ∷ more) e =
            let w = first_named b more e in
            absurd (w.first.not (mid (Holds o vs) ks w.before w.first.after w.constraint s.constraints w.first.split))
