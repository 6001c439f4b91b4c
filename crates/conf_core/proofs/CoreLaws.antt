-- A core, by the rounds that narrowed a model down to it.
use Rattle.std.proofs.Common.{◌≡◌, ℕ, true, false, not, cond, List, [], ◌∷◌, ℤ, None, refl, sym, ap, subst, arith, map, All, nat_eq}
use Rattle.std.specs.List.{Contains}
use Rattle.std.proofs.lemmas.List.Elements.{All-nil, All-cons, All-head, All-tail, All-contains, All-map}
use Rattle.class_table.specs.Outline.{Outline}
use Rattle.conf_core.proofs.Narrowings.{kept_part}
use Rattle.conf_core.proofs.PartLists.{all_as}
use Rattle.conf_core.proofs.SuspectLaws.{marked_ascend, marked_has, marked_so}
use Rattle.conf_core.specs.Cores.{HasRound, IsWithout, without, IsCore}
use Rattle.conf_core.specs.Parts.{part_of, IsPartRound, ArePartRounds}
use Rattle.conf_core.specs.Searching.{IsNarrowed, IsCoreAnswer, end_without}
use Rattle.conf_core.specs.Suspects.{is_kept, is_unsure, marked, told, IsSettled, NoneOpen}
use Rattle.conf_core.specs.declared.answer.CoreAnswer.{CoreAnswer}
use Rattle.conf_core.specs.declared.answer.CoreAnswer.TheVariants as answers
use Rattle.conf_core.specs.declared.suspects.Suspect.{Suspect}
use Rattle.conf_core.specs.declared.suspects.Suspect.TheVariants.{Cleared, Open, Needed, Unsure}
use Rattle.conf_eval.specs.Best.{HasNone}
use Rattle.conf_eval.specs.Satisfying.{Satisfies, Holds}
use Rattle.conf_types.specs.Programs.{ResolvedConstraint, constraint_at}
use Rattle.model_search.specs.Rounds.{told_by, end_of}
use Rattle.model_search.specs.Findings.{Tells}
use Rattle.model_search.specs.declared.finding.Finding.{Finding}
use Rattle.model_search.specs.declared.finding.Finding.TheVariants as findings
use Rattle.object_alloc.specs.Configurations.{IsConfiguration}
use Rattle.proof_log.specs.declared.journal.Round.{Round}
use Rattle.log_check.specs.declared.verdict.VerdictKind.TheVariants as kinds

-- ---- what a round tells of its part

none_told : (o : Outline) (ks : List ResolvedConstraint) (told : Finding) →
    end_of told ≡ kinds.NoSolution → Tells o ks [] None told → HasNone o ks
none_told o ks (findings.Best t) e h = absurd cc
none_told o ks findings.NoneExists e h = h
none_told o ks (findings.Open last) e h = absurd cc

best_told : (o : Outline) (ks : List ResolvedConstraint) (told : Finding) →
    end_of told ≡ kinds.Best → Tells o ks [] None told →
    (t : List ℤ) × IsConfiguration o t × Satisfies o ks t
best_told o ks (findings.Best t) e h = (t, h.0, h.1)
best_told o ks findings.NoneExists e h = absurd cc
best_told o ks (findings.Open last) e h = absurd cc

-- ---- others

equal_not : (c : ℕ) → nat_eq c c ≡ false → ⊥
equal_not c h = absurd (grind arith)

differ : (k c : ℕ) → nat_eq k c ≡ false → k ≡ c → ⊥
differ k c e same = absurd (let h = subst (λ n. nat_eq n c ≡ false) same e in equal_not c h)

others_within : (c : ℕ) (part keep : List ℕ) →
    All (λ k. (k ≡ c → ⊥) → Contains part k) keep → All (λ k. Contains part k) (without c keep)
others_within c part [] h = All-nil (λ k. Contains part k)
others_within c part (k ∷ ks) h =
    let first = All-head (λ n. (n ≡ c → ⊥) → Contains part n) k ks h in
    let rest = others_within c part ks
    (All-tail (λ n. (n ≡ c → ⊥) → Contains part n) k ks h) in
    elim (nat_eq k c) as (λ b. nat_eq k c ≡ b
    → All (λ n. Contains part n) (cond (not b) (k ∷ without c ks) (without c ks))) [
      | true ↦ λ e. rest
      | false ↦ λ e. All-cons (λ n. Contains part n) k (without c ks) (first (differ k c e)) rest
    ] refl

-- ---- constraints that were settled

-- one that is kept, and neither open nor unsure, is needed
needed_told : (s : Suspect) → is_kept s ≡ true → (s ≡ Open → ⊥) → is_unsure s ≡ false →
    s ≡ Needed
needed_told Cleared k o u = absurd cc
needed_told Open k o u = absurd (o refl)
needed_told Needed k o u = refl
needed_told Unsure k o u = absurd cc

unsure_told : (s : Suspect) → is_unsure s ≡ true → s ≡ Unsure
unsure_told Cleared u = absurd cc
unsure_told Open u = absurd cc
unsure_told Needed u = absurd cc
unsure_told Unsure u = refl

unsure_kept : (s : Suspect) → is_unsure s ≡ true → is_kept s ≡ true
unsure_kept s u = ap is_kept (unsure_told s u)

module _ (o : Outline) (ks : List ResolvedConstraint) (budget : ℕ) (rounds : List Round)
    (are : ArePartRounds o ks budget rounds) where
  impossible : (keep : List ℕ) → HasRound rounds (λ part. part ≡ keep) kinds.NoSolution →
      HasNone o (part_of ks keep)
  impossible keep h =
      let is = All-contains (IsPartRound o ks budget) rounds h.round are h.there in
      subst (λ part. HasNone o (part_of ks part)) h.part
      (none_told o (part_of ks h.round.part) (told_by h.round) h.ended is.run.tells)

  -- ---- a part of a part

  each_held : (t : List ℤ) (part : List ℕ) → All (Holds o t) (map (constraint_at ks) part) →
      All (λ n. Holds o t (constraint_at ks n)) part
  each_held t [] h = All-nil (λ n. Holds o t (constraint_at ks n))
  each_held t (m ∷ ms) h =
      All-cons (λ n. Holds o t (constraint_at ks n)) m ms
      (All-head (Holds o t) (constraint_at ks m) (map (constraint_at ks) ms) h)
      (each_held t ms (All-tail (Holds o t) (constraint_at ks m) (map (constraint_at ks) ms) h))

  smaller : (t : List ℤ) (part ms : List ℕ) → All (λ m. Contains part m) ms →
      Satisfies o (part_of ks part) t → Satisfies o (part_of ks ms) t
  smaller t part ms there h =
      let each = each_held t part h.constraints in
      record {
        sets = h.sets;
        constraints = All-map (Holds o t) (constraint_at ks) ms
            (all_as (λ m. Contains part m) (λ m. Holds o t (constraint_at ks m)) ms
            (λ m at. All-contains (λ n. Holds o t (constraint_at ks n)) part m each at) there);
      }

  possible : (keep : List ℕ) (c : ℕ) → HasRound rounds (IsWithout keep c) kinds.Best →
      (t : List ℤ) × IsConfiguration o t × Satisfies o (part_of ks (without c keep)) t
  possible keep c h =
      let is = All-contains (IsPartRound o ks budget) rounds h.round are h.there in
      let (t, point, holds) = best_told o (part_of ks h.round.part) (told_by h.round) h.ended
      is.run.tells in (
        t,
        point,
        smaller t h.round.part (without c keep)
            (others_within c h.round.part keep h.part.others) holds,
      )

  -- ---- the core

  module _ (ss : List Suspect) (h : IsNarrowed ks rounds ss) (none : NoneOpen ss) where
    abbrev keep : List ℕ
    keep = marked is_kept 0 ss

    abbrev unsure : List ℕ
    unsure = marked is_unsure 0 ss

    needed : (c : ℕ) → Contains keep c → (Contains unsure c → ⊥) →
        HasRound rounds (IsWithout keep c) kinds.Best
    needed c at sure =
        let kept = All-contains (λ m. is_kept (told ss m) ≡ true) keep c (marked_so is_kept ss) at in
        let off = elim (is_unsure (told ss c)) as (λ b. is_unsure (told ss c) ≡ b
        → is_unsure (told ss c) ≡ false) [
          | true ↦ λ e. absurd (sure (marked_has is_unsure ss c refl e))
          | false ↦ λ e. e
        ] refl in
        let is = needed_told (told ss c) kept (none c) off in
        subst (λ s. HasRound rounds (IsWithout keep c) (end_without s)) is
        (h.tried c (subst IsSettled (sym is) tt))

    undecided_at : (c : ℕ) → is_unsure (told ss c) ≡ true →
        HasRound rounds (IsWithout keep c) kinds.Open
    undecided_at c e =
        let is = unsure_told (told ss c) e in
        subst (λ s. HasRound rounds (IsWithout keep c) (end_without s)) is
        (h.tried c (subst IsSettled (sym is) tt))

    pub core_is : IsCore o ks rounds keep unsure
    core_is =
        record {
          part = kept_part ks ss h.count;
          impossible = impossible keep h.shown;
          shown = h.shown;
          ascend = marked_ascend is_unsure ss;
          within = all_as (λ c. is_unsure (told ss c) ≡ true) (λ c. Contains keep c) unsure
              (λ c e. marked_has is_kept ss c refl (unsure_kept (told ss c) e))
              (marked_so is_unsure ss);
          needed = needed;
          possible = λ c at sure. possible keep c (needed c at sure);
          undecided = all_as (λ c. is_unsure (told ss c) ≡ true)
              (λ c. HasRound rounds (IsWithout keep c) kinds.Open) unsure undecided_at
              (marked_so is_unsure ss);
        }

  pub core_answer : (ss : List Suspect) (a : CoreAnswer) →
      a ≡ answers.Core (marked is_kept 0 ss) (marked is_unsure 0 ss) →
      IsNarrowed ks rounds ss → NoneOpen ss → IsCoreAnswer o ks rounds a
  core_answer ss a e h none = subst (λ x. IsCoreAnswer o ks rounds x) (sym e) (core_is ss h none)
