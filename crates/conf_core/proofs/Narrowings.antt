-- Constraints that no configuration satisfies, of which fewer are to blame from search to search.
use Rattle.std.proofs.Common.{◌≡◌, ℕ, ◌<◌, ◌≤◌, true, false, List, [], ◌∷◌, refl, sym, ap, ◌∙◌, subst, arith, length, drop, take, All, inl, inr, slice_set, length-set, replicate, get_or}
use Rattle.std.specs.List.{Contains, range_with_len}
use Rattle.std.proofs.lemmas.List.{length-replicate}
use Rattle.std.proofs.lemmas.List.Elements.{All-contains}
use Rattle.class_table.specs.Outline.{Outline}
use Rattle.conf_core.proofs.PartLists.{all_as}
use Rattle.conf_core.proofs.Rounds.{grown_round, tried_round}
use Rattle.conf_core.proofs.SuspectLaws.{marked_ascend, marked_exist, marked_so, marked_has, marked_same, IsLess, one_cleared, told_other, told_by_set, cleared_less, cleared_length, when_settled, tried_one, all_marked, fresh_settled, open_fresh}
use Rattle.conf_core.specs.Cores.{HasRound, IsWithout}
use Rattle.conf_core.specs.Parts.{IsPart}
use Rattle.conf_core.specs.Searching.{HasTried, HasGrown, IsNarrowed, IsShownAll, end_without}
use Rattle.conf_core.specs.Suspects.{is_kept, is_open, marked, cleared, told, settled, AreTried, IsFresh, IsSettled, NoneOpen}
use Rattle.conf_core.specs.declared.suspects.Suspect.{Suspect}
use Rattle.conf_core.specs.declared.suspects.Suspect.TheVariants.{Cleared, Open, Needed, Unsure}
use Rattle.conf_types.specs.Programs.{ResolvedConstraint}
use Rattle.proof_log.specs.declared.journal.Round.{Round}
use Rattle.log_check.specs.declared.verdict.VerdictKind.{VerdictKind}
use Rattle.log_check.specs.declared.verdict.VerdictKind.TheVariants as kinds

-- ---- parts

pub kept_part : (ks : List ResolvedConstraint) (ss : List Suspect) → length ss ≡ length ks →
    IsPart ks (marked is_kept 0 ss)
kept_part ks ss e =
    record {
      ascend = marked_ascend is_kept ss;
      exist = subst (λ n. All (λ m. m < n) (marked is_kept 0 ss)) e (marked_exist is_kept ss);
    }

-- the part that is tried without some
pub cleared_part : (ks : List ResolvedConstraint) (rounds : List Round) (ss : List Suspect)
    (list : List ℕ) → IsNarrowed ks rounds ss → IsPart ks (marked is_kept 0 (cleared ss list))
cleared_part ks rounds ss list h =
    kept_part ks (cleared ss list) (cleared_length ss list ∙ h.count)

round_as : (rounds : List Round) (P Q : List ℕ → Type 0) (end : VerdictKind) →
    ((part : List ℕ) → P part → Q part) → HasRound rounds P end → HasRound rounds Q end
round_as rounds P Q end f h =
    record { round = h.round; there = h.there; part = f h.round.part h.part; ended = h.ended }

-- ---- fewer are to blame

kept_less : (fewer ss : List Suspect) → IsLess fewer ss →
    All (λ m. Contains (marked is_kept 0 ss) m) (marked is_kept 0 fewer)
kept_less fewer ss f =
    all_as (λ m. is_kept (told fewer m) ≡ true) (λ m. Contains (marked is_kept 0 ss) m)
    (marked is_kept 0 fewer)
    (λ m so. elim (f m) [
      | inl e ↦ absurd (let x : false ≡ true = sym (ap is_kept e) ∙ so in cc)
      | inr e ↦ marked_has is_kept ss m refl (sym (ap is_kept e) ∙ so)
    ]) (marked_so is_kept fewer)

without_less : (fewer ss : List Suspect) (c : ℕ) (part : List ℕ) → IsLess fewer ss →
    IsWithout (marked is_kept 0 ss) c part → IsWithout (marked is_kept 0 fewer) c part
without_less fewer ss c part f h =
    record {
      lacks = h.lacks;
      others = all_as (λ m. Contains (marked is_kept 0 ss) m)
          (λ m. (m ≡ c → ⊥) → Contains part m) (marked is_kept 0 fewer)
          (λ m at. All-contains (λ k. (k ≡ c → ⊥) → Contains part k) (marked is_kept 0 ss) m
          h.others at) (kept_less fewer ss f);
    }

-- without some there is no configuration either
pub narrowed_less : (ks : List ResolvedConstraint) (rounds : List Round)
    (fewer ss : List Suspect) → length fewer ≡ length ss → IsLess fewer ss →
    IsNarrowed ks rounds ss →
    HasRound rounds (λ part. part ≡ marked is_kept 0 fewer) kinds.NoSolution →
    IsNarrowed ks rounds fewer
narrowed_less ks rounds fewer ss same f h shown =
    record {
      count = same ∙ h.count;
      shown = shown;
      tried = λ c is. elim (f c) [
        | inl e ↦ absurd (subst IsSettled e is)
        | inr e ↦ subst (λ s. HasRound rounds (IsWithout (marked is_kept 0 fewer) c)
            (end_without s)) (sym e)
            (round_as rounds (IsWithout (marked is_kept 0 ss) c)
            (IsWithout (marked is_kept 0 fewer) c) (end_without (told ss c))
            (λ part w. without_less fewer ss c part f w) (h.tried c (subst IsSettled e is)))
      ];
    }

pub narrowed_cleared : (ks : List ResolvedConstraint) (rounds : List Round)
    (ss : List Suspect) (list : List ℕ) → IsNarrowed ks rounds ss →
    HasRound rounds (λ part. part ≡ marked is_kept 0 (cleared ss list)) kinds.NoSolution →
    IsNarrowed ks rounds (cleared ss list)
narrowed_cleared ks rounds ss list h shown =
    narrowed_less ks rounds (cleared ss list) ss (cleared_length ss list) (cleared_less ss list) h
    shown

-- ---- a single one is settled

-- the part without one that is kept
without_one : (ss : List Suspect) (k : ℕ) (part : List ℕ) →
    part ≡ marked is_kept 0 (slice_set ss k Cleared) → IsWithout (marked is_kept 0 ss) k part
without_one ss k part e =
    let fewer = marked is_kept 0 (slice_set ss k Cleared) in
    subst (λ p. IsWithout (marked is_kept 0 ss) k p) (sym e)
    (record {
      lacks = λ at. absurd (let so = All-contains (λ m. is_kept (told (slice_set ss k Cleared) m) ≡ true) fewer k (marked_so is_kept (slice_set ss k Cleared)) at in let x : false ≡ true = sym (ap is_kept (one_cleared ss k)) ∙ so in cc);
      others = all_as (λ m. is_kept (told ss m) ≡ true) (λ m. (m ≡ k → ⊥) → Contains fewer m)
          (marked is_kept 0 ss)
          (λ m so. λ other. marked_has is_kept (slice_set ss k Cleared) m refl
          (ap is_kept (told_other ss k Cleared m other) ∙ so)) (marked_so is_kept ss);
    })

settled_kept : (one : Suspect) → IsSettled one → is_kept one ≡ true
settled_kept Cleared h = absurd h
settled_kept Open h = absurd h
settled_kept Needed h = refl
settled_kept Unsure h = refl

pub settled_off : (one : Suspect) → IsSettled one → is_open one ≡ false
settled_off Cleared h = absurd h
settled_off Open h = absurd h
settled_off Needed h = refl
settled_off Unsure h = refl

open_set : (ks : List ResolvedConstraint) (rounds : List Round) (ss : List Suspect) (k : ℕ)
    (one : Suspect) → IsSettled one → IsNarrowed ks rounds ss →
    HasRound rounds (λ part. part ≡ marked is_kept 0 (slice_set ss k Cleared))
    (end_without one) → told ss k ≡ Open → IsNarrowed ks rounds (slice_set ss k one)
open_set ks rounds ss k one is h t may =
    let now = slice_set ss k one in
    let same = marked_same is_kept ss k one (settled_kept one is ∙ sym (ap is_kept may)) in
    let here = round_as rounds (λ part. part ≡ marked is_kept 0 (slice_set ss k Cleared))
    (IsWithout (marked is_kept 0 ss) k) (end_without one) (λ part e. without_one ss k part e) t in
    let tried = λ (c : ℕ) (set : IsSettled (told now c)).
    elim (told_by_set ss k one c may) as (λ _. HasRound rounds (IsWithout (marked is_kept 0 ss) c) (end_without (told now c))) [
      | inl it ↦ subst (λ s. HasRound rounds (IsWithout (marked is_kept 0 ss) c) (end_without s))
          (sym it.1)
          (subst (λ m. HasRound rounds (IsWithout (marked is_kept 0 ss) m) (end_without one))
          (sym it.0) here)
      | inr it ↦ subst (λ s. HasRound rounds (IsWithout (marked is_kept 0 ss) c) (end_without s))
          (sym it.1) (h.tried c (subst IsSettled it.1 set))
    ] in
    record {
      count = length-set ss k one ∙ h.count;
      shown = subst (λ p. HasRound rounds (λ part. part ≡ p) kinds.NoSolution) (sym same) h.shown;
      tried = subst (λ p. (c : ℕ) → IsSettled (told now c)
          → HasRound rounds (IsWithout p c) (end_without (told now c))) (sym same) tried;
    }

pub narrowed_settled : (ks : List ResolvedConstraint) (rounds : List Round)
    (ss : List Suspect) (k : ℕ) (one : Suspect) → IsSettled one → IsNarrowed ks rounds ss →
    HasRound rounds (λ part. part ≡ marked is_kept 0 (cleared ss (k ∷ []))) (end_without one) →
    IsNarrowed ks rounds (settled ss k one)
narrowed_settled ks rounds ss k one is h t =
    when_settled (λ now. IsNarrowed ks rounds now) ss k one
    (λ may. open_set ks rounds ss k one is h t may) (λ shut. h)

-- the same of the first of some
pub narrowed_first : (ks : List ResolvedConstraint) (rounds : List Round)
    (ss : List Suspect) (rest : List ℕ) (one : Suspect) → 1 ≤ length rest → IsSettled one →
    IsNarrowed ks rounds ss →
    HasRound rounds (λ part. part ≡ marked is_kept 0 (cleared ss (take 1 rest)))
    (end_without one) → IsNarrowed ks rounds (settled ss (get_or rest 0 0) one)
narrowed_first ks rounds ss [] one some is h t = absurd (omega (arith, some))
narrowed_first ks rounds ss (k ∷ more) one some is h t =
    narrowed_settled ks rounds ss k one is h t

pub tried_first : (ss : List Suspect) (rest : List ℕ) (one : Suspect) → 1 ≤ length rest →
    IsSettled one → AreTried ss rest (settled ss (get_or rest 0 0) one) (drop 1 rest)
tried_first ss [] one some is = absurd (omega (arith, some))
tried_first ss (k ∷ []) one some is = tried_one ss k [] one (settled_off one is)
tried_first ss (k ∷ x ∷ more) one some is = tried_one ss k (x ∷ more) one (settled_off one is)

-- ---- further searches

pub narrowed_grown : (o : Outline) (ks : List ResolvedConstraint) (budget : ℕ)
    (rounds now : List Round) (ss : List Suspect) → HasGrown o ks budget rounds now →
    IsNarrowed ks rounds ss → IsNarrowed ks now ss
narrowed_grown o ks budget rounds now ss g h =
    let keep = marked is_kept 0 ss in
    record {
      count = h.count;
      shown = grown_round o ks budget rounds now (λ part. part ≡ keep) kinds.NoSolution g h.shown;
      tried = λ c is. grown_round o ks budget rounds now (IsWithout keep c)
          (end_without (told ss c)) g (h.tried c is);
    }

pub shown_grown : (o : Outline) (ks : List ResolvedConstraint) (budget : ℕ)
    (rounds now : List Round) → HasGrown o ks budget rounds now → IsShownAll ks rounds →
    IsShownAll ks now
shown_grown o ks budget rounds now g h =
    grown_round o ks budget rounds now (λ part. part ≡ range_with_len 0 (length ks))
    kinds.NoSolution g h

-- a search over all constraints tells so
pub tried_all : (o : Outline) (ks : List ResolvedConstraint) (budget : ℕ) (list : List ℕ)
    (rounds now : List Round) (end : VerdictKind) → HasTried o ks budget list rounds now end →
    list ≡ range_with_len 0 (length ks) → end ≡ kinds.NoSolution → IsShownAll ks now
tried_all o ks budget list rounds now end h is e =
    subst (λ ns. HasRound now (λ part. part ≡ ns) kinds.NoSolution) is
    (subst (λ x. HasRound now (λ part. part ≡ list) x) e
    (tried_round o ks budget list rounds now end h))

-- all that were open were tried
pub none_open : (before now : List Suspect) →
    AreTried before (marked is_open 0 before) now [] → NoneOpen now
none_open before now f c e =
    let h = f c e in
    let at = h.1 (marked_has is_open before c refl (ap is_open h.0)) in
    absurd (let there = at.1 in omega (arith, there))

-- ---- where none was settled

pub fresh_narrowed : (ks : List ResolvedConstraint) (rounds : List Round)
    (ss : List Suspect) → length ss ≡ length ks → All IsFresh ss →
    HasRound rounds (λ part. part ≡ marked is_kept 0 ss) kinds.NoSolution →
    IsNarrowed ks rounds ss
fresh_narrowed ks rounds ss e fresh shown =
    record {
      count = e;
      shown = shown;
      tried = λ c is. absurd (fresh_settled ss fresh c is);
    }

-- all are open
pub all_narrowed : (ks : List ResolvedConstraint) (rounds : List Round) (ss : List Suspect) →
    ss ≡ replicate (length ks) Open → IsShownAll ks rounds → IsNarrowed ks rounds ss
all_narrowed ks rounds ss e shown =
    subst (λ xs. IsNarrowed ks rounds xs) (sym e)
    (fresh_narrowed ks rounds (replicate (length ks) Open)
    (length-replicate (length ks) Open) (open_fresh (length ks))
    (subst (λ p. HasRound rounds (λ part. part ≡ p) kinds.NoSolution)
    (sym (all_marked (length ks) 0)) shown))
