-- Rounds over parts of a model, one after the other.
use Rattle.std.proofs.Common.{◌≡◌, inl, inr, ℕ, true, List, [], ◌∷◌, ◌++◌, None, Some, refl, sym, ap, ◌∙◌, subst, length, map, All}
use Rattle.std.specs.List.{Contains, list_all, range_with_len}
use Rattle.std.proofs.lemmas.Bool.{and_from, and_parts}
use Rattle.std.proofs.lemmas.List.{append-nil, append_assoc}
use Rattle.std.proofs.lemmas.List.Elements.{All-nil, All-cons, All-append, Contains-append_left, Contains-push}
use Rattle.branch_choice.specs.declared.split.Order.TheVariants as orders
use Rattle.class_table.specs.Outline.{Outline}
use Rattle.conf_core.specs.Cores.{HasRound, BeginsSo}
use Rattle.conf_core.specs.Parts.{part_of, IsPart, IsPartRound, ArePartRounds}
use Rattle.conf_core.specs.Searching.{HasClosed, HasGrown, HasTried, EndsAccepted}
use Rattle.conf_limits.specs.Measures.{model_narrow, constraint_narrow, goal_narrow}
use Rattle.conf_limits.proofs.PartLaws.{part_passes}
use Rattle.conf_types.specs.Programs.{ResolvedConstraint, ResolvedGoal, constraint_at}
use Rattle.ground_form.specs.declared.ground.Ground.{Ground}
use Rattle.ground_form.specs.WellMade.{IsWellMade}
use Rattle.log_form.specs.Acceptance.{accepted}
use Rattle.log_form.specs.declared.line.Line.{Line}
use Rattle.model_search.specs.Rounds.{journal_of, told_by, end_of}
use Rattle.model_search.specs.Runs.{HasRun}
use Rattle.proof_log.specs.declared.journal.Round.{Round}
use Rattle.log_check.specs.Verdicts.{Ending}
use Rattle.run_finder.specs.SoFar.{AreSoFar}
use Rattle.run_law.specs.Replay.{is_run}
use Rattle.log_check.specs.declared.verdict.VerdictKind.{VerdictKind}

-- ---- a part is within the limits

pub part_narrow : (o : Outline) (ks : List ResolvedConstraint) (gs : List ResolvedGoal)
    (part : List ℕ) → model_narrow o ks gs ≡ true → IsPart ks part →
    model_narrow o (map (constraint_at ks) part) [] ≡ true
part_narrow o ks gs part h p =
    let all = (and_parts (list_all (constraint_narrow o) ks) (list_all (goal_narrow o) gs) h).0 in
    and_from (list_all (constraint_narrow o) (map (constraint_at ks) part)) true
    (part_passes (constraint_narrow o) (constraint_at [] 0) ks part all p.exist) refl

-- ---- a round more

-- a round that was closed is over the part
pub tried_of : (o : Outline) (ks : List ResolvedConstraint) (budget : ℕ) (part : List ℕ)
    (rounds now : List Round) (round : Round) (verdict : Ending) (end : VerdictKind) →
    IsPart ks part → (c : HasClosed o (part_of ks part) budget part rounds now verdict) →
    round ≡ c.round →
    HasRun o (part_of ks part) [] None orders.Own budget (journal_of round) (told_by round) →
    end_of (told_by round) ≡ end → HasTried o ks budget part rounds now end
tried_of o ks budget part rounds now round verdict end p c same run ended =
    let whole = subst (λ r. HasRun o (part_of ks part) [] None orders.Own budget (journal_of r)
    (told_by r)) same run in
    record {
      round = c.round;
      more = c.more;
      is = record {
        part = subst (λ n. IsPart ks n) (sym c.part_is) p;
        ground = c.well_made;
        run = subst (λ n. HasRun o (part_of ks n) [] None orders.Own budget (journal_of c.round)
            (told_by c.round)) (sym c.part_is) whole;
      };
      part_is = c.part_is;
      ended = subst (λ r. end_of (told_by r) ≡ end) same ended;
    }

pub tried_round : (o : Outline) (ks : List ResolvedConstraint) (budget : ℕ) (part : List ℕ)
    (rounds now : List Round) (end : VerdictKind) → HasTried o ks budget part rounds now end →
    HasRound now (λ p. p ≡ part) end
tried_round o ks budget part rounds now end h =
    record {
      round = h.round;
      there = subst (λ rs. Contains rs h.round) (sym h.more) (Contains-push rounds h.round);
      part = h.part_is;
      ended = h.ended;
    }

pub tried_grown : (o : Outline) (ks : List ResolvedConstraint) (budget : ℕ) (part : List ℕ)
    (rounds now : List Round) (end : VerdictKind) → HasTried o ks budget part rounds now end →
    HasGrown o ks budget rounds now
tried_grown o ks budget part rounds now end h =
    record {
      further = h.round ∷ [];
      more = h.more;
      are = All-cons (IsPartRound o ks budget) h.round [] h.is (All-nil (IsPartRound o ks budget));
    }

-- ---- where a search broke off

pub none_so_far : (ls : List Line) → ls ≡ [] → AreSoFar ls
none_so_far ls none = inl none

pub run_so_far : (g : Ground) (ls : List Line) → IsWellMade g → is_run g ls ≡ true → AreSoFar ls
run_so_far g ls well_made run = inr (g, well_made, run)

some_same : (g h : Ground) → Some g ≡ Some h → g ≡ h
some_same g h e = cc

pub tried_accepted : (o : Outline) (ks : List ResolvedConstraint) (budget : ℕ) (part : List ℕ)
    (rounds now : List Round) (end : VerdictKind) → HasTried o ks budget part rounds now end →
    EndsAccepted now
tried_accepted o ks budget part rounds now end h =
    let run = h.is.run in
    record {
      before = rounds;
      round = h.round;
      more = h.more;
      well_made = h.is.ground;
      taken = subst (λ g. accepted g h.round.lines ≡ true)
          (sym (some_same h.round.ground run.ground run.kept)) run.whole.taken;
    }

pub tried_begins : (o : Outline) (ks : List ResolvedConstraint) (budget : ℕ) (part : List ℕ)
    (rounds now : List Round) (end : VerdictKind) → HasTried o ks budget part rounds now end →
    rounds ≡ [] → part ≡ range_with_len 0 (length ks) → BeginsSo ks now end
tried_begins o ks budget part rounds now end h none all =
    record {
      first = h.round;
      rest = [];
      rounds_are = h.more ∙ ap (λ rs. rs ++ h.round ∷ []) none;
      all = h.part_is ∙ all;
      ended = h.ended;
    }

pub tried_parts : (o : Outline) (ks : List ResolvedConstraint) (budget : ℕ) (part : List ℕ)
    (rounds now : List Round) (end : VerdictKind) → HasTried o ks budget part rounds now end →
    rounds ≡ [] → ArePartRounds o ks budget now
tried_parts o ks budget part rounds now end h none =
    subst (λ rs. All (IsPartRound o ks budget) rs)
    (sym (h.more ∙ ap (λ rs. rs ++ h.round ∷ []) none))
    (All-cons (IsPartRound o ks budget) h.round [] h.is (All-nil (IsPartRound o ks budget)))

-- ---- further rounds

pub same_grown : (o : Outline) (ks : List ResolvedConstraint) (budget : ℕ)
    (rounds now : List Round) → now ≡ rounds → HasGrown o ks budget rounds now
same_grown o ks budget rounds now e =
    record {
      further = [];
      more = e ∙ sym (append-nil rounds);
      are = All-nil (IsPartRound o ks budget);
    }

pub grown_more : (o : Outline) (ks : List ResolvedConstraint) (budget : ℕ)
    (rounds now next : List Round) → HasGrown o ks budget rounds now →
    HasGrown o ks budget now next → HasGrown o ks budget rounds next
grown_more o ks budget rounds now next g h =
    record {
      further = g.further ++ h.further;
      more = h.more ∙ ap (λ rs. rs ++ h.further) g.more
          ∙ append_assoc rounds g.further h.further;
      are = All-append (IsPartRound o ks budget) g.further h.further g.are h.are;
    }

pub grown_round : (o : Outline) (ks : List ResolvedConstraint) (budget : ℕ)
    (rounds now : List Round) (P : List ℕ → Type 0) (end : VerdictKind) →
    HasGrown o ks budget rounds now → HasRound rounds P end → HasRound now P end
grown_round o ks budget rounds now P end g h =
    record {
      round = h.round;
      there = subst (λ rs. Contains rs h.round) (sym g.more)
          (Contains-append_left rounds g.further h.round h.there);
      part = h.part;
      ended = h.ended;
    }

pub grown_begins : (o : Outline) (ks : List ResolvedConstraint) (budget : ℕ)
    (rounds now : List Round) (end : VerdictKind) → HasGrown o ks budget rounds now →
    BeginsSo ks rounds end → BeginsSo ks now end
grown_begins o ks budget rounds now end g h =
    record {
      first = h.first;
      rest = h.rest ++ g.further;
      rounds_are = g.more ∙ ap (λ rs. rs ++ g.further) h.rounds_are;
      all = h.all;
      ended = h.ended;
    }

pub grown_parts : (o : Outline) (ks : List ResolvedConstraint) (budget : ℕ)
    (rounds now : List Round) → HasGrown o ks budget rounds now →
    ArePartRounds o ks budget rounds → ArePartRounds o ks budget now
grown_parts o ks budget rounds now g h =
    subst (λ rs. All (IsPartRound o ks budget) rs) (sym g.more)
    (All-append (IsPartRound o ks budget) rounds g.further h g.are)
