-- A step of a session, from its parts.
use Rattle.std.proofs.Common.{◌≡◌, ℕ, ◌≤◌, Bool, true, false, List, [], ◌∷◌, ◌++◌, ℤ, Option, None, Some, IsSome, IfSome, length, take, refl, sym, ap, ◌∙◌, subst, arith, length-take, map, suc}
use Rattle.class_table.specs.Outline.{Outline}
use Rattle.conf_events.specs.declared.event.Event.{Event}
use Rattle.ground_form.specs.declared.ground.Ground.{Ground}
use Rattle.ground_form.specs.WellMade.{IsWellMade}
use Rattle.log_check.specs.Soundness.{FoundSolves}
use Rattle.log_check.specs.Verdicts.{Ending}
use Rattle.log_form.specs.declared.line.Line.{Line}
use Rattle.object_alloc.specs.Paths.{object_named}
use Rattle.proof_log.specs.Rounds.{Journal}
use Rattle.proof_log.specs.declared.journal.Round.{Round}
use Rattle.reconfigure.specs.Failing.{unknown_word}
use Rattle.reconfigure.specs.Repairing.{Extends}
use Rattle.run_finder.specs.Searched.{HasSearched}
use Rattle.conf_session.proofs.KnownWords.{behind_known}
use Rattle.conf_session.specs.Standing.{Standing, IsOver, IsStanding, former_behind, former_by}
use Rattle.conf_session.specs.Failed.{failed_behind}
use Rattle.conf_session.specs.declared.step.Step.{Step}
use Rattle.conf_session.specs.Steps.{RepairsFor, IsStep, IsSearched, IsClosed, IsBehind, IsGroundBehind}

-- the same standing, with other words
abbrev with_words : Standing → List (List ℕ) → Standing
with_words s ws = record { ground = s.ground; former = s.former; failed = ws; begun = s.begun }

same_standing : (s t : Standing) → t.ground ≡ s.ground → t.former ≡ s.former → t.begun ≡ s.begun → t ≡ with_words s t.failed
same_standing s t g f b =
    ap (λ (x : Ground). record { ground = x; former = t.former; failed = t.failed; begun = t.begun }) g
    ∙ ap (λ (x : List (Option ℤ)). record { ground = s.ground; former = x; failed = t.failed; begun = t.begun }) f
    ∙ ap (λ (x : ℕ). record { ground = s.ground; former = s.former; failed = t.failed; begun = x }) b

-- it is over the same objects, where the words name some of them
over_words : (o : Outline) (s : Standing) (ws : List (List ℕ)) → IsOver o s → unknown_word o ws ≡ None → IsOver o (with_words s ws)
over_words o s ws h known = record { test = h.test; functions = h.functions; stands = h.stands; failed = known }

pub over_behind : (o : Outline) (e : Event) (old new : Standing) → IsOver o old → IsSome (object_named o e.path) → new.ground ≡ old.ground → new.failed ≡ failed_behind e old.failed → new.former ≡ old.former → new.begun ≡ old.begun → IsOver o new
over_behind o e old new h named ground failed former begun =
    let known : unknown_word o new.failed ≡ None = subst (λ (ws : List (List ℕ)). unknown_word o ws ≡ None) (sym failed) (behind_known o e old.failed h.failed named) in
    subst (λ (s : Standing). IsOver o s) (sym (same_standing old new ground former begun)) (over_words o old new.failed h known)

some_same : (g h : Ground) → Some g ≡ Some h → g ≡ h
some_same g h e = cc

step_from : (o : Outline) (e : Event) (budget : ℕ) (old new : Standing) (ws : List (List ℕ))
    (before mid after : Journal) (step : Step) → IsOver o old → unknown_word o ws ≡ None →
    ws ≡ failed_behind e old.failed → IsSearched o (with_words old ws) budget mid step.verdict →
    mid.rounds ≡ before.rounds → step.repair.former ≡ old.former → step.repair.failed.items ≡ ws →
    IsClosed (with_words old ws) mid after step.verdict new →
    IsStep o e budget old new before after step
step_from o e budget old new ws before mid after step over known words searched rounds values given closed =
    let round = closed.round in
    let same : searched.ground ≡ round.ground = some_same searched.ground round.ground (sym searched.kept ∙ closed.ground_is) in
    let lines : mid.lines ≡ round.lines = sym closed.lines_are in
    let failed : new.failed ≡ ws = closed.behind.failed in
    let repairs : RepairsFor o old.former ws old.ground round.ground = subst (λ (g : Ground). RepairsFor o old.former ws old.ground g) same searched.repairs in
    let still = closed.behind.still o old.former ws repairs in
    record {
      round = round;
      recorded = closed.recorded ∙ ap (λ (rs : List Round). record { ground = None; lines = []; rounds = rs ++ round ∷ [] }) rounds;
      extends = subst (λ (g : Ground). Extends old.ground g) same searched.extends;
      repairs = subst (λ (vs : List (List ℕ)). RepairsFor o old.former vs old.ground round.ground) (sym failed) repairs;
      searched = subst (λ (ls : List Line). HasSearched round.ground budget ls step.verdict) lines
          (subst (λ (g : Ground). HasSearched g budget mid.lines step.verdict) same searched.searched);
      repaired_former = values;
      repaired_failed = given ∙ sym failed;
      failed = failed ∙ words;
      former = closed.behind.former;
      ground = closed.behind.ground;
      begun = closed.behind.begun;
      still = still;
      over = record {
        test = over.test;
        functions = over.functions;
        stands = still over.test over.functions over.stands;
        failed = subst (λ (vs : List (List ℕ)). unknown_word o vs ≡ None) (sym failed) known;
      };
    }

pub step_of : (o : Outline) (e : Event) (budget : ℕ) (old t new : Standing)
    (before mid after : Journal) (step : Step) → IsOver o old → IsSome (object_named o e.path) →
    t.ground ≡ old.ground → t.failed ≡ failed_behind e old.failed → t.former ≡ old.former →
    t.begun ≡ old.begun → IsSearched o t budget mid step.verdict → mid.rounds ≡ before.rounds →
    step.repair.former ≡ t.former → step.repair.failed.items ≡ t.failed →
    IsClosed t mid after step.verdict new → IsStep o e budget old new before after step
step_of o e budget old t new before mid after step over named ground failed former begun searched rounds values given closed =
    let known : unknown_word o t.failed ≡ None = subst (λ (ws : List (List ℕ)). unknown_word o ws ≡ None) (sym failed) (behind_known o e old.failed over.failed named) in
    let same = same_standing old t ground former begun in
    step_from o e budget old new t.failed before mid after step over known failed
    (subst (λ (s : Standing). IsSearched o s budget mid step.verdict) same searched) rounds
    (values ∙ former) given
    (subst (λ (s : Standing). IsClosed s mid after step.verdict new) same closed)

-- ---- what a session has come to behind a round

somes_size : (vs : List ℤ) → length (map Some vs) ≡ length vs
somes_size [] = refl
somes_size (v ∷ vs) = ap suc (somes_size vs)

hints_size : (n : ℕ) (former : List (Option ℤ)) (closed : Bool) (found : Option (List ℤ)) →
    length former ≡ n → IfSome found (λ a. n ≤ length a) →
    length (former_by n former closed found) ≡ n
hints_size n former true (Some a) size long =
    let e = somes_size (take n a) in
    let t = length-take n a in
    omega (arith, e, t, long)
hints_size n former true None size long = size
hints_size n former false found size long = size

-- the values found last are enough for the searched variables
pub found_long : (g : Ground) (n : ℕ) (found : Option (List ℤ)) → IsWellMade g →
    FoundSolves g found → g.search ≡ n → IfSome found (λ a. n ≤ length a)
found_long g n None w f is = tt
found_long g n (Some a) w f is =
    let size = f.point.size in
    let few = w.search in
    omega (arith, size, few, is)

pub standing_behind : (s : Standing) (g new : Ground) (ls : List Line) (verdict : Ending)
    (hints : List (Option ℤ)) (ws : List (List ℕ)) → IsStanding s →
    IfSome verdict.found (λ a. s.ground.search ≤ length a) →
    hints ≡ former_behind s.ground.search s.former verdict →
    IsGroundBehind s.begun s.ground g ls new →
    IsStanding (record { ground = new; former = hints; failed = ws; begun = s.begun })
standing_behind s g new ls verdict hints ws st long is b =
    let search : new.search ≡ s.ground.search = ap (λ (x : Ground). x.search) b.is in
    record {
      well_made = b.well_made;
      hints = ap (λ (hs : List (Option ℤ)). length hs) is
          ∙ hints_size s.ground.search s.former verdict.closed verdict.found st.hints long
          ∙ sym search;
      few = st.few;
      grown = let least = st.grown in let more = b.grown in omega (arith, least, more);
      kept = b.few;
    }

pub behind_of : (s t : Standing) (g new : Ground) (ls : List Line) (verdict : Ending)
    (hints : List (Option ℤ)) → s ≡ t → hints ≡ former_behind s.ground.search s.former verdict →
    IsGroundBehind s.begun s.ground g ls new →
    IsBehind t g ls verdict
    (record { ground = new; former = hints; failed = s.failed; begun = s.begun })
behind_of s t g new ls verdict hints same is b =
    subst (λ (x : Standing). IsBehind x g ls verdict
    (record { ground = new; former = hints; failed = s.failed; begun = s.begun })) same
    (record { failed = refl; former = is; ground = b.is; begun = refl; still = b.still })
