-- The problem of a round, and what it says of the session's problem.
use Rattle.std.proofs.Common.{◌≡◌, ℕ, ◌+◌, ◌-◌, ◌^◌, ◌<◌, ◌≤◌, Bool, true, false, ◌&&◌, List, [], ◌∷◌, ℤ, pos, length, take, Option, All, sym, ap, ◌∙◌, subst, arith}
use Rattle.class_table.specs.Outline.{Outline}
use Rattle.ground_cells.specs.CellBoxes.{cell_boxes}
use Rattle.ground_form.specs.StandsFor.{StandsFor}
use Rattle.ground_form.specs.Meaning.{con_true}
use Rattle.ground_form.specs.Solutions.{IsPoint}
use Rattle.ground_form.specs.WellMade.{IsWellMade}
use Rattle.ground_form.specs.declared.ground.Ground.{Ground}
use Rattle.kept_clauses.specs.Kept.{flagged, keeps, kept}
use Rattle.log_form.specs.declared.line.Line.{Line}
use Rattle.object_alloc.specs.Changes.{allowed, changes}
use Rattle.reconfigure.specs.Failing.{objects_named}
use Rattle.reconfigure.specs.Repairing.{Extends}
use Rattle.signed_clause.specs.Clauses.{IsClause, clause_true}
use Rattle.conf_session.proofs.Following.{IsLow, kept_follow, kept_stands, kept_well_made}
use Rattle.conf_session.proofs.KeptLaws.{kept_few}
use Rattle.command_limits.specs.Limits.{most_kept}
use Rattle.conf_session.specs.Keeping.{keeping, with_kept}
use Rattle.conf_session.specs.Steps.{RepairsFor, ground_behind, IsGroundBehind}

-- the same, of values, words and a problem that are the session's
pub repairs_by : (o : Outline) (g base new : Ground) (former hs : List (Option ℤ)) (failed ws : List (List ℕ)) → base ≡ g → hs ≡ former → ws ≡ failed → RepairsFor o hs ws base new → RepairsFor o former failed g new
repairs_by o g base new former hs failed ws same values words h =
    subst (λ (vs : List (List ℕ)). RepairsFor o former vs g new) words
    (subst (λ (vs : List (Option ℤ)). RepairsFor o vs ws g new) values
    (subst (λ (b : Ground). RepairsFor o hs ws b new) same h))

-- ---- the problem behind a round

whole_is : (begun : ℕ) (old g new : Ground) (ls : List Line) (flags : List Bool) (n b room : ℕ) → n ≡ length old.domains → b ≡ length old.cons → room ≡ begun + most_kept - b → flags ≡ keeps g n b [] ls → new ≡ keeping room old (flagged flags ls) → new ≡ ground_behind begun old g ls
whole_is begun old g new ls flags n b room n_is b_is room_is flags_are is =
    is ∙ ap (λ (fs : List Bool). keeping room old (flagged fs ls)) flags_are
    ∙ ap (λ (k : ℕ). keeping k old (kept g n b ls)) room_is
    ∙ ap (λ (k : ℕ). keeping (begun + most_kept - k) old (kept g n k ls)) b_is
    ∙ ap (λ (m : ℕ). keeping (begun + most_kept - length old.cons) old (kept g m (length old.cons) ls)) n_is

room_for : (begun count : ℕ) → begun ≤ 2 ^ 31 → begun ≤ count → count ≤ begun + most_kept → count + (begun + most_kept - count) < 2 ^ 32 - 1
room_for begun count few grown most = omega (arith, few, grown, most)

few_left : (begun count size : ℕ) → count ≤ begun + most_kept → size ≤ count + (begun + most_kept - count) → size ≤ begun + most_kept
few_left begun count size most le = omega (arith, most, le)

pub ground_is : (begun : ℕ) (old g new : Ground) (ls : List Line) (flags : List Bool) (n b room : ℕ) → IsWellMade old → begun ≤ 2 ^ 31 → begun ≤ length old.cons → length old.cons ≤ begun + most_kept →
    Extends old g → n ≡ length old.domains → b ≡ length old.cons → room ≡ begun + most_kept - b → flags ≡ keeps g n b [] ls → new ≡ keeping room old (flagged flags ls) →
    All (λ c. IsClause c) (kept g n b ls) → All (λ c. All (λ l. l.0 < n) c) (kept g n b ls) →
    ((a : List ℤ) → IsPoint g.domains a → All (λ con. con_true con a ≡ true) (take b g.cons) → All (λ c. clause_true c a ≡ true) (kept g n b ls)) → IsGroundBehind begun old g ls new
ground_is begun old g new ls flags n b room w few grown most extends n_is b_is room_is flags_are is forms low truths =
    let cs = kept g (length old.domains) (length old.cons) ls in
    let space = begun + most_kept - length old.cons in
    let here : new ≡ ground_behind begun old g ls = whole_is begun old g new ls flags n b room n_is b_is room_is flags_are is in
    let form : All (λ c. IsClause c) cs = subst (λ (k : ℕ). All (λ c. IsClause c) (kept g (length old.domains) k ls)) b_is (subst (λ (m : ℕ). All (λ c. IsClause c) (kept g m b ls)) n_is forms) in
    let below : All (λ c. IsLow (length old.domains) c) cs = subst (λ (k : ℕ). All (λ c. IsLow (length old.domains) c) (kept g (length old.domains) k ls)) b_is (subst (λ (m : ℕ). All (λ c. IsLow m c) (kept g m b ls)) n_is low) in
    let so : (a : List ℤ) → IsPoint g.domains a → All (λ con. con_true con a ≡ true) (take (length old.cons) g.cons) → All (λ c. clause_true c a ≡ true) cs =
    subst (λ (k : ℕ). (a : List ℤ) → IsPoint g.domains a → All (λ con. con_true con a ≡ true) (take k g.cons) → All (λ c. clause_true c a ≡ true) (kept g (length old.domains) k ls)) b_is
    (subst (λ (m : ℕ). (a : List ℤ) → IsPoint g.domains a → All (λ con. con_true con a ≡ true) (take b g.cons) → All (λ c. clause_true c a ≡ true) (kept g m b ls)) n_is truths) in
    let room_left : length old.cons + space < 2 ^ 32 - 1 = room_for begun (length old.cons) few grown most in
    let sizes = kept_few space old.cons cs in
    record {
      is = here;
      well_made = subst (λ (m : Ground). IsWellMade m) (sym here) (kept_well_made space old cs room_left form below w);
      grown = subst (λ (m : Ground). length old.cons ≤ length m.cons) (sym here) sizes.0;
      few = subst (λ (m : Ground). length m.cons ≤ begun + most_kept) (sym here) (few_left begun (length old.cons) (length (with_kept space old.cons cs)) most sizes.1);
      still = λ o former failed repairs test fs st.
          subst (λ (m : Ground). StandsFor m (cell_boxes o) test fs) (sym here)
          (kept_stands space old (cell_boxes o) test fs cs room_left form below st
          (kept_follow old g (cell_boxes o) test (λ t. test t && allowed o (objects_named o failed) t) fs ((false, λ t. pos (changes o former t)) ∷ fs) cs extends st (repairs test fs st) so below));
    }
