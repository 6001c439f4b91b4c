-- Two small runs, and lines that no run has, by computation: so the definitions of `Replay` take
-- what they should, and refuse what they should.
use Rattle.std.proofs.Common.{◌≡◌, true, false, List, [], ◌∷◌, ◌++◌, ℤ, pos, refl}
use Rattle.signed_clause.specs.Ranges.{Ranges}
use Rattle.signed_clause.specs.Clauses.{Literals}
use Rattle.ground_form.specs.declared.con.Con.TheVariants.{ClauseCon}
use Rattle.ground_form.specs.declared.ground.Ground.{Ground}
use Rattle.box_rules.specs.Quiet as quiets
use Rattle.log_form.specs.declared.line.Line.{Line}
use Rattle.log_form.specs.declared.line.Line.TheVariants.{Axiom, Chain, Bound, Use, Found, Decide}
use Rattle.log_form.specs.Acceptance as acceptance
use Rattle.run_law.specs.Replay as replay
use Rattle.run_law.specs.Replay.{is_run}
use Rattle.run_law.specs.Decisions.{decisions}

abbrev one : ℤ → Ranges
one v = (v, v) ∷ []

abbrev zero_or_one : Ranges
zero_or_one = (pos 0, pos 1) ∷ []

-- ---- no solution: two variables of 0 and 1, and no pair of values is left

abbrev either : ℤ → ℤ → Literals
either v w = (0, one v) ∷ (1, one w) ∷ []

abbrev no_pair : Ground
no_pair = record {
  domains = zero_or_one ∷ zero_or_one ∷ [];
  search = 2;
  cons = ClauseCon (either (pos 0) (pos 0)) ∷ ClauseCon (either (pos 0) (pos 1))
      ∷ ClauseCon (either (pos 1) (pos 0)) ∷ ClauseCon (either (pos 1) (pos 1)) ∷ [];
  goals = [];
}

abbrev to_conflict : List Line
to_conflict =
    Decide 0 (one (pos 0)) ∷ Axiom 2 (either (pos 1) (pos 0))
    ∷ Axiom 3 (either (pos 1) (pos 1)) ∷ []

abbrev to_end : List Line
to_end =
    Chain (record { first = 1; steps = (1, 0) ∷ [] }) ((0, one (pos 1)) ∷ [])
    ∷ Axiom 0 (either (pos 0) (pos 0)) ∷ Axiom 1 (either (pos 0) (pos 1))
    ∷ Chain (record { first = 4; steps = (1, 3) ∷ (0, 2) ∷ [] }) [] ∷ []

closes : is_run no_pair (to_conflict ++ to_end) ≡ true
unfolding acceptance.accepts acceptance.after quiets.quiet replay.may_stand replay.changed
closes = refl

decides_once : decisions (to_conflict ++ to_end) ≡ 1
decides_once = refl

-- nothing stands behind the empty clause
no_more : is_run no_pair (to_conflict ++ to_end ++ Use 0 ∷ []) ≡ false
unfolding acceptance.accepts acceptance.after quiets.quiet replay.may_stand replay.changed
no_more = refl

-- no decision where a constraint has something to say
not_quiet : is_run no_pair (Decide 0 (one (pos 0)) ∷ Decide 1 (one (pos 0)) ∷ []) ≡ false
unfolding acceptance.accepts acceptance.after quiets.quiet replay.may_stand replay.changed
not_quiet = refl

-- none that takes the whole box
no_split : is_run no_pair (Decide 0 zero_or_one ∷ []) ≡ false
unfolding acceptance.accepts acceptance.after quiets.quiet replay.may_stand replay.changed
no_split = refl

-- no chain but the walk
not_walked : is_run no_pair
    (to_conflict ++ Chain (record { first = 1; steps = [] }) (either (pos 1) (pos 1)) ∷ []) ≡ false
unfolding acceptance.accepts acceptance.after quiets.quiet replay.may_stand replay.changed
not_walked = refl

-- ---- a best solution: one variable of 0 and 1, to be made great

abbrev great : Ground
great = record {
  domains = zero_or_one ∷ [];
  search = 1;
  cons = [];
  goals = record { var = 0; max = true } ∷ [];
}

abbrev to_best : List Line
to_best =
    Decide 0 (one (pos 0)) ∷ Found (pos 0 ∷ []) ∷ Bound (pos 0 ∷ [])
    ∷ Chain (record { first = 0; steps = [] }) ((0, one (pos 1)) ∷ []) ∷ Found (pos 1 ∷ [])
    ∷ Bound (pos 1 ∷ []) ∷ []

finds_best : is_run great to_best ≡ true
unfolding acceptance.accepts acceptance.after quiets.quiet replay.may_stand replay.changed
finds_best = refl

-- nothing is found before the boxes are single values
not_fixed : is_run great (Found (pos 0 ∷ []) ∷ []) ≡ false
unfolding acceptance.accepts acceptance.after quiets.quiet replay.may_stand replay.changed
not_fixed = refl
