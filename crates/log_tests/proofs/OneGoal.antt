-- The ground problems of the tests are well made.
use Rattle.std.proofs.Common.{◌≡◌, ◌<◌, false, List, [], ◌∷◌, pos, negsuc, sym, arith, subst}
use Rattle.std.proofs.lemmas.List.Elements.{All-nil, All-cons}
use Rattle.std.proofs.lemmas.Int.{ints}
use Rattle.signed_clause.specs.Ranges.{IsValid}
use Rattle.signed_clause.specs.Clauses.{Boxes}
use Rattle.ground_form.specs.declared.con.Con.{Con}
use Rattle.ground_form.specs.declared.con.Con.TheVariants.{LinLe}
use Rattle.ground_form.specs.declared.ground.GroundGoal.{GroundGoal}
use Rattle.ground_form.specs.Bounds.{IsBounded, term_weight}
use Rattle.ground_form.specs.WellMade.{IsWellMade, IsWellMadeCon}

one_three : IsValid ((pos 1, pos 3) ∷ [])
one_three = (omega (arith, ints), omega (arith, ints), omega (arith, ints))

abbrev pub small : Con
small = LinLe ((negsuc 0, 0) ∷ []) (negsuc 1)

abbrev pub range : Boxes
range = ((pos 1, pos 3) ∷ []) ∷ []

small_bounded : IsBounded small range
unfolding term_weight
small_bounded = omega arith

small_made : IsWellMadeCon range small
small_made = record {
  named = All-cons (λ x. x < 1) 0 [] (omega arith) (All-nil (λ x. x < 1));
  flags = All-nil _;
  distinct = tt;
  bounded = small_bounded;
  sets = tt;
}

abbrev pub downwards : GroundGoal
downwards = record { var = 0; max = false }

pub one_goal_is : (ds : Boxes) (cs : List Con) (gs : List GroundGoal) → ds ≡ range → cs ≡ small ∷ [] → gs ≡ downwards ∷ [] → IsWellMade (record { domains = ds; search = 1; cons = cs; goals = gs })
one_goal_is ds cs gs d c g =
    subst (λ (z : Boxes). IsWellMade (record { domains = z; search = 1; cons = cs; goals = gs })) (sym d)
    (subst (λ (z : List Con). IsWellMade (record { domains = range; search = 1; cons = z; goals = gs })) (sym c)
    (subst (λ (z : List GroundGoal). IsWellMade (record { domains = range; search = 1; cons = small ∷ []; goals = z })) (sym g) (record {
      few_variables = omega arith;
      few_constraints = omega arith;
      search = omega arith;
      defined = λ x h k. absurd (omega arith);
      constraints = All-cons (λ con. IsWellMadeCon range con) small [] small_made (All-nil _);
      goals = All-cons (λ goal. goal.var < 1) downwards [] (omega arith) (All-nil _);
      domains = All-cons (λ s. IsValid s) ((pos 1, pos 3) ∷ []) [] one_three (All-nil _);
    })))
