-- Problems all of whose variables are searched.
use Rattle.std.proofs.Common.{◌≡◌, ℕ, ◌+◌, ◌<◌, ◌≤◌, List, All, length, get_or, drop, sym, subst, arith}
use Rattle.std.proofs.lemmas.List.Elements.{All-cons}
use Rattle.signed_clause.specs.Clauses.{Boxes}
use Rattle.signed_clause.proofs.RangeSteps.{left_at}
use Rattle.ground_form.specs.declared.con.Con.{Con}
use Rattle.ground_form.specs.declared.ground.Ground.{Ground}
use Rattle.ground_form.specs.WellMade.{IsWellMadeCon, IsWellMade}
use Rattle.rule_law.specs.Answers.{AreBoxesWithin}

pub made_step : (cons : List Con) (domains : Boxes) (i : ℕ) (con d : Con) → i < length cons → con ≡ get_or cons i d → IsWellMadeCon domains con → All (λ k. IsWellMadeCon domains k) (drop (i + 1) cons) → All (λ k. IsWellMadeCon domains k) (drop i cons)
made_step cons domains i con d h e made more =
    subst (λ (ks : List Con). All (λ k. IsWellMadeCon domains k) ks) (sym (left_at cons i con d h e)) (All-cons (λ k. IsWellMadeCon domains k) con (drop (i + 1) cons) made more)

pub made_problem : (g : Ground) → length g.domains ≤ 1000000 → length g.cons ≤ 1000000 → g.search ≡ length g.domains → length g.goals ≡ 0 → All (λ con. IsWellMadeCon g.domains con) g.cons → AreBoxesWithin g.domains g.domains → IsWellMade g
made_problem g few less is none made sets = record {
  few_variables = omega arith;
  few_constraints = omega arith;
  search = omega arith;
  defined = λ x from below. absurd (omega arith);
  constraints = made;
  goals = λ k e lt. absurd (omega arith);
  domains = sets.sets;
}
