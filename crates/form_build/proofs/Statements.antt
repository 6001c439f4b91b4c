-- What a statement adds.
use Rattle.std.proofs.Common.{◌≡◌, Bool, [], List, ℤ, Contains, refl, sym, subst}
use Rattle.std.proofs.lemmas.List.Elements.{Contains-push}
use Rattle.signed_clause.specs.Clauses.{Boxes}
use Rattle.ground_form.specs.declared.con.Con.{Con}
use Rattle.ground_form.specs.declared.ground.Ground.{Ground}
use Rattle.ground_form.specs.Meaning.{con_true}
use Rattle.ground_build.specs.Growing.{IsRequired}
use Rattle.form_build.specs.Worlds.{Adds, AreSome}
use Rattle.form_build.proofs.Steps.{required_adds}

-- a statement says what it means
pub stated_adds : (old new : Ground) (con : Con) (q : List ℤ → Bool) → ((a : List ℤ) → con_true con a ≡ q a) → IsRequired old new con → Adds [] old new q
stated_adds old new con q e r = required_adds [] old new con q r (λ a w kn. e a)

-- and changes no box
pub stated_some : (old new : Ground) (con : Con) → IsRequired old new con → AreSome old.domains → AreSome new.domains
stated_some old new con r h = subst (λ (g : Ground). AreSome g.domains) (sym r.grown) h

-- and stands in the problem
pub stated_stands : (old new : Ground) (con : Con) → IsRequired old new con → Contains new.cons con
stated_stands old new con r = subst (λ (g : Ground). Contains g.cons con) (sym r.grown) (Contains-push old.cons con)
