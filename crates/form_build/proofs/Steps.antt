-- What one call of the builder adds.
use Rattle.std.proofs.Common.{◌≡◌, ◌↔◌, ℕ, ◌≤◌, Bool, true, List, [], ◌∷◌, ℤ, arith, append-nil, length-append, refl, sym, ◌∙◌, subst, Some}
use Rattle.signed_clause.specs.Ranges.{Ranges}
use Rattle.ground_form.specs.declared.con.Con.{Con}
use Rattle.ground_form.specs.declared.ground.Ground.{Ground}
use Rattle.ground_form.specs.Meaning.{con_true}
use Rattle.ground_form.specs.WellMade.{defined_by}
use Rattle.ground_form.specs.StandsFor.{IsDefinition}
use Rattle.ground_build.specs.Growing.{with_definition, with_constraint, IsOnlyExtension, KeepsExtensions, KeepsSameExtensions, IsDefined, IsRequired, HasRoom}
use Rattle.form_build.specs.Worlds.{IsWorld, AllHold, AreKnown, Adds, Defines, HasDefinition, IsFew, HasRoomFor}
use Rattle.form_build.proofs.Lists.{front_part, last_part, both_parts, last_contained}

-- ---- definitions

-- a definition says nothing of configurations
pub defined_adds : (old new : Ground) (x : ℕ) (domain : Ranges) (con : Con) → defined_by con ≡ Some x → IsDefined old new x domain con → Defines old new
defined_adds old new x domain con e d = subst (λ (h : Ground). Defines old h) (sym d.grown) (record {
  grows = record {
    search = refl;
    more = domain ∷ [];
    domains = refl;
    added = con ∷ [];
    cons = refl;
    keeps = λ t a h. let k = kept t a h in (k.0 ∷ [], k.1);
  };
  holds = λ a w kn. (
    (λ all. (front_part (λ c. con_true c a ≡ true) old.cons (con ∷ []) all, refl)),
    (λ z. both_parts (λ c. con_true c a ≡ true) old.cons con z.0 (itself a w)),
  );
})
  where
    kept : KeepsExtensions old (with_definition old domain con)
    kept = subst (λ (h : Ground). KeepsExtensions old h) d.grown d.keeps

    itself : (a : List ℤ) → IsWorld (with_definition old domain con) a → con_true con a ≡ true
    itself a w = last_part (λ c. IsDefinition old.search c → con_true c a ≡ true) old.cons con w.defined (x, e, d.later)

-- the definition stands in the new problem
pub defined_has : (old new : Ground) (x : ℕ) (domain : Ranges) (con : Con) → defined_by con ≡ Some x → IsDefined old new x domain con → HasDefinition new x con
defined_has old new x domain con e d = subst (λ (h : Ground). HasDefinition h x con) (sym d.grown) (record {
  exists = omega (arith, d.variable, length-append old.domains (domain ∷ []));
  definition = (x, e, d.later);
  has = last_contained old.cons con;
})

pub defined_few : (old new : Ground) (x : ℕ) (domain : Ranges) (con : Con) → IsDefined old new x domain con → IsFew 1 old new
defined_few old new x domain con d = subst (λ (h : Ground). IsFew 1 old h) (sym d.grown) (record {
  variables = omega (arith, length-append old.domains (domain ∷ []));
  constraints = omega (arith, length-append old.cons (con ∷ []));
})

-- ---- statements

required_as : (known : List (ℕ × ℤ)) (old new : Ground) (con : Con) (q : List ℤ → Bool) → IsRequired old new con → ((a : List ℤ) → IsWorld (with_constraint old con) a → AreKnown known a → AllHold (with_constraint old con) a ↔ (AllHold old a × (q a ≡ true))) → Adds known old new q
required_as known old new con q r h = subst (λ (g : Ground). Adds known old g q) (sym r.grown) (record {
  grows = record {
    search = refl;
    more = [];
    domains = sym (append-nil old.domains);
    added = con ∷ [];
    cons = refl;
    keeps = λ t a o. ([], subst (λ (z : List ℤ). IsOnlyExtension (with_constraint old con) t z) (sym (append-nil a)) (kept t a o));
  };
  holds = h;
})
  where
    kept : KeepsSameExtensions old (with_constraint old con)
    kept = subst (λ (g : Ground). KeepsSameExtensions old g) r.grown r.keeps

-- a statement says what it means in every world
pub required_adds : (known : List (ℕ × ℤ)) (old new : Ground) (con : Con) (q : List ℤ → Bool) → IsRequired old new con → ((a : List ℤ) → IsWorld (with_constraint old con) a → AreKnown known a → con_true con a ≡ q a) → Adds known old new q
required_adds known old new con q r h = required_as known old new con q r (λ a w kn. (
  (λ all. (front_part (λ c. con_true c a ≡ true) old.cons (con ∷ []) all, sym (h a w kn) ∙ last_part (λ c. con_true c a ≡ true) old.cons con all)),
  (λ z. both_parts (λ c. con_true c a ≡ true) old.cons con z.0 (h a w kn ∙ z.1)),
))

-- a statement that follows from what stands says nothing more
pub implied_adds : (known : List (ℕ × ℤ)) (old new : Ground) (con : Con) → IsRequired old new con → ((a : List ℤ) → IsWorld (with_constraint old con) a → AreKnown known a → AllHold old a → con_true con a ≡ true) → Adds known old new (λ a. true)
implied_adds known old new con r h = required_as known old new con (λ a. true) r (λ a w kn. (
  (λ all. (front_part (λ c. con_true c a ≡ true) old.cons (con ∷ []) all, refl)),
  (λ z. both_parts (λ c. con_true c a ≡ true) old.cons con z.0 (h a w kn z.0)),
))

pub required_few : (old new : Ground) (con : Con) → IsRequired old new con → IsFew 1 old new
required_few old new con r = subst (λ (h : Ground). IsFew 1 old h) (sym r.grown) (record {
  variables = omega arith;
  constraints = omega (arith, length-append old.cons (con ∷ []));
})

-- ---- room

pub room_for_one : (n : ℕ) (g : Ground) → 1 ≤ n → HasRoomFor n g → HasRoom g
room_for_one n g some room = record {
  variables = omega (arith, some, room.variables);
  constraints = omega (arith, some, room.constraints);
}
