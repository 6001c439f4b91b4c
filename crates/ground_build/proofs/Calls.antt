-- From what a call of the builder has made to the conditions of its step: one pair of laws for each
-- definition.
use Rattle.std.proofs.Common.{◌≡◌, ℕ, ◌+◌, ◌^◌, ◌<◌, ◌≤◌, Bool, true, false, List, [], ℤ, pos, length, All, sym, ap, ◌∙◌, subst, unsigned_abs}
use Rattle.signed_clause.specs.Ranges.{Ranges, has, IsValid}
use Rattle.signed_clause.specs.Clauses.{Boxes, Literals, box_of, IsClause}
use Rattle.ground_form.specs.declared.con.Con.{Con}
use Rattle.ground_form.specs.declared.con.Con.TheVariants.{LinDef, ReifLe, AndDef, MemberDef, EqDef, ElementDef, CondDef, LinLe, ClauseCon, AllDiff, Pack}
use Rattle.ground_form.specs.declared.ground.Ground.{Ground}
use Rattle.ground_form.specs.Bounds.{weight_of, LiesWithin, IsPackBounded}
use Rattle.ground_form.specs.WellMade.{lacks_value, distinct_values, IsWellMade}
use Rattle.ground_build.specs.NewDomains.{truth_values, linear_domain, picked_domain, when_domain}
use Rattle.ground_build.specs.Defining.{IsNewDefinition, IsNewStatement, Determines}
use Rattle.ground_build.proofs.Determined.{linear_determined, at_most_determined, all_of_determined, member_determined, same_determined, pick_determined, when_determined}
use Rattle.ground_build.proofs.NewDefinitions.{terms_named, parts_named, new_linear, new_at_most, new_all_of, new_member, new_same, new_pick, new_when, new_clause, new_bound, new_different, new_packed}

-- a constraint that was made for the number n is that of the next variable
made_for : (f : ℕ → Con) (con : Con) (n m : ℕ) → con ≡ f n → n ≡ m → con ≡ f m
made_for f con n m e at = e ∙ ap f at

-- a step's two conditions
pub record CanDefine (g : Ground) (domain : Ranges) (con : Con) : Type 0 where
  pub fits : IsNewDefinition g domain con
  pub determines : Determines g.domains domain con

moved : (g : Ground) (domain domain' : Ranges) (con con' : Con) → domain ≡ domain' → con ≡ con' → CanDefine g domain' con' → CanDefine g domain con
moved g domain domain' con con' d e h = subst (λ (x : Ranges). CanDefine g x con) (sym d) (subst (λ (x : Con). CanDefine g domain' x) (sym e) h)

pub can_linear : (g : Ground) (boxes : Boxes) (domain : Ranges) (con : Con) (n : ℕ) (ts : List (ℤ × ℕ)) (offset : ℤ) → IsWellMade g → boxes ≡ g.domains → domain ≡ linear_domain ts offset boxes → IsValid domain → con ≡ LinDef n ts offset → n ≡ length g.domains →
    All (λ t. t.1 < length g.domains) ts → weight_of ts g.domains + unsigned_abs offset ≤ 2 ^ 60 → CanDefine g domain con
can_linear g boxes domain con n ts offset made b d valid e at h w =
    let domain_is = d ∙ ap (λ (z : Boxes). linear_domain ts offset z) b in
    moved g domain (linear_domain ts offset g.domains) con (LinDef (length g.domains) ts offset) domain_is (made_for (λ k. LinDef k ts offset) con n (length g.domains) e at) (record {
      fits = new_linear g (linear_domain ts offset g.domains) ts offset (subst IsValid domain_is valid) h w;
      determines = linear_determined g.domains ts offset made.domains (terms_named ts (length g.domains) h);
    })

pub can_at_most : (g : Ground) (domain : Ranges) (con : Con) (n : ℕ) (ts : List (ℤ × ℕ)) (bound : ℤ) → domain ≡ truth_values → con ≡ ReifLe n ts bound → n ≡ length g.domains →
    All (λ t. t.1 < length g.domains) ts → weight_of ts g.domains ≤ 2 ^ 60 → CanDefine g domain con
can_at_most g domain con n ts bound d e at h w = moved g domain truth_values con (ReifLe (length g.domains) ts bound) d (made_for (λ k. ReifLe k ts bound) con n (length g.domains) e at) (record {
  fits = new_at_most g ts bound h w;
  determines = at_most_determined g.domains ts bound (terms_named ts (length g.domains) h);
})

pub can_all_of : (g : Ground) (domain : Ranges) (con : Con) (n : ℕ) (ps : List (ℕ × Bool)) → domain ≡ truth_values → con ≡ AndDef n ps → n ≡ length g.domains →
    All (λ p. p.0 < length g.domains) ps → All (λ p. LiesWithin (pos 0) (pos 1) (box_of g.domains p.0)) ps → CanDefine g domain con
can_all_of g domain con n ps d e at h f = moved g domain truth_values con (AndDef (length g.domains) ps) d (made_for (λ k. AndDef k ps) con n (length g.domains) e at) (record {
  fits = new_all_of g ps h f;
  determines = all_of_determined g.domains ps (parts_named ps (length g.domains) h);
})

pub can_member : (g : Ground) (domain : Ranges) (con : Con) (n x : ℕ) (set : Ranges) → domain ≡ truth_values → con ≡ MemberDef n x set → n ≡ length g.domains → x < length g.domains → IsValid set → CanDefine g domain con
can_member g domain con n x set d e at h valid = moved g domain truth_values con (MemberDef (length g.domains) x set) d (made_for (λ k. MemberDef k x set) con n (length g.domains) e at) (record {
  fits = new_member g x set h valid;
  determines = member_determined g.domains x set h;
})

pub can_same : (g : Ground) (domain : Ranges) (con : Con) (n l r : ℕ) → domain ≡ truth_values → con ≡ EqDef n l r → n ≡ length g.domains → l < length g.domains → r < length g.domains → CanDefine g domain con
can_same g domain con n l r d e at h k = moved g domain truth_values con (EqDef (length g.domains) l r) d (made_for (λ m. EqDef m l r) con n (length g.domains) e at) (record {
  fits = new_same g l r h k;
  determines = same_determined g.domains l r h k;
})

pub can_pick : (g : Ground) (boxes : Boxes) (domain : Ranges) (con : Con) (n index : ℕ) (items : List (ℤ × ℕ)) → IsWellMade g → boxes ≡ g.domains → domain ≡ picked_domain [] items boxes → IsValid domain → con ≡ ElementDef n index items → n ≡ length g.domains →
    index < length g.domains → All (λ t. t.1 < length g.domains) items → distinct_values items ≡ true → ((v : ℤ) → has (box_of g.domains index) v ≡ true → lacks_value v items ≡ false) → CanDefine g domain con
can_pick g boxes domain con n index items made b d valid e at k h distinct held =
    let domain_is = d ∙ ap (λ (z : Boxes). picked_domain [] items z) b in
    moved g domain (picked_domain [] items g.domains) con (ElementDef (length g.domains) index items) domain_is (made_for (λ m. ElementDef m index items) con n (length g.domains) e at) (record {
      fits = new_pick g (picked_domain [] items g.domains) index items (subst IsValid domain_is valid) k h distinct;
      determines = pick_determined g.domains index items made.domains k (terms_named items (length g.domains) h) distinct held;
    })

pub can_when : (g : Ground) (boxes : Boxes) (domain : Ranges) (con : Con) (n flag item : ℕ) → IsWellMade g → boxes ≡ g.domains → domain ≡ when_domain item boxes → IsValid domain → con ≡ CondDef n flag item → n ≡ length g.domains →
    flag < length g.domains → item < length g.domains → LiesWithin (pos 0) (pos 1) (box_of g.domains flag) → CanDefine g domain con
can_when g boxes domain con n flag item made b d valid e at h k f =
    let domain_is = d ∙ ap (λ (z : Boxes). when_domain item z) b in
    moved g domain (when_domain item g.domains) con (CondDef (length g.domains) flag item) domain_is (made_for (λ m. CondDef m flag item) con n (length g.domains) e at) (record {
      fits = new_when g (when_domain item g.domains) flag item (subst IsValid domain_is valid) h k f;
      determines = when_determined g.domains flag item made.domains h k f;
    })

-- ---- statements

pub can_require : (g : Ground) (con : Con) (c : Literals) → con ≡ ClauseCon c → IsClause c → All (λ l. l.0 < length g.domains) c → IsNewStatement g con
can_require g con c e form h = subst (λ (z : Con). IsNewStatement g z) (sym e) (new_clause g c form h)

pub can_bound : (g : Ground) (con : Con) (ts : List (ℤ × ℕ)) (bound : ℤ) → con ≡ LinLe ts bound → All (λ t. t.1 < length g.domains) ts → weight_of ts g.domains ≤ 2 ^ 60 → IsNewStatement g con
can_bound g con ts bound e h w = subst (λ (z : Con). IsNewStatement g z) (sym e) (new_bound g ts bound h w)

pub can_differ : (g : Ground) (con : Con) (xs : List ℕ) → con ≡ AllDiff xs → All (λ x. x < length g.domains) xs → IsNewStatement g con
can_differ g con xs e h = subst (λ (z : Con). IsNewStatement g z) (sym e) (new_different g xs h)

pub can_pack : (g : Ground) (con : Con) (is : List (ℕ × ℕ × ℕ)) → con ≡ Pack is → All (λ i. (i.0 < length g.domains) × (i.1 < length g.domains) × (i.2 < length g.domains)) is → IsPackBounded is g.domains → IsNewStatement g con
can_pack g con is e h b = subst (λ (z : Con). IsNewStatement g z) (sym e) (new_packed g is h b)
