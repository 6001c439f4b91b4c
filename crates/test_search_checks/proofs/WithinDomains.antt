-- A clause whose sets lie within the domains.
use Rattle.std.proofs.Common.{◌≡◌, ℕ, zero, suc, ◌<◌, true, List, [], ◌∷◌, length, arith, inl, inr, subst}
use Rattle.std.proofs.lemmas.Bool.{cases_eq}
use Rattle.std.proofs.lemmas.List.Elements.{All-tail}
use Rattle.std.specs.List.{All}
use Rattle.signed_clause.specs.Ranges.{Ranges, has, IsSubset}
use Rattle.signed_clause.specs.Clauses.{Boxes, Literals, box_of, set_of}
use Rattle.signed_clause.proofs.ResolventLaws.{set_here, set_later}
use Rattle.learn_clauses.specs.Walk.{clause_at}
use Rattle.learn_clauses.specs.Learnt.{IsWithinDomains}

pub clause_within : (domains : Boxes) (c : Literals) →
    All (λ l. IsSubset l.1 (box_of domains l.0)) c → IsWithinDomains domains c
clause_within domains [] a x v h = absurd (cc)
clause_within domains (l ∷ c) a x v h =
    elim (cases_eq l.0 x) [
      | inl e ↦
          let first : IsSubset l.1 (box_of domains l.0) = a zero l (omega arith) in
          let here : has l.1 v ≡ true =
          subst (λ (s : Ranges). has s v ≡ true) (set_here l c x e) h in
          subst (λ (y : ℕ). has (box_of domains y) v ≡ true) e (first v here)
      | inr e ↦
          let there : has (set_of c x) v ≡ true =
          subst (λ (s : Ranges). has s v ≡ true) (set_later l c x e) h in
          clause_within domains c (All-tail (λ l. IsSubset l.1 (box_of domains l.0)) l c a) x v there
    ]

pub all_within : (domains : Boxes) (clauses : List Literals) →
    ((j : ℕ) → j < length clauses → IsWithinDomains domains (clause_at clauses j)) →
    All (λ c. IsWithinDomains domains c) clauses
all_within domains [] h k d lt = absurd (omega arith)
all_within domains (c ∷ cs) h zero d lt = h zero (omega arith)
all_within domains (c ∷ cs) h (suc k) d lt =
    all_within domains cs (λ j lt. h (suc j) (omega arith)) k d (omega arith)
