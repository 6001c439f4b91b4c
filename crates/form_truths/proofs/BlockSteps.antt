-- Long disjunctions that are cut into blocks.
use Rattle.std.proofs.Common.{◌≡◌, ℕ, zero, suc, ◌<◌, Bool, true, false, ◌||◌, List, [], ◌∷◌, ◌++◌, take, drop, ℤ, length, refl, sym, ap, ◌∙◌, subst, arith}
use Rattle.std.proofs.lemmas.List.{take-append-drop}
use Rattle.std.proofs.lemmas.List.Elements.{All-nil}
use Rattle.signed_clause.specs.Ranges.{has}
use Rattle.signed_clause.specs.Clauses.{Literal, Literals, clause_true}
use Rattle.ground_form.specs.declared.ground.Ground.{Ground}
use Rattle.ground_form.specs.Meaning.{value_of}
use Rattle.form_build.specs.Worlds.{IsWorld, Defines}
use Rattle.form_build.proofs.Growth.{world_before, adds_nothing, defines_more}
use Rattle.form_truths.specs.Disjunctions.{disjunction_at, IsWithin, block}
use Rattle.form_truths.proofs.PartLaws.{exist_kept}

or_none : (b : Bool) → (b || false) ≡ b
or_none true = refl
or_none false = refl

or_group : (p q r : Bool) → (p || (q || r)) ≡ ((p || q) || r)
or_group true q r = refl
or_group false q r = refl

or_moved : (p q r : Bool) → ((p || q) || r) ≡ (q || (p || r))
or_moved true true r = refl
or_moved true false r = refl
or_moved false true r = refl
or_moved false false r = refl

-- ---- literals in front and behind

clause_both : (ls ms : Literals) (a : List ℤ) → clause_true (ls ++ ms) a ≡ (clause_true ls a || clause_true ms a)
clause_both [] ms a = refl
clause_both (l ∷ ls) ms a =
    ap (λ (b : Bool). has l.1 (value_of a l.0) || b) (clause_both ls ms a)
    ∙ or_group (has l.1 (value_of a l.0)) (clause_true ls a) (clause_true ms a)

front_within : (n : ℕ) (ls ms : Literals) → IsWithin n (ls ++ ms) → IsWithin n ls
front_within n [] ms all k d lt = absurd (omega (arith, lt))
front_within n (l ∷ ls) ms all zero d lt = all 0 l (omega arith)
front_within n (l ∷ ls) ms all (suc k) d lt = front_within n ls ms (λ i e less. all (suc i) e (omega (arith, less))) k d (omega (arith, lt))

behind_within : (n : ℕ) (ls ms : Literals) → IsWithin n (ls ++ ms) → IsWithin n ms
behind_within n [] ms all = all
behind_within n (l ∷ ls) ms all = behind_within n ls ms (λ i e less. all (suc i) e (omega (arith, less)))

-- a list is its first block and what is behind
pub parted : (rest front behind : Literals) → front ≡ take block rest → behind ≡ drop block rest → rest ≡ front ++ behind
parted rest front behind e h =
    sym (take-append-drop block rest) ∙ ap (λ (z : Literals). z ++ drop block rest) (sym e) ∙ ap (λ (z : Literals). front ++ z) (sym h)

-- ---- blocks so far

-- the blocks and the rest stand for the disjunction
pub record AreCut (old m : Ground) (d blocks : Bool × Literals) (rest : Literals) : Type 0 where
  pub value : (a : List ℤ) → IsWorld m a → (disjunction_at blocks a || clause_true rest a) ≡ disjunction_at d a
  pub exist : IsWithin (length m.domains) blocks.1
  pub left : IsWithin (length m.domains) rest
  pub adds : Defines old m

pub cut_none : (m : Ground) (d start blocks : Bool × Literals) (holds : Bool) (rest : Literals) → holds ≡ d.0 → rest ≡ d.1 → start ≡ (false, []) →
    ((a : List ℤ) → disjunction_at blocks a ≡ (holds || disjunction_at start a)) →
    (IsWithin (length m.domains) start.1 → IsWithin (length m.domains) blocks.1) →
    IsWithin (length m.domains) d.1 → AreCut m m d blocks rest
cut_none m d start blocks holds rest is items none value there exist = record {
  value = λ a w.
      ap (λ (b : Bool). b || clause_true rest a)
      (value a ∙ ap (λ (z : Bool × Literals). holds || disjunction_at z a) none ∙ or_none holds ∙ is)
      ∙ ap (λ (z : Literals). d.0 || clause_true z a) items;
  exist = there (subst (λ (z : Bool × Literals). IsWithin (length m.domains) z.1) (sym none) (All-nil (λ (l : Literal). l.0 < length m.domains)));
  left = subst (λ (z : Literals). IsWithin (length m.domains) z) (sym items) exist;
  adds = adds_nothing [] m;
}

-- a block of the literals in front of the rest
pub cut_next : (old m new : Ground) (d blocks more : Bool × Literals) (rest front behind : Literals) → AreCut old m d blocks rest → rest ≡ front ++ behind → Defines m new →
    ((a : List ℤ) → IsWorld new a → disjunction_at more a ≡ (clause_true front a || disjunction_at blocks a)) →
    IsWithin (length new.domains) more.1 → AreCut old new d more behind
cut_next old m new d blocks more rest front behind cut e adds value exist =
    let all = subst (λ (z : Literals). IsWithin (length m.domains) z) e cut.left in record {
      value = λ a w.
          ap (λ (b : Bool). b || clause_true behind a) (value a w)
          ∙ or_moved (clause_true front a) (disjunction_at blocks a) (clause_true behind a)
          ∙ ap (λ (b : Bool). disjunction_at blocks a || b) (sym (clause_both front behind a) ∙ ap (λ (z : Literals). clause_true z a) (sym e))
          ∙ cut.value a (world_before m new a adds.grows w);
      exist = exist;
      left = exist_kept m new behind adds.grows (behind_within (length m.domains) front behind all);
      adds = defines_more old m new cut.adds adds;
    }

pub cut_front : (old m : Ground) (d blocks : Bool × Literals) (rest front behind : Literals) → AreCut old m d blocks rest → rest ≡ front ++ behind → IsWithin (length m.domains) front
cut_front old m d blocks rest front behind cut e =
    front_within (length m.domains) front behind (subst (λ (z : Literals). IsWithin (length m.domains) z) e cut.left)

-- nothing is left
pub cut_all : (old m : Ground) (d blocks : Bool × Literals) (a : List ℤ) → AreCut old m d blocks [] → IsWorld m a → disjunction_at blocks a ≡ disjunction_at d a
cut_all old m d blocks a cut w = sym (or_none (disjunction_at blocks a)) ∙ cut.value a w
