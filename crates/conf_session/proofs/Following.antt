-- What a problem stands for, it stands for with clauses that follow.
use Rattle.std.proofs.Common.{◌≡◌, ℕ, zero, suc, ◌+◌, ◌-◌, ◌^◌, ◌<◌, ◌≤◌, inl, inr, Bool, true, false, cond, List, [], ◌∷◌, ◌++◌, ℤ, length, drop, take, get_or, refl, sym, ap, ◌∙◌, arith, subst, length-append, All}
use Rattle.std.proofs.lemmas.Bool.{cases_lt}
use Rattle.std.proofs.lemmas.List.Elements.{All-append}
use Rattle.ground_build.proofs.Appended.{con_kept, value_kept, box_kept}
use Rattle.ground_build.proofs.Kept.{only_con, well_made_constraint}
use Rattle.ground_build.proofs.NewDefinitions.{new_clause, literals_named}
use Rattle.ground_build.specs.Growing.{with_constraint}
use Rattle.ground_form.specs.declared.con.Con.{Con}
use Rattle.ground_form.specs.declared.con.Con.TheVariants.{ClauseCon}
use Rattle.ground_form.specs.declared.ground.Ground.{Ground}
use Rattle.ground_form.specs.Meaning.{con_true, value_of, clause_vars}
use Rattle.ground_form.specs.Solutions.{IsPoint}
use Rattle.ground_form.specs.StandsFor.{StandsFor, IsExtension, IsDefinition}
use Rattle.ground_form.specs.WellMade.{IsWellMade}
use Rattle.reconfigure.specs.Repairing.{Extends}
use Rattle.signed_clause.specs.Clauses.{Boxes, Literals, IsClause, box_of, clause_true}
use Rattle.conf_session.specs.Keeping.{is_stated, with_kept, keeping}

-- the clause is true wherever a configuration passes
abbrev pub Follows : Ground → Boxes → (List ℤ → Bool) → Literals → Type 0
Follows g cells test c = (t a : List ℤ) → IsPoint cells t → IsExtension g t a → test t ≡ true → clause_true c a ≡ true

-- its literals' variables exist
abbrev pub IsLow : ℕ → Literals → Type 0
IsLow n c = All (λ l. l.0 < n) c

-- ---- one clause more

front_part : (P : Con → Type 0) (xs : List Con) (y : Con) → All P (xs ++ y ∷ []) → All P xs
front_part P [] y h k d lt = absurd (omega arith)
front_part P (x ∷ xs) y h zero d lt = h 0 d (omega arith)
front_part P (x ∷ xs) y h (suc k) d lt = front_part P xs y (λ j e less. h (suc j) e (omega arith)) k d (omega arith)

no_definition : (n : ℕ) (c : Literals) → IsDefinition n (ClauseCon c) → ⊥
no_definition n c def = absurd (let wrong = def.1 in cc)

extension_more : (g : Ground) (c : Literals) (t a : List ℤ) → IsExtension g t a → IsExtension (with_constraint g (ClauseCon c)) t a
extension_more g c t a x = record {
  front = x.front;
  point = x.point;
  definitions = All-append (λ con. IsDefinition g.search con → con_true con a ≡ true) g.cons (ClauseCon c ∷ []) x.definitions (only_con (λ con. IsDefinition g.search con → con_true con a ≡ true) (ClauseCon c) (λ def. absurd (no_definition g.search c def)));
}

extension_less : (g : Ground) (c : Literals) (t a : List ℤ) → IsExtension (with_constraint g (ClauseCon c)) t a → IsExtension g t a
extension_less g c t a x = record {
  front = x.front;
  point = x.point;
  definitions = front_part (λ con. IsDefinition g.search con → con_true con a ≡ true) g.cons (ClauseCon c) x.definitions;
}

well_made_more : (g : Ground) (c : Literals) → IsWellMade g → length g.cons < 2 ^ 32 - 1 → IsClause c → IsLow (length g.domains) c → IsWellMade (with_constraint g (ClauseCon c))
well_made_more g c w room form low = well_made_constraint g (ClauseCon c) w room (new_clause g c form low)

stands_more : (g : Ground) (cells : Boxes) (test : List ℤ → Bool) (fs : List (Bool × (List ℤ → ℤ))) (c : Literals) → length g.cons < 2 ^ 32 - 1 → IsClause c → IsLow (length g.domains) c → StandsFor g cells test fs → Follows g cells test c →
    StandsFor (with_constraint g (ClauseCon c)) cells test fs
stands_more g cells test fs c room form low s follows = record {
  well_made = well_made_more g c s.well_made room form low;
  cells_first = s.cells_first;
  searched = s.searched;
  goal_count = s.goal_count;
  faithful = λ t p.
      let f = s.faithful t p in
      record {
        extension = (f.extension.0, extension_more g c t f.extension.0 f.extension.1);
        alone = λ a b x y. f.alone a b (extension_less g c t a x) (extension_less g c t b y);
        truths = λ a x.
            let before = f.truths a (extension_less g c t a x) in (
              λ all. before.0 (front_part (λ con. con_true con a ≡ true) g.cons (ClauseCon c) all),
              λ passes. All-append (λ con. con_true con a ≡ true) g.cons (ClauseCon c ∷ []) (before.1 passes) (only_con (λ con. con_true con a ≡ true) (ClauseCon c) (follows t a p (extension_less g c t a x) passes)),
            );
        goals = λ a x. f.goals a (extension_less g c t a x);
      };
}

follows_more : (g : Ground) (cells : Boxes) (test : List ℤ → Bool) (c : Literals) (cs : List Literals) → All (Follows g cells test) cs → All (Follows (with_constraint g (ClauseCon c)) cells test) cs
follows_more g cells test c cs h = λ k d lt t a p x passes. h k d lt t a p (extension_less g c t a x) passes

tail_of : (P : Literals → Type 0) (c : Literals) (cs : List Literals) → All P (c ∷ cs) → All P cs
tail_of P c cs h = λ k d lt. h (suc k) d (omega (arith, lt))

head_of : (P : Literals → Type 0) (c : Literals) (cs : List Literals) → All P (c ∷ cs) → P c
head_of P c cs h = h 0 c (omega arith)

-- ---- all clauses that are kept

pub kept_well_made : (room : ℕ) (g : Ground) (cs : List Literals) → length g.cons + room < 2 ^ 32 - 1 → All (λ c. IsClause c) cs → All (λ c. IsLow (length g.domains) c) cs → IsWellMade g → IsWellMade (keeping room g cs)
kept_well_made room g [] few forms low w = w
kept_well_made zero g (c ∷ cs) few forms low w = w
kept_well_made (suc room) g (c ∷ cs) few forms low w =
    elim (is_stated g.cons c) as (λ b. IsWellMade (record g { cons = cond b (with_kept (suc room) g.cons cs) (with_kept room (g.cons ++ ClauseCon c ∷ []) cs) })) [
      | true ↦ kept_well_made (suc room) g cs few (tail_of (λ d. IsClause d) c cs forms) (tail_of (λ d. IsLow (length g.domains) d) c cs low) w
      | false ↦
          let size : length (g.cons ++ ClauseCon c ∷ []) ≡ length g.cons + 1 = length-append g.cons (ClauseCon c ∷ []) in
          kept_well_made room (with_constraint g (ClauseCon c)) cs (omega (arith, few, size)) (tail_of (λ d. IsClause d) c cs forms) (tail_of (λ d. IsLow (length g.domains) d) c cs low)
          (well_made_more g c w (omega (arith, few)) (head_of (λ d. IsClause d) c cs forms) (head_of (λ d. IsLow (length g.domains) d) c cs low))
    ]

pub kept_stands : (room : ℕ) (g : Ground) (cells : Boxes) (test : List ℤ → Bool) (fs : List (Bool × (List ℤ → ℤ))) (cs : List Literals) → length g.cons + room < 2 ^ 32 - 1 → All (λ c. IsClause c) cs → All (λ c. IsLow (length g.domains) c) cs →
    StandsFor g cells test fs → All (Follows g cells test) cs → StandsFor (keeping room g cs) cells test fs
kept_stands room g cells test fs [] few forms low s h = s
kept_stands zero g cells test fs (c ∷ cs) few forms low s h = s
kept_stands (suc room) g cells test fs (c ∷ cs) few forms low s h =
    elim (is_stated g.cons c) as (λ b. StandsFor (record g { cons = cond b (with_kept (suc room) g.cons cs) (with_kept room (g.cons ++ ClauseCon c ∷ []) cs) }) cells test fs) [
      | true ↦ kept_stands (suc room) g cells test fs cs few (tail_of (λ d. IsClause d) c cs forms) (tail_of (λ d. IsLow (length g.domains) d) c cs low) s (tail_of (Follows g cells test) c cs h)
      | false ↦
          let size : length (g.cons ++ ClauseCon c ∷ []) ≡ length g.cons + 1 = length-append g.cons (ClauseCon c ∷ []) in
          kept_stands room (with_constraint g (ClauseCon c)) cells test fs cs (omega (arith, few, size)) (tail_of (λ d. IsClause d) c cs forms) (tail_of (λ d. IsLow (length g.domains) d) c cs low)
          (stands_more g cells test fs c (omega (arith, few)) (head_of (λ d. IsClause d) c cs forms) (head_of (λ d. IsLow (length g.domains) d) c cs low) s (head_of (Follows g cells test) c cs h))
          (follows_more g cells test c cs (tail_of (Follows g cells test) c cs h))
    ]

-- ---- what follows in a problem that begins with this one

later_value : (a b : List ℤ) (n x : ℕ) → length a ≡ n → n ≤ x → x < length b → value_of (a ++ drop n b) x ≡ value_of b x
later_value [] b zero x s le lt = refl
later_value [] b (suc n) x s le lt = absurd (omega (arith, s))
later_value (v ∷ a) [] n x s le lt = absurd (omega (arith, lt))
later_value (v ∷ a) (w ∷ b) zero x s le lt = absurd (omega (arith, s))
later_value (v ∷ a) (w ∷ b) (suc n) zero s le lt = absurd (omega (arith, le))
later_value (v ∷ a) (w ∷ b) (suc n) (suc x) s le lt = later_value a b n x (omega (arith, s)) (omega (arith, le)) (omega (arith, lt))

longer : (a b : List ℤ) (n : ℕ) → length a ≡ n → n ≤ length b → length (a ++ drop n b) ≡ length b
longer [] b zero s le = refl
longer [] b (suc n) s le = absurd (omega (arith, s))
longer (v ∷ a) [] n s le = absurd (omega (arith, s, le))
longer (v ∷ a) (w ∷ b) zero s le = absurd (omega (arith, s))
longer (v ∷ a) (w ∷ b) (suc n) s le = ap suc (longer a b n (omega (arith, s)) (omega (arith, le)))

joined_point : (ds more : Boxes) (a b : List ℤ) → IsPoint ds a → IsPoint (ds ++ more) b → IsPoint (ds ++ more) (a ++ drop (length ds) b)
joined_point ds more a b p q =
    let long : length b ≡ length ds + length more = q.size ∙ length-append ds more in
    record {
      size = longer a b (length ds) p.size (omega (arith, long)) ∙ q.size;
      within = λ x lt.
          elim (cases_lt x (length ds)) [
            | inl less ↦
                let value : value_of (a ++ drop (length ds) b) x ≡ value_of a x = value_kept a (drop (length ds) b) x (let size = p.size in omega (arith, less, size)) in
                let box : box_of (ds ++ more) x ≡ box_of ds x = box_kept ds more x less in
                let here = p.within x less in
                rw (value, box) here
            | inr ge ↦
                let value : value_of (a ++ drop (length ds) b) x ≡ value_of b x = later_value a b (length ds) x p.size ge (omega (arith, lt, long, length-append ds more)) in
                let here = q.within x lt in
                rw value here
          ];
    }

take_front : {X : Type 0} (xs ys : List X) → take (length xs) (xs ++ ys) ≡ xs
take_front [] ys = refl
take_front (x ∷ xs) ys = ap (λ zs. x ∷ zs) (take_front xs ys)

still_true : (g : Ground) (a b : List ℤ) → IsWellMade g → length a ≡ length g.domains → All (λ con. con_true con a ≡ true) g.cons → All (λ con. con_true con (a ++ b) ≡ true) g.cons
still_true g a b w size h = λ k d lt.
    let con = get_or g.cons k d in
    let named = (w.constraints k d lt).named in
    con_kept con a b (λ j e less. let below = named j e less in omega (arith, size, below)) ∙ h k d lt

-- what is true wherever the first constraints are is true wherever a configuration passes
pub kept_follow : (g new : Ground) (cells : Boxes) (test others : List ℤ → Bool) (fs gs : List (Bool × (List ℤ → ℤ))) (cs : List Literals) → Extends g new → StandsFor g cells test fs → StandsFor new cells others gs →
    ((a : List ℤ) → IsPoint new.domains a → All (λ con. con_true con a ≡ true) (take (length g.cons) new.cons) → All (λ c. clause_true c a ≡ true) cs) →
    All (λ c. IsLow (length g.domains) c) cs → All (Follows g cells test) cs
kept_follow g new cells test others fs gs cs e s n h low = λ k d lt t a p x passes.
    let c = get_or cs k d in
    let other = (n.faithful t p).extension in
    let rest = drop (length g.domains) other.0 in
    let point : IsPoint (g.domains ++ e.more) other.0 = subst (λ (ds : Boxes). IsPoint ds other.0) e.domains other.1.point in
    let joined : IsPoint new.domains (a ++ rest) = subst (λ (ds : Boxes). IsPoint ds (a ++ rest)) (sym e.domains) (joined_point g.domains e.more a other.0 x.point point) in
    let first : take (length g.cons) new.cons ≡ g.cons = ap (take (length g.cons)) e.cons ∙ take_front g.cons e.added in
    let truths : All (λ con. con_true con (a ++ rest) ≡ true) g.cons = still_true g a rest s.well_made x.point.size (((s.faithful t p).truths a x).1 passes) in
    let there : clause_true c (a ++ rest) ≡ true = h (a ++ rest) joined (subst (λ (cons : List Con). All (λ con. con_true con (a ++ rest) ≡ true) cons) (sym first) truths) k d lt in
    let named : All (λ y. y < length a) (clause_vars c) = literals_named c (length a) (subst (λ (m : ℕ). IsLow m c) (sym x.point.size) (low k d lt)) in
    sym (con_kept (ClauseCon c) a rest named) ∙ there
