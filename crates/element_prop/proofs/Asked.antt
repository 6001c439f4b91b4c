-- What is asked of a constraint in boxes, said of equalities and conditionals. F, X and Y are the
-- boxes of their variables.
use Rattle.std.proofs.Common.{◌≡◌, ℕ, ◌<◌, true, false, [], ◌∷◌, ℤ, pos, length, All, arith, subst, sym}
use Rattle.signed_clause.specs.Ranges.{Ranges, IsValid}
use Rattle.signed_clause.specs.SetAlgebra.{is_within, less}
use Rattle.signed_clause.specs.Clauses.{Boxes, box_of}
use Rattle.ground_form.specs.declared.con.Con.{Con}
use Rattle.ground_form.specs.declared.con.Con.TheVariants.{EqDef, CondDef}
use Rattle.ground_form.specs.WellMade.{IsWellMadeCon}
use Rattle.rule_law.specs.Answers.{AreBoxesWithin}
use Rattle.box_rules.specs.Quiet.{quiet}
use Rattle.rule_law.specs.Reasons.{IsReason}
use Rattle.rule_law.specs.Plans.{literals_of}
use Rattle.rule_law.proofs.FlagPlans.{are_good, is_flag}
use Rattle.element_prop.specs.Within.{HasToLie, within_plan}
use Rattle.element_prop.specs.Equalities.{AreBothAt, same_plan}
use Rattle.element_prop.specs.Equalities as equalities
use Rattle.element_prop.specs.Conditionals.{HasToBeZero, either_plan}
use Rattle.element_prop.specs.Conditionals as conditionals
use Rattle.element_prop.proofs.Triples.{IsTriple}
use Rattle.element_prop.proofs.EqualityLaws.{equality_quiet, left_reason, right_reason, same_reason}
use Rattle.element_prop.proofs.ConditionalLaws.{conditional_quiet, out_reason, item_reason, zero_reason, either_reason}

-- what holds of sets holds of those that they are
three_at : (P : Ranges → Ranges → Ranges → Type 0) (a b c x y z : Ranges) → a ≡ x → b ≡ y → c ≡ z → P a b c → P x y z
three_at P a b c x y z e g h p = subst (λ (s : Ranges). P s y z) e (subst (λ (s : Ranges). P a s z) g (subst (λ (s : Ranges). P a b s) h p))

-- the boxes of three variables
pub record AreThose (boxes : Boxes) (f x y : ℕ) (flags one two : Ranges) : Type 0 where
  pub flag : flags ≡ box_of boxes f
  pub first : one ≡ box_of boxes x
  pub second : two ≡ box_of boxes y

-- ---- equalities

pub record IsEquality (con : Con) (domains boxes : Boxes) (f l r : ℕ) : Type 0 where
  pub is : con ≡ EqDef f l r
  pub triple : IsTriple domains boxes f l r
  pub named : All (λ x. x < length boxes) (f ∷ l ∷ r ∷ [])

pub equality : (con : Con) (domains boxes : Boxes) (f l r : ℕ) → con ≡ EqDef f l r → IsWellMadeCon domains con → AreBoxesWithin domains boxes → All (λ d. IsValid d) domains →
    (l ≡ f → ⊥) → (r ≡ f → ⊥) → (r ≡ l → ⊥) → IsEquality con domains boxes f l r
equality con domains boxes f l r e w b s lf rf rl =
    let m : IsWellMadeCon domains (EqDef f l r) = subst (λ (k : Con). IsWellMadeCon domains k) e w in
    let g = are_good domains boxes s b in
    let size = b.size in
    let named : All (λ x. x < length boxes) (f ∷ l ∷ r ∷ []) = λ k d lt. let n = m.named k d lt in omega arith in
    let here : f < length boxes = named 0 0 (omega arith) in
    record {
      is = e;
      triple = record {
        good = g;
        flag = here;
        first = named 1 0 (omega arith);
        second = named 2 0 (omega arith);
        first_differs = lf;
        second_differs = rf;
        different = rl;
        bits = is_flag domains boxes f g here (m.flags 0 0 (omega arith));
      };
      named = named;
    }

pub equality_nothing : (con : Con) (domains boxes : Boxes) (f l r : ℕ) (flags left right : Ranges) → IsEquality con domains boxes f l r → AreThose boxes f l r flags left right →
    equalities.IsCalm flags left right → quiet con boxes ≡ true
equality_nothing con domains boxes f l r flags left right a t c =
    subst (λ (k : Con). quiet k boxes ≡ true) (sym a.is) (equality_quiet domains boxes f l r a.triple a.named
    (three_at (λ p q s. equalities.IsCalm p q s) flags left right (box_of boxes f) (box_of boxes l) (box_of boxes r) t.flag t.first t.second c))

pub equality_left : (con : Con) (domains boxes : Boxes) (f l r : ℕ) (flags left right : Ranges) → IsEquality con domains boxes f l r → AreThose boxes f l r flags left right → HasToLie flags left right →
    IsReason con domains boxes (literals_of domains (within_plan domains boxes f l r))
equality_left con domains boxes f l r flags left right a t h =
    subst (λ (k : Con). IsReason k domains boxes (literals_of domains (within_plan domains boxes f l r))) (sym a.is) (left_reason domains boxes f l r a.triple
    (three_at (λ p q s. HasToLie p q s) flags left right (box_of boxes f) (box_of boxes l) (box_of boxes r) t.flag t.first t.second h))

pub equality_right : (con : Con) (domains boxes : Boxes) (f l r : ℕ) (flags left right : Ranges) → IsEquality con domains boxes f l r → AreThose boxes f l r flags left right → HasToLie flags right left →
    IsReason con domains boxes (literals_of domains (within_plan domains boxes f r l))
equality_right con domains boxes f l r flags left right a t h =
    subst (λ (k : Con). IsReason k domains boxes (literals_of domains (within_plan domains boxes f r l))) (sym a.is) (right_reason domains boxes f l r a.triple
    (three_at (λ p q s. HasToLie p s q) flags left right (box_of boxes f) (box_of boxes l) (box_of boxes r) t.flag t.first t.second h))

pub equality_same : (con : Con) (domains boxes : Boxes) (f l r : ℕ) (flags left right : Ranges) (v : ℤ) → IsEquality con domains boxes f l r → AreThose boxes f l r flags left right → AreBothAt flags left right v →
    IsReason con domains boxes (literals_of domains (same_plan f l r v))
equality_same con domains boxes f l r flags left right v a t h =
    subst (λ (k : Con). IsReason k domains boxes (literals_of domains (same_plan f l r v))) (sym a.is) (same_reason domains boxes f l r v a.triple
    (three_at (λ p q s. AreBothAt p q s v) flags left right (box_of boxes f) (box_of boxes l) (box_of boxes r) t.flag t.first t.second h))

-- ---- conditionals

pub record IsConditional (con : Con) (domains boxes : Boxes) (o f i : ℕ) : Type 0 where
  pub is : con ≡ CondDef o f i
  pub triple : IsTriple domains boxes f o i
  pub named : All (λ x. x < length boxes) (o ∷ f ∷ i ∷ [])

pub conditional : (con : Con) (domains boxes : Boxes) (o f i : ℕ) → con ≡ CondDef o f i → IsWellMadeCon domains con → AreBoxesWithin domains boxes → All (λ d. IsValid d) domains →
    (o ≡ f → ⊥) → (i ≡ f → ⊥) → (i ≡ o → ⊥) → IsConditional con domains boxes o f i
conditional con domains boxes o f i e w b s off iff io =
    let m : IsWellMadeCon domains (CondDef o f i) = subst (λ (k : Con). IsWellMadeCon domains k) e w in
    let g = are_good domains boxes s b in
    let size = b.size in
    let named : All (λ x. x < length boxes) (o ∷ f ∷ i ∷ []) = λ k d lt. let n = m.named k d lt in omega arith in
    let here : f < length boxes = named 1 0 (omega arith) in
    record {
      is = e;
      triple = record {
        good = g;
        flag = here;
        first = named 0 0 (omega arith);
        second = named 2 0 (omega arith);
        first_differs = off;
        second_differs = iff;
        different = io;
        bits = is_flag domains boxes f g here (m.flags 0 0 (omega arith));
      };
      named = named;
    }

pub conditional_nothing : (con : Con) (domains boxes : Boxes) (o f i : ℕ) (flags out item : Ranges) → IsConditional con domains boxes o f i → AreThose boxes f o i flags out item →
    conditionals.IsCalm out flags item → quiet con boxes ≡ true
conditional_nothing con domains boxes o f i flags out item a t c =
    subst (λ (k : Con). quiet k boxes ≡ true) (sym a.is) (conditional_quiet domains boxes o f i a.triple a.named
    (three_at (λ p q s. conditionals.IsCalm q p s) flags out item (box_of boxes f) (box_of boxes o) (box_of boxes i) t.flag t.first t.second c))

pub conditional_out : (con : Con) (domains boxes : Boxes) (o f i : ℕ) (flags out item : Ranges) → IsConditional con domains boxes o f i → AreThose boxes f o i flags out item → HasToLie flags out item →
    IsReason con domains boxes (literals_of domains (within_plan domains boxes f o i))
conditional_out con domains boxes o f i flags out item a t h =
    subst (λ (k : Con). IsReason k domains boxes (literals_of domains (within_plan domains boxes f o i))) (sym a.is) (out_reason domains boxes o f i a.triple
    (three_at (λ p q s. HasToLie p q s) flags out item (box_of boxes f) (box_of boxes o) (box_of boxes i) t.flag t.first t.second h))

pub conditional_item : (con : Con) (domains boxes : Boxes) (o f i : ℕ) (flags out item : Ranges) → IsConditional con domains boxes o f i → AreThose boxes f o i flags out item → HasToLie flags item out →
    IsReason con domains boxes (literals_of domains (within_plan domains boxes f i o))
conditional_item con domains boxes o f i flags out item a t h =
    subst (λ (k : Con). IsReason k domains boxes (literals_of domains (within_plan domains boxes f i o))) (sym a.is) (item_reason domains boxes o f i a.triple
    (three_at (λ p q s. HasToLie p s q) flags out item (box_of boxes f) (box_of boxes o) (box_of boxes i) t.flag t.first t.second h))

pub conditional_zero : (con : Con) (domains boxes : Boxes) (o f i : ℕ) (flags out item : Ranges) → IsConditional con domains boxes o f i → AreThose boxes f o i flags out item → HasToBeZero out flags →
    IsReason con domains boxes (literals_of domains ((f, (pos 0, pos 0) ∷ []) ∷ (o, less (box_of domains o) ((pos 0, pos 0) ∷ [])) ∷ []))
conditional_zero con domains boxes o f i flags out item a t h =
    subst (λ (k : Con). IsReason k domains boxes (literals_of domains ((f, (pos 0, pos 0) ∷ []) ∷ (o, less (box_of domains o) ((pos 0, pos 0) ∷ [])) ∷ []))) (sym a.is) (zero_reason domains boxes o f i a.triple
    (three_at (λ p q s. HasToBeZero q p) flags out item (box_of boxes f) (box_of boxes o) (box_of boxes i) t.flag t.first t.second h))

pub conditional_either : (con : Con) (domains boxes : Boxes) (o f i : ℕ) (flags out item : Ranges) → IsConditional con domains boxes o f i → AreThose boxes f o i flags out item → is_within (less out ((pos 0, pos 0) ∷ [])) item ≡ false →
    IsReason con domains boxes (literals_of domains (either_plan domains boxes o i))
conditional_either con domains boxes o f i flags out item a t h =
    subst (λ (k : Con). IsReason k domains boxes (literals_of domains (either_plan domains boxes o i))) (sym a.is) (either_reason domains boxes o f i a.triple
    (three_at (λ p q s. is_within (less q ((pos 0, pos 0) ∷ [])) s ≡ false) flags out item (box_of boxes f) (box_of boxes o) (box_of boxes i) t.flag t.first t.second h))
