-- What is asked of a constraint in boxes, said of a conjunction.
use Rattle.std.proofs.Common.{◌≡◌, ℕ, ◌<◌, Bool, true, List, [], ◌∷◌, pos, length, get_or, All, arith, refl, subst, sym}
use Rattle.std.proofs.lemmas.Bool.Decides.{nat_tests}
use Rattle.signed_clause.specs.Ranges.{IsValid}
use Rattle.signed_clause.specs.SetAlgebra.{less}
use Rattle.signed_clause.specs.Clauses.{Boxes, box_of}
use Rattle.ground_form.specs.declared.con.Con.{Con}
use Rattle.ground_form.specs.declared.con.Con.TheVariants.{AndDef}
use Rattle.ground_form.specs.Meaning.{bit, part_vars}
use Rattle.ground_form.specs.WellMade.{IsWellMadeCon}
use Rattle.ground_form.proofs.VarLists.{all_parts, all_tail}
use Rattle.rule_law.specs.Answers.{AreBoxesWithin}
use Rattle.box_rules.specs.Quiet.{quiet}
use Rattle.rule_law.specs.Reasons.{no_repeat, IsReason}
use Rattle.rule_law.specs.Plans.{literals_of}
use Rattle.bool_prop.specs.Findings.{IsScene, IsPartOpen, IsWholeOpen, whole_plan}
use Rattle.rule_law.proofs.FlagPlans.{AreGood, are_good, is_flag, IsPair}
use Rattle.bool_prop.proofs.ConjunctionQuiet.{part_at}
use Rattle.bool_prop.proofs.ConjunctionReasons.{part_reason, whole_reason}

pub record IsAsked (con : Con) (domains boxes : Boxes) (flag : ℕ) (parts : List (ℕ × Bool)) : Type 0 where
  pub is : con ≡ AndDef flag parts
  pub good : AreGood domains boxes
  pub scene : IsScene flag parts boxes

pub asked : (con : Con) (domains boxes : Boxes) (flag : ℕ) (parts : List (ℕ × Bool)) → con ≡ AndDef flag parts → IsWellMadeCon domains con → AreBoxesWithin domains boxes → All (λ d. IsValid d) domains →
    IsAsked con domains boxes flag parts
asked con domains boxes flag parts e w b s =
    let m : IsWellMadeCon domains (AndDef flag parts) = subst (λ (k : Con). IsWellMadeCon domains k) e w in
    let g = are_good domains boxes s b in
    let size = b.size in
    let named : All (λ x. x < length boxes) (flag ∷ part_vars parts) = λ k d lt. let n = m.named k d lt in omega arith in
    let here : flag < length boxes = named 0 0 (omega arith) in
    record {
      is = e;
      good = g;
      scene = record {
        flag_named = here;
        parts_named = all_parts parts (length boxes) (all_tail flag (part_vars parts) (length boxes) named);
        named = named;
        sets = b.sets;
        some = b.some;
        bits = is_flag domains boxes flag g here (m.flags 0 0 (omega arith));
      };
    }

pub quiet_asked : (con : Con) (domains boxes : Boxes) (flag : ℕ) (parts : List (ℕ × Bool)) → IsAsked con domains boxes flag parts → quiet (AndDef flag parts) boxes ≡ true → quiet con boxes ≡ true
quiet_asked con domains boxes flag parts a h = subst (λ (k : Con). quiet k boxes ≡ true) (sym a.is) h

pub part_asked : (con : Con) (domains boxes : Boxes) (flag : ℕ) (parts : List (ℕ × Bool)) (i : ℕ) (d : ℕ × Bool) → IsAsked con domains boxes flag parts → i < length parts → IsPartOpen flag (get_or parts i d) boxes →
    IsReason con domains boxes (literals_of domains ((flag, (pos 1, pos 1) ∷ []) ∷ ((get_or parts i d).0, less (box_of domains (get_or parts i d).0) ((bit (get_or parts i d).1, bit (get_or parts i d).1) ∷ [])) ∷ []))
part_asked con domains boxes flag parts i d a lt o =
    let p = get_or parts i d in
    let pair : IsPair domains boxes flag p.0 = record {
      good = a.good;
      flag = a.scene.flag_named;
      var = a.scene.parts_named i d lt;
      differ = λ e. let no = o.differ in absurd (grind (arith, nat_tests));
      bits = a.scene.bits;
    } in
    subst (λ (k : Con). IsReason k domains boxes (literals_of domains ((flag, (pos 1, pos 1) ∷ []) ∷ (p.0, less (box_of domains p.0) ((bit p.1, bit p.1) ∷ [])) ∷ []))) (sym a.is)
    (part_reason domains boxes flag parts i p pair lt (part_at (λ (q : ℕ × Bool). q ≡ p) parts i d lt refl) o)

pub whole_asked : (con : Con) (domains boxes : Boxes) (flag : ℕ) (parts : List (ℕ × Bool)) → IsAsked con domains boxes flag parts → no_repeat (flag ∷ part_vars parts) ≡ true → IsWholeOpen flag parts boxes →
    IsReason con domains boxes (literals_of domains ((flag, (pos 0, pos 0) ∷ []) ∷ whole_plan parts))
whole_asked con domains boxes flag parts a d o =
    subst (λ (k : Con). IsReason k domains boxes (literals_of domains ((flag, (pos 0, pos 0) ∷ []) ∷ whole_plan parts))) (sym a.is)
    (whole_reason domains boxes flag parts a.good a.scene.bits a.scene.flag_named a.scene.parts_named d o)

pub parts_asked : (con : Con) (domains : Boxes) (flag : ℕ) (parts items : List (ℕ × Bool)) → con ≡ AndDef flag parts → IsWellMadeCon domains con → items ≡ parts → All (λ p. p.0 < length domains) items
parts_asked con domains flag parts items e w i =
    let m : IsWellMadeCon domains (AndDef flag parts) = subst (λ (k : Con). IsWellMadeCon domains k) e w in
    subst (λ (ps : List (ℕ × Bool)). All (λ p. p.0 < length domains) ps) (sym i) (all_parts parts (length domains) (all_tail flag (part_vars parts) (length domains) m.named))
