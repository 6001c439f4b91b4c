-- A configuration that had one extension has one still, where each point leaves the new variable
-- exactly one value.
use Rattle.std.proofs.Common.{◌≡◌, ℕ, zero, suc, ◌+◌, true, List, [], ◌∷◌, ◌++◌, ℤ, pos, length, length-append, All, arith, sym, ap, ◌∙◌, subst, Some, None, inl, inr, get_or, take}
use Rattle.std.proofs.lemmas.Bool.{cases_lt}
use Rattle.std.proofs.lemmas.List.{take_all, take_more, take-append-le, length-take}
use Rattle.std.proofs.lemmas.List.Elements.{All-append}
use Rattle.signed_clause.specs.Ranges.{Ranges, has}
use Rattle.signed_clause.specs.Clauses.{Boxes, box_of}
use Rattle.ground_form.specs.declared.con.Con.{Con}
use Rattle.ground_form.specs.declared.ground.Ground.{Ground}
use Rattle.ground_form.specs.Meaning.{value_of, con_true}
use Rattle.ground_form.specs.WellMade.{defined_by, IsWellMade}
use Rattle.ground_form.specs.Solutions.{IsPoint}
use Rattle.ground_form.specs.StandsFor.{IsDefinition, IsExtension}
use Rattle.ground_build.specs.Growing.{with_definition, with_constraint, IsOnlyExtension, KeepsExtensions, KeepsSameExtensions}
use Rattle.ground_build.specs.Defining.{IsOnlyValue, Determines}
use Rattle.ground_build.proofs.Appended.{value_kept, value_new, box_kept, box_new, con_kept}
use Rattle.ground_build.proofs.Kept.{only_con}

not_both : (x : ℕ) → (None ≡ Some x) → ⊥
not_both x e = cc

-- ---- points

point_more : (ds : Boxes) (d : Ranges) (a : List ℤ) (v : ℤ) → IsPoint ds a → has d v ≡ true → IsPoint (ds ++ d ∷ []) (a ++ v ∷ [])
point_more ds d a v p h = record {
  size = let s = p.size in omega (arith, length-append ds (d ∷ []), length-append a (v ∷ []));
  within = λ x lt. elim (cases_lt x (length ds)) [
    | inl k ↦
        let s = p.size in
        let value = value_kept a (v ∷ []) x (omega arith) in let box = box_kept ds (d ∷ []) x k in let old = p.within x k in cc
    | inr k ↦
        let at : length ds ≡ x = omega (arith, length-append ds (d ∷ [])) in
        let value : value_of (a ++ v ∷ []) x ≡ v = ap (λ (n : ℕ). value_of (a ++ v ∷ []) n) (sym at ∙ sym p.size) ∙ value_new a v in
        let box : box_of (ds ++ d ∷ []) x ≡ d = ap (λ (n : ℕ). box_of (ds ++ d ∷ []) n) (sym at) ∙ box_new ds d in cc
  ];
}

point_less : (ds : Boxes) (d : Ranges) (a : List ℤ) (v : ℤ) → length a ≡ length ds → IsPoint (ds ++ d ∷ []) (a ++ v ∷ []) → IsPoint ds a
point_less ds d a v s p = record {
  size = s;
  within = λ x lt.
      let value = value_kept a (v ∷ []) x (omega arith) in let box = box_kept ds (d ∷ []) x lt in
      let new = p.within x (omega (arith, length-append ds (d ∷ []))) in cc;
}

-- ---- definitions

old_true : (g : Ground) (a b : List ℤ) → IsWellMade g → length a ≡ length g.domains → All (λ con. IsDefinition g.search con → con_true con a ≡ true) g.cons → All (λ con. IsDefinition g.search con → con_true con (a ++ b) ≡ true) g.cons
old_true g a b w s h k d lt def =
    let con = get_or g.cons k d in
    con_kept con a b (λ j e less. let named = (w.constraints k d lt).named j e less in omega arith) ∙ h k d lt def

new_true : (g : Ground) (a b : List ℤ) → IsWellMade g → length a ≡ length g.domains → All (λ con. IsDefinition g.search con → con_true con (a ++ b) ≡ true) g.cons → All (λ con. IsDefinition g.search con → con_true con a ≡ true) g.cons
new_true g a b w s h k d lt def =
    let con = get_or g.cons k d in
    sym (con_kept con a b (λ j e less. let named = (w.constraints k d lt).named j e less in omega arith)) ∙ h k d lt def

front_part : (P : Con → Type 0) (xs : List Con) (y : Con) → All P (xs ++ y ∷ []) → All P xs
front_part P [] y h k d lt = absurd (omega arith)
front_part P (x ∷ xs) y h zero d lt = h 0 d (omega arith)
front_part P (x ∷ xs) y h (suc k) d lt = front_part P xs y (λ j e less. h (suc j) e (omega arith)) k d (omega arith)

pub last_part : (P : Con → Type 0) (xs : List Con) (y : Con) → All P (xs ++ y ∷ []) → P y
last_part P [] y h = h 0 y (omega arith)
last_part P (x ∷ xs) y h = last_part P xs y (λ j e less. h (suc j) e (omega arith))

-- ---- the law

extension_more : (g : Ground) (domain : Ranges) (con : Con) (t a : List ℤ) (v : ℤ) → IsWellMade g → IsExtension g t a → IsOnlyValue domain con a v → IsExtension (with_definition g domain con) t (a ++ v ∷ [])
extension_more g domain con t a v w x only = record {
  front = let s = x.point.size in let le = w.search in take-append-le g.search a (v ∷ []) (omega arith) ∙ x.front;
  point = point_more g.domains domain a v x.point only.member;
  definitions = All-append (λ c. IsDefinition g.search c → con_true c (a ++ v ∷ []) ≡ true) g.cons (con ∷ []) (old_true g a (v ∷ []) w x.point.size x.definitions) (only_con (λ c. IsDefinition g.search c → con_true c (a ++ v ∷ []) ≡ true) con (λ def. only.holds));
}

extension_less : (g : Ground) (domain : Ranges) (con : Con) (t a : List ℤ) (v : ℤ) → IsWellMade g → length a ≡ length g.domains → IsExtension (with_definition g domain con) t (a ++ v ∷ []) → IsExtension g t a
extension_less g domain con t a v w s x = record {
  front = let le = w.search in sym (take-append-le g.search a (v ∷ []) (omega arith)) ∙ x.front;
  point = point_less g.domains domain a v s x.point;
  definitions = new_true g a (v ∷ []) w s (front_part (λ c. IsDefinition g.search c → con_true c (a ++ v ∷ []) ≡ true) g.cons con x.definitions);
}

-- a list that is one longer ends with a value
ends_with : (b : List ℤ) (n : ℕ) → length b ≡ n + 1 → b ≡ take n b ++ get_or b n (pos 0) ∷ []
ends_with b n h = sym (take_all (n + 1) b (omega arith)) ∙ take_more b n (pos 0) (omega arith)

same_end : (g : Ground) (domain : Ranges) (con : Con) (t a b : List ℤ) (v w : ℤ) → IsWellMade g → defined_by con ≡ Some (length g.domains) → IsOnlyExtension g t a → IsOnlyValue domain con a v → length b ≡ length g.domains →
    IsExtension (with_definition g domain con) t (b ++ w ∷ []) → b ++ w ∷ [] ≡ a ++ v ∷ []
same_end g domain con t a b v w made defines only value s x =
    let same = only.alone b (extension_less g domain con t b w made s x) in
    let here = last_part (λ c. IsDefinition g.search c → con_true c (b ++ w ∷ []) ≡ true) g.cons con x.definitions (length g.domains, defines, made.search) in
    let there = subst (λ (z : List ℤ). con_true con (z ++ w ∷ []) ≡ true) same here in
    let last = value.alone w there in
    ap (λ (z : List ℤ). z ++ w ∷ []) same ∙ ap (λ (z : ℤ). a ++ z ∷ []) last

pub keeps_extensions : (g : Ground) (domain : Ranges) (con : Con) → IsWellMade g → defined_by con ≡ Some (length g.domains) → Determines g.domains domain con → KeepsExtensions g (with_definition g domain con)
keeps_extensions g domain con made defines determines t a only =
    let found = determines a only.extension.point in (
      found.0,
      record {
        extension = extension_more g domain con t a found.0 made only.extension found.1;
        alone = λ b x.
            let n = length g.domains in
            let size = x.point.size in
            let long : length b ≡ n + 1 = omega (arith, length-append g.domains (domain ∷ [])) in
            let split = ends_with b n long in
            let s : length (take n b) ≡ n = omega (arith, length-take n b) in
            split ∙ same_end g domain con t a (take n b) found.0 (get_or b n (pos 0)) made defines only found.1 s (subst (λ (z : List ℤ). IsExtension (with_definition g domain con) t z) split x);
      },
    )

-- ---- a statement

same_definitions : (g : Ground) (con : Con) (a : List ℤ) → defined_by con ≡ None → All (λ c. IsDefinition g.search c → con_true c a ≡ true) g.cons → All (λ c. IsDefinition g.search c → con_true c a ≡ true) (g.cons ++ con ∷ [])
same_definitions g con a none h = All-append (λ c. IsDefinition g.search c → con_true c a ≡ true) g.cons (con ∷ []) h (only_con (λ c. IsDefinition g.search c → con_true c a ≡ true) con (λ def. absurd (not_both (def.0) (sym none ∙ def.1))))

pub keeps_same : (g : Ground) (con : Con) → defined_by con ≡ None → KeepsSameExtensions g (with_constraint g con)
keeps_same g con none t a only = record {
  extension = let x = only.extension in record { front = x.front; point = x.point; definitions = same_definitions g con a none x.definitions };
  alone = λ b x. only.alone b (record { front = x.front; point = x.point; definitions = front_part (λ c. IsDefinition g.search c → con_true c b ≡ true) g.cons con x.definitions });
}
