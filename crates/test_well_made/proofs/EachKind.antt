-- What makes a constraint of each kind well made, where its variables have domains.
use Rattle.std.proofs.Common.{◌≡◌, ℕ, suc, zero, ◌<◌, ◌≤◌, ◌^◌, Bool, true, unsigned_abs, List, [], ◌∷◌, ℤ, pos, All, length, sym, subst, arith}
use Rattle.std.proofs.lemmas.List.Elements.{All-cons}
use Rattle.signed_clause.specs.Ranges.{Ranges, IsValid}
use Rattle.signed_clause.specs.Clauses.{Boxes, Literals, box_of, IsClause}
use Rattle.ground_form.specs.declared.con.Con.{Con}
use Rattle.ground_form.specs.declared.con.Con.TheVariants.{LinLe, LinDef, ReifLe, AndDef, MemberDef, EqDef, ElementDef, CondDef, ClauseCon, AllDiff, Pack}
use Rattle.ground_form.specs.Meaning.{part_vars, vars_of}
use Rattle.ground_form.specs.Bounds.{weight_of, LiesWithin, IsPackBounded}
use Rattle.ground_form.specs.WellMade.{distinct_values, IsWellMadeCon}

abbrev Named : Con → Boxes → Type 0
Named con domains = All (λ x. x < length domains) (vars_of con)

abbrev Flag : Boxes → ℕ → Type 0
Flag domains x = LiesWithin (pos 0) (pos 1) (box_of domains x)

one_flag : (x : ℕ) (domains : Boxes) → Flag domains x → All (λ y. Flag domains y) (x ∷ [])
one_flag x domains h zero d lt = h
one_flag x domains h (suc k) d lt = absurd (omega arith)

no_flag : (domains : Boxes) → All (λ y. Flag domains y) []
no_flag domains k d lt = absurd (omega arith)

pub made_bound : (con : Con) (ts : List (ℤ × ℕ)) (bound : ℤ) (domains : Boxes) → con ≡ LinLe ts bound → Named con domains → weight_of ts domains ≤ 2 ^ 59 → IsWellMadeCon domains con
made_bound con ts bound domains e n w =
    subst (λ (k : Con). Named k domains → IsWellMadeCon domains k) (sym e) (λ m. record { named = m; flags = no_flag domains; distinct = tt; bounded = omega arith; sets = tt }) n

pub made_sum : (con : Con) (x : ℕ) (ts : List (ℤ × ℕ)) (offset : ℤ) (domains : Boxes) → con ≡ LinDef x ts offset → Named con domains → unsigned_abs offset ≤ 2 ^ 59 → weight_of ts domains ≤ 2 ^ 59 → IsWellMadeCon domains con
made_sum con x ts offset domains e n o w =
    subst (λ (k : Con). Named k domains → IsWellMadeCon domains k) (sym e) (λ m. record { named = m; flags = no_flag domains; distinct = tt; bounded = omega arith; sets = tt }) n

pub made_reified : (con : Con) (x : ℕ) (ts : List (ℤ × ℕ)) (bound : ℤ) (domains : Boxes) → con ≡ ReifLe x ts bound → Named con domains → Flag domains x → weight_of ts domains ≤ 2 ^ 59 → IsWellMadeCon domains con
made_reified con x ts bound domains e n f w =
    subst (λ (k : Con). Named k domains → IsWellMadeCon domains k) (sym e) (λ m. record { named = m; flags = one_flag x domains f; distinct = tt; bounded = omega arith; sets = tt }) n

pub made_conjunction : (con : Con) (x : ℕ) (ps : List (ℕ × Bool)) (domains : Boxes) → con ≡ AndDef x ps → Named con domains → Flag domains x → All (λ y. Flag domains y) (part_vars ps) → IsWellMadeCon domains con
made_conjunction con x ps domains e n f g =
    subst (λ (k : Con). Named k domains → IsWellMadeCon domains k) (sym e) (λ m. record { named = m; flags = All-cons (λ y. Flag domains y) x (part_vars ps) f g; distinct = tt; bounded = tt; sets = tt }) n

pub made_member : (con : Con) (x y : ℕ) (s : Ranges) (domains : Boxes) → con ≡ MemberDef x y s → Named con domains → Flag domains x → IsValid s → IsWellMadeCon domains con
made_member con x y s domains e n f v =
    subst (λ (k : Con). Named k domains → IsWellMadeCon domains k) (sym e) (λ m. record { named = m; flags = one_flag x domains f; distinct = tt; bounded = tt; sets = v }) n

pub made_equality : (con : Con) (x y z : ℕ) (domains : Boxes) → con ≡ EqDef x y z → Named con domains → Flag domains x → IsWellMadeCon domains con
made_equality con x y z domains e n f =
    subst (λ (k : Con). Named k domains → IsWellMadeCon domains k) (sym e) (λ m. record { named = m; flags = one_flag x domains f; distinct = tt; bounded = tt; sets = tt }) n

pub made_element : (con : Con) (x y : ℕ) (ts : List (ℤ × ℕ)) (domains : Boxes) → con ≡ ElementDef x y ts → Named con domains → distinct_values ts ≡ true → IsWellMadeCon domains con
made_element con x y ts domains e n d =
    subst (λ (k : Con). Named k domains → IsWellMadeCon domains k) (sym e) (λ m. record { named = m; flags = no_flag domains; distinct = d; bounded = tt; sets = tt }) n

pub made_conditional : (con : Con) (x y z : ℕ) (domains : Boxes) → con ≡ CondDef x y z → Named con domains → Flag domains y → IsWellMadeCon domains con
made_conditional con x y z domains e n f =
    subst (λ (k : Con). Named k domains → IsWellMadeCon domains k) (sym e) (λ m. record { named = m; flags = one_flag y domains f; distinct = tt; bounded = tt; sets = tt }) n

pub made_clause : (con : Con) (c : Literals) (domains : Boxes) → con ≡ ClauseCon c → Named con domains → IsClause c → IsWellMadeCon domains con
made_clause con c domains e n f =
    subst (λ (k : Con). Named k domains → IsWellMadeCon domains k) (sym e) (λ m. record { named = m; flags = no_flag domains; distinct = tt; bounded = tt; sets = f }) n

pub made_different : (con : Con) (xs : List ℕ) (domains : Boxes) → con ≡ AllDiff xs → Named con domains → IsWellMadeCon domains con
made_different con xs domains e n =
    subst (λ (k : Con). Named k domains → IsWellMadeCon domains k) (sym e) (λ m. record { named = m; flags = no_flag domains; distinct = tt; bounded = tt; sets = tt }) n

pub made_packing : (con : Con) (is : List (ℕ × ℕ × ℕ)) (domains : Boxes) → con ≡ Pack is → Named con domains → IsPackBounded is domains → IsWellMadeCon domains con
made_packing con is domains e n b =
    subst (λ (k : Con). Named k domains → IsWellMadeCon domains k) (sym e) (λ m. record { named = m; flags = no_flag domains; distinct = tt; bounded = b; sets = tt }) n

pub ruleset made_kinds = (made_bound, made_sum, made_reified, made_conjunction, made_member, made_equality, made_element, made_conditional, made_clause, made_different, made_packing)
