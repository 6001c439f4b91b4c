-- Which constraints may be added: each kind's definition over a problem that has what it names, and
-- each statement.
use Rattle.std.proofs.Common.{◌≡◌, ℕ, zero, suc, ◌+◌, ◌^◌, ◌<◌, ◌≤◌, Bool, true, List, [], ◌∷◌, ◌++◌, ℤ, pos, length, length-append, All, arith, refl, sym, subst, unsigned_abs, get_or}
use Rattle.std.proofs.lemmas.Int.{ints}
use Rattle.signed_clause.specs.Ranges.{Ranges, IsValid}
use Rattle.signed_clause.specs.Clauses.{Boxes, Literals, box_of, IsClause}
use Rattle.ground_form.specs.declared.con.Con.TheVariants.{LinLe, LinDef, ReifLe, AndDef, MemberDef, EqDef, ElementDef, CondDef, ClauseCon, AllDiff, Pack}
use Rattle.ground_form.specs.declared.ground.Ground.{Ground}
use Rattle.ground_form.specs.Meaning.{term_vars, part_vars, clause_vars, item_vars}
use Rattle.ground_form.specs.Bounds.{LiesWithin, weight_of, IsPackBounded}
use Rattle.ground_form.specs.WellMade.{distinct_values}
use Rattle.ground_build.specs.NewDomains.{truth_values}
use Rattle.ground_build.specs.Defining.{IsNewDefinition, IsNewStatement}
use Rattle.ground_build.proofs.Appended.{box_kept, box_new, weight_kept, one, none}

-- ---- lists of variables

cons_all : (P : ℕ → Type 0) (x : ℕ) (xs : List ℕ) → P x → All P xs → All P (x ∷ xs)
cons_all P x xs p h zero d lt = p
cons_all P x xs p h (suc k) d lt = h k d (omega arith)

pub terms_named : (ts : List (ℤ × ℕ)) (n : ℕ) → All (λ t. t.1 < n) ts → All (λ x. x < n) (term_vars ts)
terms_named [] n h = none _
terms_named (t ∷ ts) n h = cons_all (λ x. x < n) t.1 (term_vars ts) (h 0 t (omega arith)) (terms_named ts n (λ k d lt. h (suc k) d (omega arith)))

pub parts_named : (ps : List (ℕ × Bool)) (n : ℕ) → All (λ p. p.0 < n) ps → All (λ x. x < n) (part_vars ps)
parts_named [] n h = none _
parts_named (p ∷ ps) n h = cons_all (λ x. x < n) p.0 (part_vars ps) (h 0 p (omega arith)) (parts_named ps n (λ k d lt. h (suc k) d (omega arith)))

pub literals_named : (ls : Literals) (n : ℕ) → All (λ l. l.0 < n) ls → All (λ x. x < n) (clause_vars ls)
literals_named [] n h = none _
literals_named (l ∷ ls) n h = cons_all (λ x. x < n) l.0 (clause_vars ls) (h 0 l (omega arith)) (literals_named ls n (λ k d lt. h (suc k) d (omega arith)))

pub items_named : (is : List (ℕ × ℕ × ℕ)) (n : ℕ) → All (λ i. (i.0 < n) × (i.1 < n) × (i.2 < n)) is → All (λ x. x < n) (item_vars is)
items_named [] n h = none _
items_named (i ∷ is) n h =
    let first = h 0 i (omega arith) in
    cons_all (λ x. x < n) i.0 (i.1 ∷ i.2 ∷ item_vars is) first.0 (cons_all (λ x. x < n) i.1 (i.2 ∷ item_vars is) first.1 (cons_all (λ x. x < n) i.2 (item_vars is) first.2 (items_named is n (λ k d lt. h (suc k) d (omega arith)))))

parts_flags : (ps : List (ℕ × Bool)) (ds : Boxes) → All (λ p. LiesWithin (pos 0) (pos 1) (box_of ds p.0)) ps → All (λ x. LiesWithin (pos 0) (pos 1) (box_of ds x)) (part_vars ps)
parts_flags [] ds h = none _
parts_flags (p ∷ ps) ds h = cons_all (λ x. LiesWithin (pos 0) (pos 1) (box_of ds x)) p.0 (part_vars ps) (h 0 p (omega arith)) (parts_flags ps ds (λ k d lt. h (suc k) d (omega arith)))

-- ---- over one more domain

more : (ds : Boxes) (d : Ranges) (xs : List ℕ) → All (λ x. x < length ds) xs → All (λ x. x < length (ds ++ d ∷ [])) xs
more ds d xs h k e lt = let there = h k e lt in omega (arith, length-append ds (d ∷ []))

new_and : (ds : Boxes) (d : Ranges) (xs : List ℕ) → All (λ x. x < length ds) xs → All (λ x. x < length (ds ++ d ∷ [])) (length ds ∷ xs)
new_and ds d xs h = cons_all (λ x. x < length (ds ++ d ∷ [])) (length ds) xs (omega (arith, length-append ds (d ∷ []))) (more ds d xs h)

truth_valid : IsValid truth_values
truth_valid = (omega (arith, ints), omega (arith, ints), omega (arith, ints))

truth_flag : (ds : Boxes) → LiesWithin (pos 0) (pos 1) (box_of (ds ++ truth_values ∷ []) (length ds))
truth_flag ds = subst (λ (z : Ranges). LiesWithin (pos 0) (pos 1) z) (sym (box_new ds truth_values)) (omega (arith, ints), omega (arith, ints))

old_flag : (ds : Boxes) (d : Ranges) (x : ℕ) → x < length ds → LiesWithin (pos 0) (pos 1) (box_of ds x) → LiesWithin (pos 0) (pos 1) (box_of (ds ++ d ∷ []) x)
old_flag ds d x lt h = subst (λ (z : Ranges). LiesWithin (pos 0) (pos 1) z) (sym (box_kept ds (d ∷ []) x lt)) h

old_flags : (ds : Boxes) (d : Ranges) (xs : List ℕ) → All (λ x. x < length ds) xs → All (λ x. LiesWithin (pos 0) (pos 1) (box_of ds x)) xs → All (λ x. LiesWithin (pos 0) (pos 1) (box_of (ds ++ d ∷ []) x)) xs
old_flags ds d xs named h k e lt = old_flag ds d (get_or xs k e) (named k e lt) (h k e lt)

-- ---- definitions

pub new_linear : (g : Ground) (domain : Ranges) (ts : List (ℤ × ℕ)) (offset : ℤ) → IsValid domain → All (λ t. t.1 < length g.domains) ts → weight_of ts g.domains + unsigned_abs offset ≤ 2 ^ 60 → IsNewDefinition g domain (LinDef (length g.domains) ts offset)
new_linear g domain ts offset valid h b = let named = terms_named ts (length g.domains) h in record {
  defines = refl;
  inputs = named;
  well_made = record { named = new_and g.domains domain (term_vars ts) named; flags = none _; distinct = tt; bounded = let w = weight_kept ts g.domains (domain ∷ []) named in omega (arith, w, b); sets = tt };
  valid = valid;
}

pub new_at_most : (g : Ground) (ts : List (ℤ × ℕ)) (bound : ℤ) → All (λ t. t.1 < length g.domains) ts → weight_of ts g.domains ≤ 2 ^ 60 → IsNewDefinition g truth_values (ReifLe (length g.domains) ts bound)
new_at_most g ts bound h b = let named = terms_named ts (length g.domains) h in record {
  defines = refl;
  inputs = named;
  well_made = record { named = new_and g.domains truth_values (term_vars ts) named; flags = one (λ x. LiesWithin (pos 0) (pos 1) (box_of (g.domains ++ truth_values ∷ []) x)) _ (truth_flag g.domains); distinct = tt; bounded = let w = weight_kept ts g.domains (truth_values ∷ []) named in omega (arith, w, b); sets = tt };
  valid = truth_valid;
}

pub new_all_of : (g : Ground) (ps : List (ℕ × Bool)) → All (λ p. p.0 < length g.domains) ps → All (λ p. LiesWithin (pos 0) (pos 1) (box_of g.domains p.0)) ps → IsNewDefinition g truth_values (AndDef (length g.domains) ps)
new_all_of g ps h f = let named = parts_named ps (length g.domains) h in record {
  defines = refl;
  inputs = named;
  well_made = record {
    named = new_and g.domains truth_values (part_vars ps) named;
    flags = cons_all (λ x. LiesWithin (pos 0) (pos 1) (box_of (g.domains ++ truth_values ∷ []) x)) _ (part_vars ps) (truth_flag g.domains) (old_flags g.domains truth_values (part_vars ps) named (parts_flags ps g.domains f));
    distinct = tt;
    bounded = tt;
    sets = tt;
  };
  valid = truth_valid;
}

pub new_member : (g : Ground) (x : ℕ) (set : Ranges) → x < length g.domains → IsValid set → IsNewDefinition g truth_values (MemberDef (length g.domains) x set)
new_member g x set h valid = let named = one (λ y. y < length g.domains) x h in record {
  defines = refl;
  inputs = named;
  well_made = record { named = new_and g.domains truth_values (x ∷ []) named; flags = one (λ x. LiesWithin (pos 0) (pos 1) (box_of (g.domains ++ truth_values ∷ []) x)) _ (truth_flag g.domains); distinct = tt; bounded = tt; sets = valid };
  valid = truth_valid;
}

pub new_same : (g : Ground) (l r : ℕ) → l < length g.domains → r < length g.domains → IsNewDefinition g truth_values (EqDef (length g.domains) l r)
new_same g l r h k = let named = cons_all (λ y. y < length g.domains) l (r ∷ []) h (one (λ y. y < length g.domains) r k) in record {
  defines = refl;
  inputs = named;
  well_made = record { named = new_and g.domains truth_values (l ∷ r ∷ []) named; flags = one (λ x. LiesWithin (pos 0) (pos 1) (box_of (g.domains ++ truth_values ∷ []) x)) _ (truth_flag g.domains); distinct = tt; bounded = tt; sets = tt };
  valid = truth_valid;
}

pub new_pick : (g : Ground) (domain : Ranges) (index : ℕ) (items : List (ℤ × ℕ)) → IsValid domain → index < length g.domains → All (λ t. t.1 < length g.domains) items → distinct_values items ≡ true → IsNewDefinition g domain (ElementDef (length g.domains) index items)
new_pick g domain index items valid k h d = let named = cons_all (λ y. y < length g.domains) index (term_vars items) k (terms_named items (length g.domains) h) in record {
  defines = refl;
  inputs = named;
  well_made = record { named = new_and g.domains domain (index ∷ term_vars items) named; flags = none _; distinct = d; bounded = tt; sets = tt };
  valid = valid;
}

pub new_when : (g : Ground) (domain : Ranges) (flag item : ℕ) → IsValid domain → flag < length g.domains → item < length g.domains → LiesWithin (pos 0) (pos 1) (box_of g.domains flag) → IsNewDefinition g domain (CondDef (length g.domains) flag item)
new_when g domain flag item valid h k f = let named = cons_all (λ y. y < length g.domains) flag (item ∷ []) h (one (λ y. y < length g.domains) item k) in record {
  defines = refl;
  inputs = named;
  well_made = record { named = new_and g.domains domain (flag ∷ item ∷ []) named; flags = one (λ x. LiesWithin (pos 0) (pos 1) (box_of (g.domains ++ domain ∷ []) x)) flag (old_flag g.domains domain flag h f); distinct = tt; bounded = tt; sets = tt };
  valid = valid;
}

-- ---- statements

pub new_clause : (g : Ground) (c : Literals) → IsClause c → All (λ l. l.0 < length g.domains) c → IsNewStatement g (ClauseCon c)
new_clause g c form h = record { no_definition = refl; well_made = record { named = literals_named c (length g.domains) h; flags = none _; distinct = tt; bounded = tt; sets = form } }

pub new_bound : (g : Ground) (ts : List (ℤ × ℕ)) (bound : ℤ) → All (λ t. t.1 < length g.domains) ts → weight_of ts g.domains ≤ 2 ^ 60 → IsNewStatement g (LinLe ts bound)
new_bound g ts bound h b = record { no_definition = refl; well_made = record { named = terms_named ts (length g.domains) h; flags = none _; distinct = tt; bounded = b; sets = tt } }

pub new_different : (g : Ground) (xs : List ℕ) → All (λ x. x < length g.domains) xs → IsNewStatement g (AllDiff xs)
new_different g xs h = record { no_definition = refl; well_made = record { named = h; flags = none _; distinct = tt; bounded = tt; sets = tt } }

pub new_packed : (g : Ground) (is : List (ℕ × ℕ × ℕ)) → All (λ i. (i.0 < length g.domains) × (i.1 < length g.domains) × (i.2 < length g.domains)) is → IsPackBounded is g.domains → IsNewStatement g (Pack is)
new_packed g is h b = record { no_definition = refl; well_made = record { named = items_named is (length g.domains) h; flags = none _; distinct = tt; bounded = b; sets = tt } }
