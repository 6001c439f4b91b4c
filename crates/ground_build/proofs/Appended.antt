-- What stays as it was where values, or boxes, are added behind those that a constraint names.
use Rattle.std.proofs.Common.{◌≡◌, ℕ, zero, suc, ◌*◌, ◌<◌, Bool, List, [], ◌∷◌, ◌++◌, ℤ, pos, ◌≤ℤ◌, length, length-append, All, arith, refl, sym, ap, subst, unsigned_abs, Some, get_or}
use Rattle.std.proofs.Math.ListN.{get_or-append}
use Rattle.std.proofs.Math.Seq.{get_or-append_seam}
use Rattle.signed_clause.specs.Ranges.{Ranges}
use Rattle.signed_clause.specs.Clauses.{Boxes, Literals, box_of, clause_true}
use Rattle.ground_form.specs.declared.con.Con.{Con}
use Rattle.ground_form.specs.declared.con.Con.TheVariants.{LinLe, LinDef, ReifLe, AndDef, MemberDef, EqDef, ElementDef, CondDef, ClauseCon, AllDiff, Pack}
use Rattle.ground_form.specs.Meaning.{value_of, sum_at, parts_true, picks, lacks, all_differ, load_at, rooms_hold, con_true, term_vars, part_vars, clause_vars, item_vars, vars_of}
use Rattle.ground_form.specs.Bounds.{low_of, high_of, reach_of, term_weight, weight_of, LiesWithin, size_sum, IsPackBounded, IsBounded}
use Rattle.ground_form.specs.WellMade.{defined_by, flags_of, IsWellMadeCon}
use Rattle.ground_form.proofs.VarLists.{all_tail, all_places, all_sizes}

-- ---- values

pub value_kept : (a b : List ℤ) (x : ℕ) → x < length a → value_of (a ++ b) x ≡ value_of a x
value_kept a b x h = get_or-append a b (pos 0) x h

pub value_new : (a : List ℤ) (v : ℤ) → value_of (a ++ v ∷ []) (length a) ≡ v
value_new a v = get_or-append_seam a v [] (pos 0)

pub sum_kept : (ts : List (ℤ × ℕ)) (a b : List ℤ) → All (λ x. x < length a) (term_vars ts) → sum_at ts (a ++ b) ≡ sum_at ts a
sum_kept [] a b h = refl
sum_kept (t ∷ ts) a b h = let e = value_kept a b t.1 (h 0 0 (omega arith)) in let rest = sum_kept ts a b (all_tail t.1 (term_vars ts) (length a) h) in cc

pub parts_kept : (ps : List (ℕ × Bool)) (a b : List ℤ) → All (λ x. x < length a) (part_vars ps) → parts_true ps (a ++ b) ≡ parts_true ps a
parts_kept [] a b h = refl
parts_kept (p ∷ ps) a b h = let e = value_kept a b p.0 (h 0 0 (omega arith)) in let rest = parts_kept ps a b (all_tail p.0 (part_vars ps) (length a) h) in rw (e, rest) refl

pub picks_kept : (out index : ℤ) (ts : List (ℤ × ℕ)) (a b : List ℤ) → All (λ x. x < length a) (term_vars ts) → picks out index ts (a ++ b) ≡ picks out index ts a
picks_kept out index [] a b h = refl
picks_kept out index (t ∷ ts) a b h = let e = value_kept a b t.1 (h 0 0 (omega arith)) in let rest = picks_kept out index ts a b (all_tail t.1 (term_vars ts) (length a) h) in rw (e, rest) refl

lacks_kept : (v : ℤ) (xs : List ℕ) (a b : List ℤ) → All (λ x. x < length a) xs → lacks v xs (a ++ b) ≡ lacks v xs a
lacks_kept v [] a b h = refl
lacks_kept v (x ∷ xs) a b h = let e = value_kept a b x (h 0 0 (omega arith)) in let rest = lacks_kept v xs a b (all_tail x xs (length a) h) in rw (e, rest) refl

differ_kept : (xs : List ℕ) (a b : List ℤ) → All (λ x. x < length a) xs → all_differ xs (a ++ b) ≡ all_differ xs a
differ_kept [] a b h = refl
differ_kept (x ∷ xs) a b h =
    let e = value_kept a b x (h 0 0 (omega arith)) in let tail = all_tail x xs (length a) h in
    let first = lacks_kept (value_of a x) xs a b tail in let rest = differ_kept xs a b tail in rw (e, first, rest) refl

load_kept : (place : ℤ) (is : List (ℕ × ℕ × ℕ)) (a b : List ℤ) → All (λ x. x < length a) (item_vars is) → load_at place is (a ++ b) ≡ load_at place is a
load_kept place [] a b h = refl
load_kept place (i ∷ is) a b h =
    let p = value_kept a b i.0 (h 0 0 (omega arith)) in let s = value_kept a b i.1 (h 1 0 (omega arith)) in
    let rest = load_kept place is a b (λ k d lt. h (suc (suc (suc k))) d (omega arith)) in rw (p, s, rest) refl

rooms_kept : (items is : List (ℕ × ℕ × ℕ)) (a b : List ℤ) → All (λ x. x < length a) (item_vars items) → All (λ x. x < length a) (item_vars is) → rooms_hold items is (a ++ b) ≡ rooms_hold items is a
rooms_kept items [] a b all h = refl
rooms_kept items (i ∷ is) a b all h =
    let p = value_kept a b i.0 (h 0 0 (omega arith)) in let r = value_kept a b i.2 (h 2 0 (omega arith)) in
    let load = load_kept (value_of a i.0) items a b all in
    let rest = rooms_kept items is a b all (λ k d lt. h (suc (suc (suc k))) d (omega arith)) in rw (p, r, load, rest) refl

clause_kept : (c : Literals) (a b : List ℤ) → All (λ x. x < length a) (clause_vars c) → clause_true c (a ++ b) ≡ clause_true c a
clause_kept [] a b h = refl
clause_kept (l ∷ c) a b h = let e = value_kept a b l.0 (h 0 0 (omega arith)) in let rest = clause_kept c a b (all_tail l.0 (clause_vars c) (length a) h) in rw (e, rest) refl

-- a constraint is as true as it was
pub con_kept : (con : Con) (a b : List ℤ) → All (λ x. x < length a) (vars_of con) → con_true con (a ++ b) ≡ con_true con a
con_kept (LinLe terms bound) a b h = rw (sum_kept terms a b h) refl
con_kept (LinDef out terms offset) a b h = let e = value_kept a b out (h 0 0 (omega arith)) in rw (e, sum_kept terms a b (all_tail out _ (length a) h)) refl
con_kept (ReifLe flag terms bound) a b h = let e = value_kept a b flag (h 0 0 (omega arith)) in rw (e, sum_kept terms a b (all_tail flag _ (length a) h)) refl
con_kept (AndDef flag parts) a b h = let e = value_kept a b flag (h 0 0 (omega arith)) in rw (e, parts_kept parts a b (all_tail flag _ (length a) h)) refl
con_kept (MemberDef flag var set) a b h = let e = value_kept a b flag (h 0 0 (omega arith)) in rw (e, value_kept a b var (h 1 0 (omega arith))) refl
con_kept (EqDef flag left right) a b h = let e = value_kept a b flag (h 0 0 (omega arith)) in rw (e, value_kept a b left (h 1 0 (omega arith)), value_kept a b right (h 2 0 (omega arith))) refl
con_kept (ElementDef out index items) a b h =
    let e = value_kept a b out (h 0 0 (omega arith)) in let f = value_kept a b index (h 1 0 (omega arith)) in
    rw (e, f) (picks_kept (value_of a out) (value_of a index) items a b (λ k d lt. h (suc (suc k)) d (omega arith)))
con_kept (CondDef out flag item) a b h = let e = value_kept a b out (h 0 0 (omega arith)) in rw (e, value_kept a b flag (h 1 0 (omega arith)), value_kept a b item (h 2 0 (omega arith))) refl
con_kept (ClauseCon clause) a b h = clause_kept clause a b h
con_kept (AllDiff vars) a b h = differ_kept vars a b h
con_kept (Pack items) a b h = rooms_kept items items a b h h

-- ---- boxes

pub box_kept : (ds e : Boxes) (x : ℕ) → x < length ds → box_of (ds ++ e) x ≡ box_of ds x
box_kept ds e x h = get_or-append ds e [] x h

pub box_new : (ds : Boxes) (d : Ranges) → box_of (ds ++ d ∷ []) (length ds) ≡ d
box_new ds d = get_or-append_seam ds d [] []

term_kept : (t : ℤ × ℕ) (ds e : Boxes) → t.1 < length ds → term_weight t (ds ++ e) ≡ term_weight t ds
unfolding term_weight
term_kept t ds e h = ap (λ (z : Ranges). unsigned_abs t.0 * reach_of z) (box_kept ds e t.1 h)

pub weight_kept : (ts : List (ℤ × ℕ)) (ds e : Boxes) → All (λ x. x < length ds) (term_vars ts) → weight_of ts (ds ++ e) ≡ weight_of ts ds
weight_kept [] ds e h = refl
weight_kept (t ∷ ts) ds e h = let first = term_kept t ds e (h 0 0 (omega arith)) in let rest = weight_kept ts ds e (all_tail t.1 (term_vars ts) (length ds) h) in cc

size_kept : (is : List (ℕ × ℕ × ℕ)) (ds e : Boxes) → All (λ x. x < length ds) (item_vars is) → size_sum is (ds ++ e) ≡ size_sum is ds
size_kept [] ds e h = refl
size_kept (i ∷ is) ds e h =
    let first = ap (λ (z : Ranges). high_of z) (box_kept ds e i.1 (h 1 0 (omega arith))) in
    let rest = size_kept is ds e (λ k d lt. h (suc (suc (suc k))) d (omega arith)) in cc

pack_kept : (is : List (ℕ × ℕ × ℕ)) (ds e : Boxes) → All (λ x. x < length ds) (item_vars is) → IsPackBounded is ds → IsPackBounded is (ds ++ e)
pack_kept is ds e h p = record {
  places = λ k d lt. subst (λ (z : Ranges). LiesWithin (pos 0) (pos 9999) z) (sym (box_kept ds e (get_or is k d).0 (all_places is (length ds) h k d lt))) (p.places k d lt);
  sizes = λ k d lt. subst (λ (z : Ranges). pos 0 ≤ℤ low_of z) (sym (box_kept ds e (get_or is k d).1 (all_sizes is (length ds) h k d lt))) (p.sizes k d lt);
  total = subst (λ (z : ℤ). z ≤ℤ pos 1152921504606846976) (sym (size_kept is ds e h)) p.total;
}

-- a constraint is as bounded as it was
pub bounded_kept : (con : Con) (ds e : Boxes) → All (λ x. x < length ds) (vars_of con) → IsBounded con ds → IsBounded con (ds ++ e)
bounded_kept (LinLe terms bound) ds e h b = let w = weight_kept terms ds e h in omega (arith, w, b)
bounded_kept (LinDef out terms offset) ds e h b = let w = weight_kept terms ds e (all_tail out _ (length ds) h) in omega (arith, w, b)
bounded_kept (ReifLe flag terms bound) ds e h b = let w = weight_kept terms ds e (all_tail flag _ (length ds) h) in omega (arith, w, b)
bounded_kept (AndDef flag parts) ds e h b = tt
bounded_kept (MemberDef flag var set) ds e h b = tt
bounded_kept (EqDef flag left right) ds e h b = tt
bounded_kept (ElementDef out index items) ds e h b = tt
bounded_kept (CondDef out flag item) ds e h b = tt
bounded_kept (ClauseCon clause) ds e h b = tt
bounded_kept (AllDiff vars) ds e h b = tt
bounded_kept (Pack items) ds e h b = pack_kept items ds e h b

pub one : (P : ℕ → Type 0) (x : ℕ) → P x → All P (x ∷ [])
one P x p zero d lt = p
one P x p (suc k) d lt = absurd (omega arith)

pub none : (P : ℕ → Type 0) → All P []
none P k d lt = absurd (omega arith)

-- the flags of a constraint are among its variables
flags_named : (con : Con) (n : ℕ) → All (λ x. x < n) (vars_of con) → All (λ x. x < n) (flags_of con)
flags_named (LinLe terms bound) n h = none _
flags_named (LinDef out terms offset) n h = none _
flags_named (ReifLe flag terms bound) n h = one (λ x. x < n) flag (h 0 0 (omega arith))
flags_named (AndDef flag parts) n h = h
flags_named (MemberDef flag var set) n h = one (λ x. x < n) flag (h 0 0 (omega arith))
flags_named (EqDef flag left right) n h = one (λ x. x < n) flag (h 0 0 (omega arith))
flags_named (ElementDef out index items) n h = none _
flags_named (CondDef out flag item) n h = one (λ x. x < n) flag (h 1 0 (omega arith))
flags_named (ClauseCon clause) n h = none _
flags_named (AllDiff vars) n h = none _
flags_named (Pack items) n h = none _

-- a constraint is as well made as it was
pub well_made_con_kept : (con : Con) (ds e : Boxes) → IsWellMadeCon ds con → IsWellMadeCon (ds ++ e) con
well_made_con_kept con ds e w = record {
  named = λ k d lt. let h = w.named k d lt in omega (arith, length-append ds e);
  flags = λ k d lt. subst (λ (z : Ranges). LiesWithin (pos 0) (pos 1) z) (sym (box_kept ds e (get_or (flags_of con) k d) (flags_named con (length ds) w.named k d lt))) (w.flags k d lt);
  distinct = w.distinct;
  bounded = bounded_kept con ds e w.named w.bounded;
  sets = w.sets;
}

-- what a constraint defines is among its variables
pub defined_named : (con : Con) (x n : ℕ) → defined_by con ≡ Some x → All (λ y. y < n) (vars_of con) → x < n
defined_named (LinLe terms bound) x n e h = absurd cc
defined_named (LinDef out terms offset) x n e h = let same : out ≡ x = cc in let lt = h 0 0 (omega arith) in omega (arith, same, lt)
defined_named (ReifLe flag terms bound) x n e h = let same : flag ≡ x = cc in let lt = h 0 0 (omega arith) in omega (arith, same, lt)
defined_named (AndDef flag parts) x n e h = let same : flag ≡ x = cc in let lt = h 0 0 (omega arith) in omega (arith, same, lt)
defined_named (MemberDef flag var set) x n e h = let same : flag ≡ x = cc in let lt = h 0 0 (omega arith) in omega (arith, same, lt)
defined_named (EqDef flag left right) x n e h = let same : flag ≡ x = cc in let lt = h 0 0 (omega arith) in omega (arith, same, lt)
defined_named (ElementDef out index items) x n e h = let same : out ≡ x = cc in let lt = h 0 0 (omega arith) in omega (arith, same, lt)
defined_named (CondDef out flag item) x n e h = let same : out ≡ x = cc in let lt = h 0 0 (omega arith) in omega (arith, same, lt)
defined_named (ClauseCon clause) x n e h = absurd cc
defined_named (AllDiff vars) x n e h = absurd cc
defined_named (Pack items) x n e h = absurd cc
