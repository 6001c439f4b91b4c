-- Whether a constraint is refuted depends on the boxes of its variables alone.
use Rattle.std.proofs.Common.{◌≡◌, ℕ, suc, zero, Bool, List, [], ◌∷◌, ℤ, pos, ◌+ℤ◌, refl, ap, ◌∙◌}
use Rattle.std.specs.Int.{int_max, int_min}
use Rattle.signed_clause.specs.Ranges.{Ranges}
use Rattle.signed_clause.specs.Clauses.{Boxes, Literals, box_of, false_in}
use Rattle.ground_form.specs.declared.con.Con.{Con}
use Rattle.ground_form.specs.declared.con.Con.TheVariants.{LinLe, LinDef, ReifLe, AndDef, MemberDef, EqDef, ElementDef, CondDef, ClauseCon, AllDiff, Pack}
use Rattle.ground_form.specs.Meaning.{vars_of, term_vars, part_vars, clause_vars, item_vars}
use Rattle.ground_form.specs.Bounds.{low_of, high_of, least_term, greatest_term, least_sum, greatest_sum}
use Rattle.box_rules.specs.Refuted.{some_empty, some_barred, all_fixed, none_picked, count_in, crowded, crowded_from, some_crowded, fixed_load, some_overfull, least_sizes, best_room, rooms_from, first_bin, last_bin, width, all_room, excluded, refuted}
use Rattle.box_rules.specs.Named.{Agree}

agree_empty : (xs : List ℕ) (a b : Boxes) → Agree a b xs → some_empty xs a ≡ some_empty xs b
agree_empty [] a b h = refl
agree_empty (x ∷ xs) a b h = let more = agree_empty xs a b h.1 in rw (h.0, more) refl

-- ---- sums

agree_least_term : (t : ℤ × ℕ) (a b : Boxes) → box_of a t.1 ≡ box_of b t.1 → least_term t a ≡ least_term t b
unfolding least_term
agree_least_term t a b h = rw h refl

agree_greatest_term : (t : ℤ × ℕ) (a b : Boxes) → box_of a t.1 ≡ box_of b t.1 → greatest_term t a ≡ greatest_term t b
unfolding greatest_term
agree_greatest_term t a b h = rw h refl

pub agree_least : (ts : List (ℤ × ℕ)) (a b : Boxes) → Agree a b (term_vars ts) → least_sum ts a ≡ least_sum ts b
agree_least [] a b h = refl
agree_least (t ∷ ts) a b h = let one = agree_least_term t a b h.0 in let more = agree_least ts a b h.1 in rw (one, more) refl

pub agree_greatest : (ts : List (ℤ × ℕ)) (a b : Boxes) → Agree a b (term_vars ts) → greatest_sum ts a ≡ greatest_sum ts b
agree_greatest [] a b h = refl
agree_greatest (t ∷ ts) a b h = let one = agree_greatest_term t a b h.0 in let more = agree_greatest ts a b h.1 in rw (one, more) refl

-- ---- flags, parts and items

agree_barred : (ps : List (ℕ × Bool)) (a b : Boxes) → Agree a b (part_vars ps) → some_barred ps a ≡ some_barred ps b
agree_barred [] a b h = refl
agree_barred (p ∷ ps) a b h = let more = agree_barred ps a b h.1 in rw (h.0, more) refl

agree_fixed : (ps : List (ℕ × Bool)) (a b : Boxes) → Agree a b (part_vars ps) → all_fixed ps a ≡ all_fixed ps b
agree_fixed [] a b h = refl
agree_fixed (p ∷ ps) a b h = let more = agree_fixed ps a b h.1 in rw (h.0, more) refl

agree_picked : (out index : Ranges) (ts : List (ℤ × ℕ)) (a b : Boxes) → Agree a b (term_vars ts) → none_picked out index ts a ≡ none_picked out index ts b
agree_picked out index [] a b h = refl
agree_picked out index (t ∷ ts) a b h = let more = agree_picked out index ts a b h.1 in rw (h.0, more) refl

pub agree_false : (c : Literals) (a b : Boxes) → Agree a b (clause_vars c) → false_in a c ≡ false_in b c
agree_false [] a b h = refl
agree_false (l ∷ c) a b h = let more = agree_false c a b h.1 in rw (h.0, more) refl

-- ---- values that differ

agree_count : (v w : ℤ) (xs : List ℕ) (a b : Boxes) → Agree a b xs → count_in v w xs a ≡ count_in v w xs b
agree_count v w [] a b h = refl
agree_count v w (x ∷ xs) a b h = let more = agree_count v w xs a b h.1 in rw (h.0, more) refl

agree_crowded : (v w : ℤ) (xs : List ℕ) (a b : Boxes) → Agree a b xs → crowded v w xs a ≡ crowded v w xs b
agree_crowded v w xs a b h = let count = agree_count v w xs a b h in rw count refl

agree_crowded_from : (v : ℤ) (ys xs : List ℕ) (a b : Boxes) → Agree a b ys → Agree a b xs → crowded_from v ys xs a ≡ crowded_from v ys xs b
agree_crowded_from v [] xs a b h k = refl
agree_crowded_from v (y ∷ ys) xs a b h k =
    let one = agree_crowded v (high_of (box_of b y)) xs a b k in
    let more = agree_crowded_from v ys xs a b h.1 k in rw (h.0, one, more) refl

agree_some_crowded : (ys xs : List ℕ) (a b : Boxes) → Agree a b ys → Agree a b xs → some_crowded ys xs a ≡ some_crowded ys xs b
agree_some_crowded [] xs a b h k = refl
agree_some_crowded (y ∷ ys) xs a b h k =
    let one = agree_crowded_from (low_of (box_of b y)) xs xs a b k k in
    let more = agree_some_crowded ys xs a b h.1 k in rw (h.0, one, more) refl

-- ---- items to be packed

agree_load : (v : ℤ) (is : List (ℕ × ℕ × ℕ)) (a b : Boxes) → Agree a b (item_vars is) → fixed_load v is a ≡ fixed_load v is b
agree_load v [] a b h = refl
agree_load v (i ∷ is) a b h = let more = agree_load v is a b h.1.1.1 in rw (h.0, h.1.0, more) refl

agree_overfull : (is items : List (ℕ × ℕ × ℕ)) (a b : Boxes) → Agree a b (item_vars is) → Agree a b (item_vars items) → some_overfull is items a ≡ some_overfull is items b
agree_overfull [] items a b h k = refl
agree_overfull (i ∷ is) items a b h k =
    let load = agree_load (low_of (box_of b i.0)) items a b k in
    let more = agree_overfull is items a b h.1.1.1 k in rw (h.0, h.1.1.0, load, more) refl

agree_sizes : (is : List (ℕ × ℕ × ℕ)) (a b : Boxes) → Agree a b (item_vars is) → least_sizes is a ≡ least_sizes is b
agree_sizes [] a b h = refl
agree_sizes (i ∷ is) a b h = let more = agree_sizes is a b h.1.1.1 in rw (h.1.0, more) refl

agree_best : (v : ℤ) (is : List (ℕ × ℕ × ℕ)) (a b : Boxes) → Agree a b (item_vars is) → best_room v is a ≡ best_room v is b
agree_best v [] a b h = refl
agree_best v (i ∷ is) a b h = let more = agree_best v is a b h.1.1.1 in rw (h.0, h.1.1.0, more) refl

agree_rooms : (n : ℕ) (v : ℤ) (is : List (ℕ × ℕ × ℕ)) (a b : Boxes) → Agree a b (item_vars is) → rooms_from n v is a ≡ rooms_from n v is b
agree_rooms zero v is a b h = refl
agree_rooms (suc n) v is a b h =
    let one = agree_best v is a b h in let more = agree_rooms n (v +ℤ pos 1) is a b h in rw (one, more) refl

agree_first : (v : ℤ) (is : List (ℕ × ℕ × ℕ)) (a b : Boxes) → Agree a b (item_vars is) → first_bin v is a ≡ first_bin v is b
agree_first v [] a b h = refl
agree_first v (i ∷ is) a b h = rw h.0 (agree_first (int_min v (low_of (box_of b i.0))) is a b h.1.1.1)

agree_last : (v : ℤ) (is : List (ℕ × ℕ × ℕ)) (a b : Boxes) → Agree a b (item_vars is) → last_bin v is a ≡ last_bin v is b
agree_last v [] a b h = refl
agree_last v (i ∷ is) a b h = rw h.0 (agree_last (int_max v (high_of (box_of b i.0))) is a b h.1.1.1)

agree_room : (is : List (ℕ × ℕ × ℕ)) (a b : Boxes) → Agree a b (item_vars is) → all_room is a ≡ all_room is b
agree_room [] a b h = refl
agree_room (i ∷ is) a b h =
    let fa = first_bin (low_of (box_of a i.0)) is a in
    let fb = first_bin (low_of (box_of b i.0)) is b in
    let la = last_bin (high_of (box_of a i.0)) is a in
    let lb = last_bin (high_of (box_of b i.0)) is b in
    let first : fa ≡ fb = ap (λ (s : Ranges). first_bin (low_of s) is a) h.0 ∙ agree_first (low_of (box_of b i.0)) is a b h.1.1.1 in
    let last : la ≡ lb = ap (λ (s : Ranges). last_bin (high_of s) is a) h.0 ∙ agree_last (high_of (box_of b i.0)) is a b h.1.1.1 in
    ap (λ (v : ℤ). rooms_from (width v la) v (i ∷ is) a) first
    ∙ ap (λ (v : ℤ). rooms_from (width fb v) fb (i ∷ is) a) last
    ∙ agree_rooms (width fb lb) fb (i ∷ is) a b h

-- ---- each kind

agree_excluded : (con : Con) (a b : Boxes) → Agree a b (vars_of con) → excluded con a ≡ excluded con b
agree_excluded (LinLe terms bound) a b h = let least = agree_least terms a b h in rw least refl
agree_excluded (LinDef out terms offset) a b h =
    let least = agree_least terms a b h.1 in let greatest = agree_greatest terms a b h.1 in rw (h.0, least, greatest) refl
agree_excluded (ReifLe flag terms bound) a b h =
    let least = agree_least terms a b h.1 in let greatest = agree_greatest terms a b h.1 in rw (h.0, least, greatest) refl
agree_excluded (AndDef flag parts) a b h =
    let out = agree_barred parts a b h.1 in let fixed = agree_fixed parts a b h.1 in rw (h.0, out, fixed) refl
agree_excluded (MemberDef flag var set) a b h = rw (h.0, h.1.0) refl
agree_excluded (EqDef flag left right) a b h = rw (h.0, h.1.0, h.1.1.0) refl
agree_excluded (ElementDef out index items) a b h =
    rw (h.0, h.1.0) (agree_picked (box_of b out) (box_of b index) items a b h.1.1)
agree_excluded (CondDef out flag item) a b h = rw (h.0, h.1.0, h.1.1.0) refl
agree_excluded (ClauseCon clause) a b h = agree_false clause a b h
agree_excluded (AllDiff vars) a b h = agree_some_crowded vars vars a b h h
agree_excluded (Pack items) a b h =
    let over = agree_overfull items items a b h h in
    let room = agree_room items a b h in
    let sizes = agree_sizes items a b h in rw (over, room, sizes) refl

pub agree_refuted : (con : Con) (a b : Boxes) → Agree a b (vars_of con) → refuted con a ≡ refuted con b
agree_refuted con a b h =
    let empty = agree_empty (vars_of con) a b h in let out = agree_excluded con a b h in rw (empty, out) refl
