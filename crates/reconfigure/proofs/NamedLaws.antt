-- What keeps failed objects out, cell by cell.
use Rattle.std.proofs.Common.{◌≡◌, ℕ, zero, suc, ◌+◌, ◌<◌, ◌≤◌, Bool, true, false, not, cond, ◌&&◌, ◌||◌, List, [], ◌∷◌, ◌++◌, ℤ, pos, Option, None, length, length-append, length-take, take, map, get_or, refl, sym, ap, ◌∙◌, subst, arith}
use Rattle.std.specs.Prelude.{nat_abs, int_le}
use Rattle.std.specs.List.{list_all}
use Rattle.std.proofs.lemmas.List.{length-map, append_assoc, take_all}
use Rattle.std.proofs.lemmas.List.Folds.{list_all-append}
use Rattle.class_table.specs.Outline.{Outline}
use Rattle.object_alloc.specs.declared.object.Cell.{Cell}
use Rattle.object_alloc.specs.declared.object.Domain.{Domain}
use Rattle.object_alloc.specs.declared.object.Domain.TheVariants.{Span, Extent}
use Rattle.object_alloc.specs.Cells.{cells}
use Rattle.object_alloc.specs.Changes.{allowed, is_sound, named, named_at, named_by}
use Rattle.object_alloc.specs.Configurations.{IsInDomain, IsOfExtent}
use Rattle.object_alloc.specs.Members.{is_one}
use Rattle.signed_clause.specs.Ranges.{Ranges, has, HaveNoCommonValue}
use Rattle.signed_clause.specs.Clauses.{Boxes, box_of}
use Rattle.ground_form.specs.declared.ground.Ground.{Ground}
use Rattle.ground_form.specs.Meaning.{value_of}
use Rattle.form_build.specs.Worlds.{IsWorld, Grows, Adds}
use Rattle.form_build.proofs.Growth.{world_before, adds_nothing, adds_more, adds_same}
use Rattle.form_build.proofs.Lists.{box_front}
use Rattle.ground_cells.specs.CellBoxes.{cell_boxes, domain_box}
use Rattle.ground_cells.proofs.Points.{domain_of}
use Rattle.reconfigure.specs.CellsFirst.{HasCells}
use Rattle.reconfigure.specs.Marking.{AreFailed}
use Rattle.reconfigure.specs.declared.failed.Failed.{Failed}

-- ---- cells as variables

-- the front of a list has its values
pub front_value : (n i : ℕ) (a : List ℤ) → i < n → value_of (take n a) i ≡ value_of a i
front_value zero i a h = absurd (omega (arith, h))
front_value (suc n) i [] h = refl
front_value (suc n) zero (v ∷ a) h = refl
front_value (suc n) (suc i) (v ∷ a) h = front_value n i a (omega (arith, h))

pub cells_still : (o : Outline) (old new : Ground) → Grows old new → HasCells o old → HasCells o new
cells_still o old new g h = record {
  searched = g.search ∙ h.searched;
  rest = h.rest ++ g.more;
  domains = g.domains ∙ ap (λ (z : Boxes). z ++ g.more) h.domains ∙ append_assoc (cell_boxes o) h.rest g.more;
}

pub cells_searched : (o : Outline) (g : Ground) → HasCells o g → g.search ≡ length (cells o)
cells_searched o g h = h.searched ∙ length-map (cells o) (λ (c : Cell). domain_box o c.domain)

pub searched_low : (o : Outline) (g : Ground) (x : ℕ) → HasCells o g → x < g.search → x < length g.domains
searched_low o g x h lt =
    let e = ap (λ (z : Boxes). length z) h.domains in
    let l = length-append (cell_boxes o) h.rest in
    omega (arith, e, l, lt, h.searched)

mapped_box : (o : Outline) (cs : List Cell) (x : ℕ) (c : Cell) → x < length cs → c ≡ get_or cs x c → box_of (map (λ (y : Cell). domain_box o y.domain) cs) x ≡ domain_box o c.domain
mapped_box o [] x c lt e = absurd (omega (arith, lt))
mapped_box o (y ∷ cs) zero c lt e = ap (λ (z : Cell). domain_box o z.domain) (sym e)
mapped_box o (y ∷ cs) (suc x) c lt e = mapped_box o cs x c (omega (arith, lt)) e

-- in a world each cell's value lies in its domain
pub cell_value : (o : Outline) (g : Ground) (a : List ℤ) (x : ℕ) (c : Cell) → HasCells o g → IsWorld g a → x < length (cells o) → c ≡ get_or (cells o) x c → IsInDomain o c.domain (value_of a x)
cell_value o g a x c h w lt e =
    let count = cells_searched o g h in
    let size = length-map (cells o) (λ (y : Cell). domain_box o y.domain) in
    let box : box_of g.domains x ≡ domain_box o c.domain =
    ap (λ (z : Boxes). box_of z x) h.domains ∙ box_front (cell_boxes o) h.rest x (omega (arith, lt, size)) ∙ mapped_box o (cells o) x c lt e in
    domain_of o c.domain (value_of a x) (subst (λ (z : Ranges). has z (value_of a x) ≡ true) box (w.within x (searched_low o g x h (omega (arith, lt, count)))))

-- ---- values that are forbidden

pub none_forbidden : (g : Ground) (x : ℕ) (values : Ranges) → x < length g.domains → HaveNoCommonValue (box_of g.domains x) values → Adds [] g g (λ a. not (has values (value_of a x)))
none_forbidden g x values lt none =
    adds_same [] g g (λ a. true) (λ a. not (has values (value_of a x))) (λ a w kn. sym (ap not (none (value_of a x) (w.within x lt)))) (adds_nothing [] g)

pub rest_forbids : (old new : Ground) (x : ℕ) (values rest : Ranges) → x < length old.domains → ((v : ℤ) → has rest v ≡ (has (box_of old.domains x) v && not (has values v))) → Adds [] old new (λ a. has rest (value_of a x)) → Adds [] old new (λ a. not (has values (value_of a x)))
rest_forbids old new x values rest lt h added =
    adds_same [] old new (λ a. has rest (value_of a x)) (λ a. not (has values (value_of a x)))
    (λ a w kn. h (value_of a x) ∙ ap (λ b. b && not (has values (value_of a x))) ((world_before old new a added.grows w).within x lt)) added

and_one : (b : Bool) → (b && true) ≡ b
and_one true = refl
and_one false = refl

-- ---- one cell

module _ (o : Outline) (f : Failed) (h : AreFailed o f) where
  abbrev sound : ℕ → Bool
  sound n = is_sound o f.numbers.items n

  -- a member that failed is out
  pub member_out : (n : ℕ) (v : ℤ) → has f.inside (pos n) ≡ true → not (has ((pos 1, pos 1) ∷ []) v) ≡ list_all (is_sound o f.numbers.items) (cond (is_one v) (n ∷ []) [])
  member_out n v e = by (int_le (pos 1) v) (int_le v (pos 1))
    where
      failed : is_sound o f.numbers.items n ≡ false
      failed = ap not (sym (h.inside n) ∙ e)

      by : (a b : Bool) → not ((a && b) || false) ≡ list_all (is_sound o f.numbers.items) (cond (b && a) (n ∷ []) [])
      by true true = sym (ap (λ q. q && true) failed)
      by true false = refl
      by false true = refl
      by false false = refl

  -- another member may be in or out
  pub member_any : (n : ℕ) (v : ℤ) → has f.inside (pos n) ≡ false → true ≡ list_all (is_sound o f.numbers.items) (cond (is_one v) (n ∷ []) [])
  member_any n v e = by (is_one v)
    where
      by : (b : Bool) → true ≡ list_all (is_sound o f.numbers.items) (cond b (n ∷ []) [])
      by true = sym (ap (λ q. q && true) (ap not (sym (h.inside n) ∙ e)))
      by false = refl

  -- a reference
  pub reference_sound : (c : ℕ) (v : ℤ) → IsOfExtent o c v → not (has f.inside v) ≡ list_all (is_sound o f.numbers.items) (nat_abs v ∷ [])
  reference_sound c v i =
      ap (λ (z : ℤ). not (has f.inside z)) i.is
      ∙ ap not (h.inside i.object)
      ∙ sym (and_one (is_sound o f.numbers.items i.object))
      ∙ ap (λ (z : ℤ). list_all (is_sound o f.numbers.items) (nat_abs z ∷ [])) (sym i.is)

-- ---- all cells

named_none : (cs : List Cell) (vs : List ℤ) → named (take 0 cs) vs ≡ []
named_none cs vs = refl

named_end : (c : Cell) (v : ℤ) (vs : List ℤ) → named (c ∷ []) (v ∷ vs) ≡ named_by c v
named_end c v vs = append_none (named_by c v)
  where
    append_none : (xs : List ℕ) → xs ++ [] ≡ xs
    append_none [] = refl
    append_none (x ∷ xs) = ap (λ ys. x ∷ ys) (append_none xs)

named_more : (cs : List Cell) (vs : List ℤ) (i : ℕ) (c : Cell) → i < length cs → c ≡ get_or cs i c → i < length vs → named (take (suc i) cs) vs ≡ named (take i cs) vs ++ named_by c (value_of vs i)
named_more [] vs i c lt e low = absurd (omega (arith, lt))
named_more (x ∷ cs) [] i c lt e low = absurd (omega (arith, low))
named_more (x ∷ cs) (v ∷ vs) zero c lt e low = named_end x v vs ∙ ap (λ (y : Cell). named_by y v) (sym e)
named_more (x ∷ cs) (v ∷ vs) (suc i) c lt e low =
    ap (λ ns. named_by x v ++ ns) (named_more cs vs i c (omega (arith, lt)) e (omega (arith, low)))
    ∙ sym (append_assoc (named_by x v) (named (take i cs) vs) (named_by c (value_of vs i)))

-- what is said of the cells so far
abbrev pub allows : Outline → List ℕ → ℕ → List ℤ → Bool
allows o ws i values = list_all (is_sound o ws) (named (take i (cells o)) values)

pub allows_none : (o : Outline) (ws : List ℕ) (g : Ground) → Adds [] g g (λ a. allows o ws 0 (take g.search a))
allows_none o ws g = adds_nothing [] g

pub allows_more : (o : Outline) (ws : List ℕ) (f g h : Ground) (i : ℕ) (c : Cell) → HasCells o f → i < length (cells o) → c ≡ get_or (cells o) i c → Adds [] f g (λ a. allows o ws i (take f.search a)) → Adds [] g h (λ a. list_all (is_sound o ws) (named_by c (value_of a i))) → Adds [] f h (λ a. allows o ws (i + 1) (take f.search a))
allows_more o ws f g h i c there lt e one two =
    adds_same [] f h (λ a. allows o ws i (take f.search a) && list_all (is_sound o ws) (named_by c (value_of a i))) (λ a. allows o ws (i + 1) (take f.search a))
    (λ a w kn. sym (both a w))
    (adds_more [] f g h (λ a. allows o ws i (take f.search a)) (λ a. list_all (is_sound o ws) (named_by c (value_of a i))) one two)
  where
    both : (a : List ℤ) → IsWorld h a → allows o ws (i + 1) (take f.search a) ≡ (allows o ws i (take f.search a) && list_all (is_sound o ws) (named_by c (value_of a i)))
    both a w =
        let count = cells_searched o f there in
        let next : i + 1 ≡ suc i = omega arith in
        let long : f.search ≡ h.search = sym (two.grows.search ∙ one.grows.search) in
        let size : length (take f.search a) ≡ f.search = omega (arith, length-take f.search a, w.long, long) in
        ap (λ n. allows o ws n (take f.search a)) next
        ∙ ap (list_all (is_sound o ws)) (named_more (cells o) (take f.search a) i c lt e (omega (arith, lt, count, size)))
        ∙ list_all-append (is_sound o ws) (named (take i (cells o)) (take f.search a)) (named_by c (value_of (take f.search a) i))
        ∙ ap (λ (v : ℤ). allows o ws i (take f.search a) && list_all (is_sound o ws) (named_by c v)) (front_value f.search i a (omega (arith, lt, count)))

pub allows_all : (o : Outline) (ws : List ℕ) (f g : Ground) (i : ℕ) → length (cells o) ≤ i → Adds [] f g (λ a. allows o ws i (take f.search a)) → Adds [] f g (λ a. allowed o ws (take f.search a))
allows_all o ws f g i le added =
    adds_same [] f g (λ a. allows o ws i (take f.search a)) (λ a. allowed o ws (take f.search a))
    (λ a w kn. ap (λ (cs : List Cell). list_all (is_sound o ws) (named cs (take f.search a))) (take_all i (cells o) le)) added

-- ---- what is said of one cell

module _ (o : Outline) (f : Failed) (h : AreFailed o f) where
  -- a member that failed
  pub out_adds : (g new : Ground) (x n : ℕ) (values : Ranges) → values ≡ (pos 1, pos 1) ∷ [] → has f.inside (pos n) ≡ true → Adds [] g new (λ a. not (has values (value_of a x))) → Adds [] g new (λ a. list_all (is_sound o f.numbers.items) (cond {A = List ℕ} (is_one (value_of a x)) (n ∷ []) []))
  out_adds g new x n values are e added =
      adds_same [] g new (λ a. not (has values (value_of a x))) (λ a. list_all (is_sound o f.numbers.items) (cond {A = List ℕ} (is_one (value_of a x)) (n ∷ []) []))
      (λ a w kn. ap (λ (z : Ranges). not (has z (value_of a x))) are ∙ member_out o f h n (value_of a x) e) added

  -- another member
  pub any_adds : (g : Ground) (x n : ℕ) → has f.inside (pos n) ≡ false → Adds [] g g (λ a. list_all (is_sound o f.numbers.items) (cond {A = List ℕ} (is_one (value_of a x)) (n ∷ []) []))
  any_adds g x n e =
      adds_same [] g g (λ a. true) (λ a. list_all (is_sound o f.numbers.items) (cond {A = List ℕ} (is_one (value_of a x)) (n ∷ []) []))
      (λ a w kn. member_any o f h n (value_of a x) e) (adds_nothing [] g)

  -- a reference
  pub reference_adds : (g new : Ground) (x c : ℕ) (cell : Cell) → HasCells o g → x < length (cells o) → cell ≡ get_or (cells o) x cell → cell.element ≡ None → cell.domain ≡ Extent c → Adds [] g new (λ a. not (has f.inside (value_of a x))) → Adds [] g new (λ a. list_all (is_sound o f.numbers.items) (named_by cell (value_of a x)))
  reference_adds g new x c cell there lt e none is added =
      adds_same [] g new (λ a. not (has f.inside (value_of a x))) (λ a. list_all (is_sound o f.numbers.items) (named_by cell (value_of a x)))
      (λ a w kn.
      let v = value_of a x in
      let lies = subst (λ (d : Domain). IsInDomain o d v) is (cell_value o g a x cell there (world_before g new a added.grows w) lt e) in
      reference_sound o f h c v lies
      ∙ ap (λ (d : Domain). list_all (is_sound o f.numbers.items) (named_at None d v)) (sym is)
      ∙ ap (λ (m : Option ℕ). list_all (is_sound o f.numbers.items) (named_at m cell.domain v)) (sym none))
      added

-- a cell that names nothing
pub number_adds : (o : Outline) (ws : List ℕ) (g : Ground) (x : ℕ) (low high : ℤ) (cell : Cell) → cell.element ≡ None → cell.domain ≡ Span low high → Adds [] g g (λ a. list_all (is_sound o ws) (named_by cell (value_of a x)))
number_adds o ws g x low high cell none is =
    adds_same [] g g (λ a. true) (λ a. list_all (is_sound o ws) (named_by cell (value_of a x)))
    (λ a w kn.
    ap (λ (d : Domain). list_all (is_sound o ws) (named_at None d (value_of a x))) (sym is)
    ∙ ap (λ (m : Option ℕ). list_all (is_sound o ws) (named_at m cell.domain (value_of a x))) (sym none))
    (adds_nothing [] g)
