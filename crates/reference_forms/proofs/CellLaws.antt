-- The one cell of an attribute, as a variable.
use Rattle.std.proofs.Common.{◌≡◌, ℕ, zero, suc, ◌<◌, List, [], ◌∷◌, ℤ, Option, None, Some, length, map, take, sym, ap, ◌∙◌, subst, arith}
use Rattle.std.specs.Prelude.{slice_get, slice_index_or}
use Rattle.std.proofs.lemmas.List.{length-map}
use Rattle.class_table.specs.declared.table.Resolved.{Resolved}
use Rattle.class_table.specs.declared.table.Variable.{Variable}
use Rattle.class_table.specs.Outline.{Outline, attributes}
use Rattle.class_table.specs.Sound.{IsSound}
use Rattle.class_table.specs.Tables.{IsShapeOf, HasShapes}
use Rattle.object_alloc.specs.declared.object.Cell.{Cell}
use Rattle.object_alloc.specs.declared.object.Domain.{Domain}
use Rattle.object_alloc.specs.Cells.{cells, domain_of}
use Rattle.object_alloc.specs.Groups.{own_cells}
use Rattle.object_alloc.specs.Variables.{class_in, variables}
use Rattle.object_alloc.specs.Walk.{objects}
use Rattle.object_alloc.proofs.OwnParts.{one_cell}
use Rattle.object_alloc.specs.Members.{first_value}
use Rattle.conf_eval.specs.Fitting.{HasShape}
use Rattle.conf_eval.specs.Meaning.{first_object}
use Rattle.signed_clause.specs.Clauses.{box_of}
use Rattle.ground_form.specs.declared.ground.Ground.{Ground}
use Rattle.ground_form.specs.Meaning.{value_of}
use Rattle.ground_cells.specs.CellBoxes.{domain_box}
use Rattle.expr_forms.specs.Standing.{HasCells}
use Rattle.expr_forms.proofs.Configured.{front_value, cell_box, cells_exist}
use Rattle.reference_forms.specs.Attributes.{IsCellOf}

pub get_low : {X : Type 0} (xs : List X) (i : ℕ) (x : X) → slice_get xs i ≡ Some x → i < length xs
get_low [] i x e = cc
get_low (y ∷ ys) zero x e = omega arith
get_low (y ∷ ys) (suc i) x e = let h = get_low ys i x e in omega (arith, h)

mapped_box : (o : Outline) (cs : List Cell) (i : ℕ) (c : Cell) → slice_get cs i ≡ Some c → box_of (map (λ (x : Cell). domain_box o x.domain) cs) i ≡ domain_box o c.domain
mapped_box o [] i c e = cc
mapped_box o (x ∷ xs) zero c e = ap (λ (y : Cell). domain_box o y.domain) (some_is e)
  where
    some_is : {a b : Cell} → Some a ≡ Some b → a ≡ b
    some_is g = cc
mapped_box o (x ∷ xs) (suc i) c e = mapped_box o xs i c e

-- a cell that is there is searched
pub cell_searched : (o : Outline) (g : Ground) (i : ℕ) → HasCells o g → i < length (cells o) → i < g.search
cell_searched o g i h lt =
    let e = length-map (cells o) (λ (c : Cell). domain_box o c.domain) in
    omega (arith, e, h.searched, lt)

pub cell_there : (o : Outline) (g : Ground) (i : ℕ) → HasCells o g → i < length (cells o) → i < length g.domains
cell_there o g i h lt = cells_exist o g i h (cell_searched o g i h lt)

pub cell_is : (o : Outline) (g : Ground) (owner : Option ℕ) (k : ℕ) (s : Resolved) (x : ℕ) (values : Domain) → IsSound o → HasShape o owner k s → HasCells o g → x ≡ first_object (own_cells o owner k) → domain_of o s ≡ Some values → IsCellOf o g owner k values x
cell_is o g owner k s x values sound h cs e d =
    let one = one_cell o sound owner k h.variable h.there h.is values (ap (domain_of o) h.shape ∙ d) in
    let same : x ≡ one.number = e ∙ ap first_object one.own in
    let low = get_low (cells o) one.number _ one.is in
    let found = cell_searched o g one.number cs low in
    subst (λ (z : ℕ). IsCellOf o g owner k values z) (sym same) (record {
      own = one.own;
      searched = found;
      exists = cells_exist o g one.number cs found;
      box = cell_box o g one.number cs found ∙ mapped_box o (cells o) one.number _ one.is;
    })

-- the attribute's value at the front of a world is the variable's
pub cell_value : (o : Outline) (g : Ground) (owner : Option ℕ) (k : ℕ) (values : Domain) (x : ℕ) (a : List ℤ) → IsCellOf o g owner k values x → first_value (take g.search a) (own_cells o owner k) ≡ value_of a x
cell_value o g owner k values x a c = ap (first_value (take g.search a)) c.own ∙ front_value g.search x a c.searched

item_is : (vs : List Variable) (k : ℕ) (v : Variable) → slice_get vs k ≡ Some v → slice_index_or vs k v ≡ v
item_is [] k v e = cc
item_is (u ∷ us) zero v e = cc
item_is (u ∷ us) (suc k) v e = item_is us k v e

-- a shape's numbers are those of classes and enumerations
pub shape_there : (o : Outline) (owner : Option ℕ) (k : ℕ) (s : Resolved) → IsSound o → HasShape o owner k s → IsShapeOf (length o.classes) (length o.enumerations) s
shape_there o owner k s sound h = by (class_in (objects o) owner) h.is
  where
    found : (vs : List Variable) → HasShapes o vs → slice_get vs k ≡ Some h.variable → IsShapeOf (length o.classes) (length o.enumerations) s
    found vs all e =
        let there = all k h.variable (get_low vs k h.variable e) in
        subst (IsShapeOf (length o.classes) (length o.enumerations)) (ap (λ (v : Variable). v.shape) (item_is vs k h.variable e) ∙ h.shape) there

    by : (class : Option ℕ) → slice_get (variables o class) k ≡ Some h.variable → IsShapeOf (length o.classes) (length o.enumerations) s
    by None e = found o.roots sound.closed.roots_have e
    by (Some c) e = found (attributes o.classes c) (sound.closed.attributes_have c) e
