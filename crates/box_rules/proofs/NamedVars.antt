-- Each variable has a box where each of the list that names all has one, and in boxes of the same
-- length.
use Rattle.std.proofs.Common.{◌≡◌, ℕ, zero, suc, ◌<◌, List, [], ◌∷◌, All, length, arith, sym}
use Rattle.signed_clause.specs.Clauses.{Boxes, Literals}
use Rattle.ground_form.specs.declared.con.Con.{Con}
use Rattle.ground_form.specs.declared.con.Con.TheVariants.{LinLe, LinDef, ReifLe, AndDef, MemberDef, EqDef, ElementDef, CondDef, ClauseCon, AllDiff, Pack}
use Rattle.ground_form.specs.Meaning.{vars_of, term_vars, part_vars, item_vars}
use Rattle.ground_form.proofs.VarLists.{all_terms, all_parts, all_literals, all_tail}
use Rattle.box_view.specs.Views.{cut}
use Rattle.box_view.proofs.CutLaws.{cut_length}
use Rattle.box_rules.specs.Named.{AreItemsNamed, IsNamed}

all_items : (is : List (ℕ × ℕ × ℕ)) (boxes : Boxes) → All (λ x. x < length boxes) (item_vars is) → AreItemsNamed is boxes
all_items [] boxes h k d lt = absurd (omega arith)
all_items (i ∷ is) boxes h zero d lt = record { bin = h 0 0 (omega arith); size = h 1 0 (omega arith); room = h 2 0 (omega arith) }
all_items (i ∷ is) boxes h (suc k) d lt = all_items is boxes (λ j e less. h (suc (suc (suc j))) e (omega arith)) k d (omega arith)

pub named : (con : Con) (boxes : Boxes) → All (λ x. x < length boxes) (vars_of con) → IsNamed con boxes
named (LinLe terms bound) boxes h = all_terms terms (length boxes) h
named (LinDef out terms offset) boxes h = (h 0 0 (omega arith), all_terms terms (length boxes) (all_tail out (term_vars terms) (length boxes) h))
named (ReifLe flag terms bound) boxes h = (h 0 0 (omega arith), all_terms terms (length boxes) (all_tail flag (term_vars terms) (length boxes) h))
named (AndDef flag parts) boxes h = (h 0 0 (omega arith), all_parts parts (length boxes) (all_tail flag (part_vars parts) (length boxes) h))
named (MemberDef flag var set) boxes h = (h 0 0 (omega arith), h 1 0 (omega arith))
named (EqDef flag left right) boxes h = (h 0 0 (omega arith), h 1 0 (omega arith), h 2 0 (omega arith))
named (ElementDef out index items) boxes h =
    (h 0 0 (omega arith), h 1 0 (omega arith), all_terms items (length boxes) (all_tail index (term_vars items) (length boxes) (all_tail out (index ∷ term_vars items) (length boxes) h)))
named (CondDef out flag item) boxes h = (h 0 0 (omega arith), h 1 0 (omega arith), h 2 0 (omega arith))
named (ClauseCon clause) boxes h = all_literals clause (length boxes) h
named (AllDiff vars) boxes h = h
named (Pack items) boxes h = all_items items boxes h

-- boxes of one length name the same variables
pub named_length : (con : Con) (a b : Boxes) → length a ≡ length b → IsNamed con a → IsNamed con b
named_length (LinLe terms bound) a b e h = λ k d lt. let n = h k d lt in omega arith
named_length (LinDef out terms offset) a b e h = (omega arith, λ k d lt. let n = h.1 k d lt in omega arith)
named_length (ReifLe flag terms bound) a b e h = (omega arith, λ k d lt. let n = h.1 k d lt in omega arith)
named_length (AndDef flag parts) a b e h = (omega arith, λ k d lt. let n = h.1 k d lt in omega arith)
named_length (MemberDef flag var set) a b e h = (omega arith, omega arith)
named_length (EqDef flag left right) a b e h = (omega arith, omega arith, omega arith)
named_length (ElementDef out index items) a b e h = (omega arith, omega arith, λ k d lt. let n = h.2 k d lt in omega arith)
named_length (CondDef out flag item) a b e h = (omega arith, omega arith, omega arith)
named_length (ClauseCon clause) a b e h = λ k d lt. let n = h k d lt in omega arith
named_length (AllDiff vars) a b e h = λ k d lt. let n = h k d lt in omega arith
named_length (Pack items) a b e h = λ k d lt. let n = h k d lt in record { bin = let p = n.bin in omega arith; size = let p = n.size in omega arith; room = let p = n.room in omega arith }

pub cut_named : (con : Con) (ds : Boxes) (c : Literals) → All (λ x. x < length ds) (vars_of con) → IsNamed con (cut ds c)
cut_named con ds c h = named_length con ds (cut ds c) (sym (cut_length ds c)) (named con ds h)
