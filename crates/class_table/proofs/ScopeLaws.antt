-- What is read of a class at its number.
use Rattle.std.proofs.Common.{◌≡◌, ℕ, zero, suc, ◌<◌, List, [], ◌∷◌, length, get_or, ap, sym, arith, Bor}
use Rattle.conf_syntax.specs.declared.tree.ClassDecl.{ClassDecl}
use Rattle.class_table.specs.declared.table.Class.{Class}
use Rattle.class_table.specs.Faults.{pointed}
use Rattle.class_table.specs.Names.{own}
use Rattle.class_table.specs.Outline.{parent_in}
use Rattle.class_table.specs.Scopes.{own_at}

pub parent_read : (cs : List Class) (c : ℕ) (k : Class) → c < length cs → k ≡ get_or cs c k → parent_in cs c ≡ k.parent
parent_read [] c k h e = absurd (omega (arith, h))
parent_read (x ∷ xs) zero k h e = ap (λ (y : Class). y.parent) (sym e)
parent_read (x ∷ xs) (suc c) k h e = parent_read xs c k (omega (arith, h)) e

-- A class's own attributes

pub own_read : (ds : List (Bor ClassDecl)) (c : ℕ) (d : Bor ClassDecl) → c < length ds → d ≡ get_or ds c d → own_at (pointed ds) c ≡ own d.now
own_read [] c d h e = absurd (omega (arith, h))
own_read (x ∷ xs) zero d h e = ap (λ (y : Bor ClassDecl). own y.now) (sym e)
own_read (x ∷ xs) (suc c) d h e = own_read xs c d (omega (arith, h)) e
