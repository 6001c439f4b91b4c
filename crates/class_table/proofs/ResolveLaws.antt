-- Declarations behind references.
use Rattle.std.proofs.Common.{◌≡◌, ℕ, zero, suc, ◌<◌, List, [], ◌∷◌, length, get_or, ap, sym, arith, Bor}
use Rattle.conf_syntax.specs.declared.tree.ClassDecl.{ClassDecl}
use Rattle.class_table.specs.Faults.{is_abstract, pointed}

pub abstract_at : (decls : List (Bor ClassDecl)) (c : ℕ) (d : Bor ClassDecl) → c < length decls → d ≡ get_or decls c d → is_abstract (pointed decls) c ≡ d.now.is_abstract
abstract_at [] c d h e = absurd (omega (arith, h))
abstract_at (x ∷ xs) zero d h e = ap (λ (y : Bor ClassDecl). y.now.is_abstract) (sym e)
abstract_at (x ∷ xs) (suc c) d h e = abstract_at xs c d (omega (arith, h)) e
