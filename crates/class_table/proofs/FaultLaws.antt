-- Faults that are handed on.
use Rattle.std.proofs.Common.{◌≡◌, ℕ, zero, suc, ◌<◌, List, [], ◌∷◌, length, get_or, subst, arith}
use Rattle.std.specs.Prelude.{Contains}
use Rattle.std.specs.List.{flat_map}
use Rattle.std.proofs.lemmas.List.Elements.{Contains-append_left, Contains-append_right}
use Rattle.class_table.specs.declared.fault.TableFault.{TableFault}
use Rattle.class_table.specs.declared.fault.TableFault.TheVariants.{Duplicate, Unknown, NotAClass, InheritCycle, ContainCycle, AbstractObject, EmptyRange, Memory}
use Rattle.class_table.specs.Faults.{OnFault}

-- what follows from what holds of a fault holds of it
pub on_fault : (f : TableFault) (P Q : TableFault → Type 0) → ((g : TableFault) → P g → Q g) → OnFault f P → OnFault f Q
on_fault (Duplicate at) P Q go h = go (Duplicate at) h
on_fault (Unknown at) P Q go h = go (Unknown at) h
on_fault (NotAClass at) P Q go h = go (NotAClass at) h
on_fault (InheritCycle at) P Q go h = go (InheritCycle at) h
on_fault (ContainCycle at) P Q go h = go (ContainCycle at) h
on_fault (AbstractObject at) P Q go h = go (AbstractObject at) h
on_fault (EmptyRange at) P Q go h = go (EmptyRange at) h
on_fault Memory P Q go h = tt

-- what is in the list of an item is in the lists of all
pub contains_item : {X Y : Type 0} (f : X → List Y) (xs : List X) (i : ℕ) (x : X) (y : Y) → i < length xs → x ≡ get_or xs i x → Contains (f x) y → Contains (flat_map f xs) y
contains_item f [] i x y h e c = absurd (omega (arith, h))
contains_item f (z ∷ zs) zero x y h e c = Contains-append_left (f z) (flat_map f zs) y (subst (λ k. Contains (f k) y) e c)
contains_item f (z ∷ zs) (suc i) x y h e c = Contains-append_right (f z) (flat_map f zs) y (contains_item f zs i x y (omega (arith, h)) e c)

pub fault_of_item : {X : Type 0} (f : X → List TableFault) (xs : List X) (i : ℕ) (x : X) (fault : TableFault) → i < length xs → x ≡ get_or xs i x → OnFault fault (λ g. Contains (f x) g) → OnFault fault (λ g. Contains (flat_map f xs) g)
fault_of_item f xs i x fault h e c = on_fault fault (λ g. Contains (f x) g) (λ g. Contains (flat_map f xs) g) (λ g d. contains_item f xs i x g h e d) c
