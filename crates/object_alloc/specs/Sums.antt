-- Objects by their classes and depths alone, for counting.
use Rattle.std.specs.Prelude.{ℕ, zero, suc, ◌+◌, ◌<◌, ◌≤◌, nat_lt, cond, List, ◌∷◌, length, replicate, []}
use Rattle.std.specs.List.{flat_map, sum_by}
use Rattle.model_limits.specs.Limits.{most_names, most_objects}
use Rattle.class_table.specs.declared.table.Resolved.{Resolved}
use Rattle.class_table.specs.declared.table.Resolved.TheVariants.{Span, Truth, Choice, One, Many, Ref, RefSet}
use Rattle.class_table.specs.declared.table.Variable.{Variable}
use Rattle.class_table.specs.Outline.{Outline, attributes, is_a}
use Rattle.object_alloc.specs.declared.fault.AllocFault.{AllocFault}
use Rattle.object_alloc.specs.declared.fault.AllocFault.TheVariants.{TooManyObjects, TooDeep, TooManyCells, Memory}
use Rattle.object_alloc.specs.declared.object.Object.{Object}
use Rattle.object_alloc.specs.declared.queue.Kind.{Kind}

-- a number for each class and depth
abbrev pub Weigh : Type 0
Weigh = ℕ → ℕ → ℕ

abbrev pub of_object : Weigh → Object → ℕ
of_object g x = g x.class x.depth

abbrev pub of_kind : Weigh → Kind → ℕ
of_kind g k = g k.class k.depth

abbrev pub kind : ℕ → ℕ → Kind
kind c d = record { class = c; depth = d }

-- the objects that a variable of this shape holds, at this depth
abbrev pub held_kinds : ℕ → Resolved → List Kind
held_kinds d (One c) = replicate 1 (kind c d)
held_kinds d (Many c m) = replicate m (kind c d)
held_kinds d (Span low high) = []
held_kinds d Truth = []
held_kinds d (Choice e) = []
held_kinds d (Ref c) = []
held_kinds d (RefSet c m) = []

-- the objects that these variables hold
abbrev pub kinds_of : ℕ → List Variable → List Kind
kinds_of d vs = flat_map (λ (v : Variable). held_kinds d v.shape) vs

-- so many objects are too many
abbrev pub IsExcess : ℕ → AllocFault → Type 0
IsExcess n TooManyObjects = most_objects < n
IsExcess n TooDeep = ⊥
IsExcess n TooManyCells = ⊥
IsExcess n Memory = Unit {0}

-- each kind's class is one of so many, and its depth is at most its place's number
abbrev pub IsLawful : ℕ → ℕ → List Kind → Type 0
IsLawful classes n [] = Unit {0}
IsLawful classes n (k ∷ ks) = (k.class < classes) × (k.depth ≤ n) × IsLawful classes (suc n) ks

abbrev pub kinds_weight : (ℕ → ℕ → ℕ) → List Kind → ℕ
kinds_weight v ks = sum_by (λ (k : Kind). v k.depth k.class) ks

-- the sum over an object of class c at depth d and all that is in it, at most so many further
-- levels
abbrev pub weight_to : Outline → Weigh → ℕ → ℕ → ℕ → ℕ
weight_to o g zero d c = g c d
weight_to o g (suc l) d c =
    g c d + kinds_weight (weight_to o g l) (kinds_of (d + 1) (attributes o.classes c))

-- the sum over an object of class c at depth d and all that is in it
abbrev pub weight : Outline → Weigh → ℕ → ℕ → ℕ
weight o g = weight_to o g (length o.classes)

-- an object that stands too deep counts 1
abbrev pub deep : Weigh
deep c d = cond (nat_lt most_names d) 1 0

-- an object of class c, or of one that derives from it, counts 1
abbrev pub kin : Outline → ℕ → Weigh
kin o c = λ k d. cond (is_a o.classes k c) 1 0
