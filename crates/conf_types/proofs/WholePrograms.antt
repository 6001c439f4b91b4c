-- What a model states doesn't depend on pointers: trees that say the same have the same constraints, objectives and faults.
use Rattle.std.proofs.Common.{◌≡◌, ℕ, ◌+◌, Bool, List, [], ◌∷◌, ◌++◌, refl, sym, ◌∙◌, ap, Option, None, Some, map}
use Rattle.std.specs.List.{flat_map}
use Rattle.std.proofs.lemmas.List.{map-append}
use Rattle.class_table.specs.Outline.{Outline}
use Rattle.conf_syntax.specs.declared.tree.Expr.{Expr}
use Rattle.conf_syntax.specs.declared.tree.GoalDecl.{GoalDecl}
use Rattle.conf_syntax.specs.declared.tree.Item.{Item}
use Rattle.conf_syntax.specs.declared.tree.Item.TheVariants as item
use Rattle.conf_syntax.specs.declared.tree.Member.{Member}
use Rattle.conf_syntax.specs.declared.tree.Member.TheVariants as member
use Rattle.conf_syntax.specs.declared.tree.Program.{Program}
use Rattle.conf_syntax.specs.OneModel.{AreOneModel}
use Rattle.conf_syntax.proofs.WholeTrees.{Whole}
use Rattle.conf_syntax.proofs.WholeItems.{WholeItem, WholeMember, AVar, AWhere, AnEnum, AClass, Alone, AGoal, whole_expr, whole_member, whole_items, one_whole}
use Rattle.conf_types.specs.declared.types.Need.TheVariants as need
use Rattle.conf_types.specs.Programs.{Stated, stated, member_exprs, constraints_from, constraints, goals, outside, constraint_faults, goal_faults, faults, ResolvedConstraint, ResolvedGoal, resolved_constraint, resolved_goal}
use Rattle.conf_types.specs.Readings.{Reading, needed}
use Rattle.conf_types.proofs.WholeReadings.{whole_reading, reading_is}

-- What is stated, in trees without pointers

record WholeStated : Type 0 where
  class : Option ℕ
  expr : Whole

abbrev for_class : Option ℕ → Whole → WholeStated
for_class c e = record { class = c; expr = e }

abbrev whole_stated : Stated → WholeStated
whole_stated k = for_class k.class (whole_expr k.expr)

record WholeObjective : Type 0 where
  max : Bool
  expr : Whole

abbrev whole_goal : GoalDecl → WholeObjective
whole_goal g = record { max = g.max; expr = whole_expr g.expr }

abbrev member_wholes : WholeMember → List Whole
member_wholes (AVar v) = []
member_wholes (AWhere w) = w.list

abbrev item_stated : WholeItem → ℕ → List WholeStated
item_stated (AClass c) k = map (for_class (Some k)) (flat_map member_wholes c.members)
item_stated (Alone (AWhere w)) k = map (for_class None) w.list
item_stated (Alone (AVar v)) k = []
item_stated (AnEnum e) k = []
item_stated (AGoal g) k = []

abbrev next_number : WholeItem → ℕ → ℕ
next_number (AClass c) k = k + 1
next_number (Alone m) k = k
next_number (AnEnum e) k = k
next_number (AGoal g) k = k

abbrev stated_from : List WholeItem → ℕ → List WholeStated
stated_from [] k = []
stated_from (i ∷ is) k = item_stated i k ++ stated_from is (next_number i k)

abbrev item_objectives : WholeItem → List WholeObjective
item_objectives (AGoal g) = record { max = g.max; expr = g.expr } ∷ []
item_objectives (AClass c) = []
item_objectives (Alone m) = []
item_objectives (AnEnum e) = []

stated_are : (c : Option ℕ) (es : List Expr) → map whole_stated (map (stated c) es) ≡ map (for_class c) (map whole_expr es)
stated_are c [] = refl
stated_are c (e ∷ es) = ap (λ (ks : List WholeStated). for_class c (whole_expr e) ∷ ks) (stated_are c es)

members_are : (ms : List Member) → map whole_expr (flat_map member_exprs ms) ≡ flat_map member_wholes (map whole_member ms)
members_are [] = refl
members_are (member.Var v ∷ ms) = members_are ms
members_are (member.Where w ∷ ms) = map-append whole_expr w.list (flat_map member_exprs ms) ∙ ap (λ (es : List Whole). map whole_expr w.list ++ es) (members_are ms)

constraints_are : (xs : List Item) (c : ℕ) → map whole_stated (constraints_from xs c) ≡ stated_from (whole_items xs) c
constraints_are [] c = refl
constraints_are (item.Class d ∷ xs) c =
    map-append whole_stated (map (stated (Some c)) (flat_map member_exprs d.members)) (constraints_from xs (c + 1))
    ∙ (λ t. (stated_are (Some c) (flat_map member_exprs d.members) ∙ ap (map (for_class (Some c))) (members_are d.members)) t ++ constraints_are xs (c + 1) t)
constraints_are (item.Where w ∷ xs) c = map-append whole_stated (map (stated None) w.list) (constraints_from xs c) ∙ (λ t. stated_are None w.list t ++ constraints_are xs c t)
constraints_are (item.Enum d ∷ xs) c = constraints_are xs c
constraints_are (item.Var v ∷ xs) c = constraints_are xs c
constraints_are (item.Goal g ∷ xs) c = constraints_are xs c

goals_are : (xs : List Item) → map whole_goal (goals xs) ≡ flat_map item_objectives (whole_items xs)
goals_are [] = refl
goals_are (item.Class d ∷ xs) = goals_are xs
goals_are (item.Where w ∷ xs) = goals_are xs
goals_are (item.Enum d ∷ xs) = goals_are xs
goals_are (item.Var v ∷ xs) = goals_are xs
goals_are (item.Goal g ∷ xs) = ap (λ (gs : List WholeObjective). whole_goal g ∷ gs) (goals_are xs)

-- What is read of them

abbrev reading_at : Outline → WholeStated → Reading
reading_at o k = whole_reading o k.expr (outside k.class)

abbrev objective_at : Outline → WholeObjective → Reading
objective_at o g = whole_reading o g.expr (outside None)

abbrev constraint_of : Outline → WholeStated → ResolvedConstraint
constraint_of o k = record { class = k.class; place = (reading_at o k).first; tree = (reading_at o k).tree }

abbrev goal_of : Outline → WholeObjective → ResolvedGoal
goal_of o g = record { max = g.max; tree = (objective_at o g).tree }

constraints_read : (o : Outline) (ks : List Stated) → map (constraint_of o) (map whole_stated ks) ≡ map (resolved_constraint o) ks
constraints_read o [] = refl
constraints_read o (k ∷ ks) = λ t. record { class = k.class; place = (reading_is o k.expr.node k.expr.at (outside k.class) t).first; tree = (reading_is o k.expr.node k.expr.at (outside k.class) t).tree } ∷ constraints_read o ks t

goals_read : (o : Outline) (gs : List GoalDecl) → map (goal_of o) (map whole_goal gs) ≡ map (resolved_goal o) gs
goals_read o [] = refl
goals_read o (g ∷ gs) = λ t. record { max = g.max; tree = (reading_is o g.expr.node g.expr.at (outside None) t).tree } ∷ goals_read o gs t

constraint_faults_read : (o : Outline) (ks : List Stated) → flat_map (λ (k : WholeStated). needed need.Truth (reading_at o k)) (map whole_stated ks) ≡ flat_map (constraint_faults o) ks
constraint_faults_read o [] = refl
constraint_faults_read o (k ∷ ks) = λ t. needed need.Truth (reading_is o k.expr.node k.expr.at (outside k.class) t) ++ constraint_faults_read o ks t

goal_faults_read : (o : Outline) (gs : List GoalDecl) → flat_map (λ (g : WholeObjective). needed need.Int (objective_at o g)) (map whole_goal gs) ≡ flat_map (goal_faults o) gs
goal_faults_read o [] = refl
goal_faults_read o (g ∷ gs) = λ t. needed need.Int (reading_is o g.expr.node g.expr.at (outside None) t) ++ goal_faults_read o gs t

-- Trees that say the same

same_stated : (xs ys : List Item) → whole_items xs ≡ whole_items ys → map whole_stated (constraints xs) ≡ map whole_stated (constraints ys)
same_stated xs ys e = constraints_are xs 0 ∙ ap (λ (ws : List WholeItem). stated_from ws 0) e ∙ sym (constraints_are ys 0)

same_objectives : (xs ys : List Item) → whole_items xs ≡ whole_items ys → map whole_goal (goals xs) ≡ map whole_goal (goals ys)
same_objectives xs ys e = goals_are xs ∙ ap (flat_map item_objectives) e ∙ sym (goals_are ys)

pub same_constraints : (o : Outline) (xs ys : List Item) → whole_items xs ≡ whole_items ys → map (resolved_constraint o) (constraints xs) ≡ map (resolved_constraint o) (constraints ys)
same_constraints o xs ys e = sym (constraints_read o (constraints xs)) ∙ ap (map (constraint_of o)) (same_stated xs ys e) ∙ constraints_read o (constraints ys)

pub same_goals : (o : Outline) (xs ys : List Item) → whole_items xs ≡ whole_items ys → map (resolved_goal o) (goals xs) ≡ map (resolved_goal o) (goals ys)
same_goals o xs ys e = sym (goals_read o (goals xs)) ∙ ap (map (goal_of o)) (same_objectives xs ys e) ∙ goals_read o (goals ys)

pub same_type_faults : (o : Outline) (xs ys : List Item) → whole_items xs ≡ whole_items ys → faults o xs ≡ faults o ys
same_type_faults o xs ys e =
    let ks = sym (constraint_faults_read o (constraints xs)) ∙ ap (flat_map (λ (k : WholeStated). needed need.Truth (reading_at o k))) (same_stated xs ys e) ∙ constraint_faults_read o (constraints ys) in
    let gs = sym (goal_faults_read o (goals xs)) ∙ ap (flat_map (λ (g : WholeObjective). needed need.Int (objective_at o g))) (same_objectives xs ys e) ∙ goal_faults_read o (goals ys) in
    λ t. ks t ++ gs t

-- Trees that are one model

pub one_constraints : (p q : Program) → AreOneModel p q → (o : Outline) → map (resolved_constraint o) (constraints p.items) ≡ map (resolved_constraint o) (constraints q.items)
one_constraints p q h o = same_constraints o p.items q.items (one_whole p q h)

pub one_goals : (p q : Program) → AreOneModel p q → (o : Outline) → map (resolved_goal o) (goals p.items) ≡ map (resolved_goal o) (goals q.items)
one_goals p q h o = same_goals o p.items q.items (one_whole p q h)

pub one_type_faults : (p q : Program) → AreOneModel p q → (o : Outline) → faults o p.items ≡ faults o q.items
one_type_faults p q h o = same_type_faults o p.items q.items (one_whole p q h)
