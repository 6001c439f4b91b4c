-- The boxes of a search, and what goes with them. What a reader believes after this file: queue and
-- watches are those of the problem, and what they know is true in the present boxes; and each level
-- below stands at a fixpoint of the constraints.
use Rattle.std.specs.Prelude.{◌≡◌, List, [], ◌∷◌, length}
use Rattle.signed_clause.specs.Clauses.{Boxes, AreValid}
use Rattle.ground_form.specs.declared.ground.Ground.{Ground}
use Rattle.fd_store.specs.Levels.{Level, Stack}
use Rattle.fd_store.specs.Undo.{AreWider}
use Rattle.prop_queue.specs.Work as queue
use Rattle.prop_queue.specs.Work.{Work, IsOver, AreAllQuiet}
use Rattle.clause_watches.specs.Watching as watches
use Rattle.clause_watches.specs.Watching.{Watching}

-- levels, queue and watches belong together
pub record IsBoard (g : Ground) (levels : Stack) (work : Work) (watching : Watching) : Type 0 where
  pub size : length levels.top.now ≡ length g.domains
  pub valid : AreValid levels.top.now
  pub over : IsOver g work
  pub listed : queue.Fits g work levels.top.now
  pub variables : watching.variables ≡ length g.domains
  pub paired : length watching.rests ≡ length watching.added
  pub watched : watches.Fits levels.top.now watching

-- as many boxes, each of which holds the other's values, and in which every constraint is quiet
pub record IsBelow (g : Ground) (boxes lower : Boxes) : Type 0 where
  pub size : length lower ≡ length boxes
  pub wider : AreWider boxes lower
  pub is_quiet : AreAllQuiet g lower

-- the present boxes of each level are so below those of the one above
abbrev pub AreLower : Ground → Boxes → List Level → Type 0
AreLower g boxes [] = Unit {0}
AreLower g boxes (l ∷ ls) = IsBelow g boxes l.now × AreLower g l.now ls
