-- The ground problem of a repair, from that of the model.
use Rattle.std.proofs.Common.{◌≡◌, ℕ, Bool, true, false, ◌&&◌, List, [], ◌∷◌, ℤ, pos, Option, None, Some, IfSome, length, suc, ap, refl, sym, subst, ◌∙◌}
use Rattle.class_table.specs.Outline.{Outline}
use Rattle.conf_types.specs.Programs.{ResolvedConstraint, ResolvedGoal}
use Rattle.ground_cells.specs.CellBoxes.{cell_boxes, domain_box}
use Rattle.ground_model.specs.Objectives.{functions}
use Rattle.ground_form.specs.declared.ground.Ground.{Ground}
use Rattle.ground_form.specs.StandsFor.{StandsFor}
use Rattle.object_alloc.specs.Cells.{cells}
use Rattle.object_alloc.proofs.HintLaws.{hints_lie}
use Rattle.object_alloc.specs.Changes.{allowed, changes}
use Rattle.object_alloc.specs.Hints.{AreCellHints, AreHints}
use Rattle.object_alloc.specs.declared.object.Cell.{Cell}
use Rattle.reconfigure.specs.Failing.{objects_named}
use Rattle.reconfigure.specs.declared.repair.Repair.{Repair}
use Rattle.model_search.specs.Problems.{IsProblemOf}
use Rattle.model_search.specs.Wanted.{IsUnderstood}
use Rattle.model_search.proofs.Sizes.{length_map}

both : (a b : Bool) → (a && b) ≡ true → (a ≡ true) × (b ≡ true)
both true b e = (refl, e)
both false b e = absurd cc

each : (a b : Bool) → a ≡ true → b ≡ true → (a && b) ≡ true
each true b e f = f
each false b e f = absurd cc

-- what stands for the model stands, with the changes in front, for its repair
pub repaired : (o : Outline) (ks : List ResolvedConstraint) (gs : List ResolvedGoal) (r : Repair) (g new : Ground) → IsProblemOf o ks gs None g → ((test : List ℤ → Bool) (fs : List (Bool × (List ℤ → ℤ))) → StandsFor g (cell_boxes o) test fs → StandsFor new (cell_boxes o) (λ t. test t && allowed o (objects_named o r.failed.items) t) ((false, λ t. pos (changes o r.former t)) ∷ fs)) → IsProblemOf o ks gs (Some r) new
repaired o ks gs r g new p more =
    let sound : List ℤ → Bool = λ t. allowed o (objects_named o r.failed.items) t in
    record {
      test = λ t. p.test t && sound t;
      asks = λ t. (λ e. let h = both (p.test t) (sound t) e in ((p.asks t).0 h.0, h.1), λ w. each (p.test t) (sound t) ((p.asks t).1 w.0) w.1);
      stands = more p.test (functions o gs) p.stands;
    }

-- the same, of values and words that are the repair's
pub repaired_by : (o : Outline) (ks : List ResolvedConstraint) (gs : List ResolvedGoal) (r : Repair) (g new : Ground) (hs : List (Option ℤ)) (ws : List (List ℕ)) → hs ≡ r.former → ws ≡ r.failed.items → IsProblemOf o ks gs None g → ((test : List ℤ → Bool) (fs : List (Bool × (List ℤ → ℤ))) → StandsFor g (cell_boxes o) test fs → StandsFor new (cell_boxes o) (λ t. test t && allowed o (objects_named o ws) t) ((false, λ t. pos (changes o hs t)) ∷ fs)) → IsProblemOf o ks gs (Some r) new
repaired_by o ks gs r g new hs ws former failed p more =
    repaired o ks gs r g new p (λ test fs st.
    subst (λ (vs : List (List ℕ)). StandsFor new (cell_boxes o) (λ t. test t && allowed o (objects_named o vs) t) ((false, λ t. pos (changes o r.former t)) ∷ fs)) failed
    (subst (λ (ks : List (Option ℤ)). StandsFor new (cell_boxes o) (λ t. test t && allowed o (objects_named o ws) t) ((false, λ t. pos (changes o ks t)) ∷ fs)) former (more test fs st)))

-- ---- hints

one_each : (o : Outline) (cs : List Cell) (hs : List (Option ℤ)) → AreCellHints o cs hs →
    length hs ≡ length cs
one_each o [] [] h = refl
one_each o [] (k ∷ hs) h = absurd h
one_each o (c ∷ cs) [] h = absurd h
one_each o (c ∷ cs) (k ∷ hs) h = ap suc (one_each o cs hs h.1)

-- there is a hint, or none, for each searched variable
pub as_many_hints : (o : Outline) (ks : List ResolvedConstraint) (gs : List ResolvedGoal)
    (r : Option Repair) (g : Ground) (hs : List (Option ℤ)) → IsProblemOf o ks gs r g →
    AreHints o hs → length hs ≡ g.search
as_many_hints o ks gs r g hs p h =
    one_each o (cells o) hs (hints_lie o hs h)
    ∙ sym (p.stands.searched ∙ length_map (λ (c : Cell). domain_box o c.domain) (cells o))

pub as_many_former : (o : Outline) (ks : List ResolvedConstraint) (gs : List ResolvedGoal)
    (r : Option Repair) (g : Ground) → IsProblemOf o ks gs r g → IfSome r (IsUnderstood o) →
    IfSome r (λ x. length x.former ≡ g.search)
as_many_former o ks gs None g p u = tt
as_many_former o ks gs (Some r) g p u = as_many_hints o ks gs (Some r) g r.former p u.former
