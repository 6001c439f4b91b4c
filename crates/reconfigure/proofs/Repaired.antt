-- From what was added to a problem to what the problem of a repair stands for.
use Rattle.std.proofs.Common.{◌≡◌, ℕ, suc, ◌+◌, ◌<◌, Bool, true, false, true≢false, ◌&&◌, ◌||◌, List, [], ◌∷◌, ◌++◌, ℤ, All, arith, length, append-nil, take, drop, get_or, pos, ◌+ℤ◌, Option, zero, refl, sym, ap, ◌∙◌, subst}
use Rattle.std.specs.List.{list_any}
use Rattle.std.proofs.lemmas.Bool.{and_parts}
use Rattle.std.proofs.lemmas.List.{take-append-le}
use Rattle.std.proofs.lemmas.List.Elements.{All-nil, All-cons, All-head, All-tail}
use Rattle.signed_clause.specs.Ranges.{Ranges, has, is_nil}
use Rattle.signed_clause.specs.Clauses.{Boxes, box_of}
use Rattle.ground_form.specs.declared.con.Con.{Con}
use Rattle.ground_form.specs.declared.ground.Ground.{Ground}
use Rattle.ground_form.specs.declared.ground.GroundGoal.{GroundGoal}
use Rattle.ground_form.specs.Meaning.{value_of, sum_at, con_true}
use Rattle.ground_form.specs.StandsFor.{IsExtension, AreGoalValues, StandsFor}
use Rattle.ground_form.specs.WellMade.{IsWellMade}
use Rattle.ground_build.specs.Growing.{with_goals, IsOnlyExtension}
use Rattle.ground_build.proofs.Appended.{con_kept, value_kept}
use Rattle.form_build.specs.Worlds.{IsWorld, AreKnown, AllHold, AreSome, Grows, Adds, Defines, IsFew}
use Rattle.form_build.proofs.Final.{world_of}
use Rattle.form_build.proofs.Growth.{adds_more, grows_more, no_less, world_before}
use Rattle.class_table.specs.Outline.{Outline}
use Rattle.object_alloc.specs.Changes.{allowed, changes}
use Rattle.ground_cells.specs.CellBoxes.{cell_boxes}
use Rattle.reconfigure.specs.CellsFirst.{HasCells}
use Rattle.reconfigure.specs.Counting.{count_at}
use Rattle.reconfigure.specs.declared.count.Count.{Count}
use Rattle.reconfigure.specs.Repairing.{least, Extends, IsCounted}

no_known : (a : List ℤ) → AreKnown [] a
no_known a k d lt = absurd (omega (arith, lt))

-- ---- goals play no part in extensions

undressed : (g : Ground) (goals : List GroundGoal) (t a : List ℤ) → IsExtension (with_goals g goals) t a → IsExtension g t a
undressed g goals t a e = record { front = e.front; point = e.point; definitions = e.definitions }

dressed : (g : Ground) (goals : List GroundGoal) (t a : List ℤ) → IsExtension g t a → IsExtension (with_goals g goals) t a
dressed g goals t a e = record { front = e.front; point = e.point; definitions = e.definitions }

-- ---- more values behind change nothing of what stood

named_low : (g : Ground) (a : List ℤ) → IsWellMade g → length a ≡ length g.domains → (k : ℕ) (d : Con) → k < length g.cons → (b : List ℤ) → con_true (get_or g.cons k d) (a ++ b) ≡ con_true (get_or g.cons k d) a
named_low g a w s k d lt b = con_kept (get_or g.cons k d) a b (λ j e less. let named = (w.constraints k d lt).named j e less in omega (arith, named, s))

hold_more : (g : Ground) (a b : List ℤ) → IsWellMade g → length a ≡ length g.domains → AllHold g a → AllHold g (a ++ b)
hold_more g a b w s h k d lt = named_low g a w s k d lt b ∙ h k d lt

hold_less : (g : Ground) (a b : List ℤ) → IsWellMade g → length a ≡ length g.domains → AllHold g (a ++ b) → AllHold g a
hold_less g a b w s h k d lt = sym (named_low g a w s k d lt b) ∙ h k d lt

goals_more : (goals : List GroundGoal) (functions : List (Bool × (List ℤ → ℤ))) (t a b : List ℤ) → All (λ (goal : GroundGoal). goal.var < length a) goals → AreGoalValues goals functions t a → AreGoalValues goals functions t (a ++ b)
goals_more [] [] t a b low h = tt
goals_more [] (f ∷ fs) t a b low h = absurd h
goals_more (goal ∷ goals) [] t a b low h = absurd h
goals_more (goal ∷ goals) (f ∷ fs) t a b low h =
    (h.0, value_kept a b goal.var (All-head (λ (x : GroundGoal). x.var < length a) goal goals low) ∙ h.1, goals_more goals fs t a b (All-tail (λ (x : GroundGoal). x.var < length a) goal goals low) h.2)

and_both : (p q : Bool) → p ≡ true → q ≡ true → (p && q) ≡ true
and_both true q e f = f
and_both false q e f = absurd (true≢false (sym e))

-- what the old problem stands for, and what was added
pub repair_stands : (g final : Ground) (x : ℕ) (cells : Boxes) (test says passes : List ℤ → Bool) (functions : List (Bool × (List ℤ → ℤ))) (count : List ℤ → ℤ) →
    Adds [] (with_goals g []) final says →
    IsWellMade (with_goals final (least x ∷ g.goals)) →
    ((a : List ℤ) → IsWorld final a → says a ≡ passes (take final.search a)) →
    ((a : List ℤ) → IsWorld final a → value_of a x ≡ count (take final.search a)) →
    StandsFor g cells test functions →
    StandsFor (with_goals final (least x ∷ g.goals)) cells (λ t. test t && passes t) ((false, count) ∷ functions)
repair_stands g final x cells test says passes functions count added made means value st =
    let goals = least x ∷ g.goals in
    let searched : final.search ≡ g.search = added.grows.search in
    let w : IsWellMade g = st.well_made in
    record {
      well_made = made;
      cells_first =
          ap (λ (z : Boxes). take final.search z) added.grows.domains
          ∙ ap (λ (n : ℕ). take n (g.domains ++ added.grows.more)) searched
          ∙ take-append-le g.search g.domains added.grows.more w.search
          ∙ st.cells_first;
      searched = searched ∙ st.searched;
      goal_count = ap suc st.goal_count;
      faithful = λ t p.
          let f = st.faithful t p in
          let a0 = f.extension.0 in
          let e0 : IsExtension g t a0 = f.extension.1 in
          let size : length a0 ≡ length g.domains = e0.point.size in
          let only : IsOnlyExtension (with_goals g []) t a0 =
          record { extension = dressed g [] t a0 e0; alone = λ b y. f.alone b a0 (undressed g [] t b y) e0 } in
          let k = added.grows.keeps t a0 only in
          let whole : List ℤ = a0 ++ k.0 in
          let is : (a : List ℤ) → IsExtension (with_goals final goals) t a → a ≡ whole = λ a y. k.1.alone a (undressed final goals t a y) in
          record {
            extension = (whole, dressed final goals t whole k.1.extension);
            alone = λ a b y z. is a y ∙ sym (is b z);
            truths = λ a y.
                let e = undressed final goals t a y in
                let v = world_of final t a made.search e in
                let h = added.holds a v (no_known a) in
                let same : says a ≡ passes t = means a v ∙ ap passes e.front in
                let old = f.truths a0 e0 in
                let less : AllHold (with_goals g []) a → AllHold g a0 = λ all. hold_less g a0 k.0 w size (subst (AllHold g) (is a y) all) in
                let more : AllHold g a0 → AllHold (with_goals g []) a = λ all. subst (AllHold g) (sym (is a y)) (hold_more g a0 k.0 w size all) in (
                  (λ all. let z = h.0 all in and_both (test t) (passes t) (old.0 (less z.0)) (sym same ∙ z.1)),
                  (λ both. let z = and_parts (test t) (passes t) both in h.1 (more (old.1 z.0), same ∙ z.1)),
                );
            goals = λ a y.
                let e = undressed final goals t a y in
                let v = world_of final t a made.search e in
                let low : All (λ (goal : GroundGoal). goal.var < length a0) g.goals = subst (λ (n : ℕ). All (λ (goal : GroundGoal). goal.var < n) g.goals) (sym size) w.goals in
                let rest = goals_more g.goals functions t a0 k.0 low (f.goals a0 e0) in
                (refl, value a v ∙ ap count e.front, subst (λ (z : List ℤ). AreGoalValues g.goals functions t z) (sym (is a y)) rest);
          };
    }

-- ---- problems of which some box is empty

no_point : (boxes : Boxes) (f : ℕ → ℤ) → list_any is_nil boxes ≡ true → ((x : ℕ) → x < length boxes → has (box_of boxes x) (f x) ≡ true) → ⊥
no_point [] f e h = true≢false (sym e)
no_point ([] ∷ bs) f e h = true≢false (sym (h 0 (omega arith)))
no_point ((r ∷ rs) ∷ bs) f e h = no_point bs (λ x. f (suc x)) e (λ x lt. h (suc x) (omega (arith, lt)))

some_box : (boxes : Boxes) → list_any is_nil boxes ≡ true → 0 < length boxes
some_box [] e = absurd (true≢false (sym e))
some_box (b ∷ bs) e = omega arith

either : (p q : Bool) → (p || q) ≡ false → (p ≡ false) × (q ≡ false)
either true q e = absurd (true≢false e)
either false q e = (refl, e)

pub all_some : (boxes : Boxes) → list_any is_nil boxes ≡ false → AreSome boxes
all_some [] e = All-nil (λ (d : Ranges). is_nil d ≡ false)
all_some (b ∷ bs) e = let h = either (is_nil b) (list_any is_nil bs) e in All-cons (λ (d : Ranges). is_nil d ≡ false) b bs h.0 (all_some bs h.1)

-- the goals' variables exist
pub goals_low : (g : Ground) (x : ℕ) (goals : List GroundGoal) → IsWellMade g → x < length g.domains → goals ≡ least x ∷ g.goals → All (λ (goal : GroundGoal). goal.var < length g.domains) goals
goals_low g x goals w lt e = subst (λ (z : List GroundGoal). All (λ (goal : GroundGoal). goal.var < length g.domains) z) (sym e) (All-cons (λ (goal : GroundGoal). goal.var < length g.domains) (least x) g.goals lt w.goals)

pub idle_low : (g : Ground) (goals : List GroundGoal) → IsWellMade g → list_any is_nil g.domains ≡ true → goals ≡ least 0 ∷ g.goals → All (λ (goal : GroundGoal). goal.var < length g.domains) goals
idle_low g goals w e is = goals_low g 0 goals w (some_box g.domains e) is

-- no configuration has an extension, so there is none, and the problem stands for whatever is asked
pub idle_stands : (g new : Ground) (cells : Boxes) (test passes : List ℤ → Bool) (functions : List (Bool × (List ℤ → ℤ))) (count : List ℤ → ℤ) → list_any is_nil g.domains ≡ true → new ≡ with_goals g (least 0 ∷ g.goals) → IsWellMade new → StandsFor g cells test functions → StandsFor new cells passes ((false, count) ∷ functions)
idle_stands g new cells test passes functions count e is made st = record {
  well_made = made;
  cells_first = ap (λ (z : Ground). take z.search z.domains) is ∙ st.cells_first;
  searched = ap (λ (z : Ground). z.search) is ∙ st.searched;
  goal_count = ap (λ (z : Ground). length z.goals) is ∙ ap suc st.goal_count;
  faithful = λ t p. let x = (st.faithful t p).extension in absurd (no_point g.domains (value_of x.0) e x.1.point.within);
}

pub idle_extends : (g new : Ground) → new ≡ with_goals g (least 0 ∷ g.goals) → Extends g new
idle_extends g new is = record {
  search = ap (λ (z : Ground). z.search) is;
  more = [];
  domains = ap (λ (z : Ground). z.domains) is ∙ sym (append-nil g.domains);
  added = [];
  cons = ap (λ (z : Ground). z.cons) is ∙ sym (append-nil g.cons);
  changes = 0;
  goals = ap (λ (z : Ground). z.goals) is;
}

-- the new problem of an idle one
pub idle_is : (g b new : Ground) (goals : List GroundGoal) → b ≡ with_goals g [] → goals ≡ least 0 ∷ g.goals → new ≡ with_goals b goals → new ≡ with_goals g (least 0 ∷ g.goals)
idle_is g b new goals e is n = n ∙ ap (λ (z : Ground). with_goals z goals) e ∙ ap (λ (gs : List GroundGoal). with_goals g gs) is

-- ---- the count as a variable

pub counted_is : (old made new : Ground) (c : Count) (goals gs : List GroundGoal) (x : ℕ) (ts : List (ℤ × ℕ)) (offset : ℤ) → ts ≡ c.terms.items → offset ≡ c.offset → Defines old made → IsFew (length ts + 1) old made → x < length made.domains → ((a : List ℤ) → IsWorld made a → value_of a x ≡ (sum_at ts a +ℤ offset)) → gs ≡ least x ∷ goals → new ≡ with_goals made gs → IsWellMade new → IsCounted old c goals new
counted_is old made new c goals gs x ts offset e o adds few lt value is n well = record {
  variable = x;
  made = made;
  adds = adds;
  few = subst (λ (us : List (ℤ × ℕ)). IsFew (length us + 1) old made) e few;
  exists = lt;
  value = λ a w. value a w ∙ ap (λ (us : List (ℤ × ℕ)). sum_at us a +ℤ offset) e ∙ ap (λ (z : ℤ). sum_at c.terms.items a +ℤ z) o;
  is = n ∙ ap (λ (z : List GroundGoal). with_goals made z) is;
  well_made = well;
}

-- the goals' variables still exist, and that of the count does
pub counted_low : (old made : Ground) (goals gs : List GroundGoal) (x : ℕ) → Grows old made → x < length made.domains → All (λ (goal : GroundGoal). goal.var < length old.domains) goals → gs ≡ least x ∷ goals → All (λ (goal : GroundGoal). goal.var < length made.domains) gs
counted_low old made goals gs x g lt all is =
    let more = no_less old made g in
    subst (λ (z : List GroundGoal). All (λ (goal : GroundGoal). goal.var < length made.domains) z) (sym is)
    (All-cons (λ (goal : GroundGoal). goal.var < length made.domains) (least x) goals lt (λ k d less. let low = all k d less in omega (arith, low, more)))

-- ---- the whole

split : (n : ℕ) (xs : Boxes) → xs ≡ take n xs ++ drop n xs
split zero xs = refl
split (suc n) [] = refl
split (suc n) (x ∷ xs) = ap (λ (ys : Boxes). x ∷ ys) (split n xs)

pub first_cells : (o : Outline) (g b : Ground) → g.search ≡ length (cell_boxes o) → take g.search g.domains ≡ cell_boxes o → b ≡ with_goals g [] → HasCells o b
first_cells o g b searched cells e = subst (HasCells o) (sym e) (record {
  searched = searched;
  rest = drop g.search g.domains;
  domains = split g.search g.domains ∙ ap (λ (z : Boxes). z ++ drop g.search g.domains) cells;
})

pub goals_still : (g start last : Ground) (goals : List GroundGoal) → IsWellMade g → start ≡ with_goals g [] → Grows start last → goals ≡ g.goals → All (λ (goal : GroundGoal). goal.var < length last.domains) goals
goals_still g start last goals w e grows is =
    let size = ap (λ (z : Ground). length z.domains) e in
    let more = no_less start last grows in
    subst (λ (z : List GroundGoal). All (λ (goal : GroundGoal). goal.var < length last.domains) z) (sym is)
    (λ k d lt. let low = w.goals k d lt in omega (arith, low, size, more))

and_twice : (b : Bool) → ((b && true) && true) ≡ b
and_twice true = refl
and_twice false = refl

module _ (o : Outline) (ws : List ℕ) (former : List (Option ℤ)) (g start mid last new : Ground) (goals : List GroundGoal) (c : Count) where
  grown : Defines mid last → Adds [] start mid (λ a. allowed o ws (take start.search a)) → goals ≡ g.goals → (k : IsCounted last c goals new) → Grows start k.made
  grown d says is k =
      grows_more start mid k.made says.grows
      (grows_more mid last k.made d.grows k.adds.grows)

  pub whole_extends : start ≡ with_goals g [] → Adds [] start mid (λ a. allowed o ws (take start.search a)) → Defines mid last → goals ≡ g.goals → IsCounted last c goals new → Extends g new
  whole_extends e says d is k =
      let grows = grown d says is k in record {
        search = ap (λ (z : Ground). z.search) k.is ∙ grows.search ∙ ap (λ (z : Ground). z.search) e;
        more = grows.more;
        domains = ap (λ (z : Ground). z.domains) k.is ∙ grows.domains ∙ ap (λ (z : Ground). z.domains ++ grows.more) e;
        added = grows.added;
        cons = ap (λ (z : Ground). z.cons) k.is ∙ grows.cons ∙ ap (λ (z : Ground). z.cons ++ grows.added) e;
        changes = k.variable;
        goals = ap (λ (z : Ground). z.goals) k.is ∙ ap (λ (gs : List GroundGoal). least k.variable ∷ gs) is;
      }

  pub whole_stands : start ≡ with_goals g [] → Adds [] start mid (λ a. allowed o ws (take start.search a)) → Defines mid last →
      ((a : List ℤ) → IsWorld last a → count_at c a ≡ pos (changes o former (take last.search a))) →
      goals ≡ g.goals → IsCounted last c goals new →
      (test : List ℤ → Bool) (functions : List (Bool × (List ℤ → ℤ))) → StandsFor g (cell_boxes o) test functions →
      StandsFor new (cell_boxes o) (λ t. test t && allowed o ws t) ((false, λ t. pos (changes o former t)) ∷ functions)
  whole_stands e asked d value is k test functions st =
      let says : List ℤ → Bool = λ a. (allowed o ws (take start.search a) && true) && true in
      let defines : Defines last k.made = k.adds in
      let added : Adds [] start k.made says =
      adds_more [] start last k.made (λ a. allowed o ws (take start.search a) && true) (λ a. true)
      (adds_more [] start mid last (λ a. allowed o ws (take start.search a)) (λ a. true) asked d) defines in
      let becomes : new ≡ with_goals k.made (least k.variable ∷ g.goals) = k.is ∙ ap (λ (gs : List GroundGoal). with_goals k.made (least k.variable ∷ gs)) is in
      subst (λ (z : Ground). StandsFor z (cell_boxes o) (λ t. test t && allowed o ws t) ((false, λ t. pos (changes o former t)) ∷ functions)) (sym becomes)
      (repair_stands g k.made k.variable (cell_boxes o) test says (allowed o ws) functions (λ t. pos (changes o former t))
      (subst (λ (z : Ground). Adds [] z k.made says) e added)
      (subst IsWellMade becomes k.well_made)
      (λ a w. and_twice (allowed o ws (take start.search a)) ∙ ap (λ (n : ℕ). allowed o ws (take n a)) (sym added.grows.search))
      (λ a w. k.value a w ∙ value a (world_before last k.made a defines.grows w) ∙ ap (λ (n : ℕ). pos (changes o former (take n a))) (sym defines.grows.search))
      st)
