-- Clauses that are true at level 0: they stay so, and have nothing to say at any level.
use Rattle.std.proofs.Common.{◌≡◌, ℕ, suc, ◌<◌, true, false, not, ◌&&◌, ◌||◌, ◌==◌, cond, List, [], ◌∷◌, ◌++◌, length, refl, sym, ap, ◌∙◌, arith, subst, nat_lt, All, Bool, Option, Some, None, is_some}
use Rattle.std.proofs.lemmas.Bool.{and_parts, false_from_ne_true}
use Rattle.std.proofs.lemmas.Bool.Decides.{Decides-eqb}
use Rattle.std.proofs.lemmas.List.Elements.{All-push, All-cons}
use Rattle.signed_clause.specs.Ranges.{Ranges, has, is_nil, IsValid, IsSubset}
use Rattle.signed_clause.specs.SetAlgebra.{is_disjoint, is_within, meet}
use Rattle.signed_clause.specs.Clauses.{Boxes, Literals, box_of, false_in, unit_of, alone_of, IsClauseFrom, IsClause, IsWithinBoxes, AreValid}
use Rattle.signed_clause.proofs.SetFacts.{nil_law, within_law}
use Rattle.signed_clause.proofs.ClauseLaws.{has_from_disjoint}
use Rattle.ground_form.specs.declared.ground.Ground.{Ground}
use Rattle.rule_law.specs.Answers.{AreBoxesWithin}
use Rattle.fd_store.specs.Levels.{Level, Stack, moved, reacted}
use Rattle.fd_store.specs.Undo.{dropped_from, dropped, AreWider}
use Rattle.learn_clauses.proofs.WithinLaws.{valid_boxes}
use Rattle.run_law.specs.Replay.{acts}
use Rattle.run_law.proofs.LevelFacts.{AreBoxesIn}
use Rattle.bound_search.specs.Awaited.{holds_in, is_sure, lowest, ground_boxes}
use Rattle.bound_search.specs.Boards.{AreLower}
use Rattle.bound_search.specs.Standing.{HoldsIn}
use Rattle.bound_search.proofs.BoardLaws.{wider_still}
use Rattle.bound_search.proofs.Fewer.{reacted_in, wider_in, reacted-below}

-- ---- narrower boxes

still_within : (small large s : Ranges) → IsValid small → IsValid large → IsValid s →
    IsSubset small large → is_within large s ≡ true → is_within small s ≡ true
still_within small large s f g h i w =
    let sub = (within_law large s g h).0 w in
    (within_law small s f h).1 (λ v m. sub v (i v m))

holds_narrower : (small large : Boxes) (c : Literals) (n : ℕ) → AreWider small large →
    IsClauseFrom n c → holds_in large c ≡ true → holds_in small c ≡ true
holds_narrower small large [] n w f h = absurd cc
holds_narrower small large (l ∷ c) n w f h =
    let more : holds_in large c ≡ true → holds_in small c ≡ true =
    holds_narrower small large c (suc l.0) w f.3 in
    let here = still_within (box_of small l.0) (box_of large l.0) l.1 (w.small_valid l.0)
    (w.large_valid l.0) f.2 (w.within l.0) in
    (elim (is_within (box_of large l.0) l.1) as (λ b. is_within (box_of large l.0) l.1 ≡ b →
    (b || holds_in large c) ≡ true →
    (is_within (box_of small l.0) l.1 || holds_in small c) ≡ true) [
      | true ↦ λ e h. let yes = here e in rw yes refl
      | false ↦ λ e h. let yes = more h in
          elim (is_within (box_of small l.0) l.1) as (λ b. (b || holds_in small c) ≡ true) [
            | true ↦ refl
            | false ↦ yes
          ]
    ]) refl h

pub hold_narrower : (small large : Boxes) (cs : List Literals) → length small ≡ length large →
    AreWider small large → All (λ c. HoldsIn large c) cs → All (λ c. HoldsIn small c) cs
hold_narrower small large cs e w h = λ k d lt.
    let it = h k d lt in
    record {
      form = it.form;
      vars = λ j l below.
          let there = it.vars j l below in
          omega (arith, there, e);
      holds = holds_narrower small large _ 0 w it.form it.holds;
    }

-- ---- what is done to levels

lowest_top : (old new : Level) (below : List Level) (cs : List Literals) → AreValid old.now →
    AreBoxesIn old.now new.now → All (λ c. HoldsIn (lowest old below) c) cs →
    All (λ c. HoldsIn (lowest new below) c) cs
lowest_top old new [] cs v i h =
    hold_narrower new.now old.now cs i.size (wider_in old.now new.now v i) h
lowest_top old new (l ∷ ls) cs v i h = h

pub sure_reacted : (n : ℕ) (c : Literals) (s t : Stack) (cs : List Literals) → IsClause c →
    AreValid s.top.now → t ≡ reacted n c s → All (λ c. HoldsIn (ground_boxes s) c) cs →
    All (λ c. HoldsIn (ground_boxes t) c) cs
sure_reacted n c s t cs f a e h =
    let r = reacted n c s in
    let here : All (λ c. HoldsIn (lowest r.top s.below) c) cs =
    lowest_top s.top r.top s.below cs a (reacted_in n c s f a) h in
    let one : All (λ c. HoldsIn (lowest r.top r.below) c) cs =
    subst (λ (ls : List Level). All (λ c. HoldsIn (lowest r.top ls) c) cs)
    (sym (reacted-below n c s)) here in
    subst (λ (k : Stack). All (λ c. HoldsIn (ground_boxes k) c) cs) (sym e) one

pub sure_decided : (x : ℕ) (half : Ranges) (s t : Stack) (cs : List Literals) →
    t ≡ moved None x half s → All (λ c. HoldsIn (ground_boxes s) c) cs →
    All (λ c. HoldsIn (ground_boxes t) c) cs
sure_decided x half s t cs e h =
    subst (λ (k : Stack). All (λ c. HoldsIn (ground_boxes k) c) cs) (sym e) h

ground_from : (k : ℕ) (l : Level) (ls : List Level) →
    ground_boxes (dropped_from k l ls) ≡ lowest l ls
ground_from k l [] = refl
ground_from k l (m ∷ ls) =
    let more = ground_from k m ls in
    elim (nat_lt k (suc (length ls))) as (λ b.
    ground_boxes (cond b (dropped_from k m ls) (record { top = l; below = m ∷ ls }))
    ≡ lowest m ls) [
      | true ↦ more
      | false ↦ refl
    ]

pub sure_dropped : (k : ℕ) (s : Stack) (cs : List Literals) →
    All (λ c. HoldsIn (ground_boxes s) c) cs → All (λ c. HoldsIn (ground_boxes (dropped k s)) c) cs
sure_dropped k s cs h =
    subst (λ (b : Boxes). All (λ c. HoldsIn b c) cs) (sym (ground_from k s.top s.below)) h

-- ---- from level 0 to the last one

-- as many boxes, and wider ones
record IsOverAll (boxes large : Boxes) : Type 0 where
  pub size : length boxes ≡ length large
  pub wider : AreWider boxes large

over_lowest : (g : Ground) (l : Level) (ls : List Level) → AreValid l.now → AreLower g l.now ls →
    IsOverAll l.now (lowest l ls)
over_lowest g l [] v a = record {
  size = refl;
  wider = record { small_valid = v; large_valid = v; within = λ x n h. h };
}
over_lowest g l (m ∷ ls) v a =
    let more = over_lowest g m ls a.0.wider.large_valid a.1 in
    record {
      size = sym a.0.size ∙ more.size;
      wider = wider_still l.now m.now (lowest m ls) a.0.wider more.wider;
    }

meets_within : (s box : Ranges) → IsValid s → IsValid box → is_nil box ≡ false →
    is_within box s ≡ true → is_disjoint s box ≡ false
meets_within s box f g some w =
    let all : IsSubset box s = (within_law box s g f).0 w in
    false_from_ne_true (is_disjoint s box) (λ none.
    let empty : is_nil box ≡ true =
    (nil_law box g).1 (λ v. false_from_ne_true (has box v) (λ p.
    let in_set = all v p in
    let out = has_from_disjoint s box v f g none p in
    cc)) in
    cc)

-- a clause that isn't false, and not unit
record IsIdle (boxes : Boxes) (c : Literals) : Type 0 where
  pub open_yet : false_in boxes c ≡ false
  pub none : unit_of boxes c ≡ None

and_none : (b : Bool) → (b && false) ≡ false
and_none true = refl
and_none false = refl

same_either : (b : Bool) (o : Option (ℕ × Ranges)) → cond b o o ≡ o
same_either true o = refl
same_either false o = refl

-- what a literal alone would leave, in a case that takes nothing away
alone_none : (boxes : Boxes) (l : ℕ × Ranges) (c : Literals) →
    (false_in boxes c && not (is_within (box_of boxes l.0) l.1)) ≡ false →
    alone_of boxes l c ≡ None
alone_none boxes l c e =
    ap (λ (b : Bool). cond b (Some (l.0, meet l.1 (box_of boxes l.0))) None) e

idle_here : (boxes : Boxes) (l : ℕ × Ranges) (c : Literals) →
    is_within (box_of boxes l.0) l.1 ≡ true → is_disjoint l.1 (box_of boxes l.0) ≡ false →
    IsIdle boxes (l ∷ c)
idle_here boxes l c w m =
    let nothing = ap (λ (b : Bool). false_in boxes c && not b) w ∙ and_none (false_in boxes c) in
    record {
      open_yet = ap (λ (b : Bool). b && false_in boxes c) m;
      none = ap (λ (b : Bool). cond b (unit_of boxes c) (alone_of boxes l c)) m
          ∙ alone_none boxes l c nothing;
    }

idle_later : (boxes : Boxes) (l : ℕ × Ranges) (c : Literals) → IsIdle boxes c →
    IsIdle boxes (l ∷ c)
idle_later boxes l c i =
    let miss = is_disjoint l.1 (box_of boxes l.0) in
    let nothing = ap (λ (b : Bool). b && not (is_within (box_of boxes l.0) l.1)) i.open_yet in
    record {
      open_yet = ap (λ (b : Bool). miss && b) i.open_yet ∙ and_none miss;
      none = ap (λ (o : Option (ℕ × Ranges)). cond miss o (alone_of boxes l c)) i.none
          ∙ ap (λ (o : Option (ℕ × Ranges)). cond miss None o) (alone_none boxes l c nothing)
          ∙ same_either miss None;
    }

idle_holding : (boxes : Boxes) (c : Literals) (n : ℕ) → AreValid boxes →
    All (λ l. is_nil (box_of boxes l.0) ≡ false) c → IsClauseFrom n c →
    holds_in boxes c ≡ true → IsIdle boxes c
idle_holding boxes [] n v some f h = absurd cc
idle_holding boxes (l ∷ c) n v some f h =
    let more : holds_in boxes c ≡ true → IsIdle boxes c =
    idle_holding boxes c (suc l.0) v (λ k d lt. some (suc k) d (omega arith)) f.3 in
    (elim (is_within (box_of boxes l.0) l.1) as (λ b. is_within (box_of boxes l.0) l.1 ≡ b →
    (b || holds_in boxes c) ≡ true → IsIdle boxes (l ∷ c)) [
      | true ↦ λ e h. idle_here boxes l c e
          (meets_within l.1 (box_of boxes l.0) f.2 (v l.0) (some 0 l (omega arith)) e)
      | false ↦ λ e h. idle_later boxes l c (more h)
    ]) refl h

-- a clause that is true has nothing to say
holds_idle : (domains boxes : Boxes) (c : Literals) → AreBoxesWithin domains boxes →
    HoldsIn boxes c → acts boxes c ≡ false
holds_idle domains boxes c w h =
    let i : IsIdle boxes c = idle_holding boxes c 0 (valid_boxes boxes w.sets)
    (λ k d lt. w.some _ (h.vars k d lt)) h.form h.holds in
    ap (λ (b : Bool). b || is_some (unit_of boxes c)) i.open_yet
    ∙ ap (λ (o : Option (ℕ × Ranges)). is_some o) i.none

pub sure_idle : (g : Ground) (domains : Boxes) (s : Stack) (cs : List Literals) →
    AreBoxesWithin domains s.top.now → AreLower g s.top.now s.below →
    All (λ c. HoldsIn (ground_boxes s) c) cs → All (λ c. acts s.top.now c ≡ false) cs
sure_idle g domains s cs w a h =
    let over = over_lowest g s.top s.below (valid_boxes s.top.now w.sets) a in
    let here = hold_narrower s.top.now (ground_boxes s) cs over.size over.wider h in
    λ k d lt. holds_idle domains s.top.now _ w (here k d lt)

-- ---- one more

at_lowest : (l : Level) (ls : List Level) (c : Literals) → IsClause c → IsWithinBoxes c l.now →
    (length ls == 0) ≡ true → holds_in l.now c ≡ true → HoldsIn (lowest l ls) c
at_lowest l [] c f v e h = record { form = f; vars = v; holds = h }
at_lowest l (m ∷ ls) c f v e h =
    let none : suc (length ls) ≡ 0 = (Decides-eqb (suc (length ls)) 0).0 e in
    absurd (omega (arith, none))

at_ground : (levels : Stack) (c : Literals) → IsClause c → IsWithinBoxes c levels.top.now →
    is_sure levels c ≡ true → HoldsIn (ground_boxes levels) c
at_ground levels c f v h =
    let p = and_parts (length levels.below == 0) (holds_in levels.top.now c) h in
    at_lowest levels.top levels.below c f v p.0 p.1

pub sure_more : (b : Bool) (levels : Stack) (c : Literals) (cs : List Literals) → IsClause c →
    IsWithinBoxes c levels.top.now → b ≡ is_sure levels c →
    All (λ c. HoldsIn (ground_boxes levels) c) cs →
    All (λ c. HoldsIn (ground_boxes levels) c) (cond b (cs ++ c ∷ []) cs)
sure_more true levels c cs f v e h =
    All-push (λ c. HoldsIn (ground_boxes levels) c) cs c h (at_ground levels c f v (sym e))
sure_more false levels c cs f v e h = h
