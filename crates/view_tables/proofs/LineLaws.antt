-- Lines that are kept, and who has a leaf.
use Rattle.std.proofs.Common.{◌≡◌, ℕ, ℤ, ◌+◌, ◌+ℤ◌, ◌<◌, ◌≤◌, Bool, true, false, Option, None, Some, is_some, option_map, if◌then◌else◌, List, [], ◌∷◌, ◌++◌, Bor, length, map, take, drop, get_or, refl, sym, ap, ◌∙◌, arith, append_assoc, append-nil}
use Rattle.std.proofs.lemmas.Int.{ints}
use Rattle.serde_json.specs.Data.{Data}
use Rattle.view_leaves.specs.Paths.{Path}
use Rattle.view_leaves.specs.declared.path.Step.{Step}
use Rattle.view_leaves.specs.Views.{step_seen}
use Rattle.view_picture.specs.Mentioned.{guest_by}
use Rattle.view_picture.specs.Mentions.{is_named, owner, without_last}
use Rattle.view_picture.proofs.MentionLaws.{next_item}
use Rattle.view_plan.specs.declared.merge.Line.{Line}
use Rattle.view_plan.specs.Plan.{PlanLine}
use Rattle.view_plan.specs.Views.{line_seen, lines_seen}
use Rattle.view_tables.specs.Chosen.{chosen, is_chosen}
use Rattle.view_tables.specs.Weights.{line_weight, weight}

-- ---- paths

some_mapped : (o : Option (Bor (List Step)))
    → is_some o ≡ is_some (option_map (λ (q : Bor (List Step)). map step_seen q.now) o)
some_mapped None = refl
some_mapped (Some q) = refl

some_if : (b : Bool) (p : Path) → is_some (if b then Some p else None) ≡ b
some_if true p = refl
some_if false p = refl

-- a path ends in a name where it has a guest by it
pub some_named : (o : Option (Bor (List Step))) (a : List ℕ) (p : Path)
    → option_map (λ (q : Bor (List Step)). map step_seen q.now) o ≡ guest_by a p
    → is_some o ≡ is_named a p
some_named o a p h =
    some_mapped o ∙ ap (λ (x : Option Path). is_some x) h ∙ some_if (is_named a p) (owner p)

-- a leaf of a path of one step has itself
pub owner_short : (ss : List Step) → length ss < 2 → map step_seen ss ≡ owner (map step_seen ss)
owner_short [] h = refl
owner_short (s ∷ []) h = refl
owner_short (s ∷ t ∷ ss) h = absurd (omega arith)

front : (ss : List Step) (s : Step)
    → map step_seen (take (length ss) (s ∷ ss)) ≡ without_last (map step_seen (s ∷ ss))
front [] s = refl
front (t ∷ ss) s = ap (λ p. step_seen s ∷ p) (front ss t)

pub owner_long : (ss : List Step) (k : ℕ) → 2 ≤ length ss → k + 1 ≡ length ss
    → map step_seen (take k ss) ≡ owner (map step_seen ss)
owner_long [] k h e = absurd (omega arith)
owner_long (s ∷ []) k h e = absurd (omega arith)
owner_long (s ∷ t ∷ ss) k h e =
    let same : k ≡ length (t ∷ ss) = omega arith in
    ap (λ n. map step_seen (take n (s ∷ t ∷ ss))) same ∙ front (t ∷ ss) s

-- ---- lines

lines_last : (ls : List Line) (l : Line) → lines_seen (ls ++ l ∷ []) ≡ lines_seen ls ++ line_seen l ∷ []
lines_last [] l = refl
lines_last (k ∷ ls) l = ap (λ xs. line_seen k ∷ xs) (lines_last ls l)

-- a line whose leaf is asked for was kept, and one whose leaf isn't was not
pub line_kept : (names : List (List ℕ)) (was now : List Line) (l : Line)
    → is_chosen names (line_seen l).0 ≡ true → now ≡ was ++ l ∷ []
    → lines_seen now ≡ lines_seen was ++ chosen names (line_seen l ∷ [])
line_kept names was now l h e =
    let one : chosen names (line_seen l ∷ []) ≡ line_seen l ∷ [] = rw h refl in
    ap lines_seen e ∙ lines_last was l ∙ ap (λ ls. lines_seen was ++ ls) (sym one)

pub line_left : (names : List (List ℕ)) (was : List PlanLine) (l : PlanLine)
    → is_chosen names l.0 ≡ false → was ≡ was ++ chosen names (l ∷ [])
line_left names was l h =
    let none : chosen names (l ∷ []) ≡ [] = rw h refl in
    sym (ap (λ ls. was ++ ls) none ∙ append-nil was)

next_by : (b : Bool) (names : List (List ℕ)) (l : PlanLine) (left was now all : List PlanLine)
    → is_chosen names l.0 ≡ b → now ≡ was ++ chosen names (l ∷ [])
    → was ++ chosen names (l ∷ left) ≡ all → now ++ chosen names left ≡ all
next_by true names l left was now all b e h =
    ap (λ ls. ls ++ chosen names left) (rw b at e)
    ∙ append_assoc was (l ∷ []) (chosen names left) ∙ rw b at h
next_by false names l left was now all b e h =
    ap (λ ls. ls ++ chosen names left) (rw b at e ∙ append-nil was) ∙ rw b at h

-- the next line was looked at
pub next_line : (names : List (List ℕ)) (l : PlanLine) (left was now all : List PlanLine)
    → now ≡ was ++ chosen names (l ∷ []) → was ++ chosen names (l ∷ left) ≡ all
    → now ++ chosen names left ≡ all
next_line names l left was now all e h =
    next_by (is_chosen names l.0) names l left was now all refl e h

-- the next line was weighed
pub next_weight : (d : Data) (name : List ℕ) (ls : List Line) (k : ℕ) (l : Line) (w sum all : ℤ)
    → k < length ls → l ≡ get_or ls k l → w ≡ line_weight d name (line_seen l)
    → sum +ℤ weight d name (lines_seen (drop k ls)) ≡ all
    → (sum +ℤ w) +ℤ weight d name (lines_seen (drop (k + 1) ls)) ≡ all
next_weight d name ls k l w sum all less is here h =
    let step : weight d name (lines_seen (drop k ls)) ≡ line_weight d name (line_seen l) +ℤ weight d name (lines_seen (drop (k + 1) ls)) = ap (λ xs. weight d name (lines_seen xs)) (next_item ls k l less is) in
    omega (arith, ints)
