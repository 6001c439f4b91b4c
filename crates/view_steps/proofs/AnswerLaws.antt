-- From a run that has ended to what is answered.
use Rattle.std.proofs.Common.{◌≡◌, ℕ, suc, Bool, true, false, List, [], ◌∷◌, ◌++◌, Option, map, refl, sym, ap, ◌∙◌, subst, arith, is_eq, append-nil}
use Rattle.std.specs.Prelude.{All, IsPermutation}
use Rattle.std.specs.Borrow.{Bor}
use Rattle.std.proofs.lemmas.List.Elements.{All-nil, All-cons}
use Rattle.std.proofs.lemmas.List.Sorted.{IsPermutation-refl, IsPermutation-map, list_any-IsPermutation}
use Rattle.serde_json.specs.Data.{Data}
use Rattle.view_leaves.specs.Ascending.{IsAscending, paths}
use Rattle.view_leaves.specs.Leaves.{PathLeaf, leaves}
use Rattle.view_leaves.specs.Paths.{path_cmp}
use Rattle.view_picture.specs.Picture.{PictureLoad, PictureSize, carried}
use Rattle.view_plan.specs.Plan.{PlanLine, line_path, IsPlan}
use Rattle.view_steps.specs.Rooms.{found, first_rooms, rooms}
use Rattle.view_plan.specs.Views.{lines_seen}
use Rattle.view_steps.specs.Runs.{all_back, IsAtEnd, IsRun}
use Rattle.view_steps.specs.Moves.{are_plain, moves_among}
use Rattle.view_steps.specs.Answer.{has_some, IsSteps, MovesSets}
use Rattle.view_steps.specs.Steps.{Site, Leg, reached, behind, IsStuck, standing, site_of, IsOrder, IsOrdered}
use Rattle.view_steps.specs.Text.{IsStepsText}
use Rattle.view_steps.specs.Views.{move_line, move_path, IsSized, IsMove}
use Rattle.view_steps.specs.declared.moves.Move.{Move}
use Rattle.view_steps.specs.declared.run.Run.{Run}
use Rattle.view_picture.specs.Parts.{parts}
use Rattle.view_steps.proofs.HalfLaws.{behind_none}
use Rattle.view_steps.proofs.OrderLaws.{lines_paths, all_stuck}
use Rattle.view_steps.proofs.SiteLaws.{scale_of, site_is, site_moves, rooms_new, rooms_old, stands_new}

-- before the first move
pub run_begins : (site : Site) (stop : Option Data) (lines : List PlanLine) (ms : List Move) (run : Run)
    → site.moves ≡ moves_among site.attribute lines → map move_line ms ≡ site.moves
    → IsPlan site.old site.new lines → IsAscending (paths site.old) → IsAscending (paths site.new)
    → All (IsSized site.whole site.attribute site.sizes) ms
    → are_plain (map move_line ms) ≡ true
    → run.left.items ≡ ms → run.made.items ≡ []
    → ((w : Bor (List ℕ)) → found run.rooms.entries w.now
    ≡ all_back ms w.now (first_rooms (map (scale_of site) (parts site.new)) w.now))
    → IsRun site stop run
run_begins site stop lines ms run e same plan old new sized plain left made back =
    let is = site_is site lines e plan old new in
    let each = site_moves site lines ms e same plan sized plain in
    let now : site ≡ behind site stop [] = sym (behind_none site stop) in
    let these : map line_path site.moves ≡ map move_path ms = ap (map line_path) (sym same) ∙ lines_paths ms in
    record {
      legs = [];
      lines = ap lines_seen made;
      site_is = is;
      each = subst (λ (s : Site). All (IsMove s) run.left.items) now (subst (All (IsMove site)) (sym left) each);
      same = subst (λ (s : Site). IsPermutation s.moves (map move_line run.left.items)) now
          (subst (λ xs. IsPermutation site.moves (map move_line xs)) (sym left)
          (subst (IsPermutation site.moves) (sym same) (IsPermutation-refl site.moves)));
      fit = tt;
      rooms_are = λ w.
          back (record { ref_ptr = (0, 0); now = w })
          ∙ ap (all_back ms w) (rooms_new site (map move_path ms) w these)
          ∙ rooms_old site ms w is each same
          ∙ ap (λ (s : Site). rooms s [] w) now;
    }

line_stuck : (site : Site) (stop : Option Data) (gs : List Leg) (ms : List Move)
    → All (λ m. IsStuck site stop gs (move_line m)) ms
    → All (IsStuck site stop gs) (map move_line ms)
line_stuck site stop gs [] h = All-nil (IsStuck site stop gs)
line_stuck site stop gs (m ∷ ms) h =
    All-cons (IsStuck site stop gs) (move_line m) (map move_line ms)
    (h 0 m (omega arith)) (line_stuck site stop gs ms (λ k d less. h (suc k) d (omega arith)))

ends_new : (site : Site) (order left : List PlanLine) → IsPermutation site.moves (order ++ left)
    → left ≡ [] → standing site (map line_path order) ≡ site.new
ends_new site order left same none =
    let all : IsPermutation site.moves order = subst (IsPermutation site.moves) (ap (λ ls. order ++ ls) none ∙ append-nil order) same in
    stands_new site (map line_path order) (λ p.
    list_any-IsPermutation (λ q. is_eq (path_cmp q p)) (map line_path site.moves) (map line_path order)
    (IsPermutation-map line_path site.moves order all))

pub run_ends : (site : Site) (stop : Option Data) (run : Run) → IsRun site stop run
    → IsAtEnd stop run
    → IsOrder site stop (lines_seen run.made.items) (map move_line run.left.items)
run_ends site stop run is end = record {
  legs = is.legs;
  lines = is.lines;
  same = is.same;
  fit = is.fit;
  stuck = line_stuck site stop is.legs run.left.items (all_stuck site stop run is end);
  last = ends_new (behind site stop is.legs) (reached is.legs) (map move_line run.left.items) is.same;
}

-- what a run that has ended answers
pub stepped : (d e : Data) (a : List ℕ) (sizes : List PictureSize) (stop : Option Data)
    (old new : List PathLeaf) (lines : List PlanLine) (ms all : List Move) (start run : Run)
    (scales : List (List ℕ × List PictureLoad)) (text : List ℕ) (stuck : Bool)
    → old ≡ leaves d → new ≡ leaves e
    → IsPlan old new lines → IsAscending (paths old) → IsAscending (paths new)
    → map move_line ms ≡ moves_among a lines → All (IsSized e a sizes) ms
    → are_plain (map move_line all) ≡ true → all ≡ ms
    → scales ≡ map (carried e a sizes new) (parts new)
    → start.left.items ≡ ms → start.made.items ≡ []
    → ((w : Bor (List ℕ)) → found start.rooms.entries w.now ≡ all_back ms w.now (first_rooms scales w.now))
    → ((site : Site) → IsRun site stop start → IsRun site stop run)
    → IsAtEnd stop run
    → IsStepsText (lines_seen run.made.items) (map move_line run.left.items) text
    → stuck ≡ has_some (map move_line run.left.items)
    → IsSteps d e a sizes stop text stuck
stepped d e a sizes stop old new lines ms all start run scales text stuck olds news plan before behind_it same sized plain these carry left made back kept end shown is =
    let site = site_of e a sizes old new lines in
    let begins : IsRun site stop start = run_begins site stop lines ms start refl same plan before behind_it sized
    (ap (λ xs. are_plain (map move_line xs)) (sym these) ∙ plain) left made
    (λ w. back w ∙ ap (λ ss. all_back ms w.now (first_rooms ss w.now)) carry) in
    let order = lines_seen run.made.items in
    let rest = map move_line run.left.items in
    let ordered : IsOrdered e a sizes stop old new order rest = record { lines = lines; plan = plan; ordered = run_ends site stop run (kept site begins) end } in
    record {
      made = order;
      left = rest;
      ordered = subst (λ ls. IsOrdered e a sizes stop ls (leaves e) order rest) olds
          (subst (λ ls. IsOrdered e a sizes stop old ls order rest) news ordered);
      some_left = is;
      shown = shown;
    }

-- a set among the moves
pub moves_sets : (d e : Data) (a : List ℕ) (old new : List PathLeaf) (lines : List PlanLine)
    (ms all : List Move) → old ≡ leaves d → new ≡ leaves e → IsPlan old new lines
    → map move_line ms ≡ moves_among a lines
    → are_plain (map move_line all) ≡ false → all ≡ ms → MovesSets d e a
moves_sets d e a old new lines ms all olds news plan same sets these = record {
  lines = lines;
  plan = subst (λ ls. IsPlan ls (leaves e) lines) olds (subst (λ ls. IsPlan old ls lines) news plan);
  sets = ap are_plain (sym same) ∙ ap (λ xs. are_plain (map move_line xs)) (sym these) ∙ sets;
}
