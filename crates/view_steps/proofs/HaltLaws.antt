-- A step to the stop.
use Rattle.std.proofs.Common.{◌≡◌, ℕ, ◌+◌, ◌<◌, get_or, Bool, true, false, not, ◌&&◌, cond, List, [], ◌∷◌, ◌++◌, Option, Some, None, map, option_map, if◌then◌else◌, is_eq, is_some, refl, sym, ap, ◌∙◌, subst, arith, length}
use Rattle.std.specs.Prelude.{All, IsPermutation}
use Rattle.std.specs.List.{swap_remove, AllByRecursion}
use Rattle.std.specs.Borrow.{Bor}
use Rattle.std.specs.Option.{option_and_then}
use Rattle.std.proofs.lemmas.List.Elements.{All-nil, All-cons, All-head, All-tail, All-append, All-from_recursion}
use Rattle.std.proofs.lemmas.List.Sorted.{IsPermutation-map, IsPermutation-trans, IsPermutation-sym, IsPermutation-append_right, IsPermutation-to_front, IsPermutation-middle, IsPermutation-swap_remove, All-permutation, sum_by-IsPermutation}
use Rattle.std.proofs.lemmas.List.Sums.{sum_by-append, sum_by-cons}
use mathlib.Core.List.{map-append}
use Rattle.serde_json.specs.Data.{Data}
use Rattle.view_leaves.specs.Paths.{Path, path_cmp}
use Rattle.view_picture.specs.Mentions.{is_named, owner}
use Rattle.view_plan.specs.Changes.{PlanChange}
use Rattle.view_plan.specs.Plan.{PlanLine, found_at}
use Rattle.view_plan.specs.Views.{lines_seen}
use Rattle.view_steps.specs.Moves.{from_word, to_word, is_word, refers_to, amounts, turned, to_stop, from_stop, on_stop}
use Rattle.view_steps.specs.Rooms.{found}
use Rattle.view_steps.specs.Runs.{may_halt, half_fits, put_by, steps_of, IsHaltAt, IsSite, IsRun}
use Rattle.view_steps.specs.Steps.{Site, Leg, halts, reached, ended, halted, behind, is_among, load_behind, IsHalf}
use Rattle.view_steps.specs.Views.{move_line, move_path, IsMove}
use Rattle.view_steps.specs.declared.moves.Move.{Move}
use Rattle.view_steps.specs.declared.run.Run.{Run}
use Rattle.view_steps.proofs.HalfLaws.{halved, goes_once, either_side, changed_found, found_elsewhere, changed_more, one_changed, still, behind_site, behind_paths, refers_halted}
use Rattle.view_steps.proofs.OrderLaws.{default_same, IsLeft, is_left, lines_paths, lines_more, fits, half_step}
use Rattle.view_steps.proofs.RoomLaws.{contrary, none_first, none_second, rooms_put, size_by}
use Rattle.view_steps.proofs.SiteLaws.{lines_found}
use Rattle.view_steps.proofs.Standing.{is_itself}

-- ---- those that don't go

module _ (site : Site) (stop : Option Data) (gs : List Leg) (p : Path) (half : PlanChange) where
  other_move : (m : Move) → is_eq (path_cmp p (move_path m)) ≡ false
      → IsMove (behind site stop gs) m → IsMove (behind site stop (halts (p, half) ∷ gs)) m
  other_move m apart is = record {
    sized = is.sized;
    former = λ w. ap (refers_to w) (found_elsewhere (on_stop stop) (halted gs) p (move_path m) site.old apart) ∙ is.former w;
    new = is.new;
    apart = is.apart;
  }

  pub other_moves : (ms : List Move) → is_among (map move_path ms) p ≡ false
      → All (IsMove (behind site stop gs)) ms → All (IsMove (behind site stop (halts (p, half) ∷ gs))) ms
  other_moves [] out h = All-nil (IsMove (behind site stop (halts (p, half) ∷ gs)))
  other_moves (m ∷ ms) out h =
      let rest = is_among (map move_path ms) p in
      All-cons (IsMove (behind site stop (halts (p, half) ∷ gs))) m ms
      (other_move m (either_side p (move_path m) ∙ none_first (is_eq (path_cmp (move_path m) p)) rest out)
      (All-head (IsMove (behind site stop gs)) m ms h))
      (other_moves ms (none_second (is_eq (path_cmp (move_path m) p)) rest out)
      (All-tail (IsMove (behind site stop gs)) m ms h))

-- ---- the one that goes

second_move : (site : Site) (stop : Option Data) (gs : List Leg) (x y : Move) (half : PlanChange)
    → IsMove (behind site stop gs) x → to_stop stop (move_line x).1 ≡ Some half
    → move_line y ≡ (move_path x, from_stop stop (move_line x).1)
    → y.more.items ≡ x.more.items → y.less.items ≡ x.less.items
    → IsMove (behind site stop (halts (move_path x, half) ∷ gs)) y
second_move site stop gs x y half is e line more less =
    let parts = halved stop (move_line x).1 half e in
    let here : move_path y ≡ move_path x = ap (λ (l : PlanLine). l.0) line in
    let to : to_word (move_line y).1 ≡ to_word (move_line x).1 = ap (λ (l : PlanLine). to_word l.1) line ∙ parts.to in
    let from : from_word (move_line y).1 ≡ to_word half = ap (λ (l : PlanLine). from_word l.1) line ∙ parts.over in
    record {
      sized = record {
        named = ap (is_named site.attribute) here ∙ is.sized.named;
        more = more ∙ is.sized.more ∙ ap (λ q. amounts site.whole site.sizes (owner q)) (sym here);
        less = less ∙ is.sized.less ∙ ap (λ q. turned (amounts site.whole site.sizes (owner q))) (sym here);
      };
      former = λ w.
          ap (λ q. refers_to w (found_at q (behind site stop (halts (move_path x, half) ∷ gs)).old)) here
          ∙ refers_halted site stop gs x half w is e ∙ ap (λ o. is_word o w) (sym from);
      new = λ w.
          ap (λ q. refers_to w (found_at q site.new)) here ∙ is.new w ∙ ap (λ o. is_word o w) (sym to);
      apart = λ w h.
          ap (λ o. is_word o w) from ∙ parts.goes w (ap (λ o. is_word o w) (sym to) ∙ h);
    }

-- ---- it is a move of the plan

all_found : (xs ls : List PlanLine) → AllByRecursion (λ (l : PlanLine). found_at l.0 ls ≡ Some l.1) xs
    → All (λ (l : PlanLine). found_at l.0 ls ≡ Some l.1) xs
all_found xs ls h = All-from_recursion (λ (l : PlanLine). found_at l.0 ls ≡ Some l.1) xs h

is_found : (site : Site) (stop : Option Data) (gs : List Leg) (x : Move) (rest : List Move)
    → IsSite site → IsLeft site stop gs x rest
    → found_at (move_path x) (behind site stop gs).moves ≡ Some (move_line x).1
is_found site stop gs x rest is l =
    let now = behind site stop gs in
    let P = λ (m : PlanLine). found_at m.0 now.moves ≡ Some m.1 in
    let order = reached gs ++ move_line x ∷ map move_line rest in
    let each : All P order = All-permutation P now.moves order l.same (all_found now.moves now.moves (lines_found now.moves (behind_site site stop gs is).moves)) in
    All-head P (move_line x) (reached gs ++ map move_line rest)
    (All-permutation P order (move_line x ∷ (reached gs ++ map move_line rest))
    (IsPermutation-middle (reached gs) (move_line x) (map move_line rest)) each)

same_some : (b c : PlanChange) → ◌≡◌ {A = Option PlanChange} (Some b) (Some c) → b ≡ c
same_some b c h = cc

once_case : (stop : Option Data) (b : Bool) (o : Option PlanChange) (c half : PlanChange)
    → to_stop stop c ≡ Some half
    → option_map (λ v. if b then from_stop stop v else v) o ≡ Some c
    → (b ≡ false) × (o ≡ Some c)
once_case stop true (Some v) c half e h =
    let again : to_stop stop c ≡ None = ap (to_stop stop) (sym (same_some (from_stop stop v) c h)) ∙ goes_once stop v in
    absurd (contrary (is_some (to_stop stop c)) (ap is_some again) (ap is_some e))
once_case stop true None c half e h = absurd cc
once_case stop false (Some v) c half e h = (refl, h)
once_case stop false None c half e h = absurd cc

pub is_half : (site : Site) (stop : Option Data) (gs : List Leg) (x : Move) (rest : List Move)
    (half : PlanChange) → IsSite site → IsLeft site stop gs x rest
    → to_stop stop (move_line x).1 ≡ Some half → IsHalf site stop gs (move_path x, half)
is_half site stop gs x rest half is l e =
    let p = move_path x in
    let known = once_case stop (is_among (halted gs) p) (found_at p site.moves) (move_line x).1 half e
    (sym (changed_found (from_stop stop) (halted gs) p site.moves) ∙ is_found site stop gs x rest is l) in
    record {
      half = ap (option_and_then (to_stop stop)) known.1 ∙ e;
      waiting = ap (λ ps. is_among ps p && not (is_among (ended gs) p)) (sym (behind_paths site stop gs)) ∙ l.here;
      once = known.0;
    }

-- ---- the moves behind it

moves_halted : (site : Site) (stop : Option Data) (gs : List Leg) (x y : Move) (rest : List Move)
    (half : PlanChange) → IsLeft site stop gs x rest → is_among (halted gs) (move_path x) ≡ false
    → move_line y ≡ (move_path x, from_stop stop (move_line x).1)
    → IsPermutation (behind site stop (halts (move_path x, half) ∷ gs)).moves
    (reached gs ++ map move_line (rest ++ y ∷ []))
moves_halted site stop gs x y rest half l once line =
    let p = move_path x in
    let F = from_stop stop in
    let now = behind site stop gs in
    let order = reached gs ++ move_line x ∷ map move_line rest in
    let here : one_changed F p (move_line x) ≡ move_line y = rw (is_itself p) (sym line) in
    let before : map (one_changed F p) (reached gs) ≡ reached gs = still F p (reached gs) l.before in
    let behind_it : map (one_changed F p) (map move_line rest) ≡ map move_line rest = still F p (map move_line rest) (ap (λ ps. is_among ps p) (lines_paths rest) ∙ l.apart) in
    let all : map (one_changed F p) order ≡ reached gs ++ move_line y ∷ map move_line rest =
    map-append (one_changed F p) (reached gs) (move_line x ∷ map move_line rest)
    ∙ ap (λ ls. ls ++ one_changed F p (move_line x) ∷ map (one_changed F p) (map move_line rest)) before
    ∙ ap (λ z. reached gs ++ z ∷ map (one_changed F p) (map move_line rest)) here
    ∙ ap (λ ls. reached gs ++ move_line y ∷ ls) behind_it in
    let turned_round : IsPermutation (move_line y ∷ map move_line rest) (map move_line (rest ++ y ∷ [])) =
    subst (IsPermutation (move_line y ∷ map move_line rest)) (sym (map-append move_line rest (y ∷ [])))
    (IsPermutation-sym (map move_line rest ++ move_line y ∷ []) (move_line y ∷ map move_line rest) (IsPermutation-to_front (map move_line rest) (move_line y))) in
    subst (λ ls. IsPermutation ls (reached gs ++ map move_line (rest ++ y ∷ []))) (sym (changed_more F (halted gs) p site.moves once))
    (IsPermutation-trans (map (one_changed F p) now.moves) (reached gs ++ move_line y ∷ map move_line rest) (reached gs ++ map move_line (rest ++ y ∷ []))
    (subst (IsPermutation (map (one_changed F p) now.moves)) all (IsPermutation-map (one_changed F p) now.moves order l.same))
    (IsPermutation-append_right (reached gs) (move_line y ∷ map move_line rest) (map move_line (rest ++ y ∷ [])) turned_round))

-- ---- one step more

halted_one : (site : Site) (stop : Option Data) (run new : Run) (x y : Move) (rest : List Move)
    (half : PlanChange) → IsRun site stop run
    → IsPermutation run.left.items (x ∷ rest) → new.left.items ≡ rest ++ y ∷ []
    → lines_seen new.made.items ≡ lines_seen run.made.items ++ (move_path x, half) ∷ []
    → to_stop stop (move_line x).1 ≡ Some half
    → move_line y ≡ (move_path x, from_stop stop (move_line x).1)
    → y.more.items ≡ x.more.items → y.less.items ≡ x.less.items
    → may_halt run.rooms.entries stop x ≡ true
    → ((w : Bor (List ℕ)) → found new.rooms.entries w.now
    ≡ put_by (is_word (to_word half) w.now) (is_word (from_word half) w.now) x.more.items x.less.items (found run.rooms.entries w.now))
    → IsRun site stop new
halted_one site stop run new x y rest half is left now made e line more less fit put =
    let gs = is.legs in
    let p = move_path x in
    let g = halts (p, half) in
    let before = behind site stop gs in
    let after = behind site stop (g ∷ gs) in
    let l = is_left site stop run x rest is left in
    let may = is_half site stop gs x rest half is.site_is l e in
    let step = half_step site stop gs x half is.site_is l.move l.here e in
    record {
      legs = g ∷ gs;
      lines = lines_more gs g (lines_seen run.made.items) (lines_seen new.made.items) is.lines made;
      site_is = is.site_is;
      each = subst (All (IsMove after)) (sym now)
          (All-append (IsMove after) rest (y ∷ []) (other_moves site stop gs p half rest l.apart l.others)
          (All-cons (IsMove after) y [] (second_move site stop gs x y half l.move e line more less) (All-nil (IsMove after))));
      same = subst (λ ms. IsPermutation after.moves (reached gs ++ map move_line ms)) (sym now)
          (moves_halted site stop gs x y rest half l may.once line);
      fit = (
        (
          fits run.rooms.entries before half (size_by site x) (load_behind site stop gs)
              (load_behind site stop (g ∷ gs)) x.more.items x.less.items is.rooms_are step
              (ap (λ o. half_fits run.rooms.entries o x.more.items x.less.items) (sym e) ∙ fit),
          may,
        ),
        is.fit,
      );
      rooms_are = λ w.
          put (record { ref_ptr = (0, 0); now = w })
          ∙ ap (put_by (is_word (to_word half) w) (is_word (from_word half) w) x.more.items x.less.items) (is.rooms_are w)
          ∙ sym (rooms_put before (size_by site x) (load_behind site stop gs w)
          (load_behind site stop (g ∷ gs) w) x.more.items x.less.items w
          (is_word (to_word half) w) (is_word (from_word half) w) step.sizes_are (step.shifted w));
    }

-- a move that was found to fit on the stop
pub halts_at : (stop : Option Data) (run : Run) (k : ℕ) (x : Move) → k < length run.left.items
    → x ≡ get_or run.left.items k x → may_halt run.rooms.entries stop x ≡ true → IsHaltAt stop run k
halts_at stop run k x less here fit = record {
  there = less;
  fit = λ d. ap (may_halt run.rooms.entries stop) (default_same run.left.items k d x less ∙ sym here) ∙ fit;
}

-- and the run behind its first half
pub one_halted : (site : Site) (stop : Option Data) (run new : Run) (k : ℕ) (x y : Move)
    (half : PlanChange) → IsRun site stop run → IsHaltAt stop run k
    → x ≡ get_or run.left.items k x → new.left.items ≡ swap_remove run.left.items k x ++ y ∷ []
    → lines_seen new.made.items ≡ lines_seen run.made.items ++ (move_path x, half) ∷ []
    → to_stop stop (move_line x).1 ≡ Some half
    → move_line y ≡ (move_path x, from_stop stop (move_line x).1)
    → y.more.items ≡ x.more.items → y.less.items ≡ x.less.items
    → ((w : Bor (List ℕ)) → found new.rooms.entries w.now
    ≡ put_by (is_word (to_word half) w.now) (is_word (from_word half) w.now) x.more.items x.less.items (found run.rooms.entries w.now))
    → IsRun site stop new
one_halted site stop run new k x y half is at here left made e line more less put =
    halted_one site stop run new x y (swap_remove run.left.items k x) half is
    (IsPermutation-swap_remove run.left.items k x at.there here) left made e line more less
    (ap (may_halt run.rooms.entries stop) here ∙ at.fit x) put

-- one step fewer is left
pub fewer_halted : (stop : Option Data) (left new : List Move) (k : ℕ) (x y : Move) (half : PlanChange)
    → k < length left → x ≡ get_or left k x → new ≡ swap_remove left k x ++ y ∷ []
    → to_stop stop (move_line x).1 ≡ Some half
    → move_line y ≡ (move_path x, from_stop stop (move_line x).1)
    → steps_of stop new < steps_of stop left
fewer_halted stop left new k x y half less here is e line =
    let weight = λ (m : Move). 1 + cond (is_some (to_stop stop (move_line m).1)) 1 0 in
    let rest = swap_remove left k x in
    let before : steps_of stop left ≡ 2 + steps_of stop rest =
    sym (sum_by-IsPermutation weight left (x ∷ rest) (IsPermutation-swap_remove left k x less here))
    ∙ sum_by-cons weight x rest
    ∙ ap (λ o. (1 + cond (is_some o) 1 0) + steps_of stop rest) e in
    let second : to_stop stop (move_line y).1 ≡ None = ap (λ (l : PlanLine). to_stop stop l.1) line ∙ goes_once stop (move_line x).1 in
    let after : steps_of stop new ≡ steps_of stop rest + 1 =
    ap (steps_of stop) is ∙ sum_by-append weight rest (y ∷ [])
    ∙ ap (λ n. steps_of stop rest + n) (sum_by-cons weight y []
    ∙ ap (λ o. (1 + cond (is_some o) 1 0) + 0) second) in
    omega (arith, before, after)

-- a first half is there where it was found that the move may go
pub has_half : (stop : Option Data) (run : Run) (k : ℕ) (x : Move) → IsHaltAt stop run k
    → x ≡ get_or run.left.items k x → to_stop stop (move_line x).1 ≡ None → ⊥
has_half stop run k x at here none =
    contrary (may_halt run.rooms.entries stop x)
    (ap (λ o. half_fits run.rooms.entries o x.more.items x.less.items) none)
    (ap (may_halt run.rooms.entries stop) here ∙ at.fit x)
