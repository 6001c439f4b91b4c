-- Runs that decide by an order, and a line more.
use Rattle.std.proofs.Common.{◌↔◌, List, [], ◌∷◌, ◌++◌}
use Rattle.ground_form.specs.declared.ground.Ground.{Ground}
use Rattle.branch_choice.specs.declared.split.Order.{Order}
use Rattle.branch_choice.specs.declared.split.Order.TheVariants.{Own}
use Rattle.branch_choice.specs.Picks.{Hints}
use Rattle.log_form.specs.declared.line.Line.{Line}
use Rattle.log_form.specs.declared.line.Line.TheVariants.{Axiom, Chain, Bound, Use, Found, Decide, Empty}
use Rattle.log_form.specs.Acceptance.{Made, after, made_from}
use Rattle.log_form.specs.Acceptance as acceptance
use Rattle.run_law.specs.Replay.{State, start, next, state_from, state_of}
use Rattle.run_law.specs.Ordered.{IsLineBy, AreBy, IsOrdered}

-- the front and the last line
record AreFrontAndLast (g : Ground) (order : Order) (hints : Hints) (m : Made) (s : State)
    (ls : List Line) (l : Line) : Type 0 where
  pub front : AreBy g order hints m s ls
  pub last : IsLineBy g order hints (state_from g m s ls) l

split_last : (g : Ground) (order : Order) (hints : Hints) (m : Made) (s : State) (ls : List Line)
    (l : Line) → AreBy g order hints m s (ls ++ l ∷ []) → AreFrontAndLast g order hints m s ls l
split_last g order hints m s [] l h = record { front = tt; last = h.0 }
split_last g order hints m s (k ∷ ls) l h =
    let more = split_last g order hints (after g m k) (next g m s k) ls l h.1 in
    record { front = (h.0, more.front); last = more.last }

join_last : (g : Ground) (order : Order) (hints : Hints) (m : Made) (s : State) (ls : List Line)
    (l : Line) → AreBy g order hints m s ls → IsLineBy g order hints (state_from g m s ls) l →
    AreBy g order hints m s (ls ++ l ∷ [])
join_last g order hints m s [] l h last = (last, tt)
join_last g order hints m s (k ∷ ls) l h last =
    (h.0, join_last g order hints (after g m k) (next g m s k) ls l h.1 last)

pub ordered_more : (g : Ground) (order : Order) (hints : Hints) (ls : List Line) (l : Line) →
    IsOrdered g order hints (ls ++ l ∷ [])
    ↔ (IsOrdered g order hints ls × IsLineBy g order hints (state_of g ls) l)
ordered_more g order hints ls l = (
  λ h.
      let both = split_last g order hints acceptance.start (start g) ls l h in
      (both.front, both.last),
  λ h. join_last g order hints acceptance.start (start g) ls l h.0 h.1,
)

-- ---- the order Own

own_line : (g : Ground) (hints : Hints) (s : State) (l : Line) → IsLineBy g Own hints s l
own_line g hints s (Axiom k c) = tt
own_line g hints s (Chain chain c) = tt
own_line g hints s (Bound values) = tt
own_line g hints s (Use i) = tt
own_line g hints s (Found a) = tt
own_line g hints s (Decide x half) = tt
own_line g hints s (Empty x) = tt

own_lines : (g : Ground) (hints : Hints) (m : Made) (s : State) (ls : List Line) →
    AreBy g Own hints m s ls
own_lines g hints m s [] = tt
own_lines g hints m s (l ∷ ls) =
    (own_line g hints s l, own_lines g hints (after g m l) (next g m s l) ls)

pub own_ordered : (g : Ground) (hints : Hints) (ls : List Line) → IsOrdered g Own hints ls
own_ordered g hints ls = own_lines g hints acceptance.start (start g) ls
