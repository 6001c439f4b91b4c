use Rattle.std.proofs.Common.{[], List, ℤ, not, take, length}
use Rattle.std.specs.List.{All, list_any}
use Rattle.form_build.specs.Worlds.{Adds}
use Rattle.pairwise_forms.specs.Clashing.{clash_at, IsKeyed}
use Rattle.pairwise_forms.proofs.apart.state_apart_from.Given as goal

-- the member clashes with none of the others so far
abbrev pub invariant-loop-f : goal.invariant-loop-f
invariant-loop-f l = record {
  says : Adds [] l.fn.maker l.maker (λ (a : List ℤ). not (list_any (λ f. clash_at l.e f a) (take l.f-index l.others)));
  left : IsKeyed (length l.maker.domains) l.e;
  right : All (IsKeyed (length l.maker.domains)) l.others;
}
