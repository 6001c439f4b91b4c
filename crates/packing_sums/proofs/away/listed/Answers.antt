use Rattle.std.proofs.Common.{◌≡◌, ℕ, List, false, pos, get_or, sym, subst}
use Rattle.std.specs.Ordering.{int_eq}
use Rattle.std.proofs.lemmas.List.Elements.{All-push}
use Rattle.ground_form.specs.Meaning.{value_of}
use Rattle.packing_sums.specs.Hosts.{NoneAt}
use Rattle.packing_sums.proofs.away.listed.Goals as goal

pub loop-q-preserved : goal.loop-q-preserved
loop-q-preserved c bin a h =
    subst (λ (z : List ℕ). NoneAt bin z a) (sym c.in_ok-push.ensures.items)
    (All-push (λ (x : ℕ). int_eq (value_of a x) (pos bin) ≡ false) c.loop-q.vars.items (get_or c.args.others.now c.loop-q.q-index (0, 0)).0 (c.loop-q.invariant bin a h) (h c.loop-q.q-index (0, 0) c.loop-q-test.true))
