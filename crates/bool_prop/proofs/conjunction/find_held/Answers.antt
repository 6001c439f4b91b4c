use Rattle.std.proofs.Common.{◌≡◌, ◌+◌, ℕ, Bool, false, get_or, drop, arith, inr}
use Rattle.std.specs.Prelude.{◌==◌}
use Rattle.std.proofs.lemmas.Bool.Decides.{nat_tests}
use Rattle.bool_prop.specs.Findings.{IsPartOpen}
use Rattle.bool_prop.proofs.ConjunctionQuiet.{held_quiet, rest_none, rest_open, rest_at, part_at}
use Rattle.bool_prop.proofs.conjunction.find_held.Goals as goal

pub returns-in-None : goal.returns-in-None
returns-in-None c =
    held_quiet c.args.flag c.args.parts.now c.args.boxes.now c.requires.scene c.requires.held (rest_none c.args.parts.now c.args.boxes.now c.in-None.ensures.none)

pub returns-else-parts-i : goal.returns-else-parts-i
returns-else-parts-i c =
    let parts = c.args.parts.now in let boxes = c.args.boxes.now in let i = c.in-Some.i in
    let lt = c.in-Some.ensures.within in
    let first = c.if-parts-i.false in
    let p = get_or parts i (0, false) in
    let differ : (p.0 == c.args.flag) ≡ false = grind (arith, nat_tests) in (
      lt,
      part_at (λ (q : ℕ × Bool). IsPartOpen c.args.flag q boxes) parts i (0, false) lt (record {
        differ = differ;
        acts = inr (c.requires.held, rest_open parts boxes p (drop (i + 1) parts) (rest_at parts parts boxes i (0, false) lt c.in-Some.ensures.rest));
      }),
    )
