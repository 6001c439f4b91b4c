use Rattle.std.proofs.Common.{◌++◌, ◌+◌, ◌<◌, Some, [], ◌∷◌, drop, map, length, sym, ap, ◌∙◌, append_assoc, arith}
use Rattle.class_table.specs.declared.paths.Spot.{Spot}
use Rattle.class_table.specs.Outline.{own_in}
use Rattle.class_table.specs.Paths.{variable_at}
use Rattle.class_table.proofs.PathLaws.{own_next}
use Rattle.class_table.proofs.ScopeSteps.{map_append}
use Rattle.class_table.proofs.paths.add_spots.Goals as goal

pub loop-own-preserved : goal.loop-own-preserved
loop-own-preserved c =
    let cs = c.args.classes.now in
    let own = own_in cs c.args.class in
    let f = variable_at cs in
    let low : c.loop-own.own < length own = omega (arith, c.loop-own-test.true, ap length c.own_of-own-end.ensures.own) in
    let spot : Spot = record { class = c.args.class; own = c.loop-own.own } in
    ap (λ ss. map f ss ++ map Some (drop (c.loop-own.own + 1) own)) c.in_ok-push.ensures.items
    ∙ ap (λ ss. ss ++ map Some (drop (c.loop-own.own + 1) own)) (map_append f c.loop-own.spots.items (spot ∷ []))
    ∙ append_assoc (map f c.loop-own.spots.items) (f spot ∷ []) (map Some (drop (c.loop-own.own + 1) own))
    ∙ ap (λ ss. map f c.loop-own.spots.items ++ ss) (sym (own_next cs c.args.class c.loop-own.own low))
    ∙ c.loop-own.invariant
