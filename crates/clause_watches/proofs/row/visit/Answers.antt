use Rattle.std.proofs.Common.{rules, ◌≡◌, ◌∷◌, ◌∙◌, List, length, subst, sym, ap, slice_set}
use Rattle.std.specs.List.Sorted.{IsPermutation}
use Rattle.clause_watches.specs.declared.rest.Rest.{Rest}
use Rattle.clause_watches.specs.declared.watch.Watch.{Watch}
use Rattle.clause_watches.specs.Watching.{rest_of}
use Rattle.clause_watches.specs.Rows.{IsWalked, IsTrueOf, forgotten}
use Rattle.clause_watches.proofs.WalkLaws.{walked_on, walked_out, below_out, below_at}
use Rattle.clause_watches.proofs.row.visit.Goals as goal

pub returns-then-is_met-clause-walked : goal.returns-then-is_met-clause-walked
returns-then-is_met-clause-walked c = λ sets before mask at valid walked.
    let s = c.args.site in
    let w = c.get-watch.result in
    let right = subst (λ (v : Watch). IsTrueOf s.least (sets v.clause) v.witness)
    (sym (c.get-watch.ensures.watch w))
    (walked.right c.args.k w c.requires.there) in
    let meets = c.is_met.ensures c.if-is_met.true s.least (sets w.clause) mask right
    (valid w.clause) at in
    walked_on sets c.args.at.now s before c.args.rests.now c.args.row.now c.args.k w
    c.requires.there c.get-watch.ensures.watch meets walked

pub returns-clause-below : goal.returns-clause-below
returns-clause-below c =
    below_out (length c.args.rests.now) (length c.set.new.self) c.args.row.now c.remove.new.self
    c.remove.result c.remove.ensures.others
    (search rules) c.requires.below

pub returns-clause-walked : goal.returns-clause-walked
returns-clause-walked c = λ sets before mask at valid walked.
    let s = c.args.site in
    let w = c.get-watch.result in
    let rests = c.args.rests.now in
    let row = c.args.row.now in
    let below = below_at (length rests) c.args.k row w c.requires.below c.requires.there
    c.get-watch.ensures.watch in
    let same : c.remove.result ≡ w = c.remove.ensures.watch w ∙ sym (c.get-watch.ensures.watch w) in
    let moved = subst (λ (v : Watch). IsPermutation row (v ∷ c.remove.new.self)) same
    c.remove.ensures.others in
    let out = walked_out sets c.args.at.now s before rests row c.remove.new.self c.args.k w below
    c.remove.ensures.before moved walked in
    let news : c.set.new.self ≡ slice_set rests w.clause
    (forgotten s.variable (rest_of rests w.clause)) =
    c.set.ensures ∙ ap (λ (r : Rest). slice_set rests w.clause r)
    (c.forgotten.ensures ∙ ap (λ (r : Rest). forgotten s.variable r) c.get-rest.ensures) in
    subst (λ (l : List Rest). IsWalked sets c.args.at.now s before l c.remove.new.self c.args.k)
    (sym news) out
