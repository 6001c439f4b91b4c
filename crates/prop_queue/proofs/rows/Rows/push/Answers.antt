use Rattle.std.proofs.Common.{rules, ◌≡◌, ◌<◌, ◌==◌, ◌||◌, ◌&&◌, ℕ, List, [], ◌∷◌, ◌++◌, length, map, slice_set, ap, ◌∙◌, sym, subst}
use Rattle.rule_law.specs.Reasons.{has_number}
use Rattle.prop_queue.specs.Work.{row_of}
use Rattle.prop_queue.proofs.RowLaws.{row_is, row_pushed}
use Rattle.prop_queue.proofs.rows.Rows.push.Goals as goal

pub returns-clause-rows : goal.returns-clause-rows
returns-clause-rows c = λ y j.
    let rows = c.self.inside.rows.items in
    let x = c.args.x in
    let k = c.args.k in
    let here : x < length (map (λ r. r.items) rows) =
    subst (λ (v : List (List ℕ)). x < length v) (sym c.self.view_is) c.requires in
    let there : c.index_mut.result.now.items ≡ row_of (map (λ r. r.items) rows) x =
    row_is (λ r. r.items) rows x c.index_mut.result.now _ here c.index_mut.ensures.value in
    let grown : c.push.new.self.items ≡ c.index_mut.result.now.items ++ k ∷ [] = search rules in
    let pushed = row_pushed (λ r. r.items) rows x y k j c.push.new.self here
    (grown ∙ ap (λ (l : List ℕ). l ++ k ∷ []) there) in
    subst (λ (v : List (List ℕ)). has_number j
    (row_of (map (λ r. r.items) (slice_set rows x c.push.new.self)) y) ≡
    (has_number j (row_of v y) || x == y && k == j)) c.self.view_is pushed
