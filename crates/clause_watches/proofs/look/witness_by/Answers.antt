use Rattle.std.proofs.Common.{rules, tests, ◌≡◌, ◌≢◌, ◌∙◌, ℤ, List, ap, bit_and, w64}
use Rattle.std.proofs.lemmas.Int.{to_z-of_z}
use Rattle.clause_watches.specs.Sound.{least_at}
use Rattle.clause_watches.proofs.PackLaws.{copy_shown, copy_out}
use Rattle.clause_watches.proofs.look.witness_by.Goals as goal

pub returns-then-l-seen-ne0-clause-some : goal.returns-then-l-seen-ne0-clause-some
returns-then-l-seen-ne0-clause-some c = λ d.
    let t = c.args.table.now in
    let low : c.least_of-least.result ≡ least_at t.leasts.items c.args.l.variable =
    c.least_of-least.ensures
    ∙ ap (λ (xs : List ℤ). least_at xs c.args.l.variable) c.as_slice.ensures.value in
    let some : bit_and c.args.l.bits c.box_bits-seen.result.bits ≢ 0 = search (rules, tests) in
    copy_shown t.leasts.items c.args.at.now _ c.args.l _ c.box_bits-seen.result.bits
    (c.requires.copy d) (to_z-of_z w64 c.least_of-least.result (search rules) ∙ low)
    c.box_bits-seen.ensures.valid c.box_bits-seen.ensures.bits some

pub returns-then-seen-clause-none : goal.returns-then-seen-clause-none
returns-then-seen-clause-none c = λ d.
    let t = c.args.table.now in
    let low : c.least_of-least.result ≡ least_at t.leasts.items c.args.l.variable =
    c.least_of-least.ensures
    ∙ ap (λ (xs : List ℤ). least_at xs c.args.l.variable) c.as_slice.ensures.value in
    let none : bit_and c.args.l.bits c.box_bits-seen.result.bits ≡ 0 = search (rules, tests) in
    copy_out t.leasts.items c.args.at.now _ c.args.l _ c.box_bits-seen.result.bits
    (c.requires.copy d) (to_z-of_z w64 c.least_of-least.result (search rules) ∙ low)
    c.box_bits-seen.ensures.valid (c.box_bits-seen.ensures.whole c.if-seen.true) none
