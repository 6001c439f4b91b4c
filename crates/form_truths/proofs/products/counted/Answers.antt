use Rattle.std.proofs.Common.{◌≡◌, [], ◌^◌, ℕ, ◌<◌, ◌≤ℤ◌, Bool, List, ℤ, pos, length, sym, ap, ◌∙◌, subst, arith}
use Rattle.signed_clause.specs.Ranges.{Ranges, IsValid}
use Rattle.signed_clause.specs.Clauses.{Boxes, box_of}
use Rattle.ground_form.specs.Bounds.{LiesWithin}
use Rattle.form_build.specs.Sums.{least_linear, greatest_linear}
use Rattle.form_build.proofs.Growth.{no_less, box_kept, world_before, defines_more}
use Rattle.form_build.proofs.Linears.{linear_more}
use Rattle.form_build.proofs.Singles.{ends_ordered}
use Rattle.form_truths.proofs.CountedSums.{when_spans, counted_sum, counted_value}
use Rattle.form_truths.proofs.products.counted.Goals as goal

pub when-requires-clause-flag : goal.when-requires-clause-flag
when-requires-clause-flag c = let more = no_less c.args.m.now c.settled.new.b c.in_ok-item.ensures.adds.grows in omega (arith, more, c.requires.exists)

pub when-requires-clause-truths : goal.when-requires-clause-truths
when-requires-clause-truths c =
    subst (λ (z : Ranges). LiesWithin (pos 0) (pos 1) z) (sym (box_kept c.args.m.now c.settled.new.b c.args.flag c.in_ok-item.ensures.adds.grows c.requires.exists)) c.requires.flag

pub returns-clause-value : goal.returns-clause-value
returns-clause-value c a b w e =
    c.in_ok-r.ensures.value a w.within
    ∙ counted_value c.when.new.self c.in_ok-x.x c.args.flag c.in_ok-item.item _ a b _ c.in_ok-x.ensures.variable w e (c.in_ok-item.ensures.value a (world_before c.settled.new.b c.when.new.self a c.in_ok-x.ensures.adds.grows w))

pub returns-clause-sum : goal.returns-clause-sum
returns-clause-sum c =
    let valid = c.domains-domains.ensures.well_made.domains in
    let item : IsValid (box_of c.settled.new.b.domains c.in_ok-item.item) =
    subst IsValid (box_kept c.settled.new.b c.when.new.self c.in_ok-item.item c.in_ok-x.ensures.adds.grows c.in_ok-item.ensures.exists)
    (valid c.in_ok-item.item [] (let more = no_less c.settled.new.b c.when.new.self c.in_ok-x.ensures.adds.grows in omega (arith, more, c.in_ok-item.ensures.exists))) in
    let own : IsValid (box_of c.when.new.self.domains c.in_ok-x.x) = valid c.in_ok-x.x [] c.in_ok-x.ensures.variable.exists in
    counted_sum c.when.new.self.domains (box_of c.when.new.self.domains c.in_ok-x.x) (least_linear c.args.f.now c.args.m.now.domains) (greatest_linear c.args.f.now c.args.m.now.domains) c.in_ok-r.r
    (when_spans c.settled.new.b.domains c.in_ok-item.item (box_of c.when.new.self.domains c.in_ok-x.x) (least_linear c.args.f.now c.args.m.now.domains) (greatest_linear c.args.f.now c.args.m.now.domains) item own c.in_ok-x.ensures.variable.box c.in_ok-item.ensures.lies)
    (ends_ordered (box_of c.when.new.self.domains c.in_ok-x.x) own) c.requires.low c.requires.high c.in_ok-r.ensures.linear c.in_ok-r.ensures.lies

pub returns-clause-adds : goal.returns-clause-adds
returns-clause-adds c = defines_more c.args.m.now c.settled.new.b c.when.new.self c.in_ok-item.ensures.adds c.in_ok-x.ensures.adds

pub settled-requires-clause-linear : goal.settled-requires-clause-linear
settled-requires-clause-linear c = linear_more (2 ^ 58) (2 ^ 60) c.args.m.now.domains c.args.f.now (omega arith) c.requires.linear
