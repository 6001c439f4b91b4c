use Rattle.std.proofs.Common.{◌≡◌, ℕ, true, List, length, arith, subst, sym, ◌∙◌, ap}
use Rattle.ground_form.specs.declared.con.Con.{Con}
use Rattle.rule_law.specs.Reasons.{has_number}
use Rattle.signed_clause.specs.Clauses.{Boxes}
use Rattle.prop_queue.specs.Work.{work, clauses_from, others_from}
use Rattle.prop_queue.specs.Lists.{IsFilled, AreBelow}
use Rattle.prop_queue.proofs.FitLaws.{over_made, fits_any, row_marked, known_listed}
use Rattle.prop_queue.proofs.ClauseLaws.{other_below}
use Rattle.prop_queue.proofs.queue.Queue.new.Goals as goal

pub list_row-requires : goal.list_row-requires
list_row-requires c k h =
    let there = subst (λ (ns : List ℕ). has_number k ns ≡ true)
    (c.as_slice.ensures.value ∙ c.in_ok-others.ensures) h in
    let below = other_below c.items-cons.result.now 0 k there in
    omega (arith, below, c.in_ok-listing.ensures.size, c.in_ok-urgencies.ensures.size)

pub invariant_of-result : goal.invariant_of-result
invariant_of-result c =
    let size : length c.list_row.new.listing.marks ≡ length c.items-cons.result.now =
    c.list_row.ensures.size ∙ c.in_ok-listing.ensures.size ∙ c.in_ok-urgencies.ensures.size in
    record {
      listed = subst (λ (n : ℕ). AreBelow n c.in_ok-rows.rows) (sym size)
          c.in_ok-rows.ensures.filled.below;
      whole = λ k h.
          let there = subst (λ (ns : List ℕ). has_number k ns ≡ true) c.in_ok-others.ensures h in
          let below = other_below c.items-cons.result.now 0 k there in
          omega (arith, below, size);
      watched = c.in_ok-clauses.ensures.variables ∙ sym c.in_ok-rows.ensures.size;
    }

pub returns-clause-over : goal.returns-clause-over
returns-clause-over c =
    let g = c.args.g.now in
    let cons = c.items-cons.ensures in
    let filled = subst (λ (cs : List Con). IsFilled cs c.in_ok-rows.rows (length cs)) cons
    c.in_ok-rows.ensures.filled in
    over_made g
    (work c.list_row.new.listing.marks c.in_ok-rows.rows c.in_ok-others.others.items
    c.in_ok-clauses.clauses)
    (c.list_row.ensures.size ∙ c.in_ok-listing.ensures.size ∙ c.in_ok-urgencies.ensures.size
    ∙ ap (λ (cs : List Con). length cs) cons)
    (c.in_ok-rows.ensures.size ∙ ap (λ (ds : Boxes). length ds) c.items-domains.ensures) filled
    (subst (λ (cs : List Con). c.in_ok-others.others.items ≡ others_from 0 cs) cons
    c.in_ok-others.ensures)
    (subst (λ (cs : List Con). c.in_ok-clauses.clauses.added ≡ clauses_from 0 cs) cons
    c.in_ok-clauses.ensures.added)
    (c.in_ok-clauses.ensures.variables ∙ ap (λ (ds : Boxes). length ds) c.items-domains.ensures)

pub returns-clause-fits : goal.returns-clause-fits
returns-clause-fits c boxes =
    let g = c.args.g.now in
    let others = subst (λ (cs : List Con). c.in_ok-others.others.items ≡ others_from 0 cs)
    c.items-cons.ensures c.in_ok-others.ensures in
    record {
      others = fits_any g c.list_row.new.listing.marks c.in_ok-others.others.items boxes others
          (row_marked c.in_ok-listing.listing.marks c.list_row.new.listing.marks
          c.as_slice.result.now c.in_ok-others.others.items c.as_slice.ensures.value
          c.list_row.ensures.marks);
      clauses = λ i. known_listed boxes _ _ (c.in_ok-clauses.ensures.listed i);
    }
