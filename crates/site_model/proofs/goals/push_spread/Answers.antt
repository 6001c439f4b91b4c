use Rattle.site_model.proofs.ListLaws.{three_written}
use Rattle.site_model.proofs.goals.push_spread.Goals as goal

pub returns : goal.returns
returns c =
    three_written c.args.text.now.items c.push_most.new.text.items c.push_loads.new.text.items
    c.push_total.new.text.items _ _ _
    (rw (c.deref.ensures.value, c.in_ok-most.ensures, c.most_digits.ensures) at c.in_ok-push_most.ensures)
    (rw (c.deref-2.ensures.value, c.in_ok-word.ensures) at c.in_ok-push_loads.ensures)
    (rw (c.deref-3.ensures.value, c.in_ok-count.ensures, c.host_count.ensures, c.deref-4.ensures.value, c.in_ok-word.ensures) at c.in_ok-push_total.ensures)
