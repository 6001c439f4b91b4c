use Rattle.stated_facts.proofs.equals.balance_of.Goals as goal

pub returns : goal.returns
returns c = record { linear = c.requires.linear; adds = λ e. c.requires.follows; takes = c.in_ok-takes.ensures }
