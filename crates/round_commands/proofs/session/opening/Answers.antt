use Rattle.round_commands.proofs.session.opening.Goals as goal

pub returns-clause-is_open : goal.returns-clause-is_open
returns-clause-is_open c = record { at = c.in_ok-session.ensures.at c.args.budget; named = c.requires.named }
