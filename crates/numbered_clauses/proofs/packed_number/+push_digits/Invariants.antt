use Rattle.numbered_clauses.proofs.packed_number.+push_digits.Given as goal

abbrev pub decreases-push_digits : goal.decreases-push_digits
decreases-push_digits l = l.more
