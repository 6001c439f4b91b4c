use Rattle.conf_session.proofs.KeyLaws.{key_new, key_either}
use Rattle.conf_session.proofs.stated.insert.Goals as goal

pub returns-clause-new : goal.returns-clause-new
returns-clause-new c = λ cons h.
    key_new cons c.args.stated.now.keys c.in_ok-key.key c.args.clause.now c.in_ok-new.new c.in_ok-key.ensures c.in_ok-new.ensures.new h

pub returns-clause-keys : goal.returns-clause-keys
returns-clause-keys c = λ cons h.
    key_either cons c.args.stated.now.keys c.insert_key.new.stated.keys c.in_ok-key.key c.args.clause.now c.in_ok-new.new c.in_ok-key.ensures c.in_ok-new.ensures.new c.in_ok-new.ensures.keys h
