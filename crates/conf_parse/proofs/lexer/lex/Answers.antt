use Rattle.std.proofs.Common.{rules}
use Rattle.std.proofs.lemmas.Result.{err_from_is_err_and}
use Rattle.conf_syntax.proofs.SpelledWords.{spelled_words}
use Rattle.conf_parse.proofs.Reading.{read_token, read_gap, read_all, refused, few}
use Rattle.conf_parse.proofs.OneReading.{read_one_way}
use Rattle.conf_parse.proofs.Exact.{only_these, only_memory, not_at_byte, not_at_number, at_byte, at_number}
use Rattle.conf_parse.proofs.lexer.lex.Goals as goal

pub loop-at-preserved-in-Some : goal.loop-at-preserved-in-Some
loop-at-preserved-in-Some c =
    read_gap c.args.text.now c.loop-at.tokens.items c.loop-at.at c.in-Some.length c.loop-at.invariant c.in-Some.ensures

pub loop-at-preserved : goal.loop-at-preserved
loop-at-preserved c =
    read_token c.args.text.now c.loop-at.tokens.items c.push.new.self.items c.loop-at.at c.in_ok-token.length c.in_ok-token.token c.loop-at.invariant c.in_ok-token.ensures (search rules)

pub returns : goal.returns
returns c =
    let spells = read_all c.args.text.now c.loop-at.tokens.items c.loop-at.at c.loop-at.invariant c.loop-at-test.false in
    record {
      tokens = spells;
      few = few c.args.text.now c.loop-at.tokens.items spells;
      words = spelled_words c.args.text.now c.loop-at.tokens.items spells;
      refusal = tt;
      only = only_these c.args.text.now c.loop-at.tokens.items spells;
      bad_byte = not_at_byte c.args.text.now c.loop-at.tokens.items spells;
      too_large = not_at_number c.args.text.now c.loop-at.tokens.items spells;
      one_way = read_one_way c.args.text.now;
    }

pub returns-in_err-token : goal.returns-in_err-token
returns-in_err-token c =
    let exit = err_from_is_err_and c.from_residual.result c.from_residual.ensures.1 in
    let error = c.in_err-token.field-0.0 in
    let stuck = refused c.args.text.now c.loop-at.tokens.items c.loop-at.at error c.loop-at.invariant c.in_err-token.ensures in
    rw (exit.1, exit.2) (record {
      tokens = tt;
      few = tt;
      words = tt;
      refusal = stuck;
      only = only_memory c.args.text.now error stuck;
      bad_byte = at_byte c.args.text.now error stuck;
      too_large = at_number c.args.text.now error stuck;
      one_way = read_one_way c.args.text.now;
    })

pub returns-in_err-push-clause-one_way : goal.returns-in_err-push-clause-one_way
returns-in_err-push-clause-one_way c = read_one_way c.args.text.now
