use Rattle.model_reader.proofs.OneModel.{are_one, names_of}
use Rattle.confsolve_run.proofs.OneAnswer.{asked_of, answer_of, begun_of, searched_of}
use Rattle.model_reader.proofs.OneStatus.{refused_of, within_text}
use Rattle.confsolve_run.proofs.laws.text_has_one_model.Goals as goal

pub returns-clause-one : goal.returns-clause-one
returns-clause-one c = λ other is. are_one c.args.text.now c.args.model.now other c.requires.model is

pub returns-clause-refused : goal.returns-clause-refused
returns-clause-refused c = λ s is. refused_of c.args.text.now c.args.model.now s c.requires.model is

pub returns-clause-within : goal.returns-clause-within
returns-clause-within c = λ within s is. within_text c.args.text.now c.args.model.now c.requires.model within s is

pub returns-clause-asked : goal.returns-clause-asked
returns-clause-asked c = λ told r journal s is. asked_of c.args.text.now c.args.model.now told r journal s c.requires.model is

pub returns-clause-answered : goal.returns-clause-answered
returns-clause-answered c = λ os journal asked s printed is. answer_of c.args.text.now c.args.model.now os journal asked s printed c.requires.model is

pub returns-clause-begun : goal.returns-clause-begun
returns-clause-begun c = λ os journal asked s whole printed is. begun_of c.args.text.now c.args.model.now os journal asked s whole printed c.requires.model is

pub returns-clause-searched : goal.returns-clause-searched
returns-clause-searched c = λ journal asked is. searched_of c.args.text.now c.args.model.now journal asked c.requires.model is

pub returns-clause-names : goal.returns-clause-names
returns-clause-names c = names_of c.args.text.now c.args.model.now c.requires.model
