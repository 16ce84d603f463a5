-- The word of the value that is given, or of `enuf`.
use Rattle.rules.specs.Text.Ascii.{ascii}
use Rattle.prepare.specs.Lookup.{params_in}
use Rattle.prepare.proofs.OwnRules.{given_word, given-none}
use Rattle.prepare.proofs.own.word_given.Goals as goal

pub returns-in-Some : goal.returns-in-Some
returns-in-Some c = given_word (params_in c.args.table.now) c.args.key.now c.in-Some.ensures c.word_of.ensures

pub returns-in-None : goal.returns-in-None
unfolding ascii
returns-in-None c = given-none (params_in c.args.table.now) c.args.key.now c.in-None.ensures c.word_of-in-None.ensures
