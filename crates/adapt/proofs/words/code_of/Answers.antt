-- `code_of`: the code is 0 where the angles are alike, and else three times one and the other.
use Rattle.adapt.proofs.TwoWords.{code_same, code_other}
use Rattle.adapt.proofs.words.code_of.Goals as goal

pub returns-then-eq : goal.returns-then-eq
returns-then-eq c = code_same c.args.from c.args.to c.if-eq.ensures

pub returns : goal.returns
returns c = code_other c.args.from c.args.to c.if-eq.ensures
