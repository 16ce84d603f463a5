-- `combined`: the eight arguments are by their places what `combined` lists: four outputs, the code of the angles twice, and two zeros.
use Rattle.laws_lists.specs.Signed.{given_is}
use Rattle.adapt.proofs.TwoWords.{between-so}
use Rattle.adapt.proofs.words.combined.Goals as goal

pub returns : goal.returns
returns c =
    between-so _ _ (given_is c.output-o1.type_inv c.output-o1.ensures) (given_is c.output-o2.type_inv c.output-o2.ensures)
    (given_is c.output-o3.type_inv c.output-o3.ensures) (given_is c.output-o4.type_inv c.output-o4.ensures) (given_is c.code_of-code.type_inv c.code_of-code.ensures)
