-- `word_of`: `pass` is read as `enuf`, and any other text as it is.
use mathlib.Core.Path.{sym, ◌∙◌}
use Rattle.rules.specs.Text.Ascii.{ascii}
use Rattle.adapt.proofs.WordRead.{word-pass, word-other}
use Rattle.adapt.proofs.words.word_of.Goals as goal

pub returns-then-is_same : goal.returns-then-is_same
unfolding ascii
returns-then-is_same c = word-pass _ (sym c.is_same.ensures ∙ c.if-is_same.true) c.letters.ensures

pub returns : goal.returns
unfolding ascii
returns c = word-other _ (sym c.is_same.ensures ∙ c.if-is_same.false) c.letters-2.ensures
