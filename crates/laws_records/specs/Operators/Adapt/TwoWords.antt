-- What the text of `adapt` rests on, in either mode: the two words of its arguments, and that they are read as these arguments.
use Rattle.std.specs.Prelude.{◌≡◌, ◌≤◌, List, [], ◌∷◌, length, ℤ, Some}
use Rattle.rules.specs.Text.Bytes.{Bytes}
use Rattle.rules.specs.Operators.Arguments.{key_value}
use Rattle.rules.specs.Operators.Adapt.{word, between}
use Rattle.rules.specs.Operators.Documented.{adapt_in, combined_in}
use Rattle.rules.specs.Pipeline.Write.{arg_words}
use Rattle.rules.specs.declared.Mode.{Mode}
use Rattle.laws_records.specs.Numbers.{Firmly}

pub record Spelt (mode : Mode) (l : List ℤ) : Type 0 where
  pub from : Bytes
  pub to : Bytes
  pub are : arg_words (adapt_in mode) l ≡ key_value "from" from ∷ key_value "to" to ∷ []
  -- each word is made of bytes that a word may have, and is short
  pub from-firm : Firmly from
  pub from-short : length from ≤ 8
  pub to-firm : Firmly to
  pub to-short : length to ≤ 8
  -- the two are read as the arguments
  pub again : between (combined_in mode) (word from) (word to) ≡ Some l
