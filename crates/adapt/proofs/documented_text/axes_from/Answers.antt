-- `axes_from`: the axes by the codes of the four input places.
use mathlib.Core.Path.{◌∙◌}
use mathlib.Core.List.{map}
use Rattle.rules.specs.Operators.Adapt.{axis}
use Rattle.rules.specs.Operators.Documented.{letters_for, letters_from}
use Rattle.adapt.proofs.documented_text.axes_from.Goals as goal

pub returns : goal.returns
unfolding letters_from
returns c =
    c.axes_for.ensures
    ∙ (λ i. map axis (letters_for (c.code_from.ensures i) (c.code_from-2.ensures i) (c.code_from-3.ensures i) (c.code_from-4.ensures i)))
