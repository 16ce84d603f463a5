-- `normal_of`: a calm text is its own normal form, and is copied; any other is worked out.
use mathlib.Core.Path.{sym, ◌∙◌}
use Rattle.normalise.proofs.Calm.{calm-room, calm-holds}
use Rattle.normalise.proofs.normal.normal_of.Goals as goal

pub put-requires : goal.put-requires
put-requires c = calm-room _ (sym c.is_calm.ensures ∙ c.if-is_calm.true) c.requires.text_in_bounds

pub returns-then-is_calm : goal.returns-then-is_calm
returns-then-is_calm c =
    calm-holds _ (sym c.is_calm.ensures ∙ c.if-is_calm.true) c.put.ensures
