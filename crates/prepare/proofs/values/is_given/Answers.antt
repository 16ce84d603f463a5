-- A key is given where a value is found.
use mathlib.Core.Path.{◌≡◌, ◌∙◌}
use mathlib.Core.List.{List}
use Rattle.std.specs.Prelude.{Option, Some, None}
use Rattle.std.proofs.Common.{Bor}
use Rattle.std.specs.Option.{is_some}
use Rattle.rules.specs.Text.Lists.{is_none}
use Rattle.rules.specs.Text.Bytes.{Bytes}
use Rattle.rules.specs.Text.Parameters.{Parameter}
use Rattle.prepare.specs.Lookup.{given, Looks}
use Rattle.prepare.proofs.values.is_given.Goals as goal

told : (ps : List Parameter) (key : Bytes) (r : Option (Bor Bytes)) → Looks ps key r → is_some r ≡ given key ps
unfolding given is_none
told ps key (Some v) h = rw h
told ps key None h = rw h

pub returns : goal.returns
returns c = c.is_some.ensures ∙ told _ _ c.value_of.result c.value_of.ensures
