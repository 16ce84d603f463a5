-- `after_none`: behind a bar, where nothing else is put, a space is owed; the first text may be empty.
use Rattle.proj.proofs.Puts.{after-nothing, after-other}
use Rattle.proj.proofs.layout.Last.after_none.Goals as goal

pub returns-in-Nothing : goal.returns-in-Nothing
returns-in-Nothing c = after-nothing c.in-Nothing.is

pub returns-in_default : goal.returns-in_default
returns-in_default c = after-other c.args.self c.in_default.not-Nothing
