-- `insert`: what was from the place on is copied up by one, and p is put there.
use mathlib.Core.Path.{sym, ◌∙◌}
use Rattle.parameters.proofs.Entry.{insert-held, insert-good}
use Rattle.parameters.proofs.table.Parameters.insert.Goals as goal

pub invariant_of-self : goal.invariant_of-self
invariant_of-self c = record {
  good = insert-good c.args.self.now.good c.requires.within c.requires.found.0 c.if-self-eq32.false c.copy_within.ensures.after c.copy_within.ensures.len;
}

pub returns-clause-entered : goal.returns-clause-entered
returns-clause-entered c =
    insert-held c.args.self.now.good c.requires.within c.requires.found.0 c.if-self-eq32.false c.copy_within.ensures.after ∙ sym c.requires.found.1
