-- `rewrite`: where `find` finds no `old`, replacing changes nothing, and the text stays; else it is written into b with the replacements,
-- and put back.
use Rattle.normalise.proofs.Replacements.{rewrite-none}
use Rattle.text.proofs.Wrote.{wrote-front, wrote-holds}
use Rattle.normalise.proofs.normal.rewrite.Goals as goal

pub returns-then-n-first : goal.returns-then-n-first
returns-then-n-first c =
    rewrite-none c.args.old.now c.args.new.now c.requires.n_in_bounds c.find-first.ensures c.if-n-first.true

pub returns : goal.returns
returns c =
    wrote-holds (rw (wrote-front c.replace_from-m.ensures) at c.put.ensures)
