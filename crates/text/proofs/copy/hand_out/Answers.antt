-- `hand_out`: an answer longer than the buffer is refused 7, by the same test as in `lent`; where it fits, `put` writes it from the
-- buffer's front on and leaves the rest.
use mathlib.Core.Path.{refl}
use Rattle.laws_text.specs.Entry.{lends-no-room, lends-text}
use Rattle.text.proofs.copy.hand_out.Goals as goal

pub returns-then-out-answer : goal.returns-then-out-answer
returns-then-out-answer c = lends-no-room refl c.if-out-answer.true

pub returns : goal.returns
returns c = lends-text refl c.if-out-answer.false c.put.ensures.count c.put.ensures.whole
