-- `with`: each of the three marks is told anew by the word.
use Rattle.std.proofs.Common.{◌≡◌, ◌&&◌, ◌||◌, ap, not}
use Rattle.proj_words.proofs.Facts.{marked}
use Rattle.proj_words.proofs.exchange.Marks.with.Goals as goal
use Rattle.proj_words.proofs.exchange.Marks.with.Goals.{then-self, else-self, then-self-2, else-self-2}

pub returns-else-self-3 : goal.returns-else-self-3
returns-else-self-3 c =
    let inv : c.if-self.result ≡ (c.args.self.inv || c.is_inv-inv.result) = elim c.if-self.branch [
      | then-self w ↦ rw (w.result-is, w.if-self.true)
      | else-self w ↦ rw (w.result-is, w.if-self.false)
    ] in
    let only : c.if-self-2.result ≡ (c.args.self.only && c.is_inv-inv.result) = elim c.if-self-2.branch [
      | then-self-2 w ↦ rw (w.result-is, w.if-self-2.true)
      | else-self-2 w ↦ rw (w.result-is, w.if-self-2.false)
    ] in
    marked c.is_inv-inv.ensures inv only (rw c.if-self-3.false (ap not c.is_empty.ensures))
