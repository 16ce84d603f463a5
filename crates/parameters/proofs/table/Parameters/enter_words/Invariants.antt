-- `enter_words`: the words from k on, entered into the table so far, give what all words give into the first table (`Words-left`). A turn
-- enters a word, which has a byte at least, so `to - k` is the measure.
use mathlib.Core.Path.{◌≡◌}
use Prim.Native.Nat.{◌-◌}
use Rattle.parameters.specs.Parts.{placed_in}
use Rattle.parameters.specs.Tables.{text, table_in}
use Rattle.parameters.proofs.EnterAll.{Words-left}
use Rattle.parameters.proofs.table.Parameters.enter_words.Given as goal

abbrev pub invariant-loop-k : goal.invariant-loop-k
invariant-loop-k l =
    (l.self.source ≡ l.initial.self.source)
    × Words-left (text l.initial.self) (placed_in (text l.initial.self) (table_in l.initial.self)) l.from l.to l.initial.name (table_in l.self) l.name l.k

abbrev pub decreases-loop-k : goal.decreases-loop-k
decreases-loop-k l = l.to - l.k
