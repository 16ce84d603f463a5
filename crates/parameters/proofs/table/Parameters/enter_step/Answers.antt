-- `enter_step`: the words after the modifiers in front are entered first, then these: that is the order in which `turned` has them. A table
-- that is full after the first is full after both.
use mathlib.Core.Path.{ap}
use mathlib.Core.List.{map}
use Rattle.std.proofs.lemmas.Result.{err_from_is_err_and}
use Rattle.parameters.specs.declared.table.Source.{Source}
use Rattle.parameters.specs.Parts.{placed_of}
use Rattle.parameters.specs.Tables.{text}
use Rattle.parameters.proofs.Tabled.{spelt-fits, tabled-full, tabled-both}
use Rattle.parameters.proofs.table.Parameters.enter_step.Goals as goal

pub returns-in_err-enter_words-clause-entered : goal.returns-in_err-enter_words-clause-entered
returns-in_err-enter_words-clause-entered c =
    let q = err_from_is_err_and c.from_residual.result c.from_residual.ensures.1 in
    rw q.1 (
      tt,
      tabled-full (text c.args.self.now) c.args.self.now.source.n (spelt-fits c.args.self.now.source.spelt) c.lead_end-k.ensures c.requires.s_value
          (rw (ap (map (placed_of (text c.args.self.now))) c.requires.none) at c.in_err-enter_words.ensures.entered.1),
    )

pub returns-clause-entered : goal.returns-clause-entered
returns-clause-entered c =
    tabled-both (text c.args.self.now) c.args.self.now.source.n (spelt-fits c.args.self.now.source.spelt) c.lead_end-k.ensures c.requires.s_value c.enter_words-2.new.self _
    (rw (
      ap (λ (x : Source). x.s.now) c.in_ok-enter_words.ensures.from,
      c.in_ok-enter_words.ensures.entered.0,
      ap (map (placed_of (text c.args.self.now))) c.requires.none,
    ) at c.enter_words-2.ensures.entered)
