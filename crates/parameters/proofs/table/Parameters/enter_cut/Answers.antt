-- `enter_cut`: words with one space between stand where their elements are placed (`cut_all`).
use mathlib.Core.Path.{ap}
use mathlib.Core.List.{map}
use Rattle.parameters.specs.Parts.{placed_of}
use Rattle.parameters.specs.Tables.{text}
use Rattle.parameters.proofs.Tabled.{cut_all}
use Rattle.parameters.proofs.table.Parameters.enter_cut.Goals as goal

pub returns-clause-entered : goal.returns-clause-entered
returns-clause-entered c =
    rw (cut_all (text c.args.self.now) c.args.self.now.source.n c.requires.s_value, ap (map (placed_of (text c.args.self.now))) c.requires.none) at c.enter_words.ensures.entered
