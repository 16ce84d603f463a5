-- The parts of a step's text, as the functions write them.
use Rattle.std.specs.Prelude.{ℕ, Bool, cond, [], ◌∷◌, ◌++◌}
use Rattle.rules.specs.Text.Ascii.{ascii}
use Rattle.rules.specs.Text.Bytes.{Bytes}
use Rattle.rules.specs.Pipeline.Record.{is_set}
use Rattle.rules.specs.Pipeline.Write.{writing}
use Rattle.rules.specs.declared.Step.{Step}

-- a mark, where it is set
unfoldable pub marked : Bytes → ℕ → Bytes
marked word mark = cond (is_set mark) word []

unfoldable pub mark_text : ℕ → ℕ → ℕ → Bytes
mark_text inv fwd back = marked (ascii " inv") inv ++ (marked (ascii " omit_fwd") fwd ++ marked (ascii " omit_inv") back)

-- a record's text, after ` | ` if others have come before it
unfoldable pub parted : Bool → Step → Bytes
parted begun s = cond begun (32 ∷ 124 ∷ 32 ∷ []) [] ++ writing s
