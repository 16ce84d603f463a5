-- Words, as they are written.
use Rattle.std.specs.Prelude.{[], ◌∷◌}
use Rattle.rules.specs.Text.Bytes.{Bytes, Words, after_each}

-- each word after a space
abbrev pub spaced : Words → Bytes
spaced ws = after_each (32 ∷ []) ws
