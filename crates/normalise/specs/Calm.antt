-- A text that its normal form leaves as it is, by a test of each byte and the one before it.
use Rattle.std.specs.Prelude.{ℕ, Bool, true, false, cond, not, ◌&&◌, [], ◌∷◌, eqb, ltb}
use Rattle.rules.specs.Text.Bytes.{Bytes}
use Rattle.normalise.specs.declared.normal.Sort.{Sort}
use Rattle.normalise.specs.declared.normal.Sort.TheVariants.{Plain, Mark, Space, Other}

-- a plain byte; a mark, one of `= : , | $`, next to which no space may stand; a space; another, that is not passed over
unfoldable pub sort : ℕ → Sort
sort b =
    cond (eqb b 32) Space
    (cond (ltb b 32) Other
    (cond (ltb 127 b) Other
    (cond (eqb b 60) Other
    (cond (eqb b 62) Other
    (cond (eqb b 61) Mark
    (cond (eqb b 58) Mark
    (cond (eqb b 44) Mark
    (cond (eqb b 124) Mark
    (cond (eqb b 36) Mark Plain)))))))))

unfoldable pub is_plain : Sort → Bool
is_plain Plain = true
is_plain Mark = false
is_plain Space = false
is_plain Other = false

unfoldable pub is_space : Sort → Bool
is_space Plain = false
is_space Mark = false
is_space Space = true
is_space Other = false

-- may a byte of the second sort follow one of the first?
unfoldable pub follows : Sort → Sort → Bool
follows last Plain = true
follows last Mark = not (is_space last)
follows last Space = is_plain last
follows last Other = false

-- each byte may follow the one before it, and the last is plain
unfoldable pub calm_from : Sort → Bytes → Bool
calm_from last [] = is_plain last
calm_from last (x ∷ t) = follows last (sort x) && calm_from (sort x) t
