-- The normal form of a text in one pass: a machine over its bytes.
use Rattle.std.specs.Prelude.{ℕ, ◌-◌, Bool, cond, ◌&&◌, ◌||◌, not, [], ◌∷◌, ◌++◌, eqb, ltb}
use Rattle.rules.specs.Text.Ascii.{is}
use Rattle.rules.specs.Text.Bytes.{Bytes, white, trimmed}
use Rattle.laws_normal.specs.Whole.{shut₇, bars₆, due, word, digits₉}

-- `mode`: what was written last. 0: a plain byte; 1: nothing yet, or one of `= : , | $`, behind which no space may stand; 2: one of
-- the two words for `>` and `<`, behind which a space is due; 3 and 4: nothing, and the first one or two bytes of a subscript
-- digit are held back; 80 and above: a whole digit is held back, and the mode is its last byte (128 to 137; 5 to 79 never occur).
-- `gap`: the white space passed since. 0: none; 1: some; 2: some, and the byte before was a newline.
pub record State : Type 0 where
  pub mode : ℕ
  pub gap : ℕ

-- is the byte a colon that is passed over?
unfoldable pub skips : ℕ → ℕ → Bool
skips gap x = eqb x 58 && eqb gap 2

-- does a space stand before the byte?
unfoldable pub spaces : ℕ → ℕ → ℕ → Bool
spaces mode gap x = eqb mode 2 || (not (eqb mode 1 || bars₆ x) && not (eqb gap 0))

-- what is held back
unfoldable pub kept_of : ℕ → Bytes
kept_of mode = cond (eqb mode 3) (226 ∷ []) (cond (eqb mode 4) (226 ∷ 130 ∷ []) (cond (ltb 79 mode) (226 ∷ 130 ∷ mode ∷ []) []))

-- a byte by itself: the mode behind it, and what is written of it
unfoldable pub fresh : ℕ → ℕ
fresh x = cond (eqb x 226) 3 (cond (due x) 2 (cond (shut₇ x) 1 0))

unfoldable pub freshly : ℕ → Bytes
freshly x = cond (eqb x 226) [] (word x)

-- a byte right behind the one before it
unfoldable pub joins : ℕ → ℕ → ℕ
joins mode x = cond (eqb mode 3 && eqb x 130) 4 (cond (eqb mode 4 && digits₉ x) x (fresh x))

unfoldable pub joining : ℕ → ℕ → Bytes
joining mode x =
    cond (eqb mode 3 && eqb x 130) []
    (cond (eqb mode 4 && digits₉ x) []
    (cond (ltb 79 mode && eqb x 61) (95 ∷ (mode - 80) ∷ 61 ∷ []) (kept_of mode ++ freshly x)))

-- the machine goes over a byte
unfoldable pub next_mode : ℕ → ℕ → ℕ → ℕ
next_mode mode gap x = cond (skips gap x || white x) mode (cond (spaces mode gap x) (fresh x) (joins mode x))

unfoldable pub next_gap : ℕ → ℕ → ℕ
next_gap gap x = cond (skips gap x) 1 (cond (white x) (cond (eqb x 10) 2 1) 0)

unfoldable pub next : State → ℕ → State
next s x = record { mode = next_mode s.mode s.gap x; gap = next_gap s.gap x }

unfoldable pub out : ℕ → ℕ → ℕ → Bytes
out mode gap x = cond (skips gap x || white x) [] (cond (spaces mode gap x) (kept_of mode ++ (32 ∷ freshly x)) (joining mode x))

-- what it writes of a text
unfoldable pub from : State → Bytes → Bytes
from s [] = kept_of s.mode
from s (x ∷ t) = out s.mode s.gap x ++ from (next s x) t

unfoldable pub begin : State
begin = record { mode = 1; gap = 0 }

unfoldable pub onego : Bytes → Bytes
onego t = from begin (trimmed (is ":") (trimmed white t))
