-- The passes of a normal form as scans: each goes over the text once, by a small state.
use Rattle.std.specs.Prelude.{ℕ, ◌-◌, Bool, true, false, cond, ◌&&◌, ◌||◌, not, [], ◌∷◌, ◌++◌, eqb}
use Rattle.rules.specs.Text.Bytes.{Bytes, white}

-- is it that byte?
abbrev pub byte : ℕ → ℕ → Bool
byte c x = eqb x c

-- no byte
abbrev pub never : ℕ → Bool
never x = false

-- one test or the other
abbrev pub or : (ℕ → Bool) → (ℕ → Bool) → ℕ → Bool
or f g x = f x || g x

-- a space, where it is asked for, and the rest
unfoldable pub lead : Bool → Bytes → Bytes
lead true r = 32 ∷ r
lead false r = r

-- without each q right behind a byte that passes the test; the Bool: did the byte before pass it?
unfoldable pub dropped : (ℕ → Bool) → ℕ → Bool → Bytes → Bytes
dropped test q b [] = []
dropped test q b (x ∷ t) = cond (eqb x q && b) (dropped test q false t) (x ∷ dropped test q (test x) t)

-- without each space right before a byte that passes the test; is a space held back?
unfoldable pub held : (ℕ → Bool) → Bool → Bytes → Bytes
held test b [] = lead b []
held test b (x ∷ t) = cond (eqb x 32) (lead b (held test true t)) (lead (b && not (test x)) (x ∷ held test false t))

-- The words, each byte x of them as `emit x`, with a space between two words unless the byte before it passes `shut` or the
-- byte behind it passes `bars`. `last` is the byte before (a space at the start), and `gap` tells that white space was
-- passed since.
unfoldable pub tidy : (ℕ → Bool) → (ℕ → Bool) → (ℕ → Bytes) → ℕ → Bool → Bytes → Bytes
tidy shut bars emit last gap [] = []
tidy shut bars emit last gap (x ∷ t) =
    cond (white x) (tidy shut bars emit last true t) (lead (not (shut last || bars x) && gap) (emit x ++ tidy shut bars emit x false t))

-- a byte by itself
abbrev pub alone : ℕ → Bytes
alone x = x ∷ []

-- ---- the subscript digits

-- what is held back of a digit before `=`: nothing, its first byte, its first two, or all of it, with its last byte
pub data Held : Type 0 where
  none one two : Held
  digit : ℕ → Held

unfoldable pub kept : Held → Bytes
kept none = []
kept one = 226 ∷ []
kept two = 226 ∷ 130 ∷ []
kept (digit z) = 226 ∷ 130 ∷ z ∷ []

-- each digit before `=` whose last byte passes the test becomes `_` and a plain digit
unfoldable pub hold : (ℕ → Bool) → Held → Bytes → Bytes
hold test none [] = []
hold test one [] = 226 ∷ []
hold test two [] = 226 ∷ 130 ∷ []
hold test (digit z) [] = 226 ∷ 130 ∷ z ∷ []
hold test none (x ∷ t) = cond (eqb x 226) (hold test one t) (x ∷ hold test none t)
hold test one (x ∷ t) = cond (eqb x 130) (hold test two t) (226 ∷ cond (eqb x 226) (hold test one t) (x ∷ hold test none t))
hold test two (x ∷ t) = cond (test x) (hold test (digit x) t) (226 ∷ 130 ∷ cond (eqb x 226) (hold test one t) (x ∷ hold test none t))
hold test (digit z) (x ∷ t) =
    cond (eqb x 61) (95 ∷ (z - 80) ∷ 61 ∷ hold test none t) (226 ∷ 130 ∷ z ∷ cond (eqb x 226) (hold test one t) (x ∷ hold test none t))
