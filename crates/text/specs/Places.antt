-- Places in a text: where a pass finds something, and what a trim takes away and leaves.
use Rattle.std.specs.Prelude.{◌≡◌, ℕ, suc, ◌+◌, ◌≤◌, Bool, false, cond, [], ◌∷◌, length, take, drop, eqb}
use Rattle.rules.specs.Text.Bytes.{Bytes, white, starts, trim_start, trim_end}
use Rattle.text.specs.declared.ends.Edge.{Edge}
use Rattle.text.specs.declared.ends.Edge.TheVariants.{White, Byte}

-- how many bytes stand before the first `old`: all of them where there is none
unfoldable pub ahead : Bytes → Bytes → ℕ
ahead old [] = 0
ahead old (x ∷ t) = cond (starts old (x ∷ t)) 0 (suc (ahead old t))

-- r is reached from `from`, and no `old` begins on the way
pub record Passed (src : Bytes) (from : ℕ) (old : Bytes) (r : ℕ) : Type 0 where
  pub onward : from ≤ r
  pub within : r ≤ length src
  pub same : from + ahead old (drop from src) ≡ r + ahead old (drop r src)

-- either no `old` begins from `from` up to r, or it is said that one may
pub record Sought (src : Bytes) (from : ℕ) (old : Bytes) (r : ℕ) (found : Bool) : Type 0 where
  pub none : found ≡ false → Passed src from old r

-- the bytes that a trim takes away
abbrev pub cut_by : Edge → ℕ → Bool
cut_by White b = white b
cut_by (Byte c) b = eqb b c

-- a trim at the start leaves what stands from r on
pub record LeftFrom (test : ℕ → Bool) (s : Bytes) (r : ℕ) : Type 0 where
  pub within : r ≤ length s
  pub part : drop r s ≡ trim_start test s

-- a trim at the end leaves what stands before r
pub record LeftTo (test : ℕ → Bool) (s : Bytes) (r : ℕ) : Type 0 where
  pub within : r ≤ length s
  pub part : take r s ≡ trim_end test s
