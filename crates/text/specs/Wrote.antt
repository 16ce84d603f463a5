-- What a pass leaves in the buffer that it is lent: `Wrote` of rules from its first byte on, or from a place on.
use Rattle.std.specs.Prelude.{ℕ, ◌++◌, take}
use Rattle.rules.specs.Text.Bytes.{Bytes}
pub use Rattle.rules.specs.Text.Refusal.{Wrote}

-- `buf` has `text` in its first r bytes, and nothing is said of those after it
abbrev pub Holds : Bytes → ℕ → Bytes → Type 0
Holds text r buf = Wrote text buf r buf

-- `dst`, which was `dst₀`, has `text` from `at` up to `r`, and is as it was before and behind it
pub record WroteAt (text dst₀ : Bytes) (at r : ℕ) (dst : Bytes) : Type 0 where
  pub wrote : Wrote (take at dst₀ ++ text) dst₀ r dst
