-- What a pass leaves that writes a text into a lent buffer, or only counts it.
use Rattle.std.specs.Prelude.{◌≡◌, Bool, cond, ◌∷◌, ◌++◌, ℕ, ◌+◌, ◌≤◌, length, take, drop}
use Rattle.rules.specs.Text.Bytes.{Bytes}

-- how far a pass may come: to the end of the buffer where it writes, and else so far that every number fits
unfoldable pub limit : Bool → Bytes → ℕ
limit write dst = cond write (length dst) 1099511627776

-- there is room for a text from a place on
pub record Room (write : Bool) (text : Bytes) (at : ℕ) (dst : Bytes) : Type 0 where
  pub fits : at + length text ≤ limit write dst

-- `text` stands in `dst`, which was `dst₀`, from `at` up to `r`, and the rest is as it was; a pass that counts leaves it all
pub record Adds (write : Bool) (text dst₀ : Bytes) (at r : ℕ) (dst : Bytes) : Type 0 where
  pub count : r ≡ at + length text
  pub whole : dst ≡ cond write (take at dst₀ ++ (text ++ drop r dst₀)) dst₀

-- a word, after a space if words have begun
unfoldable pub gapped : Bool → Bytes → Bytes
gapped begun w = cond begun (32 ∷ w) w
