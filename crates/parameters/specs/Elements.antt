-- A step's elements as parts of a text that also spells `_name` and `true`, and where they stand in it.
use Rattle.std.specs.Prelude.{◌≡◌, Bool, false, cond, List, [], ◌∷◌, ℕ, ◌+◌, length}
use Rattle.std.specs.Coded.{Coded-set, coded_ℕ, coded_list}
use Rattle.rules.specs.Text.Ascii.{ascii}
use Rattle.rules.specs.Text.Lists.{kept, non_empty}
use Rattle.rules.specs.Text.Bytes.{Bytes, Words, white, cut}
use Rattle.rules.specs.Text.Parameters.{Placed, placed_word, placed_name, entered_all_by}
use Rattle.rules.specs.Text.Reader.{part}
use Rattle.parameters.specs.Parts.{placed_of, Within}
use Rattle.parameters.specs.declared.table.Part.{Part}

-- from n on, the text spells `_name` and `true`, and then it ends
pub record Spelt (s : Bytes) (n : ℕ) : Type 0 where
  pub ends : n + 9 ≡ length s
  pub name-there : part n (n + 5) s ≡ ascii "_name"
  pub true-there : part (n + 5) (n + 9) s ≡ ascii "true"

-- which can be so in one way only
pub Spelt-prop : (s : Bytes) (n : ℕ) → IsProp (Spelt s n)
Spelt-prop s n x y =
    λ i. record {
      ends = Coded-set coded_ℕ (n + 9) (length s) x.ends y.ends i;
      name-there = Coded-set (coded_list coded_ℕ) (part n (n + 5) s) (ascii "_name") x.name-there y.name-there i;
      true-there = Coded-set (coded_list coded_ℕ) (part (n + 5) (n + 9) s) (ascii "true") x.true-there y.true-there i;
    }

-- ---- the words of a text, and where they begin

pub record Spot : Type 0 where
  pub at : ℕ
  pub word : Bytes

-- words with a byte between, the first of which begins at a place
unfoldable pub spots : ℕ → Words → List Spot
spots at [] = []
spots at (w ∷ ws) = record { at = at; word = w } ∷ spots (at + length w + 1) ws

-- the words of a text that begins at a place: the pieces between white space that are not empty
unfoldable pub words_at : ℕ → Bytes → List Spot
words_at at t = kept (λ (x : Spot). non_empty x.word) (spots at (cut white t))

-- the parameter that an element is: the first, if it has no `=`, is the name
unfoldable pub element : Bool → Spot → Placed
element first x = cond first (placed_name x.at x.word) (placed_word x.at x.word)

-- the parameters of words, of which the first may be the name
unfoldable pub elements_at : Bool → List Spot → List Placed
elements_at first [] = []
elements_at first (x ∷ l) = element first x ∷ elements_at false l

-- the word of the text from one place up to another, as an element
pub record IsPart (s : Bytes) (from to : ℕ) (first : Bool) (p : Part) : Type 0 where
  pub within : Within s p
  pub spells : placed_of s p ≡ element first (record { at = from; word = part from to s })

-- ---- tables of them

-- elements, each in its place, entered one after the other
abbrev pub placed_all : List Placed → List Placed → List Placed
placed_all qs table = entered_all_by (λ (q : Placed). q.given.key) qs table
