-- A table of parameters whose keys and values are parts of one text.
use Rattle.std.specs.Prelude.{◌≡◌, cond, List, [], ◌∷◌, map, ℕ, ◌-◌, ◌≤◌, ◌<◌, length, take, set, ltb, Result, Ok, Err}
use Rattle.std.specs.List.{insert}
use Rattle.rules.specs.Text.Bytes.{Bytes}
use Rattle.rules.specs.Text.Parameters.{Parameter, Placed, entered_by}
use Rattle.rules.specs.Text.Reader.{part}
use Rattle.parameters.specs.declared.table.Part.{Part}
use Rattle.std.specs.Coded.{Unit-prop, ×_prop, le_prop, Coded-set, coded_ℕ}

-- a table: the first n of its parts
pub record Parts : Type 0 where
  pub parts : List Part
  pub n : ℕ

abbrev pub no_part : Part
no_part = record { key = 0; key_end = 0; value = 0; value_end = 0 }

abbrev pub key_of : Bytes → Part → Bytes
key_of s p = part p.key p.key_end s

abbrev pub value_of : Bytes → Part → Bytes
value_of s p = part p.value p.value_end s

-- the parameter that two parts of a text are
abbrev pub part_of : Bytes → Part → Parameter
part_of s p = record { key = key_of s p; value = value_of s p }

-- Where in the text the value begins. The value of a bare word is the `true` among the nine bytes that the text ends with, and its place is
-- the byte after the key.
abbrev pub value_at : Bytes → Part → ℕ
value_at s p = cond (ltb (length s - p.value) 9) p.key_end p.value

-- the parameter, and where its value begins
abbrev pub placed_of : Bytes → Part → Placed
placed_of s p = record { given = part_of s p; at = value_at s p }

-- the parts in a table
abbrev pub held : Parts → List Part
held t = take t.n t.parts

-- the parameters in a table
abbrev pub listed : Bytes → Parts → List Parameter
listed s t = map (part_of s) (held t)

-- each with the place of its value
abbrev pub placed_in : Bytes → Parts → List Placed
placed_in s t = map (placed_of s) (held t)

-- both parts are within the text
pub record Within (s : Bytes) (p : Part) : Type 0 where
  pub key-ahead : p.key ≤ p.key_end
  pub key-within : p.key_end ≤ length s
  pub value-ahead : p.value ≤ p.value_end
  pub value-within : p.value_end ≤ length s

-- every part of a list is within the text
unfoldable pub AllWithin : Bytes → List Part → Type 0
AllWithin s [] = Unit {0}
AllWithin s (p ∷ l) = Within s p × AllWithin s l

-- a table of at most 32 parts of the text
pub record Good (s : Bytes) (t : Parts) : Type 0 where
  pub fits : t.n ≤ 32
  pub size : length t.parts ≡ 32
  pub within : AllWithin s (held t)

-- each of these can be so in one way only
Within-prop : (s : Bytes) (p : Part) → IsProp (Within s p)
Within-prop s p x y =
    λ i. record {
      key-ahead = le_prop x.key-ahead y.key-ahead i;
      key-within = le_prop x.key-within y.key-within i;
      value-ahead = le_prop x.value-ahead y.value-ahead i;
      value-within = le_prop x.value-within y.value-within i;
    }

AllWithin-prop : (s : Bytes) (l : List Part) → IsProp (AllWithin s l)
unfolding AllWithin
AllWithin-prop s [] = Unit-prop
AllWithin-prop s (p ∷ l) = ×_prop (Within-prop s p) (AllWithin-prop s l)

pub Good-prop : (s : Bytes) (t : Parts) → IsProp (Good s t)
Good-prop s t x y =
    λ i. record {
      fits = le_prop x.fits y.fits i;
      size = Coded-set coded_ℕ (length t.parts) 32 x.size y.size i;
      within = AllWithin-prop s (held t) x.within y.within i;
    }

-- p entered into a list of parts that is in the order of their keys
abbrev pub parts_with : Bytes → Part → List Part → List Part
parts_with s p l = entered_by (key_of s) p l

-- The place of the part with the key of p: entering p puts it there. Or the place where p goes as a new one.
abbrev pub Found : Bytes → List Part → Part → Result ℕ ℕ → Type 0
Found s l p (Ok i) = (i < length l) × (parts_with s p l ≡ set l i p)
Found s l p (Err i) = (i ≤ length l) × (parts_with s p l ≡ insert l i p)
