-- Finding a key in a table: what is so after some of its parts.
use Rattle.std.specs.Prelude.{None, Some}
use mathlib.Core.Path.{◌≡◌, ◌∙◌}
use Prim.Native.Nat.{ℕ, ◌+◌, ◌≤◌, ◌<◌}
use mathlib.Core.Bool.{true, false}
use mathlib.Core.List.{List, ◌∷◌, map}
use native.Mathlib.Numerals.{add-one}
use lib.ListN.{length, drop, get_or, drop_of_length-le}
use lib.Seq.{drop-cons}
use Rattle.rules.specs.Text.Bytes.{Bytes, same}
use Rattle.rules.specs.Operators.Arguments.{value_of}
use Rattle.parameters.specs.Parts.{part_of, key_of, value_of as value_part}
use Rattle.parameters.specs.declared.table.Part.{Part}

-- the key is none of the first i parts'
abbrev pub Looking : Bytes → List Part → Bytes → ℕ → Type 0
Looking s l key i = value_of key (map (part_of s) l) ≡ value_of key (map (part_of s) (drop i l))

module _ (s : Bytes) (l : List Part) (key : Bytes) (i : ℕ) (m : Looking s l key i) where
  module _ (d : Part) (h : i < length l) where
    next : drop i l ≡ get_or l i d ∷ drop (i + 1) l
    next = rw (add-one i) (drop-cons l i d h)

    pub looking-here : same key (key_of s (get_or l i d)) ≡ true → value_of key (map (part_of s) l) ≡ Some (value_part s (get_or l i d))
    unfolding value_of
    looking-here e = m ∙ rw (next, e)

    pub looking-more : same key (key_of s (get_or l i d)) ≡ false → Looking s l key (i + 1)
    unfolding value_of
    looking-more e = m ∙ rw (next, e)

  pub looking-end : length l ≤ i → value_of key (map (part_of s) l) ≡ None
  unfolding value_of
  looking-end h = m ∙ rw (drop_of_length-le l h)
