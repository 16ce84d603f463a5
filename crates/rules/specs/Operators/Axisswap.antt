-- `axisswap`: "signed reordering of axes".
use Rattle.std.specs.Prelude.{ℕ, suc, Bool, true, false, List, [], ◌∷◌, ℤ, pos, Option, None, Some}
use Rattle.rules.specs.Text.Ascii.{ascii}
use Rattle.rules.specs.Text.Bytes.{Bytes}
use Rattle.rules.specs.Text.Decimal.{minus, series}
use Rattle.rules.specs.Operators.Acts.{orders}
use Rattle.rules.specs.Operators.Arguments.{value_of, size, is_order, wholes, listing, key_value}
use Rattle.rules.specs.Operators.Numbers.{number, put, turn}
use Rattle.rules.specs.Operators.Keys.{Key, numbered}
use Rattle.rules.specs.Operators.Descriptions.{Axisswap, Description, Wording, choose}
use Rattle.rules.specs.declared.Coord.{Coord}

-- ---- the rule on its arguments

-- the arguments that the value of its key gives; "Default 1,2,3,4."
unfoldable pub order : Option Bytes → Option (List ℤ)
order None = Some (pos 1 ∷ pos 2 ∷ pos 3 ∷ pos 4 ∷ [])
order (Some value) = wholes is_order (series value)

-- ---- what it does. The check reorders its four places in the same way, so it is written for any four things: `at` reads
-- one, `with` stores one, `turns` turns its sign.

module _ {T X : Type 0} (at : ℕ → T → X) (with : ℕ → X → T → T) (turns : Bool → X → X) where
  -- forward, from output i on: output i is the input that the order names, with its sign; the others stay
  unfoldable pub swap_from : ℕ → List ℤ → T → T → T
  swap_from i [] c out = out
  swap_from i (x ∷ l) c out = swap_from (suc i) l c (with i (turns (minus x) (at (size x) c)) out)

  -- inverse, from input i on: input i goes to the place that the order names, with its sign; the others stay
  unfoldable pub unswap_from : ℕ → List ℤ → T → T → T
  unswap_from i [] c out = out
  unswap_from i (x ∷ l) c out = unswap_from (suc i) l c (with (size x) (turns (minus x) (at i c)) out)

  unfoldable pub reordered : Bool → List ℤ → T → T
  reordered false l c = swap_from 1 l c c
  reordered true l c = unswap_from 1 l c c

-- of a coordinate: forward, or back
unfoldable pub swapped : Bool → List ℤ → Coord → Coord
swapped back l c = reordered number put turn back l c

-- ---- its description

abbrev pub axisswap : Description
axisswap =
    record {
      number = 9;
      name = "axisswap";
      is_args = is_order;
      turned = true;
      forward = orders false;
      inverse = orders true;
      words = λ l. key_value "order" (listing l) ∷ [];
    }

abbrev pub order_keys : List Key
order_keys = numbered "order" ∷ []

abbrev pub axisswap_wording : Wording
axisswap_wording = record { name = axisswap.name; keys = order_keys; chosen = λ mode ps. choose Axisswap (order (value_of (ascii "order") ps)) }
