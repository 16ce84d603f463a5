-- The text of an order: the name and the key, and the numbers.
use mathlib.Core.Path.{◌≡◌, sym}
use Prim.Native.Nat.{ℕ}
use mathlib.Core.List.{List, ◌++◌, append-nil}
use lib.IntN.{ℤ}
use Rattle.rules.specs.Text.Ascii.{ascii}
use Rattle.rules.specs.Text.Bytes.{Bytes, after_each, joined_by, joined}
use Rattle.rules.specs.Operators.Arguments.{listing, key_value}
use Rattle.rules.specs.Operators.Descriptions.{Axisswap}
use Rattle.rules.specs.Pipeline.Write.{name_word, arg_words, operator_words}
use Rattle.text.specs.Wrote.{WroteAt}
use Rattle.numbers.specs.Parts.{Room}
use Rattle.numbers.proofs.InTurn.{room_as, as_written, first-room, then-room, both-written}

text-is : (l : List ℤ) → joined (operator_words Axisswap l) ≡ ascii "axisswap order=" ++ listing l
unfolding joined joined_by after_each operator_words name_word arg_words key_value ascii
text-is l = append-nil _

module _ (l : List ℤ) {dst : Bytes} {at : ℕ} (h : Room (joined (operator_words Axisswap l)) at dst) where
  parts : Room (ascii "axisswap order=" ++ listing l) at dst
  parts = room_as (sym (text-is l)) h

  pub front-room : Room (ascii "axisswap order=") at dst
  front-room = first-room (ascii "axisswap order=") (listing l) parts

  module _ {e : ℕ} {last : Bytes} (w : WroteAt (ascii "axisswap order=") dst at e last) where
    pub list-room : Room (listing l) e last
    list-room = then-room (ascii "axisswap order=") (listing l) parts w

    pub words-written : {e' : ℕ} {last' : Bytes} → WroteAt (listing l) last e e' last' → WroteAt (joined (operator_words Axisswap l)) dst at e' last'
    words-written v = as_written (text-is l) (both-written (ascii "axisswap order=") (listing l) parts w v)
