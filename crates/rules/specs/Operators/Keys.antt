-- The keys of an operator, and what each takes.
use Prim.Native.String.{String}
use Rattle.std.specs.Prelude.{cond, List, [], ◌∷◌, Option, Some, None}
use Rattle.rules.specs.Text.Ascii.{ascii}
use Rattle.rules.specs.Text.Bytes.{Bytes, same}
use Rattle.rules.specs.declared.Kind.{Kind}
use Rattle.rules.specs.declared.Kind.TheVariants.{Flag, Series, Word}

-- a key, which takes a flag, a series of numbers, or a word
pub record Key : Type 0 where
  pub key : Bytes
  pub kind : Kind

unfoldable pub flag : String → Key
flag key = record { key = ascii key; kind = Flag }

unfoldable pub numbered : String → Key
numbered key = record { key = ascii key; kind = Series }

unfoldable pub worded : String → Key
worded key = record { key = ascii key; kind = Word }

-- what a key takes, if it is one of these
unfoldable pub kind_in : List Key → Bytes → Option Kind
kind_in [] key = None
kind_in (k ∷ ks) key = cond (same key k.key) (Some k.kind) (kind_in ks key)
