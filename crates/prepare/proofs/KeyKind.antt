-- What a key takes is found among the keys that every operator has, and then among its own.
use Rattle.std.specs.Prelude.{Option, Some, None}
use mathlib.Core.Path.{◌≡◌, refl}
use mathlib.Core.Bool.{Bool, true, false, cond}
use mathlib.Core.List.{List, ◌++◌}
use Rattle.rules.specs.Text.Ascii.{ascii}
use Rattle.rules.specs.Text.Bytes.{Bytes, same}
use Rattle.rules.specs.Operators.Keys.{Key, flag, worded, kind_in}
use Rattle.rules.specs.Pipeline.Keys.{every_key, own_keys}
use Rattle.rules.specs.declared.Kind.{Kind}
use Rattle.rules.specs.declared.Kind.TheVariants.{Flag, Word}
use Rattle.rules.specs.declared.Name.{Name}

-- what is found among the keys of every operator, with others behind them
unfoldable pub with_others : Option Kind → Option Kind → Option Kind
with_others (Some kind) k = Some kind
with_others None k = k

pub every-then : (ks : List Key) (key : Bytes) {k : Option Kind} → k ≡ kind_in every_key key → with_others k (kind_in ks key) ≡ kind_in (every_key ++ ks) key
unfolding every_key kind_in flag worded with_others
every-then ks key {k} e =
    rw e (go (same key (ascii "_name")) (same key (ascii "inv")) (same key (ascii "omit_fwd")) (same key (ascii "omit_inv")))
  where
    go : (a b c d : Bool) → with_others (cond a (Some Word) (cond b (Some Flag) (cond c (Some Flag) (cond d (Some Flag) None)))) (kind_in ks key) ≡ cond a (Some Word) (cond b (Some Flag) (cond c (Some Flag) (cond d (Some Flag) (kind_in ks key))))
    go true b c d = refl
    go false true c d = refl
    go false false true d = refl
    go false false false true = refl
    go false false false false = refl

-- an operator's own keys, by its name
pub own-keys : (key : Bytes) {m n : Name} {k : Option Kind} → m ≡ n → k ≡ kind_in (own_keys n) key → k ≡ kind_in (own_keys m) key
own-keys key e h = rw e h
