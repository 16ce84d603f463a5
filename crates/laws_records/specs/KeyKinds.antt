-- What a key takes, found by trying the operator's keys one after the other.
use Rattle.std.specs.Prelude.{◌≡◌, refl, Bool, true, false, List, [], ◌∷◌, Some, None}
use Rattle.std.proofs.Math.Path.{sym}
use Rattle.rules.specs.Text.Bytes.{Bytes, same}
use Rattle.rules.specs.Operators.Keys.{Key, kind_in}

module _ (k : Key) (ks : List Key) (key : Bytes) {b : Bool} (e : b ≡ same key k.key) where
  -- it is this one
  pub kind-here : b ≡ true → Some k.kind ≡ kind_in (k ∷ ks) key
  unfolding kind_in
  kind-here h = sym (rw (sym e, h))

  -- it is another
  pub kind-next : b ≡ false → kind_in ks key ≡ kind_in (k ∷ ks) key
  unfolding kind_in
  kind-next h = sym (rw (sym e, h))

-- it is none of them
pub kind-end : (key : Bytes) → None ≡ kind_in [] key
unfolding kind_in
kind-end key = refl
