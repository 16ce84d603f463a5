-- A column that a store lends as a slice: what it is, and the store after it.
use Rattle.std.proofs.Common.{◌≡◌, ℕ, ◌+◌, ◌-◌, ◌*◌, ◌≤◌, List, length, take, drop, sym, ap, ◌∙◌, arith}
use Rattle.std.proofs.lemmas.Slice.{put_mid-paste}
use borrow.Rule.Slice.PartMut.{put_mid}
use lib.Ieee.{Float}
use lib.Seq.{paste, length-paste}
use Rattle.columns.specs.Stores.{col}
use Rattle.columns.proofs.InStore.{col-length}

module _ (n q : ℕ) (s : List Float) where
  -- how many numbers are lent
  many : q * n + n - q * n ≡ n
  many = omega arith

  pub lent-col : take (q * n + n - q * n) (drop (q * n) s) ≡ col n q s
  lent-col = ap (λ (k : ℕ). take k (drop (q * n) s)) many

  module _ (room : q * n + n ≤ length s) where
    pub lent-length : length (take (q * n + n - q * n) (drop (q * n) s)) ≡ n
    lent-length = ap length lent-col ∙ col-length n q s room

    -- the column comes back as v
    module _ {back v : List Float} (e : back ≡ v) (long : length v ≡ n) where
      pub lent-put : put_mid (q * n) (q * n + n - q * n) s back ≡ paste s (q * n) v n
      lent-put = put_mid-paste (q * n) (q * n + n - q * n) s back v n e (sym many) (sym long)

      pub lent-keeps : length (put_mid (q * n) (q * n + n - q * n) s back) ≡ length s
      lent-keeps = ap length lent-put ∙ length-paste s (q * n) v n room (omega (arith, long))
