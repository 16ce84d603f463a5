-- A text without its comments, normalised: each text on the way has room where ten times the first has.
use mathlib.Core.Path.{◌≡◌}
use Prim.Native.Nat.{ℕ, ◌*◌, ◌≤◌}
use native.Mathlib.Omega.{arith}
use lib.ListN.{length, take}
use Rattle.rules.specs.Text.Bytes.{Bytes, white, trimmed}
use Rattle.rules.specs.Text.Normal.{normal}
use Rattle.rules.specs.Text.Comments.{stripped}
use Rattle.laws_text.specs.Sizes.{weight, weight-length, stripped-weight}
use Rattle.text.specs.Wrote.{Holds}
use Rattle.text.proofs.Wrote.{wrote-front}

module _ (t : Bytes) {c : Bytes} {k : ℕ} (w : Holds (stripped t) k c) where
  pub clean-room : {x y : ℕ} → 10 * length t ≤ x → y ≡ x → weight (trimmed white (take k c)) ≤ y
  clean-room h e = rw (wrote-front w) (omega (arith, stripped-weight t, weight-length t))

  pub clean-holds : {a : Bytes} {r : ℕ} → Holds (normal (take k c)) r a → Holds (normal (stripped t)) r a
  clean-holds v = rw (wrote-front w) at v
