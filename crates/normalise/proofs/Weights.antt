-- Every text on the way to a normal form has room where the first has, by its weight.
use mathlib.Core.Path.{◌≡◌, ap, ◌∙◌}
use mathlib.Core.List.{[], ◌∷◌}
use Prim.Native.Nat.{ℕ, ◌*◌, ◌≤◌}
use native.Mathlib.Nat.{le_trans}
use native.Mathlib.Omega.{arith}
use lib.ListN.{length, take}
use Rattle.rules.specs.Text.Ascii.{ascii, is}
use Rattle.rules.specs.Text.Bytes.{Bytes, white, replace, trimmed, words, joined}
use Rattle.rules.specs.Text.Normal.{replacements, run, squeezed, continued, normal}
use Rattle.laws_text.specs.Sizes.{weight_of, weight, length-weight, weight-length, replace-weight, replacements-light, run-weight, trimmed-weight, squeezed-weight}
use Rattle.text.specs.Wrote.{Wrote, Holds}
use Rattle.text.proofs.Wrote.{wrote-front, wrote-holds}

-- the text before its line ends are looked at, and before the replacements
abbrev pub opened : Bytes → Bytes
opened t = trimmed (is ":") (trimmed white t)

abbrev pub begun : Bytes → Bytes
begun t = squeezed (continued (opened t))

opened-weight : (t : Bytes) → weight (continued (opened t)) ≤ weight (trimmed white t)
unfolding continued ascii weight weight_of
opened-weight t =
    le_trans (replace-weight (ascii "\n:") (ascii "\n") (opened t) (omega arith) (omega arith)) (trimmed-weight (is ":") (trimmed white t))

begun-weight : (t : Bytes) → weight (begun t) ≤ weight (trimmed white t)
begun-weight t = le_trans (squeezed-weight (continued (opened t))) (opened-weight t)

begun-length : (t : Bytes) {x : ℕ} → weight (trimmed white t) ≤ x → length (joined (words (continued (opened t)))) ≤ x
unfolding squeezed
begun-length t h = omega (arith, length-weight (begun t), begun-weight t)

-- ---- `cleaned`

abbrev unfolded : Bytes → Bytes
unfolded u = replace (10 ∷ 58 ∷ []) (10 ∷ []) u

module _ (text : Bytes) {t u : Bytes} (p : t ≡ trimmed white text) (q : u ≡ trimmed (is ":") t) where
  -- what is left after the trims, with its line ends
  unfolded_is : unfolded u ≡ continued (opened text)
  unfolding continued ascii
  unfolded_is = rw (q, p)

  pub opened-room : {x : ℕ} → weight (trimmed white text) ≤ x → length (unfolded u) ≤ x
  opened-room h = rw unfolded_is (omega (arith, length-weight (continued (opened text)), opened-weight text))

  module _ {a₀ a : Bytes} {n : ℕ} (w : Wrote (unfolded u) a₀ n a) where
    pub begun-room : {x : ℕ} → weight (trimmed white text) ≤ x → length (joined (words (take n a))) ≤ x
    begun-room h = rw (wrote-front w, unfolded_is) (begun-length text h)

    pub begun-wrote : {b₀ b : Bytes} {r : ℕ} → Wrote (joined (words (take n a))) b₀ r b → Wrote (begun text) b₀ r b
    unfolding squeezed
    begun-wrote v = rw (wrote-front w, unfolded_is) at v

-- ---- `normal_of`

module _ (t : Bytes) {b₀ b : Bytes} {n : ℕ} (w : Wrote (begun t) b₀ n b) where
  pub run_room : {x y : ℕ} → weight (trimmed white t) ≤ x → y ≡ x → weight (take n b) ≤ y
  run_room h e = rw (wrote-front w) (omega (arith, begun-weight t))

  module _ {b' : Bytes} {m : ℕ} (h : Holds (run replacements (take n b)) m b') where
    holds-run : take m b' ≡ run replacements (begun t)
    holds-run = wrote-front h ∙ ap (run replacements) (wrote-front w)

    pub squeezed-room : {x y : ℕ} → weight (trimmed white t) ≤ x → y ≡ x → length (joined (words (take m b'))) ≤ y
    unfolding squeezed
    squeezed-room l e =
        let r = run replacements (begun t) in
        rw holds-run (omega (arith, length-weight (squeezed r), squeezed-weight r, run-weight replacements (begun t) replacements-light, begun-weight t))

    pub normal-holds : {a₀ a : Bytes} {r : ℕ} → Wrote (joined (words (take m b'))) a₀ r a → Holds (normal t) r a
    unfolding normal squeezed
    normal-holds v = wrote-holds (rw holds-run at v)

-- ---- what a caller of `normal_of` owes

pub text-weight : (t : Bytes) {x : ℕ} → 10 * length t ≤ x → weight (trimmed white t) ≤ x
text-weight t h = omega (arith, trimmed-weight white t, weight-length t)
