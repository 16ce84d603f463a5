-- A normal form, but for its last squeeze: a text with no space beside a separator, in which `>` and `<` become a separator, a modifier and a
-- space. The replacements behind those two do not meet what they bring, so they may be made before.
use Rattle.std.specs.Prelude.{◌≡◌, ℕ, suc, ◌-◌, Bool, cond, ◌&&◌, ◌||◌, not, length, take, drop}
use Rattle.std.proofs.Math.Path.{refl, ap}
use Rattle.std.proofs.Common.{sym, ◌∙◌, arith}
use Rattle.std.proofs.Math.Bool.{true, false}
use Rattle.std.proofs.lemmas.Bool.{false≢true}
use mathlib.Core.List.{List, [], ◌∷◌, ◌++◌}
use borrow.Author.Tests.{eqb-true}
use Rattle.std.proofs.Math.Dec.{eqb}
use Rattle.rules.specs.Text.Ascii.{ascii, is}
use Rattle.rules.specs.Text.Lists.{any_of, all_of}
use Rattle.rules.specs.Text.Bytes.{Bytes, white, starts, replace_from, replace, trimmed}
use Rattle.rules.specs.Text.Normal.{Replacement, run, becomes, subscript_becomes, replacements, squeezed, continued, normal}
use Rattle.laws_lists.specs.Tests.{never, not_so, and_left, and_right, or_left, or_right}
use Rattle.laws_text.specs.Apart.{among, Apart, words-apart}
use Rattle.laws_text.specs.Freed.{separators, twelve, rest-apart}

-- ---- `>` and `<`

abbrev pub inverse : Bytes
inverse = ascii "|omit_inv "

abbrev pub forward : Bytes
forward = ascii "|omit_fwd "

-- what a byte becomes
unfoldable pub spoken : ℕ → Bytes
spoken x = cond (is ">" x) inverse (cond (is "<" x) forward (x ∷ []))

-- both of them replaced
unfoldable pub spread : Bytes → Bytes
spread [] = []
spread (x ∷ t) = spoken x ++ spread t

spread-is : (t : Bytes) → replace (ascii "<") forward (replace (ascii ">") inverse t) ≡ spread t
unfolding replace replace_from starts spread spoken ascii
spread-is [] = refl
spread-is (x ∷ t) = go (eqb x 62) (eqb x 60) refl (spread-is t)
  where
    go : (a b : Bool) → eqb x 60 ≡ b → replace_from 0 (60 ∷ []) forward (replace_from 0 (62 ∷ []) inverse t) ≡ spread t
        → replace_from 0 (60 ∷ []) forward (cond (a && true) (inverse ++ replace_from 0 (62 ∷ []) inverse t) (x ∷ replace_from 0 (62 ∷ []) inverse t))
        ≡ cond a inverse (cond b forward (x ∷ [])) ++ spread t
    go true b e i = rw i refl
    go false true e i = rw (e, i) refl
    go false false e i = rw (e, i) refl

-- a byte that is no separator stays
spread-other : (x : ℕ) (t : Bytes) → among separators x ≡ false → spread (x ∷ t) ≡ x ∷ spread t
unfolding spread spoken any_of
spread-other x t n =
    let r = or_right (eqb x 60) (eqb x 62 || (eqb x 124 || false)) n in
    rw (or_left (eqb x 60) (eqb x 62 || (eqb x 124 || false)) n, or_left (eqb x 62) (eqb x 124 || false) r) refl

spread-front : (a t : Bytes) → any_of (among separators) a ≡ false → spread (a ++ t) ≡ a ++ spread t
unfolding any_of
spread-front [] t n = refl
spread-front (x ∷ a) t n =
    spread-other x (a ++ t) (or_left (among separators x) (any_of (among separators) a) n)
    ∙ ap (λ (u : Bytes). x ∷ u) (spread-front a t (or_right (among separators x) (any_of (among separators) a) n))

-- a separator is no other byte
differs : (x p : ℕ) → among separators x ≡ true → among separators p ≡ false → eqb x p ≡ false
differs x p s n = go (eqb x p) refl
  where
    go : (b : Bool) → eqb x p ≡ b → eqb x p ≡ false
    go true e = absurd (never (cc (ap (among separators) (eqb-true x p e), s, n)))
    go false e = e

-- what has no separator stands at the front of the one text, where it stands at the front of the other
starts-spread : (old t : Bytes) → any_of (among separators) old ≡ false → starts old (spread t) ≡ starts old t
unfolding starts spread spoken any_of ascii
starts-spread [] t n = refl
starts-spread (p ∷ old) [] n = refl
starts-spread (p ∷ old) (x ∷ t) n =
    go (eqb x 62) refl (eqb x 60) refl (starts-spread old t (or_right (among separators p) (any_of (among separators) old) n))
  where
    q : among separators p ≡ false
    q = or_left (among separators p) (any_of (among separators) old) n

    go : (a : Bool) → eqb x 62 ≡ a → (b : Bool) → eqb x 60 ≡ b → starts old (spread t) ≡ starts old t
        → starts (p ∷ old) (cond a inverse (cond b forward (x ∷ [])) ++ spread t) ≡ eqb x p && starts old t
    go true e b f i = rw (differs 124 p refl q, eqb-true x 62 e, differs 62 p refl q) refl
    go false e true f i = rw (differs 124 p refl q, eqb-true x 60 f, differs 60 p refl q) refl
    go false e false f i = rw i refl

-- A replacement of and by what has no separator, and that begins with a byte that no modifier has, may as well be made before.
module _ (o : ℕ) (old new : Bytes) (own : any_of (among separators) (o ∷ old) ≡ false) (fresh : any_of (among separators) new ≡ false)
    (inv : any_of (λ (y : ℕ). eqb y o) inverse ≡ false) (fwd : any_of (λ (y : ℕ). eqb y o) forward ≡ false) where
  spoken-over : (x : ℕ) → eqb x o ≡ false → any_of (λ (y : ℕ). eqb y o) (spoken x) ≡ false
  unfolding spoken any_of
  spoken-over x n = go (eqb x 62) (eqb x 60)
    where
      go : (a b : Bool) → any_of (λ (y : ℕ). eqb y o) (cond a inverse (cond b forward (x ∷ []))) ≡ false
      go true b = inv
      go false true = fwd
      go false false = rw n refl

  passed_over : (a t : Bytes) → any_of (λ (y : ℕ). eqb y o) a ≡ false → replace_from 0 (o ∷ old) new (a ++ t) ≡ a ++ replace_from 0 (o ∷ old) new t
  unfolding replace_from starts any_of
  passed_over [] t n = refl
  passed_over (x ∷ a) t n =
      rw (or_left (eqb x o) (any_of (λ (y : ℕ). eqb y o) a) n) (ap (λ (u : Bytes). x ∷ u) (passed_over a t (or_right (eqb x o) (any_of (λ (y : ℕ). eqb y o) a) n)))

  abbrev replacing : ℕ → Bytes → Bytes
  replacing k t = replace_from k (o ∷ old) new t

  -- `r` is what is passed over
  swapped : (t r : Bytes) → any_of (among separators) r ≡ false → starts r t ≡ true → replacing (length r) (spread t) ≡ spread (replacing (length r) t)
  unfolding replace_from starts any_of
  swapped [] [] n s = unfold spread in refl
  swapped [] (p ∷ r) n s = unfold spread in refl
  swapped (x ∷ t) (p ∷ r) n s =
      let e = eqb-true x p (and_left (eqb x p) (starts r t) s) in
      let q : among separators x ≡ false = ap (among separators) e ∙ or_left (among separators p) (any_of (among separators) r) n in
      rw (spread-other x t q) (swapped t r (or_right (among separators p) (any_of (among separators) r) n) (and_right (eqb x p) (starts r t) s))
  swapped (x ∷ t) [] n s =
      go (among separators x) refl (swapped t [] refl refl) (swapped t old (or_right (among separators o) (any_of (among separators) old) own))
    where
      first : among separators o ≡ false
      first = or_left (among separators o) (any_of (among separators) old) own

      less : suc (length old) - 1 ≡ length old
      less = omega arith

      there : (b : Bool) → eqb x o && starts old t ≡ b → among separators x ≡ false → replacing 0 (spread t) ≡ spread (replacing 0 t)
          → (starts old t ≡ true → replacing (length old) (spread t) ≡ spread (replacing (length old) t))
          → cond b (new ++ replacing (suc (length old) - 1) (spread t)) (x ∷ replacing 0 (spread t))
          ≡ spread (cond b (new ++ replacing (suc (length old) - 1) t) (x ∷ replacing 0 t))
      there true e q i j = rw (less, j (and_right (eqb x o) (starts old t) e)) (sym (spread-front new (replacing (length old) t) fresh))
      there false e q i j = rw i (sym (spread-other x (replacing 0 t) q))

      go : (b : Bool) → among separators x ≡ b → replacing 0 (spread t) ≡ spread (replacing 0 t)
          → (starts old t ≡ true → replacing (length old) (spread t) ≡ spread (replacing (length old) t))
          → replacing 0 (spread (x ∷ t)) ≡ spread (cond (eqb x o && starts old t) (new ++ replacing (suc (length old) - 1) t) (x ∷ replacing 0 t))
      go true q i j =
          let d = differs x o q first in
          let k : replacing 0 (spread (x ∷ t)) ≡ spread (x ∷ replacing 0 t) = unfold spread in (passed_over (spoken x) (spread t) (spoken-over x d) ∙ ap (λ (u : Bytes). spoken x ++ u) i) in
          rw d k
      go false q i j = rw (spread-other x t q, starts-spread old t (or_right (among separators o) (any_of (among separators) old) own)) (there (eqb x o && starts old t) refl q i j)

-- the test that it is such a replacement, which all those behind `>` and `<` pass
passes : Bytes → Bytes → Bool
passes [] new = false
passes (o ∷ old) new =
    not (any_of (among separators) (o ∷ old)) && (not (any_of (among separators) new)
    && (not (any_of (λ (y : ℕ). eqb y o) inverse) && not (any_of (λ (y : ℕ). eqb y o) forward)))

swap-one : (old new t : Bytes) → passes old new ≡ true → replace old new (spread t) ≡ spread (replace old new t)
unfolding passes replace any_of starts
swap-one [] new t p = absurd (false≢true p)
swap-one (o ∷ old) new t p =
    let own = any_of (among separators) (o ∷ old) in
    let fresh = any_of (among separators) new in
    let inv = any_of (λ (y : ℕ). eqb y o) inverse in
    let fwd = any_of (λ (y : ℕ). eqb y o) forward in
    let q = and_right (not own) (not fresh && (not inv && not fwd)) p in
    let r = and_right (not fresh) (not inv && not fwd) q in
    swapped o old new (not_so (and_left (not own) (not fresh && (not inv && not fwd)) p)) (not_so (and_left (not fresh) (not inv && not fwd) q))
    (not_so (and_left (not inv) (not fwd) r)) (not_so (and_right (not inv) (not fwd) r)) t [] refl refl

swap-run : (rs : List Replacement) (t : Bytes) → all_of (λ (r : Replacement). passes r.old r.new) rs ≡ true → run rs (spread t) ≡ spread (run rs t)
unfolding run all_of
swap-run [] t p = refl
swap-run (r ∷ rs) t p =
    let rest = all_of (λ (r : Replacement). passes r.old r.new) rs in
    ap (run rs) (swap-one r.old r.new t (and_left (passes r.old r.new) rest p))
    ∙ swap-run rs (replace r.old r.new t) (and_right (passes r.old r.new) rest p)

-- ---- the normal form

-- the replacements behind the two, made before them
run-spread : (t : Bytes) → run replacements t ≡ spread (run (drop 14 replacements) (run (take 12 replacements) t))
unfolding run replacements becomes subscript_becomes ascii all_of any_of passes
run-spread t =
    let u = run (take 12 replacements) t in
    ap (run (drop 14 replacements)) (spread-is u) ∙ swap-run (drop 14 replacements) u refl

-- "after trimming white space, then colons at both ends, then removing a colon that follows a newline"
begun : Bytes → Bytes
begun t = continued (trimmed (is ":") (trimmed white t))

-- the squeeze of a text that is spread, and that has no space beside a separator
pub normal-spread : (t : Bytes) → (u : Bytes) × (normal t ≡ squeezed (spread u)) × Apart false separators separators true false u
unfolding normal squeezed begun
normal-spread t =
    let u = squeezed (begun t) in (
      run (drop 14 replacements) (run (take 12 replacements) u),
      ap squeezed (run-spread u),
      rest-apart (run (take 12 replacements) u) (twelve u (words-apart (begun t))),
    )
