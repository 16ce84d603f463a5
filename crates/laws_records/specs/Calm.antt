-- Calm texts: those that no replacement changes. They have no special byte, and `=` and `,` stand beside no space.
use Rattle.std.specs.Prelude.{◌≡◌, ℕ, zero, Bool, false, ◌&&◌, ◌||◌, eqb, leb, ltb}
use Rattle.std.proofs.Math.Path.{refl}
use Rattle.std.proofs.Common.{ap, ◌∙◌}
use Rattle.std.proofs.Math.Bool.{true, not}
use Rattle.std.proofs.lemmas.Bool.{false≢true}
use mathlib.Core.List.{List, [], ◌∷◌, ◌++◌}
use borrow.Author.Tests.{eqb-true, ltb-true, not-true}
use Rattle.rules.specs.Text.Ascii.{ascii, is}
use Rattle.rules.specs.Text.Lists.{any_of, all_of}
use Rattle.rules.specs.Text.Bytes.{Bytes, starts, replace_from, replace, after_each}
use Rattle.rules.specs.Text.Normal.{Replacement, run}
use Rattle.laws_lists.specs.Tests.{and_left, and_right, below, below_at}

-- ---- bytes

-- a byte of a calm text
unfoldable pub known : ℕ → Bool
known b = ltb b 127 && (leb 32 b && not (any_of (eqb b) (ascii ":<>$#")))

-- one that may stand at either end of a word
unfoldable pub firm : ℕ → Bool
firm b = known b && not (any_of (eqb b) (ascii ",=| "))

unfoldable pub middle : ℕ → Bool
middle b = is "=" b || is "," b

-- may x stand after p?
unfoldable pub follows : ℕ → ℕ → Bool
follows p x = known x && not ((middle p && eqb x 32) || (eqb p 32 && (middle x || eqb x 32)))

-- if the first test is passed, the second is
unfoldable pub so : Bool → Bool → Bool
so true b = b
so false b = true

pub so-at : (a b : Bool) → so a b ≡ true → a ≡ true → b ≡ true
unfolding so
so-at true b h e = h
so-at false b h e = absurd (false≢true e)

pub both : (a b : Bool) → a ≡ true → b ≡ true → a && b ≡ true
both true b e f = f
both false b e f = e

module _ {A : Type 0} (test : A → Bool) (x : A) (l : List A) (h : all_of test (x ∷ l) ≡ true) where
  pub all_first : test x ≡ true
  unfolding all_of
  all_first = and_left (test x) (all_of test l) h

  pub all_rest : all_of test l ≡ true
  unfolding all_of
  all_rest = and_right (test x) (all_of test l) h

-- what is so of every known byte, or of every firm one, is computed
pub known_so : (q : ℕ → Bool) → below 127 (λ b. so (known b) (q b)) ≡ true → (b : ℕ) → known b ≡ true → q b ≡ true
unfolding known
known_so q h b k =
    so-at (known b) (q b) (below_at 127 (λ b. so (known b) (q b)) h b (ltb-true b 127 (and_left (ltb b 127) _ k))) k

pub firm-known : (b : ℕ) → firm b ≡ true → known b ≡ true
unfolding firm
firm-known b h = and_left (known b) _ h

pub firm-so : (q : ℕ → Bool) → below 127 (λ b. so (firm b) (q b)) ≡ true → (b : ℕ) → firm b ≡ true → q b ≡ true
unfolding known
firm-so q h b k =
    so-at (firm b) (q b) (below_at 127 (λ b. so (firm b) (q b)) h b (ltb-true b 127 (and_left (ltb b 127) _ (firm-known b k)))) k

firm-not-middle : (b : ℕ) → firm b ≡ true → middle b ≡ false
firm-not-middle b h = not-true (middle b) (unfold below so firm known middle any_of ascii in firm-so (λ b. not (middle b)) refl b h)

firm-not-space : (b : ℕ) → firm b ≡ true → eqb b 32 ≡ false
firm-not-space b h = not-true (eqb b 32) (unfold below so firm known any_of ascii in firm-so (λ b. not (eqb b 32)) refl b h)

-- a firm byte may stand after any
pub firm-follows : (p x : ℕ) → firm x ≡ true → follows p x ≡ true
unfolding follows
firm-follows p x h = rw (firm-known x h, firm-not-middle x h, firm-not-space x h) (go (middle p) (eqb p 32))
  where
    go : (a b : Bool) → not ((a && false) || (b && (false || false))) ≡ true
    go true true = refl
    go true false = refl
    go false true = refl
    go false false = refl

-- ---- texts

-- the last byte of a text that stands after p
unfoldable pub end_of : ℕ → Bytes → ℕ
end_of p [] = p
end_of p (x ∷ t) = end_of x t

-- a text that may stand after p
unfoldable pub quiet : ℕ → Bytes → Bool
quiet p [] = true
quiet p (x ∷ t) = follows p x && quiet x t

-- a calm text: with a firm byte at either end
unfoldable pub calm : Bytes → Bool
calm [] = false
calm (x ∷ t) = firm x && (quiet x t && firm (end_of x t))

pub end-append : (p : ℕ) (a b : Bytes) → end_of p (a ++ b) ≡ end_of (end_of p a) b
unfolding end_of
end-append p [] b = refl
end-append p (x ∷ a) b = end-append x a b

pub quiet-append : (p : ℕ) (a b : Bytes) → quiet p a ≡ true → quiet (end_of p a) b ≡ true → quiet p (a ++ b) ≡ true
unfolding quiet end_of
quiet-append p [] b h k = k
quiet-append p (x ∷ a) b h k = rw (and_left (follows p x) (quiet x a) h) (quiet-append x a b (and_right (follows p x) (quiet x a) h) k)

-- a calm text may stand after any byte, and ends firm
pub record Stands (p : ℕ) (t : Bytes) : Type 0 where
  pub quietly : quiet p t ≡ true
  pub ends : firm (end_of p t) ≡ true

pub calm-stands : (p : ℕ) (t : Bytes) → calm t ≡ true → Stands p t
unfolding calm quiet end_of
calm-stands p [] h = absurd (false≢true h)
calm-stands p (x ∷ t) h =
    let r = and_right (firm x) (quiet x t && firm (end_of x t)) h in
    record {
      quietly = rw (firm-follows p x (and_left (firm x) _ h)) (and_left (quiet x t) (firm (end_of x t)) r);
      ends = and_right (quiet x t) (firm (end_of x t)) r;
    }

pub stands-append : (p : ℕ) (a b : Bytes) → quiet p a ≡ true → Stands (end_of p a) b → Stands p (a ++ b)
stands-append p a b h k =
    record { quietly = quiet-append p a b h k.quietly; ends = rw (end-append p a b) k.ends }

-- what may stand between two of them
unfoldable pub gap : Bytes → Bool
gap sep = below 127 (λ p. so (firm p) (quiet p sep))

module _ (sep : Bytes) (g : gap sep ≡ true) where
  pub after-stands : (p : ℕ) (ws : List Bytes) → firm p ≡ true → all_of calm ws ≡ true → Stands p (after_each sep ws)
  unfolding gap all_of after_each
  after-stands p [] h a = record { quietly = unfold quiet in refl; ends = unfold end_of in h }
  after-stands p (w ∷ ws) h a =
      let s = calm-stands (end_of p sep) w (and_left (calm w) (all_of calm ws) a) in
      stands-append p sep (w ++ after_each sep ws) (firm-so (λ p. quiet p sep) g p h)
      (stands-append (end_of p sep) w (after_each sep ws) s.quietly (after-stands (end_of (end_of p sep) w) ws s.ends (and_right (calm w) (all_of calm ws) a)))

  -- calm texts with it between are a calm text
  pub joined-calm : (w : Bytes) (ws : List Bytes) → calm w ≡ true → all_of calm ws ≡ true → calm (w ++ after_each sep ws) ≡ true
  unfolding calm
  joined-calm [] ws h a = absurd (false≢true h)
  joined-calm (x ∷ t) ws h a =
      let r = and_right (firm x) (quiet x t && firm (end_of x t)) h in
      let e = after-stands (end_of x t) ws (and_right (quiet x t) (firm (end_of x t)) r) a in
      let s = stands-append x t (after_each sep ws) (and_left (quiet x t) (firm (end_of x t)) r) e in
      rw (and_left (firm x) _ h, s.quietly) s.ends

-- ---- no replacement finds what it looks for

-- a calm text has it nowhere
unfoldable pub shut : Bytes → Bool
shut [] = false
shut (p ∷ []) = not (known p)
shut (p ∷ q ∷ old) = not (known p && follows p q)

clash : (a : Bool) → not a ≡ true → a ≡ true → ⊥
clash true h e = false≢true h
clash false h e = false≢true e

never-starts : (old : Bytes) (x : ℕ) (t : Bytes) → shut old ≡ true → known x ≡ true → quiet x t ≡ true → starts old (x ∷ t) ≡ false
unfolding shut starts
never-starts [] x t s k q = absurd (false≢true s)
never-starts (p ∷ []) x t s k q = go (eqb x p) refl
  where
    go : (b : Bool) → eqb x p ≡ b → b && true ≡ false
    go false e = refl
    go true e = absurd (clash (known p) s (rw (eqb-true x p e) at k))
never-starts (p ∷ o ∷ old) x [] s k q = go (eqb x p)
  where
    go : (b : Bool) → b && false ≡ false
    go false = refl
    go true = refl
never-starts (p ∷ o ∷ old) x (y ∷ t) s k q = go (eqb x p) (eqb y o) refl refl
  where
    go : (a b : Bool) → eqb x p ≡ a → eqb y o ≡ b → a && (b && starts old t) ≡ false
    go false b e f = refl
    go true false e f = refl
    go true true e f =
        let w : follows x y ≡ true = unfold quiet in and_left (follows x y) (quiet y t) q in
        let v : follows p o ≡ true = rw (eqb-true x p e, eqb-true y o f) at w in
        absurd (clash (known p && follows p o) s (both (known p) (follows p o) (rw (eqb-true x p e) at k) v))

pub follows-known : (p x : ℕ) → follows p x ≡ true → known x ≡ true
unfolding follows
follows-known p x h = and_left (known x) _ h

pub quiet-first : (x y : ℕ) (t : Bytes) → quiet x (y ∷ t) ≡ true → follows x y ≡ true
unfolding quiet
quiet-first x y t q = and_left (follows x y) (quiet y t) q

pub quiet-rest : (x y : ℕ) (t : Bytes) → quiet x (y ∷ t) ≡ true → quiet y t ≡ true
unfolding quiet
quiet-rest x y t q = and_right (follows x y) (quiet y t) q

replace-from : (old new : Bytes) → shut old ≡ true → (x : ℕ) (t : Bytes) → known x ≡ true → quiet x t ≡ true → replace_from zero old new (x ∷ t) ≡ x ∷ t
unfolding replace_from
replace-from old new s x [] k q = rw (never-starts old x [] s k q)
replace-from old new s x (y ∷ t) k q =
    rw (never-starts old x (y ∷ t) s k q)
    (ap (λ (u : Bytes). x ∷ u) (replace-from old new s y t (follows-known x y (quiet-first x y t q)) (quiet-rest x y t q)))

pub replace-calm : (old new t : Bytes) → shut old ≡ true → calm t ≡ true → replace old new t ≡ t
unfolding replace calm
replace-calm old new [] s h = absurd (false≢true h)
replace-calm old new (x ∷ t) s h =
    replace-from old new s x t (firm-known x (and_left (firm x) _ h)) (and_left (quiet x t) _ (and_right (firm x) _ h))

pub run-calm : (rs rest : List Replacement) (t : Bytes) → all_of (λ (r : Replacement). shut r.old) rs ≡ true → calm t ≡ true → run (rs ++ rest) t ≡ run rest t
unfolding run all_of
run-calm [] rest t s h = refl
run-calm (r ∷ rs) rest t s h =
    let e = replace-calm r.old r.new t (and_left (shut r.old) _ s) h in
    ap (run (rs ++ rest)) e ∙ run-calm rs rest t (and_right (shut r.old) _ s) h
