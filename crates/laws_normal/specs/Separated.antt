-- The normal form of a text has a `|` just where the text has a separator: `|`, `>` or `<`. Each scan is gone over by itself.
use Rattle.std.specs.Prelude.{◌≡◌, ℕ, ◌-◌, Bool, cond, ◌&&◌, ◌||◌, not, eqb}
use Rattle.std.proofs.Math.Path.{refl, sym, ap}
use Rattle.std.proofs.Common.{◌∙◌, eqb-true}
use Rattle.std.proofs.Math.Bool.{true, false}
use mathlib.Core.List.{[], ◌∷◌, ◌++◌}
use Rattle.rules.specs.Text.Ascii.{is}
use Rattle.rules.specs.Text.Lists.{any_of, all_of}
use Rattle.rules.specs.Text.Bytes.{Bytes, white, trim_start, trim_end, trimmed}
use Rattle.rules.specs.Text.Normal.{normal}
use Rattle.laws_lists.specs.Tests.{or_left, or_right, and_left, and_right}
use Rattle.laws_text.specs.Arrows.{arrow, arrows, arrows-none}
use Rattle.laws_normal.specs.Scans.{byte, lead, dropped, Held, none, one, two, digit, hold}
use Rattle.laws_normal.specs.Whole.{shut₇, bars₆, due, inverse, forward, word, spoken, digits₉, normal-scans}
use Rattle.laws_normal.specs.OneGo.{digits-each}

-- is the byte a separator?
unfoldable pub separator : ℕ → Bool
separator b = is "|" b || arrow b

-- a text without one has no arrow
pub separated-marks : (t : Bytes) → any_of separator t ≡ false → arrows t ≡ 0
unfolding any_of separator
separated-marks [] e = unfold arrows in refl
separated-marks (x ∷ t) e =
    let s = or_left (separator x) (any_of separator t) e in
    arrows-none x t (or_right (is "|" x) (arrow x) s) ∙ separated-marks t (or_right (separator x) (any_of separator t) e)

-- ---- trimming

module _ (f test : ℕ → Bool) (apart : (x : ℕ) → test x ≡ true → f x ≡ false) where
  none-there : (t : Bytes) → all_of test t ≡ true → any_of f t ≡ false
  unfolding all_of any_of
  none-there [] e = refl
  none-there (x ∷ t) e = rw (apart x (and_left (test x) (all_of test t) e)) (none-there t (and_right (test x) (all_of test t) e))

  start-any : (t : Bytes) → any_of f (trim_start test t) ≡ any_of f t
  unfolding trim_start any_of
  start-any [] = refl
  start-any (x ∷ t) = go (test x) refl (start-any t)
    where
      go : (b : Bool) → test x ≡ b → any_of f (trim_start test t) ≡ any_of f t → any_of f (cond b (trim_start test t) (x ∷ t)) ≡ f x || any_of f t
      go true e h = rw (apart x e) h
      go false e h = refl

  end-any : (t : Bytes) → any_of f (trim_end test t) ≡ any_of f t
  unfolding trim_end any_of
  end-any [] = refl
  end-any (x ∷ t) = go (all_of test (x ∷ t)) refl (end-any t)
    where
      go : (b : Bool) → all_of test (x ∷ t) ≡ b → any_of f (trim_end test t) ≡ any_of f t → any_of f (cond b [] (x ∷ trim_end test t)) ≡ any_of f (x ∷ t)
      go true e h = sym (none-there (x ∷ t) e)
      go false e h = ap (λ (b : Bool). f x || b) h

  trimmed-any : (t : Bytes) → any_of f (trimmed test t) ≡ any_of f t
  unfolding trimmed
  trimmed-any t = end-any (trim_start test t) ∙ start-any t

-- a byte that passes a test, which no separator does
apart_from : (test : ℕ → Bool) → test 124 ≡ false → test 62 ≡ false → test 60 ≡ false → (x : ℕ) → test x ≡ true → separator x ≡ false
unfolding separator arrow
apart_from test a b c x e = go (eqb x 124) refl (eqb x 62) refl (eqb x 60) refl
  where
    go : (p : Bool) → eqb x 124 ≡ p → (q : Bool) → eqb x 62 ≡ q → (r : Bool) → eqb x 60 ≡ r → p || (q || r) ≡ false
    go true f q g r h = sym e ∙ ap test (eqb-true x 124 f) ∙ a
    go false f true g r h = sym e ∙ ap test (eqb-true x 62 g) ∙ b
    go false f false g true h = sym e ∙ ap test (eqb-true x 60 h) ∙ c
    go false f false g false h = refl

white-apart : (x : ℕ) → white x ≡ true → separator x ≡ false
unfolding white
white-apart = apart_from white refl refl refl

colon-apart : (x : ℕ) → is ":" x ≡ true → separator x ≡ false
colon-apart = apart_from (is ":") refl refl refl

-- ---- a colon behind a newline

dropped-any : (b : Bool) (t : Bytes) → any_of separator (dropped (byte 10) 58 b t) ≡ any_of separator t
unfolding dropped any_of
dropped-any b [] = refl
dropped-any b (x ∷ t) = go (eqb x 58 && b) refl (dropped-any false t) (dropped-any (eqb x 10) t)
  where
    go : (d : Bool) → eqb x 58 && b ≡ d → any_of separator (dropped (byte 10) 58 false t) ≡ any_of separator t
        → any_of separator (dropped (byte 10) 58 (eqb x 10) t) ≡ any_of separator t
        → any_of separator (cond d (dropped (byte 10) 58 false t) (x ∷ dropped (byte 10) 58 (eqb x 10) t)) ≡ separator x || any_of separator t
    go true e h i = rw (colon-apart x (and_left (eqb x 58) b e)) h
    go false e h i = ap (λ (b : Bool). separator x || b) i

-- ---- the words and the arrows

lead-any : (b : Bool) (r : Bytes) → any_of (is "|") (lead b r) ≡ any_of (is "|") r
unfolding lead any_of
lead-any true r = refl
lead-any false r = refl

word-any : (x : ℕ) (r : Bytes) → any_of (is "|") (word x ++ r) ≡ separator x || any_of (is "|") r
unfolding word separator arrow any_of
word-any x r = go (eqb x 62) refl (eqb x 60) refl
  where
    or-none : (a b : Bool) → a || b ≡ (a || false) || b
    or-none true b = refl
    or-none false b = refl

    go : (a : Bool) → eqb x 62 ≡ a → (b : Bool) → eqb x 60 ≡ b
        → any_of (is "|") (cond a inverse (cond b forward (x ∷ [])) ++ r) ≡ (eqb x 124 || (a || b)) || any_of (is "|") r
    go true e b f = rw (eqb-true x 62 e) refl
    go false e true f = rw (eqb-true x 60 f) refl
    go false e false f = or-none (eqb x 124) (any_of (is "|") r)

spoken-any : (last : ℕ) (gap : Bool) (t : Bytes) → any_of (is "|") (spoken last gap t) ≡ any_of separator t
unfolding spoken any_of
spoken-any last gap [] = refl
spoken-any last gap (x ∷ t) = go (white x) refl (spoken-any last true t) (spoken-any x false t)
  where
    go : (b : Bool) → white x ≡ b → any_of (is "|") (spoken last true t) ≡ any_of separator t → any_of (is "|") (spoken x false t) ≡ any_of separator t
        → any_of (is "|") (cond b (spoken last true t) (lead (due last || (not (shut₇ last || bars₆ x) && gap)) (word x ++ spoken x false t))) ≡ separator x || any_of separator t
    go true e h i = rw (white-apart x e) h
    go false e h i = lead-any (due last || (not (shut₇ last || bars₆ x) && gap)) (word x ++ spoken x false t) ∙ word-any x (spoken x false t) ∙ ap (λ (b : Bool). separator x || b) i

-- ---- the subscript digits

-- what is held back has no `|`, nor what it becomes
NoBar : Held → Type 0
NoBar none = Unit {0}
NoBar one = Unit {0}
NoBar two = Unit {0}
NoBar (digit z) = (eqb z 124 ≡ false) × (eqb (z - 80) 124 ≡ false)

no-bar : (z : ℕ) → digits₉ z ≡ true → NoBar (digit z)
unfolding NoBar
no-bar = digits-each (λ (z : ℕ). NoBar (digit z)) (refl, refl) (refl, refl) (refl, refl) (refl, refl) (refl, refl) (refl, refl) (refl, refl) (refl, refl) (refl, refl) (refl, refl)

Any : Bytes → Type 0
Any t = (h : Held) → NoBar h → any_of (is "|") (hold digits₉ h t) ≡ any_of (is "|") t

-- a byte behind which nothing is held back
fresh-any : (x : ℕ) (t : Bytes) → Any t → any_of (is "|") (cond (eqb x 226) (hold digits₉ one t) (x ∷ hold digits₉ none t)) ≡ eqb x 124 || any_of (is "|") t
unfolding Any NoBar any_of
fresh-any x t i = go (eqb x 226) refl
  where
    go : (b : Bool) → eqb x 226 ≡ b → any_of (is "|") (cond b (hold digits₉ one t) (x ∷ hold digits₉ none t)) ≡ eqb x 124 || any_of (is "|") t
    go true e = rw (eqb-true x 226 e) (i one tt)
    go false e = ap (λ (b : Bool). eqb x 124 || b) (i none tt)

hold-end : (h : Held) → NoBar h → any_of (is "|") (hold digits₉ h []) ≡ false
unfolding hold any_of NoBar
hold-end none p = refl
hold-end one p = refl
hold-end two p = refl
hold-end (digit z) p = rw p.0

hold-byte : (x : ℕ) (t : Bytes) → Any t → (h : Held) → NoBar h → any_of (is "|") (hold digits₉ h (x ∷ t)) ≡ eqb x 124 || any_of (is "|") t
unfolding hold any_of NoBar Any
hold-byte x t i none p = fresh-any x t i
hold-byte x t i one p = go (eqb x 130) refl
  where
    go : (b : Bool) → eqb x 130 ≡ b
        → any_of (is "|") (cond b (hold digits₉ two t) (226 ∷ cond (eqb x 226) (hold digits₉ one t) (x ∷ hold digits₉ none t))) ≡ eqb x 124 || any_of (is "|") t
    go true e = rw (eqb-true x 130 e) (i two tt)
    go false e = fresh-any x t i
hold-byte x t i two p = go (digits₉ x) refl
  where
    go : (b : Bool) → digits₉ x ≡ b
        → any_of (is "|") (cond b (hold digits₉ (digit x) t) (226 ∷ 130 ∷ cond (eqb x 226) (hold digits₉ one t) (x ∷ hold digits₉ none t))) ≡ eqb x 124 || any_of (is "|") t
    go true e = i (digit x) (no-bar x e) ∙ rw (no-bar x e).0
    go false e = fresh-any x t i
hold-byte x t i (digit z) p = go (eqb x 61) refl
  where
    go : (b : Bool) → eqb x 61 ≡ b
        → any_of (is "|") (cond b (95 ∷ (z - 80) ∷ 61 ∷ hold digits₉ none t) (226 ∷ 130 ∷ z ∷ cond (eqb x 226) (hold digits₉ one t) (x ∷ hold digits₉ none t)))
        ≡ eqb x 124 || any_of (is "|") t
    go true e = rw (eqb-true x 61 e, p.1) (i none tt)
    go false e = rw p.0 (fresh-any x t i)

hold-any : (t : Bytes) → Any t
unfolding Any any_of
hold-any [] h p = hold-end h p
hold-any (x ∷ t) h p = hold-byte x t (hold-any t) h p

-- ---- the normal form

pub normal-separated : (t : Bytes) → any_of (is "|") (normal t) ≡ any_of separator t
unfolding Any NoBar
normal-separated t =
    let u = trimmed white t in
    let v = trimmed (is ":") u in
    let w = dropped (byte 10) 58 false v in
    ap (any_of (is "|")) (normal-scans t) ∙ hold-any (spoken 32 false w) none tt ∙ spoken-any 32 false w ∙ dropped-any false v
    ∙ trimmed-any separator (is ":") colon-apart u ∙ trimmed-any separator white white-apart t
