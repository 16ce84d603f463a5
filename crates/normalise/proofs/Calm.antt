-- A calm text is its own normal form: it has nothing to trim, its words stand one space apart, and no `old` of the list begins anywhere in it.
use mathlib.Core.Path.{◌≡◌, refl, sym, ap, ◌∙◌}
use mathlib.Core.Bool.{Bool, true, false, cond, ◌&&◌, ◌||◌, false≢true, and-false, not}
use mathlib.Core.List.{List, [], ◌∷◌}
use Prim.Native.Nat.{ℕ, ◌+◌, ◌≤◌, ◌<◌}
use native.Mathlib.Numerals.{add-one}
use native.Mathlib.Omega.{arith}
use borrow.Author.Tests.{eqb-true, lt-ltb, leb-true, not-true}
use lib.Dec.{eqb, leb, ltb}
use lib.ListN.{length, drop, get_or, drop_of_length-le}
use lib.Seq.{drop-cons}
use Rattle.rules.specs.Text.Ascii.{ascii, is}
use Rattle.rules.specs.Text.Bytes.{Bytes, white, starts, replace_from, replace, trim_start, trim_end, trimmed}
use Rattle.rules.specs.Text.Normal.{Replacement, run, becomes, subscript_becomes, replacements, squeezed, continued, normal}
use Rattle.rules.specs.Text.Lists.{all_of}
use Rattle.laws_lists.specs.Tests.{and_left, and_right}
use Rattle.laws_text.specs.Passes.{keep, trim_end-cons}
use Rattle.laws_text.specs.Sizes.{weight, length-weight}
use Rattle.text.specs.Wrote.{Wrote, Holds}
use Rattle.text.proofs.Wrote.{wrote-holds}
use Rattle.text.proofs.Squeezed.{left, left_end, left_after, left_word, left-space, left-start}
use Rattle.normalise.specs.Calm.{sort, is_plain, is_space, follows, calm_from}
use Rattle.normalise.specs.declared.normal.Sort.{Sort}
use Rattle.normalise.specs.declared.normal.Sort.TheVariants.{Plain, Mark, Space, Other}

-- ---- the first byte

module _ (last : Sort) (x : ℕ) (t : Bytes) (e : calm_from last (x ∷ t) ≡ true) where
  calm-first : follows last (sort x) ≡ true
  unfolding calm_from
  calm-first = and_left (follows last (sort x)) _ e

  calm-rest : calm_from (sort x) t ≡ true
  unfolding calm_from
  calm-rest = and_right (follows last (sort x)) _ e

-- ---- sorts

-- no other byte may follow
odd-stops : (last k : Sort) → k ≡ Other → follows last k ≡ false
unfolding follows
odd-stops last k h = rw h refl

low-sort : (x : ℕ) → eqb x 32 ≡ false → ltb x 32 ≡ true → sort x ≡ Other
unfolding sort
low-sort x e f = rw (e, f) refl

space-sort : (x : ℕ) → x ≡ 32 → sort x ≡ Space
unfolding sort
space-sort x f = ap sort f

colon-sort : (x : ℕ) → x ≡ 58 → sort x ≡ Mark
unfolding sort
colon-sort x f = ap sort f

-- white space is a space, or another byte
white-sort : (x : ℕ) → white x ≡ true → (sort x ≡ Plain → ⊥) × (sort x ≡ Mark → ⊥)
unfolding white
white-sort x e = go (eqb x 32) refl e
  where
    other : sort x ≡ Other → (sort x ≡ Plain → ⊥) × (sort x ≡ Mark → ⊥)
    other f = (λ g. cc, λ g. cc)

    space : sort x ≡ Space → (sort x ≡ Plain → ⊥) × (sort x ≡ Mark → ⊥)
    space f = (λ g. cc, λ g. cc)

    go : (b : Bool) → eqb x 32 ≡ b → (b || (leb 9 x && leb x 13)) ≡ true → (sort x ≡ Plain → ⊥) × (sort x ≡ Mark → ⊥)
    go true f e = space (space-sort x (eqb-true x 32 f))
    go false f e = let h = leb-true x 13 (and_right (leb 9 x) _ e) in other (low-sort x f (lt-ltb x 32 (omega (arith, h))))

plain_byte : (x : ℕ) → sort x ≡ Plain → white x ≡ false
plain_byte x e = go (white x) refl
  where
    go : (b : Bool) → white x ≡ b → b ≡ false
    go true f = absurd ((white-sort x f).0 e)
    go false f = refl

mark_byte : (x : ℕ) → sort x ≡ Mark → white x ≡ false
mark_byte x e = go (white x) refl
  where
    go : (b : Bool) → white x ≡ b → b ≡ false
    go true f = absurd ((white-sort x f).1 e)
    go false f = refl

no-colon : (x : ℕ) → sort x ≡ Plain → eqb x 58 ≡ false
no-colon x e = go (eqb x 58) refl
  where
    go : (b : Bool) → eqb x 58 ≡ b → b ≡ false
    go true f = let g = colon-sort x (eqb-true x 58 f) in cc
    go false f = refl

-- after a space stands a plain byte
plain-after : (k : Sort) → follows Space k ≡ true → k ≡ Plain
unfolding follows is_plain is_space
plain-after Plain e = refl
plain-after Mark e = absurd (false≢true e)
plain-after Space e = absurd (false≢true e)
plain-after Other e = absurd (false≢true e)

plain-is : (k : Sort) → is_plain k ≡ true → k ≡ Plain
unfolding is_plain
plain-is Plain e = refl
plain-is Mark e = absurd (false≢true e)
plain-is Space e = absurd (false≢true e)
plain-is Other e = absurd (false≢true e)

-- ---- the words of a calm text, with one space between, are the text

is-space : (x : ℕ) → sort x ≡ Space → x ≡ 32
unfolding sort
is-space x e = go (eqb x 32) refl
  where
    other : (b : Bool) (r : Sort) → (r ≡ Space → ⊥) → cond b Other r ≡ Space → ⊥
    other true r h e = cc
    other false r h e = h e

    mark : (b : Bool) (r : Sort) → (r ≡ Space → ⊥) → cond b Mark r ≡ Space → ⊥
    mark true r h e = cc
    mark false r h e = h e

    plain : Plain ≡ Space → ⊥
    plain e = cc

    go : (b : Bool) → eqb x 32 ≡ b → x ≡ 32
    go true f = eqb-true x 32 f
    go false f =
        absurd
        (other (ltb x 32) _
        (other (ltb 127 x) _
        (other (eqb x 60) _
        (other (eqb x 62) _
        (mark (eqb x 61) _
        (mark (eqb x 58) _
        (mark (eqb x 44) _
        (mark (eqb x 124) _
        (mark (eqb x 36) Plain plain)))))))) (rw f at e))

not-two : {k : ℕ} → k < 2 → k ≡ 2 → ⊥
not-two h e = omega (arith, h, e)

space-white : (x : ℕ) → x ≡ 32 → white x ≡ true
unfolding white
space-white x e = ap white e

not_last : calm_from Space [] ≡ true → ⊥
unfolding calm_from is_plain
not_last e = false≢true e

-- what is left within a word, and after one
abbrev Word-left : Bytes → Type 0
Word-left t = (last : Sort) → calm_from last t ≡ true → left 1 t ≡ t

abbrev Space-left : Bytes → Type 0
Space-left t = calm_from Space t ≡ true → left 2 t ≡ 32 ∷ t

byte-in : (last : Sort) (x : ℕ) (t : Bytes) → Word-left t → Space-left t → calm_from last (x ∷ t) ≡ true → (k : Sort) → sort x ≡ k → left 1 (x ∷ t) ≡ x ∷ t
byte-in last x t v w e Plain f =
    left_word x t 1 (not-two (omega arith)) (plain_byte x f) ∙ ap (λ (u : Bytes). x ∷ u) (v (sort x) (calm-rest last x t e))
byte-in last x t v w e Mark f =
    left_word x t 1 (not-two (omega arith)) (mark_byte x f) ∙ ap (λ (u : Bytes). x ∷ u) (v (sort x) (calm-rest last x t e))
byte-in last x t v w e Space f =
    left_after x t (space-white x (is-space x f))
    ∙ w (ap (λ (k : Sort). calm_from k t) (sym f) ∙ calm-rest last x t e)
    ∙ ap (λ (y : ℕ). y ∷ t) (sym (is-space x f))
byte-in last x t v w e Other f = absurd (false≢true (sym (odd-stops last (sort x) f) ∙ calm-first last x t e))

plain_in : (x : ℕ) (t : Bytes) → Word-left t → calm_from Space (x ∷ t) ≡ true → (white x ≡ false) × (left 1 t ≡ t)
plain_in x t v e = (plain_byte x (plain-after (sort x) (calm-first Space x t e)), v (sort x) (calm-rest Space x t e))

all_left : (t : Bytes) → Word-left t × Space-left t
all_left [] = (λ last e. left_end 1, λ e. absurd (not_last e))
all_left (x ∷ t) =
    let i = all_left t in (
      λ last e. byte-in last x t i.0 i.1 e (sort x) refl,
      λ e. let p = plain_in x t i.0 e in left-space x t p.0 ∙ ap (λ (u : Bytes). 32 ∷ x ∷ u) p.1,
    )

calm-squeezed : (t : Bytes) → calm_from Space t ≡ true → squeezed t ≡ t
unfolding squeezed
calm-squeezed [] e = absurd (not_last e)
calm-squeezed (x ∷ t) e =
    let p = plain_in x t (all_left t).0 e in
    sym (left-start (x ∷ t)) ∙ left_word x t 0 (not-two (omega arith)) p.0 ∙ ap (λ (u : Bytes). x ∷ u) p.1

-- ---- nothing is trimmed

module _ (test : ℕ → Bool) (stays : (x : ℕ) → sort x ≡ Plain → test x ≡ false) where
  ends : (last : Sort) (t : Bytes) → calm_from last t ≡ true → trim_end test t ≡ t
  unfolding trim_end keep calm_from
  ends last [] e = refl
  ends last (x ∷ []) e = let f = plain-is (sort x) (calm-rest last x [] e) in trim_end-cons test x [] ∙ rw (stays x f) refl
  ends last (x ∷ y ∷ t) e = let f = ends (sort x) (y ∷ t) (calm-rest last x (y ∷ t) e) in trim_end-cons test x (y ∷ t) ∙ rw f refl

  calm-trimmed : (t : Bytes) → calm_from Space t ≡ true → trimmed test t ≡ t
  unfolding trimmed trim_start
  calm-trimmed [] e = absurd (not_last e)
  calm-trimmed (x ∷ t) e = let f = stays x (plain-after (sort x) (calm-first Space x t e)) in rw f (ends Space (x ∷ t) e)

-- ---- nothing is replaced

-- no calm text begins with `old`
unfoldable Quiet : Bytes → Type 0
Quiet old = (last : Sort) (x : ℕ) (t : Bytes) → calm_from last (x ∷ t) ≡ true → starts old (x ∷ t) ≡ false

calm-replaced : (old new : Bytes) → Quiet old → (last : Sort) (t : Bytes) → calm_from last t ≡ true → replace old new t ≡ t
unfolding replace replace_from Quiet
calm-replaced old new q last [] e = refl
calm-replaced old new q last (x ∷ t) e = rw (q last x t e) (ap (λ (u : Bytes). x ∷ u) (calm-replaced old new q (sort x) t (calm-rest _ _ _ e)))

-- one that begins with another byte
odd-first : (p : ℕ) (old : Bytes) → sort p ≡ Other → Quiet (p ∷ old)
unfolding Quiet starts
odd-first p old h last x t e = go (eqb x p) refl
  where
    go : (b : Bool) → eqb x p ≡ b → (b && starts old t) ≡ false
    go true f = absurd (false≢true (sym (odd-stops last (sort x) (ap sort (eqb-true x p f) ∙ h)) ∙ calm-first _ _ _ e))
    go false f = refl

-- one whose second byte may not follow its first
odd-second : (p q : ℕ) (old : Bytes) → follows (sort p) (sort q) ≡ false → Quiet (p ∷ q ∷ old)
unfolding Quiet starts
odd-second p q old h last x [] e = and-false (eqb x p)
odd-second p q old h last x (y ∷ t) e = go (eqb x p) refl (eqb y q) refl
  where
    go : (b : Bool) → eqb x p ≡ b → (c : Bool) → eqb y q ≡ c → (b && (c && starts old t)) ≡ false
    go true f true g = absurd (false≢true (sym (rw (eqb-true x p f, eqb-true y q g) h) ∙ calm-first _ _ _ (calm-rest _ _ _ e)))
    go true f false g = refl
    go false f c g = refl

unfoldable is_other : Sort → Bool
is_other Plain = false
is_other Mark = false
is_other Space = false
is_other Other = true

other-is : (k : Sort) → is_other k ≡ true → k ≡ Other
unfolding is_other
other-is Plain e = absurd (false≢true e)
other-is Mark e = absurd (false≢true e)
other-is Space e = absurd (false≢true e)
other-is Other e = refl

-- the test of both, which is computed of each `old` of the list
unfoldable odd : Bytes → Bool
odd [] = false
odd (p ∷ []) = is_other (sort p)
odd (p ∷ q ∷ old) = is_other (sort p) || not (follows (sort p) (sort q))

odd-quiet : (old : Bytes) → odd old ≡ true → Quiet old
unfolding odd
odd-quiet [] e = absurd (false≢true e)
odd-quiet (p ∷ []) e = odd-first p [] (other-is (sort p) e)
odd-quiet (p ∷ q ∷ old) e = go (is_other (sort p)) refl e
  where
    go : (b : Bool) → is_other (sort p) ≡ b → (b || not (follows (sort p) (sort q))) ≡ true → Quiet (p ∷ q ∷ old)
    go true f g = odd-first p (q ∷ old) (other-is (sort p) f)
    go false f g = odd-second p q old (not-true (follows (sort p) (sort q)) g)

abbrev odd_old : Replacement → Bool
odd_old r = odd r.old

all-odd : all_of odd_old replacements ≡ true
unfolding all_of odd is_other replacements becomes subscript_becomes ascii sort follows is_plain is_space
all-odd = refl

calm_run : (rs : List Replacement) → all_of odd_old rs ≡ true → (t : Bytes) → calm_from Space t ≡ true → run rs t ≡ t
unfolding run all_of
calm_run [] o t e = refl
calm_run (r ∷ rs) o t e =
    let quiet = odd-quiet r.old (and_left (odd r.old) (all_of odd_old rs) o) in
    rw (calm-replaced r.old r.new quiet Space t e) (calm_run rs (and_right (odd r.old) (all_of odd_old rs) o) t e)

calm-continued : (t : Bytes) → calm_from Space t ≡ true → continued t ≡ t
unfolding continued ascii odd is_other sort follows is_plain is_space
calm-continued t e = calm-replaced _ _ (odd-quiet (10 ∷ 58 ∷ []) refl) Space t e

-- ---- it is its own normal form

calm-normal : (t : Bytes) → calm_from Space t ≡ true → normal t ≡ t
unfolding normal
calm-normal t e =
    ap (λ (u : Bytes). squeezed (run replacements (squeezed (continued (trimmed (is ":") u))))) (calm-trimmed white plain_byte t e)
    ∙ ap (λ (u : Bytes). squeezed (run replacements (squeezed (continued u)))) (calm-trimmed (is ":") no-colon t e)
    ∙ ap (λ (u : Bytes). squeezed (run replacements (squeezed u))) (calm-continued t e)
    ∙ ap (λ (u : Bytes). squeezed (run replacements u)) (calm-squeezed t e)
    ∙ ap squeezed (calm_run replacements all-odd t e)
    ∙ calm-squeezed t e

calm-white : (t : Bytes) → calm_from Space t ≡ true → trimmed white t ≡ t
calm-white t e = calm-trimmed white plain_byte t e

-- it has room where its weight has, and stands in a buffer as its own normal form
pub calm-room : (t : Bytes) {x : ℕ} → calm_from Space t ≡ true → weight (trimmed white t) ≤ x → 0 + length t ≤ x
calm-room t e h = omega (arith, length-weight t, ap weight (calm-white t e), h)

pub calm-holds : (t : Bytes) {a₀ a : Bytes} {r : ℕ} → calm_from Space t ≡ true → Wrote t a₀ r a → Holds (normal t) r a
calm-holds t e w = rw (calm-normal t e) (wrote-holds w)

-- ---- `is_calm`: every byte before i may follow the one before it, so the bytes from i on decide

pub plain-yes : {k : Sort} → k ≡ Plain → true ≡ is_plain k
unfolding is_plain
plain-yes e = sym (ap is_plain e)

pub plain-no : (k : Sort) → (k ≡ Plain → ⊥) → false ≡ is_plain k
unfolding is_plain
plain-no Plain n = absurd (n refl)
plain-no Mark n = refl
plain-no Space n = refl
plain-no Other n = refl

pub record Calms (t : Bytes) (last : Sort) (i : ℕ) : Type 0 where
  pub within : i ≤ length t
  pub same : calm_from Space t ≡ calm_from last (drop i t)

pub calms-none : (t : Bytes) → Calms t Space 0
calms-none t = record { within = omega arith; same = refl }

module _ {t : Bytes} {last : Sort} {i : ℕ} (m : Calms t last i) where
  pub calms-end : length t ≤ i → is_plain last ≡ calm_from Space t
  unfolding calm_from
  calms-end h = sym (m.same ∙ ap (calm_from last) (drop_of_length-le t h))

  module _ {k : Sort} (h : i < length t) (e : k ≡ sort (get_or t i 0)) where
    next : calm_from Space t ≡ (follows last k && calm_from k (drop (i + 1) t))
    unfolding calm_from
    next = m.same ∙ ap (calm_from last) (drop-cons t i 0 h) ∙ rw (← e, add-one i) refl

    pub calms-stop : follows last k ≡ false → false ≡ calm_from Space t
    calms-stop f = sym (next ∙ rw f refl)

    pub calms-more : follows last k ≡ true → Calms t k (i + 1)
    calms-more f = record { within = omega (arith, h); same = next ∙ rw f refl }
