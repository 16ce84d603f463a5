-- The machine writes the normal form of every text.
use Rattle.std.specs.Prelude.{◌≡◌, ℕ, ◌&&◌, ◌||◌, not, List, [], ◌∷◌, ◌++◌, ltb}
use Rattle.std.proofs.Math.Path.{refl, sym, ap}
use Rattle.std.proofs.Common.{◌∙◌, append_assoc, eqb-true}
use Rattle.std.proofs.Math.Bool.{Bool, true, false, cond}
use Rattle.std.proofs.lemmas.Bool.{false≢true}
use Rattle.std.proofs.Math.Dec.{eqb}
use Rattle.rules.specs.Text.Ascii.{ascii, is}
use Rattle.rules.specs.Text.Lists.{all_of}
use Rattle.rules.specs.Text.Bytes.{Bytes, white, same, trim_start, trim_end, trimmed}
use Rattle.rules.specs.Text.Normal.{normal}
use Rattle.laws_lists.specs.Tests.{and_right}
use Rattle.laws_normal.specs.Scans.{byte, lead, dropped, Held, none, one, two, digit, kept, hold}
use Rattle.laws_normal.specs.Hold.{Ends, flush-byte}
use Rattle.laws_normal.specs.Whole.{shut₇, bars₆, due, inverse, forward, word, spoken, digits₉, normal-scans}
use Rattle.laws_normal.specs.Machine.{State, skips, spaces, kept_of, fresh, freshly, joins, joining, next_mode, next_gap, next, out, from, begin, onego}

-- ---- the ten digits, one by one

pub digits-each : (Q : ℕ → Type 0) → Q 128 → Q 129 → Q 130 → Q 131 → Q 132 → Q 133 → Q 134 → Q 135 → Q 136 → Q 137 → (z : ℕ) → digits₉ z ≡ true → Q z
digits-each Q q₀ q₁ q₂ q₃ q₄ q₅ q₆ q₇ q₈ q₉ z =
    pick 137 _ q₉ (pick 136 _ q₈ (pick 135 _ q₇ (pick 134 _ q₆ (pick 133 _ q₅ (pick 132 _ q₄ (pick 131 _ q₃ (pick 130 _ q₂ (pick 129 _ q₁ (λ e. rw (eqb-true z 128 e) q₀)))))))))
  where
    pick : (c : ℕ) (b : Bool) → Q c → (b ≡ true → Q z) → eqb z c || b ≡ true → Q z
    pick c b q f e = go (eqb z c) refl e
      where
        go : (d : Bool) → eqb z c ≡ d → d || b ≡ true → Q z
        go true h e = rw (eqb-true z c h) q
        go false h e = f e

pub record High (z : ℕ) : Type 0 where
  pub itself : word z ≡ z ∷ []
  pub not_due : due z ≡ false
  pub not_shut : shut₇ z ≡ false
  pub not₁ : eqb z 1 ≡ false
  pub not₂ : eqb z 2 ≡ false
  pub not₃ : eqb z 3 ≡ false
  pub not₄ : eqb z 4 ≡ false
  pub high : ltb 79 z ≡ true

high₀ : High 128
unfolding word due
high₀ = record { itself = refl; not_due = refl; not_shut = refl; not₁ = refl; not₂ = refl; not₃ = refl; not₄ = refl; high = refl }

high₁ : High 129
unfolding word due
high₁ = record { itself = refl; not_due = refl; not_shut = refl; not₁ = refl; not₂ = refl; not₃ = refl; not₄ = refl; high = refl }

high₂ : High 130
unfolding word due
high₂ = record { itself = refl; not_due = refl; not_shut = refl; not₁ = refl; not₂ = refl; not₃ = refl; not₄ = refl; high = refl }

high₃ : High 131
unfolding word due
high₃ = record { itself = refl; not_due = refl; not_shut = refl; not₁ = refl; not₂ = refl; not₃ = refl; not₄ = refl; high = refl }

high₄ : High 132
unfolding word due
high₄ = record { itself = refl; not_due = refl; not_shut = refl; not₁ = refl; not₂ = refl; not₃ = refl; not₄ = refl; high = refl }

high₅ : High 133
unfolding word due
high₅ = record { itself = refl; not_due = refl; not_shut = refl; not₁ = refl; not₂ = refl; not₃ = refl; not₄ = refl; high = refl }

high₆ : High 134
unfolding word due
high₆ = record { itself = refl; not_due = refl; not_shut = refl; not₁ = refl; not₂ = refl; not₃ = refl; not₄ = refl; high = refl }

high₇ : High 135
unfolding word due
high₇ = record { itself = refl; not_due = refl; not_shut = refl; not₁ = refl; not₂ = refl; not₃ = refl; not₄ = refl; high = refl }

high₈ : High 136
unfolding word due
high₈ = record { itself = refl; not_due = refl; not_shut = refl; not₁ = refl; not₂ = refl; not₃ = refl; not₄ = refl; high = refl }

high₉ : High 137
unfolding word due
high₉ = record { itself = refl; not_due = refl; not_shut = refl; not₁ = refl; not₂ = refl; not₃ = refl; not₄ = refl; high = refl }

pub highs : (z : ℕ) → digits₉ z ≡ true → High z
highs = digits-each High high₀ high₁ high₂ high₃ high₄ high₅ high₆ high₇ high₈ high₉

-- ---- what a mode means

data Means : ℕ → Held → ℕ → Type 0 where
  plain : {last : ℕ} → due last ≡ false → shut₇ last ≡ false → Means 0 none last
  closed : {last : ℕ} → due last ≡ false → shut₇ last ≡ true → Means 1 none last
  owed : {last : ℕ} → due last ≡ true → Means 2 none last
  first : {last : ℕ} → due last ≡ false → shut₇ last ≡ false → Means 3 one last
  second : {last : ℕ} → due last ≡ false → shut₇ last ≡ false → Means 4 two last
  whole : {z last : ℕ} → digits₉ z ≡ true → due last ≡ false → shut₇ last ≡ false → Means z (digit z) last

means-kept : {m : ℕ} {h : Held} {last : ℕ} → Means m h last → kept_of m ≡ kept h
unfolding kept_of kept
means-kept (plain d s) = refl
means-kept (closed d s) = refl
means-kept (owed d) = refl
means-kept (first d s) = refl
means-kept (second d s) = refl
means-kept (whole {z = z} g d s) = let k = highs z g in rw (k.not₃, k.not₄, k.high)

means-spaces : {m : ℕ} {h : Held} {last : ℕ} → Means m h last → (c g : Bool)
    → eqb m 2 || (not (eqb m 1 || c) && g) ≡ due last || (not (shut₇ last || c) && g)
means-spaces (plain d s) c g = rw (d, s)
means-spaces (closed d s) c g = rw (d, s)
means-spaces (owed d) c g = rw d
means-spaces (first d s) c g = rw (d, s)
means-spaces (second d s) c g = rw (d, s)
means-spaces (whole {z = z} e d s) c g = let k = highs z e in rw (k.not₁, k.not₂, d, s)

-- ---- a byte by itself

fresh_held : Bool → Held
fresh_held true = one
fresh_held false = none

fresh-means : (x : ℕ) → Means (fresh x) (fresh_held (eqb x 226)) x
unfolding fresh fresh_held
fresh-means x = go (eqb x 226) refl (due x) refl (shut₇ x) refl
  where
    go : (a : Bool) → eqb x 226 ≡ a → (b : Bool) → due x ≡ b → (c : Bool) → shut₇ x ≡ c → Means (cond a 3 (cond b 2 (cond c 1 0))) (fresh_held a) x
    go true e b f c g = rw (eqb-true x 226 e) (unfold due in first refl refl)
    go false e true f c g = owed f
    go false e false f true g = closed f g
    go false e false f false g = plain f g

fresh_holds : (x : ℕ) (r : Bytes) → hold digits₉ none (word x ++ r) ≡ freshly x ++ hold digits₉ (fresh_held (eqb x 226)) r
unfolding freshly
fresh_holds x r = go (eqb x 226) refl
  where
    go' : eqb x 226 ≡ false → (b c : Bool) → hold digits₉ none (cond b inverse (cond c forward (x ∷ [])) ++ r) ≡ cond b inverse (cond c forward (x ∷ [])) ++ hold digits₉ none r
    go' e true c = unfold hold in refl
    go' e false true = unfold hold in refl
    go' e false false = unfold hold in rw e

    go : (a : Bool) → eqb x 226 ≡ a → hold digits₉ none (word x ++ r) ≡ cond a [] (word x) ++ hold digits₉ (fresh_held a) r
    go true e = rw (eqb-true x 226 e) (unfold word hold fresh_held in refl)
    go false e = unfold word fresh_held in go' e (eqb x 62) (eqb x 60)

-- ---- a byte that ends what is held

bar-ends : (h : Held) → Ends digits₉ h 124
unfolding Ends
bar-ends none = tt
bar-ends one = refl
bar-ends two = refl
bar-ends (digit z) = refl

space-ends : (h : Held) → Ends digits₉ h 32
unfolding Ends
space-ends none = tt
space-ends one = refl
space-ends two = refl
space-ends (digit z) = refl

word-ends : (h : Held) (x : ℕ) (r : Bytes) → Ends digits₉ h x → hold digits₉ h (word x ++ r) ≡ kept h ++ hold digits₉ none (word x ++ r)
unfolding word
word-ends h x r e = go (eqb x 62) (eqb x 60)
  where
    go : (b c : Bool) → hold digits₉ h (cond b inverse (cond c forward (x ∷ [])) ++ r) ≡ kept h ++ hold digits₉ none (cond b inverse (cond c forward (x ∷ [])) ++ r)
    go true c = flush-byte digits₉ h 124 _ (bar-ends h)
    go false true = flush-byte digits₉ h 124 _ (bar-ends h)
    go false false = flush-byte digits₉ h x r e

word-fresh : (h : Held) (x : ℕ) (r : Bytes) → Ends digits₉ h x → hold digits₉ h (word x ++ r) ≡ (kept h ++ freshly x) ++ hold digits₉ (fresh_held (eqb x 226)) r
word-fresh h x r e = word-ends h x r e ∙ ap (λ (u : Bytes). kept h ++ u) (fresh_holds x r) ∙ sym (append_assoc (kept h) (freshly x) (hold digits₉ (fresh_held (eqb x 226)) r))

-- ---- a byte right behind the one before

record Joins (m : ℕ) (h : Held) (x : ℕ) : Type 0 where
  behind : Held
  means : Means (joins m x) behind x
  holds : (r : Bytes) → hold digits₉ h (word x ++ r) ≡ joining m x ++ hold digits₉ behind r

module _ (m : ℕ) (h : Held) (x : ℕ) where
  joins-fresh : Ends digits₉ h x → joins m x ≡ fresh x → joining m x ≡ kept h ++ freshly x → Joins m h x
  joins-fresh e f g = record {
    behind = fresh_held (eqb x 226);
    means = rw f (fresh-means x);
    holds = λ r. word-fresh h x r e ∙ ap (λ (u : Bytes). u ++ hold digits₉ (fresh_held (eqb x 226)) r) (sym g);
  }

joins-one : (x : ℕ) (b : Bool) → eqb x 130 ≡ b → Joins 3 one x
joins-one x true e = rw (eqb-true x 130 e) (record { behind = two; means = unfold joins due in second {last = 130} refl refl; holds = λ r. unfold word joining hold in refl })
joins-one x false e = joins-fresh 3 one x (unfold Ends in e) (unfold joins in rw e) (unfold joining kept_of kept in rw e)

joins-two : (x : ℕ) (b : Bool) → digits₉ x ≡ b → Joins 4 two x
joins-two x true e =
    let k = highs x e in
    record {
      behind = digit x;
      means = unfold joins in rw e (whole e k.not_due k.not_shut);
      holds = λ r. rw k.itself (unfold joining hold in rw e);
    }
joins-two x false e = joins-fresh 4 two x (unfold Ends in e) (unfold joins in rw e) (unfold joining kept_of kept in rw e)

joins-digit : (z x : ℕ) → digits₉ z ≡ true → (b : Bool) → eqb x 61 ≡ b → Joins z (digit z) x
joins-digit z x d true e =
    let k = highs z d in
    rw (eqb-true x 61 e)
    (record {
      behind = none;
      means = unfold joins fresh in rw (k.not₃, k.not₄) (unfold due in closed refl refl);
      holds = λ r. unfold word joining hold in rw (k.not₃, k.not₄, k.high);
    })
joins-digit z x d false e =
    let k = highs z d in
    joins-fresh z (digit z) x (unfold Ends in e) (unfold joins in rw (k.not₃, k.not₄)) (unfold joining kept_of kept in rw (k.not₃, k.not₄, k.high, e))

means-joins : {m : ℕ} {h : Held} {last : ℕ} → Means m h last → (x : ℕ) → Joins m h x
means-joins (plain d s) x = joins-fresh 0 none x (unfold Ends in tt) (unfold joins in refl) (unfold joining kept_of kept in refl)
means-joins (closed d s) x = joins-fresh 1 none x (unfold Ends in tt) (unfold joins in refl) (unfold joining kept_of kept in refl)
means-joins (owed d) x = joins-fresh 2 none x (unfold Ends in tt) (unfold joins in refl) (unfold joining kept_of kept in refl)
means-joins (first d s) x = joins-one x (eqb x 130) refl
means-joins (second d s) x = joins-two x (digits₉ x) refl
means-joins (whole {z = z} g d s) x = joins-digit z x g (eqb x 61) refl

-- ---- a byte of a word

record Steps (m : ℕ) (h : Held) (b : Bool) (x : ℕ) : Type 0 where
  behind : Held
  means : Means (cond b (fresh x) (joins m x)) behind x
  holds : (r : Bytes) → hold digits₉ h (lead b (word x ++ r)) ≡ cond b (kept_of m ++ (32 ∷ freshly x)) (joining m x) ++ hold digits₉ behind r

steps : {m : ℕ} {h : Held} {last : ℕ} → Means m h last → (x : ℕ) (b : Bool) → Steps m h b x
steps {m} {h} k x true = record {
  behind = fresh_held (eqb x 226);
  means = fresh-means x;
  holds = λ r.
      unfold lead in
      flush-byte digits₉ h 32 (word x ++ r) (space-ends h)
      ∙ ap (λ (u : Bytes). kept h ++ u) (spaced r)
      ∙ rw (means-kept k) (sym (append_assoc (kept h) (32 ∷ freshly x) (hold digits₉ (fresh_held (eqb x 226)) r)));
}
  where
    spaced : (r : Bytes) → hold digits₉ none (32 ∷ (word x ++ r)) ≡ 32 ∷ (freshly x ++ hold digits₉ (fresh_held (eqb x 226)) r)
    spaced r = unfold hold in ap (λ (u : Bytes). 32 ∷ u) (fresh_holds x r)
steps {m} {h} k x false = let j = means-joins k x in record { behind = j.behind; means = j.means; holds = λ r. unfold lead in j.holds r }

-- ---- the machine

-- what a gap means: white space was passed, and the byte before was a newline
data Gap : ℕ → Bool → Bool → Type 0 where
  no_gap : Gap 0 false false
  some : Gap 1 true false
  line : Gap 2 true true

gap-skips : {gap : ℕ} {g nl : Bool} → Gap gap g nl → eqb gap 2 ≡ nl
gap-skips no_gap = refl
gap-skips some = refl
gap-skips line = refl

gap-some : {gap : ℕ} {g nl : Bool} → Gap gap g nl → not (eqb gap 0) ≡ g
gap-some no_gap = refl
gap-some some = refl
gap-some line = refl

abbrev written : Held → ℕ → Bool → Bool → Bytes → Bytes
written h last g nl t = hold digits₉ h (spoken last g (dropped (byte 10) 58 nl t))

white-gap : (b : Bool) → Gap (cond b 2 1) true b
white-gap true = line
white-gap false = some

not_line : (x : ℕ) → white x ≡ false → eqb x 10 ≡ false
not_line x e = go (eqb x 10) refl
  where
    go : (b : Bool) → eqb x 10 ≡ b → b ≡ false
    go true f = unfold white in rw (eqb-true x 10 f) at e
    go false f = refl

hold-end : (h : Held) → hold digits₉ h [] ≡ kept h
unfolding hold kept
hold-end none = refl
hold-end one = refl
hold-end two = refl
hold-end (digit z) = refl

gap-past : {gap : ℕ} {g nl : Bool} → Gap gap g nl → nl ≡ true → Gap 1 g false
gap-past no_gap e = absurd (false≢true e)
gap-past some e = absurd (false≢true e)
gap-past line e = some

abbrev Writes : Bytes → Type 0
Writes t = (m gap : ℕ) (h : Held) (last : ℕ) (g nl : Bool) → Means m h last → Gap gap g nl → from (record { mode = m; gap = gap }) t ≡ written h last g nl t

writes_more : (x : ℕ) (t : Bytes) → Writes t → Writes (x ∷ t)
writes_more x t i m gap h last g nl k l = unfold from next out next_mode next_gap skips spaces in rw (gap-skips l, gap-some l) (go (eqb x 58 && nl) refl (white x) refl)
  where
    b : Bool
    b = eqb m 2 || (not (eqb m 1 || bars₆ x) && g)

    state : Bool → Bool → State
    state a w = record { mode = cond (a || w) m (cond b (fresh x) (joins m x)); gap = cond a 1 (cond w (cond (eqb x 10) 2 1) 0) }

    passes : eqb x 58 && nl ≡ false → dropped (byte 10) 58 nl (x ∷ t) ≡ x ∷ dropped (byte 10) 58 (eqb x 10) t
    passes e = unfold dropped in rw e

    spelled : eqb x 58 && nl ≡ false → white x ≡ false → spoken last g (dropped (byte 10) 58 nl (x ∷ t)) ≡ lead b (word x ++ spoken x false (dropped (byte 10) 58 false t))
    spelled e f = rw (passes e, not_line x f) (unfold spoken in rw (f, ← means-spaces k (bars₆ x) g))

    go : (a : Bool) → eqb x 58 && nl ≡ a → (w : Bool) → white x ≡ w
        → cond (a || w) [] (cond b (kept_of m ++ (32 ∷ freshly x)) (joining m x)) ++ from (state a w) t ≡ written h last g nl (x ∷ t)
    go true e w f = i m 1 h last g false k (gap-past l (and_right (eqb x 58) nl e)) ∙ ap (λ (u : Bytes). hold digits₉ h (spoken last g u)) (unfold dropped in rw e)
    go false e true f =
        i m (cond (eqb x 10) 2 1) h last true (eqb x 10) k (white-gap (eqb x 10))
        ∙ ap (hold digits₉ h) (rw (passes e) (unfold spoken in rw f))
    go false e false f =
        let s = steps k x b in
        ap (λ (u : Bytes). cond b (kept_of m ++ (32 ∷ freshly x)) (joining m x) ++ u) (i (cond b (fresh x) (joins m x)) 0 s.behind x false false s.means no_gap)
        ∙ sym (s.holds (spoken x false (dropped (byte 10) 58 false t)))
        ∙ ap (hold digits₉ h) (sym (spelled e f))

writes : (t : Bytes) → Writes t
writes [] m gap h last g nl k l = unfold from dropped spoken in means-kept k ∙ sym (hold-end h)
writes (x ∷ t) m gap h last g nl k l = writes_more x t (writes t) m gap h last g nl k l

-- The machine writes the normal form, of every list of numbers.
pub onego-normal : (t : Bytes) → onego t ≡ normal t
unfolding onego begin
onego-normal t = writes (trimmed (is ":") (trimmed white t)) 1 0 none 32 false false (unfold due in closed refl refl) no_gap ∙ sym (normal-scans t)

-- the same of a text that the two trims have left, as the code has it
pub machine-normal : (text : Bytes) {t u : Bytes} → t ≡ trimmed white text → u ≡ trimmed (is ":") t → from begin u ≡ normal text
unfolding onego
machine-normal text p q = rw (q, p) (onego-normal text)

-- ---- examples: the text on the left, what the machine writes of it on the right

examples : List (Bytes × Bytes)
examples =
    (ascii " a = b ", ascii "a=b")
    ∷ (ascii "::x:", ascii "x")
    ∷ (ascii "a\n:b", ascii "a b")
    ∷ (ascii "a > b", ascii "a|omit_inv b")
    ∷ (ascii "a<", ascii "a|omit_fwd")
    ∷ (ascii "$ x y", ascii "$x y")
    ∷ (ascii "a ,  b | c", ascii "a,b|c")
    ∷ (ascii ">>", ascii "|omit_inv |omit_inv")
    ∷ (ascii "\n: a \t b\r\n", ascii "a b")
    ∷ (ascii "a\n::b", ascii "a:b")
    ∷ (ascii "", ascii "")
    ∷ (120 ∷ 226 ∷ 130 ∷ 129 ∷ 10 ∷ 58 ∷ 61 ∷ 49 ∷ [], ascii "x_1=1")
    ∷ (226 ∷ 226 ∷ 130 ∷ 130 ∷ 130 ∷ 61 ∷ 226 ∷ 130 ∷ 137 ∷ 61 ∷ 226 ∷ [], 226 ∷ 226 ∷ 130 ∷ 130 ∷ 130 ∷ 61 ∷ 95 ∷ 57 ∷ 61 ∷ 226 ∷ [])
    ∷ []

right : List (Bytes × Bytes) → Bool
right [] = true
right (e ∷ es) = same (onego e.0) e.1 && right es

examples-right : right examples ≡ true
unfolding right examples onego begin from out next next_mode next_gap skips spaces kept_of fresh freshly joins joining due word white trimmed trim_start trim_end all_of ascii same
examples-right = refl
