-- The digits of a number, one after the other: a number below ten is one digit (`digits-one`), and any other is the digits of its tenth
-- part and then its last digit (`digits_more`). So a number below 10 ^ k has k digits at most.
use Rattle.std.specs.Prelude.{◌≡◌, ℕ, zero, suc, ◌+◌, ◌/◌, ◌%◌, ◌^◌, ◌≤◌, ◌<◌, Bool, true, false, cond, [], ◌∷◌, ◌++◌, length, ltb}
use Rattle.std.proofs.Math.Path.{refl, ap}
use Rattle.std.proofs.Common.{sym, ◌∙◌, subst, le_trans, lt_of_lt_of_le, div-lt_iff_lt-mul, pow-suc, arith, ltb-true, ltb-false, lt-ltb, le-ltb, ne_eqb, length-append, lit≤}
use Rattle.std.proofs.Math.Nat.{le-suc, div-div-eq-div-mul, zero-div, pow-succ', pow-le-pow_left, pow-le-pow_right}
use Rattle.std.specs.Float.Ieee.{size as binaryDigits}
use Rattle.std.specs.Float.Ieee.Digits.{size-lt}
use Rattle.rules.specs.Text.Ascii.{is}
use Rattle.rules.specs.Text.Bytes.{Bytes, trim_start}
use Rattle.rules.specs.Text.Numerals.{digit_at, digits_from, digits}

-- as a walk writes them, of a number that has at most `more` and one
digits_within : ℕ → ℕ → Bytes
digits_within zero n = (48 + n) ∷ []
digits_within (suc more) n = cond (ltb n 10) ((48 + n) ∷ []) (digits_within more (n / 10) ++ ((48 + n % 10) ∷ []))

-- ---- zeros in front

abbrev until_first : Bytes → Bytes
until_first t = trim_start (is "0") t

-- is there a digit?
abbrev Some : Bytes → Type 0
Some t = (x : ℕ) × (l : Bytes) × (t ≡ x ∷ l)

nothing : {x : ℕ} {l : Bytes} → ◌≡◌ {A = Bytes} [] (x ∷ l) → ⊥
nothing e = let z : ◌≡◌ {A = ℕ} 0 1 = cc e in omega arith

-- where something is left of a text, what follows it stays
front-stays : (t u : Bytes) → Some (until_first t) → until_first (t ++ u) ≡ until_first t ++ u
unfolding trim_start
front-stays [] u (x, l, e) = absurd (nothing e)
front-stays (y ∷ t) u s = go (is "0" y) s (front-stays t u)
  where
    go : (b : Bool) → Some (cond b (until_first t) (y ∷ t)) → (Some (until_first t) → until_first (t ++ u) ≡ until_first t ++ u)
        → cond b (until_first (t ++ u)) (y ∷ (t ++ u)) ≡ cond b (until_first t) (y ∷ t) ++ u
    go true s r = r s
    go false s r = refl

-- ---- the digits of a tenth part

tenth-at : (n k : ℕ) → digit_at n (suc k) ≡ digit_at (n / 10) k
unfolding digit_at
tenth-at n k = ap (λ (x : ℕ). 48 + n / x % 10) (pow-succ' 10 k) ∙ ap (λ (x : ℕ). 48 + x % 10) (sym (div-div-eq-div-mul n 10 (10 ^ k)))

tenth-from : (n k : ℕ) → digits_from n (suc k) ≡ digits_from (n / 10) k ++ (digit_at (n / 10) 0 ∷ [])
unfolding digits_from
tenth-from n zero = λ i. tenth-at n 0 i ∷ []
tenth-from n (suc k) = λ i. tenth-at n (suc k) i ∷ tenth-from n k i

last-at : (n : ℕ) → digit_at n 0 ≡ 48 + n % 10
unfolding digit_at
last-at n = let e : n / 1 ≡ n = omega arith in rw e

-- a number below ten has only zeros in front of its last digit
small_at : (n k : ℕ) → n < 10 → digit_at n (suc k) ≡ 48
small_at n k h = let e : n / 10 ≡ 0 = omega arith in tenth-at n k ∙ ap (λ (x : ℕ). digit_at x k) e ∙ unfold digit_at in rw (zero-div (10 ^ k))

small-front : (n k : ℕ) (u : Bytes) → n < 10 → until_first (digits_from n k ++ u) ≡ until_first u
unfolding trim_start digits_from
small-front n zero u h = refl
small-front n (suc k) u h = rw (small_at n k h) (small-front n k u h)

small-none : (n k : ℕ) → n < 10 → until_first (digits_from n k) ≡ []
unfolding trim_start digits_from
small-none n zero h = refl
small-none n (suc k) h = rw (small_at n k h) (small-none n k h)

-- ---- a number's digits up to a place that is high enough

abbrev up_to : ℕ → ℕ → Bytes
up_to k n = until_first (digits_from n k) ++ (digit_at n 0 ∷ [])

up_to-some : (t : Bytes) (x : ℕ) → Some (t ++ (x ∷ []))
up_to-some [] x = (x, [], refl)
up_to-some (y ∷ t) x = (y, t ++ (x ∷ []), refl)

pub tenth-less : (n k : ℕ) → n < 10 ^ suc (suc k) → n / 10 < 10 ^ suc k
tenth-less n k h = (div-lt_iff_lt-mul {k = 10} {x = n} {y = 10 ^ suc k} (lit≤ tt)).1 (rw (pow-suc 10 (suc k)) at h)

-- one below ten that is not 0 is left whole
last-stays : (n : ℕ) → 1 ≤ n → n < 10 → until_first (digit_at n 0 ∷ []) ≡ digit_at n 0 ∷ []
unfolding trim_start
last-stays n o h = let e : n % 10 ≡ n = omega arith in rw (last-at n, e, ne_eqb (48 + n) 48 (λ z. omega arith))

-- Of a number that is not 0, zeros in front of all digits are zeros in front of all but the last.
whole : (k n : ℕ) → 1 ≤ n → n < 10 ^ suc k → until_first (digits_from n k ++ (digit_at n 0 ∷ [])) ≡ up_to k n
unfolding trim_start digits_from
whole zero n o h = last-stays n o h
whole (suc k) n o h = go (ltb n 10) refl (λ l. whole k (n / 10) l (tenth-less n k h))
  where
    small : n < 10 → until_first (digits_from n (suc k) ++ (digit_at n 0 ∷ [])) ≡ up_to (suc k) n
    small l =
        small-front n (suc k) (digit_at n 0 ∷ []) l
        ∙ last-stays n o l
        ∙ ap (λ (t : Bytes). t ++ (digit_at n 0 ∷ [])) (sym (small-none n (suc k) l))

    large : until_first (digits_from (n / 10) k ++ (digit_at (n / 10) 0 ∷ [])) ≡ up_to k (n / 10)
        → until_first (digits_from n (suc k) ++ (digit_at n 0 ∷ [])) ≡ up_to (suc k) n
    large e =
        let s = subst (λ (t : Bytes). Some t) (sym (ap until_first (tenth-from n k) ∙ e)) (up_to-some (until_first (digits_from (n / 10) k)) (digit_at (n / 10) 0)) in
        front-stays (digits_from n (suc k)) (digit_at n 0 ∷ []) s

    go : (b : Bool) → ltb n 10 ≡ b → (1 ≤ n / 10 → until_first (digits_from (n / 10) k ++ (digit_at (n / 10) 0 ∷ [])) ≡ up_to k (n / 10))
        → until_first (digits_from n (suc k) ++ (digit_at n 0 ∷ [])) ≡ up_to (suc k) n
    go true e r = small (ltb-true n 10 e)
    go false e r = let l = ltb-false n 10 e in large (r (omega arith))

-- So up to such a place they are as a walk writes them,
up_to-walk : (k n : ℕ) → n < 10 ^ suc k → up_to k n ≡ digits_within k n
unfolding digits_within trim_start digits_from
up_to-walk zero n h = let e : n % 10 ≡ n = omega arith in rw (last-at n, e)
up_to-walk (suc k) n h = go (ltb n 10) refl (up_to-walk k (n / 10) (tenth-less n k h))
  where
    go : (b : Bool) → ltb n 10 ≡ b → up_to k (n / 10) ≡ digits_within k (n / 10)
        → up_to (suc k) n ≡ cond b ((48 + n) ∷ []) (digits_within k (n / 10) ++ ((48 + n % 10) ∷ []))
    go true e r =
        let l = ltb-true n 10 e in
        let m : n % 10 ≡ n = omega arith in
        ap (λ (t : Bytes). t ++ (digit_at n 0 ∷ [])) (small-none n (suc k) l) ∙ rw (last-at n, m)
    go false e r =
        let l = ltb-false n 10 e in
        ap (λ (t : Bytes). until_first t ++ (digit_at n 0 ∷ [])) (tenth-from n k)
        ∙ ap (λ (t : Bytes). t ++ (digit_at n 0 ∷ [])) (whole k (n / 10) (omega arith) (tenth-less n k h) ∙ r)
        ∙ rw (last-at n)

-- and it does not matter which such place.
walk_same : (j k n : ℕ) → n < 10 ^ suc j → n < 10 ^ suc k → digits_within j n ≡ digits_within k n
unfolding digits_within
walk_same zero zero n h l = refl
walk_same zero (suc k) n h l = rw (lt-ltb n 10 h)
walk_same (suc j) zero n h l = rw (lt-ltb n 10 l)
walk_same (suc j) (suc k) n h l =
    ap (λ (t : Bytes). cond (ltb n 10) ((48 + n) ∷ []) (t ++ ((48 + n % 10) ∷ []))) (walk_same j k (n / 10) (tenth-less n j h) (tenth-less n k l))

-- No number has more decimal digits than binary ones.
enough : (n : ℕ) → n < 10 ^ suc (binaryDigits n)
enough n =
    lt_of_lt_of_le (size-lt n) (le_trans (pow-le-pow_left {n = 2} {m = 10} (lit≤ tt) (binaryDigits n)) (pow-le-pow_right {n = 10} (lit≤ tt) (le-suc (binaryDigits n))))

within : (k n : ℕ) → n < 10 ^ suc k → digits n ≡ digits_within k n
unfolding digits
within k n h = up_to-walk (binaryDigits n) n (enough n) ∙ walk_same (binaryDigits n) k n (enough n) h

pub digits-one : (n : ℕ) → n < 10 → digits n ≡ (48 + n) ∷ []
digits-one n h = within 0 n h ∙ unfold digits_within in refl

pub digits_more : (n : ℕ) → 10 ≤ n → digits n ≡ digits (n / 10) ++ ((48 + n % 10) ∷ [])
digits_more n h =
    let k = binaryDigits n in
    let l : n < 10 ^ suc (suc k) = lt_of_lt_of_le (enough n) (pow-le-pow_right {n = 10} (lit≤ tt) (le-suc (suc k))) in
    let e : digits_within (suc k) n ≡ digits_within k (n / 10) ++ ((48 + n % 10) ∷ []) = unfold digits_within in rw (le-ltb n 10 h) in
    within (suc k) n l
    ∙ e
    ∙ ap (λ (t : Bytes). t ++ ((48 + n % 10) ∷ [])) (sym (within k (n / 10) (tenth-less n k l)))

pub digits-length : (k n : ℕ) → n < 10 ^ suc k → length (digits n) ≤ suc k
digits-length zero n h = rw (digits-one n h) (omega arith)
digits-length (suc k) n h = go (ltb n 10) refl (digits-length k (n / 10) (tenth-less n k h))
  where
    go : (b : Bool) → ltb n 10 ≡ b → length (digits (n / 10)) ≤ suc k → length (digits n) ≤ suc (suc k)
    go true e r = rw (digits-one n (ltb-true n 10 e)) (omega arith)
    go false e r = rw (digits_more n (ltb-false n 10 e)) (omega (arith, length-append (digits (n / 10)) ((48 + n % 10) ∷ [])))
