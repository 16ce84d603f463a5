-- Turning a sign is multiplying by -1, and keeping it is multiplying by 1, as the Rust has it: at every value that an f64
-- holds, zeros and infinities too.
use Rattle.std.specs.Prelude.{◌≡◌, refl, ℕ, zero, suc, ◌+◌, ◌-◌, ◌*◌, ◌/◌, ◌%◌, ◌^◌, ◌≤◌, ◌<◌, Bool, true, false, ◌&&◌, cond, ℤ, pos, negsuc, T, ltb, leb, eqb, Float}
use Rattle.std.proofs.Common.{sym, ap, ◌∙◌, subst, mul-one, zero-mul, mul_assoc, mul_comm, mul_right_comm, mul-lt-mul_of_pos_right, lt_of_not-le, le_of_suc-le-suc, not-le_of_lt, zero-add, arith, ltb→lt, leb→le, pow-add, pow_pos}
use Rattle.std.proofs.Math.Nat.{eq_of_mul-eq-mul_right}
use Rattle.std.proofs.Math.Pow.{pow-lt}
use Rattle.std.specs.Float.{nan, inf, fin, Format}
use Rattle.std.specs.Float.Ieee.{prec, emax, low, up, down, unlike, size, hid, top, round, neg, mul, fits, to_bits, of_bits}
use Rattle.std.specs.Float.Ieee.Fits.{down_pos, and_l, and_r, round-fits}
use Rattle.std.specs.Float.Ieee.Exact.{HasValue, round_exact}
use Rattle.std.specs.Float.Ieee.Nearest.{div_same}
use Rattle.std.specs.Float.Ieee.Bits.{of_bits-to_bits}
use Rattle.rules.specs.Operators.Numbers.{turn}

-- ---- two values of a format that are the same number with the same sign are one

cross : (a b c d x y : ℕ) → 0 < c → a * c ≡ x * b → d * c ≡ x * y → a * y ≡ d * b
cross a b c d x y C p q =
    eq_of_mul-eq-mul_right c C (a * y) (d * b)
    (mul_right_comm a y c
    ∙ ap (λ (z : ℕ). z * y) p
    ∙ mul_right_comm x b y
    ∙ ap (λ (z : ℕ). z * b) (sym q)
    ∙ mul_right_comm d c b)

-- the pattern of a finite value: its sign, and its size in units of the format's smallest value
pattern : (f : Format) → Bool → ℕ → ℕ
pattern f s n = cond s (top f) 0 + (size n - prec f) * hid f + n / 2 ^ (size n - prec f)

unique : (f : Format) (x y : Float) (s : Bool) (a c : ℕ) → 0 < c → T (fits f x) → T (fits f y) → HasValue x s a c → HasValue y s a c → x ≡ y
unfolding to_bits pattern
unique f nan y s a c C p q v w = elim v [ ]
unique f (inf _) y s a c C p q v w = elim v [ ]
unique f (fin t m e) nan s a c C p q v w = elim w [ ]
unique f (fin t m e) (inf _) s a c C p q v w = elim w [ ]
unique f (fin t m e) (fin u n d) s a c C p q v w =
    let l = 2 ^ low f in
    let z : m * up e * l * down d ≡ n * up d * l * down e =
    mul_right_comm (m * up e) l (down d) ∙ ap (λ (k : ℕ). k * l) (cross (m * up e) (down e) c (n * up d) a (down d) C v.1 w.1) ∙ mul_right_comm (n * up d) (down e) l in
    let same : to_bits f (fin t m e) ≡ to_bits f (fin u n d) =
    ap (λ (b : Bool). pattern f b (m * up e * l / down e)) (v.0 ∙ sym w.0)
    ∙ ap (pattern f u) (div_same (m * up e * l) (down e) (n * up d * l) (down d) (down_pos e) (down_pos d) z) in
    sym (of_bits-to_bits f (fin t m e) p) ∙ ap (of_bits f) same ∙ of_bits-to_bits f (fin u n d) q

-- ---- rounding changes no value that the format holds

-- what `fits` says of a number that is not zero
record Held (f : Format) (m : ℕ) (e : ℤ) : Type 0 where
  digits : m < 2 ^ prec f
  fine : down e ≤ 2 ^ low f
  small : m * up e < 2 ^ suc (emax f) * down e

held : (f : Format) (s : Bool) (m : ℕ) (e : ℤ) → T (fits f (fin s (suc m) e)) → Held f (suc m) e
unfolding fits
held f s m e h =
    let A = eqb (suc m % 2) 1 in
    let B = ltb (suc m) (2 ^ prec f) in
    let C = leb (down e) (2 ^ low f) in
    let D = ltb (suc m * up e) (2 ^ suc (emax f) * down e) in
    record {
      digits = ltb→lt (suc m) (2 ^ prec f) (and_r A B (and_l (A && B) C (and_l (A && B && C) D h)));
      fine = leb→le (down e) (2 ^ low f) (and_r (A && B) C (and_l (A && B && C) D h));
      small = ltb→lt (suc m * up e) (2 ^ suc (emax f) * down e) (and_r (A && B && C) D h);
    }

lift : (x k j E l : ℕ) → x < 2 ^ E * 2 ^ k → k + j ≡ l → x * 2 ^ j < 2 ^ (l + E)
lift x k j E l h e =
    subst (λ (z : ℕ). x * 2 ^ j < z)
    (mul_assoc (2 ^ E) (2 ^ k) (2 ^ j) ∙ ap (λ (z : ℕ). 2 ^ E * z) (sym (pow-add 2 k j) ∙ ap (λ (z : ℕ). 2 ^ z) e) ∙ mul_comm (2 ^ E) (2 ^ l) ∙ sym (pow-add 2 l E))
    (mul-lt-mul_of_pos_right h (pow_pos j))

pow-le : (k l : ℕ) → 2 ^ k ≤ 2 ^ l → k ≤ l
pow-le k l h = le_of_suc-le-suc (lt_of_not-le (λ (g : suc l ≤ k). not-le_of_lt (pow-lt g) h))

rest : (k l : ℕ) → k ≤ l → k + (l - k) ≡ l
rest k l h = omega arith

exact : (f : Format) (s : Bool) (m : ℕ) (e : ℤ) → Held f m e → HasValue (round f s (m * up e) (down e)) s (m * up e) (down e)
exact f s m (pos k) h =
    let l = low f in
    let z : m * 2 ^ k * 2 ^ l ≡ m * 2 ^ (k + l) = mul_assoc m (2 ^ k) (2 ^ l) ∙ ap (λ (x : ℕ). m * x) (sym (pow-add 2 k l)) in
    round_exact f s (m * 2 ^ k) 1 m (k + l) (pow_pos 0) h.digits
    (subst (λ (x : ℕ). x < 2 ^ (l + suc (emax f))) z (lift (m * 2 ^ k) 0 l (suc (emax f)) l h.small (zero-add l)))
    (z ∙ sym (mul-one (m * 2 ^ (k + l))))
exact f s m (negsuc k) h =
    let l = low f in
    let r : suc k + (l - suc k) ≡ l = rest (suc k) l (pow-le (suc k) l h.fine) in
    round_exact f s (m * 1) (2 ^ suc k) m (l - suc k) (pow_pos (suc k)) h.digits
    (subst (λ (x : ℕ). x * 2 ^ (l - suc k) < 2 ^ (l + suc (emax f))) (mul-one m) (lift (m * 1) (suc k) (l - suc k) (suc (emax f)) l h.small r))
    (ap (λ (x : ℕ). x * 2 ^ l) (mul-one m)
    ∙ ap (λ (x : ℕ). m * x) (ap (λ (x : ℕ). 2 ^ x) (sym r) ∙ pow-add 2 (suc k) (l - suc k) ∙ mul_comm (2 ^ suc k) (2 ^ (l - suc k)))
    ∙ sym (mul_assoc m (2 ^ (l - suc k)) (2 ^ suc k)))

-- a zero has the exponent 0, so it is its own rounding
zero-exact : (f : Format) (s : Bool) (e : ℤ) → HasValue (round f s (zero * up e) (down e)) s (zero * up e) (down e)
zero-exact f s e =
    round_exact f s (zero * up e) (down e) 0 0 (down_pos e) (pow_pos (prec f)) (pow_pos (low f + suc (emax f)))
    (simp zero-mul)

pub round-own : (f : Format) (s : Bool) (m : ℕ) (e : ℤ) → T (fits f (fin s m e)) → round f s (m * up e) (down e) ≡ fin s m e
round-own f s m e h = unique f (round f s (m * up e) (down e)) (fin s m e) s (m * up e) (down e) (down_pos e) (round-fits f s (m * up e) (down e)) h (own m h) (refl, refl)
  where
    own : (m : ℕ) → T (fits f (fin s m e)) → HasValue (round f s (m * up e) (down e)) s (m * up e) (down e)
    own zero h = zero-exact f s e
    own (suc m) h = exact f s (suc m) e (held f s m e h)

-- ---- times one, and times minus one

-- `fits` does not look at the sign
fits-sign : (f : Format) (s t : Bool) (m : ℕ) (e : ℤ) → T (fits f (fin s m e)) → T (fits f (fin t m e))
unfolding fits
fits-sign f s t zero e h = h
fits-sign f s t (suc m) e h = h

-- 1, or -1
abbrev pub unit : Bool → Float
unit s = fin s 1 (pos 0)

pub mul-unit : (f : Format) (s t : Bool) (m : ℕ) (e : ℤ) → T (fits f (fin s m e)) → mul f (fin s m e) (unit t) ≡ fin (unlike s t) m e
unfolding mul
mul-unit f s t m e h = simp mul-one (round-own f (unlike s t) m e (fits-sign f s (unlike s t) m e h))

-- A sign that is turned or kept is the Rust's product with -1 or 1. (Of a NaN too: the model has one.)
pub turn-mul : (f : Format) (b : Bool) (x : Float) → T (fits f x) → turn b x ≡ mul f x (unit b)
unfolding turn mul neg
turn-mul f true nan h = refl
turn-mul f false nan h = refl
turn-mul f true (inf true) h = refl
turn-mul f true (inf false) h = refl
turn-mul f false (inf true) h = refl
turn-mul f false (inf false) h = refl
turn-mul f true (fin true m e) h = sym (mul-unit f true true m e h)
turn-mul f true (fin false m e) h = sym (mul-unit f false true m e h)
turn-mul f false (fin true m e) h = sym (mul-unit f true false m e h)
turn-mul f false (fin false m e) h = sym (mul-unit f false false m e h)
