-- The documented mode of `adapt`: two words make arguments that keep its rule, and the two words of a record are read as its arguments.
-- What rests on the sizes of the outputs and on the codes alone is a finite table, which is computed.
use Rattle.std.specs.Prelude.{◌≡◌, Bool, false, cond, ◌&&◌, length, get_or, take, drop, leb, eqb, ℤ, negsuc, Some}
use Rattle.std.proofs.Math.Path.{refl, ap}
use Rattle.std.proofs.Common.{sym, ap₂, ◌∙◌, mod-lt, mod-eq_of_lt, div-lt_iff_lt-mul, arith, eqb-true, take-append-drop, length-take, length-drop, lit≤}
use Prim.Native.Nat.{ℕ, zero, suc, ◌+◌, ◌-◌, ◌/◌, ◌%◌, ◌≤◌, ◌<◌}
use Rattle.std.proofs.Math.Bool.{true, xor}
use mathlib.Core.List.{List, [], ◌∷◌, ◌++◌, map}
use Rattle.std.proofs.Math.IntN.{pos}
use Rattle.rules.specs.Text.Ascii.{ascii}
use Rattle.rules.specs.Text.Bytes.{Bytes, same}
use Rattle.rules.specs.Text.Lists.{all_of, any_of}
use Rattle.rules.specs.Text.Decimal.{signed, minus}
use Rattle.rules.specs.Operators.Arguments.{size, arg, key_value, is_distinct, is_order}
use Rattle.rules.specs.Operators.Descriptions.{Documented}
use Rattle.rules.specs.Operators.Adapt.{Word, is_code, position, place_in, axis, letter, angles, word, between, ending_of, to_word}
use Rattle.rules.specs.Operators.Documented.{input_at, output_by_axis, carries_angle, angle_by_axis, combined_by_axis, is_pair, two_alike, is_documented}
use Rattle.rules.specs.Operators.Documented.{code_from, letters_for, letters_from, letter_of, code_of, from_by_axis, to_by_axis, adapt_in, combined_in}
use Rattle.rules.specs.Operators.Table.{is_args}
use Rattle.rules.specs.Pipeline.Record.{nine_digits}
use Rattle.rules.specs.Pipeline.Write.{arg_words}
use Rattle.rules.specs.declared.Mode.TheVariants as mode-is
use Rattle.laws_lists.specs.Lists.{all_so, all_append}
use Rattle.laws_lists.specs.Tests.{and_left, and_right, same-is, below, below_at}
use Rattle.laws_records.specs.Calm.{so, so-at}
use Rattle.laws_records.specs.Series.{size-signed}
use Rattle.laws_records.specs.Kept.{Kept}
use Rattle.laws_records.specs.Operators.Adapt.Words.{order4, up_to, up_to-at, order-nines, order-sizes, order-sized, signed-order}
use Rattle.laws_records.specs.Operators.Adapt.Words.{IsWord, four-list, words-order, angles-code, code-nine}
use Rattle.laws_records.specs.Operators.Adapt.Letters.{to-read, code-small, code-again, code-pos, to-firm, to-short}
use Rattle.laws_records.specs.Operators.Adapt.TwoWords.{Spelt}

-- ---- the rule: an order of four, and four codes

-- four codes, two of them alike and the other two 0
codes4 : ℤ → ℤ → ℤ → ℤ → Bool
codes4 e f g h = all_of is_code (e ∷ f ∷ g ∷ h ∷ []) && two_alike (size e) (size f) (size g) (size h)

parts-kept : (a b c d e f g h : ℤ) → is_order (a ∷ b ∷ c ∷ d ∷ []) ≡ true → codes4 e f g h ≡ true
    → Kept Documented (a ∷ b ∷ c ∷ d ∷ e ∷ f ∷ g ∷ h ∷ [])
unfolding is_args is_documented arg codes4
parts-kept a b c d e f g h o k =
    let codes = e ∷ f ∷ g ∷ h ∷ [] in
    let nines = all_so is_code nine_digits code-nine codes (and_left (all_of is_code codes) _ k) in
    record {
      fit = lit≤ tt;
      nines = all_append nine_digits (a ∷ b ∷ c ∷ d ∷ []) codes (order-nines (a ∷ b ∷ c ∷ d ∷ []) o) nines;
      rule = rw o k;
    }

-- ---- two words keep it

-- code n, if an axis of size x carries an angle
marked : ℕ → ℕ → ℤ
marked n x = cond (leb x 2) (pos n) (pos 0)

-- of an order of four axes, two carry an angle: a table
marked4 : (n a b c d : ℕ) → Bool
unfolding codes4 marked is_code minus two_alike is_pair all_of
marked4 n a b c d = so (is_code (pos n)) (codes4 (marked n a) (marked n b) (marked n c) (marked n d))

two-marked : up_to 4 (λ a b c d. let r = below 8 (λ n. marked4 n a b c d) in so (order4 a b c d) r) ≡ true
unfolding up_to below so order4 is_order is_distinct all_of any_of marked4
two-marked = refl

word-marked : (w : Word) → IsWord w → (n : ℕ) → is_code (pos n) ≡ true
    → (let at : ℕ → ℤ = λ i. marked n (size (arg i w.axes)) in codes4 (at 1) (at 2) (at 3) (at 4) ≡ true)
unfolding arg marked4
word-marked w q n k =
    let m = four-list w.axes q.four in
    let o : is_order (m.0 ∷ m.1 ∷ m.2 ∷ m.3 ∷ []) ≡ true = rw m.4 at q.ordered in
    let z = order-sized m.0 m.1 m.2 m.3 o in
    let row = up_to-at 4 _ two-marked (size m.0) (size m.1) (size m.2) (size m.3) z.0.most z.1.most z.2.most z.3.most in
    let r = so-at (order4 (size m.0) (size m.1) (size m.2) (size m.3)) _ row (order-sizes m.0 m.1 m.2 m.3 o) in
    rw m.4 (so-at (is_code (pos n)) _ (below_at 8 _ r n (code-small n k)) k)

pub by-axis-kept : (v w : Word) → IsWord v → IsWord w → Kept Documented (combined_by_axis v w)
unfolding combined_by_axis output_by_axis input_at angle_by_axis carries_angle angles marked
by-axis-kept v w p q =
    parts-kept _ _ _ _ _ _ _ _
    (signed-order _ _ _ _ _ _ _ _ (words-order v w p q))
    (word-marked w q _ (angles-code v w p.angle-small q.angle-small))

-- ---- the letters of `from`

-- the size of the axis at place p of the letters
axis_at : Bytes → ℕ → ℕ
unfolding axis place_in ascii signed
axis_at t p = size (axis (get_or t (p - 1) 0))

abbrev axes_of : Bytes → List ℤ
axes_of t = pos (axis_at t 1) ∷ pos (axis_at t 2) ∷ pos (axis_at t 3) ∷ pos (axis_at t 4) ∷ []

-- an output that takes place x and has this code is made again: its axis stands at x, and the code is n if that axis carries an angle, else 0
returns : Bytes → ℕ → ℕ → ℕ → Bool
unfolding axis_at position
returns t n x code = eqb (position 1 (axis_at t x) (axes_of t)) x && eqb (cond (leb (axis_at t x) 2) n 0) code

-- letters t and code n serve the outputs that take the places a, b, c, d and have the codes e, f, g, h
serves : Bytes → ℕ → (a b c d e f g h : ℕ) → Bool
unfolding same letter ascii is_order is_distinct all_of any_of order4 is_code minus axis_at returns
serves t n a b c d e f g h =
    (same t (map letter (axes_of t)) && is_order (axes_of t))
    && ((order4 (axis_at t a) (axis_at t b) (axis_at t c) (axis_at t d) && is_code (pos n))
    && ((returns t n a e && returns t n b f) && (returns t n c g && returns t n d h)))

abbrev listed : (a b c d : ℤ) (e f g h : ℕ) → List ℤ
listed a b c d e f g h = a ∷ b ∷ c ∷ d ∷ pos e ∷ pos f ∷ pos g ∷ pos h ∷ []

-- A record's own letters and code serve its outputs. This is a table: each four codes that the rule takes, and for them each order of four.
served : (e f g h a b c d : ℕ) → Bool
unfolding serves letters_from letters_for code_from code_of arg position ascii
served e f g h a b c d = let l = listed (pos a) (pos b) (pos c) (pos d) e f g h in serves (letters_from l) (code_of l) a b c d e f g h

abbrev served4 : (e f g h : ℕ) → Bool
served4 e f g h = up_to 4 (λ a b c d. let r = served e f g h a b c d in so (order4 a b c d) r)

every-record : up_to 7 (λ e f g h. let r = served4 e f g h in so (codes4 (pos e) (pos f) (pos g) (pos h)) r) ≡ true
unfolding up_to below so codes4 is_code minus two_alike is_pair order4 is_order is_distinct all_of any_of served
every-record = refl

-- what it is to serve them
record Serves (t : Bytes) (n : ℕ) (a b c d : ℤ) (e f g h : ℕ) : Type 0 where
  letters : t ≡ map letter (axes_of t)
  ordered : is_order (axes_of t) ≡ true
  outputs : order4 (axis_at t (size a)) (axis_at t (size b)) (axis_at t (size c)) (axis_at t (size d)) ≡ true
  coded : is_code (pos n) ≡ true
  first : returns t n (size a) e ≡ true
  second : returns t n (size b) f ≡ true
  third : returns t n (size c) g ≡ true
  fourth : returns t n (size d) h ≡ true

serves-so : (t : Bytes) (n : ℕ) (a b c d : ℤ) (e f g h : ℕ) → serves t n (size a) (size b) (size c) (size d) e f g h ≡ true
    → Serves t n a b c d e f g h
unfolding serves
serves-so t n a b c d e f g h k =
    let spelt = same t (map letter (axes_of t)) in
    let order = order4 (axis_at t (size a)) (axis_at t (size b)) (axis_at t (size c)) (axis_at t (size d)) in
    let one = returns t n (size a) e in
    let two = returns t n (size b) f in
    let three = returns t n (size c) g in
    let k1 = and_left (spelt && is_order (axes_of t)) _ k in
    let k2 = and_right (spelt && is_order (axes_of t)) _ k in
    let k3 = and_left (order && is_code (pos n)) _ k2 in
    let k4 = and_right (order && is_code (pos n)) _ k2 in
    record {
      letters = same-is t (map letter (axes_of t)) (and_left spelt _ k1);
      ordered = and_right spelt _ k1;
      outputs = and_left order _ k3;
      coded = and_right order _ k3;
      first = and_left one _ (and_left (one && two) _ k4);
      second = and_right one _ (and_left (one && two) _ k4);
      third = and_left three _ (and_right (one && two) _ k4);
      fourth = and_right three _ (and_right (one && two) _ k4);
    }

-- ---- each output is made again

-- the axis of an output: that of the place which it takes, turned where the output is
axis_of : Bytes → ℤ → ℤ
axis_of t x = signed (minus x) (axis_at t (size x))

-- no axis of `from` is turned
plain-axes : (p q r s j : ℕ) → minus (get_or (pos p ∷ pos q ∷ pos r ∷ pos s ∷ []) j (pos 0)) ≡ false
unfolding minus
plain-axes p q r s zero = refl
plain-axes p q r s (suc zero) = refl
plain-axes p q r s (suc (suc zero)) = refl
plain-axes p q r s (suc (suc (suc zero))) = refl
plain-axes p q r s (suc (suc (suc (suc j)))) = refl

-- so the output is turned where its axis is
sign-again : (x : ℤ) (n : ℕ) → 1 ≤ n → signed (xor false (minus (signed (minus x) n))) (size x) ≡ x
unfolding signed minus xor
sign-again (pos m) n h = refl
sign-again (negsuc m) zero h = absurd (none h)
  where
    none : 1 ≤ 0 → ⊥
    none h = omega arith
sign-again (negsuc m) (suc n) h = refl

cond_pos : (b : Bool) (m n : ℕ) → cond b (pos m) (pos n) ≡ pos (cond b m n)
cond_pos true m n = refl
cond_pos false m n = refl

module _ (t : Bytes) (n : ℕ) (x : ℤ) (code : ℕ) (h : returns t n (size x) code ≡ true) where
  abbrev place_of : ℕ
  place_of = position 1 (size (axis_of t x)) (axes_of t)

  place-again : place_of ≡ size x
  unfolding returns axis_of
  place-again =
      rw (size-signed (minus x) (axis_at t (size x)))
      (eqb-true _ _ (and_left (eqb (position 1 (axis_at t (size x)) (axes_of t)) (size x)) _ h))

  output-again : 1 ≤ axis_at t (size x) → signed (xor (minus (arg place_of (axes_of t))) (minus (axis_of t x))) place_of ≡ x
  unfolding arg axis_of
  output-again k = rw (place-again, plain-axes (axis_at t 1) (axis_at t 2) (axis_at t 3) (axis_at t 4) (size x - 1)) (sign-again x (axis_at t (size x)) k)

  angle-again : cond (leb (size (axis_of t x)) 2) (pos n) (pos 0) ≡ pos code
  unfolding returns axis_of
  angle-again =
      rw (size-signed (minus x) (axis_at t (size x)), cond_pos (leb (axis_at t (size x)) 2) n 0)
      (ap pos (eqb-true _ _ (and_right (eqb (position 1 (axis_at t (size x)) (axes_of t)) (size x)) _ h)))

-- ---- the two words are read as the record

-- a code goes from one of three angles
third-again : (n : ℕ) → n < 8 → n / 3 % 3 ≡ n / 3
third-again n h = mod-eq_of_lt ((div-lt_iff_lt-mul {k = 3} {x = n} {y = 3} (lit≤ tt)).1 (omega arith))

module _ {t : Bytes} {n : ℕ} {a b c d : ℤ} {e f g h : ℕ} (p : Serves t n a b c d e f g h) where
  abbrev out_axes : List ℤ
  out_axes = axis_of t a ∷ axis_of t b ∷ axis_of t c ∷ axis_of t d ∷ []

  out-order : is_order out_axes ≡ true
  unfolding axis_of
  out-order = signed-order _ _ _ _ _ _ _ _ p.outputs

  third-angle : n / 3 % 3 ≡ n / 3
  third-angle = third-again n (code-small n p.coded)

  from-again : t ++ ending_of (n / 3) ≡ to_word (n / 3) (axes_of t)
  unfolding to_word
  from-again = rw third-angle (ap (λ (w : Bytes). w ++ ending_of (n / 3)) p.letters)

  combined-again : combined_by_axis (record { axes = axes_of t; angle = n / 3 % 3 }) (record { axes = out_axes; angle = n % 3 }) ≡ listed a b c d e f g h
  unfolding combined_by_axis output_by_axis input_at angle_by_axis carries_angle angles arg order4
  combined-again =
      let z = order-sized (pos (axis_at t (size a))) (pos (axis_at t (size b))) (pos (axis_at t (size c))) (pos (axis_at t (size d))) p.outputs in
      rw (
        third-angle,
        code-again n p.coded,
        output-again t n a e p.first z.0.least,
        output-again t n b f p.second z.1.least,
        output-again t n c g p.third z.2.least,
        output-again t n d h p.fourth z.3.least,
        angle-again t n a e p.first,
        angle-again t n b f p.second,
        angle-again t n c g p.third,
        angle-again t n d h p.fourth,
      )

  between-again : between combined_by_axis (word (to_word (n / 3) (axes_of t))) (word (to_word n out_axes)) ≡ Some (listed a b c d e f g h)
  unfolding between
  between-again =
      rw (
        to-read (pos (axis_at t 1)) (pos (axis_at t 2)) (pos (axis_at t 3)) (pos (axis_at t 4)) p.ordered (n / 3) (mod-lt (n / 3) (lit≤ tt)),
        to-read (axis_of t a) (axis_of t b) (axis_of t c) (axis_of t d) out-order n (mod-lt n (lit≤ tt)),
      )
      (ap Some combined-again)

-- ---- a record by its parts

each-code : (e f g h : ℤ) → codes4 e f g h ≡ true → (is_code e ≡ true) × (is_code f ≡ true) × (is_code g ≡ true) × (is_code h ≡ true)
unfolding codes4 all_of
each-code e f g h k =
    let k1 = and_left (is_code e && (is_code f && (is_code g && (is_code h && true)))) _ k in
    let k2 = and_right (is_code e) _ k1 in
    let k3 = and_right (is_code f) _ k2 in
    let k4 = and_right (is_code g) _ k3 in
    (and_left (is_code e) _ k1, and_left (is_code f) _ k2, and_left (is_code g) _ k3, and_left (is_code h) _ k4)

record Parts (l : List ℤ) : Type 0 where
  a : ℤ
  b : ℤ
  c : ℤ
  d : ℤ
  e : ℕ
  f : ℕ
  g : ℕ
  h : ℕ
  are : l ≡ listed a b c d e f g h
  ordered : is_order (a ∷ b ∷ c ∷ d ∷ []) ≡ true
  coded : codes4 (pos e) (pos f) (pos g) (pos h) ≡ true

by_parts : (l : List ℤ) (a b c d e f g h : ℤ) → l ≡ a ∷ b ∷ c ∷ d ∷ e ∷ f ∷ g ∷ h ∷ [] → is_documented l ≡ true → Parts l
by_parts l a b c d e f g h q k =
    let k1 : is_order (a ∷ b ∷ c ∷ d ∷ []) && codes4 e f g h ≡ true = unfold is_documented arg codes4 in (rw q at k) in
    let k2 = and_right (is_order (a ∷ b ∷ c ∷ d ∷ [])) _ k1 in
    let z = each-code e f g h k2 in
    let ee = code-pos e z.0 in
    let ff = code-pos f z.1 in
    let gg = code-pos g z.2 in
    let hh = code-pos h z.3 in
    record {
      a = a;
      b = b;
      c = c;
      d = d;
      e = size e;
      f = size f;
      g = size g;
      h = size h;
      are = q ∙ ap (λ (t : List ℤ). a ∷ b ∷ c ∷ d ∷ t) (cc);
      ordered = and_left (is_order (a ∷ b ∷ c ∷ d ∷ [])) _ k1;
      coded = rw (ee, ff, gg, hh) at k2;
    }

parts : (l : List ℤ) → is_documented l ≡ true → Parts l
unfolding is_documented
parts l h =
    let n = eqb-true (length l) 8 (and_left (eqb (length l) 8) _ h) in
    let u = four-list (take 4 l) (rw (length-take 4 l, n)) in
    let w = four-list (drop 4 l) (rw (length-drop 4 l, n)) in
    by_parts l u.0 u.1 u.2 u.3 w.0 w.1 w.2 w.3 (sym (take-append-drop 4 l) ∙ ap₂ ◌++◌ u.4 w.4) h

-- ---- every record

module _ (a b c d : ℤ) (e f g h : ℕ) where
  abbrev own : List ℤ
  own = listed a b c d e f g h

  -- its letters are a matter of sizes alone
  abbrev sizes : List ℤ
  sizes = listed (pos (size a)) (pos (size b)) (pos (size c)) (pos (size d)) e f g h

  code-by-size : (p : ℕ) → code_from own p ≡ code_from sizes p
  unfolding code_from arg position
  code-by-size p = at (4 + position 1 p (take 4 own) - 1)
    where
      at : (j : ℕ) → size (get_or own j (pos 0)) ≡ size (get_or sizes j (pos 0))
      at zero = refl
      at (suc zero) = refl
      at (suc (suc zero)) = refl
      at (suc (suc (suc zero))) = refl
      at (suc (suc (suc (suc j)))) = refl

  letters-by-size : letters_from own ≡ letters_from sizes
  unfolding letters_from
  letters-by-size = rw (code-by-size 1, code-by-size 2, code-by-size 3, code-by-size 4)

  own-serves : is_order (a ∷ b ∷ c ∷ d ∷ []) ≡ true → codes4 (pos e) (pos f) (pos g) (pos h) ≡ true
      → Serves (letters_from own) (code_of own) a b c d e f g h
  own-serves o k =
      let y = each-code (pos e) (pos f) (pos g) (pos h) k in
      let z = order-sized a b c d o in
      let rows = up_to-at 7 _ every-record e f g h (few e y.0) (few f y.1) (few g y.2) (few h y.3) in
      let r = so-at (codes4 (pos e) (pos f) (pos g) (pos h)) _ rows k in
      let row = up_to-at 4 _ r (size a) (size b) (size c) (size d) z.0.most z.1.most z.2.most z.3.most in
      let s = so-at (order4 (size a) (size b) (size c) (size d)) _ row (order-sizes a b c d o) in
      serves-so _ _ a b c d e f g h (rw letters-by-size (unfold served code_of arg in s))
    where
      few : (n : ℕ) → is_code (pos n) ≡ true → n ≤ 7
      few n h = omega (arith, code-small n h)

  words_are : (p : Serves (letters_from own) (code_of own) a b c d e f g h)
      → arg_words Documented own ≡ key_value "from" (to_word (code_of own / 3) (axes_of (letters_from own))) ∷ key_value "to" (to_word (code_of own) (out_axes p)) ∷ []
  unfolding arg_words from_by_axis to_by_axis letter_of to_word axis_of axis_at
  words_are p = ap (λ (w : Bytes). key_value "from" w ∷ key_value "to" (to_by_axis own) ∷ []) (from-again p)

pub spelt-by-axis : (l : List ℤ) → is_documented l ≡ true → Spelt mode-is.Documented l
unfolding adapt_in combined_in
spelt-by-axis l h =
    let q = parts l h in
    let p = own-serves q.a q.b q.c q.d q.e q.f q.g q.h q.ordered q.coded in
    let m = own q.a q.b q.c q.d q.e q.f q.g q.h in
    record {
      from = to_word (code_of m / 3) (axes_of (letters_from m));
      to = to_word (code_of m) (out_axes p);
      are = ap (arg_words Documented) q.are ∙ words_are q.a q.b q.c q.d q.e q.f q.g q.h p;
      from-firm = to-firm _ _ _ _ _ p.ordered;
      from-short = to-short _ _ _ _ _ p.ordered;
      to-firm = to-firm _ _ _ _ _ (out-order p);
      to-short = to-short _ _ _ _ _ (out-order p);
      again = between-again p ∙ ap Some (sym q.are);
    }
