-- A number without its sign: each return is the one that its definition names.
use mathlib.Core.Path.{◌≡◌, refl, sym, ap, ◌∙◌}
use mathlib.Core.Bool.{Bool, true, false, cond, ◌&&◌, ◌||◌, true≢false}
use mathlib.Core.List.{[], ◌∷◌}
use Prim.Native.Nat.{ℕ, suc, ◌+◌, ◌-◌, ◌*◌, ◌^◌, ◌≤◌, ◌<◌}
use native.Mathlib.Nat.{pow-suc}
use native.Mathlib.Omega.{arith}
use borrow.Author.Tests.{leb-true, ne_eqb}
use lib.ListN.{length, take, drop, get_or, length-drop}
use lib.Dec.{leb}
use Rattle.rules.specs.Text.Ascii.{is}
use Rattle.rules.specs.Text.Lists.{any_of, all_of}
use Rattle.rules.specs.Text.Bytes.{Bytes, before, behind}
use Rattle.rules.specs.Text.Decimal.{digit, digits_to, spelled, plain_form, plain, decimal}
use Rattle.laws_lists.specs.Tests.{and_left, and_right, never}
use Rattle.text.specs.Runs.{Run}
use Rattle.text.proofs.RunEnd.{other}
use Rattle.text.proofs.Lead.{part-from}
use Rattle.parameters.proofs.Cut.{run-before, run-behind, run-any, run_none}
use Rattle.std.specs.Prelude.{Some, None}
use Rattle.prepare.specs.SeriesRead.{spelled_to}
use Rattle.prepare.proofs.DigitsSpelt.{digit-high}

-- ---- what digits tell

pub not-digits : (most : ℕ) (t : Bytes) → None ≡ spelled_to most t → digits_to most t ≡ false
unfolding spelled_to
not-digits most t e = go (digits_to most t) e
  where
    go : (b : Bool) → None ≡ cond b (Some (spelled 0 t)) None → b ≡ false
    go true f = absurd (never (cc f))
    go false f = refl

pub record Told (most : ℕ) (t : Bytes) (v : ℕ) : Type 0 where
  pub digits : digits_to most t ≡ true
  pub value : v ≡ spelled 0 t

pub are-digits : (most : ℕ) (t : Bytes) (v : ℕ) → Some v ≡ spelled_to most t → Told most t v
unfolding spelled_to
are-digits most t v e = go (digits_to most t) refl e
  where
    go : (b : Bool) → digits_to most t ≡ b → Some v ≡ cond b (Some (spelled 0 t)) None → Told most t v
    go true d f = record { digits = d; value = cc f }
    go false d f = absurd (never (cc f))

-- as many digits as there are spell a number below that power of ten
spelled-small : (i n : ℕ) (t : Bytes) → n < 10 ^ i → all_of digit t ≡ true → spelled n t < 10 ^ (i + length t)
unfolding spelled all_of
spelled-small i n [] h e = let z : i + 0 ≡ i = omega arith in rw z h
spelled-small i n (b ∷ t) h e =
    let d = digit-high b (and_left (digit b) (all_of digit t) e) in
    let z : i + suc (length t) ≡ suc i + length t = omega arith in
    rw z (spelled-small (suc i) (n * 10 + (b - 48)) t (omega (arith, pow-suc 10 i)) (and_right (digit b) (all_of digit t) e))

pub record Few (most v k : ℕ) : Type 0 where
  pub some : 1 ≤ k
  pub few : k ≤ most
  pub small : v < 10 ^ k

pub told-few : {most : ℕ} {t : Bytes} {v : ℕ} → Told most t v → Few most v (length t)
unfolding digits_to
told-few {most} {t} {v} m =
    let r = and_right (leb 1 (length t)) (leb (length t) most && all_of digit t) m.digits in
    let z : 0 + length t ≡ length t = omega arith in
    record {
      some = leb-true 1 (length t) (and_left (leb 1 (length t)) (leb (length t) most && all_of digit t) m.digits);
      few = leb-true (length t) most (and_left (leb (length t) most) (all_of digit t) r);
      small = rw m.value (rw z at (spelled-small 0 0 t (omega arith) (and_right (leb (length t) most) (all_of digit t) r)));
    }

-- ---- a text by its point

behind-none : (test : ℕ → Bool) (t : Bytes) → any_of test t ≡ false → behind test t ≡ []
unfolding any_of behind
behind-none test [] e = refl
behind-none test (x ∷ t) e = go (test x) e (behind-none test t)
  where
    go : (b : Bool) → (b || any_of test t) ≡ false → (any_of test t ≡ false → behind test t ≡ []) → cond b t (behind test t) ≡ []
    go true f h = absurd (true≢false f)
    go false f h = h f

module _ (minus : Bool) (t : Bytes) {p : ℕ} (m : Run (other (is ".")) t 0 p) where
  front : before (is ".") t ≡ take p t
  front = let z : p - 0 ≡ p = omega arith in run-before (is ".") m ∙ ap (λ (k : ℕ). take k t) z

  pub plain-not : None ≡ spelled_to 9 (take p t) → None ≡ plain minus t
  unfolding plain plain_form
  plain-not e = sym (rw (front, not-digits 9 (take p t) e))

  pub plain-whole : (v : ℕ) → Some v ≡ spelled_to 9 (take p t) → length t ≤ p → Some (record { minus = minus; whole = v; millionths = 0 }) ≡ plain minus t
  unfolding plain plain_form spelled
  plain-whole v e h =
      let w = are-digits 9 (take p t) v e in
      let n : any_of (is ".") t ≡ false = run_none (is ".") m h in
      sym (rw (front, w.digits, n, behind-none (is ".") t n, w.value))

  module _ (v : ℕ) (e : Some v ≡ spelled_to 9 (take p t)) (h : p < length t) where
    tail : take (length t - (p + 1)) (drop (p + 1) t) ≡ behind (is ".") t
    tail = part-from t (p + 1) ∙ sym (run-behind (is ".") m h)

    pub plain-no-fraction : None ≡ spelled_to 6 (take (length t - (p + 1)) (drop (p + 1) t)) → None ≡ plain minus t
    unfolding plain plain_form
    plain-no-fraction f =
        let w = are-digits 9 (take p t) v e in
        let d : digits_to 6 (behind (is ".") t) ≡ false = rw (← tail) (not-digits 6 (take (length t - (p + 1)) (drop (p + 1) t)) f) in
        sym (rw (front, w.digits, run-any (is ".") m h, d))

    module _ (x : ℕ) (f : Some x ≡ spelled_to 6 (take (length t - (p + 1)) (drop (p + 1) t))) where
      size : length (behind (is ".") t) ≡ length t - (p + 1)
      size = ap length (run-behind (is ".") m h) ∙ length-drop (p + 1) t

      told : Told 6 (behind (is ".") t) x
      told = rw (← tail) (are-digits 6 (take (length t - (p + 1)) (drop (p + 1) t)) x f)

      pub fraction-few : Few 6 x (length t - (p + 1))
      fraction-few = rw size at (told-few told)

      pub plain-both : {y : ℕ} → y ≡ x * 10 ^ (6 - (length t - (p + 1))) → Some (record { minus = minus; whole = v; millionths = y }) ≡ plain minus t
      unfolding plain plain_form
      plain-both {y} g =
          let w = are-digits 9 (take p t) v e in
          sym (rw (front, w.digits, run-any (is ".") m h, told.digits, size, w.value, ← told.value, g))

-- ---- with its sign

module _ (t : Bytes) where
  pub decimal-none : length t < 1 → None ≡ decimal t
  decimal-none h = go t h
    where
      go : (u : Bytes) → length u < 1 → None ≡ decimal u
      go [] l = unfold decimal in refl
      go (x ∷ u) l = absurd (never (omega arith))

  pub decimal-minus : 1 ≤ length t → get_or t 0 0 ≡ 45 → plain true (take (length t - 1) (drop 1 t)) ≡ decimal t
  decimal-minus h e = go t h e
    where
      go : (u : Bytes) → 1 ≤ length u → get_or u 0 0 ≡ 45 → plain true (take (length u - 1) (drop 1 u)) ≡ decimal u
      go [] l f = absurd (never (omega arith))
      go (x ∷ u) l f = unfold decimal in rw (part-from (x ∷ u) 1, f)

  pub decimal-plain : 1 ≤ length t → (get_or t 0 0 ≡ 45 → ⊥) → plain false t ≡ decimal t
  decimal-plain h n = go t h n
    where
      go : (u : Bytes) → 1 ≤ length u → (get_or u 0 0 ≡ 45 → ⊥) → plain false u ≡ decimal u
      go [] l f = absurd (never (omega arith))
      go (x ∷ u) l f = unfold decimal in rw (ne_eqb x 45 f)
