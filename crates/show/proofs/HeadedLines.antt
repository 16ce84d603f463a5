-- The lines of the steps, each behind its heading: the loop.
use mathlib.Core.Path.{◌≡◌, sym, subst}
use mathlib.Core.Bool.{Bool, true, false, cond}
use mathlib.Core.List.{◌∷◌, ◌++◌}
use Prim.Native.Nat.{ℕ, suc, ◌+◌, ◌≤◌, ◌<◌}
use native.Mathlib.Numerals.{add-one}
use native.Mathlib.Omega.{arith}
use borrow.Author.Tests.{eq-eqb, ne_eqb}
use lib.Dec.{eqb}
use lib.ListN.{length, take, drop, get_or, set, drop_of_length-le}
use Rattle.rules.specs.Text.Bytes.{Bytes}
use Rattle.text.specs.Wrote.{WroteAt}
use Rattle.text.proofs.Wrote.{Sofar, drop-next, sofar-at, sofar-part, sofar-part-room, sofar-byte, sofar-byte-room, sofar-end, sofar-length}
use Rattle.rules.specs.Face.Shown.{heading, headed}

-- from byte i of the lines on: k lines are done, and the next has begun or not
pub record Heading (s d₀ : Bytes) (at k : ℕ) (begun : Bool) (i o : ℕ) (d : Bytes) : Type 0 where
  pub within : i ≤ length s
  pub few : k ≤ i
  pub sofar : Sofar (take at d₀ ++ headed 1 false s) (headed (k + 1) begun (drop i s)) d₀ o d

pub heading-start : (s d : Bytes) (at : ℕ) → at + length (headed 1 false s) ≤ length d → Heading s d at 0 false 0 at d
heading-start s d at h = record { within = omega arith; few = omega arith; sofar = sofar-at (headed 1 false s) d at h }

module _ {s d₀ : Bytes} {at k : ℕ} {begun : Bool} {i o : ℕ} {d : Bytes} (m : Heading s d₀ at k begun i o d) where
  pub heading-kept : length d ≡ length d₀
  heading-kept = sofar-length m.sofar

  pub heading-done : length s ≤ i → WroteAt (headed 1 false s) d₀ at o d
  unfolding headed
  heading-done h =
      record {
        wrote = sofar-end (subst (λ (x : Bytes). Sofar (take at d₀ ++ headed 1 false s) (headed (k + 1) begun x) d₀ o d) (drop_of_length-le s h) m.sofar);
      }

  module _ (h : i < length s) where
    here : Sofar (take at d₀ ++ headed 1 false s) (headed (k + 1) begun (get_or s i 0 ∷ drop (i + 1) s)) d₀ o d
    here = subst (λ (x : Bytes). Sofar (take at d₀ ++ headed 1 false s) (headed (k + 1) begun x) d₀ o d) (drop-next s i h) m.sofar

    -- a line that has not begun has its heading first
    before-line : begun ≡ false → Sofar (take at d₀ ++ headed 1 false s) (heading (k + 1) ++ headed (k + 1) true (drop i s)) d₀ o d
    unfolding headed
    before-line e =
        let u = subst (λ (b : Bool). Sofar (take at d₀ ++ headed 1 false s) (headed (k + 1) b (get_or s i 0 ∷ drop (i + 1) s)) d₀ o d) e here in
        subst (λ (x : Bytes). Sofar (take at d₀ ++ headed 1 false s) (heading (k + 1) ++ headed (k + 1) true x) d₀ o d) (sym (drop-next s i h)) u

    pub heading-room : begun ≡ false → o + length (heading (k + 1)) ≤ length d
    heading-room e = sofar-part-room (heading (k + 1)) (headed (k + 1) true (drop i s)) (before-line e)

    pub heading-said : {r : ℕ} {last : Bytes} → begun ≡ false → WroteAt (heading (k + 1)) d o r last → Heading s d₀ at k true i r last
    heading-said e w =
        record { within = m.within; few = m.few; sofar = sofar-part (heading (k + 1)) (before-line e) w.wrote }

    -- a byte of a line that has begun
    in-line : begun ≡ true
        → Sofar (take at d₀ ++ headed 1 false s) (get_or s i 0 ∷ cond (eqb (get_or s i 0) 10) (headed (suc (k + 1)) false (drop (i + 1) s)) (headed (k + 1) true (drop (i + 1) s))) d₀ o d
    unfolding headed
    in-line e = subst (λ (b : Bool). Sofar (take at d₀ ++ headed 1 false s) (headed (k + 1) b (get_or s i 0 ∷ drop (i + 1) s)) d₀ o d) e here

    pub heading-place : begun ≡ true → (o < length d) × (o < length d₀)
    heading-place e = sofar-byte-room (in-line e)

    byte-said : begun ≡ true → (b : Bool) → eqb (get_or s i 0) 10 ≡ b
        → Sofar (take at d₀ ++ headed 1 false s) (cond b (headed (suc (k + 1)) false (drop (i + 1) s)) (headed (k + 1) true (drop (i + 1) s))) d₀ (o + 1) (set d o (get_or s i 0))
    byte-said e b f =
        subst (λ (b : Bool). Sofar (take at d₀ ++ headed 1 false s) (cond b (headed (suc (k + 1)) false (drop (i + 1) s)) (headed (k + 1) true (drop (i + 1) s))) d₀ (o + 1) (set d o (get_or s i 0)))
        f (sofar-byte (in-line e))

    pub heading-next : begun ≡ true → get_or s i 0 ≡ 10 → Heading s d₀ at (k + 1) false (i + 1) (o + 1) (set d o (get_or s i 0))
    heading-next e f =
        record {
          within = omega arith;
          few = omega (arith, m.few);
          sofar = rw (add-one (k + 1)) (byte-said e true (eq-eqb (get_or s i 0) 10 f));
        }

    pub heading-byte : begun ≡ true → (get_or s i 0 ≡ 10 → ⊥) → Heading s d₀ at k begun (i + 1) (o + 1) (set d o (get_or s i 0))
    heading-byte e f =
        record {
          within = omega arith;
          few = omega (arith, m.few);
          sofar =
              subst (λ (b : Bool). Sofar (take at d₀ ++ headed 1 false s) (headed (k + 1) b (drop (i + 1) s)) d₀ (o + 1) (set d o (get_or s i 0))) (sym e)
              (byte-said e false (ne_eqb (get_or s i 0) 10 f));
        }

-- ---- the measure: a heading is said, or a byte
pub less-heading : (n : ℕ) (b : Bool) → b ≡ false → n + 0 < n + cond b 0 1
less-heading n b e = rw e (omega arith)
