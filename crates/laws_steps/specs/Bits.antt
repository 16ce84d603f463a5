-- The bits of a number whose sign is kept or turned: whatever 64 bits stand for the number, and whatever for what it becomes, are the same but
-- for the sign bit, or both are a NaN's.
use Rattle.std.specs.Prelude.{◌≡◌, refl, ◌⊎◌, ℕ, ◌+◌, ◌-◌, ◌^◌, ◌<◌, Bool, true, false, not, cond, T, leb, Float}
use Rattle.std.proofs.Common.{sym, ap, ◌∙◌, subst, inl, inr, arith, le-leb}
use Rattle.std.proofs.lemmas.Bool.{lt-leb}
use Rattle.std.specs.Float.{nan, inf, fin, binary64}
use Rattle.std.specs.Float.Ieee.{neg, fits, is_nan, to_bits}
use Rattle.std.specs.Float.Ieee.Bits.{of_bits-to_bits, to_bits-lt, to_bits-of_bits, nan_bits_is}
use Rattle.rules.specs.Operators.Numbers.{turn}
use Rattle.rules.specs.Face.Demands.{Bits, Alike, bit-for-bit, nan-for-nan}
use Rattle.laws_lists.specs.Tests.{never}

-- every f64 has bits
pub has-bits : (x : Float) → T (fits binary64 x) → Bits (to_bits binary64 x) x
has-bits x h = record { wide = to_bits-lt binary64 x h; reads = of_bits-to_bits binary64 x h }

-- and a number that is not NaN has no others
only-bits : {p : ℕ} {x : Float} → Bits p x → is_nan x ≡ false → p ≡ to_bits binary64 x
only-bits {p} {x} b k =
    sym (to_bits-of_bits binary64 p b.wide (subst (λ (b : Bool). T (not b)) (sym (ap is_nan b.reads ∙ k)) tt)) ∙ ap (to_bits binary64) b.reads

shift : (s k r : ℕ) → s + k + r ≡ 0 + k + r + s
shift s k r = omega arith

-- turning the sign turns bit 63
neg_bits : (x : Float) → is_nan x ≡ false → (to_bits binary64 (neg x) ≡ to_bits binary64 x + 2 ^ 63) ⊎ (to_bits binary64 x ≡ to_bits binary64 (neg x) + 2 ^ 63)
unfolding is_nan neg to_bits
neg_bits nan h = absurd (never (cc h))
neg_bits (inf true) h = inr refl
neg_bits (inf false) h = inl refl
neg_bits (fin true m e) h = inr (shift (2 ^ 63) _ _)
neg_bits (fin false m e) h = inl (shift (2 ^ 63) _ _)

still : (y : Float) → is_nan (neg y) ≡ is_nan y
unfolding is_nan neg
still nan = refl
still (inf s) = refl
still (fin s m e) = refl

flipped : (s p q : ℕ) → q < s + s → (q ≡ p + s) ⊎ (p ≡ q + s) → q ≡ cond (leb s p) (p - s) (p + s)
flipped s p q l (inl e) = let h : leb s p ≡ false = lt-leb s p (omega arith) in rw h e
flipped s p q l (inr e) = let h : leb s p ≡ true = le-leb s p (omega arith) in rw h (omega arith)

pub alike : (minus : Bool) {p q : ℕ} {x y : Float} → Bits p x → Bits q y → y ≡ turn minus x → Alike minus p q
unfolding turn
alike minus {p} {q} {x} {y} P Q f = go (is_nan x) refl minus f
  where
    go : (b : Bool) → is_nan x ≡ b → (minus : Bool) → y ≡ turn minus x → Alike minus p q
    go true h false f = nan-for-nan (nan_bits_is binary64 p ∙ ap is_nan P.reads ∙ h) (nan_bits_is binary64 q ∙ ap is_nan (Q.reads ∙ f) ∙ h)
    go true h true f = nan-for-nan (nan_bits_is binary64 p ∙ ap is_nan P.reads ∙ h) (nan_bits_is binary64 q ∙ ap is_nan (Q.reads ∙ f) ∙ still x ∙ h)
    go false h false f = bit-for-bit (only-bits Q (ap is_nan f ∙ h) ∙ ap (to_bits binary64) f ∙ sym (only-bits P h))
    go false h true f =
        let m : p ≡ to_bits binary64 x = only-bits P h in
        let n : q ≡ to_bits binary64 (neg x) = only-bits Q (ap is_nan f ∙ still x ∙ h) ∙ ap (to_bits binary64) f in
        let e : (q ≡ p + 2 ^ 63) ⊎ (p ≡ q + 2 ^ 63) = rw (m, n) (neg_bits x h) in
        bit-for-bit (flipped (2 ^ 63) p q Q.wide e)
