-- Writing from a place on: the laws of `WroteAt`.
use mathlib.Core.Path.{◌≡◌, refl, sym, ap, subst}
use mathlib.Core.List.{[], ◌∷◌, ◌++◌, append-nil}
use Prim.Native.Nat.{ℕ, ◌+◌, ◌≤◌, ◌<◌}
use native.Mathlib.Omega.{arith}
use lib.ListN.{length, take, drop, set, length-append, length-drop}
use lib.Seq.{length-take-le}
use Rattle.rules.specs.Text.Ascii.{ascii}
use Rattle.rules.specs.Text.Bytes.{Bytes}
use Rattle.rules.specs.Text.Split.{line}
use Rattle.text.specs.Wrote.{WroteAt}
use Rattle.text.proofs.Wrote.{Sofar, sofar-at, sofar-part, sofar-byte, sofar-end}

-- ---- a part of the buffer

-- ---- a text after another

pub wrote_nothing : (dst : Bytes) (at : ℕ) → at ≤ length dst → WroteAt [] dst at at dst
wrote_nothing dst at h = record { wrote = sofar-end (sofar-at [] dst at (omega arith)) }

-- two texts in a row, and a byte behind a text
pub wrote-both : (t u : Bytes) {dst₀ : Bytes} {at r r' : ℕ} {dst dst' : Bytes} → at + length (t ++ u) ≤ length dst₀
    → WroteAt t dst₀ at r dst → WroteAt u dst r r' dst' → WroteAt (t ++ u) dst₀ at r' dst'
wrote-both t u {dst₀} {at} {r} {r'} {dst} h v w =
    let s = sofar-at (t ++ u) dst₀ at h in
    let s₁ = sofar-part t s v.wrote in
    let s₂ : Sofar (take at dst₀ ++ (t ++ u)) (u ++ []) dst₀ r dst = subst (λ (x : Bytes). Sofar (take at dst₀ ++ (t ++ u)) x dst₀ r dst) (sym (append-nil u)) s₁ in
    record { wrote = sofar-end (sofar-part u s₂ w.wrote) }

both-room : (t u : Bytes) (dst₀ : Bytes) (at : ℕ) → at + length (t ++ u) ≤ length dst₀ → (at + length t + length u ≤ length dst₀)
both-room t u dst₀ at h = omega (arith, length-append t u)

pub wrote-length : {t dst₀ : Bytes} {at r : ℕ} {dst : Bytes} → at + length t ≤ length dst₀ → WroteAt t dst₀ at r dst → (r ≡ at + length t) × (length dst ≡ length dst₀)
wrote-length {t} {dst₀} {at} {r} {dst} h w =
    let l : length (take at dst₀) ≡ at = length-take-le at dst₀ (omega arith) in
    let n : r ≡ at + length t = omega (arith, w.wrote.count, length-append (take at dst₀) t) in
    (n, omega (arith, ap length w.wrote.whole, length-append (take at dst₀ ++ t) (drop r dst₀), length-append (take at dst₀) t, length-drop r dst₀))

pub wrote-room : (t u : Bytes) {dst₀ : Bytes} {at r : ℕ} {dst : Bytes} → at + length (t ++ u) ≤ length dst₀ → WroteAt t dst₀ at r dst → r + length u ≤ length dst
wrote-room t u {dst₀} {at} h w =
    let b = wrote-length (omega (arith, length-append t u)) w in
    omega (arith, b.0, b.1, length-append t u)

-- a byte is written behind what there is
pub wrote-byte : (v : ℕ) (dst : Bytes) (at : ℕ) → at < length dst → WroteAt (v ∷ []) dst at (at + 1) (set dst at v)
wrote-byte v dst at h = record { wrote = sofar-end (sofar-byte (sofar-at (v ∷ []) dst at (omega arith))) }

-- ---- a line: a text and a newline

line-is : (t : Bytes) → line t ≡ t ++ (10 ∷ [])
unfolding line ascii
line-is t = refl

module _ (t dst : Bytes) (at : ℕ) (h : at + length (line t) ≤ length dst) where
  fits_both : at + length (t ++ (10 ∷ [])) ≤ length dst
  fits_both = rw (← line-is t) h

  pub line-room : at + length t ≤ length dst
  line-room = omega (arith, fits_both, length-append t (10 ∷ []))

  pub line-place : {o : ℕ} {dst₁ : Bytes} → WroteAt t dst at o dst₁ → (o < length dst₁) × (o < length dst)
  line-place w =
      let b = wrote-length line-room w in
      (omega (arith, wrote-room t (10 ∷ []) fits_both w), omega (arith, b.0, b.1, fits_both, length-append t (10 ∷ [])))

  pub line-done : {o : ℕ} {dst₁ : Bytes} → WroteAt t dst at o dst₁ → WroteAt (line t) dst at (o + 1) (set dst₁ o 10)
  line-done {o} {dst₁} w = rw (line-is t) (wrote-both t (10 ∷ []) fits_both w (wrote-byte 10 dst₁ o (line-place w).0))
