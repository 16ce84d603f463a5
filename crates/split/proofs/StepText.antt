-- A step's text, by the place where the modifiers in front end: the words behind it, one space apart, and then those before it, each after a
-- space. The laws of the functions that write both.
use mathlib.Core.Path.{◌≡◌, refl, sym, ap, ◌∙◌, subst}
use mathlib.Core.Bool.{true, false, not, false≢true}
use mathlib.Core.List.{[], ◌∷◌, ◌++◌, append_assoc}
use Prim.Native.Nat.{ℕ, ◌+◌, ◌-◌, ◌≤◌, ◌<◌}
use native.Mathlib.Omega.{arith}
use lib.ListN.{length, take, drop, set, length-append, length-set}
use Rattle.rules.specs.Text.Lists.{all_of, non_empty}
use Rattle.rules.specs.Text.Bytes.{Bytes, Words, white, words, after_each, joined_by, joined}
use Rattle.rules.specs.Text.Split.{modifier, leading, following, turned, step_text}
use Rattle.text.specs.Wrote.{WroteAt}
use Rattle.text.proofs.WroteAt.{wrote_nothing, wrote-both, wrote-room, wrote-byte}
use Rattle.text.specs.Runs.{Lead}
use Rattle.split.specs.Spaced.{spaced}
use Rattle.text.proofs.RunEnd.{words-blank, words-none}
use Rattle.text.proofs.Lead.{part-from, following-some}

-- ---- words, each after a space

pub spaced-none : (t : Bytes) → all_of white t ≡ true → spaced (words t) ≡ []
unfolding after_each
spaced-none t e = ap spaced (words-none t e)

pub spaced-some : (t : Bytes) → all_of white t ≡ false → spaced (words t) ≡ (32 ∷ []) ++ joined (words t)
spaced-some t e = go (words t) (words-blank t ∙ ap not e)
  where
    go : (ws : Words) → non_empty ws ≡ true → spaced ws ≡ (32 ∷ []) ++ joined ws
    go [] f = unfold non_empty in absurd (false≢true f)
    go (w ∷ ws) f = unfold after_each joined joined_by in refl

-- ---- a step's text

spaced-append : (ws us : Words) → spaced (ws ++ us) ≡ spaced ws ++ spaced us
unfolding after_each
spaced-append [] us = refl
spaced-append (w ∷ ws) us = ap (λ (r : Bytes). 32 ∷ (w ++ r)) (spaced-append ws us) ∙ ap (λ (r : Bytes). 32 ∷ r) (sym (append_assoc w (spaced ws) (spaced us)))

joined-append : (ws us : Words) → non_empty ws ≡ true → joined (ws ++ us) ≡ joined ws ++ spaced us
unfolding joined joined_by non_empty
joined-append [] us e = absurd (false≢true e)
joined-append (w ∷ ws) us e = ap (λ (r : Bytes). w ++ r) (spaced-append ws us) ∙ sym (append_assoc w (spaced ws) (spaced us))

-- by the place where the modifiers in front end
pub step_is : {s : Bytes} {k : ℕ} → Lead s k → all_of modifier (words s) ≡ false → step_text (words s) ≡ joined (words (drop k s)) ++ spaced (words (take k s))
unfolding step_text turned
step_is {s} {k} m e = joined-append (following (words s)) (leading (words s)) (following-some (words s) e) ∙ rw (m.front, m.rest)

-- ---- for the functions, need by need

-- words, each after a space
pub more-none : (t dst : Bytes) (at : ℕ) → all_of white t ≡ true → at + length (spaced (words t)) ≤ length dst → WroteAt (spaced (words t)) dst at at dst
more-none t dst at e h = rw (spaced-none t e) (wrote_nothing dst at (omega arith))

module _ (t dst : Bytes) (at : ℕ) (e : all_of white t ≡ false) (h : at + length (spaced (words t)) ≤ length dst) where
  some-room : at + length ((32 ∷ []) ++ joined (words t)) ≤ length dst
  some-room = subst (λ (x : Bytes). at + length x ≤ length dst) (spaced-some t e) h

  pub more-place : at < length dst
  more-place = omega (arith, some-room)

  pub more_room : at + 1 + length (joined (words t)) ≤ length (set dst at 32)
  more_room = omega (arith, some-room, length-set dst at 32)

  pub more-some : {r : ℕ} {last : Bytes} → WroteAt (joined (words t)) (set dst at 32) (at + 1) r last → WroteAt (spaced (words t)) dst at r last
  more-some w = rw (spaced-some t e) (wrote-both (32 ∷ []) (joined (words t)) some-room (wrote-byte 32 dst at more-place) w)

-- what the code makes of a step's words from k on, and of those before it
abbrev behind : Bytes → ℕ → Bytes
behind s k = joined (words (take (length s - k) (drop k s)))

abbrev front : Bytes → ℕ → Bytes
front s k = spaced (words (take k s))

-- a step's text
module _ {s : Bytes} {k : ℕ} (m : Lead s k) (e : all_of modifier (words s) ≡ false) (dst : Bytes) (at : ℕ)
    (h : at + length (step_text (words s)) ≤ length dst) where
  from-k : behind s k ≡ joined (words (drop k s))
  from-k = ap (λ (u : Bytes). joined (words u)) (part-from s k)

  both-fit : at + length (behind s k ++ front s k) ≤ length dst
  both-fit = rw (from-k, ← step_is m e) h

  pub step-first : at + length (behind s k) ≤ length dst
  step-first = omega (arith, both-fit, length-append (behind s k) (front s k))

  pub step-second : {o : ℕ} {dst₁ : Bytes} → WroteAt (behind s k) dst at o dst₁ → o + length (front s k) ≤ length dst₁
  step-second w = wrote-room (behind s k) (front s k) both-fit w

  pub step-done : {o r : ℕ} {dst₁ dst₂ : Bytes} → WroteAt (behind s k) dst at o dst₁
      → WroteAt (front s k) dst₁ o r dst₂ → WroteAt (step_text (words s)) dst at r dst₂
  step-done {o} {r} {dst₁} {dst₂} v w =
      let whole : behind s k ++ front s k ≡ step_text (words s) = ap (λ (x : Bytes). x ++ front s k) from-k ∙ sym (step_is m e) in
      subst (λ (x : Bytes). WroteAt x dst at r dst₂) whole (wrote-both (behind s k) (front s k) both-fit v w)
