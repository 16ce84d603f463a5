-- The `+` signs: that both replacements are one pass, and the loop's invariant.
use mathlib.Core.Path.{◌≡◌, refl, sym, ap, ◌∙◌}
use mathlib.Core.Bool.{Bool, true, false, cond, ◌&&◌, ◌||◌, false≢true}
use mathlib.Core.List.{[], ◌∷◌}
use Prim.Native.Nat.{ℕ, ◌+◌, ◌≤◌, ◌<◌}
use borrow.Author.Tests.{eqb-true}
use Rattle.std.proofs.Common.{◌-◌, take}
use Rattle.std.proofs.lemmas.List.{take_rest}
use lib.Dec.{eqb}
use lib.ListN.{length, drop, set}
use Rattle.rules.specs.Text.Ascii.{ascii}
use Rattle.rules.specs.Text.Bytes.{Bytes, starts, replace_from, replace}
use Rattle.text.specs.Wrote.{Wrote}
use Rattle.text.proofs.Wrote.{Sofar, sofar-start, sofar-byte, sofar-byte-room, sofar-end, sofar-length}
use Rattle.proj_words.specs.Clean.{gap, signless}

-- ---- at a byte

abbrev once : Bytes → Bytes
once t = replace (32 ∷ 43 ∷ []) (32 ∷ []) t

abbrev again : Bytes → Bytes
again t = replace (10 ∷ 43 ∷ []) (32 ∷ []) t

pub signless-is : (t : Bytes) → signless t ≡ again (once t)
unfolding signless ascii
signless-is t = refl

space-plus : (t : Bytes) → again (once (32 ∷ 43 ∷ t)) ≡ 32 ∷ again (once t)
unfolding replace replace_from starts
space-plus t = refl

newline-plus : (t : Bytes) → again (once (10 ∷ 43 ∷ t)) ≡ 32 ∷ again (once t)
unfolding replace replace_from starts
newline-plus t = refl

-- no `+` in front
abbrev Unsigned : Bytes → Type 0
Unsigned t = starts (43 ∷ []) t ≡ false

once-space : (t : Bytes) → Unsigned t → once (32 ∷ t) ≡ 32 ∷ once t
unfolding replace replace_from starts
once-space t e = rw e

once-newline : (t : Bytes) → once (10 ∷ t) ≡ 10 ∷ once t
unfolding replace replace_from starts
once-newline t = refl

once-unsigned : (t : Bytes) → Unsigned t → Unsigned (once t)
unfolding replace replace_from starts
once-unsigned [] e = refl
once-unsigned (y ∷ t) e = go (starts (32 ∷ 43 ∷ []) (y ∷ t))
  where
    go : (b : Bool) → starts (43 ∷ []) (cond b (32 ∷ replace_from 1 (32 ∷ 43 ∷ []) (32 ∷ []) t) (y ∷ replace_from 0 (32 ∷ 43 ∷ []) (32 ∷ []) t)) ≡ false
    go true = refl
    go false = e

again-space : (t : Bytes) → again (32 ∷ t) ≡ 32 ∷ again t
unfolding replace replace_from starts
again-space t = refl

again-newline : (t : Bytes) → Unsigned t → again (10 ∷ t) ≡ 10 ∷ again t
unfolding replace replace_from starts
again-newline t e = rw e

once-other : (x : ℕ) (t : Bytes) → eqb x 32 ≡ false → once (x ∷ t) ≡ x ∷ once t
unfolding replace replace_from starts
once-other x t e = rw e

again-other : (x : ℕ) (t : Bytes) → eqb x 10 ≡ false → again (x ∷ t) ≡ x ∷ again t
unfolding replace replace_from starts
again-other x t e = rw e

-- ---- by the byte's kind

gap-plus : (x : ℕ) (t : Bytes) → gap x ≡ true → signless (x ∷ 43 ∷ t) ≡ 32 ∷ signless t
unfolding gap
gap-plus x t g = rw (signless-is (x ∷ 43 ∷ t), signless-is t) (go (eqb x 32) refl g)
  where
    go : (b : Bool) → eqb x 32 ≡ b → b || eqb x 10 ≡ true → again (once (x ∷ 43 ∷ t)) ≡ 32 ∷ again (once t)
    go true e f = rw (eqb-true x 32 e) (space-plus t)
    go false e f = rw (eqb-true x 10 f) (newline-plus t)

gap-alone : (x : ℕ) (t : Bytes) → gap x ≡ true → Unsigned t → signless (x ∷ t) ≡ x ∷ signless t
unfolding gap
gap-alone x t g u = rw (signless-is (x ∷ t), signless-is t) (go (eqb x 32) refl g)
  where
    go : (b : Bool) → eqb x 32 ≡ b → b || eqb x 10 ≡ true → again (once (x ∷ t)) ≡ x ∷ again (once t)
    go true e f = rw (eqb-true x 32 e) (ap (λ (v : Bytes). again v) (once-space t u) ∙ again-space (once t))
    go false e f = rw (eqb-true x 10 f) (ap (λ (v : Bytes). again v) (once-newline t) ∙ again-newline (once t) (once-unsigned t u))

gap-none : (x : ℕ) (t : Bytes) → gap x ≡ false → signless (x ∷ t) ≡ x ∷ signless t
unfolding gap
gap-none x t g = rw (signless-is (x ∷ t), signless-is t) (go (eqb x 32) (eqb x 10) refl refl g)
  where
    go : (b c : Bool) → eqb x 32 ≡ b → eqb x 10 ≡ c → b || c ≡ false → again (once (x ∷ t)) ≡ x ∷ again (once t)
    go true c e f h = absurd (false≢true (sym h))
    go false true e f h = absurd (false≢true (sym h))
    go false false e f h = ap (λ (v : Bytes). again v) (once-other x t e) ∙ again-other x (once t) f

-- ---- the loop

-- a text is written, but for what `rest` gives
pub record Signing (src dst₀ rest : Bytes) (o : ℕ) (dst : Bytes) : Type 0 where
  pub sofar : Sofar (signless src) (signless rest) dst₀ o dst

pub signing-start : {src dst : Bytes} → length (signless src) ≤ length dst → Signing src dst src 0 dst
signing-start h = record { sofar = sofar-start _ _ h }

-- a byte, and what is left
module _ {src dst₀ rest : Bytes} (more : Bytes) {o v : ℕ} {dst : Bytes} (m : Signing src dst₀ rest o dst) (e : signless rest ≡ v ∷ signless more) where
  byte : Sofar (signless src) (v ∷ signless more) dst₀ o dst
  byte = rw e at m.sofar

  pub signing-room : (o < length dst) × (o < length dst₀)
  signing-room = sofar-byte-room byte

  pub signing-byte : Signing src dst₀ more (o + 1) (set dst o v)
  signing-byte = record { sofar = sofar-byte byte }

-- the byte at the front of what is left
pub signless-sign : (x : ℕ) (t : Bytes) → gap x ≡ true → starts (43 ∷ []) t ≡ true → signless (x ∷ t) ≡ 32 ∷ signless (take (length t - 1) (drop 1 t))
unfolding starts
signless-sign x [] g e = absurd (false≢true e)
signless-sign x (y ∷ t) g e = rw (eqb-true y 43 (yes (eqb y 43) e), take_rest (43 ∷ t) 1) (gap-plus x t g)
  where
    yes : (b : Bool) → b && true ≡ true → b ≡ true
    yes true p = refl
    yes false p = p

pub signless-stays : (x : ℕ) (t : Bytes) → (gap x && starts (43 ∷ []) t) ≡ false → signless (x ∷ t) ≡ x ∷ signless t
signless-stays x t h = go (gap x) refl h
  where
    go : (b : Bool) → gap x ≡ b → (b && starts (43 ∷ []) t) ≡ false → signless (x ∷ t) ≡ x ∷ signless t
    go true g i = gap-alone x t g i
    go false g i = gap-none x t g

module _ {src dst₀ rest : Bytes} {o : ℕ} {dst : Bytes} (m : Signing src dst₀ rest o dst) where
  pub signing-length : length dst ≡ length dst₀
  signing-length = sofar-length m.sofar

  pub signing_end : rest ≡ [] → Wrote (signless src) dst₀ o dst
  unfolding signless replace replace_from
  signing_end h = sofar-end (rw h at m.sofar)
