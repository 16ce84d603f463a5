-- Texts one after the other: the laws that every function that writes goes by.
use mathlib.Core.Path.{◌≡◌}
use mathlib.Core.List.{[], ◌∷◌, ◌++◌}
use Prim.Native.Nat.{ℕ, ◌+◌, ◌<◌}
use native.Mathlib.Omega.{arith}
use lib.ListN.{length, set, length-append}
use Rattle.rules.specs.Text.Bytes.{Bytes}
use Rattle.text.specs.Wrote.{WroteAt}
use Rattle.text.proofs.Wrote.{sofar-at, sofar-byte, sofar-end}
use Rattle.text.proofs.WroteAt.{wrote_nothing, wrote-both, wrote-length}
use Rattle.numbers.specs.Parts.{Room}

-- ---- one after the other

pub byte-room : {dst : Bytes} {o b : ℕ} → Room (b ∷ []) o dst → o < length dst
byte-room h = omega (arith, h.fits)

pub byte-written : {dst : Bytes} {o b : ℕ} → Room (b ∷ []) o dst → WroteAt (b ∷ []) dst o (o + 1) (set dst o b)
byte-written {dst} {o} {b} h = record { wrote = sofar-end (sofar-byte (sofar-at (b ∷ []) dst o h.fits)) }

-- the same text in other words
pub room_as : {t u dst : Bytes} {at : ℕ} → t ≡ u → Room u at dst → Room t at dst
room_as e h = rw e h

pub as_written : {t u dst last : Bytes} {at r : ℕ} → t ≡ u → WroteAt u dst at r last → WroteAt t dst at r last
as_written e h = rw e h

-- a text of no bytes
pub none_written : {dst : Bytes} {at : ℕ} → Room [] at dst → WroteAt [] dst at at dst
none_written {dst} {at} h = wrote_nothing dst at (omega (arith, h.fits))

module _ (t u : Bytes) {dst : Bytes} {at : ℕ} (h : Room (t ++ u) at dst) where
  pub first-room : Room t at dst
  first-room = record { fits = omega (arith, h.fits, length-append t u) }

  pub then-room : {r : ℕ} {last : Bytes} → WroteAt t dst at r last → Room u r last
  then-room w = let l = wrote-length first-room.fits w in record { fits = omega (arith, h.fits, l.0, l.1, length-append t u) }

  pub both-written : {r r' : ℕ} {last last' : Bytes} → WroteAt t dst at r last → WroteAt u last r r' last' → WroteAt (t ++ u) dst at r' last'
  both-written v w = wrote-both t u h.fits v w

-- a function that writes keeps the buffer's length
pub kept : {t dst last : Bytes} {at r : ℕ} → Room t at dst → WroteAt t dst at r last → length last ≡ length dst
kept h w = (wrote-length h.fits w).1
