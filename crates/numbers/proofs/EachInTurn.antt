-- A loop that writes the text of each of a list, one after the other: the laws of its invariant.
use mathlib.Core.Path.{◌≡◌, subst}
use mathlib.Core.Bool.{Bool, true, false}
use mathlib.Core.List.{List, ◌++◌}
use Prim.Native.Nat.{ℕ, suc, ◌+◌, ◌≤◌, ◌<◌}
use native.Mathlib.Numerals.{add-one}
use native.Mathlib.Omega.{arith}
use borrow.Author.Tests.{lt-ltb}
use lib.ListN.{length, take, drop, get_or, drop_of_length-le}
use lib.Seq.{drop-cons}
use lib.Dec.{ltb}
use Rattle.rules.specs.Text.Bytes.{Bytes}
use Rattle.text.specs.Wrote.{WroteAt}
use Rattle.text.proofs.Wrote.{Sofar, sofar-at, sofar-part-room, sofar-part, sofar-length, sofar-end}
use Rattle.numbers.specs.Parts.{Room, rest}

-- of `l`, those from i on are still to be written
pub record Going {A : Type 0} (each : Bool → A → Bytes) (whole : Bytes) (l : List A) (dst₀ : Bytes) (at i o : ℕ) (dst : Bytes) : Type 0 where
  pub within : i ≤ length l
  pub sofar : Sofar (take at dst₀ ++ whole) (rest each (ltb 0 i) (drop i l)) dst₀ o dst

pub going_start : {A : Type 0} (each : Bool → A → Bytes) {whole : Bytes} (l : List A) {dst : Bytes} {at : ℕ} → whole ≡ rest each false l → Room whole at dst → Going each whole l dst at 0 at dst
going_start each {whole} l {dst} {at} e h = record { within = omega arith; sofar = subst (λ (t : Bytes). Sofar (take at dst ++ whole) t dst at dst) e (sofar-at whole dst at h.fits) }

module _ {A : Type 0} {each : Bool → A → Bytes} {whole : Bytes} {l : List A} {dst₀ : Bytes} {at i o : ℕ} {dst : Bytes} (g : Going each whole l dst₀ at i o dst) where
  -- one more of the list is written
  module _ (d : A) (h : i < length l) where
    next : Sofar (take at dst₀ ++ whole) (each (ltb 0 i) (get_or l i d) ++ rest each true (drop (suc i) l)) dst₀ o dst
    unfolding rest
    next = rw (drop-cons l i d h) at g.sofar

    pub going-room : Room (each (ltb 0 i) (get_or l i d)) o dst
    going-room = record { fits = sofar-part-room (each (ltb 0 i) (get_or l i d)) (rest each true (drop (suc i) l)) next }

    pub going-turn : {r : ℕ} {last : Bytes} → WroteAt (each (ltb 0 i) (get_or l i d)) dst o r last → Going each whole l dst₀ at (i + 1) r last
    going-turn {r} {last} w =
        let k : Sofar (take at dst₀ ++ whole) (rest each true (drop (suc i) l)) dst₀ r last = sofar-part (each (ltb 0 i) (get_or l i d)) next w.wrote in
        record { within = omega arith; sofar = rw (add-one i, lt-ltb 0 (suc i) (omega arith)) k }

  pub going-length : length dst ≡ length dst₀
  going-length = sofar-length g.sofar

  pub going_end : length l ≤ i → WroteAt whole dst₀ at o dst
  unfolding rest
  going_end h = record { wrote = sofar-end (rw (drop_of_length-le l h) at g.sofar) }
