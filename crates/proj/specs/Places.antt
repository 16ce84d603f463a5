-- Where the steps of the answer go, and what has been put there.
use Rattle.std.specs.Prelude.{◌≡◌, Bool, true, false, cond, List, ◌++◌, map, ℕ, ◌+◌, ◌-◌, ◌≤◌, length, drop, ltb, Option, None, Some}
use Rattle.rules.specs.Text.Lists.{kept}
use Rattle.rules.specs.Text.Bytes.{Bytes, Steps}
use Rattle.rules.specs.Proj.Translate.{Pipeline, step_of, is_written}
use Rattle.proj_steps.specs.Adds.{Adds}
use Rattle.laws_proj.specs.Ordering.{part_text, state_after}
use Rattle.proj.specs.declared.layout.Put.{Put}
use Rattle.proj.specs.declared.layout.Last.{Last}
use Rattle.proj.specs.declared.layout.Last.TheVariants.{Nothing, Text, Bar}
use Rattle.proj.specs.declared.layout.Pass.{Pass}
use Rattle.proj.specs.declared.layout.Pass.TheVariants.{Count, Behind, InFront}

-- the law's number of what was put last
abbrev pub number_of : Last → ℕ
number_of Nothing = 0
number_of Text = 1
number_of Bar = 2

-- does a pass write, and from the back, and how long is the answer?
abbrev pub writes : Pass → Bool
writes Count = false
writes (Behind total) = true
writes (InFront total) = true

abbrev pub backs : Pass → Bool
backs Count = false
backs (Behind total) = false
backs (InFront total) = true

abbrev pub total_of : Pass → ℕ
total_of Count = 0
total_of (Behind total) = total
total_of (InFront total) = total

-- a pass that writes
pub record IsWriting (back : Bool) (total : ℕ) (p : Pass) : Type 0 where
  pub writes : writes p ≡ true
  pub backs : backs p ≡ back
  pub totals : total_of p ≡ total

-- the place of the next l bytes after o: behind those, or in front of them in an answer of that many bytes in total
unfoldable pub place_of : Bool → ℕ → ℕ → ℕ → ℕ
place_of back total o l = cond back (total - (o + l)) o

-- what is found: that, or that nothing is written
abbrev pub IsPlace : Pass → ℕ → ℕ → Option ℕ → Type 0
IsPlace p o l (Some at) = (writes p ≡ true) × (at ≡ place_of (backs p) (total_of p) o l)
IsPlace p o l None = writes p ≡ false

-- there is room for a text after o
pub record Spot (write back : Bool) (total : ℕ) (text : Bytes) (o : ℕ) (dst : Bytes) : Type 0 where
  pub fits : o + length text ≤ cond write total 1099511627776
  pub inside : cond write total 0 ≤ length dst

-- it is put there, or counted
pub record Puts (write back : Bool) (total : ℕ) (text dst₀ : Bytes) (o r : ℕ) (dst : Bytes) : Type 0 where
  pub count : r ≡ o + length text
  pub adds : Adds write text dst₀ (place_of back total o (length text)) (place_of back total o (length text) + length text) dst

-- a step of the answer is put, with what stands before it
pub record Parted (write back : Bool) (total state : ℕ) (t dst₀ : Bytes) (o : ℕ) (r : Put) (dst : Bytes) : Type 0 where
  pub puts : Puts write back total (part_text back state (ltb 0 o) t) dst₀ o r.o dst
  pub state-is : number_of r.last ≡ state_after state t

-- the texts of the steps that are written
unfoldable pub texts_of : Pipeline → Steps → List Bytes
texts_of p ss = map (step_of p) (kept is_written ss)

-- where it writes, the answer's length is known and the buffer has room
pub record Ready (write : Bool) (total : ℕ) (text dst : Bytes) : Type 0 where
  pub exact : write ≡ true → total ≡ length text
  pub inside : cond write total 0 ≤ length dst

-- the answer is put, or counted
pub record Laid (write : Bool) (text dst₀ : Bytes) (r : ℕ) (dst : Bytes) : Type 0 where
  pub count : r ≡ length text
  pub done : dst ≡ cond write (text ++ drop r dst₀) dst₀
