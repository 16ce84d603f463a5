-- The refusals 11 to 13 of one parameter and of all, by their numbers, and where 12 is; and the first series among them.
use Rattle.std.specs.Prelude.{◌≡◌, ℕ, Bool, true, false, cond, List, [], ◌∷◌, map, eqb, min, Some, None, unwrap_or, Option}
use Rattle.std.specs.Option.{option_or}
use Rattle.rules.specs.Text.Ascii.{ascii}
use Rattle.rules.specs.Text.Lists.{any_of}
use Rattle.rules.specs.Text.Bytes.{Bytes, same}
use Rattle.rules.specs.Text.Parameters.{Parameter, Placed}
use Rattle.rules.specs.Pipeline.Keys.{kind_of, unknown, misspelt, too_long}
use Rattle.rules.specs.Pipeline.Offsets.{faults, earliest}
use Rattle.rules.specs.declared.Kind.{Kind}
use Rattle.rules.specs.declared.Kind.TheVariants as kind
use Rattle.rules.specs.declared.Name.{Name}
use Rattle.prepare.specs.SeriesRead.{Reads, no_numbers}
use Rattle.prepare.specs.declared.faults.Lowest.{Lowest}
use Rattle.prepare.specs.declared.series.Numbers.{Numbers}

-- "its lowest number of .. 9 to 14": 11, 12, 13, then 14
abbrev pub by : Bool → Bool → Bool → ℕ
by a b c = cond a 11 (cond b 12 (cond c 13 14))

abbrev pub parameter : Bytes → Bytes → Parameter
parameter key value = record { key = key; value = value }

abbrev pub placed : Bytes → Bytes → ℕ → Placed
placed key value at = record { given = parameter key value; at = at }

-- the parameters of those that stand in their places
abbrev pub unplaced : List Placed → List Parameter
unplaced qs = map (λ (q : Placed). q.given) qs

-- of a flag
unfoldable pub flag_fault : Bytes → ℕ
flag_fault value = cond (same value (ascii "true")) 14 12

-- of two numbers with their bytes, the byte of the one that is 12, or the earlier
unfoldable pub earlier : ℕ → ℕ → ℕ → ℕ → ℕ
earlier a x b y = cond (eqb a 12) (cond (eqb b 12) (min x y) x) y

-- of all of a step
unfoldable pub lowest_of : Name → List Parameter → ℕ
lowest_of n ps =
    by (any_of (unknown n) ps) (any_of (λ (p : Parameter). misspelt (kind_of n p) p.value) ps) (any_of (λ (p : Parameter). too_long (kind_of n p) p.value) ps)

-- does a key take a series?
unfoldable pub is_series : Option Kind → Bool
is_series (Some kind.Flag) = false
is_series (Some kind.Series) = true
is_series (Some kind.Word) = false
is_series None = false

-- the value of the first key that does
unfoldable pub first_series : Name → List Parameter → Option Bytes
first_series n [] = None
first_series n (p ∷ ps) = cond (is_series (kind_of n p)) (Some p.value) (first_series n ps)

-- ---- as the code has them

-- a number at a byte, and no series
unfoldable pub without : ℕ → ℕ → Lowest
without number at = record { number = number; at = at; series = None }

-- the lower number of two, the earlier byte, and the first series
unfoldable pub joined : Lowest → Lowest → Lowest
joined a b =
    record {
      number = min a.number b.number;
      at = earlier a.number a.at b.number b.at;
      series = option_or a.series b.series;
    }

-- the numbers that are kept, if there are any
abbrev pub numbers_of : Lowest → Numbers
numbers_of r = unwrap_or r.series no_numbers

-- the series that is kept is the first one, if there is one
pub record Kept (v : Bytes) (r : Lowest) : Type 0 where
  pub numbers : Numbers
  pub is : r.series ≡ Some numbers
  pub from : ℕ
  pub read : Reads v from numbers

abbrev pub Keeps : Option Bytes → Lowest → Type 0
Keeps None r = r.series ≡ None
Keeps (Some v) r = Kept v r

pub record Lowers (n : Name) (ps : List Parameter) (r : Lowest) : Type 0 where
  pub number : r.number ≡ lowest_of n ps
  pub series : Keeps (first_series n ps) r

-- the same of parameters in their places, and where 12 is
pub record Finds (n : Name) (qs : List Placed) (r : Lowest) : Type 0 where
  pub lowers : Lowers n (unplaced qs) r
  pub at : r.number ≡ 12 → r.at ≡ earliest (faults n qs)
