-- The refusals 11 to 13: of one parameter by what its key takes, and of several; the series that is kept is the first one.
use mathlib.Core.Path.{◌≡◌, refl, sym, ap, ◌∙◌}
use Prim.Native.Nat.{ℕ, min}
use mathlib.Core.Bool.{Bool, true, false, cond, not, ◌||◌, or_assoc}
use mathlib.Core.List.{List, [], ◌∷◌, ◌++◌}
use native.Mathlib.Omega.{arith}
use Rattle.std.specs.Prelude.{Some, None, Option}
use Rattle.rules.specs.Text.Ascii.{ascii}
use Rattle.rules.specs.Text.Lists.{any_of}
use Rattle.rules.specs.Text.Bytes.{Bytes, same}
use Rattle.rules.specs.Text.Parameters.{Parameter}
use Rattle.rules.specs.Operators.Keys.{kind_in}
use Rattle.rules.specs.Pipeline.Keys.{every_key, own_keys, kind_of, is_lacking, unknown, misspelt, too_long}
use Rattle.rules.specs.declared.Kind.TheVariants as kind
use Rattle.rules.specs.declared.Name.{Name}
use Rattle.laws_lists.specs.Tests.{never}
use Rattle.prepare.specs.SeriesRead.{lowest, Reads}
use Rattle.prepare.specs.Faults.{by, parameter, flag_fault, lowest_of, is_series, first_series, without, joined, Keeps, Lowers}
use Rattle.prepare.specs.declared.faults.Lowest.{Lowest}
use Rattle.prepare.specs.declared.series.Numbers.{Numbers}

-- ---- parameters, and those behind them

lower_by : (a b c d e f : Bool) → by (a || d) (b || e) (c || f) ≡ min (by a b c) (by d e f)
lower_by true b c true e f = refl
lower_by true b c false true f = refl
lower_by true b c false false true = refl
lower_by true b c false false false = refl
lower_by false true c true e f = refl
lower_by false true c false true f = refl
lower_by false true c false false true = refl
lower_by false true c false false false = refl
lower_by false false true true e f = refl
lower_by false false true false true f = refl
lower_by false false true false false true = refl
lower_by false false true false false false = refl
lower_by false false false true e f = refl
lower_by false false false false true f = refl
lower_by false false false false false true = refl
lower_by false false false false false false = refl

module _ (n : Name) where
  -- the three tests of a parameter
  abbrev lacking : Parameter → Bool
  lacking p = unknown n p

  abbrev wrong : Parameter → Bool
  wrong p = misspelt (kind_of n p) p.value

  abbrev long : Parameter → Bool
  long p = too_long (kind_of n p) p.value

  one-test : (test : Parameter → Bool) (p : Parameter) → any_of test (p ∷ []) ≡ test p
  unfolding any_of
  one-test test p = go (test p)
    where
      go : (b : Bool) → (b || false) ≡ b
      go true = refl
      go false = refl

  -- of one
  pub lowest-one : (p : Parameter) → lowest_of n (p ∷ []) ≡ by (lacking p) (wrong p) (long p)
  unfolding lowest_of
  lowest-one p = rw (one-test lacking p, one-test wrong p, one-test long p)

  -- of some and of those behind them
  any-behind : (test : Parameter → Bool) (ps qs : List Parameter) → any_of test (ps ++ qs) ≡ (any_of test ps || any_of test qs)
  unfolding any_of
  any-behind test [] qs = refl
  any-behind test (p ∷ ps) qs = ap (λ (b : Bool). test p || b) (any-behind test ps qs) ∙ sym (or_assoc (test p) (any_of test ps) (any_of test qs))

  lowest-behind : (ps qs : List Parameter) → lowest_of n (ps ++ qs) ≡ min (lowest_of n ps) (lowest_of n qs)
  unfolding lowest_of
  lowest-behind ps qs =
      rw (any-behind lacking ps qs, any-behind wrong ps qs, any-behind long ps qs)
      (lower_by (any_of lacking ps) (any_of wrong ps) (any_of long ps) (any_of lacking qs) (any_of wrong qs) (any_of long qs))

  pub lowers-none : Lowers n [] (without 14 0)
  unfolding lowest_of any_of first_series without
  lowers-none = record { number = refl; series = refl }

  series-others : (a b : Lowest) (v : Option Bytes) → a.series ≡ None → Keeps v b → Keeps v (joined a b)
  unfolding joined
  series-others a b None e h = rw e h
  series-others a b (Some u) e h = record { numbers = h.numbers; is = rw e h.is; from = h.from; read = h.read }

  series-first : (a b : Lowest) (u : Bytes) → Keeps (Some u) a → Keeps (Some u) (joined a b)
  unfolding joined
  series-first a b u h = record { numbers = h.numbers; is = rw h.is; from = h.from; read = h.read }

  series-behind : (a b : Lowest) (ps qs : List Parameter) → Keeps (first_series n ps) a → Keeps (first_series n qs) b → Keeps (first_series n (ps ++ qs)) (joined a b)
  unfolding first_series
  series-behind a b [] qs f m = series-others a b (first_series n qs) f m
  series-behind a b (p ∷ ps) qs f m = go (is_series (kind_of n p)) f (λ h. series-behind a b ps qs h m)
    where
      go : (k : Bool) → Keeps (cond k (Some p.value) (first_series n ps)) a → (Keeps (first_series n ps) a → Keeps (first_series n (ps ++ qs)) (joined a b))
          → Keeps (cond k (Some p.value) (first_series n (ps ++ qs))) (joined a b)
      go true h g = series-first a b p.value h
      go false h g = g h

  pub lowers-behind : {ps qs : List Parameter} {a b : Lowest} → Lowers n ps a → Lowers n qs b → Lowers n (ps ++ qs) (joined a b)
  unfolding joined
  lowers-behind {ps} {qs} {a} {b} f m = record {
    number = sym (rw (lowest-behind ps qs, ← f.number, ← m.number));
    series = series-behind a b ps qs f.series m.series;
  }

-- ---- one parameter, by what its key takes

abbrev one : Bytes → Bytes → List Parameter
one key value = parameter key value ∷ []

module _ {n : Name} {key value : Bytes} where
  -- a parameter of which no series is kept
  not-series : {r : ℕ} (at : ℕ) → is_series (kind_of n (parameter key value)) ≡ false → r ≡ lowest_of n (one key value) → Lowers n (one key value) (without r at)
  unfolding without first_series
  not-series at e h = record { number = h; series = rw e }

  pub fault-lacking : None ≡ kind_in (every_key ++ own_keys n) key → (at : ℕ) → Lowers n (one key value) (without 11 at)
  unfolding kind_of unknown is_lacking is_series
  fault-lacking e at = not-series at (rw (← e)) (sym (lowest-one n (parameter key value) ∙ rw (← e)))

  pub fault-flag : {r : ℕ} → Some kind.Flag ≡ kind_in (every_key ++ own_keys n) key → r ≡ flag_fault value → (at : ℕ) → Lowers n (one key value) (without r at)
  unfolding kind_of unknown is_lacking is_series misspelt too_long flag_fault
  fault-flag {r} e h at = not-series at (rw (← e)) (h ∙ sym (lowest-one n (parameter key value) ∙ rw (← e) (go (same value (ascii "true")))))
    where
      go : (b : Bool) → by false (not b) false ≡ cond b 14 12
      go true = refl
      go false = refl

  pub fault-word : Some kind.Word ≡ kind_in (every_key ++ own_keys n) key → (at : ℕ) → Lowers n (one key value) (without 14 at)
  unfolding kind_of unknown is_lacking is_series misspelt too_long
  fault-word e at = not-series at (rw (← e)) (sym (lowest-one n (parameter key value) ∙ rw (← e)))

  pub fault-series : {r : Numbers} {at : ℕ} → Some kind.Series ≡ kind_in (every_key ++ own_keys n) key → Reads value at r
      → Lowers n (one key value) (record { number = r.number; at = r.at; series = Some r })
  unfolding kind_of unknown is_lacking is_series misspelt too_long lowest first_series
  fault-series {r} e h = record {
    number = h.number ∙ sym (lowest-one n (parameter key value) ∙ rw (← e));
    series = rw (← e) (record { numbers = r; is = refl; from = _; read = h });
  }

-- ---- what the other refusals leave

-- where none of them applies
pub record Passed (n : Name) (ps : List Parameter) : Type 0 where
  pub known : any_of (unknown n) ps ≡ false
  pub spelt : any_of (λ (p : Parameter). misspelt (kind_of n p) p.value) ps ≡ false
  pub short : any_of (λ (p : Parameter). too_long (kind_of n p) p.value) ps ≡ false

pub passed : (n : Name) (ps : List Parameter) → lowest_of n ps ≡ 14 → Passed n ps
unfolding lowest_of
passed n ps e =
    go (any_of (unknown n) ps) (any_of (λ (p : Parameter). misspelt (kind_of n p) p.value) ps) (any_of (λ (p : Parameter). too_long (kind_of n p) p.value) ps) refl refl refl e
  where
    go : (a b c : Bool) → any_of (unknown n) ps ≡ a → any_of (λ (p : Parameter). misspelt (kind_of n p) p.value) ps ≡ b
        → any_of (λ (p : Parameter). too_long (kind_of n p) p.value) ps ≡ c → by a b c ≡ 14 → Passed n ps
    go true b c f g h e = absurd (never (omega arith))
    go false true c f g h e = absurd (never (omega arith))
    go false false true f g h e = absurd (never (omega arith))
    go false false false f g h e = record { known = f; spelt = g; short = h }
