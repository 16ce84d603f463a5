-- The first series among a step's parameters is the value of the one key that takes a series, where no other such key is given.
use mathlib.Core.Path.{◌≡◌, refl, sym, ◌∙◌}
use Prim.Native.Nat.{ℕ, ◌<◌}
use mathlib.Core.Bool.{Bool, true, false, cond, ◌&&◌, false≢true}
use mathlib.Core.List.{List, [], ◌∷◌, ◌++◌}
use lib.Dec.{lit≤}
use lib.IntN.{ℤ}
use Rattle.std.specs.Prelude.{Some, None, Option}
use Rattle.rules.specs.Text.Ascii.{ascii}
use Rattle.rules.specs.Text.Lists.{any_of}
use Rattle.rules.specs.Text.Bytes.{Bytes, same}
use Rattle.rules.specs.Text.Decimal.{series}
use Rattle.rules.specs.Text.Parameters.{Parameter}
use Rattle.rules.specs.Operators.Arguments.{value_of, wholes}
use Rattle.rules.specs.Operators.Keys.{Key, flag, numbered, worded, kind_in}
use Rattle.rules.specs.Operators.Stack.{actions, action_keys}
use Rattle.rules.specs.Pipeline.Keys.{every_key, own_keys, kind_of, misspelt, too_long}
use Rattle.rules.specs.declared.Kind.{Kind}
use Rattle.rules.specs.declared.Kind.TheVariants as kind
use Rattle.rules.specs.declared.Name.{Name}
use Rattle.rules.specs.declared.Name.TheVariants as name
use Rattle.laws_lists.specs.Tests.{same_self, same-is, or_left, or_right, never}
use Rattle.prepare.specs.SeriesRead.{args_of, lowest, Good, no_numbers}
use Rattle.prepare.specs.Faults.{Kept, is_series, first_series, numbers_of, Lowers}
use Rattle.prepare.specs.Actions.{action_at, key_at}
use Rattle.prepare.specs.declared.faults.Lowest.{Lowest}
use Rattle.prepare.specs.declared.series.Numbers.{Numbers}
use Rattle.prepare.proofs.LowestFault.{Passed, passed}

-- ---- in any list of parameters

-- does a key take a series?
unfoldable pub takes : Name → Bytes → Bool
takes n key = is_series (kind_in (every_key ++ own_keys n) key)

-- the first parameter gives its key
value-here : (p : Parameter) (ps : List Parameter) → value_of p.key (p ∷ ps) ≡ None → ⊥
unfolding value_of
value-here p ps e = go (same_self p.key) e
  where
    go : same p.key p.key ≡ true → cond (same p.key p.key) (Some p.value) (value_of p.key ps) ≡ None → ⊥
    go t h = let z : Some p.value ≡ None = rw t at h in never (cc z)

value-past : (key : Bytes) (p : Parameter) (ps : List Parameter) → value_of key (p ∷ ps) ≡ None → value_of key ps ≡ None
unfolding value_of
value-past key p ps e = go (same key p.key) e
  where
    go : (b : Bool) → cond b (Some p.value) (value_of key ps) ≡ None → value_of key ps ≡ None
    go true h = absurd (never (cc h))
    go false h = h

module _ (n : Name) where
  -- no key that takes a series is given
  pub first-none : (ps : List Parameter) → ((k : Bytes) → takes n k ≡ true → value_of k ps ≡ None) → first_series n ps ≡ None
  unfolding first_series takes kind_of
  first-none [] f = refl
  first-none (p ∷ ps) f = go (is_series (kind_of n p)) refl (first-none ps (λ k t. value-past k p ps (f k t)))
    where
      go : (b : Bool) → is_series (kind_of n p) ≡ b → first_series n ps ≡ None → cond b (Some p.value) (first_series n ps) ≡ None
      go true e h = absurd (value-here p ps (f p.key e))
      go false e h = h

  -- one is, and no other
  pub first-only : (key : Bytes) → takes n key ≡ true → (ps : List Parameter) → ((k : Bytes) → takes n k ≡ true → (k ≡ key → ⊥) → value_of k ps ≡ None)
      → first_series n ps ≡ value_of key ps
  unfolding first_series value_of takes kind_of
  first-only key t [] f = refl
  first-only key t (p ∷ ps) f =
      go (is_series (kind_of n p)) refl (same key p.key) refl (first-only key t ps (λ k s o. value-past k p ps (f k s o)))
    where
      other : same key p.key ≡ false → p.key ≡ key → ⊥
      other d e = false≢true (sym d ∙ rw e (same_self key))

      go : (b : Bool) → is_series (kind_of n p) ≡ b → (d : Bool) → same key p.key ≡ d → first_series n ps ≡ value_of key ps
          → cond b (Some p.value) (first_series n ps) ≡ cond d (Some p.value) (value_of key ps)
      go true e true d h = refl
      go true e false d h = absurd (value-here p ps (f p.key e (other d)))
      go false e true d h = absurd (false≢true (sym e ∙ rw (same-is key p.key d) at t))
      go false e false d h = h

  -- where no number below 14 applies, the series is good
  one-passed : (k : Option Kind) (v : Bytes) → is_series k ≡ true → misspelt k v ≡ false → too_long k v ≡ false → lowest v ≡ 14
  unfolding is_series lowest misspelt too_long
  one-passed (Some kind.Flag) v s a b = absurd (false≢true s)
  one-passed (Some kind.Series) v s a b = rw (a, b)
  one-passed (Some kind.Word) v s a b = absurd (false≢true s)
  one-passed None v s a b = absurd (false≢true s)

  abbrev wrong : Parameter → Bool
  wrong p = misspelt (kind_of n p) p.value

  abbrev long : Parameter → Bool
  long p = too_long (kind_of n p) p.value

  all-passed : (ps : List Parameter) {v : Bytes} → any_of wrong ps ≡ false → any_of long ps ≡ false → first_series n ps ≡ Some v → lowest v ≡ 14
  unfolding any_of first_series
  all-passed [] a b e = absurd (never (cc e))
  all-passed (p ∷ ps) {v} a b e = go (is_series (kind_of n p)) refl e (λ h. all-passed ps (or_right (wrong p) _ a) (or_right (long p) _ b) h)
    where
      go : (t : Bool) → is_series (kind_of n p) ≡ t → cond t (Some p.value) (first_series n ps) ≡ Some v → (first_series n ps ≡ Some v → lowest v ≡ 14) → lowest v ≡ 14
      go true s h r =
          let z : p.value ≡ v = cc h in
          rw z at (one-passed (kind_of n p) p.value s (or_left (wrong p) _ a) (or_left (long p) _ b))
      go false s h r = r h

  first-passed : (ps : List Parameter) {v : Bytes} → Passed n ps → first_series n ps ≡ Some v → lowest v ≡ 14
  first-passed ps m e = all-passed ps m.spelt m.short e

-- ---- what is kept of it

numbers-some : (r : Lowest) {x : Numbers} → r.series ≡ Some x → numbers_of r ≡ x
numbers-some r e = rw e

numbers-none : (r : Lowest) → r.series ≡ None → numbers_of r ≡ no_numbers
numbers-none r e = rw e

module _ {n : Name} {ps : List Parameter} {low : Lowest} (m : Lowers n ps low) (e : low.number ≡ 14) where
  well : Passed n ps
  well = passed n ps (sym m.number ∙ e)

  module _ {v : Bytes} (f : first_series n ps ≡ Some v) where
    kept : Kept v low
    kept = rw f at m.series

    its-numbers : numbers_of low ≡ kept.numbers
    its-numbers = numbers-some low kept.is

    fine : kept.numbers.number ≡ 14
    fine = kept.read.number ∙ first-passed n ps well f

    pub kept-is : (rule : List ℤ → Bool)
        → wholes rule (series v) ≡ cond ((numbers_of low).whole && rule (args_of (numbers_of low).args)) (Some (args_of (numbers_of low).args)) None
    kept-is = rw its-numbers (kept.read.args fine)

    kept-good : Good (numbers_of low).args
    kept-good = rw its-numbers (kept.read.good fine)

    pub kept-found : low.series ≡ Some (numbers_of low)
    kept-found = rw its-numbers kept.is

  pub not_found : first_series n ps ≡ None → low.series ≡ None
  not_found f = rw f at m.series

  pub kept-none : first_series n ps ≡ None → numbers_of low ≡ no_numbers
  kept-none f = numbers-none low (not_found f)

  pub numbers-good : Good (numbers_of low).args
  numbers-good = go (first_series n ps) refl
    where
      go : (o : Option Bytes) → first_series n ps ≡ o → Good (numbers_of low).args
      go None f = rw (kept-none f) (record { fits = lit≤ tt; size = refl; zeros = refl })
      go (Some v) f = kept-good f

  -- by what it comes to
  pub series-is : {x : Numbers} → low.series ≡ Some x → x ≡ numbers_of low
  series-is s = sym (numbers-some low s)

-- ---- which keys take a series

-- a key in a list of keys: it is the first, or one of the others
module _ {P : Type 0} (k : Bytes) where
  past : (x : Key) (ks : List Key) → is_series (Some x.kind) ≡ false → (is_series (kind_in ks k) ≡ true → P) → is_series (kind_in (x ∷ ks) k) ≡ true → P
  unfolding kind_in
  past x ks s f e = go (same k x.key) e
    where
      go : (b : Bool) → is_series (cond b (Some x.kind) (kind_in ks k)) ≡ true → P
      go true h = absurd (false≢true (sym s ∙ h))
      go false h = f h

  either : (x : Key) (ks : List Key) → (k ≡ x.key → P) → (is_series (kind_in ks k) ≡ true → P) → is_series (kind_in (x ∷ ks) k) ≡ true → P
  unfolding kind_in
  either x ks g f e = go (same k x.key) refl e
    where
      go : (b : Bool) → same k x.key ≡ b → is_series (cond b (Some x.kind) (kind_in ks k)) ≡ true → P
      go true s h = g (same-is k x.key s)
      go false s h = f h

  nowhere : is_series (kind_in [] k) ≡ true → P
  unfolding kind_in is_series
  nowhere e = absurd (false≢true e)

-- those of `stack`: its first five actions
pub record SeriesKey (k : Bytes) : Type 0 where
  pub place : ℕ
  pub few : place < 5
  pub is : k ≡ key_at place

pub stack-key : (k : Bytes) → takes name.Stack k ≡ true → SeriesKey k
unfolding takes every_key own_keys action_keys flag numbered worded is_series key_at action_at actions
stack-key k =
    past k _ _ refl
    (past k _ _ refl
    (past k _ _ refl
    (past k _ _ refl
    (either k _ _ (λ e. record { place = 0; few = lit≤ tt; is = e })
    (either k _ _ (λ e. record { place = 1; few = lit≤ tt; is = e })
    (either k _ _ (λ e. record { place = 2; few = lit≤ tt; is = e })
    (either k _ _ (λ e. record { place = 3; few = lit≤ tt; is = e })
    (either k _ _ (λ e. record { place = 4; few = lit≤ tt; is = e })
    (past k _ _ refl
    (past k _ _ refl (nowhere k)))))))))))

-- that of `axisswap`
pub order-key : (k : Bytes) → takes name.Axisswap k ≡ true → k ≡ ascii "order"
unfolding takes every_key own_keys flag numbered worded is_series
order-key k = past k _ _ refl (past k _ _ refl (past k _ _ refl (past k _ _ refl (either k _ _ (λ e. e) (nowhere k)))))

pub order-takes : takes name.Axisswap (ascii "order") ≡ true
unfolding takes kind_in every_key own_keys flag numbered worded is_series same ascii
order-takes = refl
