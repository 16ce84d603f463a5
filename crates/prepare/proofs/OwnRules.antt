-- Each operator's own rule in a mode: what each function returns is what the rule's definition names.
use mathlib.Core.Path.{◌≡◌, refl, sym, ap, ◌∙◌}
use Prim.Native.Nat.{ℕ, zero, suc, ◌+◌, ◌≤◌, ◌<◌}
use mathlib.Core.Bool.{true, false}
use mathlib.Core.List.{List, []}
use native.Mathlib.Decide.{dec_lt}
use native.Mathlib.Omega.{arith}
use lib.Dec.{lit≤}
use lib.ListN.{length, take, drop_of_length-le}
use lib.Seq.{take_all}
use lib.IntN.{ℤ}
use Rattle.rules.specs.Text.Ascii.{ascii}
use Rattle.rules.specs.Text.Bytes.{Bytes, same}
use Rattle.rules.specs.Text.Decimal.{series}
use Rattle.rules.specs.Text.Refusal.{Reply, answers, refuses}
use Rattle.rules.specs.Text.Parameters.{Parameter}
use Rattle.rules.specs.Operators.Arguments.{value_of, wholes, is_order}
use Rattle.rules.specs.Operators.Descriptions.{Push, Pop, Axisswap, choose}
use Rattle.rules.specs.Operators.Keys.{flag, numbered, worded, kind_in}
use Rattle.rules.specs.Operators.PushPop.{axes}
use Rattle.rules.specs.Operators.Stack.{is_nothing, action_keys, actions}
use Rattle.rules.specs.Operators.Axisswap.{order}
use Rattle.rules.specs.Operators.Adapt as rules
use Rattle.rules.specs.Operators.Documented.{combined_by_axis, adapt_in, combined_in}
use Rattle.rules.specs.Operators.Table.{number_of, operator_of, is_args}
use Rattle.rules.specs.Pipeline.Keys.{every_key, own_keys}
use Rattle.rules.specs.Pipeline.Prepare.{recorded, own_rule, judged14}
use Rattle.rules.specs.declared.Mode.{Mode}
use Rattle.rules.specs.declared.Mode.TheVariants as mode-is
use Rattle.rules.specs.declared.Step.{Step}
use Rattle.rules.specs.declared.Name.TheVariants as name
use Rattle.laws_lists.specs.Tests.{never}
use Rattle.laws_records.specs.Numbering.{operator-number}
use Rattle.std.specs.Prelude.{Some, None, Option}
use Rattle.prepare.specs.SeriesRead.{args_of, Good, no_numbers}
use Rattle.prepare.specs.Faults.{is_series, first_series, numbers_of, Lowers}
use Rattle.prepare.specs.Records.{record_at, recorded_at, kept_by, Axes, four_axes}
use Rattle.prepare.specs.Actions.{action_at, key_at, OneAction, Chosen}
use Rattle.prepare.specs.declared.faults.Lowest.{Lowest}
use Rattle.prepare.specs.declared.own.Choice.TheVariants.{None as Unchosen, More}
use Rattle.prepare.specs.declared.series.Args.{Args}
use Rattle.prepare.specs.declared.series.Numbers.{Numbers}
use Rattle.prepare.proofs.Recorded.{recorded-of}
use Rattle.prepare.proofs.FirstSeries.{takes, first-none, first-only, kept-is, kept-none, kept-found, not_found, series-is, stack-key, order-key, order-takes}
use Rattle.prepare.proofs.OneAction.{none-chosen, more-chosen, one-chosen}

-- ---- the numbers of a series

module _ (operator : ℕ) (ps : List Parameter) (r : Numbers) {x : Reply Step} where
  pub series-part : r.whole ≡ false → x ≡ refuses 14 0 → x ≡ judged14 (recorded_at operator ps (kept_by operator r))
  unfolding recorded_at judged14
  series-part w h = h ∙ sym (rw w)

  pub series-broken : r.whole ≡ true → is_args (operator_of operator) (args_of r.args) ≡ false → x ≡ refuses 14 0
      → x ≡ judged14 (recorded_at operator ps (kept_by operator r))
  unfolding recorded_at judged14
  series-broken w k h = h ∙ sym (rw (w, k))

  pub series-kept : r.whole ≡ true → is_args (operator_of operator) (args_of r.args) ≡ true → x ≡ answers (record_at operator ps (args_of r.args))
      → x ≡ judged14 (recorded_at operator ps (kept_by operator r))
  unfolding recorded_at judged14
  series-kept w k h = h ∙ sym (rw (w, k))

-- ---- stack

seven : (P : ℕ → Type 0) → P 0 → P 1 → P 2 → P 3 → P 4 → P 5 → P 6 → (k : ℕ) → k < 7 → P k
seven P a b c d e f g zero h = a
seven P a b c d e f g (suc zero) h = b
seven P a b c d e f g (suc (suc zero)) h = c
seven P a b c d e f g (suc (suc (suc zero))) h = d
seven P a b c d e f g (suc (suc (suc (suc zero)))) h = e
seven P a b c d e f g (suc (suc (suc (suc (suc zero))))) h = f
seven P a b c d e f g (suc (suc (suc (suc (suc (suc zero)))))) h = g
seven P a b c d e f g (suc (suc (suc (suc (suc (suc (suc k))))))) h = absurd (far h)
  where
    far : suc (suc (suc (suc (suc (suc (suc k)))))) < 7 → ⊥
    far h = omega arith

-- the operator of an action
action-number : (k : ℕ) → k < 7 → number_of (action_at k).operator ≡ k + 2
unfolding action_at actions number_of
action-number = seven (λ k. number_of (action_at k).operator ≡ k + 2) refl refl refl refl refl refl refl

-- the first five take a series: it gives the arguments that keep their operator's rule
action-args : (v : Bytes) (k : ℕ) → k < 7 → k < 5 → (action_at k).arguments v ≡ wholes (is_args (action_at k).operator) (series v)
unfolding action_at actions is_args
action-args v =
    seven (λ k. k < 5 → (action_at k).arguments v ≡ wholes (is_args (action_at k).operator) (series v))
    (λ h. refl) (λ h. refl) (λ h. refl) (λ h. refl) (λ h. refl) (λ h. absurd (never (omega arith))) (λ h. absurd (never (omega arith)))

action-takes : (k : ℕ) → k < 7 → k < 5 → takes name.Stack (key_at k) ≡ true
unfolding takes key_at action_at actions kind_in every_key own_keys action_keys flag numbered worded is_series same ascii
action-takes =
    seven (λ k. k < 5 → takes name.Stack (key_at k) ≡ true)
    (λ h. refl) (λ h. refl) (λ h. refl) (λ h. refl) (λ h. refl) (λ h. absurd (never (omega arith))) (λ h. absurd (never (omega arith)))

-- the others have none
action-plain : (v : Bytes) (k : ℕ) → k < 7 → 5 ≤ k → (action_at k).arguments v ≡ Some []
unfolding action_at actions
action-plain v =
    seven (λ k. 5 ≤ k → (action_at k).arguments v ≡ Some [])
    (λ h. absurd (never (omega arith))) (λ h. absurd (never (omega arith))) (λ h. absurd (never (omega arith))) (λ h. absurd (never (omega arith)))
    (λ h. absurd (never (omega arith))) (λ h. refl) (λ h. refl)

action-nothing : (k : ℕ) → k < 7 → 5 ≤ k → is_args (action_at k).operator [] ≡ true
unfolding action_at actions is_args is_nothing
action-nothing =
    seven (λ k. 5 ≤ k → is_args (action_at k).operator [] ≡ true)
    (λ h. absurd (never (omega arith))) (λ h. absurd (never (omega arith))) (λ h. absurd (never (omega arith))) (λ h. absurd (never (omega arith)))
    (λ h. absurd (never (omega arith))) (λ h. refl) (λ h. refl)

module _ (mode : Mode) (ps : List Parameter) {x : Reply Step} where
  pub stack-none : Chosen ps 7 Unchosen → x ≡ refuses 14 0 → x ≡ judged14 (own_rule mode name.Stack ps)
  unfolding own_rule recorded judged14
  stack-none m h = h ∙ sym (rw (none-chosen ps m))

  pub stack-more : Chosen ps 7 More → x ≡ refuses 14 0 → x ≡ judged14 (own_rule mode name.Stack ps)
  unfolding own_rule recorded judged14
  stack-more m h = h ∙ sym (rw (more-chosen ps m))

module _ {ps : List Parameter} {operator : ℕ} (m : OneAction ps 7 operator) {low : Lowest} (l : Lowers name.Stack ps low) (e : low.number ≡ 14) where
  -- the action's operator is the one of that number
  its-number : number_of (action_at m.place).operator ≡ operator
  its-number = action-number m.place m.within ∙ sym m.number

  its-operator : operator_of operator ≡ (action_at m.place).operator
  its-operator = rw (← its-number) (operator-number (action_at m.place).operator)

  -- another key that takes a series is not given
  no_other : (k : Bytes) → takes name.Stack k ≡ true → (k ≡ key_at m.place → ⊥) → value_of k ps ≡ None
  no_other k t n =
      let s = stack-key k t in
      let f : s.place ≡ m.place → ⊥ = λ g. n (s.is ∙ ap key_at g) in
      rw s.is (m.others s.place (omega (arith, s.few)) f)

  by-series : m.place < 5 → (action_at m.place).arguments m.value ≡ kept_by operator (numbers_of low)
  by-series h =
      let f : first_series name.Stack ps ≡ Some m.value = first-only name.Stack (key_at m.place) (action-takes m.place m.within h) ps no_other ∙ m.is in
      action-args m.value m.place m.within h
      ∙ kept-is l e f (is_args (action_at m.place).operator)
      ∙ rw its-operator

  no-series : 5 ≤ m.place → (k : Bytes) → takes name.Stack k ≡ true → value_of k ps ≡ None
  no-series h k t =
      let s = stack-key k t in
      let f : s.place ≡ m.place → ⊥ = λ g. apart s.place m.place s.few h g in
      rw s.is (m.others s.place (omega (arith, s.few)) f)
    where
      apart : (i j : ℕ) → i < 5 → 5 ≤ j → i ≡ j → ⊥
      apart i j a b c = omega arith

  by-nothing : 5 ≤ m.place → (action_at m.place).arguments m.value ≡ kept_by operator (numbers_of low)
  by-nothing h =
      let z : numbers_of low ≡ no_numbers = kept-none l e (first-none name.Stack ps (no-series h)) in
      action-plain m.value m.place m.within h ∙ sym (rw (z, its-operator, action-nothing m.place m.within h))

  its-arguments : (action_at m.place).arguments m.value ≡ kept_by operator (numbers_of low)
  its-arguments = elim (dec_lt m.place 5) [ yes h ↦ by-series h | no h ↦ by-nothing (omega arith) ]

  pub stack-one : (mode : Mode) {x : Reply Step} → x ≡ judged14 (recorded_at operator ps (kept_by operator (numbers_of low))) → x ≡ judged14 (own_rule mode name.Stack ps)
  unfolding own_rule
  stack-one mode h =
      h
      ∙ ap judged14
      (ap (λ (k : ℕ). recorded_at k ps (kept_by operator (numbers_of low))) (sym its-number)
      ∙ recorded-of (action_at m.place).operator ps (kept_by operator (numbers_of low))
      ∙ sym (ap (recorded ps) (one-chosen ps m ∙ ap (choose (action_at m.place).operator) its-arguments)))

-- ---- axisswap

module _ {ps : List Parameter} {low : Lowest} (l : Lowers name.Axisswap ps low) (e : low.number ≡ 14) where
  -- the first series is the order
  the-order : first_series name.Axisswap ps ≡ value_of (ascii "order") ps
  the-order = first-only name.Axisswap (ascii "order") order-takes ps (λ k t n. absurd (n (order-key k t)))

  own-order : (mode : Mode) {r : Option (List ℤ)} → order (value_of (ascii "order") ps) ≡ r → judged14 (recorded_at 9 ps r) ≡ judged14 (own_rule mode name.Axisswap ps)
  unfolding own_rule number_of
  own-order mode {r} o = ap judged14 (recorded-of Axisswap ps r ∙ ap (λ (q : Option (List ℤ)). recorded ps (choose Axisswap q)) (sym o))

  order-kept : {v : Bytes} → first_series name.Axisswap ps ≡ Some v → order (value_of (ascii "order") ps) ≡ kept_by 9 (numbers_of low)
  unfolding order is_args operator_of
  order-kept {v} f = let z : value_of (ascii "order") ps ≡ Some v = sym the-order ∙ f in rw z (kept-is l e f is_order)

  order-not : first_series name.Axisswap ps ≡ None → order (value_of (ascii "order") ps) ≡ Some four_axes
  unfolding order
  order-not f = let z : value_of (ascii "order") ps ≡ None = sym the-order ∙ f in rw z

  pub order-there : (mode : Mode) {x : Reply Step} {r : Numbers} → low.series ≡ Some r → x ≡ judged14 (recorded_at 9 ps (kept_by 9 r)) → x ≡ judged14 (own_rule mode name.Axisswap ps)
  order-there mode {x} {r} g h = go (first_series name.Axisswap ps) refl
    where
      go : (o : Option Bytes) → first_series name.Axisswap ps ≡ o → x ≡ judged14 (own_rule mode name.Axisswap ps)
      go None f = let z : None ≡ Some r = sym (not_found l e f) ∙ g in absurd (never (cc z))
      go (Some v) f = (rw (series-is l e g) at h) ∙ own-order mode (order-kept f)

  pub order-default : (mode : Mode) {x : Reply Step} {a : Args} → low.series ≡ None → Axes four_axes a → x ≡ answers (record_at 9 ps (args_of a)) → x ≡ judged14 (own_rule mode name.Axisswap ps)
  order-default mode {x} {a} g m h = go (first_series name.Axisswap ps) refl
    where
      answered : x ≡ judged14 (recorded_at 9 ps (Some four_axes))
      answered = unfold judged14 recorded_at in rw m.are at h

      go : (o : Option Bytes) → first_series name.Axisswap ps ≡ o → x ≡ judged14 (own_rule mode name.Axisswap ps)
      go None f = answered ∙ own-order mode (order-not f)
      go (Some v) f = let z : None ≡ Some (numbers_of low) = sym g ∙ kept-found l e f in absurd (never (cc z))

-- ---- adapt

module _ (ps : List Parameter) (key : Bytes) {w : Option rules.Word} where
  pub given_word : {v : Bytes} → value_of key ps ≡ Some v → w ≡ rules.word v → w ≡ rules.word_given (value_of key ps)
  unfolding rules.word_given
  given_word g r = rw g r

  pub given-none : value_of key ps ≡ None → w ≡ rules.word (ascii "enuf") → w ≡ rules.word_given (value_of key ps)
  unfolding rules.word_given
  given-none g r = rw g r

-- the arguments that two words make are eight
makes-eight : (mode : Mode) (from to : rules.Word) → length (combined_in mode from to) ≡ 8
unfolding combined_in rules.combined combined_by_axis
makes-eight mode-is.Crate from to = refl
makes-eight mode-is.Documented from to = refl

module _ (mode : Mode) (ps : List Parameter) where
  -- the two words, and what they make
  abbrev from : Option rules.Word
  from = rules.word_given (value_of (ascii "from") ps)

  abbrev to : Option rules.Word
  to = rules.word_given (value_of (ascii "to") ps)

  abbrev made : Option (List ℤ)
  made = rules.between (combined_in mode) from to

  adapt-none : made ≡ None → {x : Reply Step} → x ≡ refuses 14 0 → x ≡ judged14 (own_rule mode name.Adapt ps)
  unfolding own_rule judged14 recorded choose
  adapt-none e h = h ∙ sym (rw e)

  pub adapt-from : {x : Reply Step} → None ≡ from → x ≡ refuses 14 0 → x ≡ judged14 (own_rule mode name.Adapt ps)
  unfolding rules.between
  adapt-from e h = adapt-none (rw (← e)) h

  module _ {v : rules.Word} (d : Some v ≡ from) where
    pub adapt-to : {x : Reply Step} → None ≡ to → x ≡ refuses 14 0 → x ≡ judged14 (own_rule mode name.Adapt ps)
    unfolding rules.between
    adapt-to e h = adapt-none (rw (← d, ← e)) h

    module _ {w : rules.Word} (e : Some w ≡ to) {l : List ℤ} (m : l ≡ combined_in mode v w) where
      both : made ≡ Some (combined_in mode v w)
      unfolding rules.between
      both = rw (← d, ← e)

      eight : length l ≡ 8
      eight = rw m (makes-eight mode v w)

      all-eight : take 8 l ≡ combined_in mode v w
      all-eight = take_all 8 l (omega (arith, eight)) ∙ m

      pub adapt-so : {operator : ℕ} → operator ≡ number_of (adapt_in mode) → {x : Reply Step} → x ≡ answers (record_at operator ps (args_of (record { list = l; n = 8 })))
          → x ≡ judged14 (own_rule mode name.Adapt ps)
      unfolding own_rule judged14 recorded_at
      adapt-so k {x} h =
          let a : x ≡ answers (record_at (number_of (adapt_in mode)) ps (combined_in mode v w)) = rw (all-eight, k) at h in
          a ∙ ap judged14 (recorded-of (adapt_in mode) ps (Some (combined_in mode v w)) ∙ ap (λ (r : Option (List ℤ)). recorded ps (choose (adapt_in mode) r)) (sym both))

pub adapt-good : (mode : Mode) (v w : rules.Word) {l : List ℤ} → l ≡ combined_in mode v w → Good (record { list = l; n = 8 })
adapt-good mode v w {l} m =
    let eight : length l ≡ 8 = rw m (makes-eight mode v w) in
    let few : length l ≤ 8 = omega (arith, eight) in
    record { fits = lit≤ tt; size = eight; zeros = drop_of_length-le l few }

-- ---- push and pop

module _ (mode : Mode) (ps : List Parameter) {x : Reply Step} {a : Args} (m : Axes (axes ps) a) where
  pub own-push : x ≡ answers (record_at 0 ps (args_of a)) → x ≡ judged14 (own_rule mode name.Push ps)
  unfolding own_rule judged14 recorded_at number_of
  own-push h = h ∙ rw m.are (ap judged14 (recorded-of Push ps (Some (axes ps))))

  pub own-pop : x ≡ answers (record_at 1 ps (args_of a)) → x ≡ judged14 (own_rule mode name.Pop ps)
  unfolding own_rule judged14 recorded_at number_of
  own-pop h = h ∙ rw m.are (ap judged14 (recorded-of Pop ps (Some (axes ps))))
