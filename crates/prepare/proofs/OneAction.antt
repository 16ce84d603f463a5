-- Which action of `stack` is given: one more is looked at, until all seven are.
use Rattle.std.specs.Prelude.{Option, None, Some}
use mathlib.Core.Path.{◌≡◌, refl, ap, ◌∙◌}
use Prim.Native.Nat.{ℕ, ◌+◌, ◌-◌, ◌≤◌, ◌<◌}
use mathlib.Core.Bool.{true, false, not}
use mathlib.Core.List.{List, [], ◌∷◌, ◌++◌, append-nil}
use native.Mathlib.Numerals.{add-one}
use native.Mathlib.Decide.{dec_lt}
use native.Mathlib.Omega.{arith}
use lib.ListN.{length, take, get_or, length-append}
use lib.Seq.{take-suc}
use Rattle.rules.specs.Text.Ascii.{ascii}
use Rattle.rules.specs.Text.Lists.{is_none}
use Rattle.rules.specs.Text.Bytes.{Bytes}
use Rattle.rules.specs.Text.Parameters.{Parameter}
use Rattle.rules.specs.Operators.Arguments.{value_of}
use Rattle.rules.specs.Operators.Descriptions as rules
use Rattle.rules.specs.Operators.Stack.{Action, actions, action_then, actions_given, exactly_one}
use Rattle.laws_lists.specs.Tests.{never}
use Rattle.prepare.specs.Lookup.{given}
use Rattle.prepare.specs.Actions.{last_action, action_at, key_at, NoAction, OneAction, Chosen}
use Rattle.prepare.specs.declared.own.Choice.{Choice}
use Rattle.prepare.specs.declared.own.Choice.TheVariants.{None, One, More}

-- ---- a key that is given, or not

pub given-not : (key : Bytes) (ps : List Parameter) → given key ps ≡ false → value_of key ps ≡ None
unfolding given is_none
given-not key ps e = go (value_of key ps) e
  where
    go : (o : Option Bytes) → not (is_none o) ≡ false → o ≡ None
    go None h = refl
    go (Some v) h = absurd (never (cc h))

pub record There (key : Bytes) (ps : List Parameter) : Type 0 where
  pub value : Bytes
  pub is : value_of key ps ≡ Some value

pub given-there : (key : Bytes) (ps : List Parameter) → given key ps ≡ true → There key ps
unfolding given is_none
given-there key ps e = go (value_of key ps) refl e
  where
    go : (o : Option Bytes) → value_of key ps ≡ o → not (is_none o) ≡ true → There key ps
    go None f h = absurd (never (cc h))
    go (Some v) f h = record { value = v; is = f }

-- ---- the first k actions and the next

then_append : (a : Action) (o : Option Bytes) (l m : List (Option rules.Chosen)) → action_then a o (l ++ m) ≡ action_then a o l ++ m
unfolding action_then
then_append a None l m = refl
then_append a (Some v) l m = refl

given-append : (ps : List Parameter) (l m : List Action) → actions_given ps (l ++ m) ≡ actions_given ps l ++ actions_given ps m
unfolding actions_given
given-append ps [] m = refl
given-append ps (a ∷ l) m =
    ap (action_then a (value_of (ascii a.key) ps)) (given-append ps l m) ∙ then_append a (value_of (ascii a.key) ps) (actions_given ps l) (actions_given ps m)

seven : length actions ≡ 7
unfolding actions
seven = refl

next-action : (ps : List Parameter) (k : ℕ) → k < 7 → actions_given ps (take (k + 1) actions) ≡ actions_given ps (take k actions) ++ action_then (action_at k) (value_of (key_at k) ps) []
unfolding action_at key_at
next-action ps k h =
    let t : take (k + 1) actions ≡ take k actions ++ (get_or actions k last_action ∷ []) = rw (add-one k) (take-suc actions k last_action (omega (arith, seven))) in
    ap (actions_given ps) t ∙ given-append ps (take k actions) (get_or actions k last_action ∷ []) ∙ (unfold actions_given in refl)

pub chosen_none : (ps : List Parameter) → Chosen ps 0 None
unfolding actions_given
chosen_none ps = record { given = refl; others = λ j h. absurd (never (omega arith)) }

-- ---- one more

module _ (ps : List Parameter) {k : ℕ} (h : k < 7) where
  -- it is not given
  module _ (z : value_of (key_at k) ps ≡ None) where
    same : actions_given ps (take (k + 1) actions) ≡ actions_given ps (take k actions)
    unfolding action_then
    same = next-action ps k h ∙ rw z (append-nil (actions_given ps (take k actions)))

    -- a fact of the first k, and of the next
    further : {P : ℕ → Type 0} → ((j : ℕ) → j < k → P j) → P k → (j : ℕ) → j < k + 1 → P j
    further {P} f p j l = elim (dec_lt j k) [ yes m ↦ f j m | no m ↦ (let e : j ≡ k = omega arith in rw e p) ]

    chosen-same : (c : Choice) → Chosen ps k c → Chosen ps (k + 1) c
    chosen-same None m =
        record { given = same ∙ m.given; others = further {P = λ (j : ℕ). value_of (key_at j) ps ≡ None} m.others z }
    chosen-same (One operator) m =
        record {
          place = m.place;
          number = m.number;
          within = omega (arith, m.within);
          value = m.value;
          is = m.is;
          given = same ∙ m.given;
          others = further {P = λ (j : ℕ). (j ≡ m.place → ⊥) → value_of (key_at j) ps ≡ None} m.others (λ n. z);
        }
    chosen-same More m = rw same m

  -- it is given
  module _ {v : Bytes} (here : value_of (key_at k) ps ≡ Some v) where
    longer : actions_given ps (take (k + 1) actions) ≡ actions_given ps (take k actions) ++ (rules.choose (action_at k).operator ((action_at k).arguments v) ∷ [])
    unfolding action_then
    longer = next-action ps k h ∙ rw here

    chosen-one : NoAction ps k → OneAction ps (k + 1) (k + 2)
    chosen-one m =
        record {
          place = k;
          number = refl;
          within = omega arith;
          value = v;
          is = here;
          given = longer ∙ rw m.given;
          others = λ j l n. m.others j (omega (arith, before j l n));
        }
      where
        before : (j : ℕ) → j < k + 1 → (j ≡ k → ⊥) → j < k
        before j l n = omega (arith, n)

    chosen-two : 0 < length (actions_given ps (take k actions)) → 1 < length (actions_given ps (take (k + 1) actions))
    chosen-two l =
        rw longer
        (omega (arith, length-append (actions_given ps (take k actions)) (rules.choose (action_at k).operator ((action_at k).arguments v) ∷ [])))

-- ---- the same, as the code goes: the action of an operator, by its number and its key

module _ (ps : List Parameter) {operator : ℕ} (c : Choice) (low : 2 ≤ operator) (high : operator ≤ 8) {key : Bytes} (e : key ≡ key_at (operator - 2))
    (m : Chosen ps (operator - 2) c) where
  next : operator - 2 + 1 ≡ operator - 1
  next = omega arith

  pub with-same : given key ps ≡ false → Chosen ps (operator - 1) c
  with-same n =
      let z : value_of (key_at (operator - 2)) ps ≡ None = rw e at (given-not key ps n) in
      rw next at (chosen-same ps (omega arith) z c m)

  module _ (g : given key ps ≡ true) where
    there : There (key_at (operator - 2)) ps
    there = given-there (key_at (operator - 2)) ps (rw e at g)

    pub with-one : c ≡ None → Chosen ps (operator - 1) (One operator)
    with-one f =
        let b : operator - 2 + 2 ≡ operator = omega arith in
        let o : OneAction ps (operator - 2 + 1) (operator - 2 + 2) = chosen-one ps (omega arith) there.is (rw f at m) in
        rw (next, b) at o

    pub with-two : {other : ℕ} → c ≡ One other → Chosen ps (operator - 1) More
    with-two {other} f =
        let o : OneAction ps (operator - 2) other = rw f at m in
        let l : 0 < length (actions_given ps (take (operator - 2) actions)) = rw o.given (omega arith) in
        let t : 1 < length (actions_given ps (take (operator - 2 + 1) actions)) = chosen-two ps (omega arith) there.is l in
        rw next at t

    pub with-more : c ≡ More → Chosen ps (operator - 1) More
    with-more f =
        let o : 1 < length (actions_given ps (take (operator - 2) actions)) = rw f at m in
        let t : 1 < length (actions_given ps (take (operator - 2 + 1) actions)) = chosen-two ps (omega arith) there.is (omega arith) in
        rw next at t

-- ---- all seven

two_none : (l : List (Option rules.Chosen)) → 1 < length l → exactly_one l ≡ None
unfolding exactly_one
two_none [] h = refl
two_none (x ∷ []) h = absurd (never (omega arith))
two_none (x ∷ y ∷ l) h = refl

all-of : take 7 actions ≡ actions
unfolding actions
all-of = refl

module _ (ps : List Parameter) where
  pub none-chosen : Chosen ps 7 None → exactly_one (actions_given ps actions) ≡ None
  none-chosen m = ap exactly_one (rw all-of at m.given) ∙ (unfold exactly_one in refl)

  pub more-chosen : Chosen ps 7 More → exactly_one (actions_given ps actions) ≡ None
  more-chosen m = two_none (actions_given ps actions) (rw all-of at m)

  pub one-chosen : {operator : ℕ} (m : OneAction ps 7 operator)
      → exactly_one (actions_given ps actions) ≡ rules.choose (action_at m.place).operator ((action_at m.place).arguments m.value)
  one-chosen m = ap exactly_one (rw all-of at m.given) ∙ (unfold exactly_one in refl)
