-- `stack`: "the seven stack actions".
use Rattle.std.specs.Prelude.{◌+◌, ◌-◌, Bool, false, cond, not, ◌&&◌, List, [], ◌∷◌, reverse, leb, ltb, eqb, length, ℤ, Option, None, Some}
use Prim.Native.String.{String}
use Rattle.rules.specs.Text.Ascii.{ascii}
use Rattle.rules.specs.Text.Lists.{all_of}
use Rattle.rules.specs.Text.Bytes.{Bytes}
use Rattle.rules.specs.Text.Parameters.{Parameter}
use Rattle.rules.specs.Text.Decimal.{minus, series}
use Rattle.rules.specs.Operators.Acts.{Act, pushes, pops_all, flips, rolls, swaps, drops}
use Rattle.rules.specs.Operators.Arguments.{value_of, size, arg, places, is_place, wholes, listing, key_value}
use Rattle.rules.specs.Operators.Keys.{Key, flag, numbered}
use Rattle.rules.specs.Operators.Descriptions.{Operator, StackPush, StackPop, StackFlip, StackRoll, StackUnroll, StackSwap, StackDrop, Description, Chosen, choose, Wording}

-- ---- the rules on its arguments

-- "push, pop and flip take places 1 to 4, repeats allowed"
unfoldable pub is_places : List ℤ → Bool
is_places l = leb 1 (length l) && all_of is_place l

-- "roll m,n: whole numbers, m > |n|"
unfoldable pub is_roll : List ℤ → Bool
is_roll l = eqb (length l) 2 && (not (minus (arg 1 l)) && ltb (size (arg 2 l)) (size (arg 1 l)))

-- swap and drop have none
unfoldable pub is_nothing : List ℤ → Bool
is_nothing l = eqb (length l) 0

-- ---- what it does

-- "roll m,n .. Negative n means m + n."
unfoldable pub rolling : ℤ → ℤ → Act
rolling m n = rolls (size m) (cond (minus n) (size m - size n) (size n))

-- "Inverse uses m - n, as does unroll."
unfoldable pub unrolling : ℤ → ℤ → Act
unrolling m n = rolls (size m) (cond (minus n) (size m + size n) (size m - size n))

-- "Inverse push is pop with arguments reversed, and the other way round."
abbrev pub stack_push : Description
stack_push =
    record {
      number = 2;
      name = "stack";
      is_args = is_places;
      turned = false;
      forward = λ l. pushes (places l);
      inverse = λ l. pops_all (reverse (places l));
      words = λ l. key_value "push" (listing l) ∷ [];
    }

abbrev pub stack_pop : Description
stack_pop =
    record {
      number = 3;
      name = "stack";
      is_args = is_places;
      turned = false;
      forward = λ l. pops_all (places l);
      inverse = λ l. pushes (reverse (places l));
      words = λ l. key_value "pop" (listing l) ∷ [];
    }

-- "flip is not reversed."
abbrev pub stack_flip : Description
stack_flip =
    record {
      number = 4;
      name = "stack";
      is_args = is_places;
      turned = false;
      forward = λ l. flips (places l);
      inverse = λ l. flips (places l);
      words = λ l. key_value "flip" (listing l) ∷ [];
    }

abbrev pub stack_roll : Description
stack_roll =
    record {
      number = 5;
      name = "stack";
      is_args = is_roll;
      turned = false;
      forward = λ l. rolling (arg 1 l) (arg 2 l);
      inverse = λ l. unrolling (arg 1 l) (arg 2 l);
      words = λ l. key_value "roll" (listing l) ∷ [];
    }

-- "Inverse unroll is roll m,n"
abbrev pub stack_unroll : Description
stack_unroll =
    record {
      number = 6;
      name = "stack";
      is_args = is_roll;
      turned = false;
      forward = λ l. unrolling (arg 1 l) (arg 2 l);
      inverse = λ l. rolling (arg 1 l) (arg 2 l);
      words = λ l. key_value "unroll" (listing l) ∷ [];
    }

abbrev pub stack_swap : Description
stack_swap =
    record {
      number = 7;
      name = "stack";
      is_args = is_nothing;
      turned = false;
      forward = λ l. swaps;
      inverse = λ l. swaps;
      words = λ l. ascii "swap" ∷ [];
    }

abbrev pub stack_drop : Description
stack_drop =
    record {
      number = 8;
      name = "stack";
      is_args = is_nothing;
      turned = false;
      forward = λ l. drops;
      inverse = λ l. drops;
      words = λ l. ascii "drop" ∷ [];
    }

-- ---- its keys, and the action that they choose

unfoldable pub action_keys : List Key
action_keys = numbered "push" ∷ numbered "pop" ∷ numbered "flip" ∷ numbered "roll" ∷ numbered "unroll" ∷ flag "swap" ∷ flag "drop" ∷ []

-- an action: its key, its operator, and the arguments that its value gives
pub record Action : Type 0 where
  pub key : String
  pub operator : Operator
  pub arguments : Bytes → Option (List ℤ)

unfoldable pub actions : List Action
actions =
    record { key = "push"; operator = StackPush; arguments = λ value. wholes is_places (series value) }
    ∷ record { key = "pop"; operator = StackPop; arguments = λ value. wholes is_places (series value) }
    ∷ record { key = "flip"; operator = StackFlip; arguments = λ value. wholes is_places (series value) }
    ∷ record { key = "roll"; operator = StackRoll; arguments = λ value. wholes is_roll (series value) }
    ∷ record { key = "unroll"; operator = StackUnroll; arguments = λ value. wholes is_roll (series value) }
    ∷ record { key = "swap"; operator = StackSwap; arguments = λ value. Some [] }
    ∷ record { key = "drop"; operator = StackDrop; arguments = λ value. Some [] }
    ∷ []

-- what each action that is given chooses, none where its rule is broken
unfoldable pub action_then : Action → Option Bytes → List (Option Chosen) → List (Option Chosen)
action_then a None l = l
action_then a (Some value) l = choose a.operator (a.arguments value) ∷ l

unfoldable pub actions_given : List Parameter → List Action → List (Option Chosen)
actions_given ps [] = []
actions_given ps (a ∷ l) = action_then a (value_of (ascii a.key) ps) (actions_given ps l)

-- "exactly one action"
unfoldable pub exactly_one : List (Option Chosen) → Option Chosen
exactly_one [] = None
exactly_one (c ∷ []) = c
exactly_one (c ∷ d ∷ l) = None

abbrev pub stack_wording : Wording
stack_wording = record { name = "stack"; keys = action_keys; chosen = λ mode ps. exactly_one (actions_given ps actions) }
