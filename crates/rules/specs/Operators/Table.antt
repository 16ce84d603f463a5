-- All operators: which is which by its number in a record, and by its name in a text. What the general definitions ask of an operator
-- is asked here.
use Rattle.std.specs.Prelude.{ℕ, Bool, cond, not, List, [], ◌∷◌, eqb, ℤ, Some, None, Option}
use Rattle.rules.specs.Text.Ascii.{ascii}
use Rattle.rules.specs.Text.Bytes.{Bytes, same}
use Rattle.rules.specs.Operators.Acts.{Act}
use Rattle.rules.specs.Operators.Descriptions.{Operator, Push, Pop, StackPush, StackPop, StackFlip, StackRoll, StackUnroll, StackSwap, StackDrop, Axisswap, Adapt, Documented, Description, Wording}
use Rattle.rules.specs.Operators.PushPop.{push, pop, push_wording, pop_wording}
use Rattle.rules.specs.Operators.Stack.{stack_push, stack_pop, stack_flip, stack_roll, stack_unroll, stack_swap, stack_drop, stack_wording}
use Rattle.rules.specs.Operators.Axisswap.{axisswap, axisswap_wording}
use Rattle.rules.specs.Operators.Adapt.{adapt}
use Rattle.rules.specs.Operators.Documented.{documented, adapt_in, adapt_wording}
use Rattle.rules.specs.declared.Mode.{Mode}
use Rattle.rules.specs.declared.Mode.TheVariants as mode
use Rattle.rules.specs.declared.Name.{Name}
use Rattle.rules.specs.declared.Name.TheVariants as name

-- ---- by number

abbrev pub describe : Operator → Description
describe Push = push
describe Pop = pop
describe StackPush = stack_push
describe StackPop = stack_pop
describe StackFlip = stack_flip
describe StackRoll = stack_roll
describe StackUnroll = stack_unroll
describe StackSwap = stack_swap
describe StackDrop = stack_drop
describe Axisswap = axisswap
describe Adapt = adapt
describe Documented = documented

-- all of them, in the order of their numbers, which begin at 0
unfoldable pub operators : List Operator
operators =
    Push
    ∷ Pop
    ∷ StackPush
    ∷ StackPop
    ∷ StackFlip
    ∷ StackRoll
    ∷ StackUnroll
    ∷ StackSwap
    ∷ StackDrop
    ∷ Axisswap
    ∷ Adapt
    ∷ Documented
    ∷ []

-- the greatest of their numbers
abbrev pub greatest : ℕ
greatest = 11

unfoldable pub number_of : Operator → ℕ
number_of o = (describe o).number

-- which operator a number is (a number that is none's is in no record that a preparation makes)
unfoldable pub with_number : ℕ → List Operator → Operator
with_number k [] = Adapt
with_number k (o ∷ os) = cond (eqb k (number_of o)) o (with_number k os)

unfoldable pub operator_of : ℕ → Operator
unfolding with_number operators number_of
operator_of k = with_number k operators

-- the arguments that a preparation gives each operator
unfoldable pub is_args : Operator → List ℤ → Bool
is_args o l = (describe o).is_args l

-- does a preparation in this mode make it? Only `adapt` knows a mode: not the other mode's `adapt`
unfoldable pub other_mode : Mode → Mode
other_mode mode.Crate = mode.Documented
other_mode mode.Documented = mode.Crate

unfoldable pub is_of_mode : Mode → Operator → Bool
is_of_mode m o = not (eqb (number_of o) (number_of (adapt_in (other_mode m))))

-- what it does
unfoldable pub forward : Operator → List ℤ → Act
forward o l = (describe o).forward l

unfoldable pub inverse : Operator → List ℤ → Act
inverse o l = (describe o).inverse l

-- ---- by name

abbrev pub wording_of : Name → Wording
wording_of name.Push = push_wording
wording_of name.Pop = pop_wording
wording_of name.Stack = stack_wording
wording_of name.Axisswap = axisswap_wording
wording_of name.Adapt = adapt_wording

unfoldable pub names : List Name
names = name.Push ∷ name.Pop ∷ name.Stack ∷ name.Axisswap ∷ name.Adapt ∷ []

-- "one of the five", or not
unfoldable pub name_in : List Name → Bytes → Option Name
name_in [] t = None
name_in (n ∷ ns) t = cond (same t (ascii (wording_of n).name)) (Some n) (name_in ns t)

unfoldable pub name_of : Bytes → Option Name
unfolding name_in names
name_of t = name_in names t
