-- The laws of all operators: by name, and by number.
use Rattle.rules.specs.Operators.Descriptions.{Operator, Push, Pop, StackPush, StackPop, StackFlip, StackRoll, StackUnroll, StackSwap, StackDrop, Axisswap, Adapt, Documented}
use Rattle.rules.specs.Operators.Documented.{adapt_in}
use Rattle.rules.specs.declared.Mode.TheVariants as mode-is
use Rattle.rules.specs.declared.Name.{Name}
use Rattle.rules.specs.declared.Name.TheVariants as name-is
use Rattle.laws_records.specs.Owed.{KeepsRule, HasText}
use Rattle.laws_records.specs.Operators.PushPop.{push-keeps, pop-keeps, push-text, pop-text}
use Rattle.laws_records.specs.Operators.Stack as stack
use Rattle.laws_records.specs.Operators.Axisswap.{axisswap-keeps, axisswap-text}
use Rattle.laws_records.specs.Operators.Adapt.{adapt-keeps, adapt-text}

-- what the parameters of a step choose keeps the rule of the operator
pub keeps-rule : (n : Name) → KeepsRule n
keeps-rule name-is.Push = push-keeps
keeps-rule name-is.Pop = pop-keeps
keeps-rule name-is.Stack = stack.stack-keeps
keeps-rule name-is.Axisswap = axisswap-keeps
keeps-rule name-is.Adapt = adapt-keeps

-- each has its text
pub has-text : (o : Operator) → HasText o
unfolding adapt_in
has-text Push = push-text
has-text Pop = pop-text
has-text StackPush = stack.push-text
has-text StackPop = stack.pop-text
has-text StackFlip = stack.flip-text
has-text StackRoll = stack.roll-text
has-text StackUnroll = stack.unroll-text
has-text StackSwap = stack.swap-text
has-text StackDrop = stack.drop-text
has-text Axisswap = axisswap-text
has-text Adapt = adapt-text mode-is.Crate
has-text Documented = adapt-text mode-is.Documented
