-- The text of an action before its arguments.
use Rattle.rules.specs.Text.Ascii.{ascii}
use Rattle.rules.specs.Text.Bytes.{Bytes}
use Rattle.rules.specs.Operators.Descriptions.{Operator, Push, Pop, StackPush, StackPop, StackFlip, StackRoll, StackUnroll, StackSwap, StackDrop, Axisswap, Adapt, Documented}
use Rattle.std.specs.Prelude.{[]}

unfoldable pub action_text : Operator → Bytes
action_text Push = []
action_text Pop = []
action_text StackPush = ascii "stack push="
action_text StackPop = ascii "stack pop="
action_text StackFlip = ascii "stack flip="
action_text StackRoll = ascii "stack roll="
action_text StackUnroll = ascii "stack unroll="
action_text StackSwap = ascii "stack swap"
action_text StackDrop = ascii "stack drop"
action_text Axisswap = []
action_text Adapt = []
action_text Documented = []
