-- `reordered`: each arm knows which way it goes; the rule of an order gives both calls what they need: axes, and four arguments at most.
use Rattle.numbers.proofs.OrderTest.{order-axes}
use Rattle.axisswap.proofs.places.reordered.Goals as goal

pub unordered-requires : goal.unordered-requires
unordered-requires c = let others = order-axes _ c.requires.l_value in record { tuple_len = c.requires.tuple_len; l_value = others.0; l_len_bound = others.1 }

pub returns-then-back : goal.returns-then-back
returns-then-back c = rw c.if-back.true c.unordered.ensures

pub ordered-requires : goal.ordered-requires
ordered-requires c = let others = order-axes _ c.requires.l_value in record { tuple_len = c.requires.tuple_len; l_value = others.0; l_len_bound = others.1 }

pub returns-else-back : goal.returns-else-back
returns-else-back c = rw c.if-back.false c.ordered.ensures
