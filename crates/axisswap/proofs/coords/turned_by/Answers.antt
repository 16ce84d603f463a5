-- `turned_by`: each number is turned by its own sign, as `turned_by` says.
use Rattle.axisswap.specs.Signs.{turned_by}
use Rattle.axisswap.proofs.coords.turned_by.Goals as goal

pub returns : goal.returns
unfolding turned_by
returns c =
    λ i. record { a = c.turned.ensures i; b = c.turned-2.ensures i; c = c.turned-3.ensures i; d = c.turned-4.ensures i }
