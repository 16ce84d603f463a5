-- `order_places`: the four places are reordered as `reordered` ensures, and the columns are not touched.
use Rattle.axisswap.proofs.OrderedPlaces.{order-so}
use Rattle.axisswap.proofs.places.order_places.Goals as goal

pub returns : goal.returns
returns c = order-so c.requires.whole c.reordered.ensures
