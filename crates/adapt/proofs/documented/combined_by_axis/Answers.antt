-- `combined_by_axis`: the eight arguments are by their places what `combined_by_axis` lists.
use Rattle.laws_lists.specs.Signed.{given_is}
use Rattle.adapt.proofs.ByAxis.{by-axis-so}
use Rattle.adapt.proofs.documented.combined_by_axis.Goals as goal

pub returns : goal.returns
returns c =
    by-axis-so _ _ (given_is c.output_by_axis-o1.type_inv c.output_by_axis-o1.ensures) (given_is c.output_by_axis-o2.type_inv c.output_by_axis-o2.ensures)
    (given_is c.output_by_axis-o3.type_inv c.output_by_axis-o3.ensures) (given_is c.output_by_axis-o4.type_inv c.output_by_axis-o4.ensures)
    (given_is c.angle_by_axis-c1.type_inv c.angle_by_axis-c1.ensures) (given_is c.angle_by_axis-c2.type_inv c.angle_by_axis-c2.ensures)
    (given_is c.angle_by_axis-c3.type_inv c.angle_by_axis-c3.ensures) (given_is c.angle_by_axis-c4.type_inv c.angle_by_axis-c4.ensures)
