-- `scale_all`: each call of the closure scales its coordinate.
use Rattle.std.proofs.Common.{rules}
use Rattle.adapt.specs.Factors.{scaled_if}
use Rattle.adapt.proofs.coords.scale_all.Goals as goal

pub returns : goal.returns
returns c = c.each_coord.ensures (scaled_if c.args.back c.args.o.at c.args.f) (λ x r p. search rules)
