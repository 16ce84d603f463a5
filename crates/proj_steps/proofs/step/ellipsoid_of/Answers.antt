-- `ellipsoid_of`: the ellipsoid is composed where there are `a=` and `rf=` and no `ellps=`, by the three searches.
use Rattle.rules.specs.Text.Ascii.{ascii}
use Rattle.proj_steps.proofs.Plans.{without-a, without-rf, with-name}
use Rattle.proj_steps.proofs.step.ellipsoid_of.Goals as goal

pub returns-in_err-a : goal.returns-in_err-a
unfolding ascii
returns-in_err-a c = rw c.from_residual.ensures (without-a _ c.in_err-a.ensures)

pub returns-in_err-rf : goal.returns-in_err-rf
unfolding ascii
returns-in_err-rf c = rw c.from_residual-in_err-rf.ensures (without-rf _ c.in_err-rf.ensures)

pub returns-in-Some : goal.returns-in-Some
unfolding ascii
returns-in-Some c = with-name _ c.in-Some.ensures

pub returns-in-None : goal.returns-in-None
unfolding ascii
returns-in-None c = record { unnamed = c.in-None.ensures; a = c.in_ok-a.ensures; rf = c.in_ok-rf.ensures }
