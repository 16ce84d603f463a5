-- Two pieces: the check forward, and the check inverse.
use Rattle.show.proofs.TwoPieces.{first-room, second-room, both-said}
use Rattle.rules.specs.Face.Shown.{verdict_line, both_checks}
use Rattle.rules.specs.Text.Ascii.{ascii}
use Rattle.rules.specs.Pipeline.Record.{listed}
use Rattle.rules.specs.Pipeline.Check.{check}
use Rattle.rules.specs.declared.Direction.TheVariants.{Forward, Inverse}
use Rattle.show.proofs.checks.say_checks.Goals as goal

pub say_check-o-requires : goal.say_check-o-requires
unfolding both_checks ascii
say_check-o-requires c =
    rw c.check-forward.ensures.exactly
    (first-room (verdict_line (ascii "forward: ") (check Forward (listed c.args.table))) (verdict_line (ascii "inverse: ") (check Inverse (listed c.args.table))) c.args.out.now
    c.args.at c.requires)

pub say_check-requires : goal.say_check-requires
unfolding both_checks ascii
say_check-requires c =
    rw c.check-inverse.ensures.exactly
    (second-room (verdict_line (ascii "forward: ") (check Forward (listed c.args.table))) (verdict_line (ascii "inverse: ") (check Inverse (listed c.args.table))) c.args.out.now
    c.args.at c.requires (rw c.check-forward.ensures.exactly at c.say_check-o.ensures))

pub returns : goal.returns
unfolding both_checks ascii
returns c =
    both-said (verdict_line (ascii "forward: ") (check Forward (listed c.args.table))) (verdict_line (ascii "inverse: ") (check Inverse (listed c.args.table))) c.args.out.now
    c.args.at c.requires
    (rw c.check-forward.ensures.exactly at
    c.say_check-o.ensures)
    (rw c.check-inverse.ensures.exactly at c.say_check.ensures)
