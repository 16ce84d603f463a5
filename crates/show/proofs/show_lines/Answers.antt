-- Two pieces: the numbered steps, and the checks behind them.
use Rattle.show.proofs.TwoPieces.{first-room, second-room, both-said}
use Rattle.rules.specs.Face.Shown.{headed, shown_checks}
use mathlib.Core.Bool.{false}
use Rattle.show.proofs.show_lines.Goals as goal

pub say_steps-o-requires : goal.say_steps-o-requires
say_steps-o-requires c =
    first-room (headed 1 false c.args.lines.now) (shown_checks c.args.reading c.args.mode c.args.text.now) c.args.out.now c.args.at
    c.requires

pub show_checks-requires : goal.show_checks-requires
show_checks-requires c =
    second-room (headed 1 false c.args.lines.now) (shown_checks c.args.reading c.args.mode c.args.text.now) c.args.out.now c.args.at
    c.requires c.say_steps-o.ensures

pub returns : goal.returns
returns c =
    both-said (headed 1 false c.args.lines.now) (shown_checks c.args.reading c.args.mode c.args.text.now) c.args.out.now c.args.at c.requires
    c.say_steps-o.ensures c.show_checks.ensures
