-- Two pieces: the direction, and the verdict.
use Rattle.show.proofs.TwoPieces.{put_written, first-room, second-room, both-said}
use Rattle.rules.specs.Face.Shown.{verdict_text}
use Rattle.show.proofs.checks.say_verdict.Goals as goal

pub put-o-requires : goal.put-o-requires
put-o-requires c =
    first-room c.args.direction.now (verdict_text c.args.f.verdict c.args.f) c.args.out.now c.args.at c.requires

pub say_judged-requires : goal.say_judged-requires
say_judged-requires c =
    second-room c.args.direction.now (verdict_text c.args.f.verdict c.args.f) c.args.out.now c.args.at c.requires (put_written c.put-o.ensures)

pub returns : goal.returns
returns c =
    both-said c.args.direction.now (verdict_text c.args.f.verdict c.args.f) c.args.out.now c.args.at c.requires
    (put_written c.put-o.ensures) c.say_judged.ensures
