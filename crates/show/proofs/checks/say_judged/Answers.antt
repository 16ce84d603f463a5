-- By the four cases of the verdict.
use Rattle.show.proofs.Verdicts.{judged-room, judged-said}
use Rattle.rules.specs.Face.Shown.{verdict_text}
use Rattle.rules.specs.Text.Ascii.{ascii}
use Rattle.rules.specs.declared.Verdict.TheVariants.{Passes, TooFew, TooMany, Refused}
use Rattle.show.proofs.checks.say_judged.Goals as goal

pub say_passed-requires : goal.say_passed-requires
unfolding verdict_text ascii
say_passed-requires c =
    judged-room c.args.f.verdict (Passes) c.args.f c.args.out.now c.args.at c.in-Passes.is c.requires

pub say_step-requires : goal.say_step-requires
unfolding verdict_text ascii
say_step-requires c =
    judged-room c.args.f.verdict (TooFew c.in-TooFew.k) c.args.f c.args.out.now c.args.at c.in-TooFew.is c.requires

pub say_step-requires-in-TooMany : goal.say_step-requires-in-TooMany
unfolding verdict_text ascii
say_step-requires-in-TooMany c =
    judged-room c.args.f.verdict (TooMany c.in-TooMany.k) c.args.f c.args.out.now c.args.at c.in-TooMany.is c.requires

pub say_refused-requires : goal.say_refused-requires
unfolding verdict_text ascii
say_refused-requires c =
    judged-room c.args.f.verdict (Refused c.in-Refused.number c.in-Refused.place) c.args.f c.args.out.now c.args.at
    c.in-Refused.is c.requires

pub returns-in-Passes : goal.returns-in-Passes
unfolding verdict_text ascii
returns-in-Passes c =
    judged-said c.args.f.verdict (Passes) c.args.f c.args.out.now c.args.at c.in-Passes.is c.say_passed.ensures

pub returns-in-TooFew : goal.returns-in-TooFew
unfolding verdict_text ascii
returns-in-TooFew c =
    judged-said c.args.f.verdict (TooFew c.in-TooFew.k) c.args.f c.args.out.now c.args.at
    c.in-TooFew.is c.say_step.ensures

pub returns-in-TooMany : goal.returns-in-TooMany
unfolding verdict_text ascii
returns-in-TooMany c =
    judged-said c.args.f.verdict (TooMany c.in-TooMany.k) c.args.f c.args.out.now c.args.at
    c.in-TooMany.is c.say_step-in-TooMany.ensures

pub returns-in-Refused : goal.returns-in-Refused
unfolding verdict_text ascii
returns-in-Refused c =
    judged-said c.args.f.verdict (Refused c.in-Refused.number c.in-Refused.place) c.args.f
    c.args.out.now c.args.at c.in-Refused.is c.say_refused.ensures
