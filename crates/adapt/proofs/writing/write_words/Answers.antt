-- `write_words`: both words by the code of the first factor; the first four arguments are the outputs, which are axes.
use Rattle.std.proofs.Common.{rules, get_or, pos, SFits, w32, to_z-of_z}
use mathlib.Core.Path.{refl, sym}
use native.Mathlib.Omega.{arith}
use lib.Seq.{length-take-le}
use Rattle.rules.specs.Text.Lists.{all_of}
use Rattle.numbers.specs.Axes.{is_axis}
use Rattle.numbers.proofs.InTurn.{room_as, as_written}
use Rattle.adapt.proofs.Spelt.{adapt-is, adapt-long, adapt-axes}
use Rattle.adapt.proofs.writing.write_words.Goals as goal

pub bounds-l-4 : goal.bounds-l-4
bounds-l-4 c = omega (arith, adapt-long _ c.requires.l_value)

pub slice_bounds-words-end-2 : goal.slice_bounds-words-end-2
slice_bounds-words-end-2 c =
    sym (length-take-le 4 c.args.l.now (omega (arith, adapt-long c.args.l.now c.requires.l_value)))

pub words-requires : goal.words-requires
unfolding all_of is_axis
words-requires c =
    let f : SFits w32 (get_or c.args.l.now 4 (pos 0)) = search rules in
    record { from_value = refl; to_value = adapt-axes _ c.requires.l_value; room = room_as (sym (adapt-is _ (simp (to_z-of_z f) at c.size_of.ensures))) c.requires.room }

pub returns : goal.returns
returns c =
    let f : SFits w32 (get_or c.args.l.now 4 (pos 0)) = search rules in
    as_written (adapt-is _ (simp (to_z-of_z f) at c.size_of.ensures)) c.words.ensures
