-- `write_documented`: both words by their axes and the one code; the first four arguments are the outputs, which are axes.
use mathlib.Core.Path.{sym}
use native.Mathlib.Omega.{arith}
use lib.Seq.{length-take-le}
use Rattle.numbers.proofs.InTurn.{room_as, as_written}
use Rattle.adapt.proofs.SpeltByAxis.{from-axes, outputs-axes, documented-is, documented-long, documented-axes}
use borrow.Author.Rules.{rules}
use Rattle.adapt.proofs.documented_text.write_documented.Goals as goal

pub axes_from-from-requires : goal.axes_from-from-requires
axes_from-from-requires c = documented-long _ c.requires.l_value

pub slice_bounds-axes_to-end-2 : goal.slice_bounds-axes_to-end-2
slice_bounds-axes_to-end-2 c =
    sym (length-take-le 4 c.args.l.now (omega (arith, documented-long c.args.l.now c.requires.l_value)))

pub axes_to-to-requires : goal.axes_to-to-requires
axes_to-to-requires c =
    let four = length-take-le 4 c.args.l.now (omega (arith, documented-long c.args.l.now c.requires.l_value)) in record { from_len = search rules; from_value = from-axes _ c.axes_from-from.ensures; l_value = documented-axes _ c.requires.l_value; l_len = four }

pub code_in-requires : goal.code_in-requires
code_in-requires c = documented-long _ c.requires.l_value

pub words-requires : goal.words-requires
words-requires c =
    let from-so = from-axes c.args.l.now c.axes_from-from.ensures in
    let to-so = outputs-axes _ (search rules) from-so _ (documented-axes _ c.requires.l_value) in record { from_value = from-so; to_value = rw c.axes_to-to.ensures to-so; room = room_as (sym (documented-is _ c.code_in.ensures c.axes_from-from.ensures c.axes_to-to.ensures)) c.requires.room }

pub returns : goal.returns
returns c =
    as_written (documented-is _ c.code_in.ensures c.axes_from-from.ensures c.axes_to-to.ensures) c.words.ensures
