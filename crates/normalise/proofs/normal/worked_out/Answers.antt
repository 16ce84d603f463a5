-- `worked_out`: the bytes of the code are the definition's list as a table, which antt computes (`refl`). The passes are those of `normal`,
-- and each text on the way has room by its weight.
use mathlib.Core.Path.{refl, ◌∙◌}
use Rattle.rules.specs.Text.Normal.{becomes, subscript_becomes, replacements}
use Rattle.rules.specs.Text.Ascii.{ascii}
use Rattle.normalise.proofs.Weights.{run_room, squeezed-room, normal-holds}
use Rattle.normalise.specs.Table.{table}
use Rattle.text.proofs.Wrote.{wrote-fits}
use Rattle.normalise.proofs.normal.worked_out.Goals as goal

pub run_all-m-requires : goal.run_all-m-requires
unfolding ascii becomes subscript_becomes replacements table
run_all-m-requires c =
    record {
      rules_value = refl;
      n_in_bounds = wrote-fits c.cleaned-n.ensures;
      a_in_bounds = run_room c.args.text.now c.cleaned-n.ensures c.requires.text_in_bounds_2 c.cleaned-n.auto.b;
      a_in_bounds_2 = run_room c.args.text.now c.cleaned-n.ensures c.requires.text_in_bounds c.cleaned-n.auto.a;
    }

pub squeeze_into-requires : goal.squeeze_into-requires
squeeze_into-requires c =
    squeezed-room c.args.text.now c.cleaned-n.ensures c.run_all-m.ensures c.requires.text_in_bounds (c.run_all-m.auto.b ∙ c.cleaned-n.auto.a)

pub returns : goal.returns
returns c =
    normal-holds c.args.text.now c.cleaned-n.ensures c.run_all-m.ensures c.squeeze_into.ensures
