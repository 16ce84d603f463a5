-- `clean_into`: c holds the text without comments, and its normal form is made in a. Both have room: neither text weighs more than the one
-- that came in, which weighs at most ten times its length.
use mathlib.Core.Path.{refl}
use Rattle.laws_text.specs.Sizes.{tenfold-weight, tenfold-weight-less}
use Rattle.normalise.proofs.Room.{clean-room}
use Rattle.normalise.proofs.comments.clean_into.Goals as goal

pub strip_into-k-requires : goal.strip_into-k-requires
strip_into-k-requires c =
    record {
      text_in_bounds = tenfold-weight c.args.text.now c.requires.text_in_bounds;
      text_in_bounds_2 = tenfold-weight-less c.args.text.now c.requires.text_in_bounds_3;
    }

pub normal_of-requires : goal.normal_of-requires
normal_of-requires c =
    record {
      text_in_bounds = clean-room c.args.text.now c.strip_into-k.ensures c.requires.text_in_bounds c.strip_into-k.auto.a;
      text_in_bounds_2 = clean-room c.args.text.now c.strip_into-k.ensures c.requires.text_in_bounds_2 refl;
    }
