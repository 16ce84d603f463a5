-- The documents' examples hold: one statement over the tables of specs/Examples.antt, proved by computation. A line of the proof is a
-- table's, and its n-th `refl` is that of row n.
use Rattle.std.specs.Prelude.{refl}
use Rattle.rules.specs.Opened.{opened}
use Rattle.rules.specs.Examples.{examples, also, printed, rewritten, readings, modes, offsets, underlined, demanded, AllHold}

pub examples-hold : AllHold examples × AllHold also × AllHold printed × AllHold rewritten × AllHold readings × AllHold modes × AllHold offsets × AllHold underlined × AllHold demanded
unfolding opened
examples-hold = (
  (refl, (refl, (refl, (refl, (refl, (refl, (refl, (refl, (refl, (refl, (refl, (refl, (refl, (refl, (refl, (refl, tt)))))))))))))))),
  (refl, (refl, (refl, (refl, (refl, (refl, (refl, (refl, (refl, (refl, (refl, (refl, (refl, (refl, (refl, (refl, (refl, (refl, (refl, tt))))))))))))))))))),
  (refl, (refl, (refl, (refl, (refl, (refl, (refl, (refl, (refl, (refl, tt)))))))))),
  (refl, (refl, (refl, (refl, (refl, (refl, (refl, (refl, (refl, (refl, tt)))))))))),
  (refl, (refl, (refl, (refl, (refl, (refl, (refl, (refl, (refl, (refl, (refl, (refl, (refl, (refl, (refl, (refl, tt)))))))))))))))),
  (refl, (refl, (refl, (refl, (refl, (refl, (refl, (refl, (refl, (refl, (refl, (refl, (refl, (refl, (refl, tt))))))))))))))),
  (refl, (refl, (refl, (refl, (refl, (refl, (refl, (refl, (refl, (refl, (refl, (refl, (refl, tt))))))))))))),
  (refl, (refl, (refl, (refl, (refl, (refl, (refl, (refl, (refl, (refl, (refl, tt))))))))))),
  (refl, (refl, (refl, tt))),
)
