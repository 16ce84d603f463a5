-- "`push`, `pop` with flags `v_1` to `v_4`".
use Rattle.std.specs.Prelude.{ℕ, ◌+◌, Bool, true, false, cond, ◌&&◌, List, [], ◌∷◌, ◌++◌, map, reverse, ltb, ℤ, pos, Some}
use Prim.Native.String.{String}
use Rattle.rules.specs.Text.Ascii.{ascii}
use Rattle.rules.specs.Text.Bytes.{Bytes}
use Rattle.rules.specs.Text.Parameters.{Parameter}
use Rattle.rules.specs.Operators.Acts.{pushes, pops}
use Rattle.rules.specs.Operators.Arguments.{is_given, size, places, is_place}
use Rattle.rules.specs.Operators.Keys.{Key, flag}
use Rattle.rules.specs.Operators.Descriptions.{Push, Pop, Description, Wording, choose}

-- ---- the rule on their arguments

-- "flags in order 1 to 4, possibly none": places that rise, from the last one on
unfoldable pub is_rising : ℕ → List ℤ → Bool
is_rising last [] = true
is_rising last (x ∷ l) = is_place x && (ltb last (size x) && is_rising (size x) l)

-- ---- their keys, and the arguments that they give

unfoldable pub axis_keys : List Key
axis_keys = flag "v_1" ∷ flag "v_2" ∷ flag "v_3" ∷ flag "v_4" ∷ []

unfoldable pub flagged : String → ℕ → List Parameter → List ℤ
flagged key axis ps = cond (is_given key ps) (pos axis ∷ []) []

-- the axes whose flags are given, "in order 1 to 4"
unfoldable pub axes : List Parameter → List ℤ
axes ps = flagged "v_1" 1 ps ++ (flagged "v_2" 2 ps ++ (flagged "v_3" 3 ps ++ flagged "v_4" 4 ps))

-- the flag of an axis
unfoldable pub flag_of : ℤ → Bytes
flag_of x = ascii "v_" ++ ((48 + size x) ∷ [])

-- ---- what they do: "`push`: flags in order 1 to 4"; "`pop`: 4 to 1". "Inverse push is pop with arguments reversed, and the other way round."

abbrev pub push : Description
push =
    record {
      number = 0;
      name = "push";
      is_args = is_rising 0;
      turned = false;
      forward = λ l. pushes (places l);
      inverse = λ l. pops (reverse (places l));
      words = λ l. map flag_of l;
    }

abbrev pub pop : Description
pop =
    record {
      number = 1;
      name = "pop";
      is_args = is_rising 0;
      turned = false;
      forward = λ l. pops (reverse (places l));
      inverse = λ l. pushes (places l);
      words = λ l. map flag_of l;
    }

abbrev pub push_wording : Wording
push_wording = record { name = push.name; keys = axis_keys; chosen = λ mode ps. choose Push (Some (axes ps)) }

abbrev pub pop_wording : Wording
pop_wording = record { name = pop.name; keys = axis_keys; chosen = λ mode ps. choose Pop (Some (axes ps)) }
