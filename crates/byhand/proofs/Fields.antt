-- A field of a declared struct, as a walk meets it.
--     field_of         the machine value of field k, from the struct's
--     field-array      a field that is an array of declared structs: what the holder's relation says of it is the array's own relation
-- Assumes nothing.
use mathlib.Core.Path.{sym, ◌∙◌}
use Prim.Native.Nat.{ℕ, zero, suc}
use mathlib.Core.List.{List, [], ◌∷◌, map}
use lib.ListN.{length-map}
use mir.Val.{Val, Vals, vunit, vbool, vint, vfloat, vptr, vstruct, vcode, vnil, vcons}
use denote.Array.{Array, each}
use denote.Laws.{Is}
use denote.RattleType.{Denots}
use denote.Shadow.{shadow}
use denote.Struct.Declared.{Declared, fields, shape, row}
use denote.Struct.Struct.{Struct}

abbrev at : ℕ → Vals → Val
at k vnil = vunit
at zero (vcons v vs) = v
at (suc k) (vcons v vs) = at k vs

abbrev pub field_of : ℕ → Val → Val
field_of k vunit = vunit
field_of k (vbool b) = vunit
field_of k (vint w n) = vunit
field_of k (vfloat f x) = vunit
field_of k (vptr b o) = vunit
field_of k (vstruct vs) = at k vs
field_of k (vcode _) = vunit

module _ (T : Declared) (n : ℕ) where
  each-own : (xs : List T.D) (us : List Val) → shadow (each (Denots (fields T)) (Struct (shape T)).own_val (map T.to xs) us) → shadow (each T.D (row T).own_val xs us)
  each-own [] [] s = s
  each-own [] (u ∷ us) s = s
  each-own (x ∷ xs) [] s = s
  each-own (x ∷ xs) (u ∷ us) s = (s.0, each-own xs us s.1)

  pub field-array : (xs : List T.D) (vs : List Val) → Is (Array (Struct (shape T)) n) (map T.to xs) vs → Is (Array (row T) n) xs vs
  field-array xs vs p = (p.0, ((p.1.0.0, sym (length-map xs T.to) ∙ p.1.0.1), each-own xs p.0 p.1.1))
