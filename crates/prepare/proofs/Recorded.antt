-- Records, refusals and arguments of one step: what each function makes is what the definitions name.
use Rattle.std.specs.Prelude.{Option, None, Some}
use mathlib.Core.Path.{◌≡◌, refl, sym, ap, ◌∙◌}
use Prim.Native.Nat.{ℕ, ◌+◌, ◌<◌}
use mathlib.Core.Bool.{Bool, true, false, cond}
use mathlib.Core.List.{List, [], ◌∷◌, ◌++◌, append_assoc, append-nil}
use native.Mathlib.Numerals.{add-one}
use native.Mathlib.Omega.{arith}
use lib.ListN.{length, take, set, length-set, length-append}
use lib.Seq.{take-suc-set, length-take-le}
use lib.IntN.{ℤ, pos}
use Rattle.rules.specs.Text.Ascii.{ascii}
use Rattle.rules.specs.Text.Bytes.{Bytes}
use Rattle.rules.specs.Text.Parameters.{Parameter}
use Rattle.rules.specs.Operators.Arguments.{is_given}
use Rattle.rules.specs.Operators.Descriptions.{Operator, choose}
use Rattle.rules.specs.Operators.PushPop.{flagged, axes}
use Rattle.rules.specs.Operators.Table.{number_of}
use Rattle.rules.specs.Pipeline.Record.{step_with}
use Rattle.rules.specs.Pipeline.Prepare.{mark, record_of, recorded}
use Rattle.rules.specs.declared.Step.{Step}
use Rattle.record.specs.Records.{mark_of}
use Rattle.prepare.specs.Lookup.{given}
use Rattle.prepare.specs.SeriesRead.{args_of, Good}
use Rattle.prepare.specs.Records.{record_at, recorded_at, Axes, Extended, Flagged}
use Rattle.prepare.specs.declared.series.Args.{Args}
use Rattle.prepare.proofs.SeriesPieces.{zeros-more}

-- ---- replies

-- ---- the record

pub record-so : (operator : ℕ) (ps : List Parameter) (l : List ℤ) (i f b : Bool) {s : Step} → s ≡ step_with operator l (mark_of i) (mark_of f) (mark_of b)
    → i ≡ given (ascii "inv") ps → f ≡ given (ascii "omit_fwd") ps → b ≡ given (ascii "omit_inv") ps → s ≡ record_at operator ps l
unfolding record_at
record-so operator ps l i f b e x y z = e ∙ rw (x, y, z)

record-of : (o : Operator) (ps : List Parameter) (l : List ℤ) → record_at (number_of o) ps l ≡ record_of o ps l
unfolding record_at record_of mark_of mark is_given given
record-of o ps l = refl

-- an operator by its number, and as a step's parameters choose it
pub recorded-of : (o : Operator) (ps : List Parameter) (r : Option (List ℤ)) → recorded_at (number_of o) ps r ≡ recorded ps (choose o r)
unfolding recorded_at recorded choose
recorded-of o ps None = refl
recorded-of o ps (Some l) = ap Some (record-of o ps l)

-- ---- arguments

pub args-length : {a : Args} → Good a → length (args_of a) ≡ a.n
args-length {a} g = length-take-le a.n a.list (omega (arith, g.size, g.fits))

module _ {a : Args} (g : Good a) (axis : ℤ) (h : a.n < 8) where
  one_more : take (a.n + 1) (set a.list a.n axis) ≡ args_of a ++ (axis ∷ [])
  one_more = rw (add-one a.n) (take-suc-set a.list a.n axis (omega (arith, g.size)))

  pub extended-is : Extended a axis (record { list = set a.list a.n axis; n = a.n + 1 })
  extended-is =
      record {
        good =
            record {
              fits = omega arith;
              size = length-set a.list a.n axis ∙ g.size;
              zeros = zeros-more a.list a.n axis g.size g.zeros;
            };
        are = one_more;
      }

pub axes-count : {l : List ℤ} {r : Args} → Axes l r → r.n ≡ length l
axes-count m = sym (args-length m.good) ∙ ap length m.are

pub flag-set : {a : Args} {flag : Bool} {axis : ℤ} {r : Args} → Good a → flag ≡ true → Extended a axis r → Flagged a flag axis r
flag-set {a} {flag} {axis} g e m = record { axes = rw e m; few = omega (arith, axes-count m, length-append (args_of a) (axis ∷ []), args-length g) }

pub flag-not : {a : Args} {flag : Bool} (axis : ℤ) → Good a → flag ≡ false → Flagged a flag axis a
flag-not {a} axis g e = record { axes = rw e (record { good = g; are = sym (append-nil (args_of a)) }); few = omega arith }

abbrev flag : Bytes → ℤ → List Parameter → List ℤ
flag key axis ps = cond (given key ps) (axis ∷ []) []

axes-is : (ps : List Parameter)
    → axes ps ≡ flag (ascii "v_1") (pos 1) ps ++ (flag (ascii "v_2") (pos 2) ps ++ (flag (ascii "v_3") (pos 3) ps ++ flag (ascii "v_4") (pos 4) ps))
unfolding axes flagged is_given given
axes-is ps = refl

pub axes-so : (ps : List Parameter) {z a b c d : Args} → Axes [] z → Flagged z (given (ascii "v_1") ps) (pos 1) a → Flagged a (given (ascii "v_2") ps) (pos 2) b
    → Flagged b (given (ascii "v_3") ps) (pos 3) c → Flagged c (given (ascii "v_4") ps) (pos 4) d → Axes (axes ps) d
axes-so ps n p q r s =
    record {
      good = s.axes.good;
      are =
          s.axes.are
          ∙ rw (r.axes.are, q.axes.are, p.axes.are, n.are)
          (append_assoc (flag (ascii "v_1") (pos 1) ps ++ flag (ascii "v_2") (pos 2) ps) (flag (ascii "v_3") (pos 3) ps) (flag (ascii "v_4") (pos 4) ps)
          ∙ append_assoc (flag (ascii "v_1") (pos 1) ps) (flag (ascii "v_2") (pos 2) ps) (flag (ascii "v_3") (pos 3) ps ++ flag (ascii "v_4") (pos 4) ps)
          ∙ sym (axes-is ps));
    }
