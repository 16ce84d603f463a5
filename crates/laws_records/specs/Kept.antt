-- A record with its arguments in its slots is `made` where the arguments keep their rule.
use Rattle.std.specs.Prelude.{◌≡◌, refl, ℕ, zero, suc, ◌-◌, ◌≤◌, Bool, true, false, cond, List, length, replicate, eqb, leb, ℤ, pos, Option, None, Some}
use Prim.Native.String.{String}
use Rattle.std.proofs.Common.{le-leb}
use Rattle.std.proofs.Math.Seq.{take-append_seam, drop-append_seam}
use Rattle.rules.specs.Text.Lists.{all_of}
use Rattle.rules.specs.Text.Parameters.{Parameter}
use Rattle.rules.specs.Operators.Descriptions.{Operator, Chosen}
use Rattle.rules.specs.Operators.Table.{number_of, is_args, greatest}
use Rattle.rules.specs.Operators.Arguments.{size, is_given}
use Rattle.rules.specs.Pipeline.Record.{reading_number, step_with, operator, args, unused, nine_digits, made}
use Rattle.rules.specs.Pipeline.Prepare.{mark, record_of, recorded}
use Rattle.rules.specs.declared.Step.{Step}
use Rattle.laws_lists.specs.Tests.{never}
use Rattle.laws_records.specs.Numbering.{operator-number, number_small}

all-zero : (k : ℕ) → all_of (λ (x : ℤ). eqb (size x) 0) (replicate k (pos 0)) ≡ true
unfolding all_of
all-zero zero = refl
all-zero (suc k) = all-zero k

mark-small : (key : String) (ps : List Parameter) → leb (mark key ps) 1 ≡ true
unfolding mark
mark-small key ps = go (is_given key ps)
  where
    go : (b : Bool) → leb (cond b 1 0) 1 ≡ true
    go true = refl
    go false = refl

-- what a record's arguments must keep
pub record Kept (o : Operator) (l : List ℤ) : Type 0 where
  pub fit : length l ≤ 8
  pub nines : all_of nine_digits l ≡ true
  pub rule : is_args o l ≡ true

pub record-made : (o : Operator) (ps : List Parameter) (l : List ℤ) → Kept o l → made (record_of o ps l) ≡ true
unfolding made operator args unused record_of step_with reading_number
record-made o ps l k =
    rw (le-leb (number_of o) greatest (number_small o), le-leb (length l) 8 k.fit, mark-small "inv" ps, mark-small "omit_fwd" ps, mark-small "omit_inv" ps)
    (rw (drop-append_seam l (replicate (8 - length l) (pos 0)), take-append_seam l (replicate (8 - length l) (pos 0)), all-zero (8 - length l), operator-number o, k.nines) k.rule)

-- what parameters choose, with arguments that keep the operator's rule, is such a record
pub recorded-made : (ps : List Parameter) (r : Option Chosen) → ((c : Chosen) → r ≡ Some c → Kept c.operator c.arguments)
    → (s : Step) → recorded ps r ≡ Some s → made s ≡ true
unfolding recorded
recorded-made ps None k s h = absurd (never (cc h))
recorded-made ps (Some c) k s h =
    let e : record_of c.operator ps c.arguments ≡ s = cc h in
    rw (← e) (record-made c.operator ps c.arguments (k c refl))

-- and its operator is the chosen one
pub recorded-by : (P : Operator → Type 0) (ps : List Parameter) (r : Option Chosen) → ((c : Chosen) → r ≡ Some c → P c.operator)
    → (s : Step) → recorded ps r ≡ Some s → P (operator s)
unfolding recorded record_of step_with operator
recorded-by P ps None k s h = absurd (never (cc h))
recorded-by P ps (Some c) k s h =
    let e : record_of c.operator ps c.arguments ≡ s = cc h in
    rw (← e, operator-number c.operator) (k c refl)
