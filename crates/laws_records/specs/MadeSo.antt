-- `made` taken apart by name.
use Rattle.std.specs.Prelude.{◌≡◌, ◌≤◌, true, leb, eqb, ℤ}
use Rattle.std.proofs.Common.{leb-true}
use Rattle.rules.specs.Text.Lists.{all_of}
use Rattle.rules.specs.Operators.Arguments.{size}
use Rattle.rules.specs.Operators.Table.{is_args, greatest}
use Rattle.rules.specs.Pipeline.Record.{made, operator, args, unused, nine_digits}
use Rattle.rules.specs.declared.Step.{Step}
use Rattle.laws_lists.specs.Tests.{and_left, and_right}

pub record Made (s : Step) : Type 0 where
  pub number : s.operator ≤ greatest
  pub slots : s.n ≤ 8
  pub inv : leb s.inv 1 ≡ true
  pub forward : leb s.omit_fwd 1 ≡ true
  pub inverse : leb s.omit_inv 1 ≡ true
  pub reading : leb s.reading 1 ≡ true
  pub zeros : all_of (λ (x : ℤ). eqb (size x) 0) (unused s) ≡ true
  pub digits : all_of nine_digits (args s) ≡ true
  pub rule : is_args (operator s) (args s) ≡ true

pub made_so : (s : Step) → made s ≡ true → Made s
unfolding made
made_so s h =
    let n = and_right (leb s.operator greatest) _ h in
    let i = and_right (leb s.n 8) _ n in
    let f = and_right (leb s.inv 1) _ i in
    let b = and_right (leb s.omit_fwd 1) _ f in
    let r = and_right (leb s.omit_inv 1) _ b in
    let u = and_right (leb s.reading 1) _ r in
    let a = and_right (all_of (λ (x : ℤ). eqb (size x) 0) (unused s)) _ u in
    record {
      number = leb-true s.operator greatest (and_left (leb s.operator greatest) _ h);
      slots = leb-true s.n 8 (and_left (leb s.n 8) _ n);
      inv = and_left (leb s.inv 1) _ i;
      forward = and_left (leb s.omit_fwd 1) _ f;
      inverse = and_left (leb s.omit_inv 1) _ b;
      reading = and_left (leb s.reading 1) _ r;
      zeros = and_left (all_of (λ (x : ℤ). eqb (size x) 0) (unused s)) _ u;
      digits = and_left (all_of nine_digits (args s)) _ a;
      rule = and_right (all_of nine_digits (args s)) _ a;
    }
