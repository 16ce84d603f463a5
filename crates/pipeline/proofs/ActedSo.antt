-- What each operator's function leaves is what the act of a doing does, once a match has found which act it is.
use mathlib.Core.Path.{◌≡◌, refl, sym, ap, ◌∙◌, subst}
use Prim.Native.Nat.{ℕ, ◌+◌, ◌*◌, ◌<◌, ◌≤◌}
use mathlib.Core.Bool.{Bool, true}
use mathlib.Core.List.{List, map}
use native.Mathlib.Omega.{arith}
use borrow.Author.Tests.{ltb-true, eqb-true}
use lib.Dec.{eqb}
use lib.IntN.{ℤ}
use lib.Ieee.{Float}
use lib.ListN.{length, take}
use lib.Seq.{take_all, length-take-le}
use Rattle.rules.specs.Operators.Acts as rules
use Rattle.rules.specs.Operators.Adapt.{is_adapt}
use Rattle.rules.specs.Operators.Documented.{is_documented, is_adapt_in, adapted_in}
use Rattle.rules.specs.declared.Mode.{Mode}
use Rattle.rules.specs.declared.Mode.TheVariants as mode-is
use Rattle.rules.specs.Operators.Arguments.{is_order}
use Rattle.rules.specs.Operators.Axisswap.{swapped}
use Rattle.rules.specs.Pipeline.Columns.{moved, takes}
use Rattle.rules.specs.Pipeline.Tuples.{tuples}
use Rattle.laws_lists.specs.Tests.{and_left}
use Rattle.laws_steps.specs.Depth.{depth_after}
use Rattle.columns.specs.Doings.{does, doing, able, Does}
use Rattle.columns.specs.Machine.{Acted}
use Rattle.columns.specs.Stores.{held}
use Rattle.columns.specs.declared.acts.Act.{Act}
use Rattle.columns.specs.declared.acts.Act.TheVariants.{Pushes, Rolls, Drops, Orders, Adapts}
use Rattle.columns.specs.declared.acts.Doing.{Doing}
use Rattle.columns.proofs.Acted.{enough-so, tuples-so}
use Rattle.columns.proofs.DepthRules.{after-pushes}

-- in either mode `adapt` has eight arguments
eight-in : (mode : Mode) (l : List ℤ) → is_adapt_in mode l ≡ true → length l ≡ 8
unfolding is_adapt_in is_adapt is_documented
eight-in mode-is.Crate l h = eqb-true (length l) 8 (and_left (eqb (length l) 8) _ h)
eight-in mode-is.Documented l h = eqb-true (length l) 8 (and_left (eqb (length l) 8) _ h)

module _ (d : Doing) where
  abbrev l : List ℤ
  l = take d.n d.args

  -- of the act that a match found
  pub found : {x : Act} {depth : ℕ} {xs s xs' s' : List Float} → d.act ≡ x → Acted (does x (take d.n d.args)) depth xs s xs' s' → Acted (doing d) depth xs s xs' s'
  unfolding doing
  found {depth = depth} {xs = xs} {s = s} {xs' = xs'} {s' = s'} e h = subst (λ (a : Act). Acted (does a l) depth xs s xs' s') (sym e) h

  module _ (full : length d.args ≡ 8) (h : Does (doing d) d) where
    -- its arguments
    ruled : {x : Act} → d.act ≡ x → able x (take d.n d.args) ≡ true
    ruled e = subst (λ (a : Act). able a l ≡ true) e h.rule

    pub long : length (take d.n d.args) ≡ d.n
    long = length-take-le d.n d.args (omega (arith, full, h.slots))

    pub push-room : (depth n total : ℕ) → d.act ≡ Pushes → depth_after (doing d) depth * n ≤ total → (length (take d.n d.args) + depth) * n ≤ total
    push-room depth n total e room =
        subst (λ (z : ℕ). z * n ≤ total) (sym (ap (λ (z : ℕ). z + depth) long ∙ after-pushes d full h.slots depth e)) room

    pub roll-times : {m n : ℕ} → d.act ≡ Rolls m n → n < 2 * m
    unfolding able
    roll-times {m} {n} e = ltb-true n (2 * m) (ruled e)

    pub order-rule : {back : Bool} → d.act ≡ Orders back → is_order (take d.n d.args) ≡ true
    unfolding able
    order-rule e = ruled e

    -- an `adapt` has eight arguments
    whole : {mode : Mode} {back : Bool} → d.act ≡ Adapts mode back → take d.n d.args ≡ d.args
    unfolding able
    whole {mode} e = take_all d.n d.args (omega (arith, long, eight-in mode l (ruled e)))

    pub adapt-rule : {mode : Mode} {back : Bool} → d.act ≡ Adapts mode back → is_adapt_in mode d.args ≡ true
    unfolding able
    adapt-rule {mode} e = subst (λ (z : List ℤ). is_adapt_in mode z ≡ true) (whole e) (ruled e)

    module _ (depth : ℕ) (xs s : List Float) where
      pub drop-acted : d.act ≡ Drops → Acted (doing d) depth xs s xs s
      unfolding does moved takes held
      drop-acted e = found e (tuples-so rules.drops depth xs s (λ ts. ts) xs (enough-so rules.drops depth xs s (omega arith)) refl refl)

      pub order-acted : {back : Bool} (xs' : List Float) → d.act ≡ Orders back → length xs' ≡ length xs → tuples xs' ≡ map (swapped back (take d.n d.args)) (tuples xs)
          → Acted (doing d) depth xs s xs' s
      unfolding does moved takes held
      order-acted {back} xs' e len did =
          found e (tuples-so (rules.orders back l) depth xs s (map (swapped back l)) xs' (enough-so (rules.orders back l) depth xs s (omega arith)) len did)

      pub adapt-acted : {mode : Mode} {back : Bool} (xs' : List Float) → d.act ≡ Adapts mode back → length xs' ≡ length xs
          → tuples xs' ≡ map (adapted_in mode back d.args) (tuples xs) → Acted (doing d) depth xs s xs' s
      unfolding does moved takes held
      adapt-acted {mode} {back} xs' e len did =
          found e
          (tuples-so (rules.adapts mode back l) depth xs s (map (adapted_in mode back l)) xs' (enough-so (rules.adapts mode back l) depth xs s (omega arith)) len
          (did ∙ ap (λ (z : List ℤ). map (adapted_in mode back z) (tuples xs)) (sym (whole e))))
