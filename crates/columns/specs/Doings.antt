-- The acts of the code in the words of the rules.
use Rattle.std.specs.Prelude.{◌≡◌, ◌*◌, ◌≤◌, Bool, true, List, take, ℤ, ltb}
use Rattle.rules.specs.Text.Lists.{all_of}
use Rattle.rules.specs.Operators.Arguments.{places, is_place, is_order}
use Rattle.rules.specs.Operators.Documented.{is_adapt_in}
use Rattle.rules.specs.Operators.Acts as rules
use Rattle.columns.specs.declared.acts.Act.{Act}
use Rattle.columns.specs.declared.acts.Act.TheVariants.{Pushes, Pops, PopsAll, Flips, Rolls, Swaps, Drops, Orders, Adapts}
use Rattle.columns.specs.declared.acts.Doing.{Doing}

-- an act with its arguments
unfoldable pub does : Act → List ℤ → rules.Act
does Pushes l = rules.pushes (places l)
does Pops l = rules.pops (places l)
does PopsAll l = rules.pops_all (places l)
does Flips l = rules.flips (places l)
does (Rolls m n) l = rules.rolls m n
does Swaps l = rules.swaps
does Drops l = rules.drops
does (Orders back) l = rules.orders back l
does (Adapts mode back) l = rules.adapts mode back l

unfoldable pub doing : Doing → rules.Act
doing d = does d.act (take d.n d.args)

-- can the arguments be those of the act?
unfoldable pub able : Act → List ℤ → Bool
able Pushes l = all_of is_place l
able Pops l = all_of is_place l
able PopsAll l = all_of is_place l
able Flips l = all_of is_place l
able (Rolls m n) l = ltb n (2 * m)
able Swaps l = true
able Drops l = true
able (Orders back) l = is_order l
able (Adapts mode back) l = is_adapt_in mode l

-- the code's act is that of the rules, and its arguments can be
pub record Does (a : rules.Act) (d : Doing) : Type 0 where
  pub same : doing d ≡ a
  pub slots : d.n ≤ 8
  pub rule : able d.act (take d.n d.args) ≡ true
