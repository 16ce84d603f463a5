-- The walks of the definitions one step or one argument further, as a loop takes them.
use Rattle.std.specs.Prelude.{◌≡◌, ℕ, suc, ◌+◌, max, min, ◌<◌, Bool, true, false, cond, take, get_or, set, ℤ}
use Rattle.std.proofs.Math.Path.{refl, ap}
use mathlib.Core.List.{List, [], ◌∷◌, ◌++◌}
use Rattle.std.proofs.Common.{add-zero, add-one, take-suc, length-take-le}
use native.Mathlib.Omega.{arith}
use Rattle.std.proofs.Math.ListN.{length}
use Rattle.rules.specs.Text.Decimal.{minus}
use Rattle.rules.specs.Operators.Arguments.{size}
use Rattle.rules.specs.Operators.Axisswap.{swap_from, unswap_from}
use Rattle.rules.specs.Operators.Acts.{Act}
use Rattle.rules.specs.Pipeline.Running.{act, Numbered, omitted, ordered, running_from}
use Rattle.rules.specs.Pipeline.Columns.{Machine, Kit, pushed, popped, topped, flipped, after, depths, deepest}
use Rattle.rules.specs.Pipeline.Tuples.{State, acted, counts}
use Rattle.rules.specs.Pipeline.Run.{count_from}
use Rattle.rules.specs.declared.Step.{Step}
use Rattle.rules.specs.declared.Direction.TheVariants.{Forward, Inverse}

-- ---- which step runs next

-- forward: the first of the steps that are left
pub running-first : (k : ℕ) (s : Step) (l : List Step)
    → running_from k Forward (s ∷ l)
    ≡ cond (omitted Forward s) (running_from (suc k) Forward l) (record { place = k; does = act Forward s } ∷ running_from (suc k) Forward l)
unfolding running_from ordered
running-first k s l = refl

shift : (i n : ℕ) → suc i + n ≡ i + suc n
shift i n = omega arith

-- inverse: the last of the steps that are left
pub running-last : (k : ℕ) (l : List Step) (s : Step)
    → running_from k Inverse (l ++ (s ∷ []))
    ≡ cond (omitted Inverse s) (running_from k Inverse l) (record { place = k + length l; does = act Inverse s } ∷ running_from k Inverse l)
unfolding running_from ordered
running-last k [] s = rw (add-zero k)
running-last k (x ∷ l) s = rw (running-last (suc k) l s, shift k (length l)) (go (omitted Inverse x) (omitted Inverse s))
  where
    own : Numbered
    own = record { place = k; does = act Inverse x }

    new : Numbered
    new = record { place = k + suc (length l); does = act Inverse s }

    r : List Numbered
    r = running_from (suc k) Inverse l

    go : (a b : Bool) → cond a (cond b r (new ∷ r)) (cond b r (new ∷ r) ++ (own ∷ [])) ≡ cond b (cond a r (r ++ (own ∷ []))) (new ∷ cond a r (r ++ (own ∷ [])))
    go true true = refl
    go true false = refl
    go false true = refl
    go false false = refl

-- ---- one step more

module _ {T C : Type 0} (f : Act → Machine T C → Machine T C) where
  pub after_more : (l m : List Numbered) (x : Machine T C) → after f (l ++ m) x ≡ after f m (after f l x)
  unfolding after
  after_more [] m x = refl
  after_more (s ∷ l) m x = after_more l m (f s.does x)

  pub depths-more : (l m : List Numbered) (x : Machine T C) → depths f (l ++ m) x ≡ depths f l x ++ depths f m (after f l x)
  unfolding depths after
  depths-more [] m x = refl
  depths-more (s ∷ l) m x = ap (λ (r : List ℕ). length (f s.does x).columns ∷ r) (depths-more l m (f s.does x))

pub deepest-more : (l m : List ℕ) → deepest (l ++ m) ≡ max (deepest l) (deepest m)
unfolding deepest
deepest-more [] m = omega arith
deepest-more (d ∷ l) m = omega (arith, deepest-more l m)

pub count-more : (c : ℕ) (l m : List Numbered) (x : State) → count_from c (l ++ m) x ≡ count_from (count_from c l x) m (after acted l x)
unfolding count_from after
count-more c [] m x = refl
count-more c (s ∷ l) m x = count-more (min c (counts s.does x)) l m (acted s.does x)

-- ---- one argument more

module _ {T C : Type 0} (k : Kit T C) where
  pub pushed_more : (is js : List ℕ) (t : T) (l : List C) → pushed k (is ++ js) t l ≡ pushed k js t (pushed k is t l)
  unfolding pushed
  pushed_more [] js t l = refl
  pushed_more (i ∷ is) js t l = pushed_more is js t (k.column i t ∷ l)

  pub popped-more : (is js : List ℕ) (t : T) (l : List C) → popped k (is ++ js) t l ≡ popped k js (popped k is t l).tuples (popped k is t l).columns
  unfolding popped
  popped-more [] js t l = refl
  popped-more (i ∷ is) [] t [] = refl
  popped-more (i ∷ is) (j ∷ js) t [] = refl
  popped-more (i ∷ is) js t (v ∷ l) = popped-more is js (k.store i v t) l

  -- the next place is exchanged with the column that stands as deep as the places before it are many
  pub flipped-more : (is : List ℕ) (j : ℕ) (v : C) (t : T) (l : List C) → length is < length l
      → flipped k (is ++ (j ∷ [])) t l
      ≡ record {
        tuples = k.store j (get_or l (length is) v) (flipped k is t l).tuples;
        columns = set (flipped k is t l).columns (length is) (k.column j (flipped k is t l).tuples);
      }
  unfolding flipped topped
  flipped-more is j v t [] h = absurd (none h)
    where
      none : {n : ℕ} → n < 0 → ⊥
      none h = omega arith
  flipped-more [] j v t (w ∷ l) h = refl
  flipped-more (i ∷ is) j v t (w ∷ l) h = rw (flipped-more is j v (k.store i w t) l (omega arith))

module _ {T X : Type 0} (at : ℕ → T → X) (with : ℕ → X → T → T) (turns : Bool → X → X) where
  pub swap-more : (i : ℕ) (l : List ℤ) (x : ℤ) (c out : T)
      → swap_from at with turns i (l ++ (x ∷ [])) c out ≡ with (i + length l) (turns (minus x) (at (size x) c)) (swap_from at with turns i l c out)
  unfolding swap_from
  swap-more i [] x c out = rw (add-zero i)
  swap-more i (y ∷ l) x c out = rw (← shift i (length l)) (swap-more (suc i) l x c (with i (turns (minus y) (at (size y) c)) out))

  pub unswap-more : (i : ℕ) (l : List ℤ) (x : ℤ) (c out : T)
      → unswap_from at with turns i (l ++ (x ∷ [])) c out ≡ with (size x) (turns (minus x) (at (i + length l) c)) (unswap_from at with turns i l c out)
  unfolding unswap_from
  unswap-more i [] x c out = rw (add-zero i)
  unswap-more i (y ∷ l) x c out = rw (← shift i (length l)) (unswap-more (suc i) l x c (with (size y) (turns (minus y) (at i c)) out))

  -- one turn of a loop over the arguments
  module _ (i : ℕ) (l : List ℤ) (d : ℤ) (c out out' : T) (h : i < length l) where
    place : 1 + length (take i l) ≡ i + 1
    place = omega (arith, length-take-le i l (omega arith))

    more : take (i + 1) l ≡ take i l ++ (get_or l i d ∷ [])
    more = rw (add-one i) (take-suc l i d h)

    pub swap-turn : out ≡ swap_from at with turns 1 (take i l) c c → out' ≡ with (i + 1) (turns (minus (get_or l i d)) (at (size (get_or l i d)) c)) out
        → out' ≡ swap_from at with turns 1 (take (i + 1) l) c c
    swap-turn inv made = rw (more, swap-more 1 (take i l) (get_or l i d) c c, place, ← inv) made

    pub unswap-turn : out ≡ unswap_from at with turns 1 (take i l) c c → out' ≡ with (size (get_or l i d)) (turns (minus (get_or l i d)) (at (i + 1) c)) out
        → out' ≡ unswap_from at with turns 1 (take (i + 1) l) c c
    unswap-turn inv made = rw (more, unswap-more 1 (take i l) (get_or l i d) c c, place, ← inv) made
