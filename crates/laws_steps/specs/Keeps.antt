-- What every step keeps: a property of the tuples and of each column that reading, storing, reordering and adapting keep.
-- The check's places are from 1 to 4, and the run's columns have one number for each tuple.
use Prim.Native.Nat.{ℕ, zero, suc, ◌-◌}
use Rattle.std.specs.Prelude.{Bool, take, ℤ}
use mathlib.Core.List.{List, [], ◌∷◌}
use Rattle.std.proofs.Math.ListN.{drop}
use Rattle.rules.specs.Operators.Acts.{Act, pushes, pops, pops_all, flips, rolls, swaps, drops, orders, adapts}
use Rattle.rules.specs.Pipeline.Running.{Numbered}
use Rattle.rules.specs.declared.Mode.{Mode}
use Rattle.rules.specs.Pipeline.Columns.{Machine, Kit, rolled_once, rolled, swapped_top, pushed, popped, topped, flipped, moved, after}
use Rattle.laws_lists.specs.Lists.{Every, every_append}

-- ---- columns alone

module _ {A : Type 0} (P : A → Type 0) where
  every_take : (n : ℕ) (l : List A) → Every P l → Every P (take n l)
  unfolding Every
  every_take zero l h = tt
  every_take (suc n) [] h = tt
  every_take (suc n) (x ∷ l) h = (h.0, every_take n l h.1)

  every_drop : (n : ℕ) (l : List A) → Every P l → Every P (drop n l)
  unfolding Every
  every_drop zero l h = h
  every_drop (suc n) [] h = tt
  every_drop (suc n) (x ∷ l) h = every_drop n l h.1

  every-once : (m : ℕ) (l : List A) → Every P l → Every P (rolled_once m l)
  unfolding Every rolled_once
  every-once m [] h = tt
  every-once m (v ∷ l) h = every_append P (take (m - 1) l) (v ∷ drop (m - 1) l) (every_take (m - 1) l h.1) (h.0, every_drop (m - 1) l h.1)

  every-rolled : (m n : ℕ) (l : List A) → Every P l → Every P (rolled m n l)
  unfolding rolled
  every-rolled m zero l h = h
  every-rolled m (suc n) l h = every-rolled m n (rolled_once m l) (every-once m l h)

  every-swapped : (l : List A) → Every P l → Every P (swapped_top l)
  unfolding Every swapped_top
  every-swapped [] h = h
  every-swapped (v ∷ []) h = h
  every-swapped (v ∷ w ∷ l) h = (h.1.0, (h.0, h.1.1))

-- ---- every step

-- tuples and columns that have the property
pub record Holds {T C : Type 0} (P : T → Type 0) (Q : C → Type 0) (m : Machine T C) : Type 0 where
  pub tuples : P m.tuples
  pub columns : Every Q m.columns

-- what the four ways to move them must keep
pub record Keeps {T C : Type 0} (k : Kit T C) (P : T → Type 0) (Q : C → Type 0) : Type 0 where
  pub column : (i : ℕ) (t : T) → P t → Q (k.column i t)
  pub store : (i : ℕ) (v : C) (t : T) → Q v → P t → P (k.store i v t)
  pub order : (back : Bool) (l : List ℤ) (t : T) → P t → P (k.order back l t)
  pub adapt : (mode : Mode) (back : Bool) (l : List ℤ) (t : T) → P t → P (k.adapt mode back l t)

module _ {T C : Type 0} {k : Kit T C} {P : T → Type 0} {Q : C → Type 0} (keeps : Keeps k P Q) where
  pushed-keeps : (is : List ℕ) (t : T) (l : List C) → P t → Every Q l → Every Q (pushed k is t l)
  unfolding pushed Every
  pushed-keeps [] t l p q = q
  pushed-keeps (i ∷ is) t l p q = pushed-keeps is t (k.column i t ∷ l) p (keeps.column i t p, q)

  popped-keeps : (is : List ℕ) (t : T) (l : List C) → P t → Every Q l → Holds P Q (popped k is t l)
  unfolding popped Every
  popped-keeps [] t l p q = record { tuples = p; columns = q }
  popped-keeps (i ∷ is) t [] p q = record { tuples = p; columns = tt }
  popped-keeps (i ∷ is) t (v ∷ l) p q = popped-keeps is (k.store i v t) l (keeps.store i v t q.0 p) q.1

  flipped-keeps : (is : List ℕ) (t : T) (l : List C) → P t → Every Q l → Holds P Q (flipped k is t l)
  unfolding flipped topped Every
  flipped-keeps [] t l p q = record { tuples = p; columns = q }
  flipped-keeps (i ∷ is) t [] p q = record { tuples = p; columns = tt }
  flipped-keeps (i ∷ is) t (v ∷ l) p q =
      let r = flipped-keeps is (k.store i v t) l (keeps.store i v t q.0 p) q.1 in
      record { tuples = r.tuples; columns = (keeps.column i t p, r.columns) }

  pub moved_keeps : (a : Act) (m : Machine T C) → Holds P Q m → Holds P Q (moved k a m)
  unfolding moved
  moved_keeps (pushes is) m h = record { tuples = h.tuples; columns = pushed-keeps is m.tuples m.columns h.tuples h.columns }
  moved_keeps (pops is) m h = popped-keeps is m.tuples m.columns h.tuples h.columns
  moved_keeps (pops_all is) m h = popped-keeps is m.tuples m.columns h.tuples h.columns
  moved_keeps (flips is) m h = flipped-keeps is m.tuples m.columns h.tuples h.columns
  moved_keeps (rolls w n) m h = record { tuples = h.tuples; columns = every-rolled Q w n m.columns h.columns }
  moved_keeps swaps m h = record { tuples = h.tuples; columns = every-swapped Q m.columns h.columns }
  moved_keeps drops m h = h
  moved_keeps (orders back l) m h = record { tuples = keeps.order back l m.tuples h.tuples; columns = h.columns }
  moved_keeps (adapts mode back l) m h = record { tuples = keeps.adapt mode back l m.tuples h.tuples; columns = h.columns }

-- one step after the other
pub after-keeps : {T C : Type 0} (f : Act → Machine T C → Machine T C) (H : Machine T C → Type 0) → ((a : Act) (m : Machine T C) → H m → H (f a m))
    → (l : List Numbered) (m : Machine T C) → H m → H (after f l m)
unfolding after
after-keeps f H g [] m h = h
after-keeps f H g (s ∷ l) m h = after-keeps f H g l (f s.does m) (g s.does m h)
