-- Where refusal 12 is: of one parameter at its own fault, and of several at the earlier one; and the loop over a table's parameters, from the last
-- one on.
use mathlib.Core.Path.{◌≡◌, refl, sym, ap, ◌∙◌}
use Prim.Native.Nat.{ℕ, ◌+◌, ◌-◌, ◌≤◌, ◌<◌, min}
use mathlib.Core.Bool.{Bool, true, false, cond, ◌||◌, false≢true}
use mathlib.Core.List.{List, [], ◌∷◌, ◌++◌, append-nil, map, map-append}
use native.Mathlib.Nat.{add-zero}
use native.Mathlib.Omega.{arith}
use borrow.Author.Tests.{ltb-true, eqb-true, eqb-false}
use lib.ListN.{length, take, get_or}
use lib.Seq.{take-suc, take_all}
use lib.Dec.{eqb, ltb}
use native.Mathlib.Numerals.{add-one}
use Rattle.std.specs.Prelude.{Some, None}
use Rattle.rules.specs.Text.Ascii.{ascii}
use Rattle.rules.specs.Text.Lists.{any_of, non_empty, is_none}
use Rattle.rules.specs.Text.Bytes.{Bytes, same}
use Rattle.rules.specs.Text.Decimal.{pieces, series, broken_from}
use Rattle.rules.specs.Text.Parameters.{Parameter, Placed}
use Rattle.rules.specs.Operators.Keys.{kind_in}
use Rattle.rules.specs.Pipeline.Keys.{every_key, own_keys, kind_of, unknown, misspelt, too_long}
use Rattle.rules.specs.Pipeline.Offsets.{fault_in, is_fault, fault_at, faults, earliest}
use Rattle.rules.specs.declared.Kind.TheVariants as kind
use Rattle.rules.specs.declared.Name.{Name}
use Rattle.laws_lists.specs.Tests.{never}
use Rattle.text.proofs.RunEnd.{length_part}
use Rattle.parameters.specs.Parts.{Parts, placed_of, key_of, value_of as value_part, value_at, held, listed, placed_in, Within}
use Rattle.parameters.specs.declared.table.Part.{Part}
use Rattle.prepare.specs.SeriesRead.{lowest, Reads}
use Rattle.prepare.specs.Faults.{by, placed, unplaced, flag_fault, earlier, lowest_of, without, joined, Finds}
use Rattle.prepare.specs.declared.faults.Lowest.{Lowest}
use Rattle.prepare.specs.declared.series.Numbers.{Numbers}
use Rattle.prepare.proofs.LowestFault.{lowers-none, lowers-behind, fault-lacking, fault-flag, fault-word, fault-series}

-- ---- of two numbers

-- where neither is below 12, the number is 12 exactly where a fault is
by-12 : (a b c : Bool) → 12 ≤ by a b c → eqb (by a b c) 12 ≡ b
by-12 true b c h = absurd (never (omega arith))
by-12 false true c h = refl
by-12 false false true h = refl
by-12 false false false h = refl

lower-12 : (x y : ℕ) → min x y ≡ 12 → (12 ≤ x) × (12 ≤ y)
lower-12 x y e = (omega (arith, e), omega (arith, e))

lower-other : (x y : ℕ) → min x y ≡ 12 → eqb x 12 ≡ false → y ≡ 12
lower-other x y e f = let g : (x ≡ 12 → ⊥) = eqb-false x 12 f in omega (arith, e, g)

no-12 : (b : Bool) → ◌≡◌ {A = ℕ} (cond b 13 14) 12 → ⊥
no-12 true g = never (omega arith)
no-12 false g = never (omega arith)

earliest-more : (x : ℕ) (l : List ℕ) → non_empty l ≡ true → earliest (x ∷ l) ≡ min x (earliest l)
unfolding earliest non_empty
earliest-more x [] h = absurd (false≢true h)
earliest-more x (y ∷ l) h = refl

-- of some and of others
none-behind : (u v : List ℕ) → non_empty v ≡ false → u ++ v ≡ u
unfolding non_empty
none-behind u [] h = append-nil u
none-behind u (y ∷ v) h = absurd (false≢true (sym h))

none-before : (u v : List ℕ) → non_empty u ≡ false → u ++ v ≡ v
unfolding non_empty
none-before [] v h = refl
none-before (x ∷ u) v h = absurd (false≢true (sym h))

earliest-both : (u v : List ℕ) → non_empty u ≡ true → non_empty v ≡ true → earliest (u ++ v) ≡ min (earliest u) (earliest v)
unfolding earliest non_empty
earliest-both [] v g h = absurd (false≢true g)
earliest-both (x ∷ []) v g h = earliest-more x v h
earliest-both (x ∷ y ∷ l) v g h = let e = earliest-both (y ∷ l) v refl h in omega (arith, e)

-- ---- of parameters and of others

unplaced-behind : (xs ys : List Placed) → unplaced (xs ++ ys) ≡ unplaced xs ++ unplaced ys
unplaced-behind xs ys = map-append (λ (q : Placed). q.given) xs ys

module _ (n : Name) where
  any-fault : (qs : List Placed) → any_of (λ (p : Parameter). misspelt (kind_of n p) p.value) (unplaced qs) ≡ non_empty (faults n qs)
  unfolding any_of faults is_fault non_empty
  any-fault [] = refl
  any-fault (q ∷ qs) = go (misspelt (kind_of n q.given) q.given.value) (any-fault qs)
    where
      go : (b : Bool) → any_of (λ (p : Parameter). misspelt (kind_of n p) p.value) (unplaced qs) ≡ non_empty (faults n qs)
          → (b || any_of (λ (p : Parameter). misspelt (kind_of n p) p.value) (unplaced qs)) ≡ non_empty (cond b (fault_at n q ∷ faults n qs) (faults n qs))
      go true h = refl
      go false h = h

  faults-behind : (xs ys : List Placed) → faults n (xs ++ ys) ≡ faults n xs ++ faults n ys
  unfolding faults
  faults-behind [] ys = refl
  faults-behind (q ∷ xs) ys = go (is_fault n q) (faults-behind xs ys)
    where
      go : (b : Bool) → faults n (xs ++ ys) ≡ faults n xs ++ faults n ys
          → cond b (fault_at n q ∷ faults n (xs ++ ys)) (faults n (xs ++ ys)) ≡ cond b (fault_at n q ∷ faults n xs) (faults n xs) ++ faults n ys
      go true h = ap (λ (l : List ℕ). fault_at n q ∷ l) h
      go false h = h

  pub finds-none : Finds n [] (without 14 0)
  finds-none = record { lowers = lowers-none n; at = unfold without in λ e. absurd (never (omega arith)) }

  fault-there : {qs : List Placed} {a : Lowest} → Finds n qs a → 12 ≤ a.number → eqb a.number 12 ≡ non_empty (faults n qs)
  fault-there {qs} {a} m h =
      let lacking = any_of (unknown n) (unplaced qs) in
      let wrong = any_of (λ (p : Parameter). misspelt (kind_of n p) p.value) (unplaced qs) in
      let long = any_of (λ (p : Parameter). too_long (kind_of n p) p.value) (unplaced qs) in
      let e : a.number ≡ by lacking wrong long = unfold lowest_of in m.lowers.number in
      rw (e, ← any-fault qs) (by-12 lacking wrong long (rw e at h))

  module _ {xs ys : List Placed} {a b : Lowest} (f : Finds n xs a) (m : Finds n ys b) where
    earlier-is : min a.number b.number ≡ 12 → earlier a.number a.at b.number b.at ≡ earliest (faults n (xs ++ ys))
    unfolding earlier
    earlier-is e =
        let l = lower-12 a.number b.number e in
        rw (faults-behind xs ys) (go (non_empty (faults n xs)) refl (fault-there f l.0) (non_empty (faults n ys)) refl (fault-there m l.1))
      where
        go : (w : Bool) → non_empty (faults n xs) ≡ w → eqb a.number 12 ≡ w → (v : Bool) → non_empty (faults n ys) ≡ v → eqb b.number 12 ≡ v
            → cond (eqb a.number 12) (cond (eqb b.number 12) (min a.at b.at) a.at) b.at ≡ earliest (faults n xs ++ faults n ys)
        go true w z true v y =
            rw (z, y, f.at (eqb-true a.number 12 z), m.at (eqb-true b.number 12 y)) (sym (earliest-both (faults n xs) (faults n ys) w v))
        go true w z false v y = rw (z, y, none-behind (faults n xs) (faults n ys) v) (f.at (eqb-true a.number 12 z))
        go false w z v u y = rw (z, none-before (faults n xs) (faults n ys) w) (m.at (lower-other a.number b.number e z))

    pub finds-behind : Finds n (xs ++ ys) (joined a b)
    finds-behind = record {
      lowers = rw (unplaced-behind xs ys) (lowers-behind n f.lowers m.lowers);
      at = unfold joined in earlier-is;
    }

-- ---- one parameter, by what its key takes

abbrev alone : Bytes → Bytes → ℕ → List Placed
alone key value at = placed key value at ∷ []

module _ {n : Name} {key value : Bytes} (at : ℕ) where
  pub finds-lacking : None ≡ kind_in (every_key ++ own_keys n) key → Finds n (alone key value at) (without 11 at)
  finds-lacking e = record { lowers = fault-lacking e at; at = unfold without in λ z. absurd (never (omega arith)) }

  pub finds-word : Some kind.Word ≡ kind_in (every_key ++ own_keys n) key → Finds n (alone key value at) (without 14 at)
  finds-word e = record { lowers = fault-word e at; at = unfold without in λ z. absurd (never (omega arith)) }

  pub finds-flag : {r : ℕ} → Some kind.Flag ≡ kind_in (every_key ++ own_keys n) key → r ≡ flag_fault value → Finds n (alone key value at) (without r at)
  unfolding flag_fault faults is_fault fault_at fault_in misspelt kind_of earliest
  finds-flag {r} e h = record { lowers = fault-flag e h at; at = unfold without in λ z. wrong (same value (ascii "true")) refl (sym h ∙ z) }
    where
      wrong : (b : Bool) → same value (ascii "true") ≡ b → flag_fault value ≡ 12 → at ≡ earliest (faults n (alone key value at))
      wrong true f g = absurd (never (omega (arith, rw f at g)))
      wrong false f g = sym (rw (← e, f) (add-zero at))

  pub finds-series : {r : Numbers} → Some kind.Series ≡ kind_in (every_key ++ own_keys n) key → Reads value at r
      → Finds n (alone key value at) (record { number = r.number; at = r.at; series = Some r })
  unfolding lowest faults is_fault fault_at fault_in misspelt kind_of earliest
  finds-series {r} e h = record { lowers = fault-series e h; at = λ z. h.at z ∙ wrong (is_none (series value)) refl (sym h.number ∙ z) }
    where
      wrong : (b : Bool) → is_none (series value) ≡ b → lowest value ≡ 12 → at + broken_from (pieces value) ≡ earliest (faults n (alone key value at))
      wrong true f g = sym (rw (← e, f))
      wrong false f g = absurd (no-12 (ltb 8 (length (pieces value))) (rw f at g))

-- ---- the parameters of a table, in their places

given-placed : (s : Bytes) (l : List Part) → unplaced (map (placed_of s) l) ≡ map (λ (p : Part). (placed_of s p).given) l
given-placed s [] = refl
given-placed s (p ∷ l) = ap (λ (r : List Parameter). (placed_of s p).given ∷ r) (given-placed s l)

pub given-in : (s : Bytes) (t : Parts) → unplaced (placed_in s t) ≡ listed s t
given-in s t = given-placed s (held t)

-- ---- the loop: what is so of the first i

abbrev pub Lowering : Bytes → List Part → Name → ℕ → Lowest → Type 0
Lowering s l n i low = Finds n (map (placed_of s) (take i l)) low

pub lowering-none : (s : Bytes) (l : List Part) (n : Name) {low : Lowest} → low ≡ without 14 0 → Lowering s l n 0 low
lowering-none s l n e = rw e (finds-none n)

-- a place in the text, and a value of it behind that
pub value-small : {s : Bytes} {p : Part} → Within s p → length s ≤ 40969 → {at : ℕ} {v : Bytes} → at ≡ value_at s p → v ≡ value_part s p → at + length v ≤ 65535
value-small {s} {p} w h {at} {v} e f =
    let l = length_part s p.value p.value_end w.value-ahead w.value-within in
    let k = inside (ltb (length s - p.value) 9) refl in
    omega (arith, ap length f, l, k, w.value-within)
  where
    inside : (b : Bool) → ltb (length s - p.value) 9 ≡ b → value_at s p + (p.value_end - p.value) ≤ length s + 9
    inside true b = let c = ltb-true (length s - p.value) 9 b in rw b (omega (arith, w.key-within, w.value-ahead, w.value-within, c))
    inside false b = rw b (omega (arith, w.value-ahead, w.value-within))

module _ (s : Bytes) (l : List Part) {n : Name} {i : ℕ} {low : Lowest} (m : Lowering s l n i low) (d : Part) where
  pub lowering-more : i < length l → {at : ℕ} {k v : Bytes} {f r : Lowest} → at ≡ value_at s (get_or l i d) → k ≡ key_of s (get_or l i d) → v ≡ value_part s (get_or l i d)
      → Finds n (placed k v at ∷ []) f → r ≡ joined low f → Lowering s l n (i + 1) r
  lowering-more h a k v f e =
      let one : take (i + 1) l ≡ take i l ++ (get_or l i d ∷ []) = rw (add-one i) (take-suc l i d h) in
      let more : map (placed_of s) (take (i + 1) l) ≡ map (placed_of s) (take i l) ++ (placed_of s (get_or l i d) ∷ []) = ap (map (placed_of s)) one ∙ map-append (placed_of s) (take i l) (get_or l i d ∷ []) in
      rw (more, e) (finds-behind n m (rw (a, k, v) at f))

  pub lowering-end : length l ≤ i → Finds n (map (placed_of s) l) low
  lowering-end h = rw (take_all i l h) at m
