-- "Where every factor is plus or minus one, inverse after forward restores all numbers that are not NaN, bit for bit", and forward after inverse
-- does: each number goes to one place, times 1 or -1, and comes back from there, times the same.
use Rattle.std.specs.Prelude.{◌≡◌, Bool, cond, ◌&&◌, ◌||◌, List, [], ◌∷◌, map, T, eqb, length, take, get_or, ℤ, pos}
use Rattle.std.proofs.Math.Path.{refl}
use Rattle.std.proofs.Common.{ap, ◌∙◌, arith, eqb-true, lit≤}
use Prim.Native.Nat.{ℕ, zero, suc, ◌/◌, ◌≤◌, ◌<◌}
use Rattle.std.proofs.Math.Bool.{true, false, not}
use Rattle.std.proofs.lemmas.Simd.{map-map}
use Rattle.std.proofs.lemmas.Bool.{not-true}
use Rattle.std.specs.Float.Ieee.{Float, binary64, neg, mul, div, fits}
use Rattle.std.specs.Float.{nan, inf, fin}
use store.Seg.{eqb_same}
use Rattle.rules.specs.Text.Lists.{all_of, any_of}
use Rattle.rules.specs.Operators.Acts.{adapts}
use Rattle.rules.specs.Operators.Arguments.{size, arg, is_distinct, is_order}
use Rattle.rules.specs.Operators.Numbers.{number, put, turn}
use Rattle.rules.specs.Operators.Adapt.{one, post, mult, output}
use Rattle.rules.specs.Operators.Documented.{is_documented, sends_back, adapted_by_axis, adapted_in}
use Rattle.rules.specs.Face.Demands.{number_at, IsUnit, plus_one, minus_one, EachUnit}
use Rattle.rules.specs.Operators.Descriptions.{Documented}
use Rattle.rules.specs.Operators.Table.{is_args, forward, inverse}
use Rattle.rules.specs.Pipeline.Record.{reading_of, operator, args, is_set, made}
use Rattle.rules.specs.Pipeline.Running.{opposite, turns, directed, act_of, act, omitted, ordered, running_from, running}
use Rattle.rules.specs.Pipeline.Columns.{takes, too_few, moved, after}
use Rattle.rules.specs.Pipeline.Tuples.{tuples, numbers, acted_if, acted}
use Rattle.rules.specs.Pipeline.Run.{start, runs, done}
use Rattle.rules.specs.declared.Coord.{Coord}
use Rattle.rules.specs.declared.Mode.TheVariants as mode-is
use Rattle.rules.specs.declared.Step.{Step}
use Rattle.rules.specs.declared.Direction.{Direction}
use Rattle.rules.specs.declared.Direction.TheVariants.{Forward, Inverse}
use Rattle.laws_lists.specs.Tests.{and_left, and_right, never, below}
use Rattle.laws_records.specs.Calm.{so, so-at}
use Rattle.laws_steps.specs.Runs.{answered, fourfold}
use Rattle.laws_steps.specs.OwnNumbers.{own_at, mapped_at}
use Rattle.laws_records.specs.MadeSo.{made_so}
use Rattle.laws_records.specs.Ieee.{unit, turn-mul}
use Rattle.laws_records.specs.Operators.Adapt.Words.{order4, up_to, up_to-at, order-sizes, order-sized}

-- ---- one number, times 1 or -1 and back

twice : (t : Bool) (x : Float) → turn t (turn t x) ≡ x
unfolding turn neg
twice false x = refl
twice true nan = refl
twice true (inf true) = refl
twice true (inf false) = refl
twice true (fin true m e) = refl
twice true (fin false m e) = refl

turned-fits : (t : Bool) (x : Float) → T (fits binary64 x) → T (fits binary64 (turn t x))
unfolding turn neg fits
turned-fits false x h = h
turned-fits true nan h = h
turned-fits true (inf s) h = h
turned-fits true (fin s zero e) h = h
turned-fits true (fin s (suc m) e) h = h

-- 1, or -1
unit-is : (x : Float) → IsUnit x → (t : Bool) × (x ≡ unit t)
unfolding neg
unit-is x (plus_one e) = (false, e)
unit-is x (minus_one e) = (true, e)

-- 1 over it is the same
over-unit : (t : Bool) → div binary64 one (unit t) ≡ unit t
unfolding div
over-unit true = refl
over-unit false = refl

module _ (m : Float) (u : IsUnit m) (x : Float) (h : T (fits binary64 x)) where
  twice-unit : (t : Bool) → mul binary64 (mul binary64 x (unit t)) (unit t) ≡ x
  twice-unit t = rw (← turn-mul binary64 t x h, ← turn-mul binary64 t (turn t x) (turned-fits t x h)) (twice t x)

  -- there and back, in either order
  there_back : mul binary64 (mul binary64 x m) (div binary64 one m) ≡ x
  there_back = let t = unit-is m u in rw (t.1, over-unit t.0) (twice-unit t.0)

  back-there : mul binary64 (mul binary64 x (div binary64 one m)) m ≡ x
  back-there = let t = unit-is m u in rw (t.1, over-unit t.0) (twice-unit t.0)

-- ---- places

-- a place from 1 to 4
pub data Four : ℕ → Type 0 where
  first : Four 1
  second : Four 2
  third : Four 3
  fourth : Four 4

pub is-four : (i : ℕ) → 1 ≤ i → i ≤ 4 → Four i
is-four zero h k = absurd (none h)
  where
    none : 1 ≤ 0 → ⊥
    none h = omega arith
is-four (suc zero) h k = first
is-four (suc (suc zero)) h k = second
is-four (suc (suc (suc zero))) h k = third
is-four (suc (suc (suc (suc zero)))) h k = fourth
is-four (suc (suc (suc (suc (suc i))))) h k = absurd (over k)
  where
    over : suc (suc (suc (suc (suc i)))) ≤ 4 → ⊥
    over h = omega arith

least : {i : ℕ} → Four i → 1 ≤ i
least first = lit≤ tt
least second = lit≤ tt
least third = lit≤ tt
least fourth = lit≤ tt

most : {i : ℕ} → Four i → i ≤ 4
most first = lit≤ tt
most second = lit≤ tt
most third = lit≤ tt
most fourth = lit≤ tt

-- number i where number j was put
number_put : {i j : ℕ} → Four i → Four j → (x : Float) (c : Coord) → number i (put j x c) ≡ cond (eqb i j) x (number i c)
unfolding number put
number_put first first x c = refl
number_put first second x c = refl
number_put first third x c = refl
number_put first fourth x c = refl
number_put second first x c = refl
number_put second second x c = refl
number_put second third x c = refl
number_put second fourth x c = refl
number_put third first x c = refl
number_put third second x c = refl
number_put third third x c = refl
number_put third fourth x c = refl
number_put fourth first x c = refl
number_put fourth second x c = refl
number_put fourth third x c = refl
number_put fourth fourth x c = refl

-- the four places of an order: each place is one of them, and none is there twice
here : ℕ → ℕ → ℕ → ℕ → ℕ → Bool
here i a b c d = eqb i a || (eqb i b || (eqb i c || eqb i d))

apart : ℕ → ℕ → ℕ → ℕ → Bool
apart a b c d = not (eqb a b) && (not (eqb a c) && (not (eqb a d) && (not (eqb b c) && (not (eqb b d) && not (eqb c d)))))

-- of the sizes alone that is a finite table, which is computed
orders : up_to 4 (λ a b c d. so (order4 a b c d) (here 1 a b c d && (here 2 a b c d && (here 3 a b c d && (here 4 a b c d && apart a b c d))))) ≡ true
unfolding below up_to order4 so here apart is_order is_distinct all_of any_of
orders = refl

record Places (a b c d : ℕ) : Type 0 where
  one-is : Four a
  two_is : Four b
  three-is : Four c
  four_is : Four d
  there : {i : ℕ} → Four i → here i a b c d ≡ true
  ab : eqb a b ≡ false
  ac : eqb a c ≡ false
  ad : eqb a d ≡ false
  bc : eqb b c ≡ false
  bd : eqb b d ≡ false
  cd : eqb c d ≡ false

places : (a b c d : ℤ) → is_order (a ∷ b ∷ c ∷ d ∷ []) ≡ true → Places (size a) (size b) (size c) (size d)
unfolding apart
places a b c d h =
    let s = order-sized a b c d h in
    let row = up_to-at 4 _ orders (size a) (size b) (size c) (size d) s.0.most s.1.most s.2.most s.3.most in
    let t = so-at (order4 (size a) (size b) (size c) (size d)) _ row (order-sizes a b c d h) in
    let t2 = and_right (here 1 (size a) (size b) (size c) (size d)) _ t in
    let t3 = and_right (here 2 (size a) (size b) (size c) (size d)) _ t2 in
    let t4 = and_right (here 3 (size a) (size b) (size c) (size d)) _ t3 in
    let r1 = and_right (here 4 (size a) (size b) (size c) (size d)) _ t4 in
    let r2 = and_right (not (eqb (size a) (size b))) _ r1 in
    let r3 = and_right (not (eqb (size a) (size c))) _ r2 in
    let r4 = and_right (not (eqb (size a) (size d))) _ r3 in
    let r5 = and_right (not (eqb (size b) (size c))) _ r4 in
    record {
      one-is = is-four (size a) s.0.least s.0.most;
      two_is = is-four (size b) s.1.least s.1.most;
      three-is = is-four (size c) s.2.least s.2.most;
      four_is = is-four (size d) s.3.least s.3.most;
      there = λ f. at f (and_left (here 1 (size a) (size b) (size c) (size d)) _ t) (and_left (here 2 (size a) (size b) (size c) (size d)) _ t2)
          (and_left (here 3 (size a) (size b) (size c) (size d)) _ t3) (and_left (here 4 (size a) (size b) (size c) (size d)) _ t4);
      ab = not-true _ (and_left (not (eqb (size a) (size b))) _ r1);
      ac = not-true _ (and_left (not (eqb (size a) (size c))) _ r2);
      ad = not-true _ (and_left (not (eqb (size a) (size d))) _ r3);
      bc = not-true _ (and_left (not (eqb (size b) (size c))) _ r4);
      bd = not-true _ (and_left (not (eqb (size b) (size d))) _ r5);
      cd = not-true _ (and_right (not (eqb (size b) (size d))) _ r5);
    }
  where
    at : {i : ℕ} → Four i → here 1 (size a) (size b) (size c) (size d) ≡ true → here 2 (size a) (size b) (size c) (size d) ≡ true → here 3 (size a) (size b) (size c) (size d) ≡ true
        → here 4 (size a) (size b) (size c) (size d) ≡ true → here i (size a) (size b) (size c) (size d) ≡ true
    at first p q r s = p
    at second p q r s = q
    at third p q r s = r
    at fourth p q r s = s

-- number j where four numbers were put at these places, the first of them first
module _ {a b c d : ℕ} (p : Places a b c d) where
  put_all : {j : ℕ} → Four j → (w x y z : Float) (t : Coord)
      → number j (put d z (put c y (put b x (put a w t)))) ≡ cond (eqb j d) z (cond (eqb j c) y (cond (eqb j b) x (cond (eqb j a) w (number j t))))
  put_all f w x y z t =
      rw (
        number_put f p.four_is z (put c y (put b x (put a w t))),
        number_put f p.three-is y (put b x (put a w t)),
        number_put f p.two_is x (put a w t),
        number_put f p.one-is w t,
      )

-- ---- one coordinate

fours : (l : List ℤ) → is_documented l ≡ true → Places (post l 1) (post l 2) (post l 3) (post l 4)
unfolding is_documented post arg
fours l h = go l (eqb-true (length l) 8 (and_left (eqb (length l) 8) _ h)) (and_left (is_order (take 4 l)) _ (and_right (eqb (length l) 8) _ h))
  where
    short : {n : ℕ} → n ≤ 3 → n ≡ 8 → ⊥
    short h e = omega arith

    go : (l : List ℤ) → length l ≡ 8 → is_order (take 4 l) ≡ true
        → Places (size (get_or l 0 (pos 0))) (size (get_or l 1 (pos 0))) (size (get_or l 2 (pos 0))) (size (get_or l 3 (pos 0)))
    go [] e h = absurd (short (lit≤ tt) e)
    go (a ∷ []) e h = absurd (short (lit≤ tt) e)
    go (a ∷ b ∷ []) e h = absurd (short (lit≤ tt) e)
    go (a ∷ b ∷ c ∷ []) e h = absurd (short (lit≤ tt) e)
    go (a ∷ b ∷ c ∷ d ∷ l) e h = places a b c d h

module _ (l : List ℤ) (is : is_documented l ≡ true) (t : Coord) where
  -- forward, an output takes a number; back, a number goes to a place of its own
  unfoldable pub back : ℕ → Float
  back k = mul binary64 (number k t) (div binary64 one (mult l k))

  pub sent-to : {j : ℕ} → Four j → number (post l j) (adapted_by_axis true l t) ≡ back j
  unfolding adapted_by_axis sends_back number back
  sent-to first = let p = fours l is in put_all p p.one-is (back 1) (back 2) (back 3) (back 4) t ∙ rw (p.ad, p.ac, p.ab, eqb_same (post l 1)) refl
  sent-to second = let p = fours l is in put_all p p.two_is (back 1) (back 2) (back 3) (back 4) t ∙ rw (p.bd, p.bc, eqb_same (post l 2)) refl
  sent-to third = let p = fours l is in put_all p p.three-is (back 1) (back 2) (back 3) (back 4) t ∙ rw (p.cd, eqb_same (post l 3)) refl
  sent-to fourth = let p = fours l is in put_all p p.four_is (back 1) (back 2) (back 3) (back 4) t ∙ rw (eqb_same (post l 4)) refl

  pub taken : {j : ℕ} → Four j → (c : Coord) → number j (adapted_by_axis false l c) ≡ output l c j
  unfolding adapted_by_axis number
  taken first c = refl
  taken second c = refl
  taken third c = refl
  taken fourth c = refl

module _ (l : List ℤ) (is : is_documented l ≡ true) (u : EachUnit l) (t : Coord) where
  -- forward, then back: the number that comes back to a place is the one that stood there
  returned : (k : ℕ) → 1 ≤ k → k ≤ 4 → (j : ℕ) → T (fits binary64 (number j t)) → j ≡ post l k → mul binary64 (output l t k) (div binary64 one (mult l k)) ≡ number j t
  unfolding output
  returned k a b j h e = rw e (there_back (mult l k) (u k a b) (number (post l k) t) (rw e at h))

  pub inverse-after-forward : {j : ℕ} → Four j → T (fits binary64 (number j t)) → number j (adapted_by_axis true l (adapted_by_axis false l t)) ≡ number j t
  unfolding adapted_by_axis sends_back number here
  inverse-after-forward {j} f h =
      let p = fours l is in
      put_all p f _ _ _ _ _ ∙ go _ (eqb j (post l 1)) (eqb j (post l 2)) (eqb j (post l 3)) (eqb j (post l 4)) refl refl refl refl (p.there f)
    where
      w : ℕ → Float
      w k = mul binary64 (output l t k) (div binary64 one (mult l k))

      at : (k : ℕ) → 1 ≤ k → k ≤ 4 → eqb j (post l k) ≡ true → w k ≡ number j t
      at k a b e = returned k a b j h (eqb-true j (post l k) e)

      go : (z : Float) (a b c d : Bool) → eqb j (post l 1) ≡ a → eqb j (post l 2) ≡ b → eqb j (post l 3) ≡ c → eqb j (post l 4) ≡ d → (a || (b || (c || d))) ≡ true
          → cond d (w 4) (cond c (w 3) (cond b (w 2) (cond a (w 1) z))) ≡ number j t
      go z a b c true p q r s e = at 4 (lit≤ tt) (lit≤ tt) s
      go z a b true false p q r s e = at 3 (lit≤ tt) (lit≤ tt) r
      go z a true false false p q r s e = at 2 (lit≤ tt) (lit≤ tt) q
      go z true false false false p q r s e = at 1 (lit≤ tt) (lit≤ tt) p
      go z false false false false p q r s e = absurd (never (cc e))

  -- back, then forward: the forward step takes it from that place
  pub forward-after-inverse : {j : ℕ} → Four j → T (fits binary64 (number j t)) → number j (adapted_by_axis false l (adapted_by_axis true l t)) ≡ number j t
  unfolding output back
  forward-after-inverse {j} f h = taken l is t f (adapted_by_axis true l t) ∙ rw (sent-to l is t f) (back-there (mult l j) (u j (least f) (most f)) (number j t) h)

-- ---- a run, and a run the other way

-- either way first
there_and_back : (back : Bool) (l : List ℤ) → is_documented l ≡ true → EachUnit l → (t : Coord) (j : ℕ) → 1 ≤ j → j ≤ 4 → T (fits binary64 (number j t))
    → number j (adapted_in mode-is.Documented (not back) l (adapted_in mode-is.Documented back l t)) ≡ number j t
unfolding adapted_in
there_and_back false l is u t j a b h = inverse-after-forward l is u t (is-four j a b) h
there_and_back true l is u t j a b h = forward-after-inverse l is u t (is-four j a b) h

-- tuples that were written out are read again
tuples-numbers : (ts : List Coord) → tuples (numbers ts) ≡ ts
unfolding tuples numbers
tuples-numbers [] = refl
tuples-numbers (t ∷ ts) = ap (λ (l : List Coord). t ∷ l) (tuples-numbers ts)

-- a step of the documented mode that no mark leaves out
pub record RunsBothWays (s : Step) : Type 0 where
  pub is_made : made s ≡ true
  pub is-documented : operator s ≡ Documented
  pub forward-too : is_set s.omit_fwd ≡ false
  pub inverse-too : is_set s.omit_inv ≡ false

is_back : Direction → Bool
is_back Forward = false
is_back Inverse = true

module _ (s : Step) (r : RunsBothWays s) where
  does : (d : Direction) → act d s ≡ adapts mode-is.Documented (is_back (directed d s)) (args s)
  unfolding act
  does d = rw r.is-documented (go (directed d s))
    where
      go : (d : Direction) → act_of d Documented (args s) ≡ adapts mode-is.Documented (is_back d) (args s)
      go Forward = unfold act_of forward is_back in refl
      go Inverse = unfold act_of inverse is_back in refl

  turns-back : (d : Direction) → is_back (directed (opposite d) s) ≡ not (is_back (directed d s))
  unfolding directed
  turns-back d = go d (turns (reading_of s.reading) (operator s) && is_set s.inv)
    where
      go : (d : Direction) (b : Bool) → is_back (cond b (opposite (opposite d)) (opposite d)) ≡ not (is_back (cond b (opposite d) d))
      go Forward true = unfold opposite is_back in refl
      go Forward false = unfold opposite is_back in refl
      go Inverse true = unfold opposite is_back in refl
      go Inverse false = unfold opposite is_back in refl

  alone : (d : Direction) → running d (s ∷ []) ≡ record { place = 1; does = act d s } ∷ []
  unfolding running running_from omitted ordered
  alone Forward = rw r.forward-too refl
  alone Inverse = rw r.inverse-too refl

  -- the tuples that a run leaves
  left : (d : Direction) (xs : List Float) → (after acted (running d (s ∷ [])) (start xs)).tuples ≡ map (adapted_in mode-is.Documented (is_back (directed d s)) (args s)) (tuples xs)
  unfolding after acted acted_if too_few takes moved
  left d xs = rw (alone d, does d) refl

  rule : is_documented (args s) ≡ true
  rule = unfold is_args in (rw r.is-documented at (made_so s r.is_made).rule)

  pub restores : EachUnit (args s) → (d : Direction) (xs store : List Float) (c n : ℕ) → (runs d (s ∷ []) xs store).answer ≡ done c n
      → (store₂ : List Float) (c₂ n₂ : ℕ) → (runs (opposite d) (s ∷ []) (runs d (s ∷ []) xs store).list store₂).answer ≡ done c₂ n₂
      → (i : ℕ) → i < length xs / 4 → (j : ℕ) → 1 ≤ j → j ≤ 4 → T (fits binary64 (number_at xs i j))
      → number_at (runs (opposite d) (s ∷ []) (runs d (s ∷ []) xs store).list store₂).list i j ≡ number_at xs i j
  restores u d xs store c n done store₂ c₂ n₂ done₂ i h j a b fit =
      let one = answered d (s ∷ []) xs store c n done in
      let ys = (runs d (s ∷ []) xs store).list in
      let two = answered (opposite d) (s ∷ []) ys store₂ c₂ n₂ done₂ in
      let whole = fourfold xs one.fourfold in
      let there : Coord → Coord = adapted_in mode-is.Documented (is_back (directed d s)) (args s) in
      let home : Coord → Coord = adapted_in mode-is.Documented (not (is_back (directed d s))) (args s) in
      let ys-is : ys ≡ numbers (map there (tuples xs)) = one.list-after ∙ ap numbers (left d xs) in
      let zs-is : (runs (opposite d) (s ∷ []) ys store₂).list ≡ numbers (map (λ (t : Coord). home (there t)) (tuples xs)) =
      two.list-after ∙ ap numbers (left (opposite d) ys) ∙ ap numbers (rw (turns-back d, ys-is, tuples-numbers (map there (tuples xs))) (map-map home there (tuples xs))) in
      let own = own_at xs whole i h j a b in
      ap (λ (l : List Float). number_at l i j) zs-is
      ∙ mapped_at xs whole i h (λ (t : Coord). home (there t)) j a b
      ∙ there_and_back (is_back (directed d s)) (args s) rule u _ j a b (rw own fit)
      ∙ own
