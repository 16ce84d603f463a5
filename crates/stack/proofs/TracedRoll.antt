-- Swap and roll on signed places.
use mathlib.Core.Path.{◌≡◌, refl, sym, ap, ◌∙◌}
use Prim.Native.Nat.{ℕ, zero, suc, ◌+◌, ◌≤◌, ◌<◌, ◌-◌}
use mathlib.Core.List.{List, [], ◌∷◌, ◌++◌}
use native.Mathlib.Omega.{arith}
use native.Mathlib.Numerals.{add-one}
use lib.ListN.{length, get_or, set, take, drop, length-drop, length-append, length-set}
use lib.Seq.{drop-cons, drop-set-add, take-take, length-paste, drop_at, take-nil, length-take-le}
use Rattle.std.proofs.lemmas.Slice.{put_mid-paste}
use Rattle.rules.specs.Operators.Acts.{Act, swaps, rolls}
use Rattle.rules.specs.Pipeline.Columns.{moved, rolled, swapped_top}
use Rattle.rules.specs.Pipeline.Check.{no_place, on_places}
use Rattle.rules.specs.declared.Place.{Place}
use Rattle.laws_steps.specs.Rolls.{turned_top, rolled-is}
use Rattle.columns.specs.declared.traced.Traced.{Traced}
use Rattle.columns.specs.Traces.{machine, Whole, Moved}
use Rattle.columns.proofs.StoredPlace.{drop-set}
use Rattle.stack.specs.Actions.{Turns}
use borrow.Rule.Slice.PartMut.{put_mid}
use Rattle.stack.proofs.FullTurns.{turned-alike}

-- ---- swap

pub few-stay : (l : List Place) → length l ≤ 1 → l ≡ swapped_top l
unfolding swapped_top
few-stay [] h = refl
few-stay (v ∷ []) h = refl
few-stay (v ∷ w ∷ l) h = absurd (omega (arith, h))

pub swap-two : (c : List Place) (top : ℕ) → top + 1 < length c
    → drop top (set (set c top (get_or c (top + 1) no_place)) (top + 1) (get_or c top no_place)) ≡ swapped_top (drop top c)
unfolding swapped_top
swap-two c top h =
    let a = get_or c top no_place in
    let b = get_or c (top + 1) no_place in
    drop-set-add top (set c top b) 1 a
    ∙ ap (λ (l : List Place). set l 1 a) (drop-set c top b (omega (arith, h)) ∙ ap (λ (l : List Place). b ∷ l) next)
    ∙ sym (ap swapped_top (drop-cons c top no_place (omega (arith, h)) ∙ ap (λ (l : List Place). a ∷ l) next))
  where
    next : drop (suc top) c ≡ get_or c (top + 1) no_place ∷ drop (suc (top + 1)) c
    next = ap (λ (n : ℕ). drop n c) (sym (add-one top)) ∙ drop-cons c (top + 1) no_place h

-- ---- roll

drop-take : (k m : ℕ) (l : List Place) → k ≤ m → drop k (take m l) ≡ take (m - k) (drop k l)
drop-take zero m l h = ap (λ (n : ℕ). take n l) (less_none m)
  where
    less_none : (m : ℕ) → m ≡ m - 0
    less_none m = omega arith
drop-take (suc k) zero l h = absurd (omega (arith, h))
drop-take (suc k) (suc m) [] h = sym (take-nil (suc m - suc k))
drop-take (suc k) (suc m) (x ∷ l) h = drop-take k m l (omega (arith, h)) ∙ ap (λ (n : ℕ). take n (drop k l)) (one_less m k)
  where
    one_less : (m k : ℕ) → m - k ≡ suc m - suc k
    one_less m k = omega arith

module _ (c : List Place) (top m k : ℕ) (e : length c ≡ 64) (room : top + m ≤ 64) (h : k ≤ m) {r : List Place} (turned : r ≡ drop k (take m (drop top c)) ++ take k (take m (drop top c))) where
  pub roll-columns : drop top (put_mid top m c r) ≡ rolled m k (drop top c)
  unfolding turned_top
  roll-columns =
      let l = drop top c in
      drop_at (take top c) (r ++ drop m l) top (length-take-le top c (omega (arith, e, room)))
      ∙ ap (λ (z : List Place). z ++ drop m l) (turned ∙ ap (λ (z : List Place). drop k (take m l) ++ z) (take-take k m l h))
      ∙ sym (rolled-is m k l h (rw (length-drop, e) (omega (arith, room))))

  pub roll-most : length (put_mid top m c r) ≡ 64
  roll-most =
      let x = take m (drop top c) in
      let many : length x ≡ m = length-take-le m (drop top c) (omega (arith, length-drop top c, e, room)) in
      let long : length r ≡ m = ap length turned ∙ length-append (drop k x) (take k x) ∙ omega (arith, length-drop k x, length-take-le k x (omega (arith, many, h)), many, h) in
      ap length (put_mid-paste top m c r r m refl refl (sym long)) ∙ length-paste c top r m (omega (arith, e, room)) (omega (arith, long)) ∙ e

-- ---- the columns are turned, and nothing else

turned-columns : {t : Traced} {c : List Place} {a : Act} → Whole t → length c ≡ 64
    → record { tuples = t.tuple; columns = drop t.top c } ≡ moved on_places a (machine t) → Moved a t (record { tuple = t.tuple; columns = c; top = t.top })
unfolding machine
turned-columns w most e = record { whole = record { four = w.four; most = most; within = w.within }; same = e }

pub swaps-few : {t : Traced} → Whole t → 62 < t.top → Moved swaps t t
unfolding moved machine
swaps-few {t} w h =
    record {
      whole = w;
      same =
          ap (λ (l : List Place). record { tuples = t.tuple; columns = l })
          (few-stay (drop t.top t.columns) (rw (length-drop, w.most) (omega (arith, h))));
    }

pub swaps-some : {t : Traced} → Whole t → t.top ≤ 62
    → Moved swaps t (record { tuple = t.tuple; columns = set (set t.columns t.top (get_or t.columns (t.top + 1) no_place)) (t.top + 1) (get_or t.columns t.top no_place); top = t.top })
unfolding moved machine
swaps-some {t} w h =
    let c = t.columns in
    let b = get_or c (t.top + 1) no_place in
    let a = get_or c t.top no_place in
    turned-columns w (length-set (set c t.top b) (t.top + 1) a ∙ length-set c t.top b ∙ w.most)
    (ap (λ (l : List Place). record { tuples = t.tuple; columns = l }) (swap-two c t.top (rw w.most (omega (arith, h)))))

pub rolls-all : {t : Traced} {m n k j : ℕ} {r : List Place} → Whole t → t.top + m ≤ 64 → Turns m n k → j ≡ m
    → r ≡ drop k (take j (drop t.top t.columns)) ++ take k (take j (drop t.top t.columns))
    → Moved (rolls m n) t (record { tuple = t.tuple; columns = put_mid t.top j t.columns r; top = t.top })
unfolding moved machine
rolls-all {t} {m} {n} {k} {j} {r} w room s e turned =
    let c = t.columns in
    let top = t.top in
    let same : r ≡ drop k (take m (drop top c)) ++ take k (take m (drop top c)) = rw e at turned in
    let less : k ≤ m = omega (arith, s.below) in
    rw e (turned-columns w (roll-most c top m k w.most room less same)
    (ap (λ (l : List Place). record { tuples = t.tuple; columns = l })
    (roll-columns c top m k w.most room less same
    ∙ sym (turned-alike m n k (drop top c) (rw (length-drop, w.most) (omega (arith, room))) s))))
