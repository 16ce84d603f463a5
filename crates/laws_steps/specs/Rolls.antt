-- A roll of the top w, r times: the first r of them go behind the others.
use Rattle.std.specs.Prelude.{◌≡◌}
use Rattle.std.proofs.Math.Path.{refl, sym, ap}
use Rattle.std.proofs.Common.{◌∙◌, suc-add, zero-add, take-take}
use Prim.Native.Nat.{ℕ, zero, suc, ◌+◌, ◌-◌, ◌≤◌}
use mathlib.Core.List.{List, [], ◌∷◌, ◌++◌, append_assoc}
use native.Mathlib.Omega.{arith}
use Rattle.std.proofs.Math.ListN.{length, take, drop, take-append-drop, length-append, length-drop}
use Rattle.std.proofs.Math.Seq.{length-take-le, take_at, drop_at, drop-length}
use Rattle.rules.specs.Pipeline.Columns.{rolled_once, rolled}

module _ {A : Type 0} where
  -- the first go behind the next, and those below stay
  roll-parts : (w : ℕ) (X Y B : List A) → length X + length Y ≡ w → rolled w (length X) (X ++ (Y ++ B)) ≡ Y ++ (X ++ B)
  unfolding rolled rolled_once
  roll-parts w [] Y B h = refl
  roll-parts w (x ∷ X) Y B h =
      let e : length (X ++ Y) ≡ w - 1 = length-append X Y ∙ omega arith in
      let joined : X ++ (Y ++ B) ≡ (X ++ Y) ++ B = sym (append_assoc X Y B) in
      let once : take (w - 1) (X ++ (Y ++ B)) ++ (x ∷ drop (w - 1) (X ++ (Y ++ B))) ≡ X ++ ((Y ++ (x ∷ [])) ++ B) =
      (λ i. take (w - 1) (joined i) ++ (x ∷ drop (w - 1) (joined i)))
      ∙ (λ i. take_at (X ++ Y) B (w - 1) e i ++ (x ∷ drop_at (X ++ Y) B (w - 1) e i))
      ∙ append_assoc X Y (x ∷ B)
      ∙ ap (λ (z : List A). X ++ z) (sym (append_assoc Y (x ∷ []) B)) in
      ap (rolled w (length X)) once
      ∙ roll-parts w X (Y ++ (x ∷ [])) B (omega (arith, length-append Y (x ∷ [])))
      ∙ append_assoc Y (x ∷ []) (X ++ B)

  -- the top w after a roll
  unfoldable pub turned_top : ℕ → ℕ → List A → List A
  turned_top w r l = drop r (take w l) ++ take r l

  pub top-length : (w r : ℕ) (l : List A) → r ≤ w → w ≤ length l → length (turned_top w r l) ≡ w
  unfolding turned_top
  top-length w r l h b = length-append (drop r (take w l)) (take r l) ∙ omega (arith, length-drop r (take w l), length-take-le w l b, length-take-le r l (omega arith))

  pub rolled-is : (w r : ℕ) (l : List A) → r ≤ w → w ≤ length l → rolled w r l ≡ turned_top w r l ++ drop w l
  unfolding turned_top
  rolled-is w r l h b =
      let X = take r l in
      let Y = drop r (take w l) in
      let lx : length X ≡ r = length-take-le r l (omega arith) in
      let ly : length Y ≡ w - r = length-drop r (take w l) ∙ ap (λ (n : ℕ). n - r) (length-take-le w l b) in
      let parts : l ≡ X ++ (Y ++ drop w l) =
      sym (take-append-drop w l)
      ∙ ap (λ (z : List A). z ++ drop w l) (sym (take-append-drop r (take w l)) ∙ ap (λ (z : List A). z ++ Y) (take-take r w l h))
      ∙ append_assoc X Y (drop w l) in
      ap (λ (n : ℕ). rolled w n l) (sym lx)
      ∙ ap (rolled w (length X)) parts
      ∙ roll-parts w X Y (drop w l) (omega arith)
      ∙ sym (append_assoc Y X (drop w l))

  -- some rolls, and then others
  pub rolled-more : (w q r : ℕ) (l : List A) → rolled w (q + r) l ≡ rolled w r (rolled w q l)
  unfolding rolled
  rolled-more w zero r l = ap (λ (n : ℕ). rolled w n l) (zero-add r)
  rolled-more w (suc q) r l = ap (λ (n : ℕ). rolled w n l) (suc-add q r) ∙ rolled-more w q r (rolled_once w l)

  -- a whole turn
  rolled-whole : (w : ℕ) (l : List A) → w ≤ length l → rolled w w l ≡ l
  unfolding turned_top
  rolled-whole w l b =
      rolled-is w w l (omega arith) b
      ∙ ap (λ (z : List A). (z ++ take w l) ++ drop w l) (none (take w l) (length-take-le w l b))
      ∙ take-append-drop w l
    where
      none : (m : List A) → length m ≡ w → drop w m ≡ []
      none m e = ap (λ (n : ℕ). drop n m) (sym e) ∙ drop-length m

  pub rolled-again : (w r : ℕ) (l : List A) → w ≤ r → w ≤ length l → rolled w r l ≡ rolled w (r - w) l
  rolled-again w r l h b =
      ap (λ (n : ℕ). rolled w n l) (over w r h) ∙ rolled-more w w (r - w) l ∙ ap (rolled w (r - w)) (rolled-whole w l b)
    where
      over : (w r : ℕ) → w ≤ r → r ≡ w + (r - w)
      over w r h = omega (arith, h)
