-- A roll on numbers: three times some columns of the store turned round; and that is what the act does.
use mathlib.Core.Path.{◌≡◌, refl, sym, ap, ◌∙◌, subst}
use Prim.Native.Nat.{ℕ, ◌+◌, ◌-◌, ◌*◌, ◌/◌, ◌<◌, ◌≤◌, max}
use mathlib.Core.Bool.{Bool, true, false, cond}
use mathlib.Core.List.{List, [], ◌++◌}
use native.Mathlib.Omega.{arith}
use borrow.Author.Tests.{ltb-true, ltb-false}
use lib.Dec.{ltb}
use lib.ListN.{length, get_or, take, drop, length-append, length-drop, get_or-append}
use lib.Seq.{length-take-le, get_or-take, get_or-drop, get_or-append-add}
use lib.Ieee.{Float}
use Rattle.rules.specs.Operators.Acts.{rolls}
use Rattle.rules.specs.Pipeline.Columns as columns
use Rattle.rules.specs.Pipeline.Columns.{rolled, takes}
use Rattle.rules.specs.Pipeline.Tuples.{tuples}
use Rattle.laws_steps.specs.Rolls.{turned_top, top-length, rolled-is}
use Rattle.columns.specs.Stores.{col, columns_of, held, Stacked, Reversed}
use Rattle.columns.specs.Machine.{Acted}
use Rattle.columns.proofs.Acted.{acted-so, enough-so}
use Rattle.columns.proofs.InStore.{under, not-over, drop-same, col-same, columns-length, columns-at, columns-are}
use Rattle.stack.specs.Actions.{Turns}
use Rattle.stack.proofs.FullTurns.{turned-alike}

-- ---- three times turned round

-- where the column comes from that stands at j after a roll of the top w, r times
turned_place : ℕ → ℕ → ℕ → ℕ
turned_place j r w = cond (ltb (j + r) w) (j + r) (j + r - w)

module _ {A : Type 0} where
  top-at : (w r j : ℕ) (l : List A) (d : A) → r ≤ w → w ≤ length l → j < w → get_or (turned_top w r l) j d ≡ get_or l (turned_place j r w) d
  unfolding turned_top turned_place
  top-at w r j l d h b g = go (ltb (j + r) w) refl
    where
      Y : List A
      Y = drop r (take w l)

      ly : length Y ≡ w - r
      ly = length-drop r (take w l) ∙ ap (λ (n : ℕ). n - r) (length-take-le w l b)

      go : (t : Bool) → ltb (j + r) w ≡ t → get_or (Y ++ take r l) j d ≡ get_or l (cond t (j + r) (j + r - w)) d
      go true e =
          let f = ltb-true (j + r) w e in
          get_or-append Y (take r l) d j (omega (arith, ly))
          ∙ get_or-drop r (take w l) j d
          ∙ get_or-take w l (r + j) d (omega arith)
          ∙ ap (λ (n : ℕ). get_or l n d) (other r j)
        where
          other : (r j : ℕ) → r + j ≡ j + r
          other r j = omega arith
      go false e =
          let f = ltb-false (j + r) w e in
          let p : j ≡ length Y + (j + r - w) = omega (arith, ly) in
          ap (λ (n : ℕ). get_or (Y ++ take r l) n d) p
          ∙ get_or-append-add Y (take r l) (j + r - w) d
          ∙ get_or-take r l (j + r - w) d (omega arith)

-- places seen from the other end
mirrored : (x y j : ℕ) → x + y - 1 - (x + j) ≡ y - 1 - j
mirrored x y j = omega arith

moved : (d r j : ℕ) → d - r - 1 - j ≡ d - 1 - (j + r)
moved d r j = omega arith

mirror-of : (x d j : ℕ) → j < d → x + d - 1 - (d - 1 - j) ≡ x + j
mirror-of x d j h = omega arith

turned : (d w r j : ℕ) → r ≤ w → w ≤ d → j < w → w ≤ j + r → d - r + d - 1 - (d - w + j) ≡ d - 1 - (j + r - w)
turned d w r j h deep b f = step (d - r) (d - w) (j + r - w) (omega arith)
  where
    step : (y x t : ℕ) → y + t ≡ x + j → y + d - 1 - (x + j) ≡ d - 1 - t
    step y x t e = omega arith

not-below : (x j : ℕ) → x ≤ x + j
not-below x j = omega arith

stays-low : (d w r j : ℕ) → w ≤ d → j + r < w → d - w + j < d - r
stays-low d w r j deep f = omega arith

lower : (d w r j : ℕ) → w ≤ d → j + r < w → d - 1 - (j + r) < d - r
lower d w r j deep f = omega arith

goes-high : (d w r j : ℕ) → r ≤ w → w ≤ d → w ≤ j + r → d - r ≤ d - w + j
goes-high d w r j h deep f = omega arith

within : (d w j : ℕ) → w ≤ d → j < w → d - w + j < d
within d w j deep b = omega arith

module _ (n d w r : ℕ) (s₀ s₁ s₂ s₃ : List Float) (h : r ≤ w) (deep : w ≤ d) (room : d * n ≤ length s₀)
    (one : Reversed n (d - r) d s₀ s₁) (two : Reversed n (d - w) (d - r) s₁ s₂) (three : Reversed n (d - w) d s₂ s₃)
    (l₁ : length s₁ ≡ length s₀) (l₂ : length s₂ ≡ length s₁) (l₃ : length s₃ ≡ length s₂) where
  -- a column below
  below_one : (q : ℕ) → q < d - r → col n q s₁ ≡ col n q s₀
  below_one q b =
      let f = under q (d - r) n b in
      let g = not-over (d - r) d n (omega arith) in
      col-same n q q s₁ s₀ (omega arith) (omega arith) (λ k l. one.below (q * n + k) (omega arith))

  below_two : (q : ℕ) → q < d - w → col n q s₂ ≡ col n q s₁
  below_two q b =
      let f = under q (d - w) n b in
      let g = not-over (d - w) d n (omega arith) in
      col-same n q q s₂ s₁ (omega arith) (omega arith) (λ k l. two.below (q * n + k) (omega arith))

  above-two : (q : ℕ) → d - r ≤ q → q < d → col n q s₂ ≡ col n q s₁
  above-two q a b =
      let f = under q d n b in
      let g = not-over (d - r) q n a in
      col-same n q q s₂ s₁ (omega arith) (omega arith) (λ k l. two.above (q * n + k) (omega arith))

  below-three : (q : ℕ) → q < d - w → col n q s₃ ≡ col n q s₂
  below-three q b =
      let f = under q (d - w) n b in
      let g = not-over (d - w) d n (omega arith) in
      col-same n q q s₃ s₂ (omega arith) (omega arith) (λ k l. three.below (q * n + k) (omega arith))

  -- a column of the top w
  top-col : (j : ℕ) → j < w → col n (d - 1 - j) s₃ ≡ col n (d - 1 - turned_place j r w) s₀
  unfolding turned_place
  top-col j b = three.inside (d - 1 - j) (omega arith) (omega arith) ∙ ap (λ (q : ℕ). col n q s₂) mirror ∙ go (ltb (j + r) w) refl
    where
      mirror : d - w + d - 1 - (d - 1 - j) ≡ d - w + j
      mirror = mirror-of (d - w) d j (omega arith)

      go : (t : Bool) → ltb (j + r) w ≡ t → col n (d - w + j) s₂ ≡ col n (d - 1 - cond t (j + r) (j + r - w)) s₀
      go true e =
          let f = ltb-true (j + r) w e in
          let m : d - w + (d - r) - 1 - (d - w + j) ≡ d - 1 - (j + r) = mirrored (d - w) (d - r) j ∙ moved d r j in
          two.inside (d - w + j) (not-below (d - w) j) (stays-low d w r j deep f) ∙ ap (λ (q : ℕ). col n q s₁) m ∙ below_one (d - 1 - (j + r)) (lower d w r j deep f)
      go false e =
          let f = ltb-false (j + r) w e in
          let m : d - r + d - 1 - (d - w + j) ≡ d - 1 - (j + r - w) = turned d w r j h deep b f in
          above-two (d - w + j) (goes-high d w r j h deep f) (within d w j deep b) ∙ one.inside (d - w + j) (goes-high d w r j h deep f) (within d w j deep b) ∙ ap (λ (q : ℕ). col n q s₀) m

  place-below : (j : ℕ) → j < w → turned_place j r w < d
  unfolding turned_place
  place-below j b = place (ltb (j + r) w) refl
    where
      place : (t : Bool) → ltb (j + r) w ≡ t → cond t (j + r) (j + r - w) < d
      place true e = omega (arith, ltb-true (j + r) w e)
      place false e = omega arith

  pub roll-end : Stacked n d (rolled w r (columns_of n d s₀)) s₀ s₃
  roll-end =
      record {
        columns = columns-are n d s₃ (rolled w r c₀) (ap length is ∙ long) (λ j b. go j b (ltb j w) refl);
        beyond =
            drop-same (d * n) s₀ s₃ (l₃ ∙ l₂ ∙ l₁)
            (λ i l. three.above i l ∙ two.above i (omega (arith, not-over (d - r) d n (omega arith))) ∙ one.above i l);
      }
    where
      c₀ : List (List Float)
      c₀ = columns_of n d s₀

      many : length c₀ ≡ d
      many = columns-length n d s₀

      is : rolled w r c₀ ≡ turned_top w r c₀ ++ drop w c₀
      is = rolled-is w r c₀ h (omega (arith, many))

      top : length (turned_top w r c₀) ≡ w
      top = top-length w r c₀ h (omega (arith, many))

      long : length (turned_top w r c₀ ++ drop w c₀) ≡ d
      long = length-append (turned_top w r c₀) (drop w c₀) ∙ omega (arith, top, length-drop w c₀, many)

      turned-below : (j : ℕ) → turned_place j r w < d → j < w → col n (d - 1 - turned_place j r w) s₀ ≡ get_or c₀ (turned_place j r w) []
      turned-below j b l = sym (columns-at n d (turned_place j r w) s₀ b)

      go : (j : ℕ) → j < d → (t : Bool) → ltb j w ≡ t → col n (d - 1 - j) s₃ ≡ get_or (rolled w r c₀) j []
      go j b true e =
          let l = ltb-true j w e in
          top-col j l
          ∙ turned-below j (place-below j l) l
          ∙ sym (top-at w r j c₀ [] h (omega (arith, many)) l)
          ∙ sym (get_or-append (turned_top w r c₀) (drop w c₀) [] j (omega (arith, top)))
          ∙ ap (λ (z : List (List Float)). get_or z j []) (sym is)
      go j b false e =
          let l = ltb-false j w e in
          let low : d - 1 - j < d - w = omega arith in
          let m : j ≡ length (turned_top w r c₀) + (j - w) = omega (arith, top) in
          let back : w + (j - w) ≡ j = omega arith in
          below-three (d - 1 - j) low
          ∙ below_two (d - 1 - j) low
          ∙ below_one (d - 1 - j) (omega arith)
          ∙ sym (columns-at n d j s₀ b)
          ∙ ap (λ (z : ℕ). get_or c₀ z []) (sym back)
          ∙ sym (get_or-drop w c₀ (j - w) [])
          ∙ sym (get_or-append-add (turned_top w r c₀) (drop w c₀) (j - w) [])
          ∙ ap (λ (z : ℕ). get_or (turned_top w r c₀ ++ drop w c₀) z []) (sym m)
          ∙ ap (λ (z : List (List Float)). get_or z j []) (sym is)

-- ---- the act

pub roll-acted : (w n r d : ℕ) (xs s s' : List Float) → w ≤ d → Turns w n r → Stacked (length xs / 4) d (rolled w r (columns_of (length xs / 4) d s)) s s' → Acted (rolls w n) d xs s xs s'
unfolding held columns.moved takes
roll-acted w n r d xs s s' deep t h =
    let same : max d d ≡ d = omega arith in
    let many : length (columns_of (length xs / 4) d s) ≡ d = columns-length (length xs / 4) d s in
    let all = h.columns ∙ sym (turned-alike w n r (columns_of (length xs / 4) d s) (omega (arith, many)) t) in
    acted-so (rolls w n) d xs s d xs s'
    ((λ i. record { tuples = tuples xs; columns = all i }) ∙ sym (enough-so (rolls w n) d xs s deep))
    (subst (λ (e : ℕ). drop (e * (length xs / 4)) s' ≡ drop (e * (length xs / 4)) s) (sym same) h.beyond)
