-- A loop over a list whose answer is a definition of the whole list: at each turn the answer is that of what is left.
use mathlib.Core.Path.{◌≡◌, refl, sym, ap, ◌∙◌, subst}
use Prim.Native.Nat.{ℕ, suc, ◌+◌, ◌-◌, ◌≤◌, ◌<◌}
use native.Mathlib.Nat.{le_refl}
use mathlib.Core.Bool.{Bool, ◌&&◌, ◌||◌}
use mathlib.Core.List.{List, [], ◌∷◌}
use native.Mathlib.Omega.{arith}
use native.Mathlib.Numerals.{add-one}
use lib.ListN.{length, get_or, take, drop, length-drop, drop_of_length-le}
use lib.Seq.{take_all, drop-cons}
use Rattle.std.specs.List.{list_all, list_any}
use Rattle.rules.specs.Text.Lists.{all_of, any_of}

module _ {A R : Type 0} where
  pub record Rest (f : List A → R) (l : List A) (i : ℕ) (whole : R) : Type 0 where
    pub within : i ≤ length l
    pub same : whole ≡ f (drop i l)

  -- before the first turn
  pub rest_all : (f : List A → R) (l : List A) → Rest f l 0 (f l)
  rest_all f l = record { within = omega arith; same = refl }

  -- a turn, after which the answer may be another definition of what is left
  pub rest-next : {f : List A → R} (g : List A → R) {l : List A} {i : ℕ} {whole : R} (d : A) → Rest f l i whole → i < length l
      → f (get_or l i d ∷ drop (suc i) l) ≡ g (drop (suc i) l) → Rest g l (i + 1) whole
  rest-next {f} g {l} {i} d r h e =
      record {
        within = omega (arith, h);
        same = r.same ∙ ap f (drop-cons l i d h) ∙ e ∙ ap (λ (k : ℕ). g (drop k l)) (sym (add-one i));
      }

  -- the answer is found
  pub rest-here : {f : List A → R} {l : List A} {i : ℕ} {whole b : R} (d : A) → Rest f l i whole → i < length l
      → f (get_or l i d ∷ drop (suc i) l) ≡ b → b ≡ whole
  rest-here {f} {l} {i} d r h e = sym (r.same ∙ ap f (drop-cons l i d h) ∙ e)

  -- nothing is left
  pub rest_end : {f : List A → R} {l : List A} {i : ℕ} {whole : R} → Rest f l i whole → length l ≤ i → f [] ≡ whole
  rest_end {f} {l} {i} r h = sym (r.same ∙ ap f (drop_of_length-le l {i = i} h))

-- ---- what is left of a row

pub rest_of : {A : Type 0} (l : List A) (i : ℕ) → take (length l - i) (drop i l) ≡ drop i l
rest_of l i = take_all (length l - i) (drop i l) (subst (λ (k : ℕ). k ≤ length l - i) (sym (length-drop i l)) (le_refl _))

pub rest-behind : {A : Type 0} (l : List A) (i : ℕ) → take (length l - (i + 1)) (drop (i + 1) l) ≡ drop (suc i) l
rest-behind l i = rest_of l (i + 1) ∙ ap (λ (k : ℕ). drop k l) (add-one i)

-- ---- the library's tests of all and of any

module _ {A : Type 0} where
  pub all_is : (p : A → Bool) (l : List A) → list_all p l ≡ all_of p l
  unfolding all_of
  all_is p [] = refl
  all_is p (x ∷ l) = ap (λ (b : Bool). p x && b) (all_is p l)

  pub any_is : (p : A → Bool) (l : List A) → list_any p l ≡ any_of p l
  unfolding any_of
  any_is p [] = refl
  any_is p (x ∷ l) = ap (λ (b : Bool). p x || b) (any_is p l)
