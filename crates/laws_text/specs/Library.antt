-- The tests over a list are mathlib's `any` and `all`. No other module can unfold those two, so they are known by what mathlib proves
-- of them: that one of the list passes, and that each does.
use Rattle.std.specs.Prelude.{◌≡◌, Bool, true, false, ◌||◌}
use Rattle.std.proofs.Math.Path.{refl, subst}
use Rattle.std.proofs.Common.{sym}
use Rattle.std.proofs.Math.Logic.Or
use Rattle.std.proofs.Math.Logic.{∥∥₁_elim, ∥∥₁_map}
use Rattle.std.proofs.Math.Bool.{So, So-prop, and-eq-true_iff, or-eq-true_iff}
use Rattle.std.proofs.lemmas.Bool.{false≢true}
use mathlib.Core.List.{List, [], ◌∷◌, Mem, not-mem-nil, mem-cons_self, mem-cons_of_mem, eq-or-mem_of_mem-cons, any, all, any-eq-true, all-eq-true}
use Rattle.rules.specs.Text.Lists.{any_of, all_of}

-- two tests that pass together are the same
alike : (a b : Bool) → (So a → So b) → (So b → So a) → a ≡ b
alike true b f g = sym (f refl)
alike false true f g = g refl
alike false false f g = refl

module _ {A : Type 0} (test : A → Bool) where
  one_passes : (l : List A) → So (any_of test l) → ∥ ((x : A) × Mem x l × So (test x)) ∥₁
  unfolding any_of
  one_passes [] e = absurd (false≢true e)
  one_passes (y ∷ l) e =
      Or.elim squash₁ ((or-eq-true_iff (test y) (any_of test l)).0 e) (λ q. ∣ (y, mem-cons_self, q) ∣₁)
      (λ q. ∥∥₁_map (one_passes l q) (λ w. (w.0, mem-cons_of_mem y w.1, w.2)))

  passes-one : (l : List A) (x : A) → Mem x l → So (test x) → So (any_of test l)
  unfolding any_of
  passes-one [] x m e = absurd (not-mem-nil m)
  passes-one (y ∷ l) x m e =
      Or.elim (So-prop (test y || any_of test l)) (eq-or-mem_of_mem-cons m)
      (λ q. (or-eq-true_iff (test y) (any_of test l)).1 (Or.inl (subst (λ (z : A). So (test z)) q e)))
      (λ n. (or-eq-true_iff (test y) (any_of test l)).1 (Or.inr (passes-one l x n e)))

  pub any-is : (l : List A) → any_of test l ≡ any l test
  any-is l =
      alike (any_of test l) (any l test) (λ e. any-eq-true.1 (one_passes l e))
      (λ e. ∥∥₁_elim (any-eq-true.0 e) (So-prop (any_of test l)) (λ w. passes-one l w.0 w.1 w.2))

  each-passes : (l : List A) → So (all_of test l) → (x : A) → Mem x l → So (test x)
  unfolding all_of
  each-passes [] e x m = absurd (not-mem-nil m)
  each-passes (y ∷ l) e x m =
      Or.elim (So-prop (test x)) (eq-or-mem_of_mem-cons m)
      (λ q. subst (λ (z : A). So (test z)) (sym q) ((and-eq-true_iff (test y) (all_of test l)).0 e).0)
      (λ n. each-passes l ((and-eq-true_iff (test y) (all_of test l)).0 e).1 x n)

  passes-each : (l : List A) → ((x : A) → Mem x l → So (test x)) → So (all_of test l)
  unfolding all_of
  passes-each [] f = refl
  passes-each (y ∷ l) f = (and-eq-true_iff (test y) (all_of test l)).1 (f y mem-cons_self, passes-each l (λ x m. f x (mem-cons_of_mem y m)))

  pub all-is : (l : List A) → all_of test l ≡ all l test
  all-is l = alike (all_of test l) (all l test) (λ e. all-eq-true.1 (each-passes l e)) (λ e. passes-each l (all-eq-true.0 e))
