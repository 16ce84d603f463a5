-- What holds of each element of a list, and of a list that is made of others.
use Rattle.std.specs.Prelude.{◌≡◌, refl, ℕ, zero, suc, Bool, true, drop}
use mathlib.Core.List.{List, [], ◌∷◌, ◌++◌, map, reverse, reverse-cons}
use Rattle.rules.specs.Text.Lists.{all_of}
use Rattle.laws_lists.specs.Tests.{and_left, and_right}

-- what holds of every element of a list
unfoldable pub Every : {A : Type 0} → (A → Type 0) → List A → Type 0
Every P [] = Unit {0}
Every P (x ∷ l) = P x × Every P l

module _ {A : Type 0} (P : A → Type 0) where
  pub every_append : (l m : List A) → Every P l → Every P m → Every P (l ++ m)
  unfolding Every
  every_append [] m h k = k
  every_append (x ∷ l) m h k = (h.0, every_append l m h.1 k)

  pub every-middle : (l : List A) (x : A) (m : List A) → Every P (l ++ (x ∷ m)) → P x
  unfolding Every
  every-middle [] x m h = h.0
  every-middle (y ∷ l) x m h = every-middle l x m h.1

-- a test that follows from another
pub all_so : {A : Type 0} (p q : A → Bool) → ((x : A) → p x ≡ true → q x ≡ true) → (l : List A) → all_of p l ≡ true → all_of q l ≡ true
unfolding all_of
all_so p q f [] h = refl
all_so p q f (x ∷ l) h = rw (f x (and_left (p x) (all_of p l) h)) (all_so p q f l (and_right (p x) (all_of p l) h))

pub all_append : {A : Type 0} (p : A → Bool) (l m : List A) → all_of p l ≡ true → all_of p m ≡ true → all_of p (l ++ m) ≡ true
unfolding all_of
all_append p [] m h k = k
all_append p (x ∷ l) m h k = rw (and_left (p x) (all_of p l) h) (all_append p l m (and_right (p x) (all_of p l) h) k)

pub all-reverse : {A : Type 0} (p : A → Bool) (l : List A) → all_of p l ≡ true → all_of p (reverse l) ≡ true
unfolding all_of
all-reverse p [] e = refl
all-reverse p (x ∷ l) e =
    rw (reverse-cons x l)
    (all_append p (reverse l) (x ∷ []) (all-reverse p l (and_right (p x) _ e)) (rw (and_left (p x) _ e) refl))

-- two functions that agree
pub map_same : {A B : Type 0} (f g : A → B) → ((x : A) → f x ≡ g x) → (l : List A) → map f l ≡ map g l
map_same f g e [] = refl
map_same f g e (x ∷ l) = λ i. e x i ∷ map_same f g e l i

-- what is left of a list, and of what a function makes of it
pub drop-map : {A B : Type 0} (f : A → B) (i : ℕ) (l : List A) → drop i (map f l) ≡ map f (drop i l)
drop-map f zero l = refl
drop-map f (suc i) [] = refl
drop-map f (suc i) (x ∷ l) = drop-map f i l
