-- What parameters in a step's text become as they are entered into a table: of each key the last, and nothing else. For a table is in byte order, so that no key
-- stands in it twice.
use Rattle.std.specs.Prelude.{◌≡◌, ◌<◌, Bool, cond, ◌&&◌, ◌||◌, eqb, ltb}
use Rattle.std.proofs.Math.Path.{refl, sym, ap}
use Rattle.std.proofs.Common.{◌∙◌, arith, eqb-true, eq-eqb, ltb-true, lt-ltb, le-ltb}
use Rattle.std.proofs.Math.Bool.{true, false, or-true}
use Rattle.std.proofs.lemmas.Bool.{false≢true}
use mathlib.Core.List.{List, [], ◌∷◌, ◌++◌, map}
use Rattle.rules.specs.Text.Lists.{any_of}
use Rattle.rules.specs.Text.Bytes.{Bytes, same}
use Rattle.rules.specs.Text.Parameters.{Parameter, Placed, precedes, entered_by, entered_all_by}
use Rattle.laws_lists.specs.Tests.{same_self, same-is, and_left, and_right, or_left, or_right}
use Rattle.laws_lists.specs.Lists.{Every}
use Rattle.laws_text.specs.Table.{given, entered-map, ordered, entered-ordered}

-- ---- the order of keys

precedes-not : (a : Bytes) → precedes a a ≡ false
unfolding precedes
precedes-not [] = refl
precedes-not (x ∷ a) = rw (le-ltb x x (omega arith), eq-eqb x x refl) (precedes-not a)

precedes-on : (a b c : Bytes) → precedes a b ≡ true → precedes b c ≡ true → precedes a c ≡ true
unfolding precedes
precedes-on [] [] c e f = absurd (false≢true e)
precedes-on [] (y ∷ b) [] e f = absurd (false≢true f)
precedes-on [] (y ∷ b) (z ∷ c) e f = refl
precedes-on (x ∷ a) [] c e f = absurd (false≢true e)
precedes-on (x ∷ a) (y ∷ b) [] e f = absurd (false≢true f)
precedes-on (x ∷ a) (y ∷ b) (z ∷ c) e f = go (ltb x y) (ltb y z) refl refl e f (precedes-on a b c)
  where
    less : x < z → ltb x z || (eqb x z && precedes a c) ≡ true
    less h = rw (lt-ltb x z h)

    go : (p q : Bool) → ltb x y ≡ p → ltb y z ≡ q → p || (eqb x y && precedes a b) ≡ true → q || (eqb y z && precedes b c) ≡ true
        → (precedes a b ≡ true → precedes b c ≡ true → precedes a c ≡ true) → ltb x z || (eqb x z && precedes a c) ≡ true
    go true true h k e f on = let i = ltb-true x y h in let j = ltb-true y z k in less (omega arith)
    go true false h k e f on = let i = ltb-true x y h in let j = eqb-true y z (and_left (eqb y z) (precedes b c) f) in less (omega arith)
    go false true h k e f on = let i = eqb-true x y (and_left (eqb x y) (precedes a b) e) in let j = ltb-true y z k in less (omega arith)
    go false false h k e f on =
        let i = eqb-true x y (and_left (eqb x y) (precedes a b) e) in
        let j = eqb-true y z (and_left (eqb y z) (precedes b c) f) in
        let r = on (and_right (eqb x y) (precedes a b) e) (and_right (eqb y z) (precedes b c) f) in
        rw (eq-eqb x z (i ∙ j), r) (or-true (ltb x z))

-- a key is none that it precedes
other_key : (a b : Bytes) → precedes a b ≡ true → same b a ≡ false
other_key a b e = go (same b a) refl
  where
    go : (c : Bool) → same b a ≡ c → c ≡ false
    go true h = absurd (false≢true (sym (precedes-not a) ∙ ap (precedes a) (sym (same-is b a h)) ∙ e))
    go false h = refl

same_not : (a b : Bytes) → same a b ≡ false → same b a ≡ false
same_not a b e = go (same b a) refl
  where
    go : (c : Bool) → same b a ≡ c → c ≡ false
    go true h = absurd (false≢true (sym e ∙ ap (λ (k : Bytes). same k b) (sym (same-is b a h)) ∙ same_self b))
    go false h = refl

-- ---- tables of parameters in their places

abbrev pub key_of : Placed → Bytes
key_of q = q.given.key

abbrev Sorted : List Placed → Type 0
Sorted l = ordered (map given l) ≡ true

entered-sorted : (p : Placed) (l : List Placed) → Sorted l → Sorted (entered_by key_of p l)
entered-sorted p l s = rw (entered-map (λ (q : Parameter). q.key) given p l) (entered-ordered (given p) (map given l) s)

sorted_rest : (q : Placed) (l : List Placed) → Sorted (q ∷ l) → Sorted l
unfolding ordered
sorted_rest q [] s = refl
sorted_rest q (r ∷ l) s = and_right (precedes (key_of q) (key_of r)) (ordered (given r ∷ map given l)) s

-- the first key precedes all others, and so does what precedes it
Above : Bytes → List Placed → Type 0
Above k l = Every (λ (q : Placed). precedes k (key_of q) ≡ true) l

above_on : (j k : Bytes) (l : List Placed) → precedes j k ≡ true → Above k l → Above j l
unfolding Above Every
above_on j k [] e h = tt
above_on j k (q ∷ l) e h = (precedes-on j k (key_of q) e h.0, above_on j k l e h.1)

sorted-above : (q : Placed) (l : List Placed) → Sorted (q ∷ l) → Above (key_of q) l
unfolding Above Every ordered
sorted-above q [] s = tt
sorted-above q (r ∷ l) s =
    let e = and_left (precedes (key_of q) (key_of r)) (ordered (given r ∷ map given l)) s in
    (e, above_on (key_of q) (key_of r) l e (sorted-above r l (sorted_rest q (r ∷ l) s)))

-- What holds of every parameter in a table, told in other words: of the one entered, and of those with another key.
module _ (P Q : Placed → Type 0) (p : Placed) (new : Q p) (old : (q : Placed) → same (key_of q) (key_of p) ≡ false → P q → Q q) where
  above-every : (l : List Placed) → Above (key_of p) l → Every P l → Every Q l
  unfolding Above Every
  above-every [] a h = tt
  above-every (q ∷ l) a h = (old q (other_key (key_of p) (key_of q) a.0) h.0, above-every l a.1 h.1)

  entered-every : (l : List Placed) → Sorted l → Every P l → Every Q (entered_by key_of p l)
  unfolding entered_by Every
  entered-every [] s h = (new, tt)
  entered-every (q ∷ l) s h = go (same (key_of p) (key_of q)) (precedes (key_of p) (key_of q)) refl refl (entered-every l (sorted_rest q l s) h.1)
    where
      go : (c d : Bool) → same (key_of p) (key_of q) ≡ c → precedes (key_of p) (key_of q) ≡ d → Every Q (entered_by key_of p l)
          → Every Q (cond c (p ∷ l) (cond d (p ∷ (q ∷ l)) (q ∷ entered_by key_of p l)))
      go true d e f r = (new, above-every l (rw (same-is (key_of p) (key_of q) e) (sorted-above q l s)) h.1)
      go false true e f r = (new, (old q (other_key (key_of p) (key_of q) f) h.0, above-every l (above_on (key_of p) (key_of q) l f (sorted-above q l s)) h.1))
      go false false e f r = (old q (same_not (key_of p) (key_of q) e) h.0, r)

-- ---- of each key the last

-- has none of them that key?
abbrev pub Lacks : Bytes → List Placed → Type 0
Lacks k qs = any_of (λ (q : Placed). same k (key_of q)) qs ≡ false

-- what holds of each of them whose key is not given again behind it
unfoldable pub EachLast : (Placed → Type 0) → List Placed → Type 0
EachLast P [] = Unit {0}
EachLast P (q ∷ qs) = (Lacks (key_of q) qs → P q) × EachLast P qs

-- holds of all that is in the table
lacks_both : (k : Bytes) (q : Placed) (qs : List Placed) → same k (key_of q) ≡ false → Lacks k qs → Lacks k (q ∷ qs)
unfolding any_of
lacks_both k q qs e f = rw e f

every-so : (P Q : Placed → Type 0) → ((q : Placed) → P q → Q q) → (l : List Placed) → Every P l → Every Q l
unfolding Every
every-so P Q f [] h = tt
every-so P Q f (q ∷ l) h = (f q h.0, every-so P Q f l h.1)

from_last : (P : Placed → Type 0) (qs l : List Placed) → Sorted l → EachLast P qs → Every (λ (q : Placed). Lacks (key_of q) qs → P q) l
    → Every P (entered_all_by key_of qs l)
unfolding entered_all_by EachLast
from_last P [] l s e h = every-so (λ (q : Placed). Lacks (key_of q) [] → P q) P (λ q f. f (unfold any_of in refl)) l h
from_last P (q ∷ qs) l s e h =
    from_last P qs (entered_by key_of q l) (entered-sorted q l s) e.1
    (entered-every (λ (r : Placed). Lacks (key_of r) (q ∷ qs) → P r) (λ (r : Placed). Lacks (key_of r) qs → P r) q e.0
    (λ r d f k. f (lacks_both (key_of r) q qs d k)) l s h)

pub table-last-only : (P : Placed → Type 0) (qs : List Placed) → EachLast P qs → Every P (entered_all_by key_of qs [])
table-last-only P qs e = from_last P qs [] (unfold ordered in refl) e (unfold Every in tt)

-- And each of them is there: what is so of one with this key stays so of some one.
module _ (test : Placed → Bool) (k : Bytes) (only : (q : Placed) → test q ≡ true → k ≡ key_of q) where
  entered-stays : (p : Placed) (l : List Placed) → same k (key_of p) ≡ false → any_of test l ≡ true → any_of test (entered_by key_of p l) ≡ true
  unfolding entered_by any_of
  entered-stays p [] e h = absurd (false≢true h)
  entered-stays p (q ∷ l) e h = go (same (key_of p) (key_of q)) (precedes (key_of p) (key_of q)) (test q) refl refl h (entered-stays p l e)
    where
      go : (c d b : Bool) → same (key_of p) (key_of q) ≡ c → test q ≡ b → b || any_of test l ≡ true → (any_of test l ≡ true → any_of test (entered_by key_of p l) ≡ true)
          → any_of test (cond c (p ∷ l) (cond d (p ∷ (q ∷ l)) (q ∷ entered_by key_of p l))) ≡ true
      go true d true f t h r =
          absurd (false≢true (sym e ∙ ap (λ (j : Bytes). same j (key_of p)) (only q t ∙ sym (same-is (key_of p) (key_of q) f)) ∙ same_self (key_of p)))
      go true d false f t h r = rw h (or-true (test p))
      go false true b f t h r = rw (t, h) (or-true (test p))
      go false false true f t h r = rw t
      go false false false f t h r = rw (t, r h)

  entered-all-stays : (qs l : List Placed) → Lacks k qs → any_of test l ≡ true → any_of test (entered_all_by key_of qs l) ≡ true
  unfolding entered_all_by any_of
  entered-all-stays [] l e h = h
  entered-all-stays (q ∷ qs) l e h =
      entered-all-stays qs (entered_by key_of q l) (or_right (same k (key_of q)) (any_of (λ (r : Placed). same k (key_of r)) qs) e)
      (entered-stays q l (or_left (same k (key_of q)) (any_of (λ (r : Placed). same k (key_of r)) qs) e) h)

entered-there : (test : Placed → Bool) (p : Placed) (l : List Placed) → test p ≡ true → any_of test (entered_by key_of p l) ≡ true
unfolding entered_by any_of
entered-there test p [] h = rw h
entered-there test p (q ∷ l) h = go (same (key_of p) (key_of q)) (precedes (key_of p) (key_of q)) (entered-there test p l h)
  where
    go : (c d : Bool) → any_of test (entered_by key_of p l) ≡ true → any_of test (cond c (p ∷ l) (cond d (p ∷ (q ∷ l)) (q ∷ entered_by key_of p l))) ≡ true
    go true d r = rw h
    go false true r = rw h
    go false false r = rw r (or-true (test q))

pub last-there : (test : Placed → Bool) (front : List Placed) (q : Placed) (rest l : List Placed) → ((r : Placed) → test r ≡ true → key_of q ≡ key_of r)
    → Lacks (key_of q) rest → test q ≡ true → any_of test (entered_all_by key_of (front ++ (q ∷ rest)) l) ≡ true
unfolding entered_all_by
last-there test [] q rest l only e h = entered-all-stays test (key_of q) only rest (entered_by key_of q l) e (entered-there test q l h)
last-there test (p ∷ front) q rest l only e h = last-there test front q rest (entered_by key_of p l) only e h
