-- The parameters' table: "Keys come out in byte order", and "a repeated key takes the last value".
use Rattle.std.specs.Prelude.{◌≡◌, ℕ, ◌+◌, ◌≤◌, ◌<◌, Bool, ◌&&◌, ◌||◌, length, eqb, ltb}
use Rattle.std.proofs.Math.Path.{refl, ap}
use Rattle.std.proofs.Common.{sym, ◌∙◌, arith, eqb-true, eq-eqb, ltb-false, lt-ltb}
use Rattle.std.proofs.Math.Bool.{true, false, cond, or-true}
use Rattle.std.proofs.lemmas.Bool.{false≢true, eqb-false}
use mathlib.Core.List.{List, [], ◌∷◌, map}
use Rattle.rules.specs.Text.Ascii.{is}
use Rattle.rules.specs.Text.Lists.{any_of, non_empty}
use Rattle.rules.specs.Text.Bytes.{Bytes, Words, same}
use Rattle.rules.specs.Text.Split.{turned}
use Rattle.rules.specs.Text.Parameters.{Parameter, parameter, name, elements, precedes, entered_by, entered_all_by, entered, entered_all, table_of}
use Rattle.rules.specs.Text.Parameters.{Placed, placed_word, placed_name, placed_words, placed_elements, placed_table}
use Rattle.laws_lists.specs.Tests.{same_self, and_left, and_right, or_left, or_right, same-is}

-- ---- entering, and what keeps the keys

-- To enter a thing, and then to look at each in another way that keeps its key, is to enter it as looked at.
module _ {A B : Type 0} (k : B → Bytes) (f : A → B) where
  pub entered-map : (p : A) (l : List A) → map f (entered_by (λ (x : A). k (f x)) p l) ≡ entered_by k (f p) (map f l)
  unfolding entered_by
  entered-map p [] = refl
  entered-map p (q ∷ l) = go (same (k (f p)) (k (f q))) (precedes (k (f p)) (k (f q))) (entered-map p l)
    where
      go : (c d : Bool) → map f (entered_by (λ (x : A). k (f x)) p l) ≡ entered_by k (f p) (map f l)
          → map f (cond c (p ∷ l) (cond d (p ∷ (q ∷ l)) (q ∷ entered_by (λ (x : A). k (f x)) p l)))
          ≡ cond c (f p ∷ map f l) (cond d (f p ∷ (f q ∷ map f l)) (f q ∷ entered_by k (f p) (map f l)))
      go true d h = refl
      go false true h = refl
      go false false h = ap (λ (r : List B). f q ∷ r) h

  pub entered-all-map : (ps l : List A) → map f (entered_all_by (λ (x : A). k (f x)) ps l) ≡ entered_all_by k (map f ps) (map f l)
  unfolding entered_all_by
  entered-all-map [] l = refl
  entered-all-map (p ∷ ps) l =
      entered-all-map ps (entered_by (λ (x : A). k (f x)) p l) ∙ ap (entered_all_by k (map f ps)) (entered-map p l)

-- ---- where parameters stand, and what they are without their places

abbrev pub given : Placed → Parameter
given q = q.given

pub given-name : (at : ℕ) (w : Bytes) → given (placed_name at w) ≡ cond (any_of (is "=") w) (parameter w) (name w)
unfolding placed_name placed_word
given-name at w = go (any_of (is "=") w)
  where
    go : (b : Bool) → given (cond b (placed_word at w) (record { given = name w; at = at })) ≡ cond b (parameter w) (name w)
    go true = refl
    go false = refl

given-words : (at : ℕ) (ws : Words) → map given (placed_words at ws) ≡ map parameter ws
unfolding placed_words placed_word
given-words at [] = refl
given-words at (w ∷ ws) = ap (λ (l : List Parameter). parameter w ∷ l) (given-words (at + length w + 1) ws)

pub given-elements : (ws : Words) → map given (placed_elements ws) ≡ elements ws
unfolding placed_elements elements
given-elements [] = refl
given-elements (w ∷ ws) =
    ap (λ (p : Parameter). p ∷ map given (placed_words (length w + 1) ws)) (given-name 0 w)
    ∙ ap (λ (l : List Parameter). cond (any_of (is "=") w) (parameter w) (name w) ∷ l) (given-words (length w + 1) ws)

pub given-all : (qs l : List Placed) → map given (entered_all_by (λ (q : Placed). q.given.key) qs l) ≡ entered_all (map given qs) (map given l)
given-all qs l = entered-all-map (λ (p : Parameter). p.key) given qs l

pub given-table : (ws : Words) → map given (placed_table ws) ≡ table_of ws
unfolding placed_table table_of
given-table ws = given-all (placed_elements (turned ws)) [] ∙ ap (λ (ps : List Parameter). entered_all ps []) (given-elements (turned ws))

-- ---- the order

-- two keys are the same, or one precedes the other
total : (a b : Bytes) → same a b ≡ false → precedes a b ≡ false → precedes b a ≡ true
unfolding same precedes
total [] [] e f = absurd (false≢true (sym e))
total [] (y ∷ b) e f = absurd (false≢true (sym f))
total (x ∷ a) [] e f = refl
total (x ∷ a) (y ∷ b) e f =
    let l : y ≤ x = ltb-false x y (or_left (ltb x y) (eqb x y && precedes a b) f) in
    go (eqb x y) refl e (or_right (ltb x y) (eqb x y && precedes a b) f) (total a b) l
  where
    go : (c : Bool) → eqb x y ≡ c → c && same a b ≡ false → c && precedes a b ≡ false
        → (same a b ≡ false → precedes a b ≡ false → precedes b a ≡ true) → y ≤ x → ltb y x || (eqb y x && precedes b a) ≡ true
    go true q s p h l = rw (eq-eqb y x (sym (eqb-true x y q)), h s p) (or-true (ltb y x))
    go false q s p h l = let n = eqb-false x y q in let k : y < x = omega arith in rw (lt-ltb y x k)

-- is each key before the next?
unfoldable pub ordered : List Parameter → Bool
ordered [] = true
ordered (p ∷ []) = true
ordered (p ∷ q ∷ l) = precedes p.key q.key && ordered (q ∷ l)

-- a parameter at the front of an ordered table, or none
unfoldable pub below : Bytes → List Parameter → Bool
below k [] = true
below k (q ∷ l) = precedes k q.key

ordered-cons : (p : Parameter) (l : List Parameter) → below p.key l ≡ true → ordered l ≡ true → ordered (p ∷ l) ≡ true
unfolding ordered below
ordered-cons p [] b o = refl
ordered-cons p (q ∷ l) b o = rw b o

ordered-below : (p : Parameter) (l : List Parameter) → ordered (p ∷ l) ≡ true → below p.key l ≡ true
unfolding ordered below
ordered-below p [] o = refl
ordered-below p (q ∷ l) o = and_left (precedes p.key q.key) (ordered (q ∷ l)) o

ordered-rest : (p : Parameter) (l : List Parameter) → ordered (p ∷ l) ≡ true → ordered l ≡ true
unfolding ordered
ordered-rest p [] o = refl
ordered-rest p (q ∷ l) o = and_right (precedes p.key q.key) (ordered (q ∷ l)) o

entered_below : (k : Bytes) (p : Parameter) (l : List Parameter) → precedes k p.key ≡ true → below k l ≡ true → below k (entered p l) ≡ true
unfolding below entered_by
entered_below k p [] b h = b
entered_below k p (q ∷ l) b h = go (same p.key q.key) (precedes p.key q.key)
  where
    go : (c d : Bool) → below k (cond c (p ∷ l) (cond d (p ∷ (q ∷ l)) (q ∷ entered p l))) ≡ true
    go true d = b
    go false true = b
    go false false = h

pub entered-ordered : (p : Parameter) (l : List Parameter) → ordered l ≡ true → ordered (entered p l) ≡ true
unfolding entered_by
entered-ordered p [] o = unfold ordered in refl
entered-ordered p (q ∷ l) o = go (same p.key q.key) (precedes p.key q.key) refl refl (entered-ordered p l (ordered-rest q l o))
  where
    go : (c d : Bool) → same p.key q.key ≡ c → precedes p.key q.key ≡ d → ordered (entered p l) ≡ true
        → ordered (cond c (p ∷ l) (cond d (p ∷ (q ∷ l)) (q ∷ entered p l))) ≡ true
    go true d e f h = ordered-cons p l (rw (same-is p.key q.key e) (ordered-below q l o)) (ordered-rest q l o)
    go false true e f h = ordered-cons p (q ∷ l) (unfold below in f) o
    go false false e f h = ordered-cons q (entered p l) (entered_below q.key p l (total p.key q.key e f) (ordered-below q l o)) h

-- "Keys come out in byte order."
pub table-ordered : (ps l : List Parameter) → ordered l ≡ true → ordered (entered_all ps l) ≡ true
unfolding entered_all_by
table-ordered [] l o = o
table-ordered (p ∷ ps) l o = table-ordered ps (entered p l) (entered-ordered p l o)

-- ---- the values

-- a key's value in a table: none, or one
unfoldable pub find : Bytes → List Parameter → List Bytes
find k [] = []
find k (q ∷ l) = cond (same q.key k) (q.value ∷ []) (find k l)

-- the last of the values that a key was given
unfoldable pub last_value : Bytes → List Parameter → List Bytes
last_value k [] = []
last_value k (p ∷ ps) = cond (non_empty (last_value k ps)) (last_value k ps) (cond (same p.key k) (p.value ∷ []) [])

twice : (b : Bool) (v w r : List Bytes) → cond b v r ≡ cond b v (cond b w r)
twice true v w r = refl
twice false v w r = refl

swapped : (p q k : Bytes) (v w r : List Bytes) → same p q ≡ false → (a b : Bool) → same p k ≡ a → same q k ≡ b → cond b w (cond a v r) ≡ cond a v (cond b w r)
swapped p q k v w r n true true e f =
    let x : p ≡ q = same-is p k e ∙ sym (same-is q k f) in
    let y : same q q ≡ false = rw x at n in
    absurd (false≢true (sym y ∙ same_self q))
swapped p q k v w r n true false e f = refl
swapped p q k v w r n false true e f = refl
swapped p q k v w r n false false e f = refl

pub entered-find : (k : Bytes) (p : Parameter) (l : List Parameter) → find k (entered p l) ≡ cond (same p.key k) (p.value ∷ []) (find k l)
unfolding entered_by find
entered-find k p [] = refl
entered-find k p (q ∷ l) = go (same p.key q.key) (precedes p.key q.key) refl (entered-find k p l)
  where
    go : (c d : Bool) → same p.key q.key ≡ c → find k (entered p l) ≡ cond (same p.key k) (p.value ∷ []) (find k l)
        → find k (cond c (p ∷ l) (cond d (p ∷ (q ∷ l)) (q ∷ entered p l))) ≡ cond (same p.key k) (p.value ∷ []) (cond (same q.key k) (q.value ∷ []) (find k l))
    go true d e h =
        let s : same q.key k ≡ same p.key k = ap (λ (x : Bytes). same x k) (sym (same-is p.key q.key e)) in
        rw s (twice (same p.key k) (p.value ∷ []) (q.value ∷ []) (find k l))
    go false true e h = refl
    go false false e h = rw h (swapped p.key q.key k (p.value ∷ []) (q.value ∷ []) (find k l) e (same p.key k) (same q.key k) refl refl)

-- "a repeated key takes the last value"; a key that is not given keeps what the table had
pub table-last : (k : Bytes) (ps l : List Parameter) → find k (entered_all ps l) ≡ cond (non_empty (last_value k ps)) (last_value k ps) (find k l)
unfolding entered_all_by last_value non_empty
table-last k [] l = refl
table-last k (p ∷ ps) l = table-last k ps (entered p l) ∙ rw (entered-find k p l) (go (last_value k ps) (same p.key k))
  where
    go : (v : List Bytes) (b : Bool) → cond (non_empty v) v (cond b (p.value ∷ []) (find k l))
        ≡ cond (non_empty (cond (non_empty v) v (cond b (p.value ∷ []) []))) (cond (non_empty v) v (cond b (p.value ∷ []) [])) (find k l)
    go [] true = refl
    go [] false = refl
    go (w ∷ v) b = refl
