-- Two words of `adapt` make eight arguments that keep their rule: the places of one order of four in another are an order
-- of four again. Of the sizes alone that is a finite table, which is computed.
use Rattle.std.specs.Prelude.{◌≡◌, refl, ℕ, suc, ◌+◌, ◌*◌, ◌≤◌, false, cond, not, ◌&&◌, ◌||◌, List, [], ◌∷◌, length, eqb, pos, Option, None, Some}
use Rattle.std.proofs.Math.Bool.{Bool, true}
use Rattle.std.proofs.lemmas.Bool.{false≢true}
use Rattle.std.proofs.Common.{arith, leb-true, le-leb, eqb-true, eq-eqb, lit≤}
use Rattle.std.proofs.Math.Dec.{leb}
use Rattle.std.proofs.Math.IntN.{ℤ}
use Rattle.rules.specs.Text.Ascii.{ascii}
use Rattle.rules.specs.Text.Lists.{all_of, any_of}
use Rattle.rules.specs.Text.Bytes.{Bytes, same}
use Rattle.rules.specs.Text.Decimal.{signed, minus}
use Rattle.rules.specs.Operators.Descriptions.{Operator, Adapt}
use Rattle.rules.specs.Operators.Arguments.{size, arg, is_distinct, is_order}
use Rattle.rules.specs.Operators.Adapt.{is_code, is_adapt, Word, ending, word_of, word, position, output_of, angles, combined, word_given, between}
use Rattle.rules.specs.Operators.Table.{is_args}
use Rattle.rules.specs.Pipeline.Record.{nine_digits}
use Rattle.laws_lists.specs.Lists.{all_so, all_append}
use Rattle.laws_lists.specs.Tests.{and_left, and_right, never, below, below_at}
use Rattle.laws_records.specs.Series.{size-signed}
use Rattle.laws_records.specs.Kept.{Kept}

-- ---- the table

-- four sizes are an order
unfoldable pub order4 : ℕ → ℕ → ℕ → ℕ → Bool
order4 a b c d = is_order (pos a ∷ pos b ∷ pos c ∷ pos d ∷ [])

-- the places of e, f, g, h among a, b, c, d are one
places4 : (a b c d e f g h : ℕ) → Bool
places4 a b c d e f g h =
    let l = pos a ∷ pos b ∷ pos c ∷ pos d ∷ [] in
    order4 (position 1 e l) (position 1 f l) (position 1 g l) (position 1 h l)

-- every four numbers up to m
unfoldable pub up_to : ℕ → (ℕ → ℕ → ℕ → ℕ → Bool) → Bool
up_to m test = below (suc m) (λ a. below (suc m) (λ b. below (suc m) (λ c. below (suc m) (λ d. test a b c d))))

pub up_to-at : (m : ℕ) (test : ℕ → ℕ → ℕ → ℕ → Bool) → up_to m test ≡ true
    → (a b c d : ℕ) → a ≤ m → b ≤ m → c ≤ m → d ≤ m → test a b c d ≡ true
unfolding up_to
up_to-at m test h a b c d ha hb hc hd =
    let n = suc m in
    let r = below_at n (λ a. below n (λ b. below n (λ c. below n (λ d. test a b c d)))) h a (omega arith) in
    below_at n _ (below_at n _ (below_at n _ r b (omega arith)) c (omega arith)) d (omega arith)

-- if the first test is passed, the second is
so : Bool → Bool → Bool
so true b = b
so false b = true

so-at : (a b : Bool) → so a b ≡ true → a ≡ true → b ≡ true
unfolding so
so-at true b h e = h
so-at false b h e = absurd (false≢true e)

row : (a b c d : ℕ) → Bool
row a b c d = up_to 4 (λ e f g h. so (order4 e f g h) (places4 a b c d e f g h))

table : up_to 4 (λ a b c d. let r = row a b c d in so (order4 a b c d) r) ≡ true
unfolding below up_to order4 places4 so row position is_order is_distinct all_of any_of
table = refl

-- ---- orders

-- each size of an order is from 1 to its length, and that is at most 4
order-each : (l : List ℤ) → is_order l ≡ true → (length l ≤ 4) × (all_of (λ (x : ℤ). leb 1 (size x) && leb (size x) (length l)) l ≡ true)
unfolding is_order
order-each l h =
    let B = leb (length l) 4 in
    let C = all_of (λ (x : ℤ). leb 1 (size x) && leb (size x) (length l)) l in
    let r = and_right (leb 1 (length l)) (B && (C && is_distinct l)) h in
    (leb-true (length l) 4 (and_left B (C && is_distinct l) r), and_left C (is_distinct l) (and_right B (C && is_distinct l) r))

-- so it has nine digits at most
pub order-nines : (l : List ℤ) → is_order l ≡ true → all_of nine_digits l ≡ true
unfolding nine_digits
order-nines l h =
    let e = order-each l h in
    all_so (λ (x : ℤ). leb 1 (size x) && leb (size x) (length l)) nine_digits
    (λ x k. let m = leb-true (size x) (length l) (and_right (leb 1 (size x)) (leb (size x) (length l)) k) in le-leb (size x) 999999999 (omega (arith, e.0)))
    l e.1

-- a size from 1 to 4
pub record Sized (x : ℤ) : Type 0 where
  pub least : 1 ≤ size x
  pub most : size x ≤ 4

sized : (x : ℤ) → (leb 1 (size x) && leb (size x) 4) ≡ true → Sized x
sized x k =
    record {
      least = leb-true 1 (size x) (and_left (leb 1 (size x)) (leb (size x) 4) k);
      most = leb-true (size x) 4 (and_right (leb 1 (size x)) (leb (size x) 4) k);
    }

module _ (a b c d : ℤ) (h : is_order (a ∷ b ∷ c ∷ d ∷ []) ≡ true) where
  -- an order is a matter of sizes alone
  pub order-sizes : order4 (size a) (size b) (size c) (size d) ≡ true
  unfolding order4 is_order is_distinct all_of any_of
  order-sizes = h

  -- its four sizes are from 1 to 4
  pub order-sized : Sized a × Sized b × Sized c × Sized d
  unfolding all_of
  order-sized =
      let w : ℤ → Bool = λ x. leb 1 (size x) && leb (size x) 4 in
      let h1 = (order-each (a ∷ b ∷ c ∷ d ∷ []) h).1 in
      let h2 = and_right (w a) (w b && (w c && (w d && true))) h1 in
      let h3 = and_right (w b) (w c && (w d && true)) h2 in
      let h4 = and_right (w c) (w d && true) h3 in
      (sized a (and_left (w a) _ h1), sized b (and_left (w b) _ h2), sized c (and_left (w c) _ h3), sized d (and_left (w d) true h4))

-- the sign does not matter
pub signed-order : (s t u v : Bool) (a b c d : ℕ) → order4 a b c d ≡ true → is_order (signed s a ∷ signed t b ∷ signed u c ∷ signed v d ∷ []) ≡ true
unfolding order4 is_order is_distinct all_of any_of
signed-order s t u v a b c d h = rw (size-signed s a, size-signed t b, size-signed u c, size-signed v d) h

-- the places of one order in another are an order
places-order : (a b c d e f g h : ℤ) → is_order (a ∷ b ∷ c ∷ d ∷ []) ≡ true → is_order (e ∷ f ∷ g ∷ h ∷ []) ≡ true
    → (let l = a ∷ b ∷ c ∷ d ∷ [] in order4 (position 1 (size e) l) (position 1 (size f) l) (position 1 (size g) l) (position 1 (size h) l) ≡ true)
unfolding places4 row position
places-order a b c d e f g h p q =
    let s = order-sized a b c d p in
    let t = order-sized e f g h q in
    let r : row (size a) (size b) (size c) (size d) ≡ true =
    so-at (order4 (size a) (size b) (size c) (size d)) _ (up_to-at 4 _ table (size a) (size b) (size c) (size d) s.0.most s.1.most s.2.most s.3.most) (order-sizes a b c d p) in
    so-at (order4 (size e) (size f) (size g) (size h)) _ (up_to-at 4 _ r (size e) (size f) (size g) (size h) t.0.most t.1.most t.2.most t.3.most) (order-sizes e f g h q)

-- ---- two words

-- the outputs of two words
abbrev pub outs : Word → Word → List ℤ
outs v w = output_of v w 1 ∷ output_of v w 2 ∷ output_of v w 3 ∷ output_of v w 4 ∷ []

-- a word that is read has four axes in an order, and one of the three angles
pub record IsWord (w : Word) : Type 0 where
  pub four : length w.axes ≡ 4
  pub ordered : is_order w.axes ≡ true
  pub angle-small : w.angle ≤ 2

pub four-list : (l : List ℤ) → length l ≡ 4 → (a : ℤ) × (b : ℤ) × (c : ℤ) × (d : ℤ) × (l ≡ a ∷ b ∷ c ∷ d ∷ [])
four-list [] h = absurd (never (cc h))
four-list (a ∷ []) h = absurd (never (cc h))
four-list (a ∷ b ∷ []) h = absurd (never (cc h))
four-list (a ∷ b ∷ c ∷ []) h = absurd (never (cc h))
four-list (a ∷ b ∷ c ∷ d ∷ []) h = (a, b, c, d, refl)
four-list (a ∷ b ∷ c ∷ d ∷ e ∷ l) h = absurd (None (length l) h)
  where
    None : (n : ℕ) → suc (suc (suc (suc (suc n)))) ≡ 4 → ⊥
    None n h = omega arith

-- the places of one word's axes in the other are an order
pub words-order : (v w : Word) → IsWord v → IsWord w
    → (let at : ℕ → ℕ = λ i. position 1 (size (arg i w.axes)) v.axes in order4 (at 1) (at 2) (at 3) (at 4) ≡ true)
unfolding arg
words-order v w p q =
    let l = four-list v.axes p.four in
    let m = four-list w.axes q.four in
    let P : is_order (l.0 ∷ l.1 ∷ l.2 ∷ l.3 ∷ []) ≡ true = rw l.4 at p.ordered in
    let Q : is_order (m.0 ∷ m.1 ∷ m.2 ∷ m.3 ∷ []) ≡ true = rw m.4 at q.ordered in
    rw (l.4, m.4) (places-order l.0 l.1 l.2 l.3 m.0 m.1 m.2 m.3 P Q)

-- their outputs are an order
pub outs-order : (v w : Word) → IsWord v → IsWord w → is_order (outs v w) ≡ true
unfolding output_of
outs-order v w p q = signed-order _ _ _ _ _ _ _ _ (words-order v w p q)

-- the code of two angles is one that `made` takes
codes : below 3 (λ x. below 3 (λ y. is_code (pos (cond (eqb x y) 0 (3 * x + y))))) ≡ true
unfolding below is_code minus
codes = refl

pub angles-code : (v w : Word) → v.angle ≤ 2 → w.angle ≤ 2 → is_code (angles v w) ≡ true
unfolding angles
angles-code v w h k = below_at 3 _ (below_at 3 _ codes v.angle (omega arith)) w.angle (omega arith)

nought-code : is_code (pos 0) ≡ true
unfolding is_code minus
nought-code = refl

pub code-nine : (x : ℤ) → is_code x ≡ true → nine_digits x ≡ true
unfolding is_code nine_digits
code-nine x h =
    let few = leb-true (size x) 7 (and_left (leb (size x) 7) (not (eqb (size x) 4)) (and_right (not (minus x)) (leb (size x) 7 && not (eqb (size x) 4)) h)) in
    le-leb (size x) 999999999 (omega arith)

-- with it twice, and two noughts, the outputs keep the rule of `adapt`
adapt-kept : (a b c d x : ℤ) → is_order (a ∷ b ∷ c ∷ d ∷ []) ≡ true → is_code x ≡ true → Kept Adapt (a ∷ b ∷ c ∷ d ∷ x ∷ x ∷ pos 0 ∷ pos 0 ∷ [])
unfolding is_args is_adapt arg all_of
adapt-kept a b c d x h k =
    record {
      fit = lit≤ tt;
      nines = all_append nine_digits (a ∷ b ∷ c ∷ d ∷ []) (x ∷ x ∷ pos 0 ∷ pos 0 ∷ []) (order-nines (a ∷ b ∷ c ∷ d ∷ []) h) (rw (code-nine x k, code-nine (pos 0) nought-code));
      rule = rw (h, k, nought-code, eq-eqb (size x) (size x) refl);
    }

pub combined-kept : (v w : Word) → IsWord v → IsWord w → Kept Adapt (combined v w)
unfolding combined
combined-kept v w p q =
    adapt-kept (output_of v w 1) (output_of v w 2) (output_of v w 3) (output_of v w 4) (angles v w) (outs-order v w p q) (angles-code v w p.angle-small q.angle-small)

-- ---- every word that is read

ending-small : (t : Bytes) (k : ℕ) → ending t ≡ Some k → k ≤ 2
unfolding ending
ending-small t k h = go (same t (ascii "_deg")) (same t (ascii "_gon")) (same t [] || (same t (ascii "_rad") || same t (ascii "_any"))) h
  where
    go : (a b c : Bool) → cond a (Some 1) (cond b (Some 2) (cond c (Some 0) None)) ≡ Some k → k ≤ 2
    go true b c h = let e : 1 ≡ k = cc h in omega arith
    go false true c h = let e : 2 ≡ k = cc h in omega arith
    go false false true h = let e : 0 ≡ k = cc h in omega arith
    go false false false h = absurd (never (cc h))

word_of-is : (l : List ℤ) (o : Option ℕ) → ((k : ℕ) → o ≡ Some k → k ≤ 2) → (w : Word) → word_of l o ≡ Some w → IsWord w
unfolding word_of
word_of-is l None f w h = absurd (never (cc h))
word_of-is l (Some k) f w h = go (eqb (length l) 4 && is_order l) refl h
  where
    go : (b : Bool) → (eqb (length l) 4 && is_order l) ≡ b → cond b (Some (record { axes = l; angle = k })) None ≡ Some w → IsWord w
    go true e h =
        let same : record { axes = l; angle = k } ≡ w = cc h in
        rw (← same) (record { four = eqb-true (length l) 4 (and_left (eqb (length l) 4) (is_order l) e); ordered = and_right (eqb (length l) 4) (is_order l) e; angle-small = f k refl })
    go false e h = absurd (never (cc h))

word-is : (t : Bytes) (w : Word) → word t ≡ Some w → IsWord w
unfolding word
word-is t w h = word_of-is _ _ (ending-small _) w h

given_is : (o : Option Bytes) (w : Word) → word_given o ≡ Some w → IsWord w
unfolding word_given
given_is None w h = word-is _ w h
given_is (Some v) w h = word-is v w h

-- What two words make keeps a rule, if it does so for every two that are read.
pub between-kept : (a : Operator) (make : Word → Word → List ℤ) → ((v w : Word) → IsWord v → IsWord w → Kept a (make v w))
    → (o r : Option Bytes) (l : List ℤ) → between make (word_given o) (word_given r) ≡ Some l → Kept a l
unfolding between
between-kept a make kept o r l h = go (word_given o) (word_given r) (given_is o) (given_is r) h
  where
    go : (x y : Option Word) → ((w : Word) → x ≡ Some w → IsWord w) → ((w : Word) → y ≡ Some w → IsWord w) → between make x y ≡ Some l → Kept a l
    go None y p q h = absurd (never (cc h))
    go (Some v) None p q h = absurd (never (cc h))
    go (Some v) (Some w) p q h = let same : make v w ≡ l = cc h in rw (← same) (kept v w (p v refl) (q w refl))
