-- The offset of a step's refusal 12, which is computed from the table of its parameters, is that of the first fault among its words: the byte at the offset begins
-- a piece, or a flag's value, that breaks the rule, and nothing before it does.
use Rattle.std.specs.Prelude.{◌≡◌, ℕ, ◌+◌, ◌≤◌, min, Bool, cond, not, ◌&&◌, ◌||◌, Option, None, Some}
use Rattle.std.proofs.Math.Path.{refl, sym, ap}
use Rattle.std.proofs.Common.{◌∙◌, arith, eqb-true, leb-true, leb-false, le-leb}
use Rattle.std.proofs.Math.Bool.{true, false}
use Rattle.std.proofs.lemmas.Bool.{false≢true}
use mathlib.Core.List.{List, [], ◌∷◌, ◌++◌, flat_map, append_assoc}
use Rattle.std.proofs.Math.Dec.{leb}
use Rattle.std.proofs.Math.ListN.{length, length-append}
use Rattle.rules.specs.Text.Ascii.{ascii, is}
use Rattle.rules.specs.Text.Lists.{any_of, non_empty, is_none}
use Rattle.rules.specs.Text.Bytes.{Bytes, Words, same, before, behind, onto, cut, after_each, joined_by, joined}
use Rattle.rules.specs.Text.Split.{turned}
use Rattle.rules.specs.Text.Decimal.{decimal, pieces, number_then, all_numbers, series, is_number, broken_from}
use Rattle.rules.specs.Text.Parameters.{Placed, parameter, name, value_in, placed_word, placed_name, placed_words, placed_elements, placed_table, entered_all_by}
use Rattle.rules.specs.Operators.Keys.{kind_in, worded}
use Rattle.rules.specs.Pipeline.Keys.{every_key, kind_of, misspelt}
use Rattle.rules.specs.Pipeline.Offsets.{fault_in, is_fault, fault_at, faults, earliest}
use Rattle.rules.specs.Face.Demands.{taken, Gives, Breaks, FaultAt, StandsAt}
use Rattle.rules.specs.declared.Decimal.{Decimal}
use Rattle.rules.specs.declared.Kind.{Kind}
use Rattle.rules.specs.declared.Kind.TheVariants.{Flag, Series, Word}
use Rattle.rules.specs.declared.Name.{Name}
use Rattle.laws_lists.specs.Tests.{never, same_self, same-is, not_so, and_right}
use Rattle.laws_lists.specs.Lists.{Every}
use Rattle.laws_text.specs.Latest.{key_of, Lacks, EachLast, table-last-only, last-there}

-- ---- a series

-- texts with a `sep` behind each, and one more in front or behind
taken-front : (sep t : Bytes) (ts : List Bytes) → taken sep (t ∷ ts) ≡ length t + length sep + taken sep ts
unfolding flat_map
taken-front sep t ts = omega (arith, length-append (t ++ sep) (flat_map (λ (u : Bytes). u ++ sep) ts), length-append t sep)

taken_none : (sep : Bytes) → taken sep [] ≡ 0
unfolding flat_map
taken_none sep = refl

taken-behind : (sep : Bytes) (ts : List Bytes) (t : Bytes) → taken sep (ts ++ (t ∷ [])) ≡ taken sep ts + length t + length sep
taken-behind sep [] t = omega (arith, taken-front sep t [], taken_none sep)
taken-behind sep (u ∷ ts) t = omega (arith, taken-front sep u (ts ++ (t ∷ [])), taken-front sep u ts, taken-behind sep ts t)

one_byte : length (ascii ",") ≡ 1
unfolding ascii
one_byte = refl

-- a piece that breaks decimal form, and where it begins
record Bad (ps : List Bytes) : Type 0 where
  front : List Bytes
  piece : Bytes
  rest : List Bytes
  in_order : ps ≡ front ++ (piece ∷ rest)
  breaks : decimal piece ≡ None
  begins : broken_from ps ≡ taken (ascii ",") front

first-bad : (ps : List Bytes) → is_none (all_numbers ps) ≡ true → Bad ps
unfolding all_numbers broken_from is_none is_number number_then
first-bad [] h = absurd (false≢true h)
first-bad (p ∷ ps) h = go (decimal p) refl (all_numbers ps) refl h (first-bad ps)
  where
    go : (d : Option Decimal) → decimal p ≡ d → (o : Option (List Decimal)) → all_numbers ps ≡ o → is_none (number_then d o) ≡ true → (is_none (all_numbers ps) ≡ true → Bad ps) → Bad (p ∷ ps)
    go None e o f h next = record { front = []; piece = p; rest = ps; in_order = refl; breaks = e; begins = rw e (sym (taken_none (ascii ","))) }
    go (Some d) e None f h next =
        let b = next (rw f refl) in
        record {
          front = p ∷ b.front;
          piece = b.piece;
          rest = b.rest;
          in_order = ap (λ (l : List Bytes). p ∷ l) b.in_order;
          breaks = b.breaks;
          begins = rw e (omega (arith, b.begins, taken-front (ascii ",") p b.front, one_byte));
        }
    go (Some d) e (Some l) f h next = absurd (false≢true h)

-- no piece that does stands before it, and where there is one, the series is none
none_before : (front : List Bytes) (piece : Bytes) (rest : List Bytes) → decimal piece ≡ None → broken_from (front ++ (piece ∷ rest)) ≤ taken (ascii ",") front
unfolding broken_from is_number
none_before [] piece rest e = rw e (omega arith)
none_before (p ∷ front) piece rest e = go (is_number (decimal p)) (none_before front piece rest e)
  where
    go : (b : Bool) → broken_from (front ++ (piece ∷ rest)) ≤ taken (ascii ",") front
        → cond b (length p + 1 + broken_from (front ++ (piece ∷ rest))) 0 ≤ taken (ascii ",") (p ∷ front)
    go true h = omega (arith, h, taken-front (ascii ",") p front, one_byte)
    go false h = omega arith

bad-series : (front : List Bytes) (piece : Bytes) (rest : List Bytes) → decimal piece ≡ None → is_none (all_numbers (front ++ (piece ∷ rest))) ≡ true
unfolding all_numbers number_then is_none
bad-series [] piece rest e = rw e refl
bad-series (p ∷ front) piece rest e = go (decimal p) (all_numbers (front ++ (piece ∷ rest))) (bad-series front piece rest e)
  where
    go : (d : Option Decimal) (o : Option (List Decimal)) → is_none o ≡ true → is_none (number_then d o) ≡ true
    go None o h = refl
    go (Some d) None h = refl
    go (Some d) (Some l) h = h

-- ---- a word

-- what refusal 12 is for is what breaks the rule, in the first such place of the word
record Broken (kind : Option Kind) (word : Bytes) : Type 0 where
  bad : Bytes
  breaks : Breaks kind word bad (value_in word + fault_in kind (parameter word).value)

broken : (kind : Option Kind) (word : Bytes) → misspelt kind (parameter word).value ≡ true → Broken kind word
unfolding misspelt fault_in series
broken (Some Flag) word h = record {
  bad = (parameter word).value;
  breaks = Breaks.flag refl refl (λ e. false≢true (sym (not_so h) ∙ ap (λ (v : Bytes). same v (ascii "true")) e ∙ same_self (ascii "true"))) (omega arith);
}
broken (Some Series) word h =
    let b = first-bad (pieces (parameter word).value) h in
    record { bad = b.piece; breaks = Breaks.element refl b.front b.rest b.in_order b.breaks (ap (λ (k : ℕ). value_in word + k) b.begins) }
broken (Some Word) word h = absurd (false≢true h)
broken None word h = absurd (false≢true h)

record Refused (kind : Option Kind) (word : Bytes) (at : ℕ) : Type 0 where
  misspelt-so : misspelt kind (parameter word).value ≡ true
  not-later : value_in word + fault_in kind (parameter word).value ≤ at

refused : (kind : Option Kind) (word bad : Bytes) (at : ℕ) → Breaks kind word bad at → Refused kind word at
unfolding misspelt fault_in series
refused kind word bad at (Breaks.flag k v other e) =
    rw (k, e) (record { misspelt-so = go (same (parameter word).value (ascii "true")) refl; not-later = omega arith })
  where
    go : (b : Bool) → same (parameter word).value (ascii "true") ≡ b → not b ≡ true
    go true f = absurd (other (v ∙ same-is (parameter word).value (ascii "true") f))
    go false f = refl
refused kind word bad at (Breaks.element k front rest o d e) =
    rw (k, e)
    (record { misspelt-so = rw o (bad-series front bad rest d); not-later = rw o (omega (arith, none_before front bad rest d)) })

-- ---- the words of a step, each in its place

one-space : length (ascii " ") ≡ 1
unfolding ascii
one-space = refl

-- the byte at which the word behind these begins
abbrev begin : Words → ℕ
begin front = taken (ascii " ") front

begin-behind : (front : Words) (w : Bytes) → begin (front ++ (w ∷ [])) ≡ begin front + length w + 1
begin-behind front w = omega (arith, taken-behind (ascii " ") front w, one-space)

placed-keys : (k : Bytes) (at : ℕ) (ws : Words) → any_of (λ (q : Placed). same k (key_of q)) (placed_words at ws) ≡ any_of (λ (w : Bytes). same k (parameter w).key) ws
unfolding any_of placed_words placed_word
placed-keys k at [] = refl
placed-keys k at (w ∷ ws) = ap (λ (b : Bool). same k (parameter w).key || b) (placed-keys k (at + length w + 1) ws)

-- a name is never at fault
pub name-fine : (n : Name) (w : Bytes) → misspelt (kind_of n (name w)) w ≡ false
unfolding name kind_of every_key kind_in worded misspelt
name-fine n w = rw (same_self (ascii "_name")) refl

some_more : (front : Words) (w : Bytes) → non_empty (front ++ (w ∷ [])) ≡ true
unfolding non_empty
some_more [] w = refl
some_more (v ∷ front) w = refl

module _ (n : Name) (ws : Words) where
  -- a parameter that refusal 12 is for is at fault among these words
  abbrev AtFault : Placed → Type 0
  AtFault q = is_fault n q ≡ true → FaultAt n ws (fault_at n q)

  word-at-fault : (front : Words) (w : Bytes) (rest : Words) → ws ≡ front ++ (w ∷ rest) → non_empty front || any_of (is "=") w ≡ true → (at : ℕ)
      → Lacks (key_of (placed_word (begin front) w)) (placed_words at rest) → AtFault (placed_word (begin front) w)
  unfolding is_fault fault_at placed_word
  word-at-fault front w rest e m at l h = record {
    word = w;
    bad = (broken (kind_of n (parameter w)) w h).bad;
    from = begin front;
    at = value_in w + fault_in (kind_of n (parameter w)) (parameter w).value;
    gives = record { front = front; rest = rest; in_order = e; begins = refl; not-name = m; last = sym (placed-keys (parameter w).key at rest) ∙ l };
    breaks = (broken (kind_of n (parameter w)) w h).breaks;
    offset-is = omega arith;
  }

  words_last : (front rest : Words) → ws ≡ front ++ rest → non_empty front ≡ true → EachLast AtFault (placed_words (begin front) rest)
  unfolding EachLast placed_words
  words_last front [] e m = tt
  words_last front (w ∷ rest) e m = (
    word-at-fault front w rest e (rw m) (begin front + length w + 1),
    rw (← begin-behind front w) (words_last (front ++ (w ∷ [])) rest (e ∙ sym (append_assoc front (w ∷ []) rest)) (some_more front w)),
  )

name-at-fault : (n : Name) (w : Bytes) (rest : Words) → AtFault n (w ∷ rest) (record { given = name w; at = 0 })
unfolding is_fault name
name-at-fault n w rest h = absurd (false≢true (sym (name-fine n w) ∙ h))

first-at-fault : (n : Name) (w : Bytes) (rest : Words) (at : ℕ) → Lacks (key_of (placed_name 0 w)) (placed_words at rest) → AtFault n (w ∷ rest) (placed_name 0 w)
unfolding placed_name flat_map non_empty
first-at-fault n w rest at = go (any_of (is "=") w) refl
  where
    go : (b : Bool) → any_of (is "=") w ≡ b → Lacks (key_of (cond b (placed_word 0 w) (record { given = name w; at = 0 }))) (placed_words at rest)
        → AtFault n (w ∷ rest) (cond b (placed_word 0 w) (record { given = name w; at = 0 }))
    go true e l = word-at-fault n (w ∷ rest) [] w rest refl (rw e refl) at l
    go false e l = name-at-fault n w rest

elements-last : (n : Name) (ws : Words) → EachLast (AtFault n ws) (placed_elements ws)
unfolding EachLast placed_elements
elements-last n [] = tt
elements-last n (w ∷ ws) = (
  first-at-fault n w ws (length w + 1),
  let at : begin (w ∷ []) ≡ length w + 1 = omega (arith, begin-behind [] w, taken_none (ascii " ")) in
      rw (← at) (words_last n (w ∷ ws) (w ∷ []) ws refl (unfold non_empty in refl)),
)

-- ---- the earliest

min-is : (Q : ℕ → Type 0) (x y : ℕ) → Q x → Q y → Q (min x y)
min-is Q x y h k = go (leb x y) refl
  where
    go : (b : Bool) → leb x y ≡ b → Q (min x y)
    go true e = let l = leb-true x y e in let m : min x y ≡ x = omega arith in rw m h
    go false e = let l = leb-false x y e in let m : min x y ≡ y = omega arith in rw m k

earliest-so : (Q : ℕ → Type 0) (l : List ℕ) → non_empty l ≡ true → Every Q l → Q (earliest l)
unfolding non_empty earliest Every
earliest-so Q [] e h = absurd (false≢true e)
earliest-so Q (x ∷ []) e h = h.0
earliest-so Q (x ∷ y ∷ l) e h = min-is Q x (earliest (y ∷ l)) h.0 (earliest-so Q (y ∷ l) refl h.1)

earliest-below : (o : ℕ) (l : List ℕ) → any_of (λ (x : ℕ). leb x o) l ≡ true → earliest l ≤ o
unfolding any_of earliest
earliest-below o [] h = absurd (false≢true h)
earliest-below o (x ∷ []) h = go (leb x o) refl h
  where
    go : (b : Bool) → leb x o ≡ b → b || false ≡ true → x ≤ o
    go true e h = leb-true x o e
    go false e h = absurd (false≢true h)
earliest-below o (x ∷ y ∷ l) h = go (leb x o) refl h (earliest-below o (y ∷ l))
  where
    go : (b : Bool) → leb x o ≡ b → b || any_of (λ (z : ℕ). leb z o) (y ∷ l) ≡ true → (any_of (λ (z : ℕ). leb z o) (y ∷ l) ≡ true → earliest (y ∷ l) ≤ o)
        → min x (earliest (y ∷ l)) ≤ o
    go true e h r = let k = leb-true x o e in omega arith
    go false e h r = let k = r h in omega arith

module _ (n : Name) where
  faults-there : (qs : List Placed) → any_of (is_fault n) qs ≡ true → non_empty (faults n qs) ≡ true
  unfolding any_of faults non_empty
  faults-there [] h = h
  faults-there (q ∷ qs) h = go (is_fault n q) h (faults-there qs)
    where
      go : (b : Bool) → b || any_of (is_fault n) qs ≡ true → (any_of (is_fault n) qs ≡ true → non_empty (faults n qs) ≡ true)
          → non_empty (cond b (fault_at n q ∷ faults n qs) (faults n qs)) ≡ true
      go true h r = refl
      go false h r = r h

  faults-so : (Q : ℕ → Type 0) (qs : List Placed) → Every (λ (q : Placed). is_fault n q ≡ true → Q (fault_at n q)) qs → Every Q (faults n qs)
  unfolding faults Every
  faults-so Q [] h = tt
  faults-so Q (q ∷ qs) h = go (is_fault n q) refl (faults-so Q qs h.1)
    where
      go : (b : Bool) → is_fault n q ≡ b → Every Q (faults n qs) → Every Q (cond b (fault_at n q ∷ faults n qs) (faults n qs))
      go true e r = (h.0 e, r)
      go false e r = r

  -- one that is not behind a byte, among the faults
  abbrev early : ℕ → Placed → Bool
  early o q = is_fault n q && leb (fault_at n q) o

  faults-early : (o : ℕ) (qs : List Placed) → any_of (early o) qs ≡ true → any_of (λ (x : ℕ). leb x o) (faults n qs) ≡ true
  unfolding any_of faults
  faults-early o [] h = h
  faults-early o (q ∷ qs) h = go (is_fault n q) (leb (fault_at n q) o) refl h (faults-early o qs)
    where
      go : (b c : Bool) → leb (fault_at n q) o ≡ c → (b && c) || any_of (early o) qs ≡ true → (any_of (early o) qs ≡ true → any_of (λ (x : ℕ). leb x o) (faults n qs) ≡ true)
          → any_of (λ (x : ℕ). leb x o) (cond b (fault_at n q ∷ faults n qs) (faults n qs)) ≡ true
      go true true e h r = rw e
      go true false e h r = rw (e, r h)
      go false c e h r = r h

-- ---- a word that gives a key its value is in the table

split-words : (at : ℕ) (front : Words) (w : Bytes) (rest : Words)
    → placed_words at (front ++ (w ∷ rest)) ≡ placed_words at front ++ (placed_word (at + begin front) w ∷ placed_words (at + begin front + length w + 1) rest)
unfolding placed_words
split-words at [] w rest = let e : at + begin [] ≡ at = omega (arith, taken_none (ascii " ")) in rw e refl
split-words at (v ∷ front) w rest =
    let e : at + begin (v ∷ front) ≡ at + length v + 1 + begin front = omega (arith, taken-front (ascii " ") v front, one-space) in
    rw e (ap (λ (l : List Placed). placed_word at v ∷ l) (split-words (at + length v + 1) front w rest))

-- the elements before it, and the byte behind it
record Among (ws : Words) (word : Bytes) (from : ℕ) (rest : Words) : Type 0 where
  front : List Placed
  at : ℕ
  in_order : placed_elements ws ≡ front ++ (placed_word from word ∷ placed_words at rest)

among : (front : Words) (w : Bytes) (rest : Words) → non_empty front || any_of (is "=") w ≡ true → Among (front ++ (w ∷ rest)) w (begin front) rest
unfolding placed_elements placed_name non_empty
among [] w rest m = record {
  front = [];
  at = length w + 1;
  in_order = ap (λ (q : Placed). q ∷ placed_words (length w + 1) rest) (go (any_of (is "=") w) m);
}
  where
    go : (b : Bool) → b ≡ true → cond b (placed_word 0 w) (record { given = name w; at = 0 }) ≡ placed_word (begin []) w
    go b m = rw (m, taken_none (ascii " ")) refl
among (v ∷ front) w rest m =
    let e : begin (v ∷ front) ≡ length v + 1 + begin front = omega (arith, taken-front (ascii " ") v front, one-space) in
    record {
      front = placed_name 0 v ∷ placed_words (length v + 1) front;
      at = length v + 1 + begin front + length w + 1;
      in_order = rw e (ap (λ (l : List Placed). placed_name 0 v ∷ l) (split-words (length v + 1) front w rest));
    }

any_left : (f g : Placed → Bool) (l : List Placed) → any_of (λ (q : Placed). f q && g q) l ≡ true → any_of f l ≡ true
unfolding any_of
any_left f g [] h = h
any_left f g (q ∷ l) h = go (f q) (g q) h (any_left f g l)
  where
    go : (b c : Bool) → (b && c) || any_of (λ (r : Placed). f r && g r) l ≡ true → (any_of (λ (r : Placed). f r && g r) l ≡ true → any_of f l ≡ true) → b || any_of f l ≡ true
    go true c h r = refl
    go false c h r = r h

-- the table of these words, which are turned already
abbrev table : Words → List Placed
table ws = entered_all_by key_of (placed_elements ws) []

last-early : (n : Name) (o : ℕ) (front : List Placed) (q : Placed) (rest : List Placed) → early n o q ≡ true → Lacks (key_of q) rest
    → any_of (early n o) (entered_all_by key_of (front ++ (q ∷ rest)) []) ≡ true
last-early n o front q rest e l =
    any_left (early n o) (λ (x : Placed). same (key_of q) (key_of x)) (entered_all_by key_of (front ++ (q ∷ rest)) [])
    (last-there (λ (x : Placed). early n o x && same (key_of q) (key_of x)) front q rest [] (λ r t. same-is (key_of q) (key_of r) (and_right (early n o r) (same (key_of q) (key_of r)) t))
    l (rw (e, same_self (key_of q)) refl))

word-early : (n : Name) (from o : ℕ) (w : Bytes) → misspelt (kind_of n (parameter w)) (parameter w).value ≡ true
    → from + (value_in w + fault_in (kind_of n (parameter w)) (parameter w).value) ≤ o → early n o (placed_word from w) ≡ true
unfolding is_fault fault_at placed_word
word-early n from o w m h = rw m (le-leb (from + value_in w + fault_in (kind_of n (parameter w)) (parameter w).value) o (omega (arith, h)))

fault-early : (n : Name) (ws : Words) (o : ℕ) → FaultAt n ws o → any_of (early n o) (table ws) ≡ true
fault-early n ws o f =
    let g = f.gives in
    let a = among g.front f.word g.rest g.not-name in
    let r = refused (kind_of n (parameter f.word)) f.word f.bad f.at f.breaks in
    let q = placed_word (begin g.front) f.word in
    let e = word-early n (begin g.front) o f.word r.misspelt-so (omega (arith, r.not-later, f.offset-is, g.begins)) in
    let l : Lacks (key_of q) (placed_words a.at g.rest) = unfold placed_word in placed-keys (parameter f.word).key a.at g.rest ∙ g.last in
    ap (λ (us : Words). any_of (early n o) (table us)) g.in_order
    ∙ ap (λ (qs : List Placed). any_of (early n o) (entered_all_by key_of qs [])) a.in_order
    ∙ last-early n o a.front q (placed_words a.at g.rest) e l

-- ---- the first fault of a step's words

pub earliest-fault : (n : Name) (ws : Words) → any_of (is_fault n) (placed_table ws) ≡ true → FaultAt n (turned ws) (earliest (faults n (placed_table ws)))
unfolding placed_table
earliest-fault n ws h =
    earliest-so (FaultAt n (turned ws)) (faults n (table (turned ws))) (faults-there n (table (turned ws)) h)
    (faults-so n (FaultAt n (turned ws)) (table (turned ws)) (table-last-only (AtFault n (turned ws)) (placed_elements (turned ws)) (elements-last n (turned ws))))

pub no-earlier-fault : (n : Name) (ws : Words) (o : ℕ) → FaultAt n (turned ws) o → earliest (faults n (placed_table ws)) ≤ o
unfolding placed_table
no-earlier-fault n ws o f = earliest-below o (faults n (table (turned ws))) (faults-early n o (table (turned ws)) (fault-early n (turned ws) o f))

-- ---- what stands at a fault, in the words' text

-- what stands in what stands in a text
within : {t p q : Bytes} {i j : ℕ} → StandsAt t i p → StandsAt p j q → StandsAt t (i + j) q
within {t} {p} {q} a b = record {
  front = a.front ++ b.front;
  rest = b.rest ++ a.rest;
  in_order = a.in_order ∙ ap (λ (x : Bytes). a.front ++ (x ++ a.rest)) b.in_order ∙ simp append_assoc refl;
  begins = omega (arith, a.begins, b.begins, length-append a.front b.front);
}

module _ (sep : Bytes) where
  after-joined : (front : List Bytes) (t : Bytes) (rest : List Bytes) → after_each sep (front ++ (t ∷ rest)) ≡ sep ++ joined_by sep (front ++ (t ∷ rest))
  unfolding joined_by after_each
  after-joined [] t rest = refl
  after-joined (u ∷ front) t rest = refl

  -- a text among others, with a `sep` between
  among-texts : (front : List Bytes) (t : Bytes) (rest : List Bytes) → StandsAt (joined_by sep (front ++ (t ∷ rest))) (taken sep front) t
  unfolding joined_by
  among-texts [] t rest = record { front = []; rest = after_each sep rest; in_order = refl; begins = taken_none sep }
  among-texts (u ∷ front) t rest =
      let s = among-texts front t rest in
      record {
        front = u ++ (sep ++ s.front);
        rest = s.rest;
        in_order = ap (λ (x : Bytes). u ++ x) (after-joined front t rest ∙ ap (λ (x : Bytes). sep ++ x) s.in_order) ∙ simp append_assoc refl;
        begins = omega (arith, taken-front sep u front, s.begins, length-append u (sep ++ s.front), length-append sep s.front);
      }

-- the pieces of a text, joined again
cut-some : (v : Bytes) → non_empty (pieces v) ≡ true
unfolding pieces cut onto non_empty
cut-some [] = refl
cut-some (y ∷ v) = go (is "," y) (cut (is ",") v)
  where
    go : (b : Bool) (ps : List Bytes) → non_empty (cond b ([] ∷ ps) (onto y ps)) ≡ true
    go true ps = refl
    go false [] = refl
    go false (p ∷ ps) = refl

joined-cut : (v : Bytes) → joined_by (ascii ",") (pieces v) ≡ v
unfolding pieces cut onto joined_by after_each ascii non_empty
joined-cut [] = refl
joined-cut (x ∷ v) = go (is "," x) refl (cut (is ",") v) (cut-some v) (joined-cut v)
  where
    go : (b : Bool) → is "," x ≡ b → (ps : List Bytes) → non_empty ps ≡ true → joined_by (ascii ",") ps ≡ v → joined_by (ascii ",") (cond b ([] ∷ ps) (onto x ps)) ≡ x ∷ v
    go b e [] m h = absurd (false≢true m)
    go true e (p ∷ ps) m h = let y : x ≡ 44 = eqb-true x 44 e in rw y (ap (λ (t : Bytes). 44 ∷ t) h)
    go false e (p ∷ ps) m h = ap (λ (t : Bytes). x ∷ t) h

piece-stands : (v : Bytes) (front : List Bytes) (piece : Bytes) (rest : List Bytes) → pieces v ≡ front ++ (piece ∷ rest) → StandsAt v (taken (ascii ",") front) piece
piece-stands v front piece rest e =
    let s = among-texts (ascii ",") front piece rest in
    record { front = s.front; rest = s.rest; in_order = sym (joined-cut v) ∙ ap (joined_by (ascii ",")) e ∙ s.in_order; begins = s.begins }

-- the value in its word
at_sign : (w : Bytes) → any_of (is "=") w ≡ true → w ≡ before (is "=") w ++ (61 ∷ behind (is "=") w)
unfolding any_of before behind
at_sign [] h = absurd (false≢true h)
at_sign (x ∷ w) h = go (is "=" x) refl h (at_sign w)
  where
    go : (b : Bool) → is "=" x ≡ b → b || any_of (is "=") w ≡ true → (any_of (is "=") w ≡ true → w ≡ before (is "=") w ++ (61 ∷ behind (is "=") w))
        → x ∷ w ≡ cond b [] (x ∷ before (is "=") w) ++ (61 ∷ cond b w (behind (is "=") w))
    go true e h r = let y : x ≡ 61 = eqb-true x 61 e in rw y refl
    go false e h r = ap (λ (t : Bytes). x ∷ t) (r h)

up-to-sign : (w : Bytes) → (rest : Bytes) × (w ≡ before (is "=") w ++ rest)
unfolding before
up-to-sign [] = ([], refl)
up-to-sign (x ∷ w) = go (is "=" x) (up-to-sign w)
  where
    go : (b : Bool) → (rest : Bytes) × (w ≡ before (is "=") w ++ rest) → (rest : Bytes) × (x ∷ w ≡ cond b [] (x ∷ before (is "=") w) ++ rest)
    go true r = (x ∷ w, refl)
    go false r = (r.0, ap (λ (t : Bytes). x ∷ t) r.1)

value-stands : (w : Bytes) → any_of (is "=") w ≡ true → StandsAt w (value_in w) (parameter w).value
unfolding value_in parameter
value-stands w h =
    let r = up-to-sign (behind (is "=") w) in
    rw h (record {
      front = before (is "=") w ++ (61 ∷ []);
      rest = r.0;
      in_order = at_sign w h ∙ ap (λ (x : Bytes). before (is "=") w ++ (61 ∷ x)) r.1 ∙ simp append_assoc refl;
      begins = omega (arith, length-append (before (is "=") w) (61 ∷ []));
    })

word_stands : {ws : Words} {word : Bytes} {from : ℕ} → Gives ws word from → StandsAt (joined ws) from word
unfolding joined ascii
word_stands {ws} {word} {from} g = rw (g.in_order, g.begins) (among-texts (ascii " ") g.front word g.rest)

pub bad-stands : {n : Name} {ws : Words} {o : ℕ} (f : FaultAt n ws o) → any_of (is "=") f.word ≡ true → StandsAt (joined ws) o f.bad
bad-stands {n} {ws} {o} f h = rw f.offset-is (within (word_stands f.gives) (go f.bad f.at f.breaks))
  where
    value : StandsAt f.word (value_in f.word) (parameter f.word).value
    value = value-stands f.word h

    go : (bad : Bytes) (at : ℕ) → Breaks (kind_of n (parameter f.word)) f.word bad at → StandsAt f.word at bad
    go bad at (Breaks.flag k v other e) = rw (v, e) value
    go bad at (Breaks.element k front rest p d e) = rw e (within value (piece-stands (parameter f.word).value front bad rest p))

-- a bare word's value is `true`, and one piece
bare-value : (w : Bytes) → any_of (is "=") w ≡ false → (parameter w).value ≡ ascii "true"
unfolding parameter
bare-value w h = rw h refl

bare-at : (w : Bytes) → any_of (is "=") w ≡ false → value_in w ≡ length w
unfolding value_in
bare-at w h = rw h refl

first_piece : (front : List Bytes) (bad : Bytes) (rest : List Bytes) → pieces (ascii "true") ≡ front ++ (bad ∷ rest) → taken (ascii ",") front ≡ 0
unfolding pieces cut onto ascii
first_piece [] bad rest e = taken_none (ascii ",")
first_piece (p ∷ []) bad rest e = absurd (never (cc e))
first_piece (p ∷ q ∷ front) bad rest e = absurd (never (cc e))

pub missing-stands : {n : Name} {ws : Words} {o : ℕ} (f : FaultAt n ws o) → any_of (is "=") f.word ≡ false
    → (from : ℕ) × StandsAt (joined ws) from f.word × (o ≡ from + length f.word)
missing-stands {n} {ws} {o} f h = (f.from, word_stands f.gives, f.offset-is ∙ ap (λ (k : ℕ). f.from + k) (go f.bad f.at f.breaks))
  where
    go : (bad : Bytes) (at : ℕ) → Breaks (kind_of n (parameter f.word)) f.word bad at → at ≡ length f.word
    go bad at (Breaks.flag k v other e) = absurd (other (v ∙ bare-value f.word h))
    go bad at (Breaks.element k front rest p d e) =
        omega (arith, e, bare-at f.word h, first_piece front bad rest (ap pieces (sym (bare-value f.word h)) ∙ p))
