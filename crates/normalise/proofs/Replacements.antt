-- The table of replacements, read from its front: the loop's invariant and its laws.
use mathlib.Core.Path.{◌≡◌, refl, sym, ap, ◌∙◌}
use mathlib.Core.Bool.{true, ◌&&◌}
use mathlib.Core.List.{List, [], ◌∷◌, ◌++◌}
use Prim.Native.Nat.{ℕ, ◌+◌, ◌-◌, ◌≤◌, ◌<◌}
use native.Mathlib.Nat.{add-zero, le_trans}
use native.Mathlib.Omega.{arith}
use borrow.Author.Tests.{ltb-true, leb-true}
use lib.Dec.{leb, ltb}
use lib.ListN.{length, take, drop, get_or, length-append, length-drop}
use lib.Seq.{drop-drop, get_or-drop, take_at, drop_at, length-take-le}
use Rattle.rules.specs.Text.Lists.{all_of}
use Rattle.rules.specs.Text.Bytes.{Bytes, replace}
use Rattle.rules.specs.Text.Normal.{Replacement, run}
use Rattle.laws_lists.specs.Tests.{and_left, and_right}
use Rattle.laws_text.specs.Sizes.{weight, light, length-weight, replace-weight}
use Rattle.text.specs.Wrote.{Holds}
use Rattle.text.specs.Places.{ahead}
use Rattle.text.proofs.Wrote.{wrote-front, wrote-fits, holds-front}
use Rattle.text.proofs.Replaced.{replace-none}
use Rattle.normalise.specs.Table.{table}

-- what the code makes of the bytes at `at`
abbrev pub old_at : Bytes → ℕ → Bytes
old_at rules at = take (at + 2 + get_or rules at 0 - (at + 2)) (drop (at + 2) rules)

abbrev pub end_at : Bytes → ℕ → ℕ
end_at rules at = at + 2 + get_or rules at 0 + get_or rules (at + 1) 0

abbrev pub new_at : Bytes → ℕ → Bytes
new_at rules at = take (end_at rules at - (at + 2 + get_or rules at 0)) (drop (at + 2 + get_or rules at 0) rules)

-- ---- a replacement at the table's front

record Front (rules : Bytes) (at : ℕ) (r : Replacement) (rs : List Replacement) : Type 0 where
  more : at + 1 < length rules
  last : end_at rules at ≤ length rules
  old-is : old_at rules at ≡ r.old
  new_is : new_at rules at ≡ r.new
  rest-is : drop (end_at rules at) rules ≡ table rs

front : (rules : Bytes) (at : ℕ) (r : Replacement) (rs : List Replacement) → at ≤ length rules → drop at rules ≡ table (r ∷ rs) → Front rules at r rs
unfolding table
front rules at r rs w h =
    let x : get_or rules at 0 ≡ length r.old =
    ap (λ (i : ℕ). get_or rules i 0) (sym (add-zero at)) ∙ sym (get_or-drop at rules 0 0) ∙ ap (λ (l : Bytes). get_or l 0 0) h in
    let y : get_or rules (at + 1) 0 ≡ length r.new = sym (get_or-drop at rules 1 0) ∙ ap (λ (l : Bytes). get_or l 1 0) h in
    let total : length rules - at ≡ 2 + (length r.old + (length r.new + length (table rs))) =
    sym (length-drop at rules) ∙ ap length h ∙ simp length-append (omega arith) in
    let d : drop (at + 2) rules ≡ r.old ++ (r.new ++ table rs) = sym (drop-drop 2 at rules) ∙ ap (λ (l : Bytes). drop 2 l) h in
    let e : drop (at + 2 + length r.old) rules ≡ r.new ++ table rs =
    sym (drop-drop (length r.old) (at + 2) rules) ∙ rw d (drop_at r.old (r.new ++ table rs) (length r.old) refl) in
    let n : at + 2 + length r.old - (at + 2) ≡ length r.old = omega arith in
    let m : at + 2 + length r.old + length r.new - (at + 2 + length r.old) ≡ length r.new = omega arith in
    record {
      more = omega arith;
      last = omega arith;
      old-is = rw (x, n, d) (take_at r.old (r.new ++ table rs) (length r.old) refl);
      new_is = rw (x, y, m, e) (take_at r.new (table rs) (length r.new) refl);
      rest-is = rw (x, y) (sym (drop-drop (length r.new) (at + 2 + length r.old) rules) ∙ rw e (drop_at r.new (table rs) (length r.new) refl));
    }

table-nil : table [] ≡ []
unfolding table
table-nil = refl

-- no replacement of the list is empty or makes a text heavier
record Light (r : Replacement) (rs : List Replacement) : Type 0 where
  pos : 0 < length r.old
  less : weight r.new ≤ weight r.old
  others : all_of light rs ≡ true

is-light : (r : Replacement) (rs : List Replacement) → all_of light (r ∷ rs) ≡ true → Light r rs
unfolding all_of light
is-light r rs e =
    let a = ltb 0 (length r.old) in
    let b = leb (weight r.new) (weight r.old) in
    let l = and_left (a && b) (all_of light rs) e in
    record {
      pos = ltb-true 0 (length r.old) (and_left a b l);
      less = leb-true (weight r.new) (weight r.old) (and_right a b l);
      others = and_right (a && b) (all_of light rs) e;
    }

-- ---- `run_all`: `rest` is what is left of the table, and what it makes of the text that a holds is `text`

pub record Running (rules text a₀ b₀ : Bytes) (at m : ℕ) (a b : Bytes) : Type 0 where
  pub rest : List Replacement
  pub here : drop at rules ≡ table rest
  pub within : at ≤ length rules
  pub good : all_of light rest ≡ true
  pub right : run rest (take m a) ≡ text
  pub fits : m ≤ length a
  pub room-a : weight (take m a) ≤ length a
  pub room-b : weight (take m a) ≤ length b
  pub same-a : length a ≡ length a₀
  pub same-b : length b ≡ length b₀

pub running-start : (rs : List Replacement) {rules a b : Bytes} {m : ℕ} → rules ≡ table rs → all_of light rs ≡ true → m ≤ length a
    → weight (take m a) ≤ length a → weight (take m a) ≤ length b → Running rules (run rs (take m a)) a b 0 m a b
running-start rs e s f x y = record {
  rest = rs;
  here = e;
  within = omega arith;
  good = s;
  right = refl;
  fits = f;
  room-a = x;
  room-b = y;
  same-a = refl;
  same-b = refl;
}

-- in a turn there is a replacement
record Turn (rules text : Bytes) (at m : ℕ) (a : Bytes) : Type 0 where
  r : Replacement
  rs : List Replacement
  front-is : Front rules at r rs
  light-is : Light r rs
  right : run rs (replace r.old r.new (take m a)) ≡ text

turn : {rules text a₀ b₀ : Bytes} {at m : ℕ} {a b : Bytes} → Running rules text a₀ b₀ at m a b → at < length rules → Turn rules text at m a
unfolding run
turn {rules} {text} {a₀} {b₀} {at} {m} {a} {b} s l = go s.rest s.here s.good s.right
  where
    go : (rs : List Replacement) → drop at rules ≡ table rs → all_of light rs ≡ true → run rs (take m a) ≡ text → Turn rules text at m a
    go [] h g e = absurd (no h)
      where
        no : drop at rules ≡ table [] → ⊥
        no h = omega (arith, length-drop at rules, ap length (h ∙ table-nil))
    go (r ∷ rs) h g e = record { r = r; rs = rs; front-is = front rules at r rs s.within h; light-is = is-light r rs g; right = e }

module _ {rules text a₀ b₀ : Bytes} {at m : ℕ} {a b : Bytes} (s : Running rules text a₀ b₀ at m a b) (l : at < length rules) where
  -- what the replacement makes of the text
  abbrev next : Bytes
  next = replace (old_at rules at) (new_at rules at) (take m a)

  next-is : next ≡ replace (turn s l).r.old (turn s l).r.new (take m a)
  next-is = rw ((turn s l).front-is.old-is, (turn s l).front-is.new_is)

  next-weight : weight next ≤ weight (take m a)
  next-weight =
      let t = turn s l in
      rw next-is (replace-weight t.r.old t.r.new (take m a) t.light-is.pos t.light-is.less)

  pub running_more : at + 1 < length rules
  running_more = (turn s l).front-is.more

  pub running-last : end_at rules at ≤ length rules
  running-last = (turn s l).front-is.last

  -- what `rewrite` asks
  pub running-asks : (0 < length (old_at rules at)) × ((m ≤ length a) × ((length next ≤ length a) × (length next ≤ length b)))
  running-asks =
      let p : 0 < length (old_at rules at) = rw (turn s l).front-is.old-is (turn s l).light-is.pos in
      let w = next-weight in
      let v = length-weight next in
      (p, (s.fits, (omega (arith, s.room-a), omega (arith, s.room-b))))

  -- what it leaves
  pub running-next : {n : ℕ} {a' b' : Bytes} → Holds next n a' → length a' ≡ length a → length b' ≡ length b
      → Running rules text a₀ b₀ (end_at rules at) n a' b'
  running-next {n} {a'} {b'} h la lb =
      let t = turn s l in
      let f = wrote-front h in
      let w : weight (take n a') ≤ weight (take m a) = rw f next-weight in
      record {
        rest = t.rs;
        here = t.front-is.rest-is;
        within = running-last;
        good = t.light-is.others;
        right = rw (f, next-is) t.right;
        fits = wrote-fits h;
        room-a = rw la (le_trans w s.room-a);
        room-b = rw lb (le_trans w s.room-b);
        same-a = la ∙ s.same-a;
        same-b = lb ∙ s.same-b;
      }

-- at the table's end the text is done
pub running-end : {rules text a₀ b₀ : Bytes} {at m : ℕ} {a b : Bytes} → Running rules text a₀ b₀ at m a b → length rules ≤ at → Holds text m a
unfolding run table
running-end {rules} {text} {a₀} {b₀} {at} {m} {a} {b} s l = go s.rest s.here s.right
  where
    go : (rs : List Replacement) → drop at rules ≡ table rs → run rs (take m a) ≡ text → Holds text m a
    go [] h e = rw (← e) (holds-front a m s.fits)
    go (r ∷ rs) h e = absurd (some h)
      where
        some : drop at rules ≡ table (r ∷ rs) → ⊥
        some h = omega (arith, length-drop at rules, ap length h)

-- ---- `rewrite`, where nothing is to be replaced

pub rewrite-none : (old new : Bytes) {a : Bytes} {n first : ℕ} → n ≤ length a → first ≡ 0 + ahead old (take n a) → n ≤ first
    → Holds (replace old new (take n a)) n a
rewrite-none old new {a} {n} {first} f e h =
    rw (replace-none old new (take n a) (omega (arith, length-take-le n a f))) (holds-front a n f)
