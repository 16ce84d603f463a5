-- A step's table of parameters, from the words that it was made of: the value of each key, and what no parameter is.
use Rattle.std.specs.Prelude.{◌≡◌, suc, ◌+◌, ◌≤◌, Bool, cond, ◌||◌, length, Option, None, Some}
use Rattle.std.proofs.Math.Path.{refl, ap}
use Rattle.std.proofs.Common.{sym, ◌∙◌, le_refl, arith}
use Rattle.std.proofs.Math.Bool.{true, false}
use Rattle.std.proofs.lemmas.Bool.{false≢true, not-true}
use mathlib.Core.List.{List, [], ◌∷◌, ◌++◌, map}
use Rattle.rules.specs.Text.Ascii.{ascii, is}
use Rattle.rules.specs.Text.Lists.{any_of, all_of}
use Rattle.rules.specs.Text.Bytes.{Bytes, Words, same}
use Rattle.rules.specs.Text.Refusal.{answers}
use Rattle.rules.specs.Text.Parameters.{Parameter, parameter, name, precedes, entered_by, entered_all_by, entered, entered_all}
use Rattle.rules.specs.Pipeline.Keys.{kind_of, unknown, misspelt, too_long}
use Rattle.rules.specs.Operators.Arguments.{value_of}
use Rattle.rules.specs.Pipeline.Prepare.{own_rule, judged14, judged11, named, judged10, judged}
use Rattle.rules.specs.declared.Mode.{Mode}
use Rattle.rules.specs.declared.Step.{Step}
use Rattle.rules.specs.declared.Name.{Name}
use Rattle.laws_lists.specs.Tests.{same_self, and_left, and_right, or_left, or_right, same-is}
use Rattle.laws_records.specs.Settled.{lacks}

-- ---- values

twice : (b : Bool) (v w r : Option Bytes) → cond b v r ≡ cond b v (cond b w r)
twice true v w r = refl
twice false v w r = refl

apart : (k p q : Bytes) (v w r : Option Bytes) → same p q ≡ false → (a b : Bool) → same k p ≡ a → same k q ≡ b → cond b w (cond a v r) ≡ cond a v (cond b w r)
apart k p q v w r n true true e f =
    let x : p ≡ q = sym (same-is k p e) ∙ same-is k q f in
    let y : same q q ≡ false = rw x at n in
    absurd (false≢true (sym y ∙ same_self q))
apart k p q v w r n true false e f = refl
apart k p q v w r n false true e f = refl
apart k p q v w r n false false e f = refl

value-entered : (k : Bytes) (p : Parameter) (l : List Parameter) → value_of k (entered p l) ≡ cond (same k p.key) (Some p.value) (value_of k l)
unfolding value_of entered_by
value-entered k p [] = refl
value-entered k p (q ∷ l) = go (same p.key q.key) (precedes p.key q.key) refl (value-entered k p l)
  where
    go : (c d : Bool) → same p.key q.key ≡ c → value_of k (entered p l) ≡ cond (same k p.key) (Some p.value) (value_of k l)
        → value_of k (cond c (p ∷ l) (cond d (p ∷ (q ∷ l)) (q ∷ entered p l))) ≡ cond (same k p.key) (Some p.value) (cond (same k q.key) (Some q.value) (value_of k l))
    go true d e h =
        let s : same k q.key ≡ same k p.key = ap (same k) (sym (same-is p.key q.key e)) in
        rw s (twice (same k p.key) (Some p.value) (Some q.value) (value_of k l))
    go false true e h = refl
    go false false e h =
        rw h (apart k p.key q.key (Some p.value) (Some q.value) (value_of k l) e (same k p.key) (same k q.key) refl refl)

-- the last value that parameters give a key, or else r
unfoldable pub latest : Bytes → List Parameter → Option Bytes → Option Bytes
latest k [] r = r
latest k (p ∷ ps) r = latest k ps (cond (same k p.key) (Some p.value) r)

value-all : (k : Bytes) (ps l : List Parameter) → value_of k (entered_all ps l) ≡ latest k ps (value_of k l)
unfolding entered_all_by latest
value-all k [] l = refl
value-all k (p ∷ ps) l = value-all k ps (entered p l) ∙ ap (latest k ps) (value-entered k p l)

latest-append : (k : Bytes) (ps qs : List Parameter) (r : Option Bytes) → latest k (ps ++ qs) r ≡ latest k qs (latest k ps r)
unfolding latest
latest-append k [] qs r = refl
latest-append k (p ∷ ps) qs r = latest-append k ps qs (cond (same k p.key) (Some p.value) r)

-- ---- what none of them is

module _ (test : Parameter → Bool) where
  any-entered : (p : Parameter) (l : List Parameter) → test p ≡ false → any_of test l ≡ false → any_of test (entered p l) ≡ false
  unfolding any_of entered_by
  any-entered p [] h e = rw h
  any-entered p (q ∷ l) h e = go (same p.key q.key) (precedes p.key q.key) (any-entered p l h (or_right (test q) (any_of test l) e))
    where
      go : (c d : Bool) → any_of test (entered p l) ≡ false → any_of test (cond c (p ∷ l) (cond d (p ∷ (q ∷ l)) (q ∷ entered p l))) ≡ false
      go true d f = rw h (or_right (test q) (any_of test l) e)
      go false true f = rw h e
      go false false f = rw (or_left (test q) (any_of test l) e) f

  any-all : (ps l : List Parameter) → any_of test ps ≡ false → any_of test l ≡ false → any_of test (entered_all ps l) ≡ false
  unfolding any_of entered_all_by
  any-all [] l h e = e
  any-all (p ∷ ps) l h e = any-all ps (entered p l) (or_right (test p) (any_of test ps) h) (any-entered p l (or_left (test p) (any_of test ps) h) e)

  any_append : (ps qs : List Parameter) → any_of test ps ≡ false → any_of test qs ≡ false → any_of test (ps ++ qs) ≡ false
  unfolding any_of
  any_append [] qs h e = e
  any_append (p ∷ ps) qs h e = rw (or_left (test p) (any_of test ps) h) (any_append ps qs (or_right (test p) (any_of test ps) h) e)

any-or-left : (f g : Parameter → Bool) (l : List Parameter) → any_of (λ p. f p || g p) l ≡ false → any_of f l ≡ false
unfolding any_of
any-or-left f g [] h = refl
any-or-left f g (p ∷ l) h =
    rw (or_left (f p) (g p) (or_left (f p || g p) (any_of (λ p. f p || g p) l) h)) (any-or-left f g l (or_right (f p || g p) (any_of (λ p. f p || g p) l) h))

any-or-right : (f g : Parameter → Bool) (l : List Parameter) → any_of (λ p. f p || g p) l ≡ false → any_of g l ≡ false
unfolding any_of
any-or-right f g [] h = refl
any-or-right f g (p ∷ l) h =
    rw (or_right (f p) (g p) (or_left (f p || g p) (any_of (λ p. f p || g p) l) h)) (any-or-right f g l (or_right (f p || g p) (any_of (λ p. f p || g p) l) h))

-- ---- how many they are

entered-length : (p : Parameter) (l : List Parameter) → length (entered p l) ≤ suc (length l)
unfolding entered_by
entered-length p [] = le_refl 1
entered-length p (q ∷ l) = go (same p.key q.key) (precedes p.key q.key) (entered-length p l)
  where
    go : (c d : Bool) → length (entered p l) ≤ suc (length l) → length (cond c (p ∷ l) (cond d (p ∷ (q ∷ l)) (q ∷ entered p l))) ≤ suc (suc (length l))
    go true d h = omega arith
    go false true h = omega arith
    go false false h = omega arith

pub all-length : (ps l : List Parameter) → length (entered_all ps l) ≤ length ps + length l
unfolding entered_all_by
all-length [] l = omega arith
all-length (p ∷ ps) l = omega (arith, all-length ps (entered p l), entered-length p l)

-- ---- words that are there or not

pub record Flag : Type 0 where
  pub word : Bytes
  pub given : Bool

unfoldable pub chosen : List Flag → Words
chosen [] = []
chosen (f ∷ fs) = cond f.given (f.word ∷ chosen fs) (chosen fs)

-- a bare word's parameter
unfoldable pub bare : Bytes → Parameter
bare w = record { key = w; value = ascii "true" }

-- what they give a key
unfoldable pub picked : Bytes → List Flag → Option Bytes → Option Bytes
picked k [] r = r
picked k (f ∷ fs) r = picked k fs (cond (same k f.word) (cond f.given (Some (ascii "true")) r) r)

unfoldable pub bare_flags : List Flag → Bool
bare_flags fs = all_of (λ (f : Flag). lacks (is "=") f.word) fs

pub parameter-bare : (w : Bytes) → lacks (is "=") w ≡ true → parameter w ≡ bare w
unfolding parameter bare lacks
parameter-bare w h = rw (not-true (any_of (is "=") w) h)

pub latest-chosen : (k : Bytes) (fs : List Flag) (r : Option Bytes) → bare_flags fs ≡ true → latest k (map parameter (chosen fs)) r ≡ picked k fs r
unfolding bare_flags all_of chosen latest picked bare
latest-chosen k [] r h = refl
latest-chosen k (f ∷ fs) r h =
    go f.given (same k f.word) refl (latest-chosen k fs) (parameter-bare f.word (and_left (lacks (is "=") f.word) _ h)) (and_right (lacks (is "=") f.word) _ h)
  where
    go : (g b : Bool) → same k f.word ≡ b → ((r : Option Bytes) → bare_flags fs ≡ true → latest k (map parameter (chosen fs)) r ≡ picked k fs r)
        → parameter f.word ≡ bare f.word → bare_flags fs ≡ true
        → latest k (map parameter (cond g (f.word ∷ chosen fs) (chosen fs))) r ≡ picked k fs (cond b (cond g (Some (ascii "true")) r) r)
    go true b e ih p a =
        ap (λ (q : Parameter). latest k (map parameter (chosen fs)) (cond (same k q.key) (Some q.value) r)) p
        ∙ ap (λ (c : Bool). latest k (map parameter (chosen fs)) (cond c (Some (ascii "true")) r)) e
        ∙ ih (cond b (Some (ascii "true")) r) a
    go false true e ih p a = ih r a
    go false false e ih p a = ih r a

pub any-chosen : (test : Parameter → Bool) (fs : List Flag) → bare_flags fs ≡ true → any_of (λ (f : Flag). test (bare f.word)) fs ≡ false → any_of test (map parameter (chosen fs)) ≡ false
unfolding bare_flags all_of any_of chosen
any-chosen test [] h e = refl
any-chosen test (f ∷ fs) h e =
    go f.given (parameter-bare f.word (and_left (lacks (is "=") f.word) _ h))
    (or_left (test (bare f.word)) _ e) (any-chosen test fs (and_right (lacks (is "=") f.word) _ h) (or_right (test (bare f.word)) _ e))
  where
    go : (g : Bool) → parameter f.word ≡ bare f.word → test (bare f.word) ≡ false → any_of test (map parameter (chosen fs)) ≡ false
        → any_of test (map parameter (cond g (f.word ∷ chosen fs) (chosen fs))) ≡ false
    go true p t a = rw (p, t) a
    go false p t a = a

-- ---- the judgement

-- 11, 12 or 13 of one parameter
unfoldable pub faulty : Name → Parameter → Bool
faulty n p = unknown n p || (misspelt (kind_of n p) p.value || too_long (kind_of n p) p.value)

module _ (w : Bytes) (own : List Parameter) (fs : List Flag) where
  -- the table of a step with that name, parameters of its own, and flags
  unfoldable pub table_from : List Parameter
  table_from = entered_all (name w ∷ (own ++ map parameter (chosen fs))) []

  -- the value of a key in it
  unfoldable pub look : Bytes → Option Bytes
  look k = picked k fs (latest k own (cond (same k (ascii "_name")) (Some w) None))

module _ (w : Bytes) (own : List Parameter) (fs : List Flag) (b : bare_flags fs ≡ true) where
  pub looked : (k : Bytes) → value_of k (table_from w own fs) ≡ look w own fs k
  unfolding table_from look name
  looked k =
      value-all k (name w ∷ (own ++ map parameter (chosen fs))) []
      ∙ unfold latest value_of name in (latest-append k own (map parameter (chosen fs)) (cond (same k (ascii "_name")) (Some w) None))
      ∙ latest-chosen k fs (latest k own (cond (same k (ascii "_name")) (Some w) None)) b

  table-faultless : (n : Name) → any_of (faulty n) (name w ∷ own) ≡ false → any_of (λ (f : Flag). faulty n (bare f.word)) fs ≡ false
      → any_of (faulty n) (table_from w own fs) ≡ false
  unfolding table_from
  table-faultless n o f =
      let z : any_of (faulty n) [] ≡ false = unfold any_of in refl in
      any-all (faulty n) (name w ∷ (own ++ map parameter (chosen fs))) [] (any_append (faulty n) (name w ∷ own) (map parameter (chosen fs)) o (any-chosen (faulty n) fs b f)) z

-- 12, and 13
abbrev astray : Name → Parameter → Bool
astray n p = misspelt (kind_of n p) p.value

abbrev over : Name → Parameter → Bool
over n p = too_long (kind_of n p) p.value

faultless-judged : (mode : Mode) (n : Name) (ps : List Parameter) → any_of (faulty n) ps ≡ false → judged11 mode n ps ≡ judged14 (own_rule mode n ps)
unfolding judged11 faulty
faultless-judged mode n ps h =
    let r = any-or-right (unknown n) (λ p. astray n p || over n p) ps h in
    rw (any-or-left (unknown n) (λ p. astray n p || over n p) ps h, any-or-left (astray n) (over n) ps r, any-or-right (astray n) (over n) ps r)

module _ (mode : Mode) (w : Bytes) (own : List Parameter) (fs : List Flag) (b : bare_flags fs ≡ true) where
  pub table-judged : (n : Name) (s : Step) → named (look w own fs (ascii "_name")) ≡ Some n → any_of (faulty n) (name w ∷ own) ≡ false
      → any_of (λ (f : Flag). faulty n (bare f.word)) fs ≡ false → own_rule mode n (table_from w own fs) ≡ Some s → judged mode (table_from w own fs) ≡ answers s
  unfolding judged judged10 judged14
  table-judged n s e o f r =
      rw (looked w own fs b (ascii "_name"), e) (faultless-judged mode n (table_from w own fs) (table-faultless w own fs b n o f) ∙ ap judged14 r)
