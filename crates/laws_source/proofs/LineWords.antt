-- What a reader collects of some lines has the words that stand before the `#` of each, whatever the lines' edges; and `lined` has the same. Neither has a
-- newline.
use Rattle.std.specs.Prelude.{◌≡◌, ℕ, Bool, cond, not}
use Rattle.std.proofs.Math.Path.{refl, ap}
use Rattle.std.proofs.Common.{sym, ◌∙◌}
use Rattle.std.proofs.Math.Bool.{true, false}
use mathlib.Core.List.{List, [], ◌∷◌, ◌++◌, flat_map, append-nil, append_assoc}
use Rattle.rules.specs.Text.Ascii.{ascii, is}
use Rattle.rules.specs.Text.Lists.{all_of, non_empty}
use Rattle.rules.specs.Text.Bytes.{Bytes, Words, white, trim_start, trim_end, trimmed, before, cut, words}
use Rattle.rules.specs.Text.Comments.{uncommented, lined}
use Rattle.laws_lists.specs.Tests.{and_left, and_right}
use Rattle.laws_lists.specs.Lists.{all_append}
use Rattle.laws_text.specs.Passes.{words-nil}
use Rattle.laws_text.specs.Plain.{cut-lacks}
use Rattle.laws_source.specs.Strings.{is_empty, first, without_return, lines_of, lines}
use Rattle.laws_source.specs.Readers.{first_part, collected, loop, comments_turn, proj_turn}
use Rattle.laws_source.proofs.Branch.{first-cut, never-full}
use Rattle.laws_source.specs.Words.{dark-byte, words-gap, words-before, words-before-return, words-trimmed}

-- ---- the words of lines

-- no white space is a `#`
mark-dark : (x : ℕ) → white x ≡ true → is "#" x ≡ false
mark-dark = dark-byte 35 (unfold white in refl)

-- those of each line up to its `#`, one line after the in_line
unfoldable pub line_words : List Bytes → Words
line_words [] = []
line_words (l ∷ ls) = words (before (is "#") l) ++ line_words ls

joined-lines : (a : Bytes) (ls : List Bytes) → words (a ++ flat_map uncommented ls) ≡ words a ++ line_words ls
unfolding flat_map uncommented line_words
joined-lines a [] = rw (append-nil a, append-nil (words a)) refl
joined-lines a (l ∷ ls) =
    rw (words-gap a 32 (before (is "#") l ++ flat_map uncommented ls) (unfold white in refl), joined-lines (before (is "#") l) ls) refl

pub lined-words : (t : Bytes) → words (lined t) ≡ line_words (cut (is "\n") t)
unfolding lined
lined-words t = rw (joined-lines [] (cut (is "\n") t), words-nil) refl

-- the source's lines have the words of the pieces
pub lines-words : (ps : List Bytes) → line_words (lines_of ps) ≡ line_words ps
unfolding line_words lines_of
lines-words [] = refl
lines-words (l ∷ []) = go l
  where
    go : (l : Bytes) → line_words (cond (non_empty l) (l ∷ []) []) ≡ words (before (is "#") l) ++ []
    go [] = unfold before non_empty line_words in rw words-nil refl
    go (x ∷ l) = unfold non_empty line_words in refl
lines-words (l ∷ k ∷ ls) = rw (words-before-return (is "#") mark-dark l, lines-words (k ∷ ls)) refl

-- ---- the words of what is collected

-- a turn adds the words of its line
abbrev pub Adds : (Bytes → Bytes → Bytes) → Type 0
Adds turn = (so line : Bytes) → words (turn so line) ≡ words so ++ words (before (is "#") line)

collected-words : Adds collected
unfolding collected ascii first_part
collected-words so line =
    words-gap so 32 (trimmed white (first (cut (is "#") (trimmed white line)))) (unfold white in refl)
    ∙ ap (λ (ws : Words). words so ++ ws)
    (words-trimmed (first (cut (is "#") (trimmed white line))) ∙ rw (first-cut (is "#") (trimmed white line)) (words-before (is "#") mark-dark line))

trimmed-words : (so line : Bytes) → words (collected so (trimmed white line)) ≡ words so ++ words (before (is "#") line)
trimmed-words so line = rw (collected-words so (trimmed white line), words-before (is "#") mark-dark line) refl

pub proj-adds : (branch : Bytes → Bytes) → Adds (proj_turn branch)
unfolding proj_turn
proj-adds branch so line = rw (never-full (trimmed white line)) (trimmed-words so line)

-- a line that is empty once it is trimmed has no words
pub comments-adds : (branch : Bytes → Bytes) → Adds (comments_turn branch)
unfolding comments_turn is_empty
comments-adds branch so line = rw (never-full (trimmed white line)) (go (trimmed white line) refl)
  where
    none : trimmed white line ≡ [] → words (before (is "#") line) ≡ []
    none e = sym (words-before (is "#") mark-dark line) ∙ rw e (unfold before in words-nil)

    go : (l : Bytes) → trimmed white line ≡ l → words (cond (not (non_empty l)) so (collected so l)) ≡ words so ++ words (before (is "#") line)
    go [] e = unfold non_empty in rw (none e, append-nil (words so)) refl
    go (x ∷ l) e = unfold non_empty in rw (← e) (trimmed-words so line)

loop-words : (turn : Bytes → Bytes → Bytes) → Adds turn → (so : Bytes) (ls : List Bytes) → words (loop turn so ls) ≡ words so ++ line_words ls
unfolding loop line_words
loop-words turn f so [] = rw (append-nil (words so)) refl
loop-words turn f so (l ∷ ls) = rw (loop-words turn f (turn so l) ls, f so l) (append_assoc (words so) (words (before (is "#") l)) (line_words ls))

-- So what is collected of a text's lines has the words of `lined`.
pub same-words : (turn : Bytes → Bytes → Bytes) → Adds turn → (t : Bytes) → words (loop turn [] (lines t)) ≡ words (lined t)
unfolding lines
same-words turn f t = rw (loop-words turn f [] (lines_of (cut (is "\n") t)), words-nil, lines-words (cut (is "\n") t), lined-words t) refl

-- ---- no newline is left

-- a byte of a line: any but a newline
abbrev pub in_line : ℕ → Bool
in_line b = not (is "\n" b)

-- What is left of a text has no byte that the text has not.
module _ (p : ℕ → Bool) where
  pub before-all : (test : ℕ → Bool) (t : Bytes) → all_of p t ≡ true → all_of p (before test t) ≡ true
  unfolding before all_of
  before-all test [] h = refl
  before-all test (x ∷ t) h = go (test x) (before-all test t (and_right (p x) (all_of p t) h))
    where
      go : (b : Bool) → all_of p (before test t) ≡ true → all_of p (cond b [] (x ∷ before test t)) ≡ true
      go true i = refl
      go false i = rw (and_left (p x) (all_of p t) h) i

  start-all : (test : ℕ → Bool) (t : Bytes) → all_of p t ≡ true → all_of p (trim_start test t) ≡ true
  unfolding trim_start all_of
  start-all test [] h = refl
  start-all test (x ∷ t) h = go (test x) (start-all test t (and_right (p x) (all_of p t) h))
    where
      go : (b : Bool) → all_of p (trim_start test t) ≡ true → all_of p (cond b (trim_start test t) (x ∷ t)) ≡ true
      go true i = i
      go false i = h

  end-all : (test : ℕ → Bool) (t : Bytes) → all_of p t ≡ true → all_of p (trim_end test t) ≡ true
  unfolding trim_end all_of
  end-all test [] h = refl
  end-all test (x ∷ t) h = go (all_of test (x ∷ t)) (end-all test t (and_right (p x) (all_of p t) h))
    where
      go : (b : Bool) → all_of p (trim_end test t) ≡ true → all_of p (cond b [] (x ∷ trim_end test t)) ≡ true
      go true i = refl
      go false i = rw (and_left (p x) (all_of p t) h) i

  pub trimmed-all : (test : ℕ → Bool) (t : Bytes) → all_of p t ≡ true → all_of p (trimmed test t) ≡ true
  unfolding trimmed
  trimmed-all test t h = end-all test (trim_start test t) (start-all test t h)

  return-all : (t : Bytes) → all_of p t ≡ true → all_of p (without_return t) ≡ true
  unfolding without_return all_of
  return-all [] h = refl
  return-all (x ∷ []) h = go (is "\r" x)
    where
      go : (b : Bool) → all_of p (cond b [] (x ∷ [])) ≡ true
      go true = refl
      go false = h
  return-all (x ∷ y ∷ t) h = rw (and_left (p x) (all_of p (y ∷ t)) h) (return-all (y ∷ t) (and_right (p x) (all_of p (y ∷ t)) h))

-- the pieces between newlines are lines
abbrev line_each : List Bytes → Type 0
line_each ls = all_of (all_of in_line) ls ≡ true

lines-each : (ps : List Bytes) → line_each ps → line_each (lines_of ps)
unfolding all_of lines_of
lines-each [] h = refl
lines-each (l ∷ []) h = go (non_empty l)
  where
    go : (b : Bool) → line_each (cond b (l ∷ []) [])
    go true = h
    go false = refl
lines-each (l ∷ k ∷ ls) h =
    rw (return-all in_line l (and_left (all_of in_line l) (all_of (all_of in_line) (k ∷ ls)) h)) (lines-each (k ∷ ls) (and_right (all_of in_line l) (all_of (all_of in_line) (k ∷ ls)) h))

uncommented-line : (ls : List Bytes) → line_each ls → all_of in_line (flat_map uncommented ls) ≡ true
unfolding flat_map uncommented all_of
uncommented-line [] h = refl
uncommented-line (l ∷ ls) h =
    all_append in_line (before (is "#") l) (flat_map uncommented ls) (before-all in_line (is "#") l (and_left (all_of in_line l) (all_of (all_of in_line) ls) h))
    (uncommented-line ls (and_right (all_of in_line l) (all_of (all_of in_line) ls) h))

pub lined-line : (t : Bytes) → all_of in_line (lined t) ≡ true
unfolding lined
lined-line t = uncommented-line (cut (is "\n") t) (cut-lacks (is "\n") t)

-- a turn that brings no newline
abbrev pub Keeps : (Bytes → Bytes → Bytes) → Type 0
Keeps turn = (so line : Bytes) → all_of in_line so ≡ true → all_of in_line line ≡ true → all_of in_line (turn so line) ≡ true

first-line : (line : Bytes) → all_of in_line line ≡ true → all_of in_line (first_part line) ≡ true
unfolding first_part
first-line line k = rw (first-cut (is "#") (trimmed white line)) (before-all in_line (is "#") (trimmed white line) (trimmed-all in_line white line k))

collected-line : Keeps collected
unfolding collected ascii all_of
collected-line so line h k =
    all_append in_line so (32 ∷ trimmed white (first_part line)) h (trimmed-all in_line white (first_part line) (first-line line k))

pub proj-keeps : (branch : Bytes → Bytes) → Keeps (proj_turn branch)
unfolding proj_turn
proj-keeps branch so line h k = rw (never-full (trimmed white line)) (collected-line so (trimmed white line) h (trimmed-all in_line white line k))

pub comments-keeps : (branch : Bytes → Bytes) → Keeps (comments_turn branch)
unfolding comments_turn
comments-keeps branch so line h k = rw (never-full (trimmed white line)) (go (is_empty (trimmed white line)))
  where
    go : (b : Bool) → all_of in_line (cond b so (collected so (trimmed white line))) ≡ true
    go true = h
    go false = collected-line so (trimmed white line) h (trimmed-all in_line white line k)

loop-line : (turn : Bytes → Bytes → Bytes) → Keeps turn → (so : Bytes) (ls : List Bytes) → all_of in_line so ≡ true → line_each ls
    → all_of in_line (loop turn so ls) ≡ true
unfolding all_of loop
loop-line turn f so [] h k = h
loop-line turn f so (l ∷ ls) h k =
    loop-line turn f (turn so l) ls (f so l h (and_left (all_of in_line l) (all_of (all_of in_line) ls) k)) (and_right (all_of in_line l) (all_of (all_of in_line) ls) k)

pub collected-lines : (turn : Bytes → Bytes → Bytes) → Keeps turn → (t : Bytes) → all_of in_line (loop turn [] (lines t)) ≡ true
unfolding lines
collected-lines turn f t = loop-line turn f [] (lines_of (cut (is "\n") t)) (unfold all_of in refl) (lines-each (cut (is "\n") t) (cut-lacks (is "\n") t))
