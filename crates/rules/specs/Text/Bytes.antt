-- Texts: the domain, finding and replacing, trimming, cutting and joining.
use Rattle.std.specs.Prelude.{ℕ, zero, suc, ◌-◌, Bool, true, false, cond, ◌&&◌, ◌||◌, List, [], ◌∷◌, ◌++◌, length, eqb, leb, ltb}
use Rattle.rules.specs.Text.Lists.{all_of, kept, non_empty}

-- a text is the list of its bytes; a word is a text, and a step is the list of its words
abbrev pub Bytes : Type 0
Bytes = List ℕ

abbrev pub Words : Type 0
Words = List Bytes

abbrev pub Steps : Type 0
Steps = List Words

-- ---- the domain

-- "White space is bytes 9 to 13 and 32."
unfoldable pub white : ℕ → Bool
white b = eqb b 32 || (leb 9 b && leb b 13)

-- "the ten subscript digits (bytes E2 82 80 to E2 82 89)"
unfoldable pub subscript : ℕ → ℕ → ℕ → Bool
subscript x y z = eqb x 226 && (eqb y 130 && (leb 128 z && leb z 137))

-- "texts of ASCII plus the ten subscript digits", each of them whole
unfoldable pub in_domain : Bytes → Bool
in_domain [] = true
in_domain (x ∷ []) = ltb x 128
in_domain (x ∷ y ∷ []) = ltb x 128 && ltb y 128
in_domain (x ∷ y ∷ z ∷ t) = cond (ltb x 128) (in_domain (y ∷ z ∷ t)) (subscript x y z && in_domain t)

-- ---- finding and replacing

-- are the two texts the same?
unfoldable pub same : Bytes → Bytes → Bool
same [] [] = true
same [] (y ∷ u) = false
same (x ∷ t) [] = false
same (x ∷ t) (y ∷ u) = eqb x y && same t u

-- does the text begin with `old`?
unfoldable pub starts : Bytes → Bytes → Bool
starts [] t = true
starts (p ∷ old) [] = false
starts (p ∷ old) (x ∷ t) = eqb x p && starts old t

-- does `old` stand somewhere in the text?
unfoldable pub contains : Bytes → Bytes → Bool
contains old [] = starts old []
contains old (x ∷ t) = starts old (x ∷ t) || contains old t

-- The text with each `old`, left to right and none overlapping, replaced by `new`. The first k bytes, the rest of an
-- `old`, are passed over.
unfoldable pub replace_from : ℕ → Bytes → Bytes → Bytes → Bytes
replace_from k old new [] = []
replace_from (suc k) old new (x ∷ t) = replace_from k old new t
replace_from zero old new (x ∷ t) =
    cond (starts old (x ∷ t)) (new ++ replace_from (length old - 1) old new t) (x ∷ replace_from zero old new t)

-- a replacement "over the whole text"
unfoldable pub replace : Bytes → Bytes → Bytes → Bytes
replace old new t = replace_from zero old new t

-- ---- trimming

-- the text without the bytes at its start that pass the test
unfoldable pub trim_start : (ℕ → Bool) → Bytes → Bytes
trim_start test [] = []
trim_start test (x ∷ t) = cond (test x) (trim_start test t) (x ∷ t)

-- without those at its end: nothing is left of a text of such bytes alone, else its first byte stays
unfoldable pub trim_end : (ℕ → Bool) → Bytes → Bytes
trim_end test [] = []
trim_end test (x ∷ t) = cond (all_of test (x ∷ t)) [] (x ∷ trim_end test t)

-- without either
unfoldable pub trimmed : (ℕ → Bool) → Bytes → Bytes
trimmed test t = trim_end test (trim_start test t)

-- ---- cutting

-- the bytes before the first that passes the test: all of them where none does
unfoldable pub before : (ℕ → Bool) → Bytes → Bytes
before test [] = []
before test (x ∷ t) = cond (test x) [] (x ∷ before test t)

-- the bytes behind it: none where none does
unfoldable pub behind : (ℕ → Bool) → Bytes → Bytes
behind test [] = []
behind test (x ∷ t) = cond (test x) t (behind test t)

-- x put in front of the first piece
unfoldable pub onto : {A : Type 0} → A → List (List A) → List (List A)
onto x [] = (x ∷ []) ∷ []
onto x (p ∷ ps) = (x ∷ p) ∷ ps

-- the pieces between the bytes that pass the test, empty pieces too
unfoldable pub cut : (ℕ → Bool) → Bytes → List Bytes
cut test [] = [] ∷ []
cut test (x ∷ t) = cond (test x) ([] ∷ cut test t) (onto x (cut test t))

-- the words: the pieces between white space that are not empty
unfoldable pub words : Bytes → Words
words t = kept non_empty (cut white t)

-- ---- joining

-- each text after a `sep`
unfoldable pub after_each : Bytes → List Bytes → Bytes
after_each sep [] = []
after_each sep (w ∷ ws) = sep ++ (w ++ after_each sep ws)

-- the texts with a `sep` between
unfoldable pub joined_by : Bytes → List Bytes → Bytes
joined_by sep [] = []
joined_by sep (w ∷ ws) = w ++ after_each sep ws

-- the words with one space between
unfoldable pub joined : Words → Bytes
joined ws = joined_by (32 ∷ []) ws
