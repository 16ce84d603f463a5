-- What the Rust's library does to a text, where the source calls it and `rules` has no word for it. `rules` has these: `trim` is `trimmed white`,
-- `trim_start_matches` of a byte is `trim_start`, `replace` is `replace`, `split` at a byte is `cut`, `split_whitespace` is `words`, and `starts_with` is `starts`.
-- White space is that of document 01's domain, in which the Rust has no other.
use Rattle.std.specs.Prelude.{ℕ, zero, suc, ◌-◌, Bool, cond, not, ◌&&◌, List, [], ◌∷◌, length, drop, leb}
use Rattle.rules.specs.Text.Ascii.{is}
use Rattle.rules.specs.Text.Lists.{non_empty}
use Rattle.rules.specs.Text.Bytes.{Bytes, same, starts, onto, cut}

-- `is_empty`
unfoldable pub is_empty : Bytes → Bool
is_empty t = not (non_empty t)

-- `ends_with`
unfoldable pub ends : Bytes → Bytes → Bool
ends old t = leb (length old) (length t) && same (drop (length t - length old) t) old

-- `v[0]`, of a list that is never empty
unfoldable pub first : List Bytes → Bytes
first [] = []
first (p ∷ ps) = p

-- `lines`: a line ends in a newline, or in CR and a newline; behind the last newline there is a line only if there are bytes
unfoldable pub without_return : Bytes → Bytes
without_return [] = []
without_return (x ∷ []) = cond (is "\r" x) [] (x ∷ [])
without_return (x ∷ y ∷ t) = x ∷ without_return (y ∷ t)

unfoldable pub lines_of : List Bytes → List Bytes
lines_of [] = []
lines_of (l ∷ []) = cond (non_empty l) (l ∷ []) []
lines_of (l ∷ k ∷ ls) = without_return l ∷ lines_of (k ∷ ls)

unfoldable pub lines : Bytes → List Bytes
lines t = lines_of (cut (is "\n") t)

-- `split` at a text that is not empty: the pieces between its places, left to right and none overlapping, empty pieces too. The first k bytes, the rest of a place, are
-- passed over.
unfoldable pub split_from : ℕ → Bytes → Bytes → List Bytes
split_from k old [] = [] ∷ []
split_from (suc k) old (x ∷ t) = split_from k old t
split_from zero old (x ∷ t) = cond (starts old (x ∷ t)) ([] ∷ split_from (length old - 1) old t) (onto x (split_from zero old t))

unfoldable pub split_at : Bytes → Bytes → List Bytes
split_at old t = split_from zero old t

-- `trim_start_matches` of a text that is not empty: it goes from the front as often as it stands there. The first k bytes, the rest of one, are passed over.
unfoldable pub trim_from : ℕ → Bytes → Bytes → Bytes
trim_from k old [] = []
trim_from (suc k) old (x ∷ t) = trim_from k old t
trim_from zero old (x ∷ t) = cond (starts old (x ∷ t)) (trim_from (length old - 1) old t) (x ∷ t)

unfoldable pub trim_start_matches : Bytes → Bytes → Bytes
trim_start_matches old t = trim_from zero old t
