-- A PROJ text cut into steps, and a step's own words as the answer has them.
use Rattle.std.specs.Prelude.{Bool, true, false, cond, ◌&&◌, not, [], ◌∷◌, ◌++◌, map, drop}
use Rattle.rules.specs.Text.Ascii.{ascii, is}
use Rattle.rules.specs.Text.Lists.{any_of, kept, non_empty}
use Rattle.rules.specs.Text.Bytes.{Bytes, Words, Steps, white, same, starts, replace, trim_start, trimmed, onto, words}
use Rattle.rules.specs.Text.Normal.{normal}
use Rattle.rules.specs.Text.Comments.{newlines, lined}

-- ---- the cut PROJ text

-- the source: PROJ's `+` goes after a space, after a newline, and at the front
unfoldable pub unplussed : Bytes → Bytes
unplussed t = trim_start (is "+") (trimmed white (replace (ascii "\n+") (ascii " ") (replace (ascii " +") (ascii " ") t)))

-- the word `step`
unfoldable pub is_step : Bytes → Bool
is_step w = same w (ascii "step")

-- The words cut at each `step`. The source cuts at ` step `, with both spaces, so that the word right after a cut never
-- is another. (That these are the source's steps: laws_source/Steps.)
unfoldable pub cut_at_step : Bool → Words → Steps
cut_at_step right_after [] = [] ∷ []
cut_at_step true (w ∷ ws) = onto w (cut_at_step false ws)
cut_at_step false (w ∷ ws) = cond (is_step w) ([] ∷ cut_at_step true ws) (onto w (cut_at_step false ws))

-- the source: a `step` in front of other words is noise
unfoldable pub without_noise : Words → Words
without_noise [] = []
without_noise (w ∷ []) = w ∷ []
without_noise (w ∷ v ∷ ws) = cond (is_step w) (v ∷ ws) (w ∷ v ∷ ws)

-- "the cut PROJ text": its steps, each as its words, without empty ones
unfoldable pub proj_steps : Bytes → Steps
proj_steps t = kept non_empty (map without_noise (cut_at_step false (words (normal (lined (unplussed (newlines t)))))))

-- ---- `proj=` in front

-- a word `proj=..`
unfoldable pub is_proj : Bytes → Bool
is_proj w = starts (ascii "proj=") w

-- the first `proj=..`
unfoldable pub first_proj : Words → Bytes
first_proj [] = []
first_proj (w ∷ ws) = cond (is_proj w) w (first_proj ws)

-- the words with v in its place
unfoldable pub in_its_place : Bytes → Words → Words
in_its_place v [] = []
in_its_place v (w ∷ ws) = cond (is_proj w) (v ∷ ws) (w ∷ in_its_place v ws)

-- "`proj=` changes places with the first element", and "with `proj=` cut off"
unfoldable pub exchanged : Words → Words
exchanged [] = []
exchanged (w ∷ ws) =
    cond (is_proj w) (drop 5 w ∷ ws)
    (cond (any_of is_proj ws) (drop 5 (first_proj ws) ∷ in_its_place w ws)
    (w ∷ ws))

-- ---- the ellipsoid and the scale

-- does a word begin with the key?
unfoldable pub has_key : Bytes → Words → Bool
has_key key ws = any_of (starts key) ws

-- of words one of which begins with the key, the last that does
unfoldable pub last_of : Bytes → Words → Bytes
last_of key [] = []
last_of key (w ∷ ws) = cond (has_key key ws) (last_of key ws) w

-- the same words without that one
unfoldable pub without_last : Bytes → Words → Words
without_last key [] = []
without_last key (w ∷ ws) = cond (has_key key ws) (w ∷ without_last key ws) ws

-- "the last `a=` and last `rf=` become a final `ellps=a,rf`"
unfoldable pub composed : Words → Words
composed ws =
    without_last (ascii "rf=") (without_last (ascii "a=") ws)
    ++ ((ascii "ellps=" ++ (drop 2 (last_of (ascii "a=") ws) ++ (ascii "," ++ drop 3 (last_of (ascii "rf=") ws)))) ∷ [])

-- "With no `ellps=`", and where there are both
unfoldable pub ellipsoid : Words → Words
ellipsoid ws =
    cond (not (has_key (ascii "ellps=") ws) && (has_key (ascii "a=") ws && has_key (ascii "rf=") ws)) (composed ws) ws

-- "the first `k=` becomes `k_0=`"
unfoldable pub scale : Words → Words
scale [] = []
scale (w ∷ ws) = cond (starts (ascii "k=") w) ((ascii "k_0=" ++ drop 2 w) ∷ ws) (w ∷ scale ws)

-- a step's own words as the answer has them
unfoldable pub tidied : Words → Words
tidied ws = scale (ellipsoid (exchanged ws))
