-- How much can be printed: out has room for it. No number that is printed has more than five digits.
use mathlib.Core.Path.{◌≡◌, refl, ap}
use mathlib.Core.Bool.{Bool, true, false, cond}
use mathlib.Core.List.{List, [], ◌∷◌, ◌++◌, flat_map}
use Prim.Native.Nat.{ℕ, suc, ◌+◌, ◌*◌, ◌^◌, ◌≤◌, ◌<◌}
use native.Mathlib.Omega.{arith}
use borrow.Author.Tests.{ltb-false}
use lib.ListN.{length, length-append}
use lib.Dec.{ltb}
use Rattle.rules.specs.Text.Ascii.{ascii}
use Rattle.rules.specs.Text.Bytes.{Bytes}
use Rattle.rules.specs.Text.Refusal.{Reply, answers, refuses, refuses12, tested}
use Rattle.rules.specs.Text.Normal.{normal}
use Rattle.rules.specs.Text.Comments.{stripped}
use Rattle.rules.specs.Text.Split.{line, steps, split_steps, split}
use Rattle.rules.specs.Proj.Translate.{translate}
use Rattle.rules.specs.Pipeline.Prepare.{prepare_in, prepare_as}
use Rattle.rules.specs.Pipeline.Check.{nth, check}
use Rattle.rules.specs.declared.Mode.{Mode}
use Rattle.rules.specs.declared.Reading.{Reading}
use Rattle.rules.specs.declared.Step.{Step}
use Rattle.rules.specs.declared.Place.{Place}
use Rattle.rules.specs.declared.Direction.{Direction}
use Rattle.rules.specs.declared.Direction.TheVariants.{Forward, Inverse}
use Rattle.rules.specs.declared.Verdict.{Verdict}
use Rattle.rules.specs.declared.Verdict.TheVariants.{Passes, TooFew, TooMany, Refused}
use Rattle.rules.specs.declared.Foretold.{Foretold}
use Rattle.rules.specs.Text.Numerals.{digits}
use Rattle.rules.specs.Face.Shown.{counted, refusal_text, offset_text, heading, headed, or_refused, called, shown_checks, shown_steps, translated_line, shown, signed_place, two_places, four_places}
use Rattle.rules.specs.Face.Shown.{pass_text, verdict_text, verdict_line, both_checks}
use Rattle.laws_text.specs.Numerals.{digits-length}
use Rattle.laws_text.specs.Sizes.{steps-few, proj-few}
use Rattle.laws_text.specs.Refusals.{Refusing, OfAStep, then-refuses, tested-refuses, split-refuses, translate-refuses, prepare-refuses}
use Rattle.laws_steps.specs.Named.{Named, FourNamed}
use Rattle.laws_steps.specs.Foretold.{foretells}
use Rattle.laws_records.specs.Made.{prepare-as-made, tested-answers}
use Rattle.laws_records.specs.Prepared.{check-never-18}
use Rattle.laws_steps.specs.Limits.{few-within, many-within, pass-within}
use Rattle.show.proofs.Located.{Other, Located, split-other, translate-other, prepare-located}
use Rattle.show.proofs.Replies.{Of, of-refusal, of-answers, of-then, of-tested, Made, split-made}
use Rattle.show.specs.Lines.{numbered, steps-numbered}

-- ---- numbers and words

-- five digits at most
abbrev Small : ℕ → Type 0
Small n = n < 10 ^ 5

counted-length : (w : Bytes) (n : ℕ) → Small n → length (counted w n) ≤ length w + 5
unfolding counted
counted-length w n h = omega (arith, length-append w (digits n), digits-length 4 n h)

line-length : (t : Bytes) → length (line t) ≡ length t + 1
unfolding line ascii
line-length t = length-append t (10 ∷ [])

refused-length : (n place : ℕ) → Small n → Small place → length (refusal_text n place) ≤ 19
unfolding refusal_text ascii
refused-length n place h k =
    omega (arith, length-append (counted (ascii "refused ") n) (counted (ascii " ") place), counted-length (ascii "refused ") n h, counted-length (ascii " ") place k)

-- (an offset has six digits at most)
offset-length : (place offset : ℕ) → Small place → offset < 10 ^ 6 → length (offset_text place offset) ≤ 26
unfolding offset_text counted ascii
offset-length place offset h k =
    omega (arith, length-append (refusal_text 12 place) (counted (ascii " ") offset), refused-length 12 place (omega arith) h, length-append (ascii " ") (digits offset), digits-length 5 offset k)

-- ---- a check's line

mark-length : (b : Bool) → length (cond b (ascii "-") []) ≤ 1
unfolding ascii
mark-length true = omega arith
mark-length false = omega arith

signed-length : (w : Bytes) (p : Place) → Named p → length (signed_place w p) ≤ length w + 6
unfolding signed_place
signed-length w p h =
    let l : Small p.axis = omega (arith, h.most) in
    omega (arith, counted-length (w ++ cond p.minus (ascii "-") []) p.axis l, length-append w (cond p.minus (ascii "-") []), mark-length p.minus)

pair-length : (w : Bytes) (p q : Place) → Named p → Named q → length (two_places w p q) ≤ length w + 13
unfolding two_places ascii
pair-length w p q h k = omega (arith, length-append (signed_place w p) (signed_place (ascii ",") q), signed-length w p h, signed-length (ascii ",") q k)

places-length : (b : Bool) (l : List Place) → (b ≡ true → FourNamed l) → length (cond b (four_places l) []) ≤ 35
unfolding four_places ascii
places-length true l h =
    let n = h refl in
    let x = two_places (ascii " places ") (nth l 0) (nth l 1) in
    let y = two_places (ascii ",") (nth l 2) (nth l 3) in
    let a = pair-length (ascii " places ") (nth l 0) (nth l 1) n.first n.second in
    let b = pair-length (ascii ",") (nth l 2) (nth l 3) n.third n.fourth in
    omega (arith, length-append x y)
places-length false l h = omega arith

passed_length : (f : Foretold) → Small f.deepest → Small f.left → (f.told ≡ true → FourNamed f.places) → length (pass_text f) ≤ 59
unfolding pass_text ascii
passed_length f h k n =
    let x = counted (ascii "deepest ") f.deepest in
    let y = counted (ascii " left ") f.left in
    let z = cond f.told (four_places f.places) [] in
    let a = counted-length (ascii "deepest ") f.deepest h in
    let b = counted-length (ascii " left ") f.left k in
    omega (arith, length-append (x ++ y) z, length-append x y, places-length f.told f.places n)

step-length : (k : ℕ) (w : Bytes) → Small k → length (counted (ascii "step ") k ++ w) ≤ length w + 10
unfolding ascii
step-length k w h = omega (arith, length-append (counted (ascii "step ") k) w, counted-length (ascii "step ") k h)

-- of a table that was prepared in a reading and a mode
module _ (r : Reading) (mode : Mode) (t : Bytes) (ss : List Step) (e : tested (prepare_as r mode) t ≡ answers ss) where
  step_small : (k : ℕ) → k ≤ length ss → Small k
  step_small k h = omega (arith, (prepare-as-made r mode t ss (tested-answers (prepare_as r mode) t ss e)).1)

  judged-length : (d : Direction) (v : Verdict) → (check d ss).verdict ≡ v → length (verdict_text v (check d ss)) ≤ 59
  unfolding verdict_text ascii
  judged-length d Passes h =
      let w = pass-within d ss h in
      passed_length (check d ss) (omega arith) (omega arith) (foretells d ss [] h).named
  judged-length d (TooFew k) h = omega (arith, step-length k (ascii " too few") (step_small k (few-within d ss k h)))
  judged-length d (TooMany k) h = omega (arith, step-length k (ascii " too many") (step_small k (many-within d ss k h)))
  judged-length d (Refused n k) h = absurd (check-never-18 r mode t ss e d n k h)

  verdict-length : (w : Bytes) (d : Direction) → length (verdict_line w (check d ss)) ≤ length w + 60
  unfolding verdict_line
  verdict-length w d =
      let u = verdict_text (check d ss).verdict (check d ss) in
      omega (arith, line-length (w ++ u), length-append w u, judged-length d (check d ss).verdict refl)

  checks-length : length (both_checks ss) ≤ 138
  unfolding both_checks ascii
  checks-length =
      let x = verdict_line (ascii "forward: ") (check Forward ss) in
      let y = verdict_line (ascii "inverse: ") (check Inverse ss) in
      omega (arith, length-append x y, verdict-length (ascii "forward: ") Forward, verdict-length (ascii "inverse: ") Inverse)

-- ---- the steps' lines

heading-length : (k : ℕ) → Small k → length (heading k) ≤ 12
unfolding heading ascii
heading-length k h = omega (arith, step-length k (ascii ": ") h)

numbered-length : (k : ℕ) (ts : List Bytes) → k + length ts ≤ 10 ^ 5 → length (numbered k ts) ≤ length (flat_map line ts) + 12 * length ts
unfolding flat_map numbered
numbered-length k [] h = omega arith
numbered-length k (t ∷ ts) h =
    let a = heading-length k (omega arith) in
    let b = numbered-length (suc k) ts (omega arith) in
    omega (arith, length-append (heading k ++ line t) (numbered (suc k) ts), length-append (heading k) (line t), length-append (line t) (flat_map line ts))

-- the lines of a split: at most 64
record Lines (lines : Bytes) : Type 0 where
  fits : length (headed 1 false lines) ≤ length lines + 768

made-lines : (t : Bytes) (texts : List Bytes) → Made (steps t) texts → Lines (flat_map line texts)
unfolding steps
made-lines t texts m =
    let f : headed 1 false (flat_map line texts) ≡ numbered 1 texts = rw m.are (steps-numbered (normal (stripped t))) in
    record { fits = omega (arith, ap length f, numbered-length 1 texts (omega arith), m.few) }

split-lines : (t : Bytes) → Of Lines (split t)
unfolding split
split-lines t =
    of-then (Made (steps t)) Lines (split_steps (steps t)) (λ texts. answers (flat_map line texts)) (split-made (steps t))
    (λ texts m. unfold Of in made-lines t texts m)

-- ---- the whole

record Fits (P : Bytes → Type 0) (t : Bytes) : Type 0 where
  size : length t ≤ 65536
  holds : P t

called-fits : (P : Bytes → Type 0) (own : Bytes → Reply Bytes) (t : Bytes) → Of P (own t) → Of (Fits P) (called own t)
unfolding called
called-fits P own t h =
    of-then P (Fits P) (tested own t) (λ x. cond (ltb 65536 (length x)) (refuses 7 0) (answers x)) (of-tested P own t h) (λ x p. go x p (ltb 65536 (length x)) refl)
  where
    go : (x : Bytes) → P x → (b : Bool) → ltb 65536 (length x) ≡ b → Of (Fits P) (cond b (refuses 7 0) (answers x))
    go x p true e = of-refusal (Fits P) 7 0
    go x p false e = unfold Of in record { size = ltb-false 65536 (length x) e; holds = p }

-- what is printed of a reply: so much of an answer, and 27 bytes of a refusal
abbrev BothSmall : ℕ → ℕ → Type 0
BothSmall n place = Small n × Small place

printed : {A : Type 0} (P : A → Type 0) (r : Reply A) (next : A → Bytes) (m : ℕ) → 27 ≤ m → Refusing BothSmall r → Located r → Of P r
    → ((x : A) → P x → length (next x) ≤ m) → length (or_refused r next) ≤ m
unfolding or_refused Of Refusing Located
printed P (answers x) next m k w l h f = f x h
printed P (refuses n place) next m k w l h f = omega (arith, line-length (refusal_text n place), refused-length n place w.0 w.1)
printed P (refuses12 place offset) next m k w l h f = omega (arith, line-length (offset_text place offset), offset-length place offset w.1 l)

module _ (P : ℕ → ℕ → Type 0) (own : Bytes → Reply Bytes) (t : Bytes) where
  called-refuses : P 1 0 → P 2 0 → P 7 0 → (length t ≤ 4096 → Refusing P (own t)) → Refusing P (called own t)
  unfolding Refusing called
  called-refuses one two seven h =
      then-refuses P (tested own t) (λ x. cond (ltb 65536 (length x)) (refuses 7 0) (answers x)) (tested-refuses P own t one two h) (λ x e. go x (ltb 65536 (length x)))
    where
      go : (x : Bytes) (b : Bool) → Refusing P (cond b (refuses 7 0) (answers x))
      go x true = seven
      go x false = tt

called-small : (own : Bytes → Reply Bytes) (t : Bytes) → (length t ≤ 4096 → Refusing BothSmall (own t)) → Refusing BothSmall (called own t)
called-small own t h = called-refuses BothSmall own t (omega arith) (omega arith) (omega arith) h

-- no refusal of a text call is 12
others-located : (r : Reply Bytes) → Refusing Other r → Located r
unfolding Refusing Located
others-located (answers x) h = tt
others-located (refuses n place) h = h
others-located (refuses12 place offset) h = absurd (h refl)

called-located : (own : Bytes → Reply Bytes) (t : Bytes) → Refusing Other (own t) → Located (called own t)
called-located own t h =
    others-located (called own t) (called-refuses Other own t (λ e. omega (arith, e)) (λ e. omega (arith, e)) (λ e. omega (arith, e)) (λ l. h))

-- Of 4,096 bytes, at most 40,961 steps are tried.
translate-small : (t : Bytes) → length t ≤ 4096 → Refusing BothSmall (translate t)
translate-small t l = translate-refuses BothSmall t (λ k h. let s : Small k = omega (arith, proj-few t) in ((omega arith, s), (omega arith, s), (omega arith, s)))

split-small : (t : Bytes) → length t ≤ 4096 → Refusing BothSmall (split t)
split-small t l = split-refuses BothSmall t (λ k h. (omega arith, omega (arith, steps-few t))) (omega arith)

of-a-step : (k : ℕ) → Small k → OfAStep BothSmall k
of-a-step k s =
    record {
      long = (omega arith, s);
      modifiers = (omega arith, s);
      keys = (omega arith, s);
      name = (omega arith, s);
      unknown-key = (omega arith, s);
      no_number = (omega arith, s);
      series = (omega arith, s);
      own = (omega arith, s);
    }

-- either reading refuses what preparing in the mode refuses, by the same number at the same place
prepare-small : (r : Reading) (mode : Mode) (t : Bytes) → length t ≤ 4096 → Refusing BothSmall (prepare_as r mode t)
unfolding prepare_as Refusing
prepare-small r mode t l =
    then-refuses BothSmall (prepare_in mode t) _ (prepare-refuses BothSmall mode t (λ k h. of-a-step k (omega (arith, steps-few t))) (omega arith)) (λ ss e. tt)

shown-checks-length : (r : Reading) (mode : Mode) (t : Bytes) → length (shown_checks r mode t) ≤ 138
unfolding shown_checks
shown-checks-length r mode t =
    let reply = tested (prepare_as r mode) t in
    let Is : List Step → Type 0 = λ ss. reply ≡ answers ss in
    printed Is reply both_checks 138 (omega arith) (tested-refuses BothSmall (prepare_as r mode) t (omega arith) (omega arith) (prepare-small r mode t)) (prepare-located r mode t)
    (of-answers Is reply (λ ss e. e))
    (checks-length r mode t)

shown-steps-length : (r : Reading) (mode : Mode) (t : Bytes) → length (shown_steps r mode t) ≤ 66442
unfolding shown_steps
shown-steps-length r mode t =
    printed (Fits Lines) (called split t) (λ lines. headed 1 false lines ++ shown_checks r mode t) 66442 (omega arith) (called-small split t (split-small t))
    (called-located split t (split-other t))
    (called-fits Lines split t (split-lines t))
    (λ lines m. omega (arith, length-append (headed 1 false lines) (shown_checks r mode t), m.size, m.holds.fits, shown-checks-length r mode t))

-- any text
any-text : (r : Reply Bytes) → Of (λ t. 0 ≤ length t) r
unfolding Of
any-text (answers t) = omega arith
any-text (refuses n place) = omega arith
any-text (refuses12 place offset) = omega arith

translation-length : (t : Bytes) → length (translated_line t) ≡ length t + 13
unfolding translated_line ascii
translation-length t = omega (arith, line-length (ascii "translated: " ++ t), length-append (ascii "translated: ") t)

pub shown-length : (r : Reading) (mode : Mode) (text : Bytes) → length (shown r mode text) ≤ 139264
unfolding shown
shown-length r mode text =
    printed (Fits (λ t. 0 ≤ length t)) (called translate text) (λ t. translated_line t ++ shown_steps r mode t) 139264 (omega arith)
    (called-small translate text (translate-small text)) (called-located translate text (translate-other text))
    (called-fits (λ t. 0 ≤ length t) translate text (any-text (translate text)))
    (λ t m. omega (arith, length-append (translated_line t) (shown_steps r mode t), translation-length t, m.size, shown-steps-length r mode t))

pub shown-room : (r : Reading) (mode : Mode) (text d : Bytes) → 139264 ≤ length d → 0 + length (shown r mode text) ≤ length d
shown-room r mode text d h = omega (arith, shown-length r mode text)
