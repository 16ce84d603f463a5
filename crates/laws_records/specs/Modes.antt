-- "Refusals: none new": a text that one mode refuses is refused by the other, with the same number at the same place, and 12 with the same
-- offset. For only an operator's own rule knows the mode, and whether it is broken is a matter of the two words alone.
use Rattle.std.specs.Prelude.{◌≡◌, ℕ, suc, Bool, true, false, cond, ltb, length, Option, None, Some}
use mathlib.Core.List.{List, [], ◌∷◌, map}
use Rattle.rules.specs.Text.Ascii.{ascii}
use Rattle.rules.specs.Text.Lists.{any_of}
use Rattle.rules.specs.Text.Bytes.{Bytes}
use Rattle.rules.specs.Text.Refusal.{Reply, answers, refuses, refuses12, and_then}
use Rattle.rules.specs.Text.Split.{steps, split_steps}
use Rattle.rules.specs.Text.Reader.{spans}
use Rattle.rules.specs.Text.Parameters.{Parameter, parameters_of}
use Rattle.rules.specs.Operators.Arguments.{value_of}
use Rattle.rules.specs.Operators.Descriptions.{choose}
use Rattle.rules.specs.Operators.Adapt.{Word, word_given, between}
use Rattle.rules.specs.Operators.Documented.{adapt_in, combined_in}
use Rattle.rules.specs.Pipeline.Record.{in_reading, with_spans}
use Rattle.rules.specs.Pipeline.Keys.{kind_of, unknown, misspelt, too_long}
use Rattle.rules.specs.Pipeline.Prepare.{recorded, own_rule, judged14, judged11, named, judged10, judged, offset_in, at_step, prepare_step, prepare_steps, prepare_split, prepare_in, prepare_as}
use Rattle.rules.specs.declared.Mode.{Mode}
use Rattle.rules.specs.declared.Reading.{Reading}
use Rattle.rules.specs.declared.Step.{Step}
use Rattle.rules.specs.declared.Name.{Name}
use Rattle.rules.specs.declared.Name.TheVariants as name-is
use Rattle.laws_lists.specs.Tests.{never}

-- both answer, or both refuse with the same number at the same place, or with 12 at the same place and offset
data Alike {A : Type 0} : Reply A → Reply A → Type 0 where
  answer : (x y : A) → Alike (answers x) (answers y)
  refuse : (number place : ℕ) → Alike (refuses number place) (refuses number place)
  refuse-12 : (place offset : ℕ) → Alike (refuses12 place offset) (refuses12 place offset)

same : {A : Type 0} (r : Reply A) → Alike r r
same (answers x) = answer x x
same (refuses number place) = refuse number place
same (refuses12 place offset) = refuse-12 place offset

then-alike : {A B : Type 0} {r s : Reply A} → Alike r s → (f g : A → Reply B) → ((x y : A) → Alike (f x) (g y)) → Alike (and_then r f) (and_then s g)
unfolding and_then
then-alike (answer x y) f g h = h x y
then-alike (refuse n p) f g h = refuse n p
then-alike (refuse-12 p o) f g h = refuse-12 p o

if-alike : {A : Type 0} (b : Bool) (r s t : Reply A) → Alike s t → Alike (cond b r s) (cond b r t)
if-alike true r s t h = same r
if-alike false r s t h = h

module _ (m k : Mode) where
  -- ---- one step

  adapt-alike : (ps : List Parameter) → Alike (judged14 (own_rule m name-is.Adapt ps)) (judged14 (own_rule k name-is.Adapt ps))
  unfolding own_rule
  adapt-alike ps = go (word_given (value_of (ascii "from") ps)) (word_given (value_of (ascii "to") ps))
    where
      go : (v w : Option Word) → Alike (judged14 (recorded ps (choose (adapt_in m) (between (combined_in m) v w)))) (judged14 (recorded ps (choose (adapt_in k) (between (combined_in k) v w))))
      go None w = unfold between choose recorded judged14 in refuse 14 0
      go (Some v) None = unfold between choose recorded judged14 in refuse 14 0
      go (Some v) (Some w) = unfold between choose recorded judged14 in answer _ _

  own-alike : (n : Name) (ps : List Parameter) → Alike (judged14 (own_rule m n ps)) (judged14 (own_rule k n ps))
  own-alike name-is.Push ps = unfold own_rule in same _
  own-alike name-is.Pop ps = unfold own_rule in same _
  own-alike name-is.Stack ps = unfold own_rule in same _
  own-alike name-is.Axisswap ps = unfold own_rule in same _
  own-alike name-is.Adapt ps = adapt-alike ps

  judged-alike : (ps : List Parameter) → Alike (judged m ps) (judged k ps)
  unfolding judged
  judged-alike ps = go (named (value_of (ascii "_name") ps))
    where
      go : (o : Option Name) → Alike (judged10 m o ps) (judged10 k o ps)
      go None = unfold judged10 in refuse 10 0
      go (Some n) =
          unfold judged10 judged11 in
          if-alike (any_of (unknown n) ps) _ _ _
          (if-alike (any_of (λ (p : Parameter). misspelt (kind_of n p) p.value) ps) _ _ _
          (if-alike (any_of (λ (p : Parameter). too_long (kind_of n p) p.value) ps) _ _ _ (own-alike n ps)))

  at-alike : (place offset : ℕ) {r s : Reply Step} → Alike r s → Alike (at_step place offset r) (at_step place offset s)
  unfolding at_step
  at-alike place offset (answer x y) = answer x y
  at-alike place offset (refuse n p) = refuse n place
  at-alike place offset (refuse-12 p o) = refuse-12 place offset

  ps-alike : (r : Reply (List Parameter)) → Alike (and_then r (judged m)) (and_then r (judged k))
  unfolding and_then
  ps-alike (answers ps) = judged-alike ps
  ps-alike (refuses n p) = refuse n p
  ps-alike (refuses12 p o) = refuse-12 p o

  step-alike : (place : ℕ) (t : Bytes) → Alike (prepare_step m place t) (prepare_step k place t)
  unfolding prepare_step
  step-alike place t = at-alike place (offset_in t) (if-alike (ltb 4096 (length t)) _ _ _ (ps-alike (parameters_of t)))

  -- ---- all steps

  steps_alike : (place : ℕ) (ts : List Bytes) → Alike (prepare_steps m place ts) (prepare_steps k place ts)
  unfolding prepare_steps
  steps_alike place [] = answer [] []
  steps_alike place (t ∷ ts) =
      then-alike (step-alike place t) _ _ (λ x y. then-alike (steps_alike (suc place) ts) _ _ (λ l n. answer (x ∷ l) (y ∷ n)))

  split-alike : (r : Reply (List Bytes)) → Alike (and_then r (prepare_steps m 1)) (and_then r (prepare_steps k 1))
  unfolding and_then
  split-alike (answers ts) = steps_alike 1 ts
  split-alike (refuses n p) = refuse n p
  split-alike (refuses12 p o) = refuse-12 p o

  in-alike : (t : Bytes) → Alike (prepare_in m t) (prepare_in k t)
  unfolding prepare_in prepare_split
  in-alike t = then-alike (split-alike (split_steps (steps t))) _ _ (λ x y. answer (with_spans (spans t) x) (with_spans (spans t) y))

  prepare-alike : (r : Reading) (t : Bytes) → Alike (prepare_as r m t) (prepare_as r k t)
  unfolding prepare_as
  prepare-alike r t = then-alike (in-alike t) _ _ (λ x y. answer (map (in_reading r) x) (map (in_reading r) y))

  pub same-refusal : (r : Reading) (t : Bytes) (number place : ℕ) → prepare_as r m t ≡ refuses number place → prepare_as r k t ≡ refuses number place
  same-refusal r t number place h = go (prepare-alike r t) h
    where
      go : {x y : Reply (List Step)} → Alike x y → x ≡ refuses number place → y ≡ refuses number place
      go (answer a b) h = absurd (never (cc h))
      go (refuse n p) h = h
      go (refuse-12 p o) h = h

  pub same-refusal-12 : (r : Reading) (t : Bytes) (place offset : ℕ) → prepare_as r m t ≡ refuses12 place offset → prepare_as r k t ≡ refuses12 place offset
  same-refusal-12 r t place offset h = go (prepare-alike r t) h
    where
      go : {x y : Reply (List Step)} → Alike x y → x ≡ refuses12 place offset → y ≡ refuses12 place offset
      go (answer a b) h = absurd (never (cc h))
      go (refuse n p) h = h
      go (refuse-12 p o) h = h
