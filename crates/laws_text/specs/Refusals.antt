-- What a call refuses with, by its written rule: each number, beside the places at which it can be. So a fact that holds of each of these
-- holds of whatever is refused: that the number is one of the call's own, or that the place is one of the text's.
use Rattle.std.specs.Prelude.{◌≡◌, ℕ, suc, ◌+◌, ◌≤◌, Bool, cond, ◌&&◌, ◌||◌, length, Option, None, Some}
use Rattle.std.proofs.Math.Path.{refl}
use Rattle.std.proofs.Math.Bool.{true, false, not}
use mathlib.Core.List.{List, [], ◌∷◌, map}
use Rattle.std.proofs.Common.{arith, ltb-false}
use Rattle.std.proofs.lemmas.List.{length-map}
use Rattle.std.proofs.Math.Dec.{ltb}
use Rattle.rules.specs.Text.Ascii.{ascii, is}
use Rattle.rules.specs.Text.Lists.{any_of, place_of}
use Rattle.rules.specs.Text.Bytes.{Bytes, Steps, in_domain, words, contains}
use Rattle.rules.specs.Text.Refusal.{Reply, answers, refuses, refuses12, and_then, tested}
use Rattle.rules.specs.Text.Normal.{normal, normalise}
use Rattle.rules.specs.Text.Reader.{define}
use Rattle.rules.specs.Text.Split.{only_modifiers, step_text, steps, split_steps, split}
use Rattle.rules.specs.Text.Parameters.{Parameter, table_of, step_table, text_table, parameters_of, parameters}
use Rattle.rules.specs.Proj.Words.{proj_steps}
use Rattle.rules.specs.Proj.Translate.{Pipeline, pipeline, is_pipeline, init_first, only_inv, first_fault, translation, translated, translate}
use Rattle.rules.specs.Pipeline.Keys.{kind_of, unknown, misspelt, too_long}
use Rattle.rules.specs.Operators.Arguments.{value_of}
use Rattle.rules.specs.Pipeline.Prepare.{own_rule, judged14, judged11, named, judged10, judged, at_step, prepare_step, prepare_steps, prepare_split, prepare_in, offset_in}
use Rattle.rules.specs.declared.Mode.{Mode}
use Rattle.rules.specs.declared.Step.{Step}
use Rattle.rules.specs.declared.Name.{Name}
use Rattle.laws_lists.specs.Tests.{never}
use Rattle.laws_text.specs.Sizes.{place-within}

-- a refusal is one of which P holds
unfoldable pub Refusing : {A : Type 0} → (ℕ → ℕ → Type 0) → Reply A → Type 0
Refusing P (answers x) = Unit {0}
Refusing P (refuses number place) = P number place
Refusing P (refuses12 place offset) = P 12 place

module _ (P : ℕ → ℕ → Type 0) where
  choose : {A : Type 0} (b : Bool) (x y : Reply A) → Refusing P x → Refusing P y → Refusing P (cond b x y)
  choose true x y h k = h
  choose false x y h k = k

  pub then-refuses : {A B : Type 0} (r : Reply B) (next : B → Reply A) → Refusing P r → ((x : B) → r ≡ answers x → Refusing P (next x)) → Refusing P (and_then r next)
  unfolding and_then Refusing
  then-refuses (answers x) next h k = k x refl
  then-refuses (refuses number place) next h k = h
  then-refuses (refuses12 place offset) next h k = h

  -- only a short text is asked a call's own rule
  pub tested-refuses : {A : Type 0} (own : Bytes → Reply A) (t : Bytes) → P 1 0 → P 2 0 → (length t ≤ 4096 → Refusing P (own t)) → Refusing P (tested own t)
  unfolding tested Refusing
  tested-refuses own t one two h = go (ltb 4096 (length t)) refl
    where
      go : (b : Bool) → ltb 4096 (length t) ≡ b → Refusing P (cond b (refuses 1 0) (cond (not (in_domain t)) (refuses 2 0) (own t)))
      go true e = one
      go false e = choose (not (in_domain t)) (refuses 2 0) (own t) two (h (ltb-false 4096 (length t) e))

  pub normalise-refuses : (t : Bytes) → Refusing P (normalise t)
  unfolding normalise Refusing
  normalise-refuses t = tt

  pub define-refuses : (t : Bytes) → Refusing P (define t)
  unfolding define Refusing
  define-refuses t = tt

  -- 6 at one of the steps, and 8
  steps-refuses : (ss : Steps) → ((p : ℕ) → p ≤ length ss → P 6 p) → P 8 0 → Refusing P (split_steps ss)
  unfolding split_steps Refusing
  steps-refuses ss six eight = choose (any_of only_modifiers ss) _ _ (six (place_of only_modifiers ss) (place-within only_modifiers ss)) (choose (ltb 64 (length ss)) _ _ eight tt)

  pub split-refuses : (t : Bytes) → ((p : ℕ) → p ≤ length (steps t) → P 6 p) → P 8 0 → Refusing P (split t)
  unfolding split Refusing
  split-refuses t six eight = then-refuses (split_steps (steps t)) _ (steps-refuses (steps t) six eight) (λ x e. tt)

  table-refuses : (t : Bytes) → P 6 0 → P 9 0 → Refusing P (parameters_of t)
  unfolding parameters_of text_table step_table Refusing
  table-refuses t six nine =
      choose (any_of (is "|") (normal t)) _ _ tt
      (choose (only_modifiers (words (normal t))) _ _ six
      (choose (ltb 32 (length (table_of (words (normal t))))) _ _ nine tt))

  pub parameters-refuses : (t : Bytes) → P 6 0 → P 9 0 → Refusing P (parameters t)
  unfolding parameters Refusing
  parameters-refuses t six nine = then-refuses (parameters_of t) _ (table-refuses t six nine) (λ x e. tt)

  -- 3, 4 and 5 at one of the steps
  fault-refuses : (p : Pipeline) (last place : ℕ) (ss : Steps) (otherwise : Reply Bytes) → place + length ss ≤ suc last
      → ((k : ℕ) → k ≤ last → P 3 k × P 4 k × P 5 k) → Refusing P otherwise → Refusing P (first_fault p place ss otherwise)
  unfolding first_fault Refusing
  fault-refuses p last place [] otherwise l h k = k
  fault-refuses p last place (s ∷ ss) otherwise l h k =
      let f = h place (omega arith) in
      choose (init_first s) _ _ f.0
      (choose (ltb 1 place && is_pipeline s) _ _ f.1
      (choose (only_inv p s) _ _ f.2
      (fault-refuses p last (suc place) ss otherwise (omega arith) h k)))

  pub translate-refuses : (t : Bytes) → ((k : ℕ) → k ≤ length (proj_steps t) → P 3 k × P 4 k × P 5 k) → Refusing P (translate t)
  unfolding translate translated Refusing
  translate-refuses t h =
      choose (any_of (is "|") t || not (contains (ascii "proj") t)) _ _ tt
      (fault-refuses (pipeline (proj_steps t)) (length (proj_steps t)) 1 (proj_steps t) (answers (translation (pipeline (proj_steps t)) (proj_steps t))) (omega arith) h tt)

-- ---- preparing

-- splitting gives each step's text, 64 at most
pub split-few : (ss : Steps) (ts : List Bytes) → split_steps ss ≡ answers ts → (length ts ≡ length ss) × (length ts ≤ 64)
unfolding split_steps
split-few ss ts h = go (any_of only_modifiers ss) (ltb 64 (length ss)) refl h
  where
    go : (a b : Bool) → ltb 64 (length ss) ≡ b → cond a (refuses 6 (place_of only_modifiers ss)) (cond b (refuses 8 0) (answers (map step_text ss))) ≡ answers ts
        → (length ts ≡ length ss) × (length ts ≤ 64)
    go true b e h = absurd (never (cc h))
    go false true e h = absurd (never (cc h))
    go false false e h = let same : map step_text ss ≡ ts = cc h in rw (← same, length-map ss step_text) (refl, ltb-false 64 (length ss) e)

-- the numbers that one step can be refused with, at a place
pub record OfAStep (P : ℕ → ℕ → Type 0) (place : ℕ) : Type 0 where
  pub long : P 1 place
  pub modifiers : P 6 place
  pub keys : P 9 place
  pub name : P 10 place
  pub unknown-key : P 11 place
  pub no_number : P 12 place
  pub series : P 13 place
  pub own : P 14 place

module _ (P : ℕ → ℕ → Type 0) (m : Mode) where
  judged-refuses : (place : ℕ) (ps : List Parameter) → OfAStep P place → Refusing (λ number nowhere. P number place) (judged m ps)
  unfolding judged judged10 judged11 judged14 Refusing
  judged-refuses place ps h = by10 (named (value_of (ascii "_name") ps))
    where
      by14 : (o : Option Step) → Refusing (λ number nowhere. P number place) (judged14 o)
      by14 None = h.own
      by14 (Some s) = tt

      by10 : (o : Option Name) → Refusing (λ number nowhere. P number place) (judged10 m o ps)
      by10 None = h.name
      by10 (Some n) =
          choose (λ number nowhere. P number place) (any_of (unknown n) ps) _ _ h.unknown-key
          (choose (λ number nowhere. P number place) (any_of (λ (p : Parameter). misspelt (kind_of n p) p.value) ps) _ _ h.no_number
          (choose (λ number nowhere. P number place) (any_of (λ (p : Parameter). too_long (kind_of n p) p.value) ps) _ _ h.series
          (by14 (own_rule m n ps))))

  at-refuses : (place offset : ℕ) (r : Reply Step) → Refusing (λ number nowhere. P number place) r → Refusing P (at_step place offset r)
  unfolding at_step Refusing
  at-refuses place offset (answers s) h = tt
  at-refuses place offset (refuses number nowhere) h = h
  at-refuses place offset (refuses12 nowhere unknown) h = h

  step-refuses : (place : ℕ) (t : Bytes) → OfAStep P place → Refusing P (prepare_step m place t)
  unfolding prepare_step Refusing
  step-refuses place t h =
      at-refuses place (offset_in t) _ (choose (λ number nowhere. P number place) (ltb 4096 (length t)) _ _ h.long
      (then-refuses (λ number nowhere. P number place) (parameters_of t) (judged m) (table-refuses (λ number nowhere. P number place) t h.modifiers h.keys)
      (λ ps e. judged-refuses place ps h)))

  all-refuse : (last place : ℕ) (ts : List Bytes) → place + length ts ≤ suc last → ((k : ℕ) → k ≤ last → OfAStep P k) → Refusing P (prepare_steps m place ts)
  unfolding prepare_steps Refusing
  all-refuse last place [] l h = tt
  all-refuse last place (t ∷ ts) l h =
      then-refuses P (prepare_step m place t) _ (step-refuses place t (h place (omega arith)))
      (λ s e. then-refuses P (prepare_steps m (suc place) ts) _ (all-refuse last (suc place) ts (omega arith) h) (λ r f. tt))

  -- the numbers of a step at one of the steps, and 8
  records-refuse : (t : Bytes) → ((k : ℕ) → k ≤ length (steps t) → OfAStep P k) → P 8 0 → Refusing P (prepare_split m t)
  unfolding prepare_split
  records-refuse t h eight =
      then-refuses P (split_steps (steps t)) (prepare_steps m 1) (steps-refuses P (steps t) (λ p l. (h p l).modifiers) eight)
      (λ ts e. all-refuse (length (steps t)) 1 ts (omega (arith, (split-few (steps t) ts e).0)) h)

  pub prepare-refuses : (t : Bytes) → ((k : ℕ) → k ≤ length (steps t) → OfAStep P k) → P 8 0 → Refusing P (prepare_in m t)
  unfolding prepare_in Refusing
  prepare-refuses t h eight = then-refuses P (prepare_split m t) _ (records-refuse t h eight) (λ l e. tt)
