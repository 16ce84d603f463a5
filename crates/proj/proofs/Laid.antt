-- The loop that puts all steps of the answer, from the front or from the back: what is put, and what the steps that are left still give, are
-- what all give.
use mathlib.Core.Path.{◌≡◌, refl, sym, ap, ◌∙◌, subst}
use mathlib.Core.Bool.{Bool, true, false, cond}
use mathlib.Core.List.{[], ◌∷◌, ◌++◌}
use Prim.Native.Nat.{ℕ, suc, ◌+◌, ◌-◌, ◌*◌, ◌≤◌}
use native.Mathlib.Omega.{arith}
use lib.ListN.{length, take, drop}
use lib.Dec.{eqb, ltb}
use Rattle.rules.specs.Text.Lists.{any_of, kept, non_empty}
use Rattle.rules.specs.Text.Bytes.{Bytes, Words, Steps, words}
use Rattle.rules.specs.Proj.Translate.{Pipeline, step_of, is_written}
use Rattle.laws_proj.specs.Step.{Global}
use Rattle.laws_proj.specs.Bounds.{step-length}
use Rattle.laws_proj.specs.Ordering.{side, side_left, side_right, side-assoc, side-length, whole, rest_of, bar_text, gap_text, part_text, state_after, rest-next, rest-none}
use Rattle.proj_words.specs.Cuts.{steps_from}
use Rattle.proj_words.specs.Steps.{Took}
use Rattle.proj_words.specs.Heads.{coming, IsHead}
use Rattle.proj_words.specs.Facts.{IsMarks}
use Rattle.proj_words.specs.declared.exchange.Head.{Head}
use Rattle.proj_words.specs.declared.exchange.Marks.{Marks}
use Rattle.proj_steps.specs.Pipelines.{pipeline_of}
use Rattle.proj.specs.Places.{number_of, place_of, Spot, Puts, Parted, texts_of, Ready, Laid}
use Rattle.proj.specs.declared.layout.Put.{Put}
use Rattle.proj.proofs.Puts.{spot-length, spot-then, puts-as, puts-both, puts-nothing}

-- ---- is it written?

module _ {ws : Words} {h : Head} (m : IsHead ws h) where
  pub written-pipeline : h.pipeline ≡ true → false ≡ is_written ws
  unfolding is_written
  written-pipeline e = sym (rw (sym m.pipeline ∙ e))

  pub written-some : h.pipeline ≡ false → {k : Marks} → IsMarks (coming h.words) k → k.some ≡ is_written ws
  unfolding is_written
  written-some e i = i.some ∙ ap (any_of non_empty) m.words ∙ sym (rw (sym m.pipeline ∙ e))

-- ---- what the walk over the steps gives, of the text that it goes over

pub took-as : {m n : Bytes} {k then : ℕ} {t : Bytes} → m ≡ n → Took m k then t → Took n k then t
took-as {m} {n} {k} {then} {t} e s = subst (λ (x : Bytes). Took x k then t) e s

pub ended-as : {m n : Bytes} (k : ℕ) → m ≡ n → steps_from m k ≡ [] → steps_from n k ≡ []
ended-as {m} {n} k e h = subst (λ (x : Bytes). steps_from x k ≡ []) e h

-- ---- a part of the answer

-- of the answer, what stands in `rest` is left
pub record Sided (write back : Bool) (total : ℕ) (answer rest dst₀ : Bytes) (o : ℕ) (dst : Bytes) : Type 0 where
  pub done : Bytes
  pub puts : Puts write back total done dst₀ 0 o dst
  pub right : side back done rest ≡ answer
  pub ready : Ready write total answer dst₀

sided-as : {write back : Bool} {total : ℕ} {answer t u dst₀ : Bytes} {o : ℕ} {dst : Bytes} → t ≡ u → Sided write back total answer t dst₀ o dst
    → Sided write back total answer u dst₀ o dst
sided-as {write} {back} {total} {answer} {t} {u} {dst₀} {o} {dst} e m = subst (λ (x : Bytes). Sided write back total answer x dst₀ o dst) e m

sided-start : {write back : Bool} {total : ℕ} {answer dst : Bytes} → Ready write total answer dst → Sided write back total answer answer dst 0 dst
sided-start {write} {back} {total} {answer} {dst} r = record { done = []; puts = puts-nothing; right = side_left back answer; ready = r }

total-by : (write : Bool) (total n m : ℕ) → (write ≡ true → total ≡ n) → m ≤ n → m ≤ 1099511627776 → m ≤ cond write total 1099511627776
total-by true total n m e h k = omega (arith, e refl)
total-by false total n m e h k = k

module _ {write back : Bool} {total : ℕ} {answer : Bytes} (t rest : Bytes) {dst₀ : Bytes} {o : ℕ} {dst : Bytes}
    (m : Sided write back total answer (side back t rest) dst₀ o dst) (h : o + length t ≤ 1099511627776) where
  both-spot : Spot write back total (side back m.done t) 0 dst₀
  both-spot =
      let l : length m.done + (length t + length rest) ≡ length answer = sym (side-length back m.done (side back t rest) ∙ ap (λ (n : ℕ). length m.done + n) (side-length back t rest))
      ∙ ap length m.right in
      let k : 0 + length (side back m.done t) ≤ length answer = omega (arith, side-length back m.done t) in
      let j : 0 + length (side back m.done t) ≤ 1099511627776 = omega (arith, side-length back m.done t, m.puts.count) in
      record { fits = total-by write total (length answer) (0 + length (side back m.done t)) m.ready.exact k j; inside = m.ready.inside }

  sided-spot : Spot write back total t o dst
  sided-spot = spot-then m.done t both-spot m.puts

  sided-next : {r : ℕ} {dst' : Bytes} → Puts write back total t dst o r dst' → Sided write back total answer rest dst₀ r dst'
  sided-next p = record {
    done = side back m.done t;
    puts = puts-both m.done t both-spot m.puts p;
    right = side-assoc back m.done t rest ∙ m.right;
    ready = m.ready;
  }

done-length : {write back : Bool} {total : ℕ} {answer rest dst₀ : Bytes} {o : ℕ} {dst : Bytes} → o ≤ 1099511627776
    → Sided write back total answer rest dst₀ o dst → length dst ≡ length dst₀
done-length {write} {back} {total} {answer} {rest} {dst₀} {o} h m =
    let l : length m.done + length rest ≡ length answer = sym (side-length back m.done rest) ∙ ap length m.right in
    let k : 0 + length m.done ≤ length answer = omega arith in
    let j : 0 + length m.done ≤ 1099511627776 = omega (arith, m.puts.count) in
    let f : 0 + length m.done ≤ cond write total 1099511627776 = total-by write total (length answer) (0 + length m.done) m.ready.exact k j in
    let sp : Spot write back total m.done 0 dst₀ = record { fits = f; inside = m.ready.inside } in
    spot-length sp m.puts

-- the whole is put from the front
laid_by : (write back : Bool) (total o : ℕ) (t dst₀ dst : Bytes) → (write ≡ true → total ≡ length t) → Puts write back total t dst₀ 0 o dst → Laid write t dst₀ o dst
unfolding place_of
laid_by false back total o t dst₀ dst e p = record { count = omega (arith, p.count); done = p.adds.whole }
laid_by true false total o t dst₀ dst e p =
    let z : 0 + length t ≡ o = sym p.count in
    record { count = omega (arith, p.count); done = p.adds.whole ∙ ap (λ (n : ℕ). t ++ drop n dst₀) z }
laid_by true true total o t dst₀ dst e p =
    let k : total ≡ length t = e refl in
    let z : total - (0 + length t) ≡ 0 = omega arith in
    let y : 0 + length t ≡ o = sym p.count in
    record {
      count = omega (arith, p.count);
      done = p.adds.whole ∙ ap (λ (n : ℕ). take n dst₀ ++ (t ++ drop (n + length t) dst₀)) z ∙ ap (λ (n : ℕ). t ++ drop n dst₀) y;
    }

sided-end : {write back : Bool} {total : ℕ} {answer dst₀ : Bytes} {o : ℕ} {dst : Bytes} → Sided write back total answer [] dst₀ o dst → Laid write answer dst₀ o dst
sided-end {write} {back} {total} {answer} {dst₀} {o} {dst} m =
    laid_by write back total o answer dst₀ dst m.ready.exact (puts-as (sym (side_right back m.done) ∙ m.right) m.puts)

-- ---- how long a part is

one-or-none : (b : Bool) → length {A = ℕ} (cond b (32 ∷ []) []) ≤ 1
one-or-none true = omega arith
one-or-none false = omega arith

bar-length : (back : Bool) (state : ℕ) (begun : Bool) → length (bar_text back state begun) ≤ 3
unfolding bar_text
bar-length back state begun = go (eqb state 0) (eqb state 2)
  where
    go : (a b : Bool) → length (cond a [] (side back (cond b (32 ∷ []) []) (side back (cond begun (32 ∷ []) []) (124 ∷ [])))) ≤ 3
    go true b = omega arith
    go false b =
        let whole = side-length back (cond b (32 ∷ []) []) (side back (cond begun (32 ∷ []) []) (124 ∷ [])) in
        let rest = side-length back (cond begun (32 ∷ []) []) (124 ∷ []) in
        omega (arith, whole, rest, one-or-none b, one-or-none begun)

gap_length : (back : Bool) (state : ℕ) (t : Bytes) → length (cond (non_empty t) (gap_text back state t) []) ≤ suc (length t)
unfolding gap_text
gap_length back state t = go (non_empty t) (eqb state 0)
  where
    go : (a b : Bool) → length (cond a (cond b t (side back (32 ∷ []) t)) []) ≤ suc (length t)
    go true true = omega arith
    go true false = omega (arith, side-length back (32 ∷ []) t)
    go false b = omega arith

part-text-length : (back : Bool) (state : ℕ) (begun : Bool) (t : Bytes) → length (part_text back state begun t) ≤ 4 + length t
unfolding part_text
part-text-length back state begun t =
    omega (arith, side-length back (bar_text back state begun) (cond (non_empty t) (gap_text back state t) []), bar-length back state begun, gap_length back state t)

-- ---- the loop

pub record Laying (n g : Bytes) (inverted write back : Bool) (total : ℕ) (dst₀ : Bytes) (o state k : ℕ) (dst : Bytes) : Type 0 where
  pub within : k ≤ length n
  pub n-small : length n ≤ 40960
  pub g-small : length g ≤ 40960
  pub global : Global (pipeline_of g inverted)
  pub first : state ≡ 0 → o ≡ 0
  pub few : o ≤ 262144 * k
  pub sided : Sided write back total (whole back (texts_of (pipeline_of g inverted) (steps_from n 0))) (rest_of back state (ltb 0 o) (texts_of (pipeline_of g inverted) (steps_from n k))) dst₀ o dst

pub laying-start : {n g : Bytes} {inverted write back : Bool} {total : ℕ} {dst : Bytes} → length n ≤ 40960 → length g ≤ 40960 → Global (pipeline_of g inverted)
    → Ready write total (whole back (texts_of (pipeline_of g inverted) (steps_from n 0))) dst → Laying n g inverted write back total dst 0 0 0 dst
unfolding rest_of
laying-start h i f r = record {
  within = omega arith;
  n-small = h;
  g-small = i;
  global = f;
  first = λ e. refl;
  few = omega arith;
  sided = sided-start r;
}

texts-skip : (p : Pipeline) (ws : Words) (ss : Steps) → is_written ws ≡ false → texts_of p (ws ∷ ss) ≡ texts_of p ss
unfolding texts_of kept
texts-skip p ws ss e = rw e

texts-more : (p : Pipeline) (ws : Words) (ss : Steps) → is_written ws ≡ true → texts_of p (ws ∷ ss) ≡ step_of p ws ∷ texts_of p ss
unfolding texts_of kept
texts-more p ws ss e = rw e

texts-none : (p : Pipeline) → texts_of p [] ≡ []
unfolding texts_of kept
texts-none p = refl

after-some : (state : ℕ) (t : Bytes) → state_after state t ≡ 0 → ⊥
unfolding state_after
after-some state t e = go (non_empty t) (eqb state 0) e
  where
    go : (a b : Bool) → ◌≡◌ {A = ℕ} (cond a 1 (cond b 1 2)) 0 → ⊥
    go true b f = omega arith
    go false true f = omega arith
    go false false f = omega arith

module _ {n g : Bytes} {inverted write back : Bool} {total : ℕ} {dst₀ : Bytes} {o state k : ℕ} {dst : Bytes} (i : Laying n g inverted write back total dst₀ o state k dst) where
  pub laying-kept : length dst ≡ length dst₀
  laying-kept = done-length (o-small) i.sided
    where
      o-small : o ≤ 1099511627776
      o-small = omega (arith, i.few, i.within, i.n-small)

  pub laying-end : steps_from n k ≡ [] → Laid write (whole back (texts_of (pipeline_of g inverted) (steps_from n 0))) dst₀ o dst
  laying-end e =
      let steps = ap (λ (ss : Steps). rest_of back state (ltb 0 o) (texts_of (pipeline_of g inverted) ss)) e in
      let texts = ap (rest_of back state (ltb 0 o)) (texts-none (pipeline_of g inverted)) in
      sided-end (sided-as (steps ∙ texts ∙ rest-none back state (ltb 0 o)) i.sided)

  module _ {t : Bytes} {then : ℕ} (s : Took n k then t) where
    -- a step that is not written
    pub laying-skip : is_written (words t) ≡ false → Laying n g inverted write back total dst₀ o state then dst
    laying-skip e = record {
      within = s.within;
      n-small = i.n-small;
      g-small = i.g-small;
      global = i.global;
      first = i.first;
      few = omega (arith, i.few, s.further);
      sided =
          sided-as (ap (rest_of back state (ltb 0 o)) (ap (texts_of (pipeline_of g inverted)) s.here ∙ texts-skip (pipeline_of g inverted) (words t) (steps_from n then) e)) i.sided;
    }

    pub laying-small : length (step_of (pipeline_of g inverted) (words t)) ≤ 262140
    laying-small = omega (arith, step-length (pipeline_of g inverted) t i.global, s.short, i.n-small, i.g-small)

    -- one that is
    module _ (e : is_written (words t) ≡ true) where
      here-sided : Sided write back total (whole back (texts_of (pipeline_of g inverted) (steps_from n 0)))
          (side back (part_text back state (ltb 0 o) (step_of (pipeline_of g inverted) (words t)))
          (rest_of back (state_after state (step_of (pipeline_of g inverted) (words t)))
          (ltb 0 (o + length (part_text back state (ltb 0 o) (step_of (pipeline_of g inverted) (words t)))))
          (texts_of (pipeline_of g inverted) (steps_from n then)))) dst₀ o dst
      here-sided =
          sided-as
          (ap (rest_of back state (ltb 0 o)) (ap (texts_of (pipeline_of g inverted)) s.here ∙ texts-more (pipeline_of g inverted) (words t) (steps_from n then) e)
          ∙ rest-next back state o (step_of (pipeline_of g inverted) (words t)) (texts_of (pipeline_of g inverted) (steps_from n then)) i.first) i.sided

      small : o + length (part_text back state (ltb 0 o) (step_of (pipeline_of g inverted) (words t))) ≤ 262144 * k + 262144
      small = omega (arith, i.few, laying-small, part-text-length back state (ltb 0 o) (step_of (pipeline_of g inverted) (words t)))

      fits_all : o + length (part_text back state (ltb 0 o) (step_of (pipeline_of g inverted) (words t))) ≤ 1099511627776
      fits_all = omega (arith, small, i.within, i.n-small)

      pub laying-spot : Spot write back total (part_text back state (ltb 0 o) (step_of (pipeline_of g inverted) (words t))) o dst
      laying-spot = sided-spot _ _ here-sided fits_all

      pub laying-next : {r : Put} {dst' : Bytes} → Parted write back total state (step_of (pipeline_of g inverted) (words t)) dst o r dst'
          → Laying n g inverted write back total dst₀ r.o (number_of r.last) then dst'
      laying-next {r} {dst'} p = record {
        within = s.within;
        n-small = i.n-small;
        g-small = i.g-small;
        global = i.global;
        first = λ z. absurd (after-some state (step_of (pipeline_of g inverted) (words t)) (sym p.state-is ∙ z));
        few = omega (arith, small, p.puts.count, s.further);
        sided =
            sided-as
            (ap
            (λ (m : ℕ). rest_of back (state_after state (step_of (pipeline_of g inverted) (words t))) (ltb 0 m) (texts_of (pipeline_of g inverted) (steps_from n then)))
            (sym p.puts.count)
            ∙ ap (λ (m : ℕ). rest_of back m (ltb 0 r.o) (texts_of (pipeline_of g inverted) (steps_from n then))) (sym p.state-is))
            (sided-next _ _ here-sided fits_all p.puts);
      }
