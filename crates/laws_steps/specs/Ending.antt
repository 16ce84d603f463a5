-- Demand 1: how each call ends. It answers, and alters nothing past its own end; or it refuses with one of its own numbers, and alters nothing.
use Rattle.rules.specs.declared.Refusal.{Refusal}
use Rattle.rules.specs.declared.Finished.{Finished}
use Rattle.std.proofs.Math.Path.{◌≡◌, refl, ap}
use Rattle.std.proofs.Common.{sym, ◌∙◌, arith, length-append, length-drop, drop_at}
use Rattle.std.specs.Prelude.{ℕ, ◌+◌, ◌-◌, ◌≤◌, ◌*◌, ◌/◌, Bool, cond, length, replicate, pos, Float, Option, None, Some, Result, Ok}
use Rattle.std.proofs.Math.Bool.{true, false}
use mathlib.Core.List.{List, [], ◌∷◌, ◌++◌, flat_map, reverse, append_assoc, map}
use borrow.Author.Tests.{ltb-false}
use Rattle.std.proofs.Math.Dec.{ltb}
use Rattle.std.proofs.Math.ListN.{drop}
use Rattle.std.proofs.lemmas.List.{length-replicate}
use Rattle.std.specs.Float.{fin}
use Rattle.rules.specs.Text.Lists.{any_of}
use Rattle.rules.specs.Text.Bytes.{Bytes}
use Rattle.rules.specs.Text.Refusal.{Reply, answers, refuses, refuses12, tested, lent, outcome, Promised, written, prepared, Writes, Lends, refusal, refusal_at}
use Rattle.rules.specs.Text.Normal.{normalise}
use Rattle.rules.specs.Text.Reader.{define, step_then}
use Rattle.rules.specs.Text.Split.{split}
use Rattle.rules.specs.Text.Parameters.{parameters}
use Rattle.rules.specs.Proj.Translate.{translate}
use Rattle.rules.specs.Text.Reader.{next}
use Rattle.rules.specs.Pipeline.Prepare.{prepare_in, prepare, prepare_as, Prepares, PreparesAs}
use Rattle.rules.specs.Pipeline.Record.{in_reading, refusal18}
use Rattle.rules.specs.Pipeline.Running.{Numbered, running}
use Rattle.rules.specs.Pipeline.Columns.{after, depths, deepest}
use Rattle.rules.specs.Pipeline.Tuples.{acted}
use Rattle.rules.specs.Pipeline.Run.{Outcome, start, count, passes64, bad_list, store_after, refused, finished, unless16, unless15, unless18, runs, Runs, done}
use Rattle.rules.specs.Pipeline.Check.{Checks}
use Rattle.rules.specs.Pipeline.Write.{table_writing, written_unless18, write}
use Rattle.rules.specs.Face.Demands.{OneOf, Ends, text_refusal, RunEnds, CheckEnds, NextEnds}
use Rattle.rules.specs.declared.Reading.{Reading}
use Rattle.rules.specs.declared.Mode.{Mode}
use Rattle.rules.specs.declared.Mode.TheVariants as mode-is
use Rattle.rules.specs.declared.Step.{Step}
use Rattle.rules.specs.declared.Direction.{Direction}
use Rattle.rules.specs.declared.Found.{Found}
use Rattle.rules.specs.declared.Foretold.{Foretold}
use Rattle.rules.specs.declared.Verdict.{Verdict}
use Rattle.rules.specs.declared.Verdict.TheVariants as verdict-is
use Rattle.laws_text.specs.Refusals.{Refusing, OfAStep, then-refuses, tested-refuses, normalise-refuses, define-refuses, split-refuses, parameters-refuses, translate-refuses, prepare-refuses}
use Rattle.laws_text.specs.Walk.{walk-ahead}
use Rattle.laws_steps.specs.Foretold.{check-refused}
use Rattle.laws_steps.specs.Lengths.{store_length}
use Rattle.laws_steps.specs.Runs.{end, used, answered, as_many}

-- ---- a reply brought into lent storage

-- a refusal with one of these numbers, wherever
abbrev By : List ℕ → ℕ → ℕ → Type 0
By numbers number place = OneOf numbers number

-- in words that say of a refusal its number and place, and of 12 its offset, if they say one at all
module _ {A R : Type 0} (in_words : Reply ℕ → R) (refusal : ℕ → ℕ → ℕ → R) (says : (number place : ℕ) → in_words (refuses number place) ≡ refusal number place 0)
    (says-12 : (place offset : ℕ) → in_words (refuses12 place offset) ≡ refusal 12 place offset) (l : List ℕ) (seven : OneOf l 7) where
  lent-ends : (reply : Reply (List A)) (storage : List A) (r : R) (storage' : List A) → Refusing (By l) reply → ◌≡◌ {A = R × List A} (r, storage') (lent in_words reply storage)
      → Ends (λ n. in_words (answers n)) refusal l storage r storage'
  unfolding lent Refusing
  lent-ends (refuses number place) storage r storage' h e =
      Ends.refuses number place 0 (ap (λ (x : R × List A). x.0) e ∙ says number place) h (ap (λ (x : R × List A). x.1) e)
  lent-ends (refuses12 place offset) storage r storage' h e =
      Ends.refuses 12 place offset (ap (λ (x : R × List A). x.0) e ∙ says-12 place offset) h (ap (λ (x : R × List A). x.1) e)
  lent-ends (answers xs) storage r storage' h e = go (ltb (length storage) (length xs)) refl e
    where
      go : (b : Bool) → ltb (length storage) (length xs) ≡ b
          → ◌≡◌ {A = R × List A} (r, storage') (cond b (in_words (refuses 7 0), storage) (in_words (answers (length xs)), xs ++ drop (length xs) storage))
          → Ends (λ n. in_words (answers n)) refusal l storage r storage'
      go true k e = Ends.refuses 7 0 0 (ap (λ (x : R × List A). x.0) e ∙ says 7 0) seven (ap (λ (x : R × List A). x.1) e)
      go false k e =
          let fits = ltb-false (length storage) (length xs) k in
          let w : storage' ≡ xs ++ drop (length xs) storage = ap (λ (x : R × List A). x.1) e in
          Ends.answers (length xs) (ap (λ (x : R × List A). x.0) e) fits (rw w (simp (length-append, length-drop) (omega arith)))
          (rw w (drop_at xs (drop (length xs) storage) (length xs) refl))

  -- a call that reads a text
  ends : (own : Bytes → Reply (List A)) {text : Bytes} {storage : List A} {r : R} {storage' : List A} → OneOf l 1 → OneOf l 2 → Refusing (By l) (own text)
      → Promised in_words own text storage r storage' → Ends (λ n. in_words (answers n)) refusal l storage r storage'
  unfolding outcome
  ends own {text} {storage} {r} {storage'} one two h p =
      lent-ends (tested own text) storage r storage' (tested-refuses (By l) own text one two (λ short. h)) p.exactly

module _ {text out : Bytes} {r : Result ℕ Refusal} {out' : Bytes} where
  text-ends : (l : List ℕ) → OneOf l 7 → (own : Bytes → Reply Bytes) → OneOf l 1 → OneOf l 2 → Refusing (By l) (own text) → Writes own text out r out'
      → Ends Ok text_refusal l out r out'
  unfolding written
  text-ends l seven own = ends written text_refusal (λ number place. refl) (λ place offset. refl) l seven own

  pub normalise-ends : Writes normalise text out r out' → Ends Ok text_refusal (1 ∷ 2 ∷ 7 ∷ []) out r out'
  unfolding any_of
  normalise-ends = text-ends (1 ∷ 2 ∷ 7 ∷ []) refl normalise refl refl (normalise-refuses (By (1 ∷ 2 ∷ 7 ∷ [])) text)

  pub definition-ends : Writes define text out r out' → Ends Ok text_refusal (1 ∷ 2 ∷ 7 ∷ []) out r out'
  unfolding any_of
  definition-ends = text-ends (1 ∷ 2 ∷ 7 ∷ []) refl define refl refl (define-refuses (By (1 ∷ 2 ∷ 7 ∷ [])) text)

  pub split-ends : Writes split text out r out' → Ends Ok text_refusal (1 ∷ 2 ∷ 6 ∷ 7 ∷ 8 ∷ []) out r out'
  unfolding any_of
  split-ends = text-ends (1 ∷ 2 ∷ 6 ∷ 7 ∷ 8 ∷ []) refl split refl refl (split-refuses (By (1 ∷ 2 ∷ 6 ∷ 7 ∷ 8 ∷ [])) text (λ p l. refl) refl)

  pub parameters-ends : Writes parameters text out r out' → Ends Ok text_refusal (1 ∷ 2 ∷ 6 ∷ 7 ∷ 9 ∷ []) out r out'
  unfolding any_of
  parameters-ends = text-ends (1 ∷ 2 ∷ 6 ∷ 7 ∷ 9 ∷ []) refl parameters refl refl (parameters-refuses (By (1 ∷ 2 ∷ 6 ∷ 7 ∷ 9 ∷ [])) text refl refl)

  pub translate-ends : Writes translate text out r out' → Ends Ok text_refusal (1 ∷ 2 ∷ 3 ∷ 4 ∷ 5 ∷ 7 ∷ []) out r out'
  unfolding any_of
  translate-ends =
      text-ends (1 ∷ 2 ∷ 3 ∷ 4 ∷ 5 ∷ 7 ∷ []) refl translate refl refl
      (translate-refuses (By (1 ∷ 2 ∷ 3 ∷ 4 ∷ 5 ∷ 7 ∷ [])) text (λ k l. (refl, refl, refl)))

-- preparing, and in a reading: naming the records refuses nothing
abbrev preparing : List ℕ
preparing = 1 ∷ 2 ∷ 6 ∷ 7 ∷ 8 ∷ 9 ∷ 10 ∷ 11 ∷ 12 ∷ 13 ∷ 14 ∷ []

step-refuses : (m : Mode) (text : Bytes) → Refusing (By preparing) (prepare_in m text)
unfolding any_of
step-refuses m text =
    let each : (k : ℕ) → OfAStep (By preparing) k = λ k.
    record { long = refl; modifiers = refl; keys = refl; name = refl; unknown-key = refl; no_number = refl; series = refl; own = refl } in
    prepare-refuses (By preparing) m text (λ k h. each k) refl

prepared-ends : (own : Bytes → Reply (List Step)) {text : Bytes} {table : List Step} {r : Result ℕ Refusal} {table' : List Step} → Refusing (By preparing) (own text)
    → Promised prepared own text table r table' → Ends Ok refusal_at preparing table r table'
unfolding prepared any_of
prepared-ends own = ends prepared refusal_at (λ number place. refl) (λ place offset. refl) preparing refl own refl refl

pub prepare-ends : {text : Bytes} {table : List Step} {r : Result ℕ Refusal} {table' : List Step} → Prepares text table r table'
    → Ends Ok refusal_at preparing table r table'
prepare-ends {text} = prepared-ends prepare (unfold prepare in step-refuses mode-is.Crate text)

pub prepare-as-ends : (how : Reading) (m : Mode) {text : Bytes} {table : List Step} {r : Result ℕ Refusal} {table' : List Step} → PreparesAs how m text table r table'
    → Ends Ok refusal_at preparing table r table'
unfolding prepare_as Refusing
prepare-as-ends how m {text} =
    prepared-ends (prepare_as how m) (then-refuses (By preparing) (prepare_in m text) (λ l. answers (map (in_reading how) l)) (step-refuses m text) (λ l e. tt))

pub write-ends : {out : Bytes} {r : Result ℕ Refusal} {out' : Bytes} (table : List Step) → Lends (write table) out r out'
    → Ends Ok text_refusal (7 ∷ 18 ∷ []) out r out'
unfolding written any_of write written_unless18 Refusing
write-ends {out} {r} {out'} table p =
    lent-ends written text_refusal (λ number place. refl) (λ place offset. refl) (7 ∷ 18 ∷ []) refl (write table) out r out' (go (refusal18 table)) p.exactly
  where
    go : (o : Option ℕ) → Refusing (By (7 ∷ 18 ∷ [])) (written_unless18 o (table_writing table))
    go None = tt
    go (Some k) = refl

-- ---- the run

abbrev four : List ℕ
four = 15 ∷ 16 ∷ 17 ∷ 18 ∷ []

-- it answers, or refuses with one of the four and leaves the list and the store
data RanOrNot (xs store : List Float) (o : Outcome) : Type 0 where
  ran : (c n : ℕ) → o.answer ≡ done c n → RanOrNot xs store o
  not_run : (number place : ℕ) → o.answer ≡ refusal number place → OneOf four number → o.list ≡ xs → o.store ≡ store → RanOrNot xs store o

module _ (l : List Numbered) (xs store : List Float) where
  ok-17 : (b : Bool) (whole : Outcome) → RanOrNot xs store whole → RanOrNot xs store (cond b (refused 17 0 xs store) whole)
  unfolding refused any_of
  ok-17 true whole h = not_run 17 0 refl refl refl refl
  ok-17 false whole h = h

  ok-16 : (o : Option ℕ) → RanOrNot xs store (unless16 o l xs store)
  unfolding unless16 finished refused any_of
  ok-16 None =
      ok-17 (ltb (length store) (deepest (depths acted l (start xs)) * (length xs / 4))) _ (ran (count l (start xs)) (length (after acted l (start xs)).columns) refl)
  ok-16 (Some k) = not_run 16 k refl refl refl refl

  ok-15 : (b : Bool) → RanOrNot xs store (unless15 b l xs store)
  unfolding unless15 refused any_of
  ok-15 true = not_run 15 0 refl refl refl refl
  ok-15 false = ok-16 (passes64 l (start xs))

ok : (d : Direction) (t : List Step) (xs store : List Float) → RanOrNot xs store (runs d t xs store)
unfolding runs unless18 refused any_of
ok d t xs store = go (refusal18 t)
  where
    go : (o : Option ℕ) → RanOrNot xs store (unless18 o d t xs store)
    go None = ok-15 (running d t) xs store (bad_list xs)
    go (Some k) = not_run 18 k refl refl refl refl

few : (l u s : ℕ) → u ≤ s → l + (u - l + (s - u)) ≡ s → l + (u - l) ≡ u
few l u s h e = omega arith

-- what lies past the part of the store that a run uses
past : (used : ℕ) (columns : List (List Float)) (store : List Float) → used ≤ length store → length (store_after used columns store) ≡ length store
    → drop used (store_after used columns store) ≡ drop used store
unfolding store_after
past used columns store h e =
    let left = flat_map (λ (v : List Float). v) (reverse columns) in
    let rest = replicate (used - length left) (fin false 0 (pos 0)) in
    let k : length left + (used - length left + (length store - used)) ≡ length store = simp (length-append, length-replicate, length-drop) at e in
    ap (drop used) (sym (append_assoc left rest (drop used store)))
    ∙ drop_at (left ++ rest) (drop used store) used (simp (length-append, length-replicate) (few (length left) used (length store) h k))

pub run_ends : {d : Direction} {t : List Step} {xs store : List Float} {r : Result Finished Refusal} {xs' store' : List Float} → Runs d t xs store r xs' store'
    → RunEnds four (used d t xs) xs store r xs' store'
run_ends {d} {t} {xs} {store} {r} {xs'} {store'} p = go (ok d t xs store)
  where
    A : r ≡ (runs d t xs store).answer
    A = ap (λ (o : Outcome). o.answer) p.exactly

    L : xs' ≡ (runs d t xs store).list
    L = ap (λ (o : Outcome). o.list) p.exactly

    S : store' ≡ (runs d t xs store).store
    S = ap (λ (o : Outcome). o.store) p.exactly

    leaves : (c n : ℕ) → (runs d t xs store).answer ≡ done c n → RunEnds four (used d t xs) xs store r xs' store'
    leaves c n e =
        let a = answered d t xs store c n e in
        let room = ltb-false (length store) (used d t xs) a.room in
        let long = store_length (running d t) xs store room in
        RunEnds.answers c n (A ∙ e) (ap length L ∙ (as_many d t xs store c n e).0) (ap length (S ∙ a.store-after) ∙ long)
        (ap (drop (used d t xs)) (S ∙ a.store-after) ∙ past (used d t xs) (end d t xs).columns store room long)

    go : RanOrNot xs store (runs d t xs store) → RunEnds four (used d t xs) xs store r xs' store'
    go (ran c n e) = leaves c n e
    go (not_run number place e h f g) = RunEnds.refuses number place (A ∙ e) h (L ∙ f) (S ∙ g)

-- ---- the check, and the reader

pub check-ends : {d : Direction} {t : List Step} {f : Foretold} → Checks d t f → CheckEnds f
check-ends {d} {t} {f} p = go f.verdict refl
  where
    go : (v : Verdict) → f.verdict ≡ v → CheckEnds f
    go verdict-is.Passes e = CheckEnds.passes e
    go (verdict-is.TooFew k) e = CheckEnds.too_few k e
    go (verdict-is.TooMany k) e = CheckEnds.too_many k e
    go (verdict-is.Refused number k) e =
        CheckEnds.refuses k (e ∙ ap (λ (n : ℕ). verdict-is.Refused n k) (check-refused d t number k (rw p.exactly at e)).0)

pub next-ends : {text : Bytes} {at : ℕ} {r : Option Found} → r ≡ next text at → NextEnds text at r
next-ends {text} {at} {r} h = go r refl h
  where
    go : (f : Option Found) → r ≡ f → f ≡ next text at → NextEnds text at r
    go None e h = NextEnds.ends e
    go (Some f) e h =
        let a = walk-ahead text at f.from f.to f.then (sym h) in
        NextEnds.finds f.from f.to (e ∙ ap (λ (k : ℕ). step_then f.from f.to (record { at = k })) a.goes_on) a.ahead a.longer a.within
