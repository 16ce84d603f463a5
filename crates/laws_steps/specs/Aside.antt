-- Spans aside: which steps run, what they do and what `write` writes do not depend on where the steps' texts stand. So two tables that no call
-- refuses 18 and that differ only there check, run and are written alike, but for the span that the check returns.
use Rattle.std.specs.Prelude.{◌≡◌, refl, ℕ, suc, Float, None}
use Rattle.std.proofs.Common.{sym, ap, ◌∙◌}
use mathlib.Core.List.{List, [], ◌∷◌, map, map-map}
use Rattle.rules.specs.Pipeline.Record.{no_span, operator, args, spanned, spanless, refusal18}
use Rattle.rules.specs.Pipeline.Running.{Numbered, directed, act, omitted, running_from, running}
use Rattle.rules.specs.Pipeline.Run.{unless18, runs}
use Rattle.rules.specs.Pipeline.Check.{begin, verdict, only, foretold, span_at, answered, checked, check}
use Rattle.rules.specs.Pipeline.Write.{mark_words, step_words, writing, table_writing, write}
use Rattle.rules.specs.Face.Demands.{SameButSpans, SaysTheSame}
use Rattle.rules.specs.declared.Span.{Span}
use Rattle.rules.specs.declared.Step.{Step}
use Rattle.rules.specs.declared.Foretold.{Foretold}
use Rattle.rules.specs.declared.Direction.{Direction}
use Rattle.rules.specs.declared.Direction.TheVariants.{Forward, Inverse}
use Rattle.rules.specs.declared.Verdict.{Verdict}
use Rattle.rules.specs.declared.Verdict.TheVariants.{Passes, TooFew, TooMany, Refused}

-- ---- of a record, whatever its span

act-aside : (d : Direction) (s : Step) → act d (spanless s) ≡ act d s
unfolding act directed operator args spanless spanned
act-aside d s = refl

omitted-aside : (d : Direction) (s : Step) → omitted d (spanless s) ≡ omitted d s
unfolding omitted spanless spanned
omitted-aside Forward s = refl
omitted-aside Inverse s = refl

pub writing-aside : (s : Step) → writing (spanless s) ≡ writing s
unfolding writing step_words mark_words operator args spanless spanned
writing-aside s = refl

-- ---- of a table

running-aside : (place : ℕ) (d : Direction) (t : List Step) → running_from place d (map spanless t) ≡ running_from place d t
unfolding running_from
running-aside place d [] = refl
running-aside place d (s ∷ l) = rw (omitted-aside d s, act-aside d s, running-aside (suc place) d l)

-- a table's rule that is the same of the table without its spans is the same of two tables that differ only there
module _ {A : Type 0} (rule : List Step → A) (aside : (t : List Step) → rule (map spanless t) ≡ rule t) (t u : List Step) (same : SameButSpans t u) where
  pub alike : rule t ≡ rule u
  alike = sym (aside t) ∙ ap rule same ∙ aside u

pub runs-the-same : (d : Direction) (t u : List Step) → SameButSpans t u → running d t ≡ running d u
unfolding running
runs-the-same d = alike (running d) (running-aside 1 d)

-- ---- of the calls

says-itself : (f : Foretold) → SaysTheSame f f
says-itself f = record { verdict = refl; run = refl; depths = refl; deepest = refl; left = refl; told = refl; places = refl }

-- a verdict alone says the same with any span
only-alike : (v : Verdict) (p q : Span) → SaysTheSame (only v p) (only v q)
unfolding only
only-alike v p q = record { verdict = refl; run = refl; depths = refl; deepest = refl; left = refl; told = refl; places = refl }

answered-alike : (t u : List Step) (v : Verdict) (l : List Numbered) → SaysTheSame (answered v t l) (answered v u l)
unfolding answered
answered-alike t u Passes l = says-itself (foretold l)
answered-alike t u (TooFew k) l = only-alike (TooFew k) (span_at k t) (span_at k u)
answered-alike t u (TooMany k) l = only-alike (TooMany k) (span_at k t) (span_at k u)
answered-alike t u (Refused number k) l = says-itself (only (Refused number k) no_span)

-- two tables that are not refused 18 and differ only in spans
module _ (t u : List Step) (t-good : refusal18 t ≡ None) (u-good : refusal18 u ≡ None) (same : SameButSpans t u) where
  pub check-aside : (d : Direction) → SaysTheSame (check d t) (check d u)
  unfolding check checked
  check-aside d = rw (t-good, u-good, runs-the-same d t u same) (answered-alike t u (verdict (running d u) begin) (running d u))

  pub run-aside : (d : Direction) (xs store : List Float) → runs d t xs store ≡ runs d u xs store
  unfolding runs unless18
  run-aside d xs store = rw (t-good, u-good, runs-the-same d t u same)

  pub write-aside : write t ≡ write u
  unfolding write table_writing
  write-aside = rw (t-good, u-good, alike (map writing) (λ v. map-map writing spanless v ∙ (λ k. map (λ (s : Step). writing-aside s k) v)) t u same)
