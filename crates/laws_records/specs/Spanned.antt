-- Records with spans: a span changes nothing else of a record, so two tables that differ only there are made alike.
use Rattle.std.specs.Prelude.{◌≡◌, Bool, length}
use Rattle.std.proofs.Math.Path.{refl}
use Rattle.std.proofs.Common.{ap, subst}
use mathlib.Core.List.{List, [], ◌∷◌, map}
use Rattle.std.proofs.lemmas.List.{length-map}
use Rattle.rules.specs.Text.Lists.{all_of}
use Rattle.rules.specs.Pipeline.Record.{no_span, spanned, spanless, with_spans, operator, args, unused, of_mode, made}
use Rattle.rules.specs.Face.Demands.{SameButSpans}
use Rattle.rules.specs.declared.Mode.{Mode}
use Rattle.rules.specs.declared.Span.{Span}
use Rattle.rules.specs.declared.Step.{Step}
use Rattle.laws_lists.specs.Lists.{Every}
use Rattle.laws_steps.specs.Aside.{alike}

-- ---- one record

pub made-aside : (s : Step) → made (spanless s) ≡ made s
unfolding made operator args unused spanless spanned
made-aside s = refl

pub mode-aside : (mode : Mode) (s : Step) → of_mode mode (spanless s) ≡ of_mode mode s
unfolding of_mode operator spanless spanned
mode-aside mode s = refl

-- ---- tables that differ only in spans

-- records with other spans
pub same-spanned : (ps : List Span) (l : List Step) → SameButSpans (with_spans ps l) l
unfolding with_spans spanless spanned
same-spanned [] l = refl
same-spanned (p ∷ ps) [] = refl
same-spanned (p ∷ ps) (s ∷ l) = ap (λ (m : List Step). spanless s ∷ m) (same-spanned ps l)

pub same_length : (l m : List Step) → SameButSpans l m → length l ≡ length m
same_length = alike length (λ l. length-map l spanless)

-- a test that does not look at spans
module _ (test : Step → Bool) (aside : (s : Step) → test (spanless s) ≡ test s) where
  pub all-aside : (l : List Step) → all_of test (map spanless l) ≡ all_of test l
  unfolding all_of
  all-aside [] = refl
  all-aside (s ∷ l) = rw (aside s, all-aside l)

  pub same_test : (l m : List Step) → SameButSpans l m → all_of test l ≡ all_of test m
  same_test = alike (all_of test) all-aside

-- what holds of a record with any span
module _ (P : Step → Type 0) (any : (p : Span) (s : Step) → P s → P (spanned p s)) where
  every-aside : (l : List Step) → Every P l → Every P (map spanless l)
  unfolding Every spanless
  every-aside [] h = tt
  every-aside (s ∷ l) h = (any no_span s h.0, every-aside l h.1)

  every-again : (l : List Step) → Every P (map spanless l) → Every P l
  unfolding Every spanless spanned
  every-again [] h = tt
  every-again (s ∷ l) h = (any s.span (spanless s) h.0, every-again l h.1)

  pub same-every : (l m : List Step) → SameButSpans l m → Every P l → Every P m
  same-every l m same h = every-again m (subst (Every P) same (every-aside l h))
