-- The span that the check returns: of the step that it names, and none where it names none. What is said of the records of a table at their spans
-- is said of that one.
use Rattle.std.specs.Prelude.{◌≡◌, refl, ℕ, zero, suc, ◌-◌, List, [], ◌∷◌, map, get_or, Option, None, Some}
use Rattle.std.proofs.Common.{sym, ap, ◌∙◌}
use Rattle.rules.specs.Text.Bytes.{Bytes}
use Rattle.rules.specs.Pipeline.Record.{no_span, span_end, blank, refusal18}
use Rattle.rules.specs.Pipeline.Running.{Numbered, running}
use Rattle.rules.specs.Pipeline.Check.{begin, verdict, only, foretold, span_at, answered, checked, check}
use Rattle.rules.specs.Face.Demands.{bytes_at}
use Rattle.rules.specs.declared.Span.{Span}
use Rattle.rules.specs.declared.Step.{Step}
use Rattle.rules.specs.declared.Direction.{Direction}
use Rattle.rules.specs.declared.Verdict.{Verdict}
use Rattle.rules.specs.declared.Verdict.TheVariants.{Passes, TooFew, TooMany, Refused}

-- the span that belongs to a verdict
abbrev pub span_of : Verdict → List Step → Span
span_of Passes t = no_span
span_of (TooFew k) t = span_at k t
span_of (TooMany k) t = span_at k t
span_of (Refused number k) t = no_span

answered-span : (v : Verdict) (t : List Step) (l : List Numbered) → (answered v t l).span ≡ span_of (answered v t l).verdict t
unfolding answered foretold only
answered-span Passes t l = refl
answered-span (TooFew k) t l = refl
answered-span (TooMany k) t l = refl
answered-span (Refused number k) t l = refl

checked-span : (o : Option ℕ) (t : List Step) (l : List Numbered) → (checked o t l).span ≡ span_of (checked o t l).verdict t
unfolding checked only
checked-span None t l = answered-span (verdict l begin) t l
checked-span (Some k) t l = refl

-- The check returns the span of the step that its verdict names.
pub check-span : (d : Direction) (t : List Step) → (check d t).span ≡ span_of (check d t).verdict t
unfolding check
check-span d t = checked-span (refusal18 t) t (running d t)

-- ---- what is said of the records

-- what is said of each record of a table is said of the one at a place, if it is said of the blank one behind the last
said_at : {A : Type 0} (said : Step → A) (t : List Step) (k : ℕ) → get_or (map said t) k (said blank) ≡ said (get_or t k blank)
said_at said [] k = refl
said_at said (s ∷ t) zero = refl
said_at said (s ∷ t) (suc k) = said_at said t k

-- of a table whose records stand at the steps' texts: the bytes at the span of place k are the text of step k
pub bytes-at : (text : Bytes) (texts : List Bytes) (t : List Step) → map (λ (s : Step). bytes_at text s.span) t ≡ texts → (k : ℕ) → bytes_at text (span_at k t) ≡ get_or texts (k - 1) []
unfolding span_at blank span_end
bytes-at text texts t e k = sym (said_at (λ (s : Step). bytes_at text s.span) t (k - 1)) ∙ ap (λ (l : List Bytes). get_or l (k - 1) []) e
