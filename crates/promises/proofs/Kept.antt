-- Every promise of specs/Promises.antt is kept: a line for each, which cites where it is proved. Of a call's code that is the theorem that the prover
-- has of the function itself.
use Rattle.rules.specs.declared.Refusal.{Refusal}
use Rattle.rules.specs.declared.Finished.{Finished}
use Rattle.std.specs.Prelude.{◌≡◌, refl, ℕ, ◌-◌, ◌*◌, ◌/◌, ◌%◌, ◌≤◌, ◌<◌, Bool, true, false, List, [], ◌∷◌, map, T, length, get_or, take, Float, None, Result, Ok}
use Rattle.std.proofs.Common.{sym, ap, ◌∙◌, subst}
use Rattle.std.specs.Float.{binary64}
use Rattle.std.specs.Float.Ieee.{neg, mul, fits}
use Rattle.std.specs.Float.Ieee.Bits.{of_bits-fits}
use borrow.Fn.World.{World}
use Rattle.rules.specs.Text.Bytes.{Bytes, joined}
use Rattle.rules.specs.Text.Refusal.{Reply, Lends, Writes}
use Rattle.rules.specs.Text.Split.{steps}
use Rattle.rules.specs.Text.Reader.{definition, define}
use Rattle.rules.specs.Operators.Numbers.{turn}
use Rattle.rules.specs.Operators.Adapt.{one}
use Rattle.rules.specs.Pipeline.Run.{Outcome, runs, Runs, done}
use Rattle.rules.specs.Pipeline.Record.{args, refusal18}
use Rattle.rules.specs.Pipeline.Prepare.{PreparesAs}
use Rattle.rules.specs.Pipeline.Running.{opposite, running}
use Rattle.rules.specs.Face.Demands.{number_at, Bits, Alike, EachUnit, bytes_at, Walk, SameButSpans}
use Rattle.rules.specs.Pipeline.Check.{any_adapt, span_at, check, Checks}
use Rattle.rules.specs.ExamplesHold.{examples-hold}
use Rattle.rules.specs.declared.Mode.{Mode}
use Rattle.rules.specs.declared.Mode.TheVariants as mode-is
use Rattle.rules.specs.declared.Reading.{Reading}
use Rattle.rules.specs.declared.Reading.TheVariants.{Crate}
use Rattle.rules.specs.declared.Span.{Span}
use Rattle.rules.specs.declared.Step.{Step}
use Rattle.rules.specs.declared.Verdict.{Verdict}
use Rattle.rules.specs.declared.Direction.{Direction}
use Rattle.rules.specs.declared.Foretold.{Foretold}
use Rattle.rules.specs.declared.Verdict.TheVariants.{Passes}
use Rattle.laws_text.specs.Entry.{answers-so}
use Rattle.laws_text.specs.Spans.{walk-rises}
use Rattle.laws_text.specs.Offsets.{offset-of-12, offset-of-12-as, no-other-offset, no-other-offset-as}
use Rattle.laws_text.specs.Once.{once, lends-once, check-once, run-once, plain-check-once, plain-run-once}
use Rattle.laws_records.specs.Readings.{inv-turns}
use Rattle.laws_records.specs.Made.{prepare-as-made}
use Rattle.laws_records.specs.Prepared.{prepared-walks, prepared-bytes, prepared-short, check-never-18, run-never-18, table-tested, table-prepared}
use Rattle.laws_records.specs.Exact.{prepare-is-crates, crates-prepare, made-exactly}
use Rattle.laws_records.specs.ReadBack.{written-returns, not-18-exactly, not-18-each}
use Rattle.laws_records.specs.Modes.{same-refusal, same-refusal-12}
use Rattle.laws_records.specs.Operators.Adapt.Restores.{RunsBothWays, restores}
use Rattle.laws_records.specs.Operators.Adapt.FactorsByAxis.{same-axis, forward-in-words, inverse-in-words}
use Rattle.laws_records.specs.Ieee.{turn-mul}
use Rattle.laws_steps.specs.Foretold.{told-exactly, foretells}
use Rattle.laws_steps.specs.Exactly.{passes-exactly, few-exactly, many-exactly, refused-exactly}
use Rattle.laws_steps.specs.Aside.{check-aside, run-aside, write-aside}
use Rattle.laws_steps.specs.Spans.{span_of, check-span, bytes-at}
use Rattle.laws_steps.specs.Runs.{answered, accepts, as-foretold, as_many}
use Rattle.laws_steps.specs.OwnNumbers.{is-named, own-number}
use Rattle.laws_steps.specs.Bits.{has-bits, alike}
use Rattle.laws_steps.specs.Ending.{normalise-ends, definition-ends, split-ends, parameters-ends, translate-ends, write-ends, prepare-ends, prepare-as-ends, check-ends, run_ends, next-ends}
use Rattle.laws_steps.specs.Exported.{behind-normalise, behind-definition, behind-split, behind-parameters, behind-translate, behind-next, behind-prepare, behind-prepare-as, behind-pass, behind-run}
use Rattle.sakondreno.proofs as code
use Rattle.reader.proofs as reading
use Rattle.show.proofs as program
use Rattle.promises.specs.Promises.{Calls, Demand1, Demand2, AsForetold, FromThePlacesNamed, Demand3, Readings, Modes, Offsets, SameOfBoth, Spans, Exports, Promises}

pub calls : (w : World) → Calls w
calls w = record {
  normalise-keeps = code.normalise.Met.met w.𝓤 w.𝓛 w.𝓜 w.𝓡;
  definition-keeps = code.definition.Met.met w.𝓤 w.𝓛 w.𝓜 w.𝓡;
  split-keeps = code.split.Met.met w.𝓤 w.𝓛 w.𝓜 w.𝓡;
  parameters-keeps = code.parameters.Met.met w.𝓤 w.𝓛 w.𝓜 w.𝓡;
  translate-keeps = code.translate.Met.met w.𝓤 w.𝓛 w.𝓜 w.𝓡;
  prepare-keeps = code.prepare.Met.met w.𝓤 w.𝓛 w.𝓜 w.𝓡;
  prepare-as-keeps = code.prepare_as.Met.met w.𝓤 w.𝓛 w.𝓜 w.𝓡;
  check-keeps = code.check.Met.met w.𝓤 w.𝓛 w.𝓜 w.𝓡;
  run-keeps = code.run.Met.met w.𝓤 w.𝓛 w.𝓜 w.𝓡;
  next-keeps = reading.Reader.next.Met.met w.𝓤 w.𝓛 w.𝓜 w.𝓡;
  next-from-keeps = code.next_from.Met.met w.𝓤 w.𝓛 w.𝓜 w.𝓡;
  write_keeps = code.write.Met.met w.𝓤 w.𝓛 w.𝓜 w.𝓡;
  write-step-keeps = code.write_step.Met.met w.𝓤 w.𝓛 w.𝓜 w.𝓡;
  sakondreno-normalise-keeps = code.sakondreno_normalise.Met.met w.𝓤 w.𝓛 w.𝓜 w.𝓡;
  sakondreno-definition-keeps = code.sakondreno_definition.Met.met w.𝓤 w.𝓛 w.𝓜 w.𝓡;
  sakondreno-split-keeps = code.sakondreno_split.Met.met w.𝓤 w.𝓛 w.𝓜 w.𝓡;
  sakondreno-parameters-keeps = code.sakondreno_parameters.Met.met w.𝓤 w.𝓛 w.𝓜 w.𝓡;
  sakondreno-translate-keeps = code.sakondreno_translate.Met.met w.𝓤 w.𝓛 w.𝓜 w.𝓡;
  sakondreno-next-keeps = code.sakondreno_next.Met.met w.𝓤 w.𝓛 w.𝓜 w.𝓡;
  sakondreno-prepare-keeps = code.sakondreno_prepare.Met.met w.𝓤 w.𝓛 w.𝓜 w.𝓡;
  sakondreno-prepare-as-keeps = code.sakondreno_prepare_as.Met.met w.𝓤 w.𝓛 w.𝓜 w.𝓡;
  sakondreno-check-keeps = code.sakondreno_check.Met.met w.𝓤 w.𝓛 w.𝓜 w.𝓡;
  sakondreno-run-keeps = code.sakondreno_run.Met.met w.𝓤 w.𝓛 w.𝓜 w.𝓡;
  steps-prints = program.show.Met.met w.𝓤 w.𝓛 w.𝓜 w.𝓡;
}

pub demand1 : Demand1
demand1 = record {
  normalise-ends = normalise-ends;
  definition-ends = definition-ends;
  split-ends = split-ends;
  parameters-ends = parameters-ends;
  translate-ends = translate-ends;
  write-ends = write-ends;
  prepare-ends = prepare-ends;
  prepare-as-ends = prepare-as-ends;
  check-ends = check-ends;
  run_ends = run_ends;
  next-ends = next-ends;
  text-once = once;
  write-once = lends-once;
  check-once = check-once;
  run-once = run-once;
  next-once = λ text at p q. p ∙ sym q;
}

-- what the equation of a run says of its answer and of its list
ran-answer : {d : Direction} {t : List Step} {xs store : List Float} {r : Result Finished Refusal} {xs' store' : List Float} → Runs d t xs store r xs' store' → (runs d t xs store).answer ≡ r
ran-answer ran = sym (ap (λ (o : Outcome). o.answer) ran.exactly)

ran-list : {d : Direction} {t : List Step} {xs store : List Float} {r : Result Finished Refusal} {xs' store' : List Float} → Runs d t xs store r xs' store' → xs' ≡ (runs d t xs store).list
ran-list ran = ap (λ (o : Outcome). o.list) ran.exactly

turned : (minus : Bool) (x : Float) → T (fits binary64 x) → turn minus x ≡ mul binary64 x (turn minus one)
unfolding turn neg
turned true x h = turn-mul binary64 true x h
turned false x h = turn-mul binary64 false x h

pub demand2 : Demand2
demand2 = record {
  text-answer = λ p. (answers-so p).answer;
  records-answer = λ p. sym (prepare-is-crates _) ∙ table-prepared Crate mode-is.Crate (crates-prepare.1 p);
  run-answer = λ ran. let a = answered _ _ _ _ _ _ (ran-answer ran) in (ran-list ran ∙ a.list-after, a.counted, a.columns-left);
  sign-is-product = turned;
  examples-hold = examples-hold;
}

-- a check that passes, and a run
module _ {d : Direction} {t : List Step} {f : Foretold} (checks : Checks d t f) (passes : f.verdict ≡ Passes) where
  pass : (check d t).verdict ≡ Passes
  pass = rw checks.exactly at passes

  accepted : {xs store : List Float} {r : Result Finished Refusal} {xs' store' : List Float} → Runs d t xs store r xs' store' → length xs % 4 ≡ 0 → length xs / 4 ≤ 65536
      → f.deepest * (length xs / 4) ≤ length store → (c : ℕ) × (n : ℕ) × (r ≡ done c n)
  accepted {xs} {store} ran four few room =
      let a = accepts d t xs store pass four few (rw checks.exactly at room) in
      (a.0, a.1, sym (ran-answer ran) ∙ a.2)

  module _ {xs store : List Float} {c n : ℕ} {xs' store' : List Float} (ran : Runs d t xs store (done c n) xs' store') where
    foretold : AsForetold d t f xs n
    foretold =
        let g = foretells d t xs pass in
        rw checks.exactly
        (record {
          depth-after-each-step = g.depths-after;
          deepest-of-all = g.deepest-after;
          columns-left = (as-foretold d t xs store c n pass (ran-answer ran)).left;
          told-unless-adapt = told-exactly d t pass;
        })

    from-its-place : any_adapt (running d t) ≡ false → FromThePlacesNamed f xs xs'
    from-its-place plain =
        rw (checks.exactly, ran-list ran)
        (record {
          four-for-each-tuple = as_many d t xs store c n (ran-answer ran);
          one-of-four = λ j. let k = is-named d t pass plain j in (k.least, k.most);
          bit-for-bit = λ j a b i h p q P Q. alike _ P Q (own-number d t pass plain xs store c n (ran-answer ran) i h j a b);
        })

pub demand3 : Demand3
demand3 = record {
  check-takes-what-is-prepared = λ how mode k p checks h. check-never-18 how mode _ _ (table-tested how mode p) _ 18 k (rw checks.exactly at h);
  run-takes-what-is-prepared = λ how mode k offset p ran. run-never-18 how mode _ _ (table-tested how mode p) _ _ _ k offset (ran-answer ran);
  passes-exactly-when = λ checks xs. rw checks.exactly (passes-exactly _ _ xs);
  too-few-exactly-when = λ checks xs k. rw checks.exactly (few-exactly _ _ xs k);
  too-many-exactly-when = λ checks xs k. rw checks.exactly (many-exactly _ _ xs k);
  refused-exactly-when = λ checks number k. rw checks.exactly (refused-exactly _ _ [] number k);
  run-accepts = λ checks passes ran four few room. accepted checks passes ran four few room;
  after-a-pass = λ checks passes ran. foretold checks passes ran;
  after-a-pass-without-adapt = λ checks passes plain ran. from-its-place checks passes ran plain;
  has-bits = has-bits;
}

pub readings : Readings
readings = record {
  prepare-is-the-crates = crates-prepare;
  records-answer-as = λ how mode p. let e = table-prepared how mode p in (e, (prepare-as-made how mode _ _ e).2);
  inv-turns-every-operator = inv-turns;
  refused-18-unless-prepared = not-18-exactly;
  refused-18-unless-each = not-18-each;
  made-exactly = made-exactly;
  written-returns = written-returns;
}

-- a sign that is kept
unturned : (x : Float) → turn false x ≡ x
unfolding turn
unturned x = refl

-- of a number and of what comes back for it: every pattern reads as an f64
module _ {s : Step} (r : RunsBothWays s) (u : EachUnit (args s)) (d : Direction) {xs store : List Float} {c n : ℕ} {xs' store' : List Float}
    (there : Runs d (s ∷ []) xs store (done c n) xs' store') {store₂ : List Float} {c₂ n₂ : ℕ} {xs'' store₂' : List Float}
    (home : Runs (opposite d) (s ∷ []) xs' store₂ (done c₂ n₂) xs'' store₂') where
  returned : (i : ℕ) → i < length xs / 4 → (j : ℕ) → 1 ≤ j → j ≤ 4 → (p q : ℕ) → Bits p (number_at xs i j) → Bits q (number_at xs'' i j) → Alike false p q
  returned i h j a b p q P Q =
      let fit : T (fits binary64 (number_at xs i j)) = subst (λ (x : Float). T (fits binary64 x)) P.reads (of_bits-fits binary64 p) in
      let left : xs' ≡ (runs d (s ∷ []) xs store).list = ran-list there in
      let done : (runs (opposite d) (s ∷ []) (runs d (s ∷ []) xs store).list store₂).answer ≡ done c₂ n₂ =
      ap (λ (l : List Float). (runs (opposite d) (s ∷ []) l store₂).answer) (sym left) ∙ ran-answer home in
      let same : number_at xs'' i j ≡ number_at xs i j =
      ap (λ (l : List Float). number_at l i j) (ran-list home ∙ ap (λ (l : List Float). (runs (opposite d) (s ∷ []) l store₂).list) left)
      ∙ restores s r u d xs store c n (ran-answer there) store₂ c₂ n₂ done i h j a b fit in
      alike false P Q (same ∙ sym (unturned (number_at xs i j)))

pub modes : Modes
modes = record {
  records-of-the-mode = λ how mode p. (prepare-as-made how mode _ _ (table-prepared how mode p)).3;
  refuses-the-same = same-refusal;
  refuses-12-the-same = same-refusal-12;
  same-axis = same-axis;
  forward-in-words = forward-in-words;
  inverse-in-words = inverse-in-words;
  restores = λ s m o f b u. returned (record { is_made = m; is-documented = o; forward-too = f; inverse-too = b }) u;
}

pub offsets : Offsets
offsets = record {
  prepare-offset = offset-of-12;
  prepare-as-offset = λ how mode p. offset-of-12-as how mode p;
  no_other = no-other-offset;
  no-other-as = λ how mode p h. no-other-offset-as how mode p h;
}

-- a check of a prepared definition that names a step
module _ (how : Reading) (mode : Mode) {text : Bytes} {table : List Step} {n : ℕ} {table' : List Step} (p : PreparesAs how mode text table (Ok n) table') where
  walks : Walk (definition text) 0 (take n table')
  walks = prepared-walks how mode text (take n table') (table-tested how mode p)

  at_each : map (λ (s : Step). bytes_at (definition text) s.span) (take n table') ≡ map joined (steps text)
  at_each = prepared-bytes how mode text (take n table') (table-tested how mode p)

  at-span : (k : ℕ) {q : Span} → q ≡ span_at k (take n table') → bytes_at (definition text) q ≡ get_or (map joined (steps text)) (k - 1) []
  at-span k e = ap (bytes_at (definition text)) e ∙ bytes-at (definition text) (map joined (steps text)) (take n table') at_each k

-- the span of a check's answer
module _ {d : Direction} {t : List Step} {f : Foretold} (checks : Checks d t f) where
  span-is : {v : Verdict} → f.verdict ≡ v → f.span ≡ span_of v t
  span-is e = ap (λ (g : Foretold). g.span) checks.exactly ∙ check-span d t ∙ ap (λ (w : Verdict). span_of w t) (sym (ap (λ (g : Foretold). g.verdict) checks.exactly) ∙ e)

-- two tables that differ only in spans
module _ (t u : List Step) (t-good : refusal18 t ≡ None) (u-good : refusal18 u ≡ None) (same : SameButSpans t u) where
  both : SameOfBoth t u
  both = record {
    checks = λ c k. rw (c.exactly, k.exactly) (check-aside t u t-good u-good same _);
    runs = λ a b. run-once a (record { exactly = b.exactly ∙ sym (run-aside t u t-good u-good same _ _ _) });
    writes = λ {out} {r} {s} {out'} {out''} a b. lends-once a (subst (λ (w : Reply Bytes). Lends w out s out'') (sym (write-aside t u t-good u-good same)) b);
  }

-- what the call `definition` answers
defined : {text out : Bytes} {m : ℕ} {out' : Bytes} → Writes define text out (Ok m) out' → definition text ≡ take m out'
unfolding define
defined p = cc (answers-so p).answer

pub spans : Spans
spans = record {
  definition-answer = defined;
  spans-are-the-readers = λ how mode p. walks how mode p;
  bytes-there = λ how mode p. at_each how mode p;
  spans-rise = λ how mode p. (walk-rises _ 0 _ (walks how mode p), prepared-short how mode _ _ (table-tested how mode p));
  few-span = λ k checks e. span-is checks e;
  many-span = λ k checks e. span-is checks e;
  pass-span = λ checks e. span-is checks e;
  refused-span = λ number k checks e. span-is checks e;
  underlines-few = λ how mode k p checks e. at-span how mode p k (span-is checks e);
  underlines-many = λ how mode k p checks e. at-span how mode p k (span-is checks e);
  spans-aside = both;
}

pub exports : Exports
exports = record {
  normalise-export = behind-normalise;
  definition-export = behind-definition;
  split-export = behind-split;
  parameters-export = behind-parameters;
  translate-export = behind-translate;
  next-export = behind-next;
  prepare-export = behind-prepare;
  prepare-as-export = behind-prepare-as;
  check-export = λ p. (check _ _, record { exactly = refl }, p.exactly, behind-pass _ _ _ p);
  run-export = behind-run;
  next-export-once = λ text at p q. p ∙ sym q;
  check-export-once = plain-check-once;
  run-export-once = plain-run-once;
}

pub kept : (w : World) → Promises w
kept w = record { calls = calls w; demand1 = demand1; demand2 = demand2; demand3 = demand3; readings = readings; modes = modes; offsets = offsets; spans = spans; exports = exports }
