-- No second outcome meets a call's promise: each promise is an equation, so two outcomes that it admits are equal.
use Rattle.rules.specs.declared.Refusal.{Refusal}
use Rattle.rules.specs.declared.Finished.{Finished}
use Rattle.std.specs.Prelude.{◌≡◌, List, ℕ, Float, Result}
use Rattle.std.proofs.Common.{sym, ap, ◌∙◌}
use Rattle.rules.specs.Text.Bytes.{Bytes}
use Rattle.rules.specs.Text.Refusal.{Reply, Promised, Lends}
use Rattle.rules.specs.Pipeline.Run.{Outcome, Runs}
use Rattle.rules.specs.Pipeline.Check.{Checks}
use Rattle.rules.specs.Face.Plain.{PlainChecks, PlainOutcome, PlainRuns}
use Rattle.rules.specs.declared.Step.{Step}
use Rattle.rules.specs.declared.Direction.{Direction}
use Rattle.rules.specs.declared.Foretold.{Foretold}
use Rattle.rules.specs.declared.Checked.{Checked}
use Rattle.rules.specs.declared.Done.{Done}

-- `normalise`, `split`, `parameters`, `translate` and `prepare`, in any words: result and lent storage
pub once : {A R : Type 0} {in_words : Reply ℕ → R} {own : Bytes → Reply (List A)} {text : Bytes} {storage : List A}
    {r r' : R} {after after' : List A}
    → Promised in_words own text storage r after → Promised in_words own text storage r' after' → (r ≡ r') × (after ≡ after')
once {A} {R} p q =
    let e = p.exactly ∙ sym q.exactly in
    (ap (λ (x : R × List A). x.0) e, ap (λ (x : R × List A). x.1) e)

-- `write` and `write_step`: result and buffer
pub lends-once : {reply : Reply Bytes} {out : Bytes} {r r' : Result ℕ Refusal} {after after' : Bytes}
    → Lends reply out r after → Lends reply out r' after' → (r ≡ r') × (after ≡ after')
lends-once p q =
    let e = p.exactly ∙ sym q.exactly in
    (ap (λ (x : Result ℕ Refusal × Bytes). x.0) e, ap (λ (x : Result ℕ Refusal × Bytes). x.1) e)

-- the check: its answer, all of it
pub check-once : {d : Direction} {t : List Step} {r r' : Foretold} → Checks d t r → Checks d t r' → r ≡ r'
check-once p q = p.exactly ∙ sym q.exactly

pub plain-check-once : {inverse : ℕ} {t : List Step} {r r' : Checked} → PlainChecks inverse t r → PlainChecks inverse t r' → r ≡ r'
plain-check-once p q = p.exactly ∙ sym q.exactly

-- the run: result, list and store
pub run-once : {d : Direction} {t : List Step} {xs store : List Float} {r r' : Result Finished Refusal} {xs₁ xs₂ store₁ store₂ : List Float}
    → Runs d t xs store r xs₁ store₁ → Runs d t xs store r' xs₂ store₂ → (r ≡ r') × (xs₁ ≡ xs₂) × (store₁ ≡ store₂)
run-once p q =
    let e = p.exactly ∙ sym q.exactly in
    (ap (λ (o : Outcome). o.answer) e, ap (λ (o : Outcome). o.list) e, ap (λ (o : Outcome). o.store) e)

pub plain-run-once : {inverse : ℕ} {t : List Step} {xs store : List Float} {r r' : Done} {xs₁ xs₂ store₁ store₂ : List Float}
    → PlainRuns inverse t xs store r xs₁ store₁ → PlainRuns inverse t xs store r' xs₂ store₂ → (r ≡ r') × (xs₁ ≡ xs₂) × (store₁ ≡ store₂)
plain-run-once p q =
    let e = p.exactly ∙ sym q.exactly in
    (ap (λ (o : PlainOutcome). o.answer) e, ap (λ (o : PlainOutcome). o.list) e, ap (λ (o : PlainOutcome). o.store) e)
