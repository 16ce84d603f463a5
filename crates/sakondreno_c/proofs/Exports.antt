-- The exports keep their word: what the page of promises says of the library's functions of these names (crates/promises/specs/Promises.antt), said of the
-- code that C and Rust call.
use Rattle.std.specs.Prelude.{◌≡◌}
use borrow.Fn.World.{World}
use Rattle.rules.specs.Text.Refusal.{Promised}
use Rattle.rules.specs.Text.Normal.{normalise}
use Rattle.rules.specs.Text.Split.{split}
use Rattle.rules.specs.Text.Parameters.{parameters}
use Rattle.rules.specs.Proj.Translate.{translate}
use Rattle.rules.specs.Text.Reader.{next, define}
use Rattle.rules.specs.Pipeline.Prepare.{prepare, prepare_as}
use Rattle.rules.specs.Pipeline.Record.{reading_of}
use Rattle.rules.specs.Face.Plain.{replied, record_count, plain_found, mode_of, PlainChecks, PlainRuns}
use Rattle.rules.specs.Face.Contract.{Keeps}
use Rattle.sakondreno_c.specs.contracts as calls
use Rattle.sakondreno_c.proofs as code

pub record Exports (w : World) : Type 1 where
  pub sakondreno-normalise-keeps : Keeps w calls.sakondreno_normalise.ended code.sakondreno_normalise.Symbol.code code.sakondreno_normalise.Symbol.name
      (λ l before r after. Promised replied normalise before.0.now before.1.0.now r after.1.0.now)
  pub sakondreno-definition-keeps : Keeps w calls.sakondreno_definition.ended code.sakondreno_definition.Symbol.code code.sakondreno_definition.Symbol.name
      (λ l before r after. Promised replied define before.0.now before.1.0.now r after.1.0.now)
  pub sakondreno-split-keeps : Keeps w calls.sakondreno_split.ended code.sakondreno_split.Symbol.code code.sakondreno_split.Symbol.name
      (λ l before r after. Promised replied split before.0.now before.1.0.now r after.1.0.now)
  pub sakondreno-parameters-keeps : Keeps w calls.sakondreno_parameters.ended code.sakondreno_parameters.Symbol.code code.sakondreno_parameters.Symbol.name
      (λ l before r after. Promised replied parameters before.0.now before.1.0.now r after.1.0.now)
  pub sakondreno-translate-keeps : Keeps w calls.sakondreno_translate.ended code.sakondreno_translate.Symbol.code code.sakondreno_translate.Symbol.name
      (λ l before r after. Promised replied translate before.0.now before.1.0.now r after.1.0.now)
  pub sakondreno-next-keeps : Keeps w calls.sakondreno_next.ended code.sakondreno_next.Symbol.code code.sakondreno_next.Symbol.name
      (λ l before r after. r ≡ plain_found (next before.0.now before.1.0))
  pub sakondreno-prepare-keeps : Keeps w calls.sakondreno_prepare.ended code.sakondreno_prepare.Symbol.code code.sakondreno_prepare.Symbol.name
      (λ l before r after. Promised record_count prepare before.0.now before.1.0.now r after.1.0.now)
  pub sakondreno-prepare-as-keeps : Keeps w calls.sakondreno_prepare_as.ended code.sakondreno_prepare_as.Symbol.code code.sakondreno_prepare_as.Symbol.name
      (λ l before r after. Promised record_count (prepare_as (reading_of before.1.0) (mode_of before.1.1.0)) before.0.now before.1.1.1.0.now r after.1.1.1.0.now)
  pub sakondreno-check-keeps : Keeps w calls.sakondreno_check.ended code.sakondreno_check.Symbol.code code.sakondreno_check.Symbol.name
      (λ l before r after. PlainChecks before.1.0 before.0.now r)
  pub sakondreno-run-keeps : Keeps w calls.sakondreno_run.ended code.sakondreno_run.Symbol.code code.sakondreno_run.Symbol.name
      (λ l before r after. PlainRuns before.1.0 before.0.now before.1.1.0.now before.1.1.1.0.now r after.1.1.0.now after.1.1.1.0.now)

pub exports : (w : World) → Exports w
exports w = record {
  sakondreno-normalise-keeps = code.sakondreno_normalise.Met.met w.𝓤 w.𝓛 w.𝓜 w.𝓡;
  sakondreno-definition-keeps = code.sakondreno_definition.Met.met w.𝓤 w.𝓛 w.𝓜 w.𝓡;
  sakondreno-split-keeps = code.sakondreno_split.Met.met w.𝓤 w.𝓛 w.𝓜 w.𝓡;
  sakondreno-parameters-keeps = code.sakondreno_parameters.Met.met w.𝓤 w.𝓛 w.𝓜 w.𝓡;
  sakondreno-translate-keeps = code.sakondreno_translate.Met.met w.𝓤 w.𝓛 w.𝓜 w.𝓡;
  sakondreno-next-keeps = code.sakondreno_next.Met.met w.𝓤 w.𝓛 w.𝓜 w.𝓡;
  sakondreno-prepare-keeps = code.sakondreno_prepare.Met.met w.𝓤 w.𝓛 w.𝓜 w.𝓡;
  sakondreno-prepare-as-keeps = code.sakondreno_prepare_as.Met.met w.𝓤 w.𝓛 w.𝓜 w.𝓡;
  sakondreno-check-keeps = code.sakondreno_check.Met.met w.𝓤 w.𝓛 w.𝓜 w.𝓡;
  sakondreno-run-keeps = code.sakondreno_run.Met.met w.𝓤 w.𝓛 w.𝓜 w.𝓡;
}
