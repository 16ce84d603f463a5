-- A pipeline, by what it says.
use Rattle.std.specs.Prelude.{Bool}
use Rattle.rules.specs.Text.Bytes.{Bytes}
use Rattle.rules.specs.Proj.Translate.{Pipeline}

abbrev pub pipeline_of : Bytes → Bool → Pipeline
pipeline_of g inverted = record { globals = g; inverted = inverted }
