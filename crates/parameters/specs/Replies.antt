-- What is replied of a step's parameters, written.
use mathlib.Core.List.{List, [], ◌∷◌, flat_map}
use Rattle.rules.specs.Text.Bytes.{Bytes, Words}
use Rattle.rules.specs.Text.Parameters.{Parameter, name, step_table, text_table, parameter_line}
use Rattle.rules.specs.Text.Refusal.{Reply, answers, and_then}
use Rattle.parameters.specs.Parts.{Parts, listed}

-- "parameters as `key=value`, are written each with a newline after it": those of a table
abbrev pub lines_of : Bytes → Parts → Bytes
lines_of s t = flat_map parameter_line (listed s t)

-- a reply's table, written
abbrev in_lines : Reply (List Parameter) → Reply Bytes
in_lines reply = and_then reply (λ table. answers (flat_map parameter_line table))

-- for a step's words, for a text with a separator, and for any normalised text
abbrev pub step_reply : Words → Reply Bytes
step_reply ws = in_lines (step_table ws)

abbrev pub name_reply : Bytes → Reply Bytes
name_reply normalised = answers (flat_map parameter_line (name normalised ∷ []))

abbrev pub text_reply : Bytes → Reply Bytes
text_reply normalised = in_lines (text_table normalised)
