-- What a table of parameters holds, and what entering into it gives.
use Rattle.std.specs.Prelude.{◌≡◌, List, [], map, ◌<◌, length, take, Result, OnOk, OnErr}
use Rattle.rules.specs.Text.Bytes.{Bytes, Words}
use Rattle.rules.specs.Text.Parameters.{Placed, placed_elements, table_of}
use Rattle.parameters.specs.declared.table.Full.{Full}
use Rattle.parameters.specs.declared.table.Parameters.{Parameters}
use Rattle.parameters.specs.declared.table.Part.{Part}
use Rattle.parameters.specs.declared.table.Source.{Source}
use Rattle.parameters.specs.Parts.{Parts, part_of, placed_of, held}
use Rattle.parameters.specs.Elements.{placed_all}

-- the text that is to be cut
abbrev pub front : Source → Bytes
front source = take source.n source.s.now

-- the text that its parts are parts of, and the table
abbrev pub text : Parameters → Bytes
text p = p.source.s.now

abbrev pub table_in : Parameters → Parts
table_in p = record { parts = p.parts; n = p.n }

-- What entering gives: the parts of the table, each read in one way, are all these; or these have no room.
abbrev pub Gives : {A : Type 0} → (Part → A) → List A → Parameters → Result (Unit {0}) Full → Type 0
Gives read all_of p r = OnOk r (map read (held (table_in p)) ≡ all_of) × OnErr r (32 < length all_of)

-- elements entered one after the other into a table of these
abbrev pub EntersAll : Bytes → List Placed → List Placed → Parameters → Result (Unit {0}) Full → Type 0
EntersAll s table qs p r = Gives (placed_of s) (placed_all qs table) p r

-- what a step's words give
abbrev pub Tabled : Bytes → Words → Parameters → Result (Unit {0}) Full → Type 0
Tabled s ws p r = Gives (part_of s) (table_of ws) p r

-- what words that stand as they are cut give: leading modifiers are turned already, and one space is between
abbrev pub Cut : Bytes → Words → Parameters → Result (Unit {0}) Full → Type 0
Cut s ws p r = Gives (placed_of s) (placed_all (placed_elements ws) []) p r
