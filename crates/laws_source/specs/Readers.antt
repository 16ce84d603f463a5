-- The two readers of src/token/mod.rs as they stand, on texts of document 01's domain: `remove_comments`, and `parse_proj` as far as its steps. (Before any of
-- this, `parse_proj` returns a text that has `|` or lacks `proj` unchanged; the rule `translate` does that.) Above a definition stand the source's lines that it
-- restates. `normalize` is `normal` of `rules`. A turn of a loop takes what is collected so far, the source's `trimmed`, and the next line. What stands in the
-- branch is a parameter, and each reader is here a second time without the branch.
use Rattle.std.specs.Prelude.{Bool, cond, not, List, [], ◌∷◌, ◌++◌, map}
use Rattle.rules.specs.Text.Ascii.{ascii, is}
use Rattle.rules.specs.Text.Lists.{kept}
use Rattle.rules.specs.Text.Bytes.{Bytes, white, starts, replace, trim_start, trimmed, cut}
use Rattle.rules.specs.Text.Normal.{normal}
use Rattle.laws_source.specs.Strings.{is_empty, first, lines, split_at, trim_start_matches}

-- ---- what both do with a line

-- let line: Vec<&str> = line.trim().split('#').collect();      and, of it, line[0]
unfoldable pub first_part : Bytes → Bytes
first_part line = first (cut (is "#") (trimmed white line))

-- if line[0].starts_with('#')                                  the branch: "Full line comment - just skip"
unfoldable pub is_full_line_comment : Bytes → Bool
is_full_line_comment line = starts (ascii "#") (first_part line)

-- trimmed += " "; trimmed += line[0].trim();
unfoldable pub collected : Bytes → Bytes → Bytes
collected so line = so ++ (ascii " " ++ trimmed white (first_part line))

-- for line in all.lines()
unfoldable pub loop : (Bytes → Bytes → Bytes) → Bytes → List Bytes → Bytes
loop turn so [] = so
loop turn so (line ∷ ls) = loop turn (turn so line) ls

-- continue;                                                    what stands in the branch: what is collected stays
abbrev pub continue : Bytes → Bytes
continue so = so

-- ---- remove_comments

-- let all = self.as_ref().trim().replace("\r\n", "\n").replace('\r', "\n").replace("\n:", "\n").to_string();
unfoldable pub all_comments : Bytes → Bytes
all_comments t = replace (ascii "\n:") (ascii "\n") (replace (ascii "\r") (ascii "\n") (replace (ascii "\r\n") (ascii "\n") (trimmed white t)))

-- let line = line.trim(); if line.is_empty() { continue; }, then the branch, and then the collecting
unfoldable pub comments_turn : (Bytes → Bytes) → Bytes → Bytes → Bytes
comments_turn branch so line =
    let line = trimmed white line in
    cond (is_empty line) so
    (cond (is_full_line_comment line) (branch so)
    (collected so line))

-- let mut trimmed = String::new(); for line in all.lines() { .. } trimmed
unfoldable pub remove_comments_by : (Bytes → Bytes) → Bytes → Bytes
remove_comments_by branch t = loop (comments_turn branch) [] (lines (all_comments t))

unfoldable pub remove_comments : Bytes → Bytes
remove_comments t = remove_comments_by continue t

-- without the branch
unfoldable pub comments_turn_without : Bytes → Bytes → Bytes
comments_turn_without so line =
    let line = trimmed white line in
    cond (is_empty line) so
    (collected so line)

unfoldable pub remove_comments_without : Bytes → Bytes
remove_comments_without t = loop comments_turn_without [] (lines (all_comments t))

-- ---- parse_proj: the lines

-- let all = definition.replace("\r\n", "\n").replace('\r', "\n").replace(" +", " ").replace("\n+", " ").trim().trim_start_matches('+').to_string();
unfoldable pub all_proj : Bytes → Bytes
all_proj t =
    trim_start (is "+")
    (trimmed white
    (replace (ascii "\n+") (ascii " ") (replace (ascii " +") (ascii " ") (replace (ascii "\r") (ascii "\n") (replace (ascii "\r\n") (ascii "\n") t)))))

-- let line = line.trim();, then the branch, and then the collecting. (No line is skipped for being empty.)
unfoldable pub proj_turn : (Bytes → Bytes) → Bytes → Bytes → Bytes
proj_turn branch so line =
    let line = trimmed white line in
    cond (is_full_line_comment line) (branch so)
    (collected so line)

-- let mut trimmed = String::new(); for line in all.lines() { .. }
unfoldable pub collect_proj_by : (Bytes → Bytes) → Bytes → Bytes
collect_proj_by branch t = loop (proj_turn branch) [] (lines (all_proj t))

unfoldable pub collect_proj : Bytes → Bytes
collect_proj t = collect_proj_by continue t

-- without the branch
unfoldable pub proj_turn_without : Bytes → Bytes → Bytes
proj_turn_without so line =
    let line = trimmed white line in
    collected so line

unfoldable pub collect_proj_without : Bytes → Bytes
collect_proj_without t = loop proj_turn_without [] (lines (all_proj t))

-- ---- parse_proj: the steps

-- trimmed = " ".to_string() + &trimmed.normalize() + " ";
unfoldable pub spaced : Bytes → Bytes
spaced u = ascii " " ++ (normal u ++ ascii " ")

-- x.trim().trim_start_matches("step ")
unfoldable pub without_step : Bytes → Bytes
without_step x = trim_start_matches (ascii "step ") (trimmed white x)

-- trimmed.split(" step ").filter(|x| !x.trim().trim_start_matches("step ").is_empty()).map(|x| x.trim().trim_start_matches("step ").to_string())
unfoldable pub steps_in : Bytes → List Bytes
steps_in u = map without_step (kept (λ (x : Bytes). not (is_empty (without_step x))) (split_at (ascii " step ") u))

-- let steps: Vec<String>
unfoldable pub parse_proj_steps : Bytes → List Bytes
parse_proj_steps t = steps_in (spaced (collect_proj t))

unfoldable pub parse_proj_steps_without : Bytes → List Bytes
parse_proj_steps_without t = steps_in (spaced (collect_proj_without t))
