-- Stripping comments.
use mathlib.Core.List.{◌∷◌, flat_map}
use Rattle.rules.specs.Text.Ascii.{ascii, is}
use Rattle.rules.specs.Text.Bytes.{Bytes, white, replace, trimmed, before, cut}
use Rattle.rules.specs.Text.Normal.{continued}

-- the source's line ends: CR LF becomes a newline, then CR
unfoldable pub newlines : Bytes → Bytes
newlines t = replace (ascii "\r") (ascii "\n") (replace (ascii "\r\n") (ascii "\n") t)

-- a line up to its `#`, after a space
unfoldable pub uncommented : Bytes → Bytes
uncommented line = 32 ∷ before (is "#") line

-- The lines without comments, in one. (The source also trims each, and where it strips comments it skips empty ones;
-- normalising follows, which makes that no difference: laws_source/Stripped.)
unfoldable pub lined : Bytes → Bytes
lined t = flat_map uncommented (cut (is "\n") t)

-- "strips comments", as the source's `remove_comments`
unfoldable pub stripped : Bytes → Bytes
stripped t = lined (continued (newlines (trimmed white t)))
