-- What the exchanged words of a step say.
use Rattle.std.specs.Prelude.{◌≡◌, ◌&&◌, ◌||◌, [], ◌<◌, drop, length, Option, None, Some}
use Rattle.rules.specs.Text.Lists.{any_of, all_of, non_empty}
use Rattle.rules.specs.Text.Bytes.{Bytes, Words}
use Rattle.rules.specs.Proj.Translate.{is_inv}
use Rattle.laws_proj.specs.Tidying.{count_of, last_from}
use Rattle.proj_words.specs.declared.exchange.Marks.{Marks}
use Rattle.proj_words.specs.declared.exchange.Key.{Key}

-- the marks with one word more
pub record IsMarked (w : Bytes) (m r : Marks) : Type 0 where
  pub inv : r.inv ≡ (m.inv || is_inv w)
  pub only : r.only ≡ (m.only && is_inv w)
  pub some : r.some ≡ (m.some || non_empty w)

-- the marks of words
pub record IsMarks (ws : Words) (m : Marks) : Type 0 where
  pub inv : m.inv ≡ any_of is_inv ws
  pub only : m.only ≡ all_of is_inv ws
  pub some : m.some ≡ any_of non_empty ws

-- how many of the words begin with a key, and what follows it in the last of them
pub record IsKey (ws : Words) (key : Bytes) (r : Key) : Type 0 where
  pub some : 0 < r.count
  pub count : r.count ≡ count_of key ws
  pub value : r.value.now ≡ drop (length key) (last_from key [] ws)

-- what is found: that, or that none does
abbrev pub FoundKey : Words → Bytes → Option Key → Type 0
FoundKey ws key (Some r) = IsKey ws key r
FoundKey ws key None = count_of key ws ≡ 0
