-- Answers and refusals, and what a call that reads a text leaves in the storage that it is lent.
use Rattle.std.specs.Prelude.{◌≡◌, ℕ, cond, not, List, ◌++◌, length, drop, ltb, Result, Ok, Err}
use Rattle.rules.specs.Text.Bytes.{Bytes, in_domain}
use Rattle.rules.specs.declared.Refusal.{Refusal}

-- a reply: an answer; or "A refusal returns its number and a place"; or refusal 12, at a place and an offset: "12 gains the offset"
pub data Reply (A : Type 0) : Type 0 where
  answers : A → Reply A
  refuses : ℕ → ℕ → Reply A
  refuses12 : ℕ → ℕ → Reply A

-- what is done with an answer; a refusal stays
unfoldable pub and_then : {A B : Type 0} → Reply A → (A → Reply B) → Reply B
and_then (answers x) next = next x
and_then (refuses number place) next = refuses number place
and_then (refuses12 place offset) next = refuses12 place offset

-- "Text calls test 1, 2, then their own." 1: "a text .. is over 4,096 bytes". 2: "a byte is neither ASCII nor part of a
-- whole subscript digit".
unfoldable pub tested : {A : Type 0} → (Bytes → Reply A) → Bytes → Reply A
tested own text =
    cond (ltb 4096 (length text)) (refuses 1 0)
    (cond (not (in_domain text)) (refuses 2 0)
    (own text))

-- ---- lent storage: a buffer of bytes, or a step table. `in_words` says a reply in the words of the code.

module _ {A R : Type 0} (in_words : Reply ℕ → R) where
  -- A reply brought into the storage: what is returned, and what the storage holds then. 7: "the whole answer is longer
  -- than the lent buffer"; "a step table too short is 7". "A refusal leaves output, step table .. as they were at the
  -- call; an answer writes nothing past its own end." Of an answer, its length is returned.
  unfoldable pub lent : Reply (List A) → List A → R × List A
  lent (refuses number place) storage = (in_words (refuses number place), storage)
  lent (refuses12 place offset) storage = (in_words (refuses12 place offset), storage)
  lent (answers xs) storage =
      cond (ltb (length storage) (length xs)) (in_words (refuses 7 0), storage)
      (in_words (answers (length xs)), xs ++ drop (length xs) storage)

  -- a call, by its own rule, on a text and its storage; "7 comes last"
  unfoldable pub outcome : (Bytes → Reply (List A)) → Bytes → List A → R × List A
  outcome own text storage = lent (tested own text) storage

  -- what such a call promises of its result and of the storage, before and after
  pub record Promised (own : Bytes → Reply (List A)) (text : Bytes) (storage : List A) (result : R) (storage' : List A) : Type 0 where
    pub exactly : ◌≡◌ {A = R × List A} (result, storage') (outcome own text storage)

-- a refusal with this number and place, and no offset
abbrev pub told : ℕ → ℕ → Refusal
told number place = record { number = number; place = place; offset = 0 }

-- the answer that is a refusal; and one with an offset
abbrev pub refusal : {A : Type 0} → ℕ → ℕ → Result A Refusal
refusal number place = Err (told number place)

abbrev pub refusal_at : {A : Type 0} → ℕ → ℕ → ℕ → Result A Refusal
refusal_at number place offset = Err (record { number = number; place = place; offset = offset })

-- "Where an answer is an enum, a definition gives this paper's number and values for each of its cases, and the promises
-- use that definition": a text call's answer, and preparing's. Only preparing refuses 12; of any other refusal the offset is 0.
unfoldable pub written : Reply ℕ → Result ℕ Refusal
written (answers n) = Ok n
written (refuses number place) = refusal number place
written (refuses12 place offset) = refusal 12 place

unfoldable pub prepared : Reply ℕ → Result ℕ Refusal
prepared (answers n) = Ok n
prepared (refuses number place) = refusal number place
prepared (refuses12 place offset) = refusal_at 12 place offset

-- what a text call promises, by its own rule
abbrev pub Writes : (Bytes → Reply Bytes) → Bytes → Bytes → Result ℕ Refusal → Bytes → Type 0
Writes own text buffer result buffer' = Promised written own text buffer result buffer'

-- what a call that reads no text promises: its reply, brought into the lent buffer
pub record Lends (reply : Reply Bytes) (buffer : Bytes) (result : Result ℕ Refusal) (buffer' : Bytes) : Type 0 where
  pub exactly : ◌≡◌ {A = Result ℕ Refusal × Bytes} (result, buffer') (lent written reply buffer)

-- What a function leaves in a buffer that has room for it: the text stands at the front, the rest is as it was, and the text's length
-- is returned.
pub record Wrote (text buffer : Bytes) (result : ℕ) (buffer' : Bytes) : Type 0 where
  pub count : result ≡ length text
  pub whole : buffer' ≡ text ++ drop result buffer
