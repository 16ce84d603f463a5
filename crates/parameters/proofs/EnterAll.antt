-- Entering words into a table: the loop over the words.
use mathlib.Core.Path.{◌≡◌, refl, sym, ap, ◌∙◌}
use mathlib.Core.Bool.{Bool, false}
use mathlib.Core.List.{List, [], ◌∷◌, map}
use Prim.Native.Nat.{ℕ, ◌-◌, ◌≤◌, ◌<◌}
use native.Mathlib.Omega.{arith}
use lib.ListN.{length, take, drop, length-map, drop_of_length-le}
use lib.Seq.{take-take, length-take-le}
use Rattle.rules.specs.Text.Bytes.{Bytes, white, words}
use Rattle.rules.specs.Text.Parameters.{Placed, entered_by, entered_all_by}
use Rattle.rules.specs.Text.Reader.{part}
use Rattle.laws_text.specs.Table.{entered-map}
use Rattle.text.specs.Runs.{Run}
use Rattle.text.proofs.RunEnd.{other}
use Rattle.laws_text.specs.Passes.{words-nil}
use Rattle.parameters.specs.Parts.{Parts, placed_of, held, placed_in, parts_with}
use Rattle.parameters.specs.declared.table.Part.{Part}
use Rattle.parameters.specs.Elements.{Spelt, Spot, words_at, element, elements_at, IsPart, placed_all}
use Rattle.parameters.proofs.Growth.{entered-all-longer}
use Rattle.parameters.proofs.Cut.{drop-take}
use Rattle.parameters.proofs.Spots.{no-spots, spot-there, no-spot}

abbrev key : Placed → Bytes
key q = q.given.key

-- the elements of the words of a text from a place on
abbrev left : Bytes → ℕ → Bool → ℕ → List Placed
left s to first k = elements_at first (words_at k (drop k (take to s)))

-- the words from k on, into the table so far, give what all give into the parameters that were there
pub record Words-left (s : Bytes) (t : List Placed) (from to : ℕ) (first : Bool) (table : Parts) (name : Bool) (k : ℕ) : Type 0 where
  pub within : k ≤ to
  pub whole : to ≤ length s
  pub same : placed_all (left s to name k) (placed_in s table) ≡ placed_all (left s to first from) t

-- words in front of `_nametrue` are within the text
pub in-front : {s : Bytes} {n to : ℕ} → Spelt s n → to ≤ n → to ≤ length s
in-front z h = omega (arith, z.ends)

pub words-all : {s : Bytes} {table : Parts} {from to : ℕ} {first : Bool} → from ≤ to → to ≤ length s → Words-left s (placed_in s table) from to first table first from
words-all h l = record { within = h; whole = l; same = refl }

part-front : (s : Bytes) (to a e : ℕ) → a ≤ e → e ≤ to → to ≤ length s → part a e (take to s) ≡ part a e s
part-front s to a e h l g =
    ap (take (e - a)) (drop-take a to s (omega arith) (omega arith)) ∙ take-take (e - a) (to - a) (drop a s) (omega arith)

module _ {s : Bytes} {t : List Placed} {table : Parts} {from to k : ℕ} {first name : Bool} (m : Words-left s t from to first table name k) where
  -- where there is no word any more
  entered-none : words_at k (drop k (take to s)) ≡ [] → placed_in s table ≡ placed_all (left s to first from) t
  unfolding entered_all_by elements_at
  entered-none e = sym (ap (λ (l : List Spot). placed_all (elements_at name l) (placed_in s table)) e) ∙ m.same

  pub words-end : to ≤ k → placed_in s table ≡ placed_all (left s to first from) t
  words-end h =
      let l : length (take to s) ≤ k = omega (arith, length-take-le to s m.whole) in
      entered-none (no-spots k (drop k (take to s)) (ap words (drop_of_length-le (take to s) l) ∙ words-nil))

  module _ {a e : ℕ} (p : Run white (take to s) k a) (q : Run (other white) (take to s) a e) where
    pub words-none : e ≤ a → placed_in s table ≡ placed_all (left s to first from) t
    words-none h = entered-none (no-spot p q h)

    pub word-ends : (a ≤ e) × (e ≤ to)
    word-ends = (q.ahead, omega (arith, q.within, length-take-le to s m.whole))

    module _ (h : a < e) {w : Part} (is : IsPart s a e name w) where
      -- the element that the word is, and those behind it
      spells : element name (record { at = a; word = part a e (take to s) }) ≡ placed_of s w
      spells = sym (is.spells ∙ ap (λ (u : Bytes). element name (record { at = a; word = u })) (sym (part-front s to a e word-ends.0 word-ends.1 m.whole)))

      next : left s to name k ≡ placed_of s w ∷ left s to false e
      unfolding elements_at
      next = ap (elements_at name) (spot-there p q h) ∙ ap (λ (x : Placed). x ∷ left s to false e) spells

      -- the word entered
      into : map (placed_of s) (parts_with s w (held table)) ≡ entered_by key (placed_of s w) (placed_in s table)
      into = entered-map key (placed_of s) w (held table)

      all-of : placed_all (left s to false e) (map (placed_of s) (parts_with s w (held table))) ≡ placed_all (left s to first from) t
      unfolding entered_all_by
      all-of = ap (placed_all (left s to false e)) into ∙ sym (ap (λ (qs : List Placed). placed_all qs (placed_in s table)) next) ∙ m.same

      pub words-full : 32 < length (parts_with s w (held table)) → 32 < length (placed_all (left s to first from) t)
      words-full f =
          rw (← all-of)
          (omega (arith, f, length-map (parts_with s w (held table)) (placed_of s), entered-all-longer key (left s to false e) (map (placed_of s) (parts_with s w (held table)))))

      pub words_more : {table' : Parts} → held table' ≡ parts_with s w (held table) → Words-left s t from to first table' false e
      words_more f = record { within = word-ends.1; whole = m.whole; same = ap (λ (l : List Part). placed_all (left s to false e) (map (placed_of s) l)) f ∙ all-of }
