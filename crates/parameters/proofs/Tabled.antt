-- The table of a step's words.
use mathlib.Core.Path.{◌≡◌, refl, sym, ap, ◌∙◌}
use mathlib.Core.Bool.{Bool, true, false, cond, false≢true}
use mathlib.Core.List.{List, [], ◌∷◌, ◌++◌, map, map-map}
use Prim.Native.Nat.{ℕ, ◌≤◌, ◌<◌}
use Rattle.std.specs.Prelude.{Result, Ok, Err}
use native.Mathlib.Omega.{arith}
use lib.ListN.{length, take, drop, length-map}
use lib.Seq.{take-take, length-take-le}
use Rattle.rules.specs.Text.Ascii.{is}
use Rattle.rules.specs.Text.Lists.{all_of, any_of, non_empty}
use Rattle.rules.specs.Text.Bytes.{Bytes, Words, words, joined}
use Rattle.rules.specs.Text.Split.{modifier, leading, following, turned}
use Rattle.rules.specs.Text.Parameters.{Parameter, Placed, placed_elements, elements, parameter, name, entered_by, entered_all_by, entered_all, table_of}
use Rattle.laws_text.specs.Table.{given, given-all}
use Rattle.text.specs.Runs.{Lead}
use Rattle.text.proofs.Lead.{following-some}
use Rattle.parameters.specs.Parts.{part_of, placed_of, held}
use Rattle.parameters.specs.declared.table.Part.{Part}
use Rattle.parameters.proofs.Growth.{entered-all-longer}
use Rattle.parameters.proofs.Spots.{elements_from, spots-words, spots-joined, placed-elements, given-from}
use Rattle.parameters.specs.Elements.{Spelt, words_at, elements_at, placed_all}
use Rattle.parameters.specs.Tables.{table_in, Gives}
use Rattle.parameters.specs.declared.table.Full.{Full}
use Rattle.parameters.specs.declared.table.Parameters.{Parameters}

-- ---- what is known at the start

pub spelt-fits : {s : Bytes} {n : ℕ} → Spelt s n → n ≤ length s
spelt-fits z = omega (arith, z.ends)

pub spelt-front : {s : Bytes} {n : ℕ} → Spelt s n → n ≡ length (take n s)
spelt-front {s} {n} z = sym (length-take-le n s (spelt-fits z))

-- ---- a table, with the places and without

-- the same parts, each read in a way that follows from the first
gives-map : {A B : Type 0} (read : Part → A) (l : List A) (p : Parameters) (f : A → B) (r : Result (Unit {0}) Full) → Gives read l p r → Gives (λ (q : Part). f (read q)) (map f l) p r
gives-map read l p f (Ok _) m = (sym (map-map f read (held (table_in p))) ∙ ap (map f) m.0, tt)
gives-map read l p f (Err _) m = (tt, omega (arith, m.1, length-map l f))

-- what entering the words of a text comes to
given-entered : (first : Bool) (at : ℕ) (u : Bytes) (qs : List Placed) → map given (placed_all (elements_at first (words_at at u)) qs) ≡ entered_all (elements_from first (words u)) (map given qs)
given-entered first at u qs =
    let a : map given (elements_at first (words_at at u)) ≡ elements_from first (words u) = given-from first (words_at at u) ∙ ap (elements_from first) (spots-words at u) in
    given-all (elements_at first (words_at at u)) qs ∙ ap (λ (ps : List Parameter). entered_all ps (map given qs)) a

-- words that stand as they are cut
pub cut_all : (s : Bytes) (n : ℕ) → take n s ≡ joined (words (take n s)) → elements_at true (words_at 0 (take n s)) ≡ placed_elements (words (take n s))
cut_all s n e = ap (elements_at true) (spots-joined (take n s) (take n s) e) ∙ placed-elements (words (take n s))

-- ---- the table of a step's words

elements-append : (ws us : Words) → non_empty ws ≡ true → elements (ws ++ us) ≡ elements ws ++ map parameter us
unfolding elements non_empty
elements-append [] us e = absurd (false≢true e)
elements-append (w ∷ ws) us e = ap (λ (r : List Parameter). cond (any_of (is "=") w) (parameter w) (name w) ∷ r) (map-append ws)
  where
    map-append : (vs : Words) → map parameter (vs ++ us) ≡ map parameter vs ++ map parameter us
    map-append [] = refl
    map-append (v ∷ vs) = ap (λ (r : List Parameter). parameter v ∷ r) (map-append vs)

entered-append : (ps qs l : List Parameter) → entered_all (ps ++ qs) l ≡ entered_all qs (entered_all ps l)
unfolding entered_all_by
entered-append [] qs l = refl
entered-append (p ∷ ps) qs l = entered-append ps qs (entered_by (λ (q : Parameter). q.key) p l)

-- the words after the modifiers in front are entered first, then these
table_is : (ws : Words) → all_of modifier ws ≡ false → table_of ws ≡ entered_all (map parameter (leading ws)) (entered_all (elements (following ws)) [])
unfolding table_of turned
table_is ws e =
    ap (λ (ps : List Parameter). entered_all ps []) (elements-append (following ws) (leading ws) (following-some ws e))
    ∙ entered-append (elements (following ws)) (map parameter (leading ws)) []

module _ (s : Bytes) (n : ℕ) {k : ℕ} (l : n ≤ length s) (m : Lead (take n s) k) where
  pub lead-within : (k ≤ n) × (k ≤ length s)
  lead-within = (omega (arith, m.within, length-take-le n s l), omega (arith, m.within, length-take-le n s l))

  front : words (take k s) ≡ leading (words (take n s))
  front = ap words (sym (take-take k n s lead-within.0)) ∙ m.front

  -- the elements behind the modifiers, and these
  abbrev pub others : List Placed
  others = elements_at true (words_at k (drop k (take n s)))

  abbrev pub modifiers : List Placed
  modifiers = elements_at false (words_at 0 (take k s))

  module _ (e : all_of modifier (words (take n s)) ≡ false) where
    first-all : map given (placed_all others []) ≡ entered_all (elements (following (words (take n s)))) []
    unfolding elements_from
    first-all = given-entered true k (drop k (take n s)) [] ∙ rw m.rest

    all-of : map given (placed_all modifiers (placed_all others [])) ≡ table_of (words (take n s))
    unfolding elements_from
    all-of =
        let then : entered_all (map parameter (words (take k s))) (map given (placed_all others [])) ≡ table_of (words (take n s)) =
        rw (front, first-all) (sym (table_is (words (take n s)) e)) in
        given-entered false 0 (take k s) (placed_all others []) ∙ then

    pub tabled-full : 32 < length (placed_all others []) → 32 < length (table_of (words (take n s)))
    tabled-full f =
        rw (table_is (words (take n s)) e)
        (omega (
          arith,
          f,
          length-map (placed_all others []) given,
          ap length first-all,
          entered-all-longer (λ (q : Parameter). q.key) (map parameter (leading (words (take n s)))) (entered_all (elements (following (words (take n s)))) []),
        ))

    pub tabled-both : (p : Parameters) (r : Result (Unit {0}) Full) → Gives (placed_of s) (placed_all modifiers (placed_all others [])) p r → Gives (part_of s) (table_of (words (take n s))) p r
    tabled-both p r g = rw all-of at (gives-map (placed_of s) (placed_all modifiers (placed_all others [])) p given r g)
