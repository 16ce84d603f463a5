-- Writing parameters: the laws of a line, and of the loops over a table.
use mathlib.Core.Path.{◌≡◌, refl, sym, ap, ◌∙◌, subst}
use mathlib.Core.List.{List, [], ◌∷◌, ◌++◌, append_assoc, map, flat_map}
use Prim.Native.Nat.{ℕ, ◌+◌, ◌-◌, ◌*◌, ◌≤◌, ◌<◌}
use native.Mathlib.Omega.{arith}
use native.Mathlib.Numerals.{add-one}
use lib.ListN.{length, take, drop, get_or, set, length-append, drop_of_length-le}
use lib.Seq.{drop-cons}
use Rattle.rules.specs.Text.Ascii.{ascii}
use Rattle.rules.specs.Text.Bytes.{Bytes}
use Rattle.rules.specs.Text.Split.{line}
use Rattle.rules.specs.Text.Parameters.{Parameter, parameter_line}
use Rattle.text.proofs.RunEnd.{length_part}
use Rattle.text.specs.Wrote.{Wrote, WroteAt}
use Rattle.text.proofs.Wrote.{Sofar, sofar-at, sofar-start, sofar-byte, sofar-byte-room, sofar-part, sofar-part-room, sofar-end, sofar-length}
use Rattle.parameters.specs.Parts.{part_of, key_of, value_of, Within}
use Rattle.parameters.specs.declared.table.Part.{Part}

-- ---- a line

line-is : (q : Parameter) → parameter_line q ≡ q.key ++ (61 ∷ (q.value ++ (10 ∷ [])))
unfolding parameter_line line ascii
line-is q = append_assoc q.key (61 ∷ q.value) (10 ∷ [])

abbrev line-of : Bytes → Bytes → Bytes
line-of k v = parameter_line (record { key = k; value = v })

module _ (k v : Bytes) (dst : Bytes) (at : ℕ) (h : at + length (line-of k v) ≤ length dst) where
  start : Sofar (take at dst ++ line-of k v) (k ++ (61 ∷ (v ++ (10 ∷ [])))) dst at dst
  start = subst (λ (x : Bytes). Sofar (take at dst ++ line-of k v) x dst at dst) (line-is (record { key = k; value = v })) (sofar-at (line-of k v) dst at h)

  pub key-room : at + length (k) ≤ length dst
  key-room = sofar-part-room (k) (61 ∷ (v ++ (10 ∷ []))) start

  module _ {o : ℕ} {d₁ : Bytes} (w : Wrote (take at dst ++ k) dst o d₁) where
    key-done : Sofar (take at dst ++ line-of k v) (61 ∷ (v ++ (10 ∷ []))) dst o d₁
    key-done = sofar-part (k) start w

    pub equals-room : (o < length d₁) × (o < length dst)
    equals-room = sofar-byte-room key-done

    equals-done : Sofar (take at dst ++ line-of k v) (v ++ (10 ∷ [])) dst (o + 1) (set d₁ o 61)
    equals-done = sofar-byte key-done

    pub value_room : o + 1 + length (v) ≤ length (set d₁ o 61)
    value_room = sofar-part-room (v) (10 ∷ []) equals-done

    module _ {e : ℕ} {d₂ : Bytes} (x : Wrote (take (o + 1) (set d₁ o 61) ++ v) (set d₁ o 61) e d₂) where
      value-done : Sofar (take at dst ++ line-of k v) (10 ∷ []) dst e d₂
      value-done = sofar-part v equals-done x

      pub end-room : (e < length d₂) × (e < length dst)
      end-room = sofar-byte-room value-done

      pub line-done : WroteAt (line-of k v) dst at (e + 1) (set d₂ e 10)
      line-done = record { wrote = sofar-end (sofar-byte value-done) }

      pub line_kept : length (set d₂ e 10) ≡ length dst
      line_kept = sofar-length (sofar-byte value-done)

-- ---- the parts of a table from one on

-- the lines of the parts of a list from i on
abbrev pub lines_from : Bytes → List Part → ℕ → Bytes
lines_from s l i = flat_map parameter_line (map (part_of s) (drop i l))

lines_next : (s : Bytes) (l : List Part) (i : ℕ) (d : Part) → i < length l → lines_from s l i ≡ parameter_line (part_of s (get_or l i d)) ++ lines_from s l (i + 1)
unfolding flat_map
lines_next s l i d h =
    let e : drop i l ≡ get_or l i d ∷ drop (i + 1) l = drop-cons l i d h ∙ rw (sym (add-one i)) in
    rw e

lines_none : (s : Bytes) (l : List Part) (i : ℕ) → length l ≤ i → lines_from s l i ≡ []
unfolding flat_map
lines_none s l i h = rw (drop_of_length-le l h)

-- ---- writing them

-- the lines of the first i parts are written, and those of the others are to come
abbrev pub Lines : Bytes → List Part → Bytes → ℕ → ℕ → Bytes → Type 0
Lines s l dst₀ i o dst = Sofar (lines_from s l 0) (lines_from s l i) dst₀ o dst

pub lines_start : (s : Bytes) (l : List Part) (dst : Bytes) → length (lines_from s l 0) ≤ length dst → Lines s l dst 0 0 dst
lines_start s l dst h = sofar-start (lines_from s l 0) dst h

module _ (s : Bytes) (l : List Part) {dst₀ : Bytes} {i o : ℕ} {dst : Bytes} (m : Lines s l dst₀ i o dst) where
  pub lines-done : length l ≤ i → Wrote (lines_from s l 0) dst₀ o dst
  lines-done h = sofar-end (subst (λ (x : Bytes). Sofar (lines_from s l 0) x dst₀ o dst) (lines_none s l i h) m)

  module _ (d : Part) (h : i < length l) where
    here : Sofar (lines_from s l 0) (parameter_line (part_of s (get_or l i d)) ++ lines_from s l (i + 1)) dst₀ o dst
    here = subst (λ (x : Bytes). Sofar (lines_from s l 0) x dst₀ o dst) (lines_next s l i d h) m

    -- by the key and the value that are read
    module _ {k v : Bytes} (e : k ≡ key_of s (get_or l i d)) (f : v ≡ value_of s (get_or l i d)) where
      pub lines-room : o + length (line-of k v) ≤ length dst
      lines-room = rw (e, f) (sofar-part-room (parameter_line (part_of s (get_or l i d))) (lines_from s l (i + 1)) here)

      pub lines_more : {r : ℕ} {last : Bytes} → WroteAt (line-of k v) dst o r last → Lines s l dst₀ (i + 1) r last
      lines_more w = sofar-part (parameter_line (part_of s (get_or l i d))) here (rw (e, f) at w.wrote)

-- ---- how long they are

-- no line is longer than this
abbrev most : ℕ
most = 81940

-- n is the length of the lines of the first i parts, and small enough that no sum wraps
pub record Total (s : Bytes) (l : List Part) (i n : ℕ) : Type 0 where
  pub within : i ≤ length l
  pub count : n + length (lines_from s l i) ≡ length (lines_from s l 0)
  pub few : n ≤ i * most

pub total-none : (s : Bytes) (l : List Part) → Total s l 0 0
total-none s l = record { within = omega arith; count = omega arith; few = omega arith }

line-length : (s : Bytes) (p : Part) → Within s p → length (parameter_line (part_of s p)) ≡ (p.key_end - p.key) + (p.value_end - p.value) + 2
line-length s p w =
    ap length (line-is (part_of s p))
    ∙ omega (
      arith,
      length-append (key_of s p) (61 ∷ (value_of s p ++ (10 ∷ []))),
      length-append (value_of s p) (10 ∷ []),
      length_part s p.key p.key_end w.key-ahead w.key-within,
      length_part s p.value p.value_end w.value-ahead w.value-within,
    )

-- the lines from one on are its own, and those behind it
line-and-rest : (s : Bytes) (l : List Part) (i : ℕ) (d : Part) → i < length l → Within s (get_or l i d)
    → length (lines_from s l i) ≡ ((get_or l i d).key_end - (get_or l i d).key) + ((get_or l i d).value_end - (get_or l i d).value) + 2 + length (lines_from s l (i + 1))
line-and-rest s l i d h w =
    ap length (lines_next s l i d h)
    ∙ omega (arith, length-append (parameter_line (part_of s (get_or l i d))) (lines_from s l (i + 1)), line-length s (get_or l i d) w)

module _ {s : Bytes} {l : List Part} {i n : ℕ} (m : Total s l i n) where
  pub total-end : length l ≤ i → n ≡ length (lines_from s l 0)
  total-end h = omega (arith, m.count, ap length (lines_none s l i h))

  module _ (d : Part) (h : i < length l) (small : length s ≤ 40969) (w : Within s (get_or l i d)) where
    pub total-more : Total s l (i + 1) (n + ((get_or l i d).key_end - (get_or l i d).key) + ((get_or l i d).value_end - (get_or l i d).value) + 2)
    total-more = record {
      within = omega arith;
      count = omega (arith, m.count, line-and-rest s l i d h w);
      few = omega (arith, m.few, small, w.key-within, w.value-within);
    }

    -- no sum on the way is too large
    pub total-small : length l ≤ 32 → n + ((get_or l i d).key_end - (get_or l i d).key) + ((get_or l i d).value_end - (get_or l i d).value) + 2 ≤ 2622080
    total-small k = omega (arith, total-more.few, k)

-- ---- what they leave of a room

-- left is what the lines of the first i parts leave of the room
pub record Leaves (s : Bytes) (l : List Part) (room i left : ℕ) : Type 0 where
  pub count : left + length (lines_from s l 0) ≡ room + length (lines_from s l i)

pub leaves-none : (s : Bytes) (l : List Part) (room : ℕ) → Leaves s l room 0 room
leaves-none s l room = record { count = refl }

module _ {s : Bytes} {l : List Part} {room i left : ℕ} (m : Leaves s l room i left) where
  pub leaves-end : length l ≤ i → (length (lines_from s l 0) ≤ room) × (left ≡ room - length (lines_from s l 0))
  leaves-end h = let e = ap length (lines_none s l i h) in (omega (arith, m.count, e), omega (arith, m.count, e))

  module _ (d : Part) (h : i < length l) (w : Within s (get_or l i d)) where
    pub leaves-more : ((get_or l i d).key_end - (get_or l i d).key) + ((get_or l i d).value_end - (get_or l i d).value) + 2 ≤ left
        → {n : ℕ} → n ≡ left - ((get_or l i d).key_end - (get_or l i d).key) - ((get_or l i d).value_end - (get_or l i d).value) - 2 → Leaves s l room (i + 1) n
    leaves-more f {n} e = record { count = omega (arith, m.count, line-and-rest s l i d h w) }

    -- the line does not fit into what is left
    pub leaves-over : (((get_or l i d).key_end - (get_or l i d).key) + ((get_or l i d).value_end - (get_or l i d).value) + 2 ≤ left → ⊥)
        → length (lines_from s l 0) ≤ room → ⊥
    leaves-over n k = n (omega (arith, m.count, line-and-rest s l i d h w, k))
