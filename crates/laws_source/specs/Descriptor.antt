-- `coordinate_order_descriptor` of src/inner_op/adapt.rs as it stands: its letters, its ending and its test for a permutation. Above a definition stand the
-- source's lines that it restates. What it answers is a word of `rules`: its axes are `indices`, and its angle stands for `torad`, 0 for 1., 1 for PI / 180., 2
-- for PI / 200. (What is made of these two: laws_records/Operators/Adapt/Factors.) A letter is a byte: the three bytes of a subscript digit are none of the eight.
use Rattle.std.specs.Prelude.{ℕ, Bool, true, false, cond, not, ◌&&◌, ◌||◌, List, [], ◌∷◌, length, take, eqb, ℤ, pos, negsuc, Option, None, Some}
use Rattle.rules.specs.Text.Ascii.{ascii, is}
use Rattle.rules.specs.Text.Lists.{any_of, kept}
use Rattle.rules.specs.Text.Bytes.{Bytes, same}
use Rattle.rules.specs.Operators.Arguments.{size}
use Rattle.rules.specs.Operators.Adapt.{Word}
use Rattle.laws_source.specs.Strings.{ends}

-- ---- a letter

-- "neufswdp".contains(d)
unfoldable pub is_designator : ℕ → Bool
is_designator d = any_of (eqb d) (ascii "neufswdp")

-- match d { 'w' => -1, 's' => -2, 'd' => -3, 'p' => -4, 'e' => 1, 'n' => 2, 'u' => 3, 'f' => 4, _ => 0 }: `arm` is what an arm makes of its number, and
-- `last` is what the last case gives
unfoldable pub matched : {A : Type 0} → (ℤ → A) → A → ℕ → A
matched arm last d =
    cond (is "w" d) (arm (negsuc 0))
    (cond (is "s" d) (arm (negsuc 1))
    (cond (is "d" d) (arm (negsuc 2))
    (cond (is "p" d) (arm (negsuc 3))
    (cond (is "e" d) (arm (pos 1))
    (cond (is "n" d) (arm (pos 2))
    (cond (is "u" d) (arm (pos 3))
    (cond (is "f" d) (arm (pos 4))
    last)))))))

-- does a letter come to the last case?
unfoldable pub is_last_case : ℕ → Bool
is_last_case d = matched (λ (x : ℤ). false) true d

-- let dd: i32 = match d { .. };
unfoldable pub dd : ℤ → ℕ → ℤ
dd last d = matched (λ (x : ℤ). x) last d

-- ---- the loop over the letters: `indices`, or None

unfoldable pub ahead : ℤ → Option (List ℤ) → Option (List ℤ)
ahead x None = None
ahead x (Some l) = Some (x ∷ l)

-- if !"neufswdp".contains(d) { return None; } let dd: i32 = match d { .. }; indices[i] = dd;
unfoldable pub indices_by : ℤ → Bytes → Option (List ℤ)
indices_by last [] = Some []
indices_by last (d ∷ ds) = cond (not (is_designator d)) None (ahead (dd last d) (indices_by last ds))

-- _ => 0, // cannot happen: We already err'ed on unknowns
unfoldable pub indices : Bytes → Option (List ℤ)
indices t = indices_by (pos 0) t

-- without the last case: the match gives a number where it has an arm, and else none
unfoldable pub ahead_if : Option ℤ → Option (List ℤ) → Option (List ℤ)
ahead_if None l = None
ahead_if (Some x) l = ahead x l

unfoldable pub indices_without : Bytes → Option (List ℤ)
indices_without [] = Some []
indices_without (d ∷ ds) = cond (not (is_designator d)) None (ahead_if (matched Some None d) (indices_without ds))

-- ---- the ending

-- let good_angular = desc.ends_with("_deg") || desc.ends_with("_gon") || desc.ends_with("_rad") || desc.ends_with("_any");
unfoldable pub good_angular : Bytes → Bool
good_angular desc = ends (ascii "_deg") desc || (ends (ascii "_gon") desc || (ends (ascii "_rad") desc || ends (ascii "_any") desc))

-- let mut torad = 1_f64; if desc.len() == 8 { .. if desc.ends_with("_deg") { .. } else if desc.ends_with("_gon") { .. } }
unfoldable pub torad : Bytes → ℕ
torad desc =
    cond (not (eqb (length desc) 8)) 0
    (cond (ends (ascii "_deg") desc) 1
    (cond (ends (ascii "_gon") desc) 2
    0))

-- ---- the test for a permutation

-- count[(indices[i].abs() - 1) as usize] += 1;                 here the count of a size
unfoldable pub count : ℕ → List ℤ → ℕ
count k l = length (kept (λ (x : ℤ). eqb (size x) k) l)

-- count != [1, 1, 1, 1], turned
unfoldable pub counted_once : List ℤ → Bool
counted_once l = eqb (count 1 l) 1 && (eqb (count 2 l) 1 && (eqb (count 3 l) 1 && eqb (count 4 l) 1))

-- if count != [1, 1, 1, 1] { return None; }
unfoldable pub permutation : ℕ → Option (List ℤ) → Option Word
permutation angle None = None
permutation angle (Some l) = cond (counted_once l) (Some (record { axes = l; angle = angle })) None

-- ---- the descriptor

-- if desc.len() != 4 && desc.len() != 8 { return None; } .. if desc.len() == 8 { .. if !good_angular { return None; } .. }
unfoldable pub by_letters : Bytes → Option (List ℤ) → Option Word
by_letters desc l =
    cond (not (eqb (length desc) 4) && not (eqb (length desc) 8)) None
    (cond (eqb (length desc) 8 && not (good_angular desc)) None
    (permutation (torad desc) l))

-- if desc == "pass" { return Some(..); } .. let desc: Vec<char> = desc[0..4].chars().collect();
unfoldable pub described : (Bytes → Option (List ℤ)) → Bytes → Option Word
described letters desc =
    cond (same desc (ascii "pass")) (Some (record { axes = pos 1 ∷ pos 2 ∷ pos 3 ∷ pos 4 ∷ []; angle = 0 }))
    (by_letters desc (letters (take 4 desc)))

unfoldable pub coordinate_order_descriptor : Bytes → Option Word
coordinate_order_descriptor desc = described indices desc

unfoldable pub coordinate_order_descriptor_without : Bytes → Option Word
coordinate_order_descriptor_without desc = described indices_without desc
