-- Trimming by a test, at a place of a text: how many bytes stand before the first that stays, from the front and from the end.
use mathlib.Core.Path.{◌≡◌, refl, sym, ap, ◌∙◌}
use mathlib.Core.Bool.{Bool, true, false, cond}
use mathlib.Core.List.{[], ◌∷◌, ◌++◌, reverse}
use Prim.Native.Nat.{ℕ, suc, ◌+◌, ◌-◌, ◌≤◌}
use native.Mathlib.Omega.{arith}
use lib.ListN.{length, take, drop, length-append}
use lib.Seq.{take_all}
use Rattle.std.specs.List.{prefix_len}
use Rattle.std.proofs.lemmas.Grind.{reverse_onto}
use Rattle.std.proofs.lemmas.List.{length-reverse, reverse-reverse, take-append-le}
use Rattle.std.proofs.lemmas.List.Sums.{prefix_len-le-length}
use Rattle.rules.specs.Text.Bytes.{Bytes, trim_start, trim_end, trimmed}
use Rattle.laws_text.specs.Passes.{keep, trim_end-cons}
use Rattle.text.specs.Places.{LeftFrom, LeftTo}
use Rattle.text.proofs.Wrote.{part-from}

-- ---- `start_of`: what stands before the first byte that stays goes

start-at : (test : ℕ → Bool) (s : Bytes) → drop (prefix_len test s) s ≡ trim_start test s
unfolding trim_start
start-at test [] = refl
start-at test (x ∷ s) = go (test x) (start-at test s)
  where
    go : (b : Bool) → drop (prefix_len test s) s ≡ trim_start test s → drop (cond b (1 + prefix_len test s) 0) (x ∷ s) ≡ cond b (trim_start test s) (x ∷ s)
    go true h = let n : 1 + prefix_len test s ≡ suc (prefix_len test s) = omega arith in rw n h
    go false h = refl

pub start-is : {test : ℕ → Bool} {s : Bytes} {n : ℕ} → n ≡ prefix_len test s → LeftFrom test s n
start-is {test} {s} e = record { within = omega (arith, prefix_len-le-length test s); part = rw e (start-at test s) }

-- ---- `end_of`: what stands behind the last byte that stays goes

module _ (test : ℕ → Bool) where
  -- one byte alone
  one-cut : (x : ℕ) → test x ≡ true → keep test x (trim_end test []) ≡ trim_end test []
  unfolding keep trim_end
  one-cut x e = rw e

  one_kept : (x : ℕ) → test x ≡ false → keep test x (trim_end test []) ≡ x ∷ []
  unfolding keep trim_end
  one_kept x e = rw e

  -- one more byte at the end
  end-cut : (t : Bytes) (x : ℕ) → test x ≡ true → trim_end test (t ++ (x ∷ [])) ≡ trim_end test t
  end-cut [] x e = trim_end-cons test x [] ∙ one-cut x e
  end-cut (y ∷ t) x e = rw (trim_end-cons test y (t ++ (x ∷ [])), trim_end-cons test y t, end-cut t x e)

  keep-more : (y : ℕ) (t : Bytes) (x : ℕ) → keep test y (t ++ (x ∷ [])) ≡ y ∷ (t ++ (x ∷ []))
  unfolding keep
  keep-more y [] x = refl
  keep-more y (z ∷ t) x = refl

  end_kept : (t : Bytes) (x : ℕ) → test x ≡ false → trim_end test (t ++ (x ∷ [])) ≡ t ++ (x ∷ [])
  end_kept [] x e = trim_end-cons test x [] ∙ one_kept x e
  end_kept (y ∷ t) x e = rw (trim_end-cons test y (t ++ (x ∷ [])), end_kept t x e) (keep-more y t x)

-- u is the text from its end back
end-at : (test : ℕ → Bool) (u : Bytes) → take (length u - prefix_len test u) (reverse u) ≡ trim_end test (reverse u)
unfolding trim_end
end-at test [] = refl
end-at test (x ∷ u) = let n : reverse (x ∷ u) ≡ reverse u ++ (x ∷ []) = reverse_onto u x [] in rw n (go (test x) refl (end-at test u))
  where
    go : (b : Bool) → test x ≡ b → take (length u - prefix_len test u) (reverse u) ≡ trim_end test (reverse u)
        → take (suc (length u) - cond b (1 + prefix_len test u) 0) (reverse u ++ (x ∷ [])) ≡ trim_end test (reverse u ++ (x ∷ []))
    go true e h =
        let n : suc (length u) - (1 + prefix_len test u) ≡ length u - prefix_len test u = omega arith in
        let l : length u - prefix_len test u ≤ length (reverse u) = omega (arith, length-reverse u) in
        rw (n, take-append-le (length u - prefix_len test u) (reverse u) (x ∷ []) l, h) (sym (end-cut test (reverse u) x e))
    go false e h = take_all _ _ (simp (length-append, length-reverse) (omega arith)) ∙ sym (end_kept test (reverse u) x e)

pub end-is : {test : ℕ → Bool} {s : Bytes} {n : ℕ} → n ≡ prefix_len test (reverse s) → LeftTo test s (length s - n)
end-is {test} {s} {n} e = record { within = omega arith; part = rw e (simp (length-reverse, reverse-reverse) at (end-at test (reverse s))) }

-- ---- `trim`

-- what the code makes of the part from a on
abbrev pub onward : Bytes → ℕ → Bytes
onward s a = take (length s - a) (drop a s)

pub trimmed-is : {test : ℕ → Bool} {s : Bytes} {a k : ℕ} → LeftFrom test s a → LeftTo test (onward s a) k → take k (onward s a) ≡ trimmed test s
unfolding trimmed
trimmed-is {test} {s} {a} p q = q.part ∙ ap (trim_end test) (part-from s a ∙ p.part)
