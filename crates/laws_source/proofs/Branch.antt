-- No text reaches the branch of either reader. The part before the first `#` holds no `#`, so it does not start with one; and a branch whose question is
-- always answered no can go.
use Rattle.std.specs.Prelude.{◌≡◌, ℕ, Bool, true, false, cond, List, [], ◌∷◌, eqb}
use Rattle.std.proofs.Math.Path.{refl}
use Rattle.rules.specs.Text.Ascii.{ascii}
use Rattle.rules.specs.Text.Bytes.{Bytes, white, starts, trimmed, before, onto, cut}
use Rattle.laws_source.specs.Strings.{first, lines}
use Rattle.laws_source.specs.Readers.{first_part, is_full_line_comment, loop, continue}
use Rattle.laws_source.specs.Readers.{all_comments, comments_turn, remove_comments_by, remove_comments, comments_turn_without, remove_comments_without}
use Rattle.laws_source.specs.Readers.{all_proj, proj_turn, collect_proj_by, collect_proj, proj_turn_without, collect_proj_without}
use Rattle.laws_source.specs.Readers.{parse_proj_steps, parse_proj_steps_without}

-- ---- the first part of a line

first-onto : (x : ℕ) (ps : List Bytes) → first (onto x ps) ≡ x ∷ first ps
unfolding first onto
first-onto x [] = refl
first-onto x (p ∷ ps) = refl

-- the first of the parts between some bytes is what stands before the first such byte
pub first-cut : (test : ℕ → Bool) (t : Bytes) → first (cut test t) ≡ before test t
unfolding first cut before
first-cut test [] = refl
first-cut test (x ∷ t) = go (test x) (first-cut test t)
  where
    go : (b : Bool) → first (cut test t) ≡ before test t → first (cond b ([] ∷ cut test t) (onto x (cut test t))) ≡ cond b [] (x ∷ before test t)
    go true i = refl
    go false i = rw (first-onto x (cut test t), i) refl

-- and it does not start with such a byte
before-starts : (c : ℕ) (t : Bytes) → starts (c ∷ []) (before (λ (b : ℕ). eqb b c) t) ≡ false
unfolding starts before
before-starts c [] = refl
before-starts c (x ∷ t) = go (eqb x c) refl
  where
    go : (b : Bool) → eqb x c ≡ b → starts (c ∷ []) (cond b [] (x ∷ before (λ (b : ℕ). eqb b c) t)) ≡ false
    go true e = refl
    go false e = rw e refl

-- The branch's question is answered no, for every line.
pub never-full : (line : Bytes) → is_full_line_comment line ≡ false
unfolding is_full_line_comment first_part ascii
never-full line = rw (first-cut (λ (b : ℕ). eqb b 35) (trimmed white line)) (before-starts 35 (trimmed white line))

-- ---- no text reaches it: whatever stood in the branch, every text is read as it is without the branch

loop-same : (f g : Bytes → Bytes → Bytes) → ((so line : Bytes) → f so line ≡ g so line) → (so : Bytes) (ls : List Bytes) → loop f so ls ≡ loop g so ls
unfolding loop
loop-same f g e so [] = refl
loop-same f g e so (line ∷ ls) = rw (e so line) (loop-same f g e (g so line) ls)

pub comments-unreached : (branch : Bytes → Bytes) (t : Bytes) → remove_comments_by branch t ≡ remove_comments_without t
unfolding remove_comments_by remove_comments_without
comments-unreached branch t = loop-same (comments_turn branch) comments_turn_without same_turn [] (lines (all_comments t))
  where
    same_turn : (so line : Bytes) → comments_turn branch so line ≡ comments_turn_without so line
    same_turn so line = unfold comments_turn comments_turn_without in rw (never-full (trimmed white line)) refl

pub proj-unreached : (branch : Bytes → Bytes) (t : Bytes) → collect_proj_by branch t ≡ collect_proj_without t
unfolding collect_proj_by collect_proj_without
proj-unreached branch t = loop-same (proj_turn branch) proj_turn_without same_turn [] (lines (all_proj t))
  where
    same_turn : (so line : Bytes) → proj_turn branch so line ≡ proj_turn_without so line
    same_turn so line = unfold proj_turn proj_turn_without in rw (never-full (trimmed white line)) refl

-- ---- so the two readers are the same without it

pub comments-without : (t : Bytes) → remove_comments t ≡ remove_comments_without t
unfolding remove_comments
comments-without t = comments-unreached continue t

pub proj-without : (t : Bytes) → parse_proj_steps t ≡ parse_proj_steps_without t
unfolding parse_proj_steps parse_proj_steps_without collect_proj
proj-without t = rw (proj-unreached continue t) refl
