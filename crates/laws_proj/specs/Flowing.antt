-- The elements of a step of the answer, one by one: what is written of each, and what of the `inv` that is owed.
use Rattle.std.specs.Prelude.{◌≡◌, refl, Bool, ◌&&◌, ◌||◌, [], ◌∷◌, ◌++◌}
use Rattle.std.proofs.Math.Path.{sym, ap}
use Rattle.std.proofs.Common.{◌∙◌, append_assoc}
use Rattle.std.proofs.Math.Bool.{true, false, cond, and_assoc, and-false, and-true, or-false, or-true}
use Rattle.rules.specs.Text.Ascii.{ascii}
use Rattle.rules.specs.Text.Lists.{any_of, all_of, kept, non_empty}
use Rattle.rules.specs.Text.Bytes.{Bytes, Words, after_each, joined_by, joined}
use Rattle.rules.specs.Proj.Translate.{is_inv, not_inv, at_position1, exchanged_mark, without_inv}

-- ---- the definitions

-- what is written of an element, and after it the `inv` that is owed
unfoldable pub forth : Bytes → Bool → Words
forth x owed = cond (is_inv x) [] (exchanged_mark x ∷ cond owed (ascii "inv" ∷ []) [])

-- what is written of elements
unfoldable pub emitted : Bool → Words → Words
emitted owed [] = []
emitted owed (x ∷ xs) = forth x owed ++ emitted (owed && is_inv x) xs

-- what is written of all elements that are left
unfoldable pub flow : Bool → Words → Words
flow owed xs = cond owed (at_position1 (ascii "inv") (without_inv xs)) (without_inv xs)

-- the words that are not empty, with one space between, and one in front if words have begun
unfoldable pub more : Bool → Words → Bytes
more begun ds = cond begun (after_each (32 ∷ []) (kept non_empty ds)) (joined (kept non_empty ds))

-- ---- elements

flow-inv : (owed : Bool) (x : Bytes) (xs : Words) → is_inv x ≡ true → flow owed (x ∷ xs) ≡ flow owed xs
unfolding flow without_inv kept not_inv
flow-inv owed x xs e = rw e

flow-other : (owed : Bool) (x : Bytes) (xs : Words) → is_inv x ≡ false → flow owed (x ∷ xs) ≡ (exchanged_mark x ∷ cond owed (ascii "inv" ∷ []) []) ++ flow false xs
unfolding flow without_inv kept not_inv at_position1
flow-other true x xs e = rw e
flow-other false x xs e = rw e

pub flow-append : (owed : Bool) (xs ys : Words) → flow owed (xs ++ ys) ≡ emitted owed xs ++ flow (owed && all_of is_inv xs) ys
unfolding emitted all_of
flow-append owed [] ys = rw (and-true owed)
flow-append owed (x ∷ xs) ys = go (is_inv x) refl (flow-append owed xs ys) (flow-append false xs ys)
  where
    go : (b : Bool) → is_inv x ≡ b → flow owed (xs ++ ys) ≡ emitted owed xs ++ flow (owed && all_of is_inv xs) ys → flow false (xs ++ ys) ≡ emitted false xs ++ flow false ys
        → flow owed (x ∷ (xs ++ ys)) ≡ (forth x owed ++ emitted (owed && is_inv x) xs) ++ flow (owed && (is_inv x && all_of is_inv xs)) ys
    go true e h k = flow-inv owed x (xs ++ ys) e ∙ h ∙ unfold forth in sym (rw (e, and-true owed))
    go false e h k =
        flow-other owed x (xs ++ ys) e ∙ ap (λ (us : Words). (exchanged_mark x ∷ cond owed (ascii "inv" ∷ []) []) ++ us) k
        ∙ sym (append_assoc (exchanged_mark x ∷ cond owed (ascii "inv" ∷ []) []) (emitted false xs) (flow false ys))
        ∙ unfold forth in sym (rw (e, and-false owed))

pub emitted-append : (owed : Bool) (xs ys : Words) → emitted owed (xs ++ ys) ≡ emitted owed xs ++ emitted (owed && all_of is_inv xs) ys
unfolding emitted all_of
emitted-append owed [] ys = rw (and-true owed)
emitted-append owed (x ∷ xs) ys =
    ap (λ (us : Words). forth x owed ++ us) (emitted-append (owed && is_inv x) xs ys)
    ∙ sym (append_assoc (forth x owed) (emitted (owed && is_inv x) xs) (emitted ((owed && is_inv x) && all_of is_inv xs) ys))
    ∙ ap (λ (b : Bool). (forth x owed ++ emitted (owed && is_inv x) xs) ++ emitted b ys) (and_assoc owed (is_inv x) (all_of is_inv xs))

pub flow-end : (owed : Bool) → flow owed [] ≡ cond owed (ascii "inv" ∷ []) []
unfolding flow without_inv kept at_position1
flow-end owed = refl

-- ---- their text

pub more-none : (begun : Bool) → more begun [] ≡ []
unfolding more kept after_each joined joined_by
more-none true = refl
more-none false = refl

pub more-empty : (begun : Bool) (ds : Words) → more begun ([] ∷ ds) ≡ more begun ds
unfolding more kept non_empty
more-empty begun ds = refl

pub more-word : (begun : Bool) (d : Bytes) (ds : Words) → non_empty d ≡ true → more begun (d ∷ ds) ≡ cond begun (32 ∷ d) d ++ more true ds
unfolding more kept after_each joined joined_by
more-word true d ds e = rw e
more-word false d ds e = rw e

pub more-append : (begun : Bool) (ds es : Words) → more begun (ds ++ es) ≡ more begun ds ++ more (begun || any_of non_empty ds) es
unfolding any_of
more-append begun [] es = rw (more-none begun, or-false begun)
more-append begun (d ∷ ds) es = go d (more-append begun ds es) (more-append true ds es)
  where
    go : (x : Bytes) → more begun (ds ++ es) ≡ more begun ds ++ more (begun || any_of non_empty ds) es → more true (ds ++ es) ≡ more true ds ++ more true es
        → more begun (x ∷ (ds ++ es)) ≡ more begun (x ∷ ds) ++ more (begun || (non_empty x || any_of non_empty ds)) es
    go [] h k = unfold non_empty in more-empty begun (ds ++ es) ∙ h ∙ sym (rw (more-empty begun ds))
    go (y ∷ x) h k =
        more-word begun (y ∷ x) (ds ++ es) (unfold non_empty in refl) ∙ ap (λ (t : Bytes). cond begun (32 ∷ y ∷ x) (y ∷ x) ++ t) k
        ∙ sym (append_assoc (cond begun (32 ∷ y ∷ x) (y ∷ x)) (more true ds) (more true es))
        ∙ sym
        (rw (more-word begun (y ∷ x) ds (unfold non_empty in refl)) (unfold non_empty in ap (λ (b : Bool). (cond begun (32 ∷ y ∷ x) (y ∷ x) ++ more true ds) ++ more b es) (or-true begun)))
