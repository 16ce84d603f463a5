-- All steps of the answer, one by one, put behind each other or, where the pipeline is inverted, in front of each other.
use Rattle.std.specs.Prelude.{◌≡◌, Bool, cond, ◌&&◌, ◌||◌, length, eqb, ltb}
use Rattle.std.proofs.Math.Path.{refl, sym}
use Rattle.std.proofs.Common.{ap, ◌∙◌, arith, length-append}
use Rattle.std.proofs.Math.Bool.{true, false, and-false, and-true, or-true}
use Rattle.std.proofs.lemmas.Bool.{false≢true}
use mathlib.Core.List.{List, [], ◌∷◌, ◌++◌, append-nil, append_assoc, reverse, reverse_aux-eq}
use Prim.Native.Nat.{ℕ, suc, ◌+◌, ◌<◌}
use borrow.Author.Tests.{lt-ltb, eqb-true, not-true}
use Rattle.rules.specs.Text.Lists.{all_of, non_empty}
use Rattle.rules.specs.Text.Bytes.{Bytes, white, trim_start, trim_end, trimmed, after_each, joined_by}
use Rattle.laws_lists.specs.Tests.{and_left, and_right}
use Rattle.laws_text.specs.Passes.{in_word, keep, trim_end-cons}
use Rattle.laws_proj.specs.Solid.{last_fine, solid, mild, mild-solid, start-same, end_same, fine-append, solid-same, front-append, keep-more}

-- ---- the definitions

-- a text put behind another, or in front of it
unfoldable pub side : Bool → Bytes → Bytes → Bytes
side back a b = cond back (b ++ a) (a ++ b)

-- The texts after the first, each after ` | `. The space in front of the first bar stands if there is a text before it; the
-- space behind the last if there is one after it.
unfoldable pub following : Bool → Bool → List Bytes → Bytes
following back begun [] = []
following back begun (t ∷ ts) =
    side back (cond begun (32 ∷ []) [])
    (side back (124 ∷ [])
    (cond (non_empty t || non_empty ts) (side back (32 ∷ []) (side back t (following back true ts))) []))

-- all texts
unfoldable pub whole : Bool → List Bytes → Bytes
whole back [] = []
whole back (t ∷ ts) = side back t (following back (non_empty t) ts)

-- The texts that are left in a state: 0 where none was put yet, 2 where a space is owed behind the last bar, else 1.
unfoldable pub rest_of : Bool → ℕ → Bool → List Bytes → Bytes
rest_of back state begun ts = cond (eqb state 0) (whole back ts) (side back (cond (eqb state 2 && non_empty ts) (32 ∷ []) []) (following back begun ts))

-- what is put before a text, the text after it, and both
unfoldable pub bar_text : Bool → ℕ → Bool → Bytes
bar_text back state begun = cond (eqb state 0) [] (side back (cond (eqb state 2) (32 ∷ []) []) (side back (cond begun (32 ∷ []) []) (124 ∷ [])))

unfoldable pub gap_text : Bool → ℕ → Bytes → Bytes
gap_text back state t = cond (eqb state 0) t (side back (32 ∷ []) t)

unfoldable pub part_text : Bool → ℕ → Bool → Bytes → Bytes
part_text back state begun t = side back (bar_text back state begun) (cond (non_empty t) (gap_text back state t) [])

unfoldable pub state_after : ℕ → Bytes → ℕ
state_after state t = cond (non_empty t) 1 (cond (eqb state 0) 1 2)

-- ---- sides

pub side-assoc : (back : Bool) (a b c : Bytes) → side back (side back a b) c ≡ side back a (side back b c)
unfolding side
side-assoc true a b c = sym (append_assoc c b a)
side-assoc false a b c = append_assoc a b c

pub side_left : (back : Bool) (a : Bytes) → side back [] a ≡ a
unfolding side
side_left true a = append-nil a
side_left false a = refl

pub side_right : (back : Bool) (a : Bytes) → side back a [] ≡ a
unfolding side
side_right true a = refl
side_right false a = append-nil a

pub side-length : (back : Bool) (a b : Bytes) → length (side back a b) ≡ length a + length b
unfolding side
side-length true a b = omega (arith, length-append b a)
side-length false a b = length-append a b

-- ---- one text more

-- a space, or none
abbrev space_if : Bool → Bytes
space_if b = cond b (32 ∷ []) []

-- what stands between two texts, up to the bar
abbrev bar : Bool → Bool → Bool → Bytes
bar back two begun = side back (space_if two) (side back (space_if begun) (124 ∷ []))

bar-some : (back two begun : Bool) (t : Bytes) → 0 < length (side back (bar back two begun) t)
bar-some back two begun t =
    let front = side-length back (space_if two) (side back (space_if begun) (124 ∷ [])) in
    omega (arith, side-length back (bar back two begun) t, front, side-length back (space_if begun) (124 ∷ []))

-- the first text
next-first : (back : Bool) (t : Bytes) (ts : List Bytes)
    → whole back (t ∷ ts) ≡ side back (side back [] (cond (non_empty t) t [])) (side back [] (following back (ltb 0 (0 + length (side back [] (cond (non_empty t) t [])))) ts))
next-first back [] ts = unfold whole non_empty in rw (side_left back []) (ap (side back []) (sym (side_left back (following back false ts))))
next-first back (x ∷ t) ts =
    unfold whole non_empty in
    rw (side_left back (x ∷ t), lt-ltb 0 (0 + suc (length t)) (omega arith), side_left back (following back true ts))

-- a later text
later-some : (back two begun : Bool) (x : ℕ) (t : Bytes) (ts : List Bytes)
    → side back (space_if two) (following back begun ((x ∷ t) ∷ ts))
    ≡ side back (side back (bar back two begun) (side back (32 ∷ []) (x ∷ t))) (side back [] (following back true ts))
unfolding following non_empty
later-some back two begun x t ts =
    let f = following back true ts in
    let sp : Bytes = 32 ∷ [] in
    let br : Bytes = 124 ∷ [] in
    let a = cond two sp [] in
    let b = cond begun sp [] in
    sym
    (ap (side back (side back (side back a (side back b br)) (side back sp (x ∷ t)))) (side_left back f)
    ∙ side-assoc back (side back a (side back b br)) (side back sp (x ∷ t)) f
    ∙ ap (side back (side back a (side back b br))) (side-assoc back sp (x ∷ t) f)
    ∙ side-assoc back a (side back b br) (side back sp (side back (x ∷ t) f))
    ∙ ap (side back a) (side-assoc back b br (side back sp (side back (x ∷ t) f))))

-- an empty text: the space behind the bar is owed
owed-space : (back : Bool) (us : List Bytes)
    → cond (non_empty us) (side back (32 ∷ []) (side back [] (following back true us))) [] ≡ side back (space_if (non_empty us)) (following back true us)
unfolding non_empty
owed-space back [] = unfold following in sym (side_left back [])
owed-space back (u ∷ us) = ap (side back (32 ∷ [])) (side_left back (following back true (u ∷ us)))

later-none : (back two begun : Bool) (ts : List Bytes)
    → side back (space_if two) (following back begun ([] ∷ ts)) ≡ side back (side back (bar back two begun) []) (side back (space_if (non_empty ts)) (following back true ts))
unfolding following non_empty
later-none back two begun ts =
    let sp : Bytes = 32 ∷ [] in
    let br : Bytes = 124 ∷ [] in
    let a = cond two sp [] in
    let b = cond begun sp [] in
    let f = side back (cond (non_empty ts) sp []) (following back true ts) in
    ap (λ (u : Bytes). side back a (side back b (side back br u))) (owed-space back ts)
    ∙ sym
    (ap (λ (u : Bytes). side back u f) (side_right back (side back a (side back b br)))
    ∙ side-assoc back a (side back b br) f
    ∙ ap (side back a) (side-assoc back b br f))

-- the next text, in any state
pub rest-next : (back : Bool) (state o : ℕ) (t : Bytes) (ts : List Bytes) → (state ≡ 0 → o ≡ 0)
    → rest_of back state (ltb 0 o) (t ∷ ts) ≡ side back (part_text back state (ltb 0 o) t) (rest_of back (state_after state t) (ltb 0 (o + length (part_text back state (ltb 0 o) t))) ts)
rest-next back state o t ts z = go (eqb state 0) refl t
  where
    positive : (two : Bool) (v : Bytes) → ltb 0 (o + length (side back (bar back two (ltb 0 o)) v)) ≡ true
    positive two v = lt-ltb 0 (o + length (side back (bar back two (ltb 0 o)) v)) (omega (arith, bar-some back two (ltb 0 o) v))

    none : eqb state 0 ≡ true → o ≡ 0
    none e = z (eqb-true state 0 e)

    go : (a : Bool) → eqb state 0 ≡ a → (u : Bytes)
        → rest_of back state (ltb 0 o) (u ∷ ts) ≡ side back (part_text back state (ltb 0 o) u) (rest_of back (state_after state u) (ltb 0 (o + length (part_text back state (ltb 0 o) u))) ts)
    go true e [] = unfold rest_of part_text bar_text gap_text state_after non_empty in rw (none e, e) (next-first back [] ts)
    go true e (x ∷ u) = unfold rest_of part_text bar_text gap_text state_after non_empty in rw (none e, e) (next-first back (x ∷ u) ts)
    go false e [] = unfold rest_of part_text bar_text gap_text state_after non_empty in rw (e, and-true (eqb state 2), positive (eqb state 2) []) (later-none back (eqb state 2) (ltb 0 o) ts)
    go false e (x ∷ u) =
        unfold rest_of part_text bar_text gap_text state_after non_empty in rw (e, and-true (eqb state 2), positive (eqb state 2) (side back (32 ∷ []) (x ∷ u)))
        (later-some back (eqb state 2) (ltb 0 o) x u ts)

-- none is left
pub rest-none : (back : Bool) (state : ℕ) (begun : Bool) → rest_of back state begun [] ≡ []
unfolding rest_of whole following non_empty
rest-none back state begun = rw (and-false (eqb state 2)) (go (eqb state 0))
  where
    go : (a : Bool) → cond a [] (side back [] []) ≡ []
    go true = refl
    go false = side_left back []

-- ---- trimming

-- the texts with ` | ` between, in their order and from the last to the first
abbrev sep : Bytes
sep = 32 ∷ 124 ∷ 32 ∷ []

forth-text : Bytes → List Bytes → Bytes
forth-text t ts = t ++ after_each sep ts

back-text : Bytes → List Bytes → Bytes
back-text t [] = t
back-text t (u ∷ us) = back-text u us ++ (32 ∷ 124 ∷ 32 ∷ t)

last_of : (t : Bytes) → solid t ≡ true → last_fine t ≡ true
unfolding solid
last_of t e = and_right (in_word t) (last_fine t) e

first_of : (t : Bytes) → solid t ≡ true → in_word t ≡ true
unfolding solid
first_of t e = and_left (in_word t) (last_fine t) e

regroup : (y t z : Bytes) → y ++ (32 ∷ (t ++ (32 ∷ 124 ∷ 32 ∷ z))) ≡ (y ++ (32 ∷ (t ++ (32 ∷ 124 ∷ [])))) ++ (32 ∷ z)
regroup y t z = sym (append_assoc y (32 ∷ (t ++ (32 ∷ 124 ∷ []))) (32 ∷ z) ∙ ap (λ (v : Bytes). y ++ (32 ∷ v)) (append_assoc t (32 ∷ 124 ∷ []) (32 ∷ z)))

-- white space behind a byte that is none goes
space-goes : trim_end white (32 ∷ []) ≡ []
unfolding trim_end all_of white
space-goes = refl

end-space : (y : Bytes) → last_fine y ≡ true → trim_end white (y ++ (32 ∷ [])) ≡ y
unfolding last_fine
end-space [] e = absurd (false≢true e)
end-space (x ∷ []) e = trim_end-cons white x (32 ∷ []) ∙ ap (keep white x) space-goes ∙ unfold keep in rw (not-true (white x) e)
end-space (x ∷ y ∷ t) e = trim_end-cons white x (y ∷ t ++ (32 ∷ [])) ∙ keep-more x y t (end-space (y ∷ t) e)

abbrev behind : Bytes → List Bytes → Bytes
behind t ts = cond (non_empty t || non_empty ts) (side false (32 ∷ []) (side false t (following false true ts))) []

regroup-more : (y t z : Bytes) → (y ++ (32 ∷ (t ++ (32 ∷ 124 ∷ [])))) ++ z ≡ y ++ (32 ∷ (t ++ (32 ∷ 124 ∷ z)))
regroup-more y t z = append_assoc y (32 ∷ (t ++ (32 ∷ 124 ∷ []))) z ∙ ap (λ (v : Bytes). y ++ (32 ∷ v)) (append_assoc t (32 ∷ 124 ∷ []) z)

joins : (y t u : Bytes) (us : List Bytes) → (y ++ (32 ∷ (t ++ (32 ∷ 124 ∷ [])))) ++ behind u us ≡ y ++ behind t (u ∷ us)
joins y t u us =
    regroup-more y t (behind u us) ∙ ap (λ (b : Bool). y ++ cond b (32 ∷ (t ++ (32 ∷ 124 ∷ behind u us))) []) (sym (or-true (non_empty t))) ∙ unfold side following non_empty in refl

forth-more : (y t u : Bytes) (us : List Bytes) → y ++ (32 ∷ forth-text t (u ∷ us)) ≡ (y ++ (32 ∷ (t ++ (32 ∷ 124 ∷ [])))) ++ (32 ∷ forth-text u us)
unfolding forth-text after_each
forth-more y t u us = regroup y t (forth-text u us)

-- of texts that all are mild, behind a bar: only an empty last one leaves white space
trim-behind : (y t : Bytes) (ts : List Bytes) → last_fine y ≡ true → all_of mild (t ∷ ts) ≡ true
    → trim_end white (y ++ (32 ∷ forth-text t ts)) ≡ y ++ cond (non_empty t || non_empty ts) (side false (32 ∷ []) (side false t (following false true ts))) []
trim-behind y [] [] e m = unfold forth-text after_each non_empty in end-space y e ∙ sym (append-nil y)
trim-behind y (x ∷ t) [] e m =
    unfold forth-text after_each non_empty side following in rw (append-nil t) (end_same (y ++ (32 ∷ x ∷ t))
    (fine-append y (32 ∷ x ∷ t) (fine-append (32 ∷ []) (x ∷ t) (last_of (x ∷ t) (mild-solid (x ∷ t) (unfold all_of in and_left (mild (x ∷ t)) true m) (unfold non_empty in refl))))))
trim-behind y t (u ∷ us) e m =
    ap (trim_end white) (forth-more y t u us)
    ∙ trim-behind (y ++ (32 ∷ (t ++ (32 ∷ 124 ∷ [])))) u us
    (fine-append y (32 ∷ (t ++ (32 ∷ 124 ∷ []))) (fine-append (32 ∷ t) (32 ∷ 124 ∷ []) (unfold last_fine white in refl)))
    (unfold all_of in and_right (mild t) (all_of mild (u ∷ us)) m)
    ∙ joins y t u us

-- the same in front of a bar
front-solid : (t y : Bytes) → solid t ≡ true → trim_start white (t ++ (32 ∷ y)) ≡ (t ++ (32 ∷ [])) ++ y
front-solid t y e = start-same (t ++ (32 ∷ y)) (front-append t (32 ∷ y) (first_of t e)) ∙ sym (append_assoc t (32 ∷ []) y)

back_more : (y t u : Bytes) (us : List Bytes) → back-text t (u ∷ us) ++ (32 ∷ y) ≡ back-text u us ++ (32 ∷ 124 ∷ 32 ∷ (t ++ (32 ∷ y)))
unfolding back-text
back_more y t u us = append_assoc (back-text u us) (32 ∷ 124 ∷ 32 ∷ t) (32 ∷ y)

abbrev before-it : Bytes → List Bytes → Bytes
before-it t ts = cond (non_empty t || non_empty ts) (side true (32 ∷ []) (side true t (following true true ts))) []

back-regroup : (z t y : Bytes) → z ++ (124 ∷ 32 ∷ (t ++ (32 ∷ y))) ≡ ((((z ++ (124 ∷ [])) ++ (32 ∷ [])) ++ t) ++ (32 ∷ [])) ++ y
back-regroup z t y = sym (simp append_assoc)

back-joins : (y t u : Bytes) (us : List Bytes) → before-it u us ++ (124 ∷ 32 ∷ (t ++ (32 ∷ y))) ≡ before-it t (u ∷ us) ++ y
back-joins y t u us =
    back-regroup (before-it u us) t y
    ∙ ap (λ (b : Bool). cond b ((((before-it u us ++ (124 ∷ [])) ++ (32 ∷ [])) ++ t) ++ (32 ∷ [])) [] ++ y) (sym (or-true (non_empty t)))
    ∙ unfold side following non_empty in refl

trim-before : (y t : Bytes) (ts : List Bytes) → in_word y ≡ true → all_of mild (t ∷ ts) ≡ true
    → trim_start white (back-text t ts ++ (32 ∷ y)) ≡ cond (non_empty t || non_empty ts) (side true (32 ∷ []) (side true t (following true true ts))) [] ++ y
trim-before y [] [] e m = unfold back-text non_empty trim_start white in start-same y e
trim-before y (x ∷ t) [] e m = unfold back-text non_empty side following in front-solid (x ∷ t) y (mild-solid (x ∷ t) (unfold all_of in and_left (mild (x ∷ t)) true m) (unfold non_empty in refl))
trim-before y t (u ∷ us) e m =
    ap (trim_start white) (back_more y t u us)
    ∙ trim-before (124 ∷ 32 ∷ (t ++ (32 ∷ y))) u us (unfold in_word white in refl) (unfold all_of in and_right (mild t) (all_of mild (u ∷ us)) m)
    ∙ back-joins y t u us

-- ---- the whole

mild-none : (t : Bytes) → mild t ≡ true → trimmed white t ≡ t
mild-none [] e = unfold trimmed trim_start trim_end in refl
mild-none (x ∷ t) e = solid-same (x ∷ t) (mild-solid (x ∷ t) e (unfold non_empty in refl))

whole-one : (back : Bool) (t : Bytes) → whole back (t ∷ []) ≡ t
unfolding whole following
whole-one back t = side_right back t

forth-nil : (t : Bytes) → forth-text t [] ≡ t
unfolding forth-text after_each
forth-nil t = append-nil t

one-mild : (t : Bytes) → all_of mild (t ∷ []) ≡ true → mild t ≡ true
unfolding all_of
one-mild t m = and_left (mild t) true m

rest-mild : (t u : Bytes) (us : List Bytes) → all_of mild (t ∷ u ∷ us) ≡ true → all_of mild (u ∷ us) ≡ true
unfolding all_of
rest-mild t u us m = and_right (mild t) (all_of mild (u ∷ us)) m

head-solid : (x : ℕ) (t : Bytes) (ts : List Bytes) → all_of mild ((x ∷ t) ∷ ts) ≡ true → solid (x ∷ t) ≡ true
unfolding all_of
head-solid x t ts m = mild-solid (x ∷ t) (and_left (mild (x ∷ t)) (all_of mild ts) m) (unfold non_empty in refl)

-- in their order
forth-empty : (u : Bytes) (us : List Bytes) → trim_start white (forth-text [] (u ∷ us)) ≡ (124 ∷ []) ++ (32 ∷ forth-text u us)
unfolding forth-text after_each trim_start white
forth-empty u us = refl

forth-first : (t u : Bytes) (us : List Bytes) → forth-text t (u ∷ us) ≡ (t ++ (32 ∷ 124 ∷ [])) ++ (32 ∷ forth-text u us)
unfolding forth-text after_each
forth-first t u us = sym (append_assoc t (32 ∷ 124 ∷ []) (32 ∷ forth-text u us))

whole-empty : (u : Bytes) (us : List Bytes) → whole false ([] ∷ u ∷ us) ≡ (124 ∷ []) ++ behind u us
unfolding whole following side non_empty
whole-empty u us = refl

whole-first : (x : ℕ) (t u : Bytes) (us : List Bytes) → whole false ((x ∷ t) ∷ u ∷ us) ≡ ((x ∷ t) ++ (32 ∷ 124 ∷ [])) ++ behind u us
unfolding whole following side non_empty
whole-first x t u us = sym (append_assoc (x ∷ t) (32 ∷ 124 ∷ []) (behind u us))

bar-fine : last_fine (124 ∷ []) ≡ true
unfolding last_fine white
bar-fine = refl

space-bar-fine : last_fine (32 ∷ 124 ∷ []) ≡ true
unfolding last_fine white
space-bar-fine = refl

forth-whole : (t : Bytes) (ts : List Bytes) → all_of mild (t ∷ ts) ≡ true → trimmed white (forth-text t ts) ≡ whole false (t ∷ ts)
unfolding trimmed
forth-whole t [] m = ap (trimmed white) (forth-nil t) ∙ mild-none t (one-mild t m) ∙ sym (whole-one false t)
forth-whole [] (u ∷ us) m = ap (trim_end white) (forth-empty u us) ∙ trim-behind (124 ∷ []) u us bar-fine (rest-mild [] u us m) ∙ sym (whole-empty u us)
forth-whole (x ∷ t) (u ∷ us) m =
    let w = front-append ((x ∷ t) ++ (32 ∷ 124 ∷ [])) (32 ∷ forth-text u us) (front-append (x ∷ t) (32 ∷ 124 ∷ []) (first_of (x ∷ t) (head-solid x t (u ∷ us) m))) in
    ap (trimmed white) (forth-first (x ∷ t) u us)
    ∙ ap (trim_end white) (start-same (((x ∷ t) ++ (32 ∷ 124 ∷ [])) ++ (32 ∷ forth-text u us)) w)
    ∙ trim-behind ((x ∷ t) ++ (32 ∷ 124 ∷ [])) u us (fine-append (x ∷ t) (32 ∷ 124 ∷ []) space-bar-fine) (rest-mild (x ∷ t) u us m)
    ∙ sym (whole-first x t u us)

-- from the last to the first
back-nil : (t : Bytes) → back-text t [] ≡ t
unfolding back-text
back-nil t = refl

back-first : (t u : Bytes) (us : List Bytes) → all_of mild (t ∷ u ∷ us) ≡ true → trim_start white (back-text t (u ∷ us)) ≡ before-it u us ++ (124 ∷ 32 ∷ t)
unfolding back-text
back-first t u us m = trim-before (124 ∷ 32 ∷ t) u us (unfold in_word white in refl) (rest-mild t u us m)

whole-back-empty : (u : Bytes) (us : List Bytes) → whole true ([] ∷ u ∷ us) ≡ before-it u us ++ (124 ∷ [])
unfolding whole following side non_empty
whole-back-empty u us = append-nil ((before-it u us ++ (124 ∷ [])) ++ []) ∙ append-nil (before-it u us ++ (124 ∷ []))

whole-back-first : (x : ℕ) (t u : Bytes) (us : List Bytes) → whole true ((x ∷ t) ∷ u ∷ us) ≡ before-it u us ++ (124 ∷ 32 ∷ x ∷ t)
unfolding whole following side non_empty
whole-back-first x t u us = append_assoc (before-it u us ++ (124 ∷ [])) (32 ∷ []) (x ∷ t) ∙ append_assoc (before-it u us) (124 ∷ []) (32 ∷ x ∷ t)

back_whole : (t : Bytes) (ts : List Bytes) → all_of mild (t ∷ ts) ≡ true → trimmed white (back-text t ts) ≡ whole true (t ∷ ts)
unfolding trimmed
back_whole t [] m = ap (trimmed white) (back-nil t) ∙ mild-none t (one-mild t m) ∙ sym (whole-one true t)
back_whole [] (u ∷ us) m =
    ap (trim_end white) (back-first [] u us m ∙ sym (append_assoc (before-it u us) (124 ∷ []) (32 ∷ [])))
    ∙ end-space (before-it u us ++ (124 ∷ [])) (fine-append (before-it u us) (124 ∷ []) bar-fine) ∙ sym (whole-back-empty u us)
back_whole (x ∷ t) (u ∷ us) m =
    ap (trim_end white) (back-first (x ∷ t) u us m)
    ∙ end_same (before-it u us ++ (124 ∷ 32 ∷ x ∷ t))
    (fine-append (before-it u us) (124 ∷ 32 ∷ x ∷ t) (fine-append (124 ∷ 32 ∷ []) (x ∷ t) (last_of (x ∷ t) (head-solid x t (u ∷ us) m))))
    ∙ sym (whole-back-first x t u us)

-- ---- the answer

after-snoc : (us : List Bytes) (t : Bytes) → after_each sep (us ++ (t ∷ [])) ≡ after_each sep us ++ (sep ++ t)
unfolding after_each
after-snoc [] t = ap (λ (v : Bytes). sep ++ v) (append-nil t)
after-snoc (u ∷ us) t = ap (λ (v : Bytes). sep ++ (u ++ v)) (after-snoc us t) ∙ ap (λ (v : Bytes). sep ++ v) (sym (append_assoc u (after_each sep us) (sep ++ t)))

joined_snoc : (us : List Bytes) (t : Bytes) → non_empty us ≡ true → joined_by sep (us ++ (t ∷ [])) ≡ joined_by sep us ++ (sep ++ t)
unfolding joined_by non_empty
joined_snoc [] t e = absurd (false≢true e)
joined_snoc (u ∷ us) t e = ap (λ (v : Bytes). u ++ v) (after-snoc us t) ∙ sym (append_assoc u (after_each sep us) (sep ++ t))

snoc-some : (us : List Bytes) (t : Bytes) → non_empty (us ++ (t ∷ [])) ≡ true
unfolding non_empty
snoc-some [] t = refl
snoc-some (u ∷ us) t = refl

back_is : (t : Bytes) (ts : List Bytes) → joined_by sep (reverse ts ++ (t ∷ [])) ≡ back-text t ts
unfolding back-text
back_is t [] = unfold joined_by after_each in append-nil t
back_is t (u ∷ us) =
    ap (λ (vs : List Bytes). joined_by sep (vs ++ (t ∷ []))) (reverse_aux-eq us (u ∷ [])) ∙ joined_snoc (reverse us ++ (u ∷ [])) t (snoc-some (reverse us) u)
    ∙ ap (λ (v : Bytes). v ++ (sep ++ t)) (back_is u us)

forth-is : (t : Bytes) (ts : List Bytes) → joined_by sep (t ∷ ts) ≡ forth-text t ts
unfolding joined_by forth-text
forth-is t ts = refl

pub whole_is : (back : Bool) (ts : List Bytes) → all_of mild ts ≡ true → trimmed white (joined_by (32 ∷ 124 ∷ 32 ∷ []) (cond back (reverse ts) ts)) ≡ whole back ts
whole_is true [] m = unfold trimmed trim_start trim_end joined_by whole in refl
whole_is false [] m = unfold trimmed trim_start trim_end joined_by whole in refl
whole_is true (t ∷ ts) m = ap (λ (vs : List Bytes). trimmed white (joined_by sep vs)) (reverse_aux-eq ts (t ∷ [])) ∙ ap (trimmed white) (back_is t ts) ∙ back_whole t ts m
whole_is false (t ∷ ts) m = ap (trimmed white) (forth-is t ts) ∙ forth-whole t ts m

-- its length is the same in either order
abbrev tail_of : Bool → Bool → Bool → Bytes → Bytes → Bytes
tail_of back begun b t f = side back (cond begun (32 ∷ []) []) (side back (124 ∷ []) (cond b (side back (32 ∷ []) (side back t f)) []))

tail-length : (begun b : Bool) (t f g : Bytes) → length f ≡ length g → length (tail_of true begun b t f) ≡ length (tail_of false begun b t g)
tail-length begun true t f g h =
    let a : Bytes = cond begun (32 ∷ []) [] in
    let sp : Bytes = 32 ∷ [] in
    let br : Bytes = 124 ∷ [] in
    omega (
      arith,
      side-length true a (side true br (side true sp (side true t f))),
      side-length true br (side true sp (side true t f)),
      side-length true sp (side true t f),
      side-length true t f,
      side-length false a (side false br (side false sp (side false t g))),
      side-length false br (side false sp (side false t g)),
      side-length false sp (side false t g),
      side-length false t g,
    )
tail-length begun false t f g h =
    let a : Bytes = cond begun (32 ∷ []) [] in
    let br : Bytes = 124 ∷ [] in
    omega (arith, side-length true a (side true br []), side-length true br [], side-length false a (side false br []), side-length false br [])

following-length : (begun : Bool) (ts : List Bytes) → length (following true begun ts) ≡ length (following false begun ts)
unfolding following
following-length begun [] = refl
following-length begun (t ∷ ts) = tail-length begun (non_empty t || non_empty ts) t (following true true ts) (following false true ts) (following-length true ts)

pub whole_length : (back : Bool) (ts : List Bytes) → length (whole back ts) ≡ length (whole false ts)
whole_length true [] = unfold whole in refl
whole_length true (t ∷ ts) =
    unfold whole in
    omega (arith, side-length true t (following true (non_empty t) ts), side-length false t (following false (non_empty t) ts), following-length (non_empty t) ts)
whole_length false ts = refl
