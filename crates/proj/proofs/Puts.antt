-- Putting texts behind each other or in front of each other: the laws of `Spot` and `Puts`, and those for the functions.
use mathlib.Core.Path.{◌≡◌, refl, sym, ap, ◌∙◌, subst}
use mathlib.Core.Bool.{Bool, true, false, cond, false≢true}
use mathlib.Core.List.{[], ◌∷◌, ◌++◌, append_assoc}
use Prim.Native.Nat.{ℕ, ◌+◌, ◌-◌, ◌≤◌, ◌<◌}
use native.Mathlib.Decide.{dec_lt}
use native.Mathlib.Omega.{arith}
use borrow.Author.Tests.{eq-eqb, ne_eqb, eqb-true}
use lib.ListN.{length, take, drop, set, length-append, take-append-drop}
use lib.Seq.{length-take-le, take_at, drop_at, drop-drop, take-take, take-append-le, drop-append-add}
use lib.Dec.{eqb, ltb}
use Rattle.rules.specs.Text.Lists.{non_empty}
use Rattle.rules.specs.Text.Bytes.{Bytes}
use Rattle.text.proofs.WroteAt.{wrote-byte}
use Rattle.proj_steps.specs.Adds.{limit, Room, Adds}
use Rattle.proj_steps.proofs.Added.{adds-length, wrote-adds}
use Rattle.laws_proj.specs.Ordering.{side, side_right, side-length, bar_text, gap_text, part_text, state_after}
use Rattle.proj.specs.Places.{number_of, place_of, Spot, Puts, Parted}
use Rattle.proj.specs.declared.layout.Last.{Last}
use Rattle.proj.specs.declared.layout.Last.TheVariants.{Nothing, Text, Bar}
use Rattle.proj.specs.contracts.layout.Last.{the_type}
use denote.Enum.Bare.{sameb}
use Rattle.laws_proj.specs.Tests.{empty-is, some_is}

-- ---- the place

pub place-back : {back : Bool} (total o l : ℕ) → back ≡ true → total - (o + l) ≡ place_of back total o l
unfolding place_of
place-back total o l e = sym (rw e)

pub place-behind : {back : Bool} (total o l : ℕ) → back ≡ false → o ≡ place_of back total o l
unfolding place_of
place-behind total o l e = sym (rw e)

place_in : (back : Bool) (total o l : ℕ) → o + l ≤ total → place_of back total o l + l ≤ total
unfolding place_of
place_in true total o l h = omega arith
place_in false total o l h = omega arith

-- ---- what a spot tells

module _ {write back : Bool} {total : ℕ} {text : Bytes} {o : ℕ} {dst : Bytes} (h : Spot write back total text o dst) where
  pub spot-total : write ≡ true → o + length text ≤ total
  spot-total e = subst (λ (b : Bool). o + length text ≤ cond b total 1099511627776) e h.fits

  spot-dst : write ≡ true → total ≤ length dst
  spot-dst e = subst (λ (b : Bool). cond b total 0 ≤ length dst) e h.inside

  pub spot-fits : write ≡ false → o + length text ≤ 1099511627776
  spot-fits e = subst (λ (b : Bool). o + length text ≤ cond b total 1099511627776) e h.fits

  pub spot-room : write ≡ true → Room true text (place_of back total o (length text)) dst
  unfolding limit
  spot-room e = record { fits = omega (arith, place_in back total o (length text) (spot-total e), spot-dst e) }

  pub spot-place : write ≡ true → {at : ℕ} → at ≡ place_of back total o (length text) → at + length text ≤ length dst
  spot-place e z = omega (arith, place_in back total o (length text) (spot-total e), spot-dst e)

  -- what was added there is put
  pub put_written : write ≡ true → {at r : ℕ} {dst' : Bytes} → at ≡ place_of back total o (length text) → Adds true text dst at r dst'
      → Puts write back total text dst o (o + length text) dst'
  put_written e {at} {r} {dst'} z a =
      let q : r ≡ place_of back total o (length text) + length text = a.count ∙ ap (λ (n : ℕ). n + length text) z in
      record {
        count = refl;
        adds =
            subst (λ (b : Bool). Adds b text dst (place_of back total o (length text)) (place_of back total o (length text) + length text) dst') (sym e)
            (subst (λ (n : ℕ). Adds true text dst (place_of back total o (length text)) n dst') q (subst (λ (n : ℕ). Adds true text dst n r dst') z a));
      }

  pub put-counted : write ≡ false → Puts write back total text dst o (o + length text) dst
  put-counted e = record { count = refl; adds = record { count = refl; whole = sym (rw e) } }

  pub spot-length : {r : ℕ} {dst' : Bytes} → Puts write back total text dst o r dst' → length dst' ≡ length dst
  spot-length {r} {dst'} p = go write (λ e. spot-room e) p.adds
    where
      go : (b : Bool) → (b ≡ true → Room true text (place_of back total o (length text)) dst)
          → Adds b text dst (place_of back total o (length text)) (place_of back total o (length text) + length text) dst' → length dst' ≡ length dst
      go true f a = adds-length (f refl) a
      go false f a = ap length a.whole

-- ---- in other words, nothing, and one after the other

pub spot-as : {write back : Bool} {total : ℕ} {t u : Bytes} {o : ℕ} {dst : Bytes} → t ≡ u → Spot write back total t o dst → Spot write back total u o dst
spot-as {write} {back} {total} {t} {u} {o} {dst} e h = subst (λ (x : Bytes). Spot write back total x o dst) e h

pub puts-as : {write back : Bool} {total : ℕ} {t u dst₀ : Bytes} {o r : ℕ} {dst : Bytes} → t ≡ u → Puts write back total t dst₀ o r dst → Puts write back total u dst₀ o r dst
puts-as {write} {back} {total} {t} {u} {dst₀} {o} {r} {dst} e p = subst (λ (x : Bytes). Puts write back total x dst₀ o r dst) e p

pub puts-nothing : {write back : Bool} {total o : ℕ} {dst : Bytes} → Puts write back total [] dst o o dst
puts-nothing {write} {back} {total} {o} {dst} = record { count = omega arith; adds = go write (place_of back total o 0) }
  where
    go : (b : Bool) (n : ℕ) → Adds b [] dst n (n + 0) dst
    go true n = let z : n + 0 ≡ n = omega arith in record { count = refl; whole = rw z (sym (take-append-drop n dst)) }
    go false n = record { count = refl; whole = refl }

-- a list's part from one place up to another, replaced
mid : ℕ → Bytes → Bytes → Bytes
mid at t d = take at d ++ (t ++ drop (at + length t) d)

-- a text behind another
mid-behind : (d t u : Bytes) (at : ℕ) → at + length t ≤ length d → mid (at + length t) u (mid at t d) ≡ mid at (t ++ u) d
unfolding mid
mid-behind d t u at h =
    let l : length (take at d) ≡ at = length-take-le at d (omega arith) in
    let k : length (take at d ++ t) ≡ at + length t = omega (arith, length-append (take at d) t) in
    let a : take at d ++ (t ++ drop (at + length t) d) ≡ (take at d ++ t) ++ drop (at + length t) d = sym (append_assoc (take at d) t (drop (at + length t) d)) in
    let b : take (at + length t) (take at d ++ (t ++ drop (at + length t) d)) ≡ take at d ++ t = ap (take (at + length t)) a
    ∙ take_at (take at d ++ t) (drop (at + length t) d) (at + length t) k in
    let n : at + length t + length u ≡ at + length (t ++ u) = omega (arith, length-append t u) in
    let c : drop (at + length t + length u) (take at d ++ (t ++ drop (at + length t) d)) ≡ drop (at + length (t ++ u)) d =
    ap (drop (at + length t + length u)) a ∙ ap (λ (m : ℕ). drop (m + length u) ((take at d ++ t) ++ drop (at + length t) d)) (sym k)
    ∙ drop-append-add (take at d ++ t) (drop (at + length t) d) (length u) ∙ drop-drop (length u) (at + length t) d ∙ ap (λ (m : ℕ). drop m d) n in
    ap (λ (x : Bytes). x ++ (u ++ drop (at + length t + length u) (take at d ++ (t ++ drop (at + length t) d)))) b
    ∙ ap (λ (x : Bytes). (take at d ++ t) ++ (u ++ x)) c
    ∙ append_assoc (take at d) t (u ++ drop (at + length (t ++ u)) d)
    ∙ ap (λ (x : Bytes). take at d ++ x) (sym (append_assoc t u (drop (at + length (t ++ u)) d)))

-- and in front of it
mid-front : (d t u : Bytes) (at : ℕ) → at + length u + length t ≤ length d → mid at u (mid (at + length u) t d) ≡ mid at (u ++ t) d
unfolding mid
mid-front d t u at h =
    let l : length (take (at + length u) d) ≡ at + length u = length-take-le (at + length u) d (omega arith) in
    let q : at ≤ length (take (at + length u) d) = omega arith in
    let b : take at (take (at + length u) d ++ (t ++ drop (at + length u + length t) d)) ≡ take at d =
    take-append-le at (take (at + length u) d) (t ++ drop (at + length u + length t) d) q ∙ take-take at (at + length u) d (omega arith) in
    let c : drop (at + length u) (take (at + length u) d ++ (t ++ drop (at + length u + length t) d)) ≡ t ++ drop (at + length u + length t) d =
    drop_at (take (at + length u) d) (t ++ drop (at + length u + length t) d) (at + length u) l in
    let n : at + length u + length t ≡ at + length (u ++ t) = omega (arith, length-append u t) in
    ap (λ (x : Bytes). x ++ (u ++ drop (at + length u) (take (at + length u) d ++ (t ++ drop (at + length u + length t) d)))) b
    ∙ ap (λ (x : Bytes). take at d ++ (u ++ x)) c
    ∙ ap (λ (x : Bytes). take at d ++ x) (sym (append_assoc u t (drop (at + length u + length t) d)))
    ∙ ap (λ (k : ℕ). take at d ++ ((u ++ t) ++ drop k d)) n

adds-mid : {t d d' : Bytes} {at r : ℕ} → r ≡ at + length t → d' ≡ mid at t d → Adds true t d at r d'
unfolding mid
adds-mid e f = record { count = e; whole = f ∙ sym (rw e) }

mid-adds : {t d d' : Bytes} {at : ℕ} → Adds true t d at (at + length t) d' → d' ≡ mid at t d
unfolding mid
mid-adds a = a.whole

-- two texts in a row, each put where it belongs
put-behind : {t u dst₀ dst dst' : Bytes} (total o r : ℕ) → r ≡ o + length t → o + length (t ++ u) ≤ total → total ≤ length dst₀
    → Adds true t dst₀ o (o + length t) dst → Adds true u dst r (r + length u) dst' → Adds true (t ++ u) dst₀ o (o + length (t ++ u)) dst'
put-behind {t} {u} {dst₀} {dst} {dst'} total o r c f i x y =
    let k : o + length t ≤ length dst₀ = omega (arith, length-append t u) in
    let z : dst' ≡ mid r u dst = mid-adds y in
    adds-mid refl (z ∙ ap (λ (n : ℕ). mid n u dst) c ∙ ap (mid (o + length t) u) (mid-adds x) ∙ mid-behind dst₀ t u o k)

put_front : {t u dst₀ dst dst' : Bytes} (total o r : ℕ) → r ≡ o + length t → o + length (u ++ t) ≤ total → total ≤ length dst₀
    → Adds true t dst₀ (total - (o + length t)) (total - (o + length t) + length t) dst → Adds true u dst (total - (r + length u)) (total - (r + length u) + length u) dst'
    → Adds true (u ++ t) dst₀ (total - (o + length (u ++ t))) (total - (o + length (u ++ t)) + length (u ++ t)) dst'
put_front {t} {u} {dst₀} {dst} {dst'} total o r c f i x y =
    let l = length-append u t in
    let e : total - (r + length u) ≡ total - (o + length (u ++ t)) = omega arith in
    let g : total - (o + length t) ≡ total - (o + length (u ++ t)) + length u = omega arith in
    let k : total - (o + length (u ++ t)) + length u + length t ≤ length dst₀ = omega arith in
    adds-mid refl
    (mid-adds y ∙ ap (λ (n : ℕ). mid n u dst) e ∙ ap (mid (total - (o + length (u ++ t))) u) (mid-adds x ∙ ap (λ (n : ℕ). mid n t dst₀) g) ∙ mid-front dst₀ t u
    (total - (o + length (u ++ t))) k)

put_two : (w b : Bool) (t u : Bytes) {dst₀ dst dst' : Bytes} (total o r : ℕ) → r ≡ o + length t
    → o + length (side b t u) ≤ cond w total 1099511627776 → cond w total 0 ≤ length dst₀
    → Adds w t dst₀ (place_of b total o (length t)) (place_of b total o (length t) + length t) dst
    → Adds w u dst (place_of b total r (length u)) (place_of b total r (length u) + length u) dst'
    → Adds w (side b t u) dst₀ (place_of b total o (length (side b t u))) (place_of b total o (length (side b t u)) + length (side b t u)) dst'
unfolding place_of side
put_two false b t u total o r c f i x y = record { count = refl; whole = y.whole ∙ x.whole }
put_two true false t u total o r c f i x y = put-behind total o r c f i x y
put_two true true t u total o r c f i x y = put_front total o r c f i x y

module _ {write back : Bool} {total : ℕ} (t u : Bytes) {o : ℕ} {dst₀ : Bytes} (h : Spot write back total (side back t u) o dst₀) where
  pub spot-first : Spot write back total t o dst₀
  spot-first = record { fits = omega (arith, h.fits, side-length back t u); inside = h.inside }

  module _ {r : ℕ} {dst : Bytes} (p : Puts write back total t dst₀ o r dst) where
    pub spot-then : Spot write back total u r dst
    spot-then = record { fits = omega (arith, h.fits, side-length back t u, p.count); inside = omega (arith, h.inside, spot-length spot-first p) }

    pub puts-both : {r' : ℕ} {dst' : Bytes} → Puts write back total u dst r r' dst' → Puts write back total (side back t u) dst₀ o r' dst'
    puts-both q = record {
      count = omega (arith, p.count, q.count, side-length back t u);
      adds = put_two write back t u total o r p.count h.fits h.inside p.adds q.adds;
    }

-- ---- what was put last

nothing-is : (l : Last) → sameb the_type l Nothing ≡ eqb (number_of l) 0
nothing-is Nothing = refl
nothing-is Text = refl
nothing-is Bar = refl

pub bar-is : (l : Last) → sameb the_type l Bar ≡ eqb (number_of l) 2
bar-is Nothing = refl
bar-is Text = refl
bar-is Bar = refl

-- where an empty text follows
pub after-nothing : {l : Last} → l ≡ Nothing → 1 ≡ state_after (number_of l) []
unfolding state_after non_empty
after-nothing e = rw e

pub after-other : (l : Last) → (l ≡ Nothing → ⊥) → 2 ≡ state_after (number_of l) []
unfolding state_after non_empty
after-other Nothing f = absurd (f refl)
after-other Text f = refl
after-other Bar f = refl

module _ (l : Last) {b : Bool} (e : b ≡ sameb the_type l Nothing) where
  pub put-first : b ≡ true → number_of l ≡ 0
  put-first h = eqb-true (number_of l) 0 (sym (nothing-is l) ∙ sym e ∙ h)

  pub put-later : b ≡ false → number_of l ≡ 0 → ⊥
  put-later h z = false≢true (sym h ∙ e ∙ nothing-is l ∙ eq-eqb (number_of l) 0 z)

-- ---- for the functions, need by need

-- a byte
pub byte-written : {write back : Bool} {total v o at : ℕ} {dst : Bytes} → Spot write back total (v ∷ []) o dst → write ≡ true → at ≡ place_of back total o 1
    → Puts write back total (v ∷ []) dst o (o + 1) (set dst at v)
byte-written {write} {back} {total} {v} {o} {at} {dst} h e z =
    let k : at + 1 ≤ length dst = spot-place h e z in
    put_written h e z (wrote-adds k (wrote-byte v dst at (omega arith)))

-- a space that is wanted or not
pub space-yes : {wanted : Bool} → wanted ≡ true → ◌≡◌ {A = Bytes} (cond wanted (32 ∷ []) []) (32 ∷ [])
space-yes e = rw e

pub space-no : {wanted : Bool} → wanted ≡ false → ◌≡◌ {A = Bytes} (cond wanted (32 ∷ []) []) []
space-no e = rw e

-- the bar
module _ (back : Bool) (state : ℕ) (begun : Bool) where
  pub bar-first : state ≡ 0 → bar_text back state begun ≡ []
  unfolding bar_text
  bar-first z = rw (eq-eqb state 0 z)

  pub bar-later : (state ≡ 0 → ⊥) → bar_text back state begun ≡ side back (cond (eqb state 2) (32 ∷ []) []) (side back (cond begun (32 ∷ []) []) (124 ∷ []))
  unfolding bar_text
  bar-later n = rw (ne_eqb state 0 n)

-- the text after it
module _ (back : Bool) (state : ℕ) (t : Bytes) where
  pub gap-first : state ≡ 0 → gap_text back state t ≡ t
  unfolding gap_text
  gap-first z = rw (eq-eqb state 0 z)

  pub gap-later : (state ≡ 0 → ⊥) → gap_text back state t ≡ side back (32 ∷ []) t
  unfolding gap_text
  gap-later n = rw (ne_eqb state 0 n)

-- a count leaves the buffer as it was
pub puts-kept : {write back : Bool} {total : ℕ} {t u dst₀ dst dst' : Bytes} {o r l : ℕ} → Puts write back total t dst₀ o r dst
    → Adds false u dst 0 l dst' → Puts write back total t dst₀ o r dst'
puts-kept {write} {back} {total} {t} {u} {dst₀} {dst} {dst'} {o} {r} p a = subst (λ (d : Bytes). Puts write back total t dst₀ o r d) (sym a.whole) p

pub count-is : {u dst dst' : Bytes} {l : ℕ} → Adds false u dst 0 l dst' → l ≡ length u
count-is a = omega (arith, a.count)

pub count_none : {u dst dst' : Bytes} {l : ℕ} → Adds false u dst 0 l dst' → l ≡ 0 → length u ≡ 0
count_none a z = omega (arith, a.count)

pub count-some : {u dst dst' : Bytes} {l : ℕ} → Adds false u dst 0 l dst' → (l ≡ 0 → ⊥) → length u ≡ 0 → ⊥
count-some a n z = n (omega (arith, a.count))

-- room to count
pub count_room : {u dst : Bytes} → length u ≤ 262140 → Room false u 0 dst
unfolding limit
count_room h = record { fits = omega arith }

-- both
module _ (state : ℕ) (t : Bytes) {write back : Bool} {total o : ℕ} {dst₀ : Bytes} (h : Spot write back total (part_text back state (ltb 0 o) t) o dst₀) where
  pub part-bar : Spot write back total (bar_text back state (ltb 0 o)) o dst₀
  unfolding part_text
  part-bar = spot-first (bar_text back state (ltb 0 o)) (cond (non_empty t) (gap_text back state t) []) h

  module _ {p : ℕ} {dst : Bytes} (b : Puts write back total (bar_text back state (ltb 0 o)) dst₀ o p dst) where
    none_is : length t ≡ 0 → part_text back state (ltb 0 o) t ≡ bar_text back state (ltb 0 o)
    unfolding part_text non_empty
    none_is e = rw (empty-is t e) (side_right back (bar_text back state (ltb 0 o)))

    pub part-empty : length t ≡ 0 → {l : Last} → number_of l ≡ state_after state [] → Parted write back total state t dst₀ o (record { o = p; last = l }) dst
    part-empty e h = record { puts = puts-as (sym (none_is e)) b; state-is = h ∙ ap (state_after state) (sym (empty-is t e)) }

    pub part-later-empty : length t ≡ 0 → (state ≡ 0 → ⊥) → Parted write back total state t dst₀ o (record { o = p; last = Bar }) dst
    part-later-empty e n = part-empty e (after n)
      where
        after : (state ≡ 0 → ⊥) → 2 ≡ state_after state []
        after f = unfold state_after non_empty in sym (rw (ne_eqb state 0 f))

    module _ (n : length t ≡ 0 → ⊥) where
      some-text : part_text back state (ltb 0 o) t ≡ side back (bar_text back state (ltb 0 o)) (gap_text back state t)
      unfolding part_text
      some-text = rw (some_is t n)

      pub part-gap : Spot write back total (gap_text back state t) p dst
      part-gap = spot-then (bar_text back state (ltb 0 o)) (gap_text back state t) (spot-as some-text h) b

      pub part-some : {q : ℕ} {dst' : Bytes} → Puts write back total (gap_text back state t) dst p q dst' → Parted write back total state t dst₀ o (record { o = q; last = Text }) dst'
      part-some g = record { puts = puts-as (sym some-text) (puts-both (bar_text back state (ltb 0 o)) (gap_text back state t) (spot-as some-text h) b g); state-is = some-state (some_is t n) }
        where
          some-state : non_empty t ≡ true → 1 ≡ state_after state t
          some-state f = unfold state_after in sym (rw f)

-- ---- written behind the others

not_none : {k : ℕ} → 0 < k → k ≡ 0 → ⊥
not_none m e = omega arith

-- a space is put before a text that stands behind its place
spaced-adds : {t dst dst' : Bytes} {p r : ℕ} → p + 1 + length t ≤ length dst → Adds true t dst (p + 1) r dst' → p < length dst'
    → Adds true (32 ∷ t) dst p (p + length (32 ∷ t)) (set dst' p 32)
spaced-adds {t} {dst} {dst'} {p} {r} h a l =
    let x : dst' ≡ mid (p + 1) t dst = mid-adds (subst (λ (n : ℕ). Adds true t dst (p + 1) n dst') a.count a) in
    let y : set dst' p 32 ≡ mid p (32 ∷ []) dst' = mid-adds (wrote-adds (omega arith) (wrote-byte 32 dst' p l)) in
    adds-mid refl (y ∙ ap (mid p (32 ∷ [])) x ∙ mid-front dst t (32 ∷ []) p h)

module _ (state : ℕ) (t : Bytes) {total o : ℕ} {dst₀ : Bytes} (h : Spot true false total (part_text false state (ltb 0 o) t) o dst₀)
    {p : ℕ} {dst : Bytes} (b : Puts true false total (bar_text false state (ltb 0 o)) dst₀ o p dst) where
  -- behind the bar the buffer has room for what is left of the answer
  on-inside : total ≤ length dst
  on-inside = omega (arith, h.inside, spot-length (part-bar state t h) b)

  on-within : p ≤ total
  on-within = omega (arith, (part-bar state t h).fits, b.count)

  -- the first
  module _ (z : state ≡ 0) where
    on-first : part_text false state (ltb 0 o) t ≡ side false (bar_text false state (ltb 0 o)) t
    unfolding part_text gap_text
    on-first = rw (eq-eqb state 0 z) (ap (side false (bar_text false state (ltb 0 o))) (same t))
      where
        same : (u : Bytes) → cond (non_empty u) u [] ≡ u
        same [] = unfold non_empty in refl
        same (x ∷ u) = unfold non_empty in refl

    on-first-spot : Spot true false total t p dst
    on-first-spot = spot-then (bar_text false state (ltb 0 o)) t (spot-as on-first h) b

    pub on-first-room : Room true t p dst
    unfolding place_of
    on-first-room = spot-room on-first-spot refl

    pub on-first-done : {r : ℕ} {dst' : Bytes} → Adds true t dst p r dst' → Parted true false total state t dst₀ o (record { o = r; last = Text }) dst'
    on-first-done {r} {dst'} a = record {
      puts =
          puts-as (sym on-first)
          (puts-both (bar_text false state (ltb 0 o)) t (spot-as on-first h) b
          (subst (λ (n : ℕ). Puts true false total t dst p n dst') (sym a.count) (put_written on-first-spot refl (place-behind total p (length t) refl) a)));
      state-is = after (non_empty t) refl;
    }
      where
        after : (c : Bool) → non_empty t ≡ c → 1 ≡ state_after state t
        after true e = unfold state_after in sym (rw e)
        after false e = unfold state_after in sym (rw (e, eq-eqb state 0 z))

  -- a later one
  module _ (n : state ≡ 0 → ⊥) where
    on_room : 0 < length t → p + 1 + length t ≤ total
    on_room m = omega (arith, (part-gap state t h b (not_none m)).fits, ap length (gap-later false state t n), side-length false (32 ∷ []) t)

    -- nothing is left of the answer
    pub on-full : total ≤ p → Parted true false total state t dst₀ o (record { o = p; last = Bar }) dst
    on-full l = elim (dec_lt 0 (length t)) [ yes m ↦ absurd (past (on_room m)) | no m ↦ part-later-empty state t h b (omega arith) n ]
      where
        past : p + 1 + length t ≤ total → ⊥
        past q = omega arith

    module _ (l : p < total) where
      on_fits : p + 1 + length t ≤ length dst
      on_fits = elim (dec_lt 0 (length t)) [ yes m ↦ omega (arith, on-inside, on_room m) | no m ↦ omega (arith, on-inside) ]

      pub on-later-room : Room true t (p + 1) dst
      unfolding limit
      on-later-room = record { fits = on_fits }

      module _ {r : ℕ} {dst' : Bytes} (a : Adds true t dst (p + 1) r dst') where
        pub on-later-length : p < length dst'
        on-later-length = omega (arith, adds-length on-later-room a, on-inside)

        pub on-later-none : r ≡ p + 1 → Parted true false total state t dst₀ o (record { o = p; last = Bar }) dst'
        on-later-none e =
            let z : length t ≡ 0 = omega (arith, a.count) in
            let d : dst' ≡ dst = a.whole ∙ rw (empty-is t z, e) (take-append-drop (p + 1) dst) in
            subst (λ (x : Bytes). Parted true false total state t dst₀ o (record { o = p; last = Bar }) x) (sym d) (part-later-empty state t h b z n)

        pub on-later-done : (r ≡ p + 1 → ⊥) → Parted true false total state t dst₀ o (record { o = r; last = Text }) (set dst' p 32)
        on-later-done k = part-some state t h b some puts
          where
            some : length t ≡ 0 → ⊥
            some z = k (omega (arith, a.count))

            gap_is : gap_text false state t ≡ 32 ∷ t
            gap_is = gap-later false state t n ∙ unfold side in refl

            puts : Puts true false total (gap_text false state t) dst p r (set dst' p 32)
            puts = puts-as (sym gap_is) (record { count = omega (arith, a.count); adds = unfold place_of in spaced-adds on_fits a on-later-length })

-- ---- the bar, piece by piece

module _ (state : ℕ) (begun : Bool) {write back : Bool} {total o : ℕ} {dst₀ : Bytes} (h : Spot write back total (bar_text back state begun) o dst₀) (n : state ≡ 0 → ⊥) where
  bar-spot : Spot write back total (side back (cond (eqb state 2) (32 ∷ []) []) (side back (cond begun (32 ∷ []) []) (124 ∷ []))) o dst₀
  bar-spot = spot-as (bar-later back state begun n) h

  pub bar-owed : Spot write back total (cond (eqb state 2) (32 ∷ []) []) o dst₀
  bar-owed = spot-first (cond (eqb state 2) (32 ∷ []) []) (side back (cond begun (32 ∷ []) []) (124 ∷ [])) bar-spot

  module _ {p : ℕ} {dst₁ : Bytes} (a : Puts write back total (cond (eqb state 2) (32 ∷ []) []) dst₀ o p dst₁) where
    rest-spot : Spot write back total (side back (cond begun (32 ∷ []) []) (124 ∷ [])) p dst₁
    rest-spot = spot-then (cond (eqb state 2) (32 ∷ []) []) (side back (cond begun (32 ∷ []) []) (124 ∷ [])) bar-spot a

    pub bar-front : Spot write back total (cond begun (32 ∷ []) []) p dst₁
    bar-front = spot-first (cond begun (32 ∷ []) []) (124 ∷ []) rest-spot

    module _ {q : ℕ} {dst₂ : Bytes} (b : Puts write back total (cond begun (32 ∷ []) []) dst₁ p q dst₂) where
      pub bar-byte : Spot write back total (124 ∷ []) q dst₂
      bar-byte = spot-then (cond begun (32 ∷ []) []) (124 ∷ []) rest-spot b

      pub bar-done : {r : ℕ} {dst : Bytes} → Puts write back total (124 ∷ []) dst₂ q r dst → Puts write back total (bar_text back state begun) dst₀ o r dst
      bar-done c =
          puts-as (sym (bar-later back state begun n))
          (puts-both (cond (eqb state 2) (32 ∷ []) []) (side back (cond begun (32 ∷ []) []) (124 ∷ [])) bar-spot a (puts-both (cond begun (32 ∷ []) []) (124 ∷ []) rest-spot b c))

-- ---- a text, by its length

module _ {write back : Bool} {total o : ℕ} (t : Bytes) {dst : Bytes} (h : Spot write back total t o dst) {l : ℕ} (e : l ≡ length t) where
  pub text-total : write ≡ true → o + l ≤ total
  text-total w = omega (arith, spot-total h w)

  pub text-fits : write ≡ false → o + l ≤ 1099511627776
  text-fits w = omega (arith, spot-fits h w)

  there : {at : ℕ} → at ≡ place_of back total o l → at ≡ place_of back total o (length t)
  there z = z ∙ ap (place_of back total o) e

  pub text-room : write ≡ true → {at : ℕ} → at ≡ place_of back total o l → Room true t at dst
  text-room w {at} z = subst (λ (k : ℕ). Room true t k dst) (sym (there z)) (spot-room h w)

  pub text-written : write ≡ true → {at r : ℕ} {dst' : Bytes} → at ≡ place_of back total o l → Adds true t dst at r dst' → Puts write back total t dst o (o + l) dst'
  text-written w {at} {r} {dst'} z a = subst (λ (k : ℕ). Puts write back total t dst o (o + k) dst') (sym e) (put_written h w (there z) a)

  pub text-counted : write ≡ false → Puts write back total t dst o (o + l) dst
  text-counted w = subst (λ (k : ℕ). Puts write back total t dst o (o + k) dst) (sym e) (put-counted h w)
