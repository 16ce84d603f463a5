-- What the replacements of a normal form make of a text whose words are one space apart: those of a byte and a space free that byte of spaces on one
-- side, and those by some plain bytes leave all as it is.
-- ---- what the replacements of a byte and a space make
use Rattle.std.specs.Prelude.{◌≡◌, ℕ, zero, suc, ◌-◌, Bool, cond, ◌&&◌, ◌||◌, length, take, drop}
use Rattle.std.proofs.Math.Path.{refl}
use Rattle.std.proofs.Common.{sym, ap, subst, ◌∙◌, eqb-true, eq-eqb}
use Rattle.std.proofs.Math.Bool.{true, false, not}
use Rattle.std.proofs.lemmas.Bool.{false≢true}
use mathlib.Core.List.{List, [], ◌∷◌, ◌++◌}
use Rattle.std.proofs.Math.Dec.{eqb}
use Rattle.rules.specs.Text.Ascii.{ascii}
use Rattle.rules.specs.Text.Lists.{any_of, all_of, non_empty}
use Rattle.rules.specs.Text.Bytes.{Bytes, white, starts, replace_from, replace}
use Rattle.rules.specs.Text.Normal.{Replacement, run, becomes, subscript_becomes, replacements}
use Rattle.laws_lists.specs.Tests.{never, and_left, and_right}
use Rattle.laws_text.specs.Apart.{among, fits, fits-white, fits_word, space-white, and-true, Apart, behind-space, anywhere}

-- for a byte of a word an edge is nothing
fits-edge : (bars : List ℕ) (edge edge' gap : Bool) (x : ℕ) → white x ≡ false → fits bars edge gap x ≡ true → fits bars edge' gap x ≡ true
unfolding fits
fits-edge bars edge edge' gap x e h = rw e (rw e at h)

-- and for a space, or for another byte, a bar
fits-space : (bars bars' : List ℕ) (edge gap : Bool) (x : ℕ) → white x ≡ true → fits bars edge gap x ≡ true → fits bars' edge gap x ≡ true
unfolding fits
fits-space bars bars' edge gap x e h = rw e (rw e at h)

fits-bar : (bars : List ℕ) (c : ℕ) (edge gap : Bool) (x : ℕ) → eqb x c ≡ false → fits bars edge gap x ≡ true → fits (c ∷ bars) edge gap x ≡ true
unfolding fits any_of
fits-bar bars c edge gap x e h = rw e h

module _ (loose : Bool) (shut bars : List ℕ) (c : ℕ) (word : white c ≡ false) where
  is-word : (x : ℕ) → eqb x c ≡ true → white x ≡ false
  is-word x h = ap white (eqb-true x c h) ∙ word

  -- "c " becomes "c": no space is left behind a c. `at` says that a c stands before the text, which does then not go on with a space.
  abbrev Behind : Bytes → Type 0
  Behind t = (at edge gap : Bool) → (at ≡ true → starts (32 ∷ []) t ≡ false) → Apart loose shut bars edge gap t
      → Apart loose (c ∷ shut) bars (at || edge) gap (replace_from 0 (c ∷ 32 ∷ []) (c ∷ []) t)

  -- the same where the space is passed over
  abbrev PastSpace : Bytes → Type 0
  PastSpace t = (edge gap : Bool) → starts (32 ∷ []) t ≡ true → Apart loose shut bars edge gap t
      → Apart loose (c ∷ shut) bars true false (replace_from 1 (c ∷ 32 ∷ []) (c ∷ []) t)

  no-space-behind : (t : Bytes) → Behind t × PastSpace t
  unfolding Apart replace_from starts any_of
  no-space-behind [] = (λ at edge gap n h. h, λ edge gap n h. absurd (false≢true n))
  no-space-behind (x ∷ t) = (λ at edge gap n h. go at edge gap n h (eqb x c && starts (32 ∷ []) t) refl (no-space-behind t), λ edge gap n h. past edge gap n h (no-space-behind t).0)
    where
      fit : (at edge gap : Bool) → (at ≡ true → eqb x 32 && true ≡ false) → fits bars edge gap x ≡ true → (b : Bool) → white x ≡ b → fits bars (at || edge) gap x ≡ true
      fit false edge gap n h b e = h
      fit true edge gap n h true e = absurd (never (cc (and-true (eqb x 32), n refl, (fits-white bars edge gap x e h).0)))
      fit true edge gap n h false e = fits-edge bars edge true gap x e h

      go : (at edge gap : Bool) → (at ≡ true → eqb x 32 && true ≡ false) → Apart loose shut bars edge gap (x ∷ t) → (b : Bool) → eqb x c && starts (32 ∷ []) t ≡ b → Behind t × PastSpace t
          → Apart loose (c ∷ shut) bars (at || edge) gap (cond b (c ∷ replace_from 1 (c ∷ 32 ∷ []) (c ∷ []) t) (x ∷ replace_from 0 (c ∷ 32 ∷ []) (c ∷ []) t))
      go at edge gap n h true e i =
          let f = and_left (eqb x c) (starts (32 ∷ []) t) e in (
            rw (← eqb-true x c f) (fit at edge gap n h.0 (white x) refl),
            rw (eq-eqb c c refl, word) (i.1 (among shut x) (white x) (and_right (eqb x c) (starts (32 ∷ []) t) e) h.1),
          )
      go at edge gap n h false e i =
          (fit at edge gap n h.0 (white x) refl, i.0 (eqb x c) (among shut x) (white x) (λ f. rw f at e) h.1)

      past : (edge gap : Bool) → eqb x 32 && true ≡ true → Apart loose shut bars edge gap (x ∷ t) → Behind t → Apart loose (c ∷ shut) bars true false (replace_from 0 (c ∷ 32 ∷ []) (c ∷ []) t)
      past edge gap n h i =
          let w = space-white x (and_left (eqb x 32) true n) in
          behind-space loose (c ∷ shut) bars (among shut x) true (replace_from 0 (c ∷ 32 ∷ []) (c ∷ []) t) (i false (among shut x) true (λ f. absurd (false≢true f)) (rw w at h.1))

  -- " c" becomes "c": no space is left before a c. Behind a space the text does not go on with a c.
  abbrev Before : Bytes → Type 0
  Before t = (edge gap : Bool) → (gap ≡ true → starts (c ∷ []) t ≡ false) → Apart loose shut bars edge gap t
      → Apart loose shut (c ∷ bars) edge gap (replace_from 0 (32 ∷ c ∷ []) (c ∷ []) t)

  -- the same where the c is passed over
  abbrev PastByte : Bytes → Type 0
  PastByte t = (edge gap : Bool) → starts (c ∷ []) t ≡ true → Apart loose shut bars edge gap t
      → Apart loose shut (c ∷ bars) (among shut c) false (replace_from 1 (32 ∷ c ∷ []) (c ∷ []) t)

  no-space-before : (t : Bytes) → Before t × PastByte t
  unfolding Apart replace_from starts any_of
  no-space-before [] = (λ edge gap n h. h, λ edge gap n h. absurd (false≢true n))
  no-space-before (x ∷ t) = (λ edge gap n h. go edge gap n h (eqb x 32 && starts (c ∷ []) t) refl (no-space-before t), λ edge gap n h. past edge gap n h (no-space-before t).0)
    where
      fit : (edge gap : Bool) → (gap ≡ true → eqb x c && true ≡ false) → fits bars edge gap x ≡ true → (b : Bool) → white x ≡ b → fits (c ∷ bars) edge gap x ≡ true
      fit edge gap n h true e = fits-space bars (c ∷ bars) edge gap x e h
      fit edge false n h false e = fits_word (c ∷ bars) edge x e
      fit edge true n h false e = fits-bar bars c edge true x (sym (and-true (eqb x c)) ∙ n refl) h

      go : (edge gap : Bool) → (gap ≡ true → eqb x c && true ≡ false) → Apart loose shut bars edge gap (x ∷ t) → (b : Bool) → eqb x 32 && starts (c ∷ []) t ≡ b → Before t × PastByte t
          → Apart loose shut (c ∷ bars) edge gap (cond b (c ∷ replace_from 1 (32 ∷ c ∷ []) (c ∷ []) t) (x ∷ replace_from 0 (32 ∷ c ∷ []) (c ∷ []) t))
      go edge gap n h true e i =
          let w = space-white x (and_left (eqb x 32) (starts (c ∷ []) t) e) in
          let f = fits-white bars edge gap x w h.0 in (
            rw f.2 (fits_word (c ∷ bars) edge c word),
            rw word (i.1 (among shut x) (white x) (and_right (eqb x 32) (starts (c ∷ []) t) e) h.1),
          )
      go edge gap n h false e i =
          (fit edge gap n h.0 (white x) refl, i.0 (among shut x) (white x) (λ w. rw (fits-white bars edge gap x w h.0).0 at e) h.1)

      past : (edge gap : Bool) → eqb x c && true ≡ true → Apart loose shut bars edge gap (x ∷ t) → Before t
          → Apart loose shut (c ∷ bars) (among shut c) false (replace_from 0 (32 ∷ c ∷ []) (c ∷ []) t)
      past edge gap n h i =
          let f = and_left (eqb x c) true n in
          let w = is-word x f in
          let k : Apart loose shut (c ∷ bars) (among shut x) false (replace_from 0 (32 ∷ c ∷ []) (c ∷ []) t) = i (among shut x) false (λ g. absurd (false≢true g)) (rw w at h.1) in
          subst (λ (y : ℕ). Apart loose shut (c ∷ bars) (among shut y) false (replace_from 0 (32 ∷ c ∷ []) (c ∷ []) t)) (eqb-true x c f) k

  -- so of a whole text
  pub freed-behind : (t : Bytes) → Apart loose shut bars true false t → Apart loose (c ∷ shut) bars true false (replace (c ∷ 32 ∷ []) (c ∷ []) t)
  unfolding replace
  freed-behind t h = (no-space-behind t).0 false true false (λ e. absurd (false≢true e)) h

  pub freed-before : (t : Bytes) → Apart loose shut bars true false t → Apart loose shut (c ∷ bars) true false (replace (32 ∷ c ∷ []) (c ∷ []) t)
  unfolding replace
  freed-before t h = (no-space-before t).0 true false (λ e. absurd (false≢true e)) h

-- ---- what the other replacements leave so

-- a byte that is no white space, and none of these
unfoldable pub plain : List ℕ → List ℕ → ℕ → Bool
plain shut bars x = not (white x) && (not (among shut x) && not (among bars x))

module _ (loose : Bool) (shut bars : List ℕ) where
  plain-is : (x : ℕ) → plain shut bars x ≡ true → (white x ≡ false) × (among shut x ≡ false) × (among bars x ≡ false)
  unfolding plain
  plain-is x h = go (white x) (among shut x) (among bars x) h
    where
      go : (a b c : Bool) → not a && (not b && not c) ≡ true → (a ≡ false) × (b ≡ false) × (c ≡ false)
      go true b c h = absurd (false≢true h)
      go false true c h = absurd (false≢true h)
      go false false true h = absurd (false≢true h)
      go false false false h = (refl, refl, refl)

  -- plain bytes may come anywhere, and anything behind them
  plain-next : (edge gap : Bool) (x : ℕ) (t : Bytes) → plain shut bars x ≡ true → Apart loose shut bars false false t → Apart loose shut bars edge gap (x ∷ t)
  unfolding Apart
  plain-next edge gap x t p h = let f = plain-is x p in (unfold fits in rw (f.0, f.2) refl, rw (f.0, f.1) h)

  plain-front : (a t : Bytes) → all_of (plain shut bars) a ≡ true → Apart loose shut bars false false t → Apart loose shut bars false false (a ++ t)
  unfolding all_of
  plain-front [] t p h = h
  plain-front (x ∷ a) t p h =
      plain-next false false x (a ++ t) (and_left (plain shut bars x) (all_of (plain shut bars) a) p) (plain-front a t (and_right (plain shut bars x) (all_of (plain shut bars) a) p) h)

module _ (loose : Bool) (shut bars : List ℕ) (old : Bytes) (n : ℕ) (new : Bytes) (p : all_of (plain shut bars) (n ∷ new) ≡ true) where
  -- some plain bytes for whatever else; and behind what is replaced
  abbrev Replaced : Bytes → Type 0
  Replaced t = (edge gap : Bool) → Apart loose shut bars edge gap t → Apart loose shut bars edge gap (replace_from 0 old (n ∷ new) t)

  abbrev PastOld : Bytes → Type 0
  PastOld t = (k : ℕ) (edge gap : Bool) → Apart loose shut bars edge gap t → Apart loose shut bars false false (replace_from k old (n ∷ new) t)

  plain-replaced : (t : Bytes) → Replaced t × PastOld t
  unfolding Apart replace_from all_of
  plain-replaced [] = (λ edge gap h. h, λ k edge gap h. refl)
  plain-replaced (x ∷ t) = (λ edge gap h. go edge gap h (starts old (x ∷ t)) (plain-replaced t), λ k edge gap h. past k edge gap h (plain-replaced t))
    where
      go : (edge gap : Bool) → Apart loose shut bars edge gap (x ∷ t) → (b : Bool) → Replaced t × PastOld t
          → Apart loose shut bars edge gap (cond b (n ∷ (new ++ replace_from (length old - 1) old (n ∷ new) t)) (x ∷ replace_from 0 old (n ∷ new) t))
      go edge gap h true i =
          let r = replace_from (length old - 1) old (n ∷ new) t in
          plain-next loose shut bars edge gap n (new ++ r) (and_left (plain shut bars n) (all_of (plain shut bars) new) p)
          (plain-front loose shut bars new r (and_right (plain shut bars n) (all_of (plain shut bars) new) p) (i.1 (length old - 1) (among shut x) (white x) h.1))
      go edge gap h false i = (h.0, i.0 (among shut x) (white x) h.1)

      past : (k : ℕ) (edge gap : Bool) → Apart loose shut bars edge gap (x ∷ t) → Replaced t × PastOld t → Apart loose shut bars false false (replace_from k old (n ∷ new) (x ∷ t))
      past zero edge gap h i = anywhere loose shut bars edge gap (replace_from 0 old (n ∷ new) (x ∷ t)) (go edge gap h (starts old (x ∷ t)) i)
      past (suc k) edge gap h i = i.1 k (among shut x) (white x) h.1

  pub replaced-plainly : (edge gap : Bool) (t : Bytes) → Apart loose shut bars edge gap t → Apart loose shut bars edge gap (replace old (n ∷ new) t)
  unfolding replace
  replaced-plainly edge gap t h = (plain-replaced t).0 edge gap h

-- ---- a list of replacements

-- `<`, `>` and `|`
abbrev pub separators : List ℕ
separators = 60 ∷ 62 ∷ 124 ∷ []

-- a replacement by some plain bytes
plainly : List ℕ → List ℕ → Replacement → Bool
plainly shut bars r = non_empty r.new && all_of (plain shut bars) r.new

plain-run : (shut bars : List ℕ) (rs : List Replacement) (t : Bytes) → all_of (plainly shut bars) rs ≡ true
    → Apart false shut bars true false t → Apart false shut bars true false (run rs t)
unfolding run all_of non_empty plainly
plain-run shut bars [] t p h = h
plain-run shut bars (r ∷ rs) t p h =
    plain-run shut bars rs (replace r.old r.new t) (and_right (plainly shut bars r) (all_of (plainly shut bars) rs) p)
    (go r.new (and_left (plainly shut bars r) (all_of (plainly shut bars) rs) p))
  where
    go : (new : Bytes) → non_empty new && all_of (plain shut bars) new ≡ true → Apart false shut bars true false (replace r.old new t)
    go [] q = absurd (false≢true q)
    go (n ∷ new) q = replaced-plainly false shut bars r.old n new q true false t h

-- Behind the first squeeze words are one space apart; behind the first twelve replacements no space stands beside a separator.
pub twelve : (t : Bytes) → Apart false [] [] true false t → Apart false separators separators true false (run (take 12 replacements) t)
unfolding run replacements becomes subscript_becomes ascii all_of non_empty any_of plainly plain white
twelve t h =
    let at : ℕ → Bytes = λ n. run (take n replacements) t in
    let three = plain-run [] [] (take 3 replacements) t refl h in
    let bar = freed-behind false [] [] 124 refl (at 3) three in
    let more = freed-behind false (124 ∷ []) [] 62 refl (at 4) bar in
    let less = freed-behind false (62 ∷ 124 ∷ []) [] 60 refl (at 5) more in
    let others = plain-run separators [] (take 3 (drop 6 replacements)) (at 6) refl less in
    let bar' = freed-before false separators [] 124 refl (at 9) others in
    let more' = freed-before false separators (124 ∷ []) 62 refl (at 10) bar' in
    freed-before false separators (62 ∷ 124 ∷ []) 60 refl (at 11) more'

-- so it stays with those behind `>` and `<`
pub rest-apart : (t : Bytes) → Apart false separators separators true false t → Apart false separators separators true false (run (drop 14 replacements) t)
unfolding replacements becomes subscript_becomes ascii all_of non_empty any_of plainly plain white
rest-apart t h = plain-run separators separators (drop 14 replacements) t refl h
