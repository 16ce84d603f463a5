-- The exchanged words of a step, one by one: the search for `proj=`, the head, and the walk.
use Rattle.std.proofs.Common.{◌≡◌, refl, subst, sym, ap, ◌∙◌, Bool, true, false, cond, ◌&&◌, ◌||◌, [], ◌∷◌, ◌≤◌, length, drop, Option, None, Some, MatchOption, is_some, Bor}
use Rattle.std.proofs.lemmas.Bool.{false≢true}
use mathlib.Core.Bool.{or-false, or-true}
use Rattle.rules.specs.Text.Ascii.{ascii}
use Rattle.rules.specs.Text.Lists.{any_of}
use Rattle.rules.specs.Text.Bytes.{Bytes, Words, same, starts}
use Rattle.rules.specs.Proj.Words.{is_proj, first_proj, in_its_place, exchanged}
use Rattle.rules.specs.Proj.Translate.{init_first, is_pipeline}
use Rattle.laws_proj.specs.Tests.{starts_other, starts-long}
use Rattle.proj_words.specs.Words.{left}
use Rattle.proj_words.specs.Heads.{FoundProj, IsProj, IsFirst, in_front, in_place, IsMoved, coming}
use Rattle.proj_words.specs.declared.exchange.First.{First}
use Rattle.proj_words.specs.declared.exchange.Exchanged.{Exchanged}
use Rattle.std.specs.Iterator.{YieldsFirstRef}

-- ---- keys

proj-no-init : (w : Bytes) → is_proj w ≡ true → starts (ascii "init=") w ≡ false
unfolding is_proj ascii
proj-no-init w e = starts_other 112 105 _ _ w e refl

proj-long : (w : Bytes) → is_proj w ≡ true → 5 ≤ length w
unfolding is_proj ascii
proj-long w e = starts-long (ascii "proj=") w e

-- ---- the first `proj=`

-- of the words, `rest` are left: none before them is a `proj=`, and whether `init=` is among those
pub record Seeking (ws rest : Words) (init : Bool) : Type 0 where
  pub inits : init_first ws ≡ (init || init_first rest)
  pub some : any_of is_proj ws ≡ any_of is_proj rest
  pub first : first_proj ws ≡ first_proj rest

pub seeking-start : (ws : Words) → Seeking ws ws false
seeking-start ws = record { inits = refl; some = refl; first = refl }

module _ {ws rest : Words} {init : Bool} (m : Seeking ws rest init) where
  pub seek-none : rest ≡ [] → IsFirst ws (record { init = init; proj = None })
  unfolding any_of init_first FoundProj
  seek-none e = record { init = sym (m.inits ∙ rw e (or-false init)); proj = m.some ∙ rw e refl }

  module _ (w : Bor Bytes) {more : Words} (e : rest ≡ w.now ∷ more) where
    pub seek_found : is_proj w.now ≡ true → IsFirst ws (record { init = init; proj = Some w })
    unfolding any_of first_proj init_first FoundProj
    seek_found f = record {
      init = sym (m.inits ∙ rw (e, proj-no-init w.now f, f) (or-false init));
      proj = record { is = f; some = m.some ∙ rw (e, f); first = m.first ∙ rw (e, f) };
    }

    pub seek-init : is_proj w.now ≡ false → starts (ascii "init=") w.now ≡ true → Seeking ws more true
    unfolding any_of first_proj init_first
    seek-init f g = record { inits = m.inits ∙ rw (e, g) (or-true init); some = m.some ∙ rw (e, f); first = m.first ∙ rw (e, f) }

    pub seek-on : is_proj w.now ≡ false → starts (ascii "init=") w.now ≡ false → Seeking ws more init
    unfolding any_of first_proj init_first
    seek-on f g = record { inits = m.inits ∙ rw (e, g, f); some = m.some ∙ rw (e, f); first = m.first ∙ rw (e, f) }

-- ---- the head

-- the first word, and those behind it
abbrev Opened : Words → Option (Bor Bytes) → Words → Type 0
Opened ws r rest = MatchOption r ((ws ≡ []) × (rest ≡ [])) (λ x. ws ≡ x.now ∷ rest)

-- where there is no `proj=`
first-none : (ws : Words) → any_of is_proj ws ≡ false → first_proj ws ≡ []
unfolding first_proj any_of
first-none [] h = refl
first-none (w ∷ ws) h = go (is_proj w) refl h (first-none ws)
  where
    go : (b : Bool) → is_proj w ≡ b → (b || any_of is_proj ws) ≡ false → (any_of is_proj ws ≡ false → first_proj ws ≡ []) → cond b w (first_proj ws) ≡ []
    go true g i k = absurd (false≢true (sym i))
    go false g i k = k i

stays : (w : Bytes) (ws : Words) → any_of is_proj (w ∷ ws) ≡ false → w ∷ ws ≡ exchanged (w ∷ ws)
unfolding exchanged any_of
stays w ws h = go (is_proj w) refl h
  where
    go : (b : Bool) → is_proj w ≡ b → (b || any_of is_proj ws) ≡ false
        → w ∷ ws ≡ cond b (drop 5 w ∷ ws) (cond (any_of is_proj ws) (drop 5 (first_proj ws) ∷ in_its_place w ws) (w ∷ ws))
    go true g i = absurd (false≢true (sym i))
    go false g i = sym (rw i)

-- where there is one
changes : (x : Bor Bytes) (q : Option (Bor Bytes)) (ws : Words) (p : Bytes) → IsProj (x.now ∷ ws) p → IsMoved (Some x) q → drop 5 p ∷ in_place q ws ≡ exchanged (x.now ∷ ws)
unfolding exchanged any_of first_proj IsMoved
changes x q ws p m i = go (is_proj x.now) refl m.some m.first i
  where
    go : (b : Bool) → is_proj x.now ≡ b → (b || any_of is_proj ws) ≡ true → cond b x.now (first_proj ws) ≡ p → q ≡ cond b None (Some x)
        → drop 5 p ∷ in_place q ws ≡ cond b (drop 5 x.now ∷ ws) (cond (any_of is_proj ws) (drop 5 (first_proj ws) ∷ in_its_place x.now ws) (x.now ∷ ws))
    go true g h e j = rw (j, ← e)
    go false g h e j = rw (j, ← e, h)

module _ {ws : Words} {f : First} (m : IsFirst ws f) where
  module _ (e : f.proj ≡ None) where
    none-found : any_of is_proj ws ≡ false
    none-found = subst (FoundProj ws) e m.proj

    pub pipeline-none : false ≡ is_pipeline ws
    unfolding is_pipeline same ascii
    pipeline-none = sym (rw (first-none ws none-found))

    pub head-without : (r : Option (Bor Bytes)) (rest : Words) → Opened ws r rest → in_front r rest ≡ exchanged ws
    unfolding exchanged
    head-without None rest o = rw (o.0, o.1)
    head-without (Some x) rest o = sym o ∙ rw o (stays x.now rest (rw o at none-found))

  module _ {w : Bor Bytes} (e : f.proj ≡ Some w) where
    found : IsProj ws w.now
    found = subst (FoundProj ws) e m.proj

    pub proj-room : 5 ≤ length w.now
    proj-room = proj-long w.now found.is

    pub pipeline-some : {b : Bool} → b ≡ same w.now (ascii "proj=pipeline") → b ≡ is_pipeline ws
    unfolding is_pipeline
    pipeline-some h = h ∙ ap (λ (t : Bytes). same t (ascii "proj=pipeline")) (sym found.first)

    pub head-with : (r q : Option (Bor Bytes)) (rest : Words) → Opened ws r rest → IsMoved r q → drop 5 w.now ∷ in_place q rest ≡ exchanged ws
    unfolding any_of
    head-with None q rest o i = absurd (false≢true (rw o.0 at found.some))
    head-with (Some x) q rest o i = rw o (changes x q rest w.now (rw o at found) i)

-- ---- the walk

module _ (e n : Exchanged) (z : n.front ≡ None) where
  -- what stands in front
  pub coming-front : {w : Bor Bytes} → Some w ≡ e.front → n.moved ≡ e.moved → n.words ≡ e.words → coming e ≡ w.now ∷ coming n
  unfolding coming
  coming-front f g h = rw (← f, z, g, h)

  module _ (f : e.front ≡ None) where
    -- nothing
    pub coming-none : n.moved ≡ e.moved → (left e.words ≡ []) × (left n.words ≡ []) → (coming e ≡ []) × (coming n ≡ [])
    unfolding coming
    coming-none g h = (rw (f, h.0) (empty e.moved), rw (z, g, h.1) (empty e.moved))
      where
        empty : (o : Option (Bor Bytes)) → in_place o [] ≡ []
        empty (Some v) = unfold in_its_place in refl
        empty None = refl

    module _ {w : Bytes} (h : left e.words ≡ w ∷ left n.words) where
      -- the first word in the place of `proj=`
      pub coming-place : is_some e.moved ≡ true → is_proj w ≡ true → n.moved ≡ None → YieldsFirstRef coming e e.moved n
      unfolding coming
      coming-place s p g = rw (f, z, g, h) (given e.moved s)
        where
          given : (o : Option (Bor Bytes)) → is_some o ≡ true → MatchOption o ((in_place o (w ∷ left n.words) ≡ []) × (left n.words ≡ [])) (λ x. in_place o (w ∷ left n.words) ≡ x.now ∷ left n.words)
          given (Some v) t = unfold in_its_place in rw p
          given None t = absurd (false≢true t)

      -- a word as it is
      pub coming-word : (is_some e.moved && is_proj w) ≡ false → n.moved ≡ e.moved → coming e ≡ w ∷ coming n
      unfolding coming
      coming-word p g = rw (f, z, g, h) (kept e.moved p)
        where
          kept : (o : Option (Bor Bytes)) → (is_some o && is_proj w) ≡ false → in_place o (w ∷ left n.words) ≡ w ∷ in_place o (left n.words)
          kept (Some v) t = unfold in_its_place in rw t
          kept None t = refl

-- the first word changes places, or not
module _ {o : Option (Bor Bytes)} {w : Bor Bytes} (e : o ≡ Some w) where
  pub moved-front : is_proj w.now ≡ true → IsMoved o None
  unfolding IsMoved
  moved-front h = rw (e, h)

  pub moved-first : is_proj w.now ≡ false → IsMoved o (Some w)
  unfolding IsMoved
  moved-first h = rw (e, h)

pub moved-none : {o r : Option (Bor Bytes)} → o ≡ None → r ≡ None → IsMoved o r
unfolding IsMoved
moved-none e f = rw (e, f)
