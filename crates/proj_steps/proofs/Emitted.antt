-- The loop over a step's words that writes the step of the answer: what is written, and what the words that are left still give, are what all
-- words give.
use Rattle.std.proofs.Common.{◌≡◌, refl, sym, ap, ◌∙◌, subst, Bool, true, false, cond, not, ◌&&◌, ◌||◌, [], ◌∷◌, ◌++◌, length, drop, append-nil, append_assoc, Option, None, Some, is_some, Bor}
use Rattle.std.proofs.lemmas.Bool.{false≢true}
use Rattle.rules.specs.Text.Ascii.{ascii}
use Rattle.rules.specs.Text.Lists.{any_of, all_of, non_empty}
use Rattle.rules.specs.Text.Bytes.{Bytes, Words, starts}
use Rattle.rules.specs.Proj.Words.{is_proj, first_proj, in_its_place, exchanged, has_key, composed, ellipsoid, scale, without_last, tidied}
use Rattle.rules.specs.Proj.Translate.{is_inv, at_position1, with_globals}
use Rattle.proj_steps.specs.Adds.{Room, Adds}
use Rattle.proj_steps.proofs.Added.{adds-nothing, adds-length, first-room, then-room, adds-both, room_as, adds-as, adds-by}
use Rattle.laws_proj.specs.Tidying.{ellps_of, rest_end, rest-nothing}
use Rattle.laws_proj.specs.Flowing.{emitted, flow, more, flow-append, more-append}
use Rattle.proj_steps.specs.Pens.{RoomFor, RoomForAll, Pens, PensAll, inserted, text_of, closing}
use Rattle.proj_steps.specs.Plans.{FoundEllipsoid, last_words, ahead_of, kept, rest_of, IsPassed, globalled}
use Rattle.proj_steps.specs.Pipelines.{pipeline_of}
use Rattle.proj_steps.specs.declared.pen.Pen.{Pen}
use Rattle.proj_steps.specs.declared.element.Element.{Element}
use Rattle.proj_steps.specs.declared.element.Ellipsoid.{Ellipsoid}
use Rattle.proj_steps.specs.declared.step.Ahead.{Ahead}
use Rattle.proj_steps.proofs.Plans.{tidied-rest}

-- ---- elements that are left

-- of all elements, xs are left, and what was written before them stands there
pub record Going (all_of xs : Words) (pen₀ pen : Pen) (dst₀ dst : Bytes) : Type 0 where
  pub done : Bytes
  pub adds : Adds pen₀.write done dst₀ pen₀.at pen.at dst
  pub write : pen.write ≡ pen₀.write
  pub right : done ++ more pen.begun (flow pen.owed xs) ≡ more pen₀.begun (flow pen₀.owed all_of)
  pub room : RoomForAll all_of pen₀ dst₀

pub going_start : {xs : Words} {pen : Pen} {dst : Bytes} → RoomForAll xs pen dst → Going xs xs pen pen dst dst
going_start {xs} {pen} {dst} h = record { done = []; adds = adds-nothing dst pen.at pen.write; write = refl; right = refl; room = h }

-- the same elements, in other words
pub going-as : {al xs ys : Words} {pen₀ pen : Pen} {dst₀ dst : Bytes} → xs ≡ ys → Going al xs pen₀ pen dst₀ dst → Going al ys pen₀ pen dst₀ dst
going-as {al} {xs} {ys} {pen₀} {pen} {dst₀} {dst} e g = subst (λ (us : Words). Going al us pen₀ pen dst₀ dst) e g

module _ {al xs : Words} {pen₀ pen : Pen} {dst₀ dst : Bytes} (g : Going al xs pen₀ pen dst₀ dst) where
  going-room : Room pen₀.write (g.done ++ more pen.begun (flow pen.owed xs)) pen₀.at dst₀
  going-room = room_as (sym g.right) g.room.fits.room

  pub going-left : RoomForAll xs pen dst
  going-left = record { fits = record { room = rw g.write (then-room g.done (more pen.begun (flow pen.owed xs)) going-room g.adds) } }

  pub going_end : {r : Pen} {dst' : Bytes} → PensAll xs pen dst r dst' → PensAll al pen₀ dst₀ r dst'
  going_end m = record { adds = adds-as g.right (adds-both g.done (more pen.begun (flow pen.owed xs)) going-room g.adds (adds-by g.write m.adds)) }

-- what elements add behind a pen, and what others add behind them
abbrev written : Pen → Words → Bytes
written pen xs = more pen.begun (emitted pen.owed xs)

abbrev behind : Pen → Words → Words → Bytes
behind pen xs ys = more (pen.begun || any_of non_empty (emitted pen.owed xs)) (flow (pen.owed && all_of is_inv xs) ys)

module _ {al : Words} (xs ys : Words) {pen₀ pen : Pen} {dst₀ dst : Bytes} (g : Going al (xs ++ ys) pen₀ pen dst₀ dst) where
  apart : more pen.begun (flow pen.owed (xs ++ ys)) ≡ written pen xs ++ behind pen xs ys
  apart = ap (more pen.begun) (flow-append pen.owed xs ys) ∙ more-append pen.begun (emitted pen.owed xs) (flow (pen.owed && all_of is_inv xs) ys)

  left-room : Room pen.write (written pen xs ++ behind pen xs ys) pen.at dst
  left-room = room_as apart (going-left g).fits.room

  pub going-first : RoomFor xs pen dst
  going-first = record { fits = record { room = first-room (written pen xs) (behind pen xs ys) left-room } }

  pub going-part : {r : Pen} {dst' : Bytes} → Pens xs pen dst r dst' → Going al ys pen₀ r dst₀ dst'
  going-part {r} {dst'} m =
      let e : more r.begun (flow r.owed ys) ≡ behind pen xs ys = rw (m.emits.begun, m.emits.owes) in
      let w : Room pen₀.write (g.done ++ (written pen xs ++ more r.begun (flow r.owed ys))) pen₀.at dst₀ = rw (e, ← apart) (going-room g) in
      let v : Room pen₀.write ((g.done ++ written pen xs) ++ more r.begun (flow r.owed ys)) pen₀.at dst₀ = room_as
      (sym (append_assoc g.done (written pen xs) (more r.begun (flow r.owed ys)))) w in
      record {
        done = g.done ++ written pen xs;
        write = m.emits.write ∙ g.write;
        adds =
            adds-both g.done (written pen xs)
            (first-room (g.done ++ written pen xs) (more r.begun (flow r.owed ys)) v) g.adds (adds-by g.write m.emits.adds);
        right = append_assoc g.done (written pen xs) (more r.begun (flow r.owed ys))
            ∙ ap (λ (t : Bytes). g.done ++ (written pen xs ++ t)) e ∙ ap (λ (t : Bytes). g.done ++ t) (sym apart) ∙ g.right;
        room = g.room;
      }

-- ---- the loop

-- an element, and the globals if they are still to go in
globals-first : (gs : Option (Bor Bytes)) (t : Bytes) (ts : Words) → globalled gs (t ∷ ts) ≡ (t ∷ inserted gs) ++ ts
unfolding with_globals at_position1
globals-first (Some g) t ts = go (non_empty g.now)
  where
    go : (b : Bool) → cond b (t ∷ g.now ∷ ts) (t ∷ ts) ≡ (t ∷ cond b (g.now ∷ []) []) ++ ts
    go true = refl
    go false = refl
globals-first None t ts = refl

last-is : (h : Ahead) (e : Option Ellipsoid) (gs : Option (Bor Bytes)) → (is_some gs ≡ true → non_empty (rest_of h (last_words e) []) ≡ true)
    → globalled gs (rest_of h (last_words e) []) ≡ closing e gs
last-is h (Some e) gs f =
    ap (globalled gs) (rest_end h.a h.rf h.scale e.a.value.now e.rf.value.now) ∙ globals-first gs (ellps_of e.a.value.now e.rf.value.now) []
    ∙ append-nil (ellps_of e.a.value.now e.rf.value.now ∷ inserted gs)
last-is h None (Some g) f = absurd (false≢true (sym (ap non_empty (rest-nothing h.a h.rf h.scale) ∙ unfold non_empty in refl) ∙ f refl))
last-is h None None f = rest-nothing h.a h.rf h.scale

-- a step has words, and so has what is made of them
scale-some : (ws : Words) → non_empty ws ≡ true → non_empty (scale ws) ≡ true
unfolding non_empty scale
scale-some [] e = absurd (false≢true e)
scale-some (w ∷ ws) e = go (starts (ascii "k=") w)
  where
    go : (b : Bool) → non_empty (cond b ((ascii "k_0=" ++ drop 2 w) ∷ ws) (w ∷ scale ws)) ≡ true
    go true = refl
    go false = refl

append-some : (ws us : Words) → non_empty us ≡ true → non_empty (ws ++ us) ≡ true
unfolding non_empty
append-some [] us e = e
append-some (w ∷ ws) us e = refl

ellipsoid-some : (ws : Words) → non_empty ws ≡ true → non_empty (ellipsoid ws) ≡ true
unfolding ellipsoid composed
ellipsoid-some ws e = go (not (has_key (ascii "ellps=") ws) && (has_key (ascii "a=") ws && has_key (ascii "rf=") ws))
  where
    go : (b : Bool) → non_empty (cond b (composed ws) ws) ≡ true
    go true = append-some (without_last (ascii "rf=") (without_last (ascii "a=") ws)) _ (unfold non_empty in refl)
    go false = e

exchanged-some : (ws : Words) → non_empty ws ≡ true → non_empty (exchanged ws) ≡ true
unfolding non_empty exchanged
exchanged-some [] e = absurd (false≢true e)
exchanged-some (w ∷ ws) e = go (is_proj w) (any_of is_proj ws)
  where
    go : (b d : Bool) → non_empty (cond b (drop 5 w ∷ ws) (cond d (drop 5 (first_proj ws) ∷ in_its_place w ws) (w ∷ ws))) ≡ true
    go true d = refl
    go false true = refl
    go false false = refl

tidied-some : (ws : Words) → non_empty ws ≡ true → non_empty (tidied ws) ≡ true
unfolding tidied
tidied-some ws e = scale-some (ellipsoid (exchanged ws)) (ellipsoid-some (exchanged ws) (exchanged-some ws e))

-- all elements of the answer are those that are written, and those that the words that are left still give
pub record Telling (all : Words) (e : Option Ellipsoid) (gs : Option (Bor Bytes)) (pen₀ : Pen) (dst₀ : Bytes) (pen : Pen) (h : Ahead) (rest : Words) (dst : Bytes) : Type 0 where
  pub some : is_some gs ≡ true → non_empty (rest_of h (last_words e) rest) ≡ true
  pub going : Going all (globalled gs (rest_of h (last_words e) rest)) pen₀ pen dst₀ dst

pub telling-start : (ws : Words) {us : Words} {e : Option Ellipsoid} {g : Bor Bytes} {pen : Pen} {dst : Bytes} → us ≡ exchanged ws → FoundEllipsoid us e → non_empty ws ≡ true
    → {h : Ahead} → h ≡ ahead_of e → RoomForAll (with_globals (pipeline_of g.now true) (tidied ws)) pen dst
    → Telling (with_globals (pipeline_of g.now true) (tidied ws)) e (Some g) pen dst pen h us dst
telling-start ws {us} {e} {g} {pen} {dst} u f n {h} k r =
    let t : tidied ws ≡ rest_of h (last_words e) us = rw (k, u) (tidied-rest ws e (rw u at f)) in
    record {
      some = λ _. ap non_empty (sym t) ∙ tidied-some ws n;
      going = going-as (ap (with_globals (pipeline_of g.now true)) t) (going_start r);
    }

module _ {all : Words} {e : Option Ellipsoid} {gs : Option (Bor Bytes)} {pen₀ : Pen} {dst₀ : Bytes} {pen : Pen} {h : Ahead} {rest : Words} {dst : Bytes}
    (i : Telling all e gs pen₀ dst₀ pen h rest dst) where
  module _ {w : Bytes} {more : Words} (z : rest ≡ w ∷ more) {r : Option Element} {n : Ahead} (p : IsPassed w h r n) where
    passing : rest_of h (last_words e) rest ≡ kept r ++ rest_of n (last_words e) more
    passing = ap (rest_of h (last_words e)) z ∙ p.rest (last_words e) more

    -- a word that is left out
    pub telling-skip : r ≡ None → Telling all e gs pen₀ dst₀ pen n more dst
    telling-skip k =
        let t : rest_of h (last_words e) rest ≡ rest_of n (last_words e) more = passing ∙ rw k refl in
        record { some = λ x. ap non_empty (sym t) ∙ i.some x; going = going-as (ap (globalled gs) t) i.going }

    -- an element
    module _ {x : Element} (k : r ≡ Some x) where
      word-going : Going all ((text_of x ∷ inserted gs) ++ rest_of n (last_words e) more) pen₀ pen dst₀ dst
      word-going =
          let t : rest_of h (last_words e) rest ≡ text_of x ∷ rest_of n (last_words e) more = passing ∙ rw k refl in
          going-as (ap (globalled gs) t ∙ globals-first gs (text_of x) (rest_of n (last_words e) more)) i.going

      pub telling-room : RoomFor (text_of x ∷ inserted gs) pen dst
      telling-room = going-first (text_of x ∷ inserted gs) (rest_of n (last_words e) more) word-going

      pub telling-own : {q : Pen} {dst' : Bytes} → Pens (text_of x ∷ inserted gs) pen dst q dst' → Telling all e None pen₀ dst₀ q n more dst'
      telling-own m = record { some = λ y. absurd (false≢true y); going = going-part (text_of x ∷ inserted gs) (rest_of n (last_words e) more) word-going m }

  -- no word is left
  module _ (z : rest ≡ []) where
    none-left : globalled gs (rest_of h (last_words e) rest) ≡ closing e gs
    none-left = ap (λ (ws : Words). globalled gs (rest_of h (last_words e) ws)) z ∙ last-is h e gs (λ x. ap (λ (ws : Words). non_empty (rest_of h (last_words e) ws)) (sym z) ∙ i.some x)

    pub telling-last : RoomForAll (closing e gs) pen dst
    telling-last = going-left (going-as none-left i.going)

    pub telling-end : {r : Pen} {dst' : Bytes} → PensAll (closing e gs) pen dst r dst' → PensAll all pen₀ dst₀ r dst'
    telling-end m = going_end (going-as none-left i.going) m

  pub telling-kept : length dst ≡ length dst₀
  telling-kept = adds-length (first-room i.going.done (more pen.begun (flow pen.owed (globalled gs (rest_of h (last_words e) rest)))) (going-room i.going)) i.going.adds
