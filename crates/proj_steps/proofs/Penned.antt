-- What the pen has added: the laws of `Emits`, and those for its functions.
use mathlib.Core.Path.{◌≡◌, refl, sym, ap, ◌∙◌, subst}
use mathlib.Core.Bool.{Bool, true, false, cond, ◌&&◌, ◌||◌, and_assoc, and-false, and-true, or_assoc, or-false, or-true}
use mathlib.Core.List.{[], ◌∷◌, ◌++◌, append-nil}
use Prim.Native.Nat.{suc}
use native.Mathlib.Omega.{arith}
use lib.ListN.{length}
use Rattle.rules.specs.Text.Ascii.{ascii}
use Rattle.rules.specs.Text.Lists.{any_of, all_of, non_empty}
use Rattle.rules.specs.Text.Bytes.{Bytes, Words, same}
use Rattle.rules.specs.Proj.Translate.{is_inv, exchanged_mark}
use Rattle.proj_steps.specs.Adds.{Room, Adds, gapped}
use Rattle.proj_steps.proofs.Added.{adds-nothing, first-room, then-room, adds-both, room_as, adds-as, adds-by}
use Rattle.laws_proj.specs.Tests.{any_append, all_append, empty-is}
use Rattle.laws_proj.specs.Tidying.{ellps_of}
use Rattle.laws_proj.specs.Flowing.{forth, emitted, flow, more, flow-append, emitted-append, flow-end, more-none, more-empty, more-word, more-append}
use Rattle.proj_steps.specs.Pens.{Added, Worded, Fits, RoomFor, RoomForAll, Emits, Pens, PensAll, owing, inserted}
use Rattle.proj_steps.specs.declared.pen.Pen.{Pen}
use Rattle.std.proofs.Common.{Option, Some, None, Bor, eqb}
use borrow.Author.Tests.{eqb-true, ne_eqb}
use Rattle.std.proofs.lemmas.Bool.{false≢true}

-- ---- texts

module _ (t u : Bytes) {pen : Pen} {dst₀ : Bytes} (h : Room pen.write (t ++ u) pen.at dst₀) {r : Pen} {dst : Bytes} (a : Added t pen dst₀ r dst) where
  pub added-then : Room r.write u r.at dst
  added-then = rw a.write (then-room t u h a.adds)

  pub added-both : {r' : Pen} {dst' : Bytes} → Added u r dst r' dst' → Added (t ++ u) pen dst₀ r' dst'
  added-both k = record {
    adds = adds-both t u h a.adds (adds-by a.write k.adds);
    write = k.write ∙ a.write;
    begun = k.begun ∙ a.begun;
    owed = k.owed ∙ a.owed;
  }

-- the space in front of a word
gap_is : (begun : Bool) (w : Bytes) → gapped begun w ≡ cond begun (32 ∷ []) [] ++ w
unfolding gapped
gap_is true w = refl
gap_is false w = refl

pub gap-yes : {begun : Bool} → begun ≡ true → ◌≡◌ {A = Bytes} (cond begun (32 ∷ []) []) (32 ∷ [])
gap-yes e = rw e

pub gap-room : (pen : Pen) {dst : Bytes} → pen.begun ≡ true → Room pen.write (cond pen.begun (32 ∷ []) []) pen.at dst → Room pen.write (32 ∷ []) pen.at dst
gap-room pen e h = room_as (gap-yes e) h

pub gap-done : {pen r : Pen} {dst₀ dst : Bytes} → pen.begun ≡ true → Added (32 ∷ []) pen dst₀ r dst → Added (cond pen.begun (32 ∷ []) []) pen dst₀ r dst
gap-done {pen} {r} {dst₀} {dst} e a = subst (λ (t : Bytes). Added t pen dst₀ r dst) (sym (gap-yes e)) a

pub gap-none : {pen : Pen} {dst : Bytes} → pen.begun ≡ false → Added (cond pen.begun (32 ∷ []) []) pen dst pen dst
gap-none {pen} {dst} e = record { adds = adds-as (sym (rw e)) (adds-nothing dst pen.at pen.write); write = refl; begun = refl; owed = refl }

-- a word in two pieces
module _ (f x : Bytes) (pen : Pen) {dst₀ : Bytes} (h : Room pen.write (gapped pen.begun (f ++ x)) pen.at dst₀) where
  all-room : Room pen.write (cond pen.begun (32 ∷ []) [] ++ (f ++ x)) pen.at dst₀
  all-room = room_as (gap_is pen.begun (f ++ x)) h

  pub word-gap : Room pen.write (cond pen.begun (32 ∷ []) []) pen.at dst₀
  word-gap = first-room (cond pen.begun (32 ∷ []) []) (f ++ x) all-room

  module _ {p : Pen} {dst₁ : Bytes} (a : Added (cond pen.begun (32 ∷ []) []) pen dst₀ p dst₁) where
    pieces-room : Room p.write (f ++ x) p.at dst₁
    pieces-room = added-then (cond pen.begun (32 ∷ []) []) (f ++ x) all-room a

    pub word-front : Room p.write f p.at dst₁
    word-front = first-room f x pieces-room

    module _ {q : Pen} {dst₂ : Bytes} (b : Added f p dst₁ q dst₂) where
      pub word-back : Room q.write x q.at dst₂
      word-back = added-then f x pieces-room b

      pub word-done : {r : Pen} {dst : Bytes} → Added x q dst₂ r dst → Worded (f ++ x) pen dst₀ (record r { begun = true }) dst
      word-done c =
          let all = added-both (cond pen.begun (32 ∷ []) []) (f ++ x) all-room a (added-both f x pieces-room b c) in
          record { adds = adds-as (sym (gap_is pen.begun (f ++ x))) all.adds; write = all.write; begun = refl; owed = all.owed }

-- ---- words

-- one word
one_word : (begun : Bool) (d : Bytes) → non_empty d ≡ true → more begun (d ∷ []) ≡ gapped begun d
unfolding gapped
one_word begun d e = more-word begun d [] e ∙ ap (λ (t : Bytes). cond begun (32 ∷ d) d ++ t) (more-none true) ∙ append-nil (cond begun (32 ∷ d) d)

module _ {pen : Pen} {dst : Bytes} where
  pub emits_none : {owed : Bool} → pen.owed ≡ owed → Emits [] pen owed dst pen dst
  unfolding any_of
  emits_none e = record { adds = adds-as (sym (more-none pen.begun)) (adds-nothing dst pen.at pen.write); write = refl; begun = sym (or-false pen.begun); owes = e }

  emits-empty : Emits ([] ∷ []) pen pen.owed dst pen dst
  unfolding any_of non_empty
  emits-empty = record { adds = adds-as (sym (more-empty pen.begun [] ∙ more-none pen.begun)) (adds-nothing dst pen.at pen.write); write = refl; begun = sym (or-false pen.begun); owes = refl }

module _ (d : Bytes) {pen : Pen} (n : non_empty d ≡ true) where
  -- a word is added, and then it is told what is owed
  emits-word : (owed : Bool) {dst₀ dst : Bytes} {r : Pen} → Worded d pen dst₀ r dst → Emits (d ∷ []) pen owed dst₀ (record r { owed = owed }) dst
  unfolding any_of
  emits-word owed w = record { adds = adds-as (sym (one_word pen.begun d n)) w.adds; write = w.write; begun = w.begun ∙ sym (rw n (or-true pen.begun)); owes = refl }

  word_room : {dst : Bytes} → Fits (d ∷ []) pen dst → Room pen.write (gapped pen.begun d) pen.at dst
  word_room h = room_as (one_word pen.begun d n) h.room

-- in other words
fits-as : {ds es : Words} {pen : Pen} {dst : Bytes} → ds ≡ es → Fits ds pen dst → Fits es pen dst
fits-as {ds} {es} {pen} {dst} e h = subst (λ (x : Words). Fits x pen dst) e h

pub emits-as : {ds es : Words} {pen : Pen} {a b : Bool} {dst₀ dst : Bytes} {r : Pen} → ds ≡ es → a ≡ b
    → Emits ds pen a dst₀ r dst → Emits es pen b dst₀ r dst
emits-as {ds} {es} {pen} {a} {b} {dst₀} {dst} {r} e f m = subst (λ (x : Bool). Emits es pen x dst₀ r dst) f (subst (λ (x : Words). Emits x pen a dst₀ r dst) e m)

-- words after others
module _ (ds es : Words) {pen : Pen} {dst₀ : Bytes} (h : Fits (ds ++ es) pen dst₀) where
  both-room : Room pen.write (more pen.begun ds ++ more (pen.begun || any_of non_empty ds) es) pen.at dst₀
  both-room = room_as (more-append pen.begun ds es) h.room

  pub emits-first : Fits ds pen dst₀
  emits-first = record { room = first-room (more pen.begun ds) (more (pen.begun || any_of non_empty ds) es) both-room }

  module _ {owed : Bool} {r : Pen} {dst : Bytes} (m : Emits ds pen owed dst₀ r dst) where
    pub emits_then : Fits es r dst
    emits_then = record { room = rw (m.begun, m.write) (then-room (more pen.begun ds) (more (pen.begun || any_of non_empty ds) es) both-room m.adds) }

    pub emits-both : {owed' : Bool} {r' : Pen} {dst' : Bytes} → Emits es r owed' dst r' dst' → Emits (ds ++ es) pen owed' dst₀ r' dst'
    emits-both {owed'} {r'} {dst'} k =
        let a : Adds pen.write (more (pen.begun || any_of non_empty ds) es) dst r.at r'.at dst' = adds-by m.write (adds-as (ap (λ (b : Bool). more b es) m.begun) k.adds) in
        record {
          write = k.write ∙ m.write;
          adds = adds-as (sym (more-append pen.begun ds es)) (adds-both (more pen.begun ds) (more (pen.begun || any_of non_empty ds) es) both-room m.adds a);
          begun = k.begun ∙ rw (m.begun, any_append non_empty ds es) (or_assoc pen.begun (any_of non_empty ds) (any_of non_empty es));
          owes = k.owes;
        }

-- ---- an element that is not `inv`

-- is a text empty?
pub bare : (x : Bytes) → eqb (length x) 0 ≡ true → length x ≡ 0
bare x e = eqb-true (length x) 0 e

pub full : (x : Bytes) → eqb (length x) 0 ≡ false → non_empty x ≡ true
unfolding non_empty
full [] e = absurd (false≢true (sym e))
full (y ∷ x) e = refl

pub bare-none : (x : Bytes) → eqb (length x) 0 ≡ true → non_empty x ≡ false
unfolding non_empty
bare-none [] e = refl
bare-none (y ∷ x) e = absurd (false≢true (sym (ne_eqb (suc (length x)) 0 (λ z. omega arith)) ∙ e))

pub plain-empty : {pen : Pen} {dst : Bytes} (x : Bytes) → length x ≡ 0 → Emits (exchanged_mark x ∷ []) pen pen.owed dst pen dst
unfolding exchanged_mark same ascii
plain-empty {pen} {dst} x e = subst (λ (y : Bytes). Emits (exchanged_mark y ∷ []) pen pen.owed dst pen dst) (sym (empty-is x e)) emits-empty

-- what a mark is exchanged for
pub mark-fwd : (x : Bytes) → same x (ascii "omit_fwd") ≡ true → ascii "omit_inv" ≡ exchanged_mark x
unfolding exchanged_mark
mark-fwd x e = sym (rw e)

pub mark-inv : (x : Bytes) → same x (ascii "omit_fwd") ≡ false → same x (ascii "omit_inv") ≡ true → ascii "omit_fwd" ≡ exchanged_mark x
unfolding exchanged_mark
mark-inv x e f = sym (rw (e, f))

pub mark-other : (x : Bytes) → same x (ascii "omit_fwd") ≡ false → same x (ascii "omit_inv") ≡ false → x ≡ exchanged_mark x
unfolding exchanged_mark
mark-other x e f = sym (rw (e, f))

mark-some : (x : Bytes) → non_empty x ≡ true → non_empty (exchanged_mark x) ≡ true
unfolding exchanged_mark
mark-some x n = go (same x (ascii "omit_fwd")) (same x (ascii "omit_inv"))
  where
    go : (a b : Bool) → non_empty (cond a (ascii "omit_inv") (cond b (ascii "omit_fwd") x)) ≡ true
    go true b = unfold non_empty ascii in refl
    go false true = unfold non_empty ascii in refl
    go false false = n

module _ (x : Bytes) {m : Bytes} {pen : Pen} (n : non_empty x ≡ true) (e : m ≡ exchanged_mark x) where
  pub plain-room : {dst : Bytes} → Fits (exchanged_mark x ∷ []) pen dst → Room pen.write (gapped pen.begun ([] ++ m)) pen.at dst
  plain-room h = rw e (word_room (exchanged_mark x) (mark-some x n) h)

  pub plain_done : {dst₀ dst : Bytes} {r : Pen} → Worded ([] ++ m) pen dst₀ r dst → Emits (exchanged_mark x ∷ []) pen pen.owed dst₀ r dst
  plain_done {dst₀} {dst} {r} w = emits-owed (rw e at w)
    where
      emits-owed : Worded (exchanged_mark x) pen dst₀ r dst → Emits (exchanged_mark x ∷ []) pen pen.owed dst₀ r dst
      emits-owed v = let k = emits-word (exchanged_mark x) (mark-some x n) pen.owed v in record { adds = k.adds; write = k.write; begun = k.begun; owes = v.owed }

-- ---- the `inv` that is owed

owing-yes : (owed : Bool) → owed ≡ true → owing owed ≡ ascii "inv" ∷ []
unfolding owing
owing-yes owed e = rw e

owing-no : (owed : Bool) → owed ≡ false → owing owed ≡ []
unfolding owing
owing-no owed e = rw e

inv-some : non_empty (ascii "inv") ≡ true
unfolding non_empty ascii
inv-some = refl

module _ {pen : Pen} (e : pen.owed ≡ true) where
  pub settle-room : {dst : Bytes} → Fits (owing pen.owed) pen dst → Room pen.write (gapped pen.begun ([] ++ ascii "inv")) pen.at dst
  settle-room h = word_room (ascii "inv") inv-some (fits-as (owing-yes pen.owed e) h)

  pub settle-done : {dst₀ dst : Bytes} {r : Pen} → Worded ([] ++ ascii "inv") pen dst₀ r dst → Emits (owing pen.owed) pen false dst₀ (record r { owed = false }) dst
  settle-done w = emits-as (sym (owing-yes pen.owed e)) refl (emits-word (ascii "inv") inv-some false w)

pub settle-none : {pen : Pen} {dst : Bytes} → pen.owed ≡ false → Emits (owing pen.owed) pen false dst pen dst
settle-none {pen} e = emits-as (sym (owing-no pen.owed e)) refl (emits_none e)

-- ---- an element

pub element-inv : {x : Bytes} {pen : Pen} {dst : Bytes} → is_inv x ≡ true → Pens (x ∷ []) pen dst pen dst
unfolding emitted forth all_of
element-inv {x} {pen} {dst} e = record { emits = emits-as (sym (rw e)) (sym (rw e (and-true pen.owed))) (emits_none refl) }

one-is : (owed : Bool) (x : Bytes) → is_inv x ≡ false → emitted owed (x ∷ []) ≡ (exchanged_mark x ∷ []) ++ owing owed
unfolding emitted forth owing
one-is owed x n = rw n (append-nil (exchanged_mark x ∷ owing owed))

one-owes : (owed : Bool) (x : Bytes) → is_inv x ≡ false → false ≡ (owed && all_of is_inv (x ∷ []))
unfolding all_of
one-owes owed x n = sym (rw n (and-false owed))

module _ {x : Bytes} {pen : Pen} (n : is_inv x ≡ false) where
  module _ {dst₀ : Bytes} (h : RoomFor (x ∷ []) pen dst₀) where
    one-room : Fits ((exchanged_mark x ∷ []) ++ owing pen.owed) pen dst₀
    one-room = fits-as (one-is pen.owed x n) h.fits

    pub element-first : Fits (exchanged_mark x ∷ []) pen dst₀
    element-first = emits-first (exchanged_mark x ∷ []) (owing pen.owed) one-room

    module _ {r : Pen} {dst : Bytes} (m : Emits (exchanged_mark x ∷ []) pen pen.owed dst₀ r dst) where
      pub element-then : Fits (owing r.owed) r dst
      element-then = fits-as (ap owing (sym m.owes)) (emits_then (exchanged_mark x ∷ []) (owing pen.owed) one-room m)

      pub element-done : {r' : Pen} {dst' : Bytes} → Emits (owing r.owed) r false dst r' dst' → Pens (x ∷ []) pen dst₀ r' dst'
      element-done k =
          record
          { emits = emits-as (sym (one-is pen.owed x n)) (one-owes pen.owed x n) (emits-both (exchanged_mark x ∷ []) (owing pen.owed) one-room m (emits-as (ap owing m.owes) refl k)) }

-- ---- a word that is neither `inv` nor a mark

pub record Own (t : Bytes) : Type 0 where
  pub other : is_inv t ≡ false
  pub unmarked : exchanged_mark t ≡ t
  pub some : non_empty t ≡ true

pub scale-own : (x : Bytes) → Own (ascii "k_0=" ++ x)
unfolding is_inv exchanged_mark same ascii non_empty
scale-own x = record { other = refl; unmarked = refl; some = refl }

pub ellps-own : (a rf : Bytes) → Own (ellps_of a rf)
unfolding is_inv exchanged_mark same ascii non_empty ellps_of
ellps-own a rf = record { other = refl; unmarked = refl; some = refl }

module _ {t : Bytes} {pen : Pen} (w : Own t) {dst₀ : Bytes} (h : RoomFor (t ∷ []) pen dst₀) where
  pub own_room : Room pen.write (gapped pen.begun t) pen.at dst₀
  own_room = plain-room t w.some (sym w.unmarked) (element-first w.other h)

  module _ {r : Pen} {dst : Bytes} (a : Worded t pen dst₀ r dst) where
    own-emits : Emits (exchanged_mark t ∷ []) pen pen.owed dst₀ r dst
    own-emits = plain_done t w.some (sym w.unmarked) a

    pub own-then : Fits (owing r.owed) r dst
    own-then = element-then w.other h own-emits

    pub own-done : {r' : Pen} {dst' : Bytes} → Emits (owing r.owed) r false dst r' dst' → Pens (t ∷ []) pen dst₀ r' dst'
    own-done k = element-done w.other h own-emits k

-- the composed ellipsoid, in its pieces
ellps-is : (begun : Bool) (a rf : Bytes) → gapped begun (ellps_of a rf) ≡ gapped begun (ascii "ellps=" ++ a) ++ (ascii "," ++ rf)
unfolding gapped ellps_of ascii
ellps-is true a rf = refl
ellps-is false a rf = refl

module _ (a rf : Bytes) {pen : Pen} {dst₀ : Bytes} (h : RoomFor (ellps_of a rf ∷ []) pen dst₀) where
  pieces : Room pen.write (gapped pen.begun (ascii "ellps=" ++ a) ++ (ascii "," ++ rf)) pen.at dst₀
  pieces = room_as (ellps-is pen.begun a rf) (own_room (ellps-own a rf) h)

  pub ellps-first : Room pen.write (gapped pen.begun (ascii "ellps=" ++ a)) pen.at dst₀
  ellps-first = first-room (gapped pen.begun (ascii "ellps=" ++ a)) (ascii "," ++ rf) pieces

  module _ {p : Pen} {dst₁ : Bytes} (m : Worded (ascii "ellps=" ++ a) pen dst₀ p dst₁) where
    rest-room : Room p.write (ascii "," ++ rf) p.at dst₁
    rest-room = rw m.write (then-room (gapped pen.begun (ascii "ellps=" ++ a)) (ascii "," ++ rf) pieces m.adds)

    pub ellps-second : Room p.write (ascii ",") p.at dst₁
    ellps-second = first-room (ascii ",") rf rest-room

    module _ {q : Pen} {dst₂ : Bytes} (k : Added (ascii ",") p dst₁ q dst₂) where
      pub ellps-third : Room q.write rf q.at dst₂
      ellps-third = added-then (ascii ",") rf rest-room k

      pub ellps-whole : {r : Pen} {dst : Bytes} → Added rf q dst₂ r dst → Worded (ellps_of a rf) pen dst₀ r dst
      ellps-whole l =
          let end = added-both (ascii ",") rf rest-room k l in
          record {
            adds = adds-as (sym (ellps-is pen.begun a rf)) (adds-both (gapped pen.begun (ascii "ellps=" ++ a)) (ascii "," ++ rf) pieces m.adds (adds-by m.write end.adds));
            write = end.write ∙ m.write;
            begun = end.begun ∙ m.begun;
            owed = end.owed ∙ m.owed;
          }

-- ---- the globals

pens-as : {xs ys : Words} {pen : Pen} {dst₀ dst : Bytes} {r : Pen} → xs ≡ ys → Pens xs pen dst₀ r dst → Pens ys pen dst₀ r dst
pens-as {xs} {ys} {pen} {dst₀} {dst} {r} e m = subst (λ (x : Words). Pens x pen dst₀ r dst) e m

pub pens-none : {pen : Pen} {dst : Bytes} → Pens [] pen dst pen dst
unfolding emitted all_of
pens-none {pen} = record { emits = emits-as refl (sym (and-true pen.owed)) (emits_none refl) }

module _ {globals : Option (Bor Bytes)} {pen : Pen} {dst : Bytes} where
  module _ {g : Bor Bytes} (e : globals ≡ Some g) where
    pub insert-room : non_empty g.now ≡ true → RoomFor (inserted globals) pen dst → RoomFor (g.now ∷ []) pen dst
    insert-room h m = subst (λ (xs : Words). RoomFor xs pen dst) (rw (e, h)) m

    pub insert-done : {r : Pen} {dst' : Bytes} → non_empty g.now ≡ true → Pens (g.now ∷ []) pen dst r dst' → Pens (inserted globals) pen dst r dst'
    insert-done h m = pens-as (sym (rw (e, h))) m

    pub insert-empty : non_empty g.now ≡ false → Pens (inserted globals) pen dst pen dst
    insert-empty h = pens-as (sym (rw (e, h))) pens-none

  pub insert-later : globals ≡ None → Pens (inserted globals) pen dst pen dst
  insert-later e = pens-as (sym (rw e)) pens-none

-- ---- elements after others

module _ (xs ys : Words) {pen : Pen} {dst₀ : Bytes} (h : RoomFor (xs ++ ys) pen dst₀) where
  apart : Fits (emitted pen.owed xs ++ emitted (pen.owed && all_of is_inv xs) ys) pen dst₀
  apart = fits-as (emitted-append pen.owed xs ys) h.fits

  pub pens-first : RoomFor xs pen dst₀
  pens-first = record { fits = emits-first (emitted pen.owed xs) (emitted (pen.owed && all_of is_inv xs) ys) apart }

  module _ {r : Pen} {dst : Bytes} (m : Pens xs pen dst₀ r dst) where
    pub pens-then : RoomFor ys r dst
    pens-then = record { fits = fits-as (ap (λ (b : Bool). emitted b ys) (sym m.emits.owes)) (emits_then (emitted pen.owed xs) (emitted (pen.owed && all_of is_inv xs) ys) apart m.emits) }

    pub pens-both : {r' : Pen} {dst' : Bytes} → Pens ys r dst r' dst' → Pens (xs ++ ys) pen dst₀ r' dst'
    pens-both {r'} {dst'} k =
        record {
          emits = emits-as (sym (emitted-append pen.owed xs ys))
              (ap (λ (b : Bool). b && all_of is_inv ys) m.emits.owes ∙ and_assoc pen.owed (all_of is_inv xs) (all_of is_inv ys) ∙ ap
              (λ (b : Bool). pen.owed && b) (sym (all_append is_inv xs ys)))
              (emits-both (emitted pen.owed xs) (emitted (pen.owed && all_of is_inv xs) ys) apart m.emits (emits-as (ap (λ (b : Bool). emitted b ys) m.emits.owes) refl k.emits));
        }

-- ---- what comes last

flow-all : (owed : Bool) (xs : Words) → flow owed xs ≡ emitted owed xs ++ owing (owed && all_of is_inv xs)
unfolding owing
flow-all owed xs = ap (flow owed) (sym (append-nil xs)) ∙ flow-append owed xs [] ∙ ap (λ (ds : Words). emitted owed xs ++ ds) (flow-end (owed && all_of is_inv xs))

-- all elements, and then what is owed
module _ (xs : Words) {pen : Pen} {dst₀ : Bytes} (h : RoomForAll xs pen dst₀) where
  flow-room : Fits (emitted pen.owed xs ++ owing (pen.owed && all_of is_inv xs)) pen dst₀
  flow-room = fits-as (flow-all pen.owed xs) h.fits

  pub last-first : RoomFor xs pen dst₀
  last-first = record { fits = emits-first (emitted pen.owed xs) (owing (pen.owed && all_of is_inv xs)) flow-room }

  module _ {r : Pen} {dst : Bytes} (m : Pens xs pen dst₀ r dst) where
    pub last_then : Fits (owing r.owed) r dst
    last_then = fits-as (ap owing (sym m.emits.owes)) (emits_then (emitted pen.owed xs) (owing (pen.owed && all_of is_inv xs)) flow-room m.emits)

    pub last_done : {r' : Pen} {dst' : Bytes} → Emits (owing r.owed) r false dst r' dst' → PensAll xs pen dst₀ r' dst'
    last_done k = record {
      adds =
          adds-as (ap (more pen.begun) (sym (flow-all pen.owed xs)))
          (emits-both (emitted pen.owed xs) (owing (pen.owed && all_of is_inv xs)) flow-room m.emits (emits-as (ap owing m.emits.owes) refl k)).adds;
    }
