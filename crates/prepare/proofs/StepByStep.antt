-- The walk that prepares all steps: its invariant is that the steps so far have their records, each with its span, in front of the table's, or that the
-- first refusal is known; and each way out of it tells the reply of the whole text.
use Rattle.std.specs.Prelude.{Option, None, Some, is_some, Ok, Err}
use mathlib.Core.Path.{◌≡◌, refl, sym, ap, ◌∙◌}
use Prim.Native.Nat.{ℕ, suc, ◌+◌, ◌-◌, ◌≤◌, ◌<◌}
use mathlib.Core.Bool.{Bool, true, false, cond}
use mathlib.Core.List.{List, [], ◌∷◌, ◌++◌, append-nil, append_assoc, map}
use native.Mathlib.Numerals.{add-one}
use native.Mathlib.Omega.{arith}
use borrow.Author.Tests.{ltb-true, ltb-false}
use lib.ListN.{length, take, drop, get_or, set, length-append}
use lib.Seq.{take_at, drop-cons, set_at, append_snoc}
use lib.Dec.{eqb, ltb}
use Rattle.rules.specs.Text.Ascii.{ascii}
use Rattle.rules.specs.Text.Bytes.{Bytes, Words, words}
use Rattle.rules.specs.Text.Refusal.{Reply, answers, refuses, refuses12, and_then}
use Rattle.rules.specs.Text.Split.{steps_of, step_text, line}
use Rattle.rules.specs.Text.Reader.{next, part, spans_of, step_then}
use Rattle.rules.specs.Pipeline.Record.{spanned, with_spans}
use Rattle.rules.specs.Pipeline.Prepare.{prepare_steps}
use Rattle.rules.specs.declared.Cursor.{Cursor}
use Rattle.rules.specs.declared.Mode.{Mode}
use Rattle.rules.specs.declared.Refusal.{Refusal}
use Rattle.rules.specs.declared.Span.{Span}
use Rattle.rules.specs.declared.Step.{Step}
use Rattle.rules.specs.declared.Table.{Table}
use Rattle.laws_lists.specs.Tests.{never}
use Rattle.laws_text.specs.Sizes.{weight}
use Rattle.laws_text.specs.Walk.{walk_step, walk_end}
use Rattle.laws_text.specs.Spans.{span_to, spans_at, span-step, span-end}
use Rattle.text.specs.Wrote.{WroteAt}
use Rattle.text.proofs.Wrote.{wrote-fits}
use Rattle.split.specs.Lines.{HasLine, IsLine}
use Rattle.split.proofs.StepsPassed.{Passed, passed_none, passed-many, passed-well, passed-only, passed-next}
use Rattle.prepare.specs.Records.{refused_at, reply_is}
use Rattle.prepare.specs.StepReply.{Bare, Roomy, step_reply}
use Rattle.prepare.specs.Lent.{lent_to, with_theirs, steps_reply, normal_reply, refusing, answered, offset_if}
use Rattle.prepare.specs.declared.Preparing.{Preparing}
use Rattle.prepare.specs.declared.faults.Fault.{Fault}
use Rattle.prepare.proofs.LentTable.{refused_by, lent-refused, lent-refused-at, answered-many, answered-refused, answered-lent}
use Rattle.prepare.proofs.Replies.{at_place, step-at, refused-there, prefixed, prefixed-none, prefixed-more}
use Rattle.prepare.proofs.StepWeight.{step-weight, line-length, roomy-for}

-- ---- a step's line in a buffer

module _ (u : Bytes) {c₀ c : Bytes} {end : ℕ} (w : WroteAt (line u) c₀ 0 end c) where
  pub line-end : end ≡ suc (length u)
  unfolding line ascii
  line-end = omega (arith, w.wrote.count, length-append u (10 ∷ []))

  pub line-some : 1 ≤ end
  line-some = omega (arith, line-end)

  pub line-within : end - 1 ≤ length c
  line-within = omega (arith, wrote-fits w.wrote)

  -- without its newline it is the step's text
  pub line-front : take (end - 1) c ≡ u
  unfolding line ascii
  line-front = ap (take (end - 1)) (w.wrote.whole ∙ append_assoc u (10 ∷ []) (drop end c₀)) ∙ take_at u ((10 ∷ []) ++ drop end c₀) (end - 1) (omega (arith, line-end))

-- ---- the first refusal, if there is one

pub none-yet : (o : Option Refusal) {b : Bool} → b ≡ is_some o → b ≡ false → o ≡ None
none-yet None e h = refl
none-yet (Some r) e h = absurd (never (cc (e, h)))

pub one-known : (o : Option Refusal) {b : Bool} → b ≡ is_some o → b ≡ true → o ≡ None → ⊥
one-known None e h z = never (cc (e, h))
one-known (Some r) e h z = never (cc z)

-- ---- the invariant

-- the n steps before `at` have their records in front of the table's
pub record Made (mode : Mode) (normalised : Bytes) (t : Table) (records : List Step) (at n : ℕ) : Type 0 where
  pub done : List Step
  pub count : length done ≡ n
  pub stored : records ≡ done ++ drop n t.steps
  pub same : steps_reply mode normalised ≡ prefixed done (with_theirs (spans_at normalised at) (prepare_steps mode (suc n) (map step_text (steps_of (drop at normalised)))))

-- Of a normalised text, n steps stand before `at`. As long as none of them is refused and they are not too many, their records are made; once one is
-- refused, that is the reply. The buffers are as long as ever.
pub record Reaches (mode : Mode) (normalised : Bytes) (t : Table) (a₀ b₀ c₀ a b c : Bytes) (records : List Step) (at n : ℕ) (first : Option Refusal) : Type 0 where
  pub bare : Bare normalised
  pub full : length t.steps ≡ 64
  pub roomy : Roomy (length normalised) (length a₀) (length b₀)
  pub room : length normalised < length c₀
  pub room-a : length a ≡ length a₀
  pub room-b : length b ≡ length b₀
  pub room-c : length c ≡ length c₀
  pub walked : Passed normalised at n
  pub made : first ≡ None → n ≤ 64 → Made mode normalised t records at n
  pub refused : (r : Refusal) → first ≡ Some r → refused_by t r ≡ lent_to (steps_reply mode normalised) t

pub reaches-none : (mode : Mode) (normalised : Bytes) (t : Table) (a b c : Bytes) → Bare normalised → length t.steps ≡ 64 → Roomy (length normalised) (length a) (length b)
    → length normalised < length c → Reaches mode normalised t a b c a b c t.steps 0 0 None
unfolding steps_reply spans_of
reaches-none mode normalised t a b c h f r k = record {
  bare = h;
  full = f;
  roomy = r;
  room = k;
  room-a = refl;
  room-b = refl;
  room-c = refl;
  walked = passed_none normalised;
  made = λ z few. record { done = []; count = refl; stored = refl; same = prefixed-none (steps_reply mode normalised) };
  refused = λ r e. absurd (never (cc e));
}

module _ {mode : Mode} {normalised : Bytes} {t : Table} {a₀ b₀ c₀ a b c : Bytes} {records : List Step} {at n : ℕ} {first : Option Refusal}
    (m : Reaches mode normalised t a₀ b₀ c₀ a b c records at n first) where
  -- ---- the end

  module _ (f : next normalised at ≡ None) where
    too_many : 64 < n → normal_reply mode normalised ≡ refuses 8 0
    unfolding normal_reply with_theirs and_then
    too_many h = rw (passed-many m.walked f h)

    by-steps : n ≤ 64 → normal_reply mode normalised ≡ steps_reply mode normalised
    unfolding normal_reply steps_reply and_then
    by-steps h = rw (passed-well m.walked f h)

    all_made : (k : Made mode normalised t records at n) → steps_reply mode normalised ≡ answers k.done
    unfolding prepare_steps prefixed with_theirs with_spans and_then
    all_made k = k.same ∙ rw (walk_end normalised at f, span-end normalised at f) (ap answers (append-nil k.done))

    pub reaches_end : {r : Preparing} → r ≡ answered t records n first → r ≡ lent_to (normal_reply mode normalised) t
    reaches_end e = e ∙ go (ltb 64 n) refl first refl
      where
        go : (many : Bool) → ltb 64 n ≡ many → (o : Option Refusal) → first ≡ o → answered t records n first ≡ lent_to (normal_reply mode normalised) t
        go true h o z = answered-many t records n first (ltb-true 64 n h) ∙ lent-refused t (too_many (ltb-true 64 n h))
        go false h (Some r) z =
            let few = ltb-false 64 n h in
            rw z (answered-refused t records n few r ∙ m.refused r z ∙ ap (λ (x : Reply (List Step)). lent_to x t) (sym (by-steps few)))
        go false h None z =
            let few = ltb-false 64 n h in
            let k = m.made z few in
            rw z (answered-lent t records n few m.full (by-steps few ∙ all_made k) k.count k.stored)

  -- ---- a step

  module _ {from to : ℕ} {then : Cursor} (f : next normalised at ≡ step_then from to then) where
    -- its words
    abbrev here : Words
    here = words (part from to normalised)

    pub reaches-room : 0 + length (line (step_text here)) ≤ length c
    reaches-room = omega (arith, line-length normalised at from to then f, m.room, m.room-c)

    module _ (r : Option ℕ) (c' : Bytes) (w : IsLine here c 0 r c') where
      -- it is modifiers alone
      pub reaches-only : {p : Preparing} → r ≡ None → p ≡ refusing 6 (n + 1) 0 t → p ≡ lent_to (normal_reply mode normalised) t
      unfolding normal_reply with_theirs and_then
      reaches-only e h = h ∙ lent-refused t (rw (passed-only m.walked f (rw e at w)))

      -- it has a line
      pub reaches-line : {end : ℕ} → r ≡ Some end → HasLine here c 0 end c'
      reaches-line e = rw e at w

    module _ {end : ℕ} {c' : Bytes} (l : HasLine here c 0 end c') where
      walked_on : Passed normalised then.at (n + 1)
      walked_on = passed-next m.walked f l.other

      -- an earlier step is refused, or there are too many: it is passed over
      module _ (kc : length c' ≡ length c) where
        pub reaches-refused : (first ≡ None → ⊥) → Reaches mode normalised t a₀ b₀ c₀ a b c' records then.at (n + 1) first
        reaches-refused z = record {
          bare = m.bare;
          full = m.full;
          roomy = m.roomy;
          room = m.room;
          room-a = m.room-a;
          room-b = m.room-b;
          room-c = kc ∙ m.room-c;
          walked = walked_on;
          made = λ y few. absurd (z y);
          refused = m.refused;
        }

        pub reaches-many : 64 < n + 1 → Reaches mode normalised t a₀ b₀ c₀ a b c' records then.at (n + 1) first
        reaches-many h = record {
          bare = m.bare;
          full = m.full;
          roomy = m.roomy;
          room = m.room;
          room-a = m.room-a;
          room-b = m.room-b;
          room-c = kc ∙ m.room-c;
          walked = walked_on;
          made = λ y few. absurd (too_few few);
          refused = m.refused;
        }
          where
            too_few : n + 1 ≤ 64 → ⊥
            too_few few = omega arith

      -- its text is no longer than the whole
      text-length : length (step_text here) ≤ length normalised
      unfolding line ascii
      text-length = omega (arith, line-length normalised at from to then f, length-append (step_text here) (10 ∷ []))

      pub reaches-short : end - 1 ≤ length normalised
      reaches-short = omega (arith, line-end (step_text here) l.wrote, text-length)

      -- it is judged: its text has room
      pub reaches-roomy : (weight (take (end - 1) c') ≤ length (take (end - 1) c')) × Roomy (length (take (end - 1) c')) (length a) (length b)
      reaches-roomy =
          rw (line-front (step_text here) l.wrote) (step-weight from to m.bare, roomy-for (length (step_text here)) text-length m.room-a m.room-b m.roomy)

      module _ (z : first ≡ None) (few : n + 1 ≤ 64) where
        abbrev so_far : Made mode normalised t records at n
        so_far = m.made z (omega arith)

        -- the spans and the replies behind it
        abbrev spans-left : List Span
        spans-left = spans_at normalised then.at

        abbrev rest : Reply (List Step)
        rest = prepare_steps mode (suc (suc n)) (map step_text (steps_of (drop then.at normalised)))

        -- a reply for it, with those behind it
        abbrev followed : Reply Step → Reply (List Step)
        followed r = with_theirs (span_to from to ∷ spans-left) (and_then r (λ s. and_then rest (λ l. answers (s ∷ l))))

        next-reply : (r : Reply Step) → r ≡ step_reply mode (take (end - 1) c') → steps_reply mode normalised ≡ prefixed so_far.done (followed (at_place (suc n) r))
        unfolding prepare_steps
        next-reply r g =
            let is : r ≡ step_reply mode (step_text here) = g ∙ ap (step_reply mode) (line-front (step_text here) l.wrote) in
            so_far.same ∙ rw (walk_step normalised at from to then f, span-step normalised at from to then f, step-at mode (suc n) (step_text here), ← is)

        -- it is refused: this is the first refusal
        module _ (u : Fault) (g : reply_is (Err u) ≡ step_reply mode (take (end - 1) c')) where
          now-refused : steps_reply mode normalised ≡ refused_at u.number (n + 1) u.at
          now-refused = next-reply (reply_is (Err u)) g ∙ rw (refused-there u.number (suc n) u.at, add-one n) (go (eqb u.number 12))
            where
              go : (b : Bool) → prefixed so_far.done (followed (cond b (refuses12 (suc n) u.at) (refuses u.number (suc n)))) ≡ cond b (refuses12 (suc n) u.at) (refuses u.number (suc n))
              go true = unfold with_theirs and_then prefixed in refl
              go false = unfold with_theirs and_then prefixed in refl

          pub reaches-fault : {a' b' : Bytes} {offset : ℕ} → offset ≡ offset_if u.number u.at → length a' ≡ length a → length b' ≡ length b → length c' ≡ length c
              → Reaches mode normalised t a₀ b₀ c₀ a' b' c' records then.at (n + 1) (Some (record { number = u.number; place = n + 1; offset = offset }))
          reaches-fault {offset = offset} o ka kb kc = record {
            bare = m.bare;
            full = m.full;
            roomy = m.roomy;
            room = m.room;
            room-a = ka ∙ m.room-a;
            room-b = kb ∙ m.room-b;
            room-c = kc ∙ m.room-c;
            walked = walked_on;
            made = λ h less. absurd (never (cc h));
            refused = λ r h. let k : record { number = u.number; place = n + 1; offset = offset } ≡ r = cc h in
                rw (← k, o) (lent-refused-at t u.number (n + 1) u.at now-refused);
          }

        -- it has a record
        module _ {made-now : Step} (g : reply_is (Ok made-now) ≡ step_reply mode (take (end - 1) c')) where
          abbrev now : Step
          now = spanned (span_to from to) made-now

          more-reply : prefixed so_far.done (followed (at_place (suc n) (answers made-now))) ≡ prefixed (so_far.done ++ (now ∷ [])) (with_theirs spans-left rest)
          unfolding at_place and_then
          more-reply = prefixed-more so_far.done (span_to from to) spans-left made-now rest

          now-made : Made mode normalised t (set records n now) then.at (n + 1)
          now-made =
              let x = m.full in
              let y = so_far.count in
              let d : records ≡ so_far.done ++ (get_or t.steps n now ∷ drop (suc n) t.steps) =
              so_far.stored ∙ ap (λ (l : List Step). so_far.done ++ l) (drop-cons t.steps n now (omega arith)) in
              let s : set records n now ≡ so_far.done ++ (now ∷ drop (suc n) t.steps) =
              ap (λ (l : List Step). set l n now) d ∙ set_at so_far.done (get_or t.steps n now) (drop (suc n) t.steps) now n y in
              record {
                done = so_far.done ++ (now ∷ []);
                count = omega (arith, y, length-append so_far.done (now ∷ []));
                stored = rw (add-one n) (s ∙ sym (append_snoc so_far.done now (drop (suc n) t.steps)));
                same = rw (add-one n) (next-reply (answers made-now) g ∙ more-reply);
              }

          pub reaches_more : {a' b' : Bytes} {s : Step} → s ≡ now → length a' ≡ length a → length b' ≡ length b → length c' ≡ length c
              → Reaches mode normalised t a₀ b₀ c₀ a' b' c' (set records n s) then.at (n + 1) first
          reaches_more h ka kb kc = rw h (record {
            bare = m.bare;
            full = m.full;
            roomy = m.roomy;
            room = m.room;
            room-a = ka ∙ m.room-a;
            room-b = kb ∙ m.room-b;
            room-c = kc ∙ m.room-c;
            walked = walked_on;
            made = λ k less. now-made;
            refused = λ r k. absurd (never (cc (z, k)));
          })
