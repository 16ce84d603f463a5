-- What a record is that passes `made`: the one that its operator, its arguments and its marks make.
use Rattle.std.specs.Prelude.{◌≡◌, refl, ℕ, zero, suc, ◌-◌, ◌≤◌, Bool, true, false, cond, not, List, [], ◌∷◌, ◌++◌, length, take, drop, replicate, leb, eqb, ℤ, pos, negsuc, None, Some}
use Rattle.std.proofs.Common.{ap, ◌∙◌, arith, leb-true, eqb-true, take-append-drop, length-take, length-drop, length-take-le}
use Prim.Native.String.{String}
use Rattle.rules.specs.Text.Ascii.{ascii}
use Rattle.rules.specs.Text.Lists.{any_of, all_of, is_none}
use Rattle.rules.specs.Text.Bytes.{Bytes, Words, same}
use Rattle.rules.specs.Text.Parameters.{Parameter}
use Rattle.rules.specs.Operators.Table.{number_of}
use Rattle.rules.specs.Operators.Arguments.{size, is_given}
use Rattle.rules.specs.Pipeline.Record.{reading_number, no_span, step_with, operator, args, unused, is_set, made}
use Rattle.rules.specs.Pipeline.Prepare.{mark, record_of}
use Rattle.rules.specs.declared.Reading.TheVariants.{Crate}
use Rattle.rules.specs.declared.Step.{Step}
use Rattle.laws_records.specs.MadeSo.{made_so}
use Rattle.laws_records.specs.Numbering.{number-operator}
use Rattle.laws_records.specs.Kept.{Kept}
use Rattle.rules.specs.Pipeline.Write.{mark_word, mark_words}
use Rattle.laws_lists.specs.Tests.{and_left, and_right}
use Rattle.laws_records.specs.Given.{Flag, chosen, picked, bare_flags, latest, table_from, look, looked}
use Rattle.laws_records.specs.Settled.{lacks}

-- ---- the parts of `made`

zeros : (l : List ℤ) → all_of (λ (x : ℤ). eqb (size x) 0) l ≡ true → l ≡ replicate (length l) (pos 0)
unfolding all_of
zeros [] h = refl
zeros (pos n ∷ l) h =
    let e : n ≡ 0 = eqb-true n 0 (and_left (eqb n 0) _ h) in
    rw (e, ← zeros l (and_right (eqb n 0) _ h))
zeros (negsuc n ∷ l) h = absurd (None n (eqb-true (suc n) 0 (and_left (eqb (suc n) 0) _ h)))
  where
    None : (n : ℕ) → suc n ≡ 0 → ⊥
    None n e = omega arith

mark-again : (m : ℕ) → leb m 1 ≡ true → cond (is_set m) 1 0 ≡ m
unfolding is_set
mark-again zero h = refl
mark-again (suc zero) h = refl
mark-again (suc (suc m)) h = absurd (None m (leb-true (suc (suc m)) 1 h))
  where
    None : (m : ℕ) → suc (suc m) ≤ 1 → ⊥
    None m h = omega arith

-- A record of the crate's reading with eight slots, as every record of the code has, that passes the test.
pub record IsMade (s : Step) : Type 0 where
  pub number : number_of (operator s) ≡ s.operator
  pub slots : args s ++ replicate (8 - length (args s)) (pos 0) ≡ s.args
  pub many : length (args s) ≡ s.n
  pub inv-again : cond (is_set s.inv) 1 0 ≡ s.inv
  pub fwd-again : cond (is_set s.omit_fwd) 1 0 ≡ s.omit_fwd
  pub back-again : cond (is_set s.omit_inv) 1 0 ≡ s.omit_inv
  pub crates : reading_number Crate ≡ s.reading
  pub no-span : no_span ≡ s.span
  pub keeps : Kept (operator s) (args s)

slots-again : (l : List ℤ) (n : ℕ) → length l ≡ 8 → n ≤ 8 → all_of (λ (x : ℤ). eqb (size x) 0) (drop n l) ≡ true → take n l ++ replicate (8 - length (take n l)) (pos 0) ≡ l
slots-again l n e h z =
    let a = length-take-le n l (omega arith) in
    let b : 8 - length (take n l) ≡ length (drop n l) = omega (arith, length-drop n l) in
    rw (b, ← zeros (drop n l) z) (take-append-drop n l)

-- its arguments keep their rule
pub made-keeps : (s : Step) → made s ≡ true → Kept (operator s) (args s)
unfolding args
made-keeps s h =
    let m = made_so s h in
    record { fit = omega (arith, m.slots, length-take s.n s.args); nines = m.digits; rule = m.rule }

pub made-is : (s : Step) → length s.args ≡ 8 → made s ≡ true → reading_number Crate ≡ s.reading → no_span ≡ s.span → IsMade s
unfolding operator args unused
made-is s e h c n =
    let m = made_so s h in
    record {
      number = number-operator s.operator m.number;
      slots = slots-again s.args s.n e m.slots m.zeros;
      many = length-take-le s.n s.args (omega (arith, m.slots, e));
      inv-again = mark-again s.inv m.inv;
      fwd-again = mark-again s.omit_fwd m.forward;
      back-again = mark-again s.omit_inv m.inverse;
      crates = c;
      no-span = n;
      keeps = made-keeps s h;
    }

-- ---- the marks

unfoldable pub marks_of : Step → List Flag
marks_of s =
    record { word = ascii "inv"; given = is_set s.inv }
    ∷ record { word = ascii "omit_fwd"; given = is_set s.omit_fwd }
    ∷ record { word = ascii "omit_inv"; given = is_set s.omit_inv }
    ∷ []

cond-append : (b : Bool) (w : Bytes) (ws : Words) → cond b (w ∷ []) [] ++ ws ≡ cond b (w ∷ ws) ws
cond-append true w ws = refl
cond-append false w ws = refl

pub mark-words : (s : Step) → mark_words s ≡ chosen (marks_of s)
unfolding mark_words mark_word marks_of chosen
mark-words s =
    cond-append (is_set s.inv) (ascii "inv") _
    ∙ ap (λ (ws : Words). cond (is_set s.inv) (ascii "inv" ∷ ws) ws) (cond-append (is_set s.omit_fwd) (ascii "omit_fwd") _)

pub marks-bare : (s : Step) → bare_flags (marks_of s) ≡ true
unfolding bare_flags marks_of all_of lacks any_of ascii
marks-bare s = refl

-- parameters that are no marks
pub record Unmarked (own : List Parameter) : Type 0 where
  pub no-inv : latest (ascii "inv") own None ≡ None
  pub no-fwd : latest (ascii "omit_fwd") own None ≡ None
  pub no-back : latest (ascii "omit_inv") own None ≡ None

pub given_back : (b : Bool) (v : Bytes) → not (is_none (cond b (Some v) None)) ≡ b
unfolding is_none
given_back true v = refl
given_back false v = refl

module _ (s : Step) (w : Bytes) (own : List Parameter) (u : Unmarked own) where
  look-inv : look w own (marks_of s) (ascii "inv") ≡ cond (is_set s.inv) (Some (ascii "true")) None
  unfolding look marks_of picked same ascii
  look-inv = rw u.no-inv

  look-fwd : look w own (marks_of s) (ascii "omit_fwd") ≡ cond (is_set s.omit_fwd) (Some (ascii "true")) None
  unfolding look marks_of picked same ascii
  look-fwd = rw u.no-fwd

  look-back : look w own (marks_of s) (ascii "omit_inv") ≡ cond (is_set s.omit_inv) (Some (ascii "true")) None
  unfolding look marks_of picked same ascii
  look-back = rw u.no-back

  marked : (key : String) (b : Bool) → look w own (marks_of s) (ascii key) ≡ cond b (Some (ascii "true")) None → mark key (table_from w own (marks_of s)) ≡ cond b 1 0
  unfolding mark is_given
  marked key b h = rw (looked w own (marks_of s) (marks-bare s) (ascii key), h, given_back b (ascii "true"))

  -- the record that is made of these marks and the record's arguments is the record
  pub record-again : IsMade s → record_of (operator s) (table_from w own (marks_of s)) (args s) ≡ s
  unfolding record_of step_with
  record-again m =
      rw (
        m.number,
        m.slots,
        m.many,
        marked "inv" (is_set s.inv) look-inv,
        marked "omit_fwd" (is_set s.omit_fwd) look-fwd,
        marked "omit_inv" (is_set s.omit_inv) look-back,
        m.inv-again,
        m.fwd-again,
        m.back-again,
        m.no-span,
        m.crates,
      )
