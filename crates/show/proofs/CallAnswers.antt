-- What is printed of what a call answers.
use Rattle.rules.specs.declared.Refusal.{Refusal}
use Rattle.std.specs.Prelude.{Result, Ok, Err}
use mathlib.Core.Path.{◌≡◌, refl, sym, ap, subst}
use mathlib.Core.Bool.{Bool, true, false, cond}
use mathlib.Core.List.{List, ◌++◌}
use Prim.Native.Nat.{ℕ, ◌+◌, ◌≤◌}
use native.Mathlib.Omega.{arith}
use borrow.Author.Tests.{lt-ltb, le-ltb, ltb-true}
use lib.ListN.{length, take, drop}
use lib.Seq.{length-take-le}
use lib.Dec.{ltb}
use Rattle.rules.specs.Text.Bytes.{Bytes}
use Rattle.rules.specs.Text.Refusal.{Reply, answers, refuses, refuses12, and_then, tested, lent, outcome, written, Writes, refusal, told as says}
use Rattle.rules.specs.Text.Split.{line, split}
use Rattle.rules.specs.Proj.Translate.{translate}
use Rattle.rules.specs.Pipeline.Prepare.{prepare_as}
use Rattle.laws_lists.specs.Tests.{never}
use Rattle.rules.specs.declared.Mode.{Mode}
use Rattle.rules.specs.declared.Reading.{Reading}
use Rattle.rules.specs.declared.Step.{Step}
use Rattle.laws_text.specs.Entry.{answers-so}
use Rattle.laws_text.specs.Refusals.{Refusing, tested-refuses}
use Rattle.text.specs.Wrote.{Wrote, WroteAt}
use Rattle.rules.specs.Face.Shown.{refusal_text, offset_text, headed, or_refused, called, shown_checks, shown_steps, translated_line, shown, both_checks}
use Rattle.show.proofs.Located.{Other}

-- a piece by another name
module _ (x y d : Bytes) (at : ℕ) (e : x ≡ y) where
  pub room-so : at + length x ≤ length d → at + length y ≤ length d
  room-so h = subst (λ (z : Bytes). at + length z ≤ length d) e h

  pub said-so : {r : ℕ} {d' : Bytes} → WroteAt y d at r d' → WroteAt x d at r d'
  said-so {r} {d'} w = subst (λ (z : Bytes). WroteAt z d at r d') (sym e) w

-- what is written from the front on
pub front-so : {x d : Bytes} {r : ℕ} {d' : Bytes} → WroteAt x d 0 r d' → Wrote x d r d'
front-so w = w.wrote

-- ---- a call that is lent 65,536 bytes

abbrev same? : Result ℕ Refusal × Bytes → Result ℕ Refusal × Bytes → Type 0
same? x y = x ≡ y

-- 7 where the answer is longer, by either of the two
refused-by : (buf : Bytes) → length buf ≡ 65536 → (reply : Reply Bytes) → Refusing Other reply → (r : Refusal) (buf' : Bytes)
    → same? (Err r, buf') (lent written reply buf)
    → and_then reply (λ t. cond (ltb 65536 (length t)) (refuses 7 0) (answers t)) ≡ refuses r.number r.place
unfolding and_then lent written Refusing
refused-by buf l (refuses12 q o) h r buf' e = absurd (h refl)
refused-by buf l (refuses m q) h r buf' e =
    let f : r ≡ says m q = cc (ap (λ (x : Result ℕ Refusal × Bytes). x.0) e) in
    rw f refl
refused-by buf l (answers xs) h r buf' e = go (ltb (length buf) (length xs)) refl e
  where
    go : (b : Bool) → ltb (length buf) (length xs) ≡ b
        → same? (Err r, buf') (cond b (refusal 7 0, buf) (Ok (length xs), xs ++ drop (length xs) buf))
        → cond (ltb 65536 (length xs)) (refuses 7 0) (answers xs) ≡ refuses r.number r.place
    go true g f =
        let h : r ≡ says 7 0 = cc (ap (λ (x : Result ℕ Refusal × Bytes). x.0) f) in
        rw (lt-ltb 65536 (length xs) (omega (arith, l, ltb-true (length buf) (length xs) g)), h) refl
    go false g f = absurd (never (cc (ap (λ (x : Result ℕ Refusal × Bytes). x.0) f)))

-- where it wrote n bytes
module _ {own : Bytes → Reply Bytes} {t buf : Bytes} {r : Result ℕ Refusal} {buf' : Bytes} {n : ℕ} (e : r ≡ Ok n) (w : Writes own t buf r buf') where
  wrote-n : Writes own t buf (Ok n) buf'
  wrote-n = subst (λ (x : Result ℕ Refusal). Writes own t buf x buf') e w

  pub called-fits : n ≤ length buf'
  called-fits = (answers-so wrote-n).fits

  pub called-counts : n ≡ length (take n buf')
  called-counts = sym (length-take-le n buf' called-fits)

  pub called-wrote : length buf ≡ 65536 → length buf' ≡ length buf → called own t ≡ answers (take n buf')
  unfolding called and_then tested
  called-wrote l k =
      let a = answers-so wrote-n in
      let m : length (take n buf') ≤ 65536 = omega (arith, called-counts, called-fits, l, k) in
      rw (le-ltb 4096 (length t) a.short, a.domain, a.answer, le-ltb 65536 (length (take n buf')) m)

-- where it refused, which is not with 12
pub called-refused : {own : Bytes → Reply Bytes} {t buf : Bytes} {r : Result ℕ Refusal} {buf' : Bytes} {e : Refusal} → Refusing Other (own t) → r ≡ Err e
    → Writes own t buf r buf' → length buf ≡ 65536 → called own t ≡ refuses e.number e.place
unfolding called outcome
called-refused {own} {t} {buf} {r} {buf'} {e} h z w l =
    let v : Writes own t buf (Err e) buf' = subst (λ (x : Result ℕ Refusal). Writes own t buf x buf') z w in
    let k = tested-refuses Other own t (λ z. omega (arith, z)) (λ z. omega (arith, z)) (λ s. h) in
    refused-by buf l (tested own t) k e buf' v.exactly

-- ---- what is printed then

module _ (r : Reading) (mode : Mode) (t : Bytes) where
  pub steps-refused : {n place : ℕ} → called split t ≡ refuses n place → shown_steps r mode t ≡ line (refusal_text n place)
  unfolding shown_steps or_refused
  steps-refused e = rw e

  pub steps-wrote : {lines : Bytes} → called split t ≡ answers lines → shown_steps r mode t ≡ headed 1 false lines ++ shown_checks r mode t
  unfolding shown_steps or_refused
  steps-wrote e = rw e

  pub text-refused : {n place : ℕ} → called translate t ≡ refuses n place → shown r mode t ≡ line (refusal_text n place)
  unfolding shown or_refused
  text-refused e = rw e

  pub text-wrote : {u : Bytes} → called translate t ≡ answers u → shown r mode t ≡ translated_line u ++ shown_steps r mode u
  unfolding shown or_refused
  text-wrote e = rw e

  pub checks-refused : {n place : ℕ} → tested (prepare_as r mode) t ≡ refuses n place → shown_checks r mode t ≡ line (refusal_text n place)
  unfolding shown_checks or_refused
  checks-refused e = rw e

  pub checks-located : {place offset : ℕ} → tested (prepare_as r mode) t ≡ refuses12 place offset → shown_checks r mode t ≡ line (offset_text place offset)
  unfolding shown_checks or_refused
  checks-located e = rw e

  pub checks-told : {ss : List Step} → tested (prepare_as r mode) t ≡ answers ss → shown_checks r mode t ≡ both_checks ss
  unfolding shown_checks or_refused
  checks-told e = rw e
