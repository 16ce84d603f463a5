-- What holds of a reply where it is an answer.
use mathlib.Core.Path.{◌≡◌, refl}
use Prim.Native.Nat.{ℕ, ◌≤◌, zero-le}
use mathlib.Core.Bool.{Bool, true, false, cond, not}
use mathlib.Core.List.{List, map}
use borrow.Author.Tests.{ltb-false}
use lib.ListN.{length, length-map}
use lib.Dec.{ltb}
use Rattle.rules.specs.Text.Lists.{any_of, place_of}
use Rattle.rules.specs.Text.Bytes.{Bytes, Steps, in_domain}
use Rattle.rules.specs.Text.Refusal.{Reply, answers, refuses, refuses12, and_then, tested}
use Rattle.rules.specs.Text.Split.{only_modifiers, step_text, split_steps}
use Rattle.rules.specs.Pipeline.Prepare.{prepare_as}
use Rattle.laws_records.specs.Made.{prepare-as-made}
use Rattle.rules.specs.declared.Mode.{Mode}
use Rattle.rules.specs.declared.Reading.{Reading}
use Rattle.rules.specs.declared.Step.{Step}

unfoldable pub Of : {A : Type 0} → (A → Type 0) → Reply A → Type 0
Of P (answers x) = P x
Of P (refuses n place) = 0 ≤ n
Of P (refuses12 place offset) = 0 ≤ offset

pub of-refusal : {A : Type 0} (P : A → Type 0) (n place : ℕ) → Of P (refuses n place)
unfolding Of
of-refusal P n place = zero-le

pub of-answers : {A : Type 0} (P : A → Type 0) (r : Reply A) → ((x : A) → r ≡ answers x → P x) → Of P r
unfolding Of
of-answers P (answers x) h = h x refl
of-answers P (refuses n place) h = zero-le
of-answers P (refuses12 place offset) h = zero-le

-- of an answer that something is done with
pub of-then : {A B : Type 0} (P : A → Type 0) (Q : B → Type 0) (r : Reply A) (next : A → Reply B) → Of P r → ((x : A) → P x → Of Q (next x)) → Of Q (and_then r next)
unfolding Of and_then
of-then P Q (answers x) next h go = go x h
of-then P Q (refuses n place) next h go = zero-le
of-then P Q (refuses12 place offset) next h go = zero-le

-- of a text call
pub of-tested : {A : Type 0} (P : A → Type 0) (own : Bytes → Reply A) (t : Bytes) → Of P (own t) → Of P (tested own t)
unfolding tested
of-tested {A} P own t h = go (ltb 4096 (length t)) (not (in_domain t))
  where
    go : (a b : Bool) → Of P (cond a (refuses 1 0) (cond b (refuses 2 0) (own t)))
    go true b = of-refusal P 1 0
    go false true = of-refusal P 2 0
    go false false = h

-- ---- "8: more than 64 steps"

pub record Made (ss : Steps) (texts : List Bytes) : Type 0 where
  pub are : texts ≡ map step_text ss
  pub few : length texts ≤ 64

pub split-made : (ss : Steps) → Of (Made ss) (split_steps ss)
unfolding split_steps Of
split-made ss = go (any_of only_modifiers ss) (ltb 64 (length ss)) refl
  where
    go : (a b : Bool) → ltb 64 (length ss) ≡ b → Of (Made ss) (cond a (refuses 6 (place_of only_modifiers ss)) (cond b (refuses 8 0) (answers (map step_text ss))))
    go true b e = zero-le
    go false true e = zero-le
    go false false e = record { are = refl; few = rw (length-map ss step_text) (ltb-false 64 (length ss) e) }

-- and so many records at most, in either reading and either mode
abbrev pub AtMost : ℕ → List Step → Type 0
AtMost n l = length l ≤ n

pub prepared-few : (r : Reading) (mode : Mode) (t : Bytes) → Of (AtMost 64) (tested (prepare_as r mode) t)
prepared-few r mode t = of-tested (AtMost 64) (prepare_as r mode) t (of-answers (AtMost 64) (prepare_as r mode t) (λ l e. (prepare-as-made r mode t l e).1))
