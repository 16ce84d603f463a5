-- An arm of a match on an act that has several variants, or all that are left: it is known that the variant's number is one
-- of the arm's. So each other variant is shut out by computing.
use mathlib.Core.Path.{sym, ap, subst}
use mathlib.Core.Logic.{inl, inr}
use Prim.Native.Nat.{ℕ}
use mathlib.Core.Bool.{Bool, true, false, ◌||◌}
use mathlib.Core.List.{List, [], ◌∷◌}
use borrow.Author.Tests.{eq-eqb}
use types.Run.{OneOf}
use borrow.Enum.Refused.{Among, opened}
use lib.Dec.{T, eqb}
use denote.Enum.Declared.{tag_of}
use Rattle.columns.specs.declared.acts.Act.{Act}
use Rattle.columns.specs.contracts.acts.Act.{the_type}

abbrev has : List ℕ → ℕ → Bool
has [] x = false
has (k ∷ ks) x = eqb x k || has ks x

either : (b c : Bool) → T c → T (b || c)
either true c h = tt
either false c h = h

among : (ks : List ℕ) (x : ℕ) → OneOf ks x → T (has ks x)
among [] x h = h
among (k ∷ []) x h = subst T (sym (ap (λ (b : Bool). b || false) (eq-eqb x k h))) tt
among (k ∷ k' ∷ ks) x (inl h) = subst T (sym (ap (λ (b : Bool). b || has (k' ∷ ks) x) (eq-eqb x k h))) tt
among (k ∷ k' ∷ ks) x (inr h) = either (eqb x k) (has (k' ∷ ks) x) (among (k' ∷ ks) x h)

-- the variant's number is one of these: by computing, and as a match says it
abbrev pub By : List ℕ → Act → Type 0
By ks a = T (has ks (tag_of the_type a))

abbrev pub Found : List ℕ → Act → Type 0
Found ks a = Among ks (tag_of the_type a)

pub found : (ks : List ℕ) (a : Act) → Found ks a → By ks a
found ks a h = among ks (tag_of the_type a) (opened h)
