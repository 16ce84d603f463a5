-- The span of the step that the check names.
use mathlib.Core.Path.{◌≡◌, sym, ap, ◌∙◌}
use Prim.Native.Nat.{ℕ, ◌+◌, ◌-◌, ◌<◌}
use mathlib.Core.List.{List}
use native.Mathlib.Omega.{arith}
use lib.ListN.{length, get_or, take}
use lib.Seq.{drop-cons, get_or-take}
use Rattle.rules.specs.Pipeline.Record.{blank, listed}
use Rattle.rules.specs.Pipeline.Check.{span_at}
use Rattle.rules.specs.declared.Step.{Step}
use Rattle.rules.specs.declared.Table.{Table}
use Rattle.record.proofs.SoundTable.{Sound}

-- a record that a list has is the same, whichever is read behind its end
either-default : (l : List Step) (i : ℕ) (y z : Step) → i < length l → get_or l i y ≡ get_or l i z
either-default l i y z h = cc (drop-cons l i y h, drop-cons l i z h)

-- the record at i of the 64 is the one at place i + 1 of the table
pub span-named : {t : Table} {i : ℕ} (z : Step) → Sound t → i < t.n → (get_or t.steps i z).span ≡ span_at (i + 1) (listed t)
unfolding span_at
span-named {t} {i} z sound h =
    ap (λ (s : Step). s.span) (sym (get_or-take t.n t.steps i z h) ∙ either-default (take t.n t.steps) i z blank (omega (arith, h, sound.many)))
    ∙ ap (λ (l : List Step). (get_or l i blank).span) (sym sound.rows)
    ∙ ap (λ (k : ℕ). (get_or (listed t) k blank).span) (one_less i)
  where
    one_less : (i : ℕ) → i ≡ i + 1 - 1
    one_less i = omega arith
