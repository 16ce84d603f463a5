-- "Tell me where the bad number is": the offset of refusal 12, "within the step's text as cut into parameters".
use Rattle.std.specs.Prelude.{ℕ, ◌+◌, min, Bool, cond, List, [], ◌∷◌, Some, None, Option}
use Rattle.rules.specs.Text.Bytes.{Bytes, words}
use Rattle.rules.specs.Text.Normal.{normal}
use Rattle.rules.specs.Text.Split.{step_text}
use Rattle.rules.specs.Text.Parameters.{Placed}
use Rattle.rules.specs.Text.Decimal.{pieces, broken_from}
use Rattle.rules.specs.Pipeline.Keys.{kind_of, misspelt}
use Rattle.rules.specs.declared.Kind.{Kind}
use Rattle.rules.specs.declared.Kind.TheVariants.{Flag, Series, Word}
use Rattle.rules.specs.declared.Name.{Name}

-- "the step's text as cut into parameters": normalised again, leading modifiers turned to the end
unfoldable pub cut_text : Bytes → Bytes
cut_text t = step_text (words (normal t))

-- where in a value the fault is: "the first element that breaks decimal form"; "A bad flag reports the first byte of its value"
unfoldable pub fault_in : Option Kind → Bytes → ℕ
fault_in (Some Flag) value = 0
fault_in (Some Series) value = broken_from (pieces value)
fault_in (Some Word) value = 0
fault_in None value = 0

-- a parameter that refusal 12 is for, and where in the step's text its fault is
unfoldable pub is_fault : Name → Placed → Bool
is_fault n q = misspelt (kind_of n q.given) q.given.value

unfoldable pub fault_at : Name → Placed → ℕ
fault_at n q = q.at + fault_in (kind_of n q.given) q.given.value

-- those of all parameters
unfoldable pub faults : Name → List Placed → List ℕ
faults n [] = []
faults n (q ∷ qs) = cond (is_fault n q) (fault_at n q ∷ faults n qs) (faults n qs)

-- "with both, the earlier byte is reported"
unfoldable pub earliest : List ℕ → ℕ
earliest [] = 0
earliest (x ∷ []) = x
earliest (x ∷ y ∷ l) = min x (earliest (y ∷ l))

-- of a step by its name, if it is one of the operators'
unfoldable pub offset_by : Option Name → List Placed → ℕ
offset_by None qs = 0
offset_by (Some n) qs = earliest (faults n qs)
