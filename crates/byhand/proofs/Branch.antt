-- A branch with no `else`, as a walk meets it where the outcome of its test is known.
--     passes-by        the test fails: the code after the branch runs
--     goes_in          the test holds: the branch's own code runs
-- Assumes `Logic`.
use mathlib.Core.List.{List}
use mathlib.Core.Bool.{true, false}
use seplogic.Ra.Ura.{Ura}
use mir.Syntax.{Opd as Operand, Body, seq, cond, skip}
use mir.Val.{vbool}
use prog.Wp.{Env, Calls, Loops, Wp, after_seq}
use types.Logic.{Logic}
use types.Kit.{Item, Post, any_q, post, runs, Step, ◌$◌, step}
use types.Run.{Opd, first, branches, skips}

module _ {M : Type 1} {𝓤 : Ura M} {𝓛 : Logic 𝓤} {K : Type 0} {Γ : List (Item 𝓤)} {E : Env 𝓤 𝓛.H} {C : Calls 𝓤 𝓛.H} {Λ : Loops 𝓤 𝓛.H} {q : Post 𝓤 𝓛.H} {c : Operand} {a b : Body} where
  open 𝓛 use {H}

  pub passes-by : K → Opd K 𝓛 Γ E c (vbool false) → Step K 𝓛 Γ (runs C Λ E b q) Γ (runs C Λ E (seq (cond c a skip) b) q)
  passes-by t o = step (λ s. first t $ branches t o (λ z. absurd z) (λ _. skips t $ record { prf = s.prf }))

  pub goes_in : K → Opd K 𝓛 Γ E c (vbool true) → Step K 𝓛 Γ (runs C Λ E a (any_q (after_seq 𝓤 H (Wp 𝓤 H C Λ E b (post 𝓤 H q)) (post 𝓤 H q)))) Γ (runs C Λ E (seq (cond c a skip) b) q)
  goes_in t o = step (λ s. first t $ branches t o (λ _. s) (λ z. absurd z))
