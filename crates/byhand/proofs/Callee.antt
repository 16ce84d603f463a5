-- A call of a proved function, as one step of a walk.
--     calls-known      the head of the context is what the callee asks. Once it has returned v, the context has the callee's tokens and what the result owns, and the callee's promise φ is known of the result.
--                      It is for a callee whose `ensures` is a fact that says nothing of last values: one with no `&mut`.
--     calls-lasts      the same for a callee that has a `&mut`: the context has also what is said of the last values ws, and the promise φ is known of the result and of ws.
--     result-is, result-has    a call's result is some machine value v that is related to r, which the promise says to be t: so v is t's machine value, and that is related to t.
-- Assumes `Logic`, and that the table of calls is monotone under a frame.
use mathlib.Core.Path.{◌≡◌, ap, subst, ◌∙◌}
use mathlib.Core.List.{List, [], ◌∷◌}
use seplogic.Ra.Ura.{Ura}
use mir.Syntax.{Callee, Place, Opd as Operand, Body, seq, call}
use mir.Val.{Val}
use base.Logic.{ent, via, snd∗, ex_e, id⊢}
use prog.Wp.{Env, Calls, Loops}
use types.Logic.{Logic, sem}
use contract.Monad.{fact}
use sound.WpLaws.{FmC}
use types.Kit.{Item, ‵, raw, ◌⊛◌, some, later, Post, runs, lands, Seq, ◌$◌, move, use1, split, pick, await}
use types.Run.{Opds}
use denote.Signature.{type_at}
use denote.RattleType.{RattleType}
use denote.Laws.{Is, Tells}
use denote.Steps.{heard, only}
use denote.Triple.Statement.{Triple}
use denote.Triple.Entry.{Res, alive}
use denote.Triple.Spec.{triple_of}
use denote.Triple.Clauses.{Ended, Clauses, Lasts, AtExit, closing, ensured, lasts, at_exit}
use denote.Triple.Call.{calls_at}

module _ {M : Type 1} {𝓤 : Ura M} {𝓛 : Logic 𝓤} {K : Type 0} {Γ : List (Item 𝓤)} {E : Env 𝓤 𝓛.H} {C : Calls 𝓤 𝓛.H} {Λ : Loops 𝓤 𝓛.H} {f : Callee} {xs : List Operand} {q : Post 𝓤 𝓛.H} {d : Place} {rest : Body} where
  open 𝓛 use {H}

  pub calls-known : K → FmC 𝓤 H 𝓛.laws C → (T : Ended) (c : Clauses 𝓤 T) → Triple 𝓤 (C f) (triple_of 𝓛 T.signature (closing 𝓛 T c))
      → (y : (triple_of 𝓛 T.signature (closing 𝓛 T c)).Ghost) (φ : Res T.signature y.0.0 → Type 0)
      → ((r : Res T.signature y.0.0) (e : AtExit T y.0.0) → ent 𝓤 ((c y.0.0 y.0.3).ensures y.1 r e) (fact 𝓤 (φ r)))
      → Opds K 𝓛 (raw ((triple_of 𝓛 T.signature (closing 𝓛 T c)).pre y) ∷ Γ) E xs ((triple_of 𝓛 T.signature (closing 𝓛 T c)).args y)
      → ((v : Val) (r : Res T.signature y.0.0) → φ r
      → Seq K 𝓛 (raw (alive 𝓛 T.signature y.0.0 y.0.1) ∷ ‵ ((type_at T.signature.result y.0.0).own_val r (v ∷ [])) ∷ Γ) (lands C Λ E d v rest q))
      → Seq K 𝓛 (raw ((triple_of 𝓛 T.signature (closing 𝓛 T c)).pre y) ∷ Γ) (runs C Λ E (seq (call f xs d) rest) q)
  calls-known t fm T c met y φ promise os k =
      calls_at t fm (triple_of 𝓛 T.signature (closing 𝓛 T c)) met y os (λ v.
      use1 𝓛 (later (some (λ (r : Res T.signature y.0.0). (raw (alive 𝓛 T.signature y.0.0 y.0.1) ⊛ ‵ ((type_at T.signature.result y.0.0).own_val r (v ∷ []))) ⊛ raw (ensured 𝓛 T c y.0.0 y.0.3 y.1 r)))) (id⊢ 𝓤 _) $ await t tt $ pick t (λ r.
      split t $ move t (1 ∷ []) $ use1 𝓛 (raw (fact 𝓤 (φ r)))
      (ex_e 𝓤 _ (λ ws. via 𝓤 _ (snd∗ 𝓤 (sem 𝓛 (lasts T y.0.0 y.0.3 ws)) ((c y.0.0 y.0.3).ensures y.1 r (at_exit T y.0.0 y.0.3 ws))) (promise r (at_exit T y.0.0 y.0.3 ws)))) $
      heard t (φ r) (λ e. split t $ k v r e)))

  pub calls-lasts : K → FmC 𝓤 H 𝓛.laws C → (T : Ended) (c : Clauses 𝓤 T) → Triple 𝓤 (C f) (triple_of 𝓛 T.signature (closing 𝓛 T c))
      → (y : (triple_of 𝓛 T.signature (closing 𝓛 T c)).Ghost) (φ : Res T.signature y.0.0 → Lasts T y.0.0 y.0.3 → Type 0)
      → ((r : Res T.signature y.0.0) (ws : Lasts T y.0.0 y.0.3) → ent 𝓤 ((c y.0.0 y.0.3).ensures y.1 r (at_exit T y.0.0 y.0.3 ws)) (fact 𝓤 (φ r ws)))
      → Opds K 𝓛 (raw ((triple_of 𝓛 T.signature (closing 𝓛 T c)).pre y) ∷ Γ) E xs ((triple_of 𝓛 T.signature (closing 𝓛 T c)).args y)
      → ((v : Val) (r : Res T.signature y.0.0) (ws : Lasts T y.0.0 y.0.3) → φ r ws
      → Seq K 𝓛 (‵ (lasts T y.0.0 y.0.3 ws) ∷ raw (alive 𝓛 T.signature y.0.0 y.0.1) ∷ ‵ ((type_at T.signature.result y.0.0).own_val r (v ∷ [])) ∷ Γ) (lands C Λ E d v rest q))
      → Seq K 𝓛 (raw ((triple_of 𝓛 T.signature (closing 𝓛 T c)).pre y) ∷ Γ) (runs C Λ E (seq (call f xs d) rest) q)
  calls-lasts t fm T c met y φ promise os k =
      calls_at t fm (triple_of 𝓛 T.signature (closing 𝓛 T c)) met y os (λ v.
      use1 𝓛 (later (some (λ (r : Res T.signature y.0.0). (raw (alive 𝓛 T.signature y.0.0 y.0.1) ⊛ ‵ ((type_at T.signature.result y.0.0).own_val r (v ∷ [])))
      ⊛ some (λ (ws : Lasts T y.0.0 y.0.3). ‵ (lasts T y.0.0 y.0.3 ws) ⊛ raw ((c y.0.0 y.0.3).ensures y.1 r (at_exit T y.0.0 y.0.3 ws)))))) (id⊢ 𝓤 _) $ await t tt $ pick t (λ r.
      split t $ move t (1 ∷ []) $ pick t (λ ws. split t $ move t (1 ∷ []) $ use1 𝓛 (raw (fact 𝓤 (φ r ws))) (promise r ws) $
      heard t (φ r ws) (λ e. move t (1 ∷ []) $ split t $ move t (2 ∷ []) $ k v r ws e))))

module _ (R : RattleType) (one : R.Denot → Val) (tells : Tells R (Is R) (λ x. one x ∷ [])) (r t : R.Denot) (v : Val) (is : Is R r (v ∷ [])) (e : r ≡ t) where
  pub result-is : v ≡ one t
  result-is = ap only (tells r (v ∷ []) is) ∙ ap one e

  pub result-has : Is R t (one t ∷ [])
  result-has = subst (λ (x : R.Denot). Is R x (one x ∷ [])) e (subst (Is R r) (tells r (v ∷ []) is) is)
