-- What it is for a call to keep its word: a statement of the kit's about the call's own code, of which the proof is the call's own.
use Rattle.std.specs.Prelude.{List, [], ◌∷◌}
use seplogic.Ra.Ura.{Ura}
use base.Logic.{SProp, emp, sep}
use mir.Syntax.{Callee}
use prog.Wired.{Code, Wired}
use contract.Monad.{fact}
use contract.Lifetimes.{Lfts}
use borrow.Fn.World.{World}
use denote.Triple.Entry.{Args, Res}
use denote.Triple.Clauses.{Ended, Clauses, AtExit, closing}
use denote.Triple.Spec.{Meets}

-- what may be asked of whoever calls: facts of the arguments, none or several (`call` is the call's signature)
abbrev pub Asked : Ended → Type 1
Asked call = (lifetimes : Lfts call.signature.lifetimes) → Args call.signature lifetimes → List (Type 0)

-- what may be said of the call: a fact of the arguments, of the result, and of the arguments at exit
abbrev pub Said : Ended → Type 1
Said call = (lifetimes : Lfts call.signature.lifetimes) → Args call.signature lifetimes → Res call.signature lifetimes → AtExit call lifetimes → Type 0

abbrev pub together : {M : Type 1} (𝓤 : Ura M) → List (Type 0) → SProp 𝓤
together 𝓤 [] = emp 𝓤
together 𝓤 (φ ∷ []) = fact 𝓤 φ
together 𝓤 (φ ∷ ψ ∷ l) = sep 𝓤 (fact 𝓤 φ) (together 𝓤 (ψ ∷ l))

-- the contract that asks these facts, and says this one
abbrev pub agreed : (w : World) (call : Ended) → Asked call → Said call → Clauses w.𝓤 call
agreed w call asked said = λ lifetimes before. record {
  ghost = Unit {0};
  requires = λ g. together w.𝓤 (asked lifetimes before);
  ensures = λ g result after. fact w.𝓤 (said lifetimes before result after);
}

-- The code meets it: wherever the name of the call stands for this code, and the names in it for theirs (`Wired`), what is called by that name with
-- arguments of its types of which the asked facts hold does nothing undefined and returns, and then the fact holds.
abbrev pub KeepsIf : World → (call : Ended) → Code → Callee → Asked call → Said call → Type 1
KeepsIf w call code name asked said =
    Wired w.𝓡.env code → Meets w.𝓛 call.signature (w.𝓡.run (w.𝓡.env name)) (closing w.𝓛 call (agreed w call asked said))

-- The same where nothing is asked.
abbrev pub Keeps : World → (call : Ended) → Code → Callee → Said call → Type 1
Keeps w call code name said = KeepsIf w call code name (λ lifetimes before. []) said
