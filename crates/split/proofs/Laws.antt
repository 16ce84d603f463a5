-- What is written of splitting's reply is what the promise of `split` names.
use Rattle.rules.specs.declared.Refusal.{Refusal}
use Rattle.std.specs.Prelude.{Result, Ok, Err}
use mathlib.Core.Path.{◌≡◌, refl, sym, subst}
use mathlib.Core.Bool.{true}
use Prim.Native.Nat.{ℕ, ◌*◌, ◌≤◌, ◌<◌}
use native.Mathlib.Omega.{arith}
use lib.ListN.{length, take}
use Rattle.rules.specs.Text.Bytes.{Bytes, in_domain}
use Rattle.rules.specs.Text.Refusal.{Reply, answers, Writes, Lends, refusal_at}
use Rattle.rules.specs.Text.Normal.{normal}
use Rattle.rules.specs.Text.Comments.{stripped}
use Rattle.rules.specs.Text.Split.{steps, split}
use Rattle.laws_text.specs.Entry.{lends-refusal, lends-so}
use Rattle.laws_text.specs.Sizes.{steps-length}
pub use Rattle.laws_text.specs.Sizes.{tenfold, tenfold-less}
use Rattle.text.specs.Wrote.{Holds}
use Rattle.text.proofs.Wrote.{wrote-front}
use Rattle.split.specs.Lines.{split_normal, Lined}

-- ---- the answer

-- a reply that stands in the buffer b, handed out
module _ {reply : Reply Bytes} {b : Bytes} where
  pub out-refused : {e : Refusal} {r : Result ℕ Refusal} {out : Bytes} → Lined reply r b → r ≡ Err e → Lends reply out (Err e) out
  out-refused {e} {r} {out} w f =
      let z : e.offset ≡ 0 = rw f at w.plain in
      subst (λ (k : ℕ). Lends reply out (refusal_at e.number e.place k) out) (sym z) (lends-refusal (rw f at w.told))

  pub out-fits : {m : ℕ} {r : Result ℕ Refusal} → Lined reply r b → r ≡ Ok m → m ≤ length b
  out-fits w e = rw e at w.within

  pub out-answer : {m : ℕ} {r told : Result ℕ Refusal} {out out' : Bytes} → Lined reply told b → told ≡ Ok m → Lends (answers (take m b)) out r out'
      → Lends reply out r out'
  out-answer w e v = rw (rw e at w.told) v

-- ---- the text on its way

is-split : (t : Bytes) → split t ≡ split_normal (normal (stripped t))
unfolding split steps
is-split t = refl

module _ (t : Bytes) {a : Bytes} {n : ℕ} (w : Holds (normal (stripped t)) n a) where
  pub normal-fits : {x y : ℕ} → 10 * length t < x → y ≡ x → length (take n a) < y
  normal-fits h e = rw (wrote-front w) (omega (arith, steps-length t))

  pub split-so : {out out' : Bytes} {r : Result ℕ Refusal} → length t ≤ 4096 → in_domain t ≡ true → Lends (split_normal (take n a)) out r out' → Writes split t out r out'
  split-so h d v = lends-so h d (is-split t) (rw (wrote-front w) at v)
