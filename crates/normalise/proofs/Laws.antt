-- What `normalise` and `definition` return is what their promises name: the normal form, and the normalised definition, handed out.
use Rattle.rules.specs.declared.Refusal.{Refusal}
use Rattle.std.specs.Prelude.{Result}
use mathlib.Core.Path.{◌≡◌, refl}
use mathlib.Core.Bool.{true}
use Prim.Native.Nat.{ℕ, ◌≤◌}
use lib.ListN.{length, take}
use Rattle.rules.specs.Text.Bytes.{Bytes, in_domain}
use Rattle.rules.specs.Text.Normal.{normal, normalise}
use Rattle.rules.specs.Text.Comments.{stripped}
use Rattle.rules.specs.Text.Reader.{definition, define}
use Rattle.rules.specs.Text.Refusal.{answers, Writes, Lends}
use Rattle.laws_text.specs.Entry.{lends-so}
use Rattle.text.specs.Wrote.{Holds}
use Rattle.text.proofs.Wrote.{wrote-front}

is_normal : (t : Bytes) → normalise t ≡ answers (normal t)
unfolding normalise
is_normal t = refl

-- the normal form, as it stands in a, handed out
pub normalise-so : {t a out out' : Bytes} {n : ℕ} {r : Result ℕ Refusal} → length t ≤ 4096 → in_domain t ≡ true → Holds (normal t) n a → Lends (answers (take n a)) out r out'
    → Writes normalise t out r out'
normalise-so {t} short domain h w = lends-so short domain (is_normal t) (rw (wrote-front h) at w)

is-definition : (t : Bytes) → define t ≡ answers (normal (stripped t))
unfolding define definition
is-definition t = refl

-- the normalised definition, likewise
pub define-so : {t a out out' : Bytes} {n : ℕ} {r : Result ℕ Refusal} → length t ≤ 4096 → in_domain t ≡ true → Holds (normal (stripped t)) n a → Lends (answers (take n a)) out r out'
    → Writes define t out r out'
define-so {t} short domain h w = lends-so short domain (is-definition t) (rw (wrote-front h) at w)
