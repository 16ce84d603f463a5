-- A text on its way: what is refused before it is normalised, what its normal form is, and that the reply of that is the text's.
use Rattle.rules.specs.declared.Refusal.{Refusal}
use Rattle.std.specs.Prelude.{Result, Ok, Err, ⊤}
use mathlib.Core.Path.{◌≡◌, refl, sym, ◌∙◌}
use Prim.Native.Nat.{ℕ, ◌+◌, ◌*◌, ◌≤◌, ◌<◌, min}
use mathlib.Core.Bool.{Bool, true, false, cond, not}
use native.Mathlib.Nat.{min-le_left}
use native.Mathlib.Omega.{arith}
use borrow.Author.Tests.{le-ltb}
use Rattle.laws_lists.specs.Tests.{never}
use lib.ListN.{length, take}
use lib.Dec.{ltb}
use Rattle.rules.specs.Text.Bytes.{Bytes, in_domain}
use Rattle.rules.specs.Text.Refusal.{refuses, tested, refusal, told}
use Rattle.rules.specs.Text.Normal.{normal}
use Rattle.rules.specs.Text.Comments.{stripped}
use Rattle.rules.specs.Text.Split.{steps}
use Rattle.rules.specs.Text.Reader.{definition, spans}
use Rattle.rules.specs.Pipeline.Prepare.{prepare_split, prepare_in}
use Rattle.rules.specs.declared.Mode.{Mode}
use Rattle.rules.specs.declared.Table.{Table}
use Rattle.laws_text.specs.Entry.{Tested, both_tests}
use Rattle.laws_text.specs.Sizes.{steps-length}
use Rattle.text.specs.Wrote.{Holds}
use Rattle.text.proofs.Wrote.{wrote-front}
use Rattle.prepare.specs.StepReply.{Bare, Roomy}
use Rattle.prepare.specs.Lent.{lent_to, preparing, with_theirs, normal_reply}
use Rattle.prepare.specs.declared.Preparing.{Preparing}
use Rattle.prepare.proofs.LentTable.{lent-refused}
use Rattle.prepare.proofs.StepWeight.{normal-bare, roomy-for}

is-prepare : (mode : Mode) (t : Bytes) → prepare_in mode t ≡ normal_reply mode (normal (stripped t))
unfolding prepare_in prepare_split steps spans definition normal_reply with_theirs
is-prepare mode t = refl

module _ (text : Bytes) (t : Table) where
  -- 1 and 2
  pub prepare-first : (mode : Mode) {tests : Result ⊤ Refusal} {e : Refusal} → Tested text tests → tests ≡ Err e → ◌≡◌ {A = Preparing} (record { answer = Err e; table = t }) (preparing mode text t)
  unfolding preparing tested both_tests
  prepare-first mode {tests} {e} f n = go (ltb 4096 (length text)) (in_domain text) (sym n ∙ f.exactly)
    where
      go : (long fine : Bool) → ◌≡◌ {A = Result ⊤ Refusal} (Err e) (cond long (refusal 1 0) (cond (not fine) (refusal 2 0) (Ok tt)))
          → ◌≡◌ {A = Preparing} (record { answer = Err e; table = t }) (lent_to (cond long (refuses 1 0) (cond (not fine) (refuses 2 0) (prepare_in mode text))) t)
      go true fine h = let g : e ≡ told 1 0 = cc h in rw g (lent-refused t refl)
      go false true h = absurd (never (cc h))
      go false false h = let g : e ≡ told 2 0 = cc h in rw g (lent-refused t refl)

  module _ {n : ℕ} {a : Bytes} (w : Holds (normal (stripped text)) n a) where
    pub normal-there : Bare (take n a)
    normal-there = rw (wrote-front w) (normal-bare (stripped text))

    normal-short : length (take n a) ≤ 10 * length text
    normal-short = rw (wrote-front w) (steps-length text)

    -- no span of it passes byte 40,960
    pub normal-most : length text ≤ 4096 → length (take n a) ≤ 40960
    normal-most h = omega (arith, normal-short)

    pub normal-room : {x y : ℕ} → 10 * length text < x → y ≡ x → length (take n a) < y
    normal-room h e = omega (arith, normal-short)

    pub normal-roomy : {x y z : ℕ} → min (10 * length text) 4096 + 9 ≤ x → 10 * length text ≤ y → z ≡ y → Roomy (length (take n a)) z x
    normal-roomy {x} {y} h l e =
        roomy-for (length (take n a)) normal-short e refl (record { first = omega (arith, l, min-le_left (10 * length text) 4096); second = h })

    pub prepare-so : (mode : Mode) {r : Preparing} → length text ≤ 4096 → in_domain text ≡ true → r ≡ lent_to (normal_reply mode (take n a)) t
        → r ≡ preparing mode text t
    unfolding preparing tested
    prepare-so mode h d f = f ∙ rw (wrote-front w) (sym (rw (le-ltb 4096 (length text) h, d, is-prepare mode text)))

-- nine bytes more than a tenfold text, or than 4,096
pub nine-more : (t : Bytes) {x y : ℕ} → min (10 * length t) 4096 + 9 ≤ x → x ≡ y → min (10 * length t) 4096 + 9 ≤ y
nine-more t h e = omega arith
