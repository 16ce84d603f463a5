-- The table of 64 that stands for a row: the check and the run find in it what they would find in the row.
use Rattle.std.specs.Prelude.{◌≡◌, refl, Bool, true, false, List, ltb, drop, Float, Some}
use Rattle.std.proofs.Common.{sym, ap, ◌∙◌, append-nil, lt-ltb, ltb-true, ltb-false}
use Prim.Native.Nat.{◌-◌, ◌≤◌, ◌<◌, min}
use native.Mathlib.Omega.{arith}
use Rattle.std.proofs.Math.ListN.{length, length-append, length-replicate}
use Rattle.std.proofs.Math.Seq.{take_all, take_at}
use Rattle.rules.specs.Pipeline.Record.{no_span, blank, listed, refusal18}
use Rattle.rules.specs.Pipeline.Check.{only, check, checked}
use Rattle.rules.specs.Pipeline.Run.{refused, runs, unless18}
use Rattle.rules.specs.declared.Step.{Step}
use Rattle.rules.specs.declared.Direction.{Direction}
use Rattle.rules.specs.declared.Verdict.TheVariants.{Refused}
use Rattle.rows.specs.Row.{blanks, laid, loaded}
use Rattle.rows.specs.LaidRow.{length-blanks, laid-length}

module _ (row : List Step) where
  -- a row of at most 64 records is what its table lists
  listed-short : length row ≤ 64 → listed (loaded row) ≡ row
  unfolding listed laid
  listed-short h =
      let m : min (length row) 64 ≡ length row = omega arith in
      let z : length row - 64 ≡ 0 = omega arith in
      rw (m, z, take_all (length row) row (omega arith), take_at row (drop (length row) blanks) (length row) refl) (append-nil row)

  -- a longer one makes a list as long
  listed-long : 64 < length row → length (listed (loaded row)) ≡ length row
  unfolding listed
  listed-long h =
      let m : min (length row) 64 ≡ 64 = omega arith in
      let s : length (laid row 64 blanks) ≡ 64 = laid-length row blanks 64 (omega arith) (rw length-blanks (omega arith)) ∙ length-blanks in
      rw (m, take_all (length row) (laid row 64 blanks) (rw s (omega arith)), length-append, s, length-replicate (length row - 64) blank) (omega arith)

  -- over 64 records: 18 at 0
  refused-long : (l : List Step) → length l ≡ length row → 64 < length row → refusal18 l ≡ Some 0
  unfolding refusal18
  refused-long l e h = rw (lt-ltb 64 (length l) (rw e h))

  -- so whatever is said of a list of records, and is one thing where that is refused, is said of the row
  stands : {X : Type 0} (said : List Step → X) (refusal : X) → ((l : List Step) → refusal18 l ≡ Some 0 → said l ≡ refusal) → said (listed (loaded row)) ≡ said row
  stands said refusal at-18 = go (ltb 64 (length row)) refl
    where
      go : (b : Bool) → ltb 64 (length row) ≡ b → said (listed (loaded row)) ≡ said row
      go true e =
          let h : 64 < length row = ltb-true 64 (length row) e in
          at-18 (listed (loaded row)) (refused-long (listed (loaded row)) (listed-long h) h) ∙ sym (at-18 row (refused-long row refl h))
      go false e = ap said (listed-short (ltb-false 64 (length row) e))

  pub check-stands : (d : Direction) → check d (listed (loaded row)) ≡ check d row
  unfolding check checked
  check-stands d = stands (check d) (only (Refused 18 0) no_span) (λ l e. rw e)

  pub runs-stands : (d : Direction) (xs store : List Float) → runs d (listed (loaded row)) xs store ≡ runs d row xs store
  unfolding runs unless18
  runs-stands d xs store = stands (λ l. runs d l xs store) (refused 18 0 xs store) (λ l e. rw e)
