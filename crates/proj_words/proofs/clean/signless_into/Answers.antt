use Rattle.std.proofs.Common.{◌≡◌, false, ◌&&◌, ◌∷◌, [], sym, ap, ◌∙◌, rules}
use Rattle.std.proofs.lemmas.List.{nil_from_length}
use Rattle.text.proofs.Finds.{starts-length}
use Rattle.rules.specs.Text.Bytes.{starts}
use Rattle.proj_words.specs.Clean.{gap, signless}
use Rattle.proj_words.proofs.Signs.{signing-room, signing-byte, signing_end, signless-sign, signless-stays}
use Rattle.proj_words.proofs.clean.signless_into.Goals as goal
use Rattle.proj_words.proofs.clean.signless_into.Goals.{then-is_gap+then-starts_at, else-is_gap, else-is_gap-via-then-is_gap+else-starts_at, else-is_gap-via-else-is_gap}

pub bounds-dst-o : goal.bounds-dst-o
bounds-dst-o c =
    (signing-room _ c.loop-b.invariant (ap signless c.in-Some.ensures.cases.0
    ∙ signless-sign c.in-Some.b.now c.in-Some.after.now (sym c.is_gap.ensures ∙ c.if-is_gap.true) (sym c.starts_at.ensures ∙ c.if-starts_at.true))).0

pub slice_bounds-rest-count : goal.slice_bounds-rest-count
slice_bounds-rest-count c = starts-length (43 ∷ []) c.in-Some.after.now (sym c.starts_at.ensures ∙ c.if-starts_at.true)

pub slice_bounds-rest-start : goal.slice_bounds-rest-start
slice_bounds-rest-start c = let h = starts-length (43 ∷ []) c.in-Some.after.now (sym c.starts_at.ensures ∙ c.if-starts_at.true) in search rules

pub bounds-dst-o-else-is_gap : goal.bounds-dst-o-else-is_gap
bounds-dst-o-else-is_gap c =
    let no : (gap c.in-Some.b.now && starts (43 ∷ []) c.in-Some.after.now) ≡ false = elim c.else-is_gap.branch [
      | else-is_gap-via-then-is_gap+else-starts_at w ↦ rw (sym c.is_gap.ensures ∙ w.if-is_gap.true, sym w.starts_at.ensures ∙ w.if-starts_at.false)
      | else-is_gap-via-else-is_gap w ↦ rw (sym c.is_gap.ensures ∙ w.if-is_gap.false)
    ] in
    (signing-room _ c.loop-b.invariant (ap signless c.in-Some.ensures.cases.0 ∙ signless-stays c.in-Some.b.now c.in-Some.after.now no)).0

pub loop-b-preserved : goal.loop-b-preserved
loop-b-preserved c = elim c.if-is_gap.branch [
  | then-is_gap+then-starts_at w ↦
      rw (w.dst-is, w.rest-is)
      (signing-byte _ c.loop-b.invariant (ap signless c.in-Some.ensures.cases.0
      ∙ signless-sign c.in-Some.b.now c.in-Some.after.now (sym c.is_gap.ensures ∙ w.if-is_gap.true) (sym w.starts_at.ensures ∙ w.if-starts_at.true)))
  | else-is_gap w ↦
      let no : (gap c.in-Some.b.now && starts (43 ∷ []) c.in-Some.after.now) ≡ false = elim w.else-is_gap.branch [
        | else-is_gap-via-then-is_gap+else-starts_at v ↦ rw (sym c.is_gap.ensures ∙ v.if-is_gap.true, sym v.starts_at.ensures ∙ v.if-starts_at.false)
        | else-is_gap-via-else-is_gap v ↦ rw (sym c.is_gap.ensures ∙ v.if-is_gap.false)
      ] in
      rw (w.dst-is, w.rest-is) (signing-byte _ c.loop-b.invariant (ap signless c.in-Some.ensures.cases.0 ∙ signless-stays c.in-Some.b.now c.in-Some.after.now no))
]

pub returns : goal.returns
returns c = signing_end c.loop-b.invariant (nil_from_length c.loop-b.rest.now c.in_default.ensures.cases)
