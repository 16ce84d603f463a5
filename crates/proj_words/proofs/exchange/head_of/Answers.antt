-- `head_of`: where there is no `proj=`, the words stay. Else its value stands in front, and the first word is where it was.
use Rattle.std.proofs.Common.{◌∷◌, length, ap, ◌∙◌, arith, rules}
use Rattle.std.proofs.lemmas.List.{take_rest}
use Rattle.rules.specs.Text.Ascii.{ascii}
use Rattle.rules.specs.Text.Bytes.{words}
use Rattle.laws_text.specs.Sizes.{words-few}
use Rattle.proj_words.specs.Heads.{coming, in_place}
use Rattle.proj_words.proofs.Facts.{exchanged-few}
use Rattle.proj_words.proofs.Heads.{pipeline-none, head-without, proj-room, pipeline-some, head-with}
use Rattle.proj_words.proofs.exchange.head_of.Goals as goal

pub slice_bounds-result-count : goal.slice_bounds-result-count
slice_bounds-result-count c = proj-room c.first_proj-init.ensures c.in-Some.is

pub slice_bounds-result-start : goal.slice_bounds-result-start
slice_bounds-result-start c = let h = proj-room c.first_proj-init.ensures c.in-Some.is in search rules

pub returns-in-None : goal.returns-in-None
unfolding coming
returns-in-None c =
    let is = head-without c.first_proj-init.ensures c.in-None.is _ _ c.next-first.ensures.steps in
    record {
      init = c.first_proj-init.ensures.init;
      pipeline = pipeline-none c.first_proj-init.ensures c.in-None.is;
      words = is;
      few = omega (arith, ap length is, exchanged-few (words c.args.s.now), words-few c.args.s.now);
    }

pub returns-in-Some : goal.returns-in-Some
unfolding coming ascii
returns-in-Some c =
    let is = ap (λ t. t ∷ in_place c.moved.result (words c.next-first.new.self.rest.now)) (take_rest c.in-Some.proj.now 5)
    ∙ head-with c.first_proj-init.ensures c.in-Some.is _ _ _ c.next-first.ensures.steps c.moved.ensures in
    record {
      init = c.first_proj-init.ensures.init;
      pipeline = pipeline-some c.first_proj-init.ensures c.in-Some.is c.is_same.ensures;
      words = is;
      few = omega (arith, ap length is, exchanged-few (words c.args.s.now), words-few c.args.s.now);
    }
