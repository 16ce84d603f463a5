-- `marks`: the text of the marks is that of each of the three behind the one before, so the calls write it part by part.
use Rattle.write.proofs.Marks.{first-mark, mark-second, mark-third, marks-written}
use Rattle.write.proofs.words.marks.Goals as goal

pub marked-a-requires : goal.marked-a-requires
marked-a-requires c = first-mark _ _ _ c.requires

pub marked-e-requires : goal.marked-e-requires
marked-e-requires c =
    mark-second _ _ _ c.requires c.marked-a.ensures

pub marked-requires : goal.marked-requires
marked-requires c =
    mark-third _ _ _ c.requires c.marked-a.ensures c.marked-e.ensures

pub returns : goal.returns
returns c =
    marks-written _ _ _ c.requires c.marked-a.ensures c.marked-e.ensures c.marked.ensures
