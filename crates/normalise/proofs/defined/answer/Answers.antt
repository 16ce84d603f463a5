-- `answer`: a holds the text without comments, normalised, and it is handed out.
use Rattle.normalise.proofs.Laws.{define-so}
use Rattle.normalise.proofs.defined.answer.Goals as goal

pub returns : goal.returns
returns g c =
    define-so c.requires.text_len_bound c.requires.text_value c.clean_into-n.ensures c.hand_out.ensures
