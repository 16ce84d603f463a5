-- `answer`: the text's normal form stands in a; it has no separator but `|` and is no longer than 40,960 bytes and than the buffers, which is what `prepare_steps` asks for.
use Rattle.prepare.proofs.TextReply.{normal-there, normal-most, normal-room, normal-roomy, prepare-so}
use Rattle.prepare.proofs.answer.Goals as goal

pub prepare_steps-requires : goal.prepare_steps-requires
prepare_steps-requires c =
    let roomy = normal-roomy c.args.text.now c.args.table c.clean_into-n.ensures c.requires.text_in_bounds_4 c.requires.text_in_bounds_2 c.clean_into-n.auto.b in
    let room = normal-room c.args.text.now c.args.table c.clean_into-n.ensures c.requires.text_in_bounds_3 c.clean_into-n.auto.c in record { bare = normal-there c.args.text.now c.args.table c.clean_into-n.ensures; normal_len_bound = normal-most c.args.text.now c.args.table c.clean_into-n.ensures c.requires.text_len_bound; steps_len = c.requires.steps_len; roomy = roomy; normal_in_bounds = room }

pub returns : goal.returns
returns c =
    prepare-so c.args.text.now c.args.table c.clean_into-n.ensures c.args.mode c.requires.text_len_bound c.requires.text_value
    c.prepare_steps.ensures
