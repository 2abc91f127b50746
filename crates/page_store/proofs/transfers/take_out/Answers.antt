use Rattle.page_store.proofs.transfers.take_out.Goals as goal

pub forget-requires : goal.forget-requires
forget-requires c = (c.requires.others c.take_frame-at.result c.take_frame-at.ensures.frame).2

pub pair-requires-clause-copy : goal.pair-requires-clause-copy
pair-requires-clause-copy c = (c.requires.others c.take_frame-at.result c.take_frame-at.ensures.frame).3
