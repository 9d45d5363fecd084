use Rattle.idl_files.proofs.files.+add_texts.Given as goal

abbrev pub decreases-add_texts : goal.decreases-add_texts
decreases-add_texts g l = l.most
