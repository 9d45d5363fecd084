use Rattle.rtps_text.proofs.live.Live.new.Goals as goal

pub returns-clause-live : goal.returns-clause-live
returns-clause-live g c = record { own = c.requires.own; alone = c.requires.alone }
