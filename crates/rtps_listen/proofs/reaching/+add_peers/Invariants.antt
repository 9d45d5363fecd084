use Rattle.rtps_listen.proofs.reaching.+add_peers.Given as goal

abbrev pub decreases-add_peers : goal.decreases-add_peers
decreases-add_peers l = l.most
