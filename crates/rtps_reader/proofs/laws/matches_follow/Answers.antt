use Rattle.std.proofs.Common.{refl}
use Rattle.rtps_reader.specs.Reader.{fresh_with}
use Rattle.rtps_reader.proofs.Begun.{match_begun}
use Rattle.rtps_reader.proofs.Following.{match_ended, match_extended}
use Rattle.rtps_reader.proofs.laws.matches_follow.Goals as goal

pub returns-clause-taken : goal.returns-clause-taken
returns-clause-taken c = λ r writer other event. match_extended other writer event r.matches

pub returns-clause-begun : goal.returns-clause-begun
returns-clause-begun c = λ r writer other locators. match_begun other (fresh_with r (writer, locators)) r.matches

pub returns-clause-ended : goal.returns-clause-ended
returns-clause-ended c = λ r writer other. match_ended other writer r.matches

pub returns-clause-started : goal.returns-clause-started
returns-clause-started c = λ r own entity is_reliable other. refl

pub returns-clause-stopped : goal.returns-clause-stopped
returns-clause-stopped c = λ r other. refl
