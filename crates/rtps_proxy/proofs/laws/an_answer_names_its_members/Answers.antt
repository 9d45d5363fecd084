use Rattle.rtps_proxy.proofs.Members.{members_are, missing_are}
use Rattle.rtps_proxy.proofs.laws.an_answer_names_its_members.Goals as goal

pub returns-clause-missing : goal.returns-clause-missing
returns-clause-missing c = missing_are

pub returns-clause-members : goal.returns-clause-members
returns-clause-members c = λ settled base announced earlier. members_are settled base announced earlier
