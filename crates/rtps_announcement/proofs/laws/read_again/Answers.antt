use Rattle.rtps_announcement.proofs.Gaps.{gap_is_read_again, names_its_numbers}
use Rattle.rtps_announcement.proofs.Heartbeats.{heartbeat_is_read_again}
use Rattle.rtps_announcement.proofs.Participants.{participant_end_is_read_again, participant_is_read_again}
use Rattle.rtps_announcement.proofs.Readers.{reader_end_is_read_again, reader_is_read_again}
use Rattle.rtps_announcement.proofs.laws.read_again.Goals as goal

pub returns : goal.returns
returns c = record {
  gap = gap_is_read_again;
  numbers = names_its_numbers;
  heartbeat = heartbeat_is_read_again;
  participant = participant_is_read_again;
  participant_gone = participant_end_is_read_again;
  reader = reader_is_read_again;
  reader_gone = reader_end_is_read_again;
}
