use Rattle.std.proofs.Common.{refl}
use Rattle.dds_outlet.proofs.Keeping.{turns}
use Rattle.dds_outlet.proofs.board.look_once.Goals as goal

pub enter_as-requires : goal.enter_as-requires
enter_as-requires c x = turns _ _ x x refl
