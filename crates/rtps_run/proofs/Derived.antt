-- The order of turns that is derived in code.
use Rattle.std.proofs.Common.{◌≡◌, refl}
use Rattle.rtps_run.specs.contracts.turn.TurnOrd.TheImpl as derived
use Rattle.rtps_run.specs.declared.turn.ReportKind.{ReportKind}
use Rattle.rtps_run.specs.declared.turn.ReportKind.TheVariants as kind
use Rattle.rtps_run.specs.declared.turn.Turn.{Turn}
use Rattle.rtps_run.specs.Turn.{turn_order}

-- it is the one that is meant
pub agrees : (a b : Turn) → derived.ghosts.cmp a b ≡ turn_order a b
agrees a b = by_kind a.kind b.kind
  where
    by_kind : (k l : ReportKind) → derived.ghosts.cmp (record a { kind = k }) (record b { kind = l }) ≡ turn_order (record a { kind = k }) (record b { kind = l })
    by_kind kind.Notice kind.Notice = refl
    by_kind kind.Notice kind.Answer = refl
    by_kind kind.Answer kind.Notice = refl
    by_kind kind.Answer kind.Answer = refl
