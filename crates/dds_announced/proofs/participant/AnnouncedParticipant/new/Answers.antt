use Rattle.std.proofs.Common.{rules, ◌≡◌, ◌∙◌, List, [], ap, append-nil, map, sym, subst}
use Rattle.std.specs.Prelude.{Err}
use Rattle.rtps_announcer.specs.Standing.{StandsAt as HasHeard}
use Rattle.rtps_announcer.specs.declared.hearing.Hearing.{Hearing}
use Rattle.rtps_announcer.specs.declared.hearing.Hearing.TheVariants.{Joins}
use Rattle.rtps_discovery.specs.Config.{check_of}
use Rattle.dds_announced.specs.Announced.{Begins, BlamesReader}
use Rattle.dds_announced.specs.Announcing.{fault_of}
use Rattle.dds_announced.specs.declared.announcing.AnnouncedError.{AnnouncedError}
use Rattle.dds_announced.proofs.Beginning.{begins_err, begins_ok, begins_voiceless, blames_refused, blames_voiceless}
use Rattle.dds_announced.specs.Hearings.{heard_at}
use Rattle.dds_announced.specs.Voice.{joined_by}
use Rattle.dds_announced.proofs.Joined.{joins_each}
use Rattle.dds_announced.proofs.participant.AnnouncedParticipant.new.Goals as goal

pub returns-in-Err-clause-begins : goal.returns-in-Err-clause-begins
returns-in-Err-clause-begins g c =
    subst (λ (e : AnnouncedError). Begins (fault_of c.args.announcing) (check_of c.args.config) (Err e))
    (sym c.voiceless.ensures)
    (begins_voiceless _ (fault_of c.args.announcing) (check_of c.args.config) c.in-Err.fault c.in-Err.ensures.fault)

pub returns-in-Err-clause-too_long : goal.returns-in-Err-clause-too_long
returns-in-Err-clause-too_long g c =
    subst (λ (e : AnnouncedError). BlamesReader c.args.config.own c.args.config.readers.items e)
    (sym c.voiceless.ensures)
    (blames_voiceless c.args.config.own c.args.config.readers.items c.in-Err.fault c.in-Err.ensures.too_long)

pub returns-in-Ok-new-clause-begins : goal.returns-in-Ok-new-clause-begins
returns-in-Ok-new-clause-begins g c =
    begins_ok (fault_of c.args.announcing) (check_of c.args.config) _ _ (search rules) c.in-Ok-new.ensures.starts

pub returns-in-Err-new-clause-begins : goal.returns-in-Err-new-clause-begins
returns-in-Err-new-clause-begins g c =
    subst (λ (e : AnnouncedError). Begins (fault_of c.args.announcing) (check_of c.args.config) (Err e))
    (sym c.refused.ensures)
    (begins_err _ _ (fault_of c.args.announcing) (check_of c.args.config) c.in-Err-new.error
    (search rules) c.in-Err-new.ensures.starts)

pub returns-in-Err-new-clause-too_long : goal.returns-in-Err-new-clause-too_long
returns-in-Err-new-clause-too_long g c =
    subst (λ (e : AnnouncedError). BlamesReader c.args.config.own c.args.config.readers.items e)
    (sym c.refused.ensures) (blames_refused c.args.config.own c.args.config.readers.items c.in-Err-new.error)

pub returns-in-Ok-new-clause-heard : goal.returns-in-Ok-new-clause-heard
returns-in-Ok-new-clause-heard g c =
    let config = c.args.config in
    let v = c.in-Ok.voice in
    let same : joined_by v ≡ heard_at config [] =
    ap (λ l. map (λ r. Joins) l) c.in-Ok.ensures.readers ∙ joins_each config.own config.readers.items
    ∙ sym (append-nil (map (λ r. Joins) config.readers.items)) in
    subst (λ (l : List Hearing). HasHeard l v.announcer) same c.in-Ok.ensures.heard
