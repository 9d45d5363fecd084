use Rattle.std.proofs.Common.{◌≡◌, ◌∙◌, rules, sym, true}
use Rattle.std.specs.Str.{bytes_eq}
use Rattle.rtps_listen.specs.Line.{own_text}
use Rattle.rtps_listen.proofs.Taken.{renamed_unmatched}
use Rattle.rtps_listen.proofs.appearing.announced_config.Goals as goal

pub returns-in-Err-clause-fault : goal.returns-in-Err-clause-fault
returns-in-Err-clause-fault g c =
    let unset : bytes_eq c.args.options.now.own.now own_text ≡ true = search rules in (
      c.args.address,
      c.prefix_at-config.result,
      c.requires.given.1,
      rw unset (c.in-Ok.time, tt, c.prefix_at-config.ensures),
      c.requires.given.2.fixed,
      renamed_unmatched c.args.options.now c.requires.given.0 c.prefix_at-config.result c.requires.given.1 c.args.config c.in-Err.field-0
          c.requires.given.3 (sym c.check.ensures.checked ∙ c.in-Err.is),
    )
