-- What `listen` is asked for.
use Rattle.std.proofs.Common.{Option, List}
use Rattle.clap.specs.Words.{Row, Text}
use Rattle.rtps_listen.specs.Options.{AreOptions}
use Rattle.rtps_listen.specs.Request.{Asks, AsksLive, IsDump, IsExplain, IsReplay, IsSamples, rows_behind}
use Rattle.rtps_listen.specs.declared.options.Options.{Options}
use Rattle.rtps_listen.specs.declared.request.Request.{Request}
use Rattle.rtps_listen.specs.declared.request.Request.TheVariants.{Announce, Dump, Explain, Listen, Replay, Samples, Stray}

-- a subcommand that is none of the others is `listen`
pub asks_live : (r : Request) (found : Option (Text × List Row)) (o : Options) → ¬ IsDump found → ¬ IsExplain found → ¬ IsReplay found
    → ¬ IsSamples found → AreOptions o (rows_behind found) → AsksLive o r → Asks r found
unfolding Asks AsksLive
asks_live (Dump asked) found o d e r s are h = absurd h
asks_live (Explain asked) found o d e r s are h = absurd h
asks_live (Replay asked) found o d e r s are h = absurd h
asks_live (Samples asked) found o d e r s are h = absurd h
asks_live (Listen asked) found o d e r s are h = (d, e, r, s, (o, are, h))
asks_live (Announce asked) found o d e r s are h = (d, e, r, s, (o, are, h))
asks_live (Stray asked) found o d e r s are h = (d, e, r, s, (o, are, h))
