-- What a line asks for, by the subcommand that clap finds in it and by what clap finds after that;
-- and what of it is refused.
use Rattle.std.specs.Prelude.{◌≡◌, ◌==◌, ◌||◌, List, [], Bool, false, not, IsTrue, Option, Some, None, codes, Result, Err, IfErr}
use Rattle.std.specs.Option.{is_some}
use Rattle.clap.specs.Words.{Row, Text}
use Rattle.rtps_files.specs.Prefixes.{IsPrefixText}
use Rattle.rtps_listen.specs.declared.request.Request.{Request}
use Rattle.rtps_listen.specs.declared.request.Request.TheVariants.{Announce, Dump, Explain, Listen, Replay, Samples, Stray}
use Rattle.rtps_listen.specs.declared.fault.ListenFault.{ListenFault}
use Rattle.rtps_listen.specs.declared.fault.ListenFault.TheVariants.{BadPrefix, OnlyAnnounced, Run}
use Rattle.rtps_listen.specs.Addresses.{IsLiveCause, RefusesAddress}
use Rattle.rtps_listen.specs.Appearing.{IsAppearCause, RefusesReach}
use Rattle.rtps_listen.specs.Configs.{IsReplayCause, Refuses}
use Rattle.rtps_listen.specs.Options.{AreOptions}
use Rattle.rtps_listen.specs.declared.options.Options.{Options}

-- no words are `dump -`
abbrev pub IsDump : Option (Text × List Row) → Type 0
IsDump None = Unit {0}
IsDump (Some found) = found.0 ≡ codes "dump"

-- the subcommand is `explain`
abbrev pub IsExplain : Option (Text × List Row) → Type 0
IsExplain None = ⊥
IsExplain (Some found) = found.0 ≡ codes "explain"

-- the subcommand is `replay`
abbrev pub IsReplay : Option (Text × List Row) → Type 0
IsReplay None = ⊥
IsReplay (Some found) = found.0 ≡ codes "replay"

-- the subcommand is `samples`
abbrev pub IsSamples : Option (Text × List Row) → Type 0
IsSamples None = ⊥
IsSamples (Some found) = found.0 ≡ codes "samples"

-- what was found after the subcommand
abbrev pub rows_behind : Option (Text × List Row) → List Row
rows_behind None = []
rows_behind (Some found) = found.1

-- an option is given that only a participant which announces itself has
abbrev pub has_stray : Options → Bool
has_stray options =
    is_some options.peers || (options.no_multicast || not (options.lease == 0))

-- what `listen` with these options is
unfoldable pub AsksLive : Options → Request → Type 0
AsksLive options (Announce asked) = (asked ≡ options) × IsTrue options.announce
AsksLive options (Stray asked) =
    (asked ≡ options) × (options.announce ≡ false) × IsTrue (has_stray options)
AsksLive options (Listen asked) =
    (asked ≡ options) × (options.announce ≡ false) × (has_stray options ≡ false)
AsksLive options _ = ⊥

-- this is what the words ask for; the only other subcommand is `listen`
unfoldable pub Asks : Request → Option (Text × List Row) → Type 0
Asks (Dump options) found = IsDump found × AreOptions options (rows_behind found)
Asks (Explain options) found = IsExplain found × AreOptions options (rows_behind found)
Asks (Replay options) found = IsReplay found × AreOptions options (rows_behind found)
Asks (Samples options) found = IsSamples found × AreOptions options (rows_behind found)
Asks request found =
    ¬ IsDump found × ¬ IsExplain found × ¬ IsReplay found × ¬ IsSamples found
    × ((options : Options) × AreOptions options (rows_behind found) × AsksLive options request)

-- what is wrong if `dump` or `explain` ends with this fault: its prefix, or its run
abbrev pub IsDumpCause : Text → ListenFault → Type 0
IsDumpCause own BadPrefix = ¬ IsPrefixText own
IsDumpCause own (Run fault) = Unit {0}
IsDumpCause own _ = ⊥

-- what is refused before a file is opened or a domain is joined, and for no other cause
unfoldable pub RefusesFirst : Request → Result (Unit {0}) ListenFault → Type 0
RefusesFirst (Dump options) result =
    (¬ IsPrefixText options.own.now → result ≡ Err BadPrefix)
    × IfErr result (IsDumpCause options.own.now)
RefusesFirst (Explain options) result =
    (¬ IsPrefixText options.own.now → result ≡ Err BadPrefix)
    × IfErr result (IsDumpCause options.own.now)
RefusesFirst (Replay options) result = Refuses options result × IfErr result (IsReplayCause options)
RefusesFirst (Samples options) result =
    Refuses options result × IfErr result (IsReplayCause options)
RefusesFirst (Listen options) result =
    Refuses options result × RefusesAddress options result × IfErr result (IsLiveCause options)
RefusesFirst (Announce options) result =
    Refuses options result × RefusesReach options result × IfErr result (IsAppearCause options)
RefusesFirst (Stray options) result = result ≡ Err OnlyAnnounced
