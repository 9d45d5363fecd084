-- The command line of the program, as clap's definitions read it.
use Rattle.std.specs.Prelude.{◌≡◌, ℕ, List, false, Some, true, pos, codes, [], ◌∷◌}
use Rattle.clap.specs.Words.{App, Rule, app_of, rule_of, new_app, new_rule, with_rule, with_subcommand}
use Rattle.clap.specs.declared.builder.command.Command.{Command}
use Rattle.clap.specs.declared.builder.command.Command.TheViews.{out-Command}
use Rattle.clap.specs.declared.builder.arg.Arg.{Arg}
use Rattle.clap.specs.declared.builder.ArgAction.TheVariants.{SetTrue}
use Rattle.clap.specs.declared.builder.value_parser.ValueParser.TheVariants.{Signed}

-- `FILE`
abbrev pub file_rule : Rule
file_rule = record (new_rule (codes "file")) { value_names = 1; required = true }

-- the prefix if none is given, in hex
abbrev pub own_text : List ℕ
own_text = codes "0b0b0b0b0b0b0b0b0b0b0b0b"

-- `--own HEX`
abbrev pub own_rule : Rule
own_rule =
    record (new_rule (codes "own"))
    { value_names = 1; long = Some (codes "own"); defaults = own_text ∷ [] }

-- `--workers` 1 to 64
abbrev pub workers_rule : Rule
workers_rule =
    record (new_rule (codes "workers")) {
      value_names = 1;
      long = Some (codes "workers");
      parser = Some (Signed (pos 1) (pos 64));
      defaults = codes "1" ∷ [];
    }

-- `--batch` 1 to 4096
abbrev pub batch_rule : Rule
batch_rule =
    record (new_rule (codes "batch"))
    { value_names = 1; long = Some (codes "batch"); parser = Some (Signed (pos 1) (pos 4096)) }

-- `--readers` 1 to 8
abbrev pub readers_rule : Rule
readers_rule =
    record (new_rule (codes "readers")) {
      value_names = 1;
      long = Some (codes "readers");
      parser = Some (Signed (pos 1) (pos 8));
      defaults = codes "1" ∷ [];
    }

-- `--keep` 0 to 65536
abbrev pub keep_rule : Rule
keep_rule =
    record (new_rule (codes "keep")) {
      value_names = 1;
      long = Some (codes "keep");
      parser = Some (Signed (pos 0) (pos 65536));
      defaults = codes "0" ∷ [];
    }

-- the topic if none is given
abbrev pub topic_text : List ℕ
topic_text = codes "Square"

-- `--topic TEXT`
abbrev pub topic_rule : Rule
topic_rule =
    record (new_rule (codes "topic"))
    { value_names = 1; long = Some (codes "topic"); defaults = topic_text ∷ [] }

-- the type of the topic if none is given
abbrev pub type_text : List ℕ
type_text = codes "ShapeType"

-- `--type TEXT`
abbrev pub type_rule : Rule
type_rule =
    record (new_rule (codes "type"))
    { value_names = 1; long = Some (codes "type"); defaults = type_text ∷ [] }

-- `--fixed HEX`
abbrev pub fixed_rule : Rule
fixed_rule = record (new_rule (codes "fixed")) { value_names = 1; long = Some (codes "fixed") }

-- a flag of this name
abbrev pub flag_rule : List ℕ → Rule
flag_rule name = record (new_rule name) { long = Some name; action = Some SetTrue }

-- `--no-key`
abbrev pub no_key_rule : Rule
no_key_rule = flag_rule (codes "no-key")

-- `--best-effort`
abbrev pub best_effort_rule : Rule
best_effort_rule = flag_rule (codes "best-effort")

-- `--raw`
abbrev pub raw_rule : Rule
raw_rule = flag_rule (codes "raw")

-- `--summary`
abbrev pub summary_rule : Rule
summary_rule = flag_rule (codes "summary")

-- `--domain` 0 to 232
abbrev pub domain_rule : Rule
domain_rule =
    record (new_rule (codes "domain")) {
      value_names = 1;
      long = Some (codes "domain");
      parser = Some (Signed (pos 0) (pos 232));
      required = true;
    }

-- `--count` 1 to 65536
abbrev pub count_rule : Rule
count_rule =
    record (new_rule (codes "count")) {
      value_names = 1;
      long = Some (codes "count");
      parser = Some (Signed (pos 1) (pos 65536));
      required = true;
    }

-- `--turns` 1 to 100000
abbrev pub turns_rule : Rule
turns_rule =
    record (new_rule (codes "turns")) {
      value_names = 1;
      long = Some (codes "turns");
      parser = Some (Signed (pos 1) (pos 100000));
      defaults = codes "600" ∷ [];
    }

-- the address if none is given
abbrev pub address_text : List ℕ
address_text = codes "127.0.0.1"

-- `--address ADDRESS`
abbrev pub address_rule : Rule
address_rule =
    record (new_rule (codes "address"))
    { value_names = 1; long = Some (codes "address"); defaults = address_text ∷ [] }

-- `--announce`
abbrev pub announce_rule : Rule
announce_rule = flag_rule (codes "announce")

-- `--no-multicast`
abbrev pub no_multicast_rule : Rule
no_multicast_rule = flag_rule (codes "no-multicast")

-- `--peers ADDRESSES`
abbrev pub peers_rule : Rule
peers_rule = record (new_rule (codes "peers")) { value_names = 1; long = Some (codes "peers") }

-- `--lease` 2 to 86400
abbrev pub lease_rule : Rule
lease_rule =
    record (new_rule (codes "lease")) {
      value_names = 1;
      long = Some (codes "lease");
      parser = Some (Signed (pos 2) (pos 86400));
    }

-- the options for the domain and the address
unfoldable pub with_place : App → App
with_place a = with_rule (with_rule a domain_rule) address_rule

-- the options for how the participant announces itself
unfoldable pub with_reach : App → App
with_reach a =
    with_rule (with_rule (with_rule (with_rule a announce_rule) peers_rule) no_multicast_rule)
    lease_rule

-- the options for the end of the run
unfoldable pub with_ends : App → App
with_ends a = with_rule (with_rule a count_rule) turns_rule

-- the options for the workers, the batches and the number of readers
unfoldable pub with_sizes : App → App
with_sizes a = with_rule (with_rule (with_rule a workers_rule) batch_rule) readers_rule

-- the options for the topic, its type, the participant and the writer that is known from the start
unfoldable pub with_names : App → App
with_names a = with_rule (with_rule (with_rule (with_rule a topic_rule) type_rule) own_rule) fixed_rule

-- the flags
unfoldable pub with_flags : App → App
with_flags a =
    with_rule (with_rule (with_rule (with_rule a no_key_rule) best_effort_rule) raw_rule) summary_rule

-- the options of each subcommand that runs readers
abbrev pub with_options : App → App
with_options a = with_flags (with_names (with_sizes a))

-- `dump FILE [--own HEX]`
unfoldable pub dump_app : App
dump_app = with_rule (with_rule (new_app (codes "dump")) file_rule) own_rule

-- `explain FILE [--own HEX]`
unfoldable pub explain_app : App
explain_app = with_rule (with_rule (new_app (codes "explain")) file_rule) own_rule

-- `replay FILE` and the options
unfoldable pub replay_app : App
replay_app = with_options (with_rule (new_app (codes "replay")) file_rule)

-- `samples FILE [--keep N]` and the options
unfoldable pub samples_app : App
samples_app = with_options (with_rule (with_rule (new_app (codes "samples")) file_rule) keep_rule)

-- `listen --domain D --count N [--turns T] [--address A] [--announce]` and the options
unfoldable pub live_app : App
live_app = with_options (with_reach (with_ends (with_place (new_app (codes "listen")))))

-- the program with `dump`, `explain` and `replay`
unfoldable pub printing_app : App
printing_app =
    with_subcommand
    (with_subcommand
    (with_subcommand (new_app (codes "rtps_listen")) dump_app.top) explain_app.top) replay_app.top

-- the program
unfoldable pub listen_app : App
listen_app = with_subcommand (with_subcommand printing_app samples_app.top) live_app.top

-- the command is this one, and has no global argument
abbrev pub IsPlainApp : Command → App → Type 0
IsPlainApp c a = (app_of c ≡ a) × ((out-Command c).has_globals ≡ false)

-- the argument is this one, and isn't global
abbrev pub IsPlainRule : Arg → Rule → Type 0
IsPlainRule a r = (rule_of a ≡ r) × (a.global ≡ false)
