-- The command line of the program, as clap's definitions read it.
use Rattle.std.specs.Prelude.{◌≡◌, ℕ, List, false, Some, pos, codes, [], ◌∷◌}
use Rattle.clap.specs.Words.{App, Rule, app_of, rule_of, new_app, new_rule, with_rule}
use Rattle.clap.specs.declared.builder.command.Command.{Command}
use Rattle.clap.specs.declared.builder.command.Command.TheViews.{out-Command}
use Rattle.clap.specs.declared.builder.arg.Arg.{Arg}
use Rattle.clap.specs.declared.builder.value_parser.ValueParser.TheVariants.{Signed}

-- an option with a number from 1 to the greatest, and the text of the number if none is given
abbrev pub number_rule : List ℕ → ℕ → List ℕ → Rule
number_rule name most default =
    record (new_rule name) {
      value_names = 1;
      long = Some name;
      parser = Some (Signed (pos 1) (pos most));
      defaults = default ∷ [];
    }

-- `--readers` 1 to 64
abbrev pub readers_rule : Rule
readers_rule = number_rule (codes "readers") 64 (codes "1")

-- `--topics` 1 to 64
abbrev pub topics_rule : Rule
topics_rule = number_rule (codes "topics") 64 (codes "1")

-- `--workers` 1 to 64
abbrev pub workers_rule : Rule
workers_rule = number_rule (codes "workers") 64 (codes "1")

-- `--batch` 1 to 4096
abbrev pub batch_rule : Rule
batch_rule = number_rule (codes "batch") 4096 (codes "512")

-- `--repeat` 1 to 1000
abbrev pub repeat_rule : Rule
repeat_rule = number_rule (codes "repeat") 1000 (codes "5")

-- the topic if none is given
abbrev pub topic_text : List ℕ
topic_text = codes "Square"

-- `--topic TEXT`
abbrev pub topic_rule : Rule
topic_rule =
    record (new_rule (codes "topic"))
    { value_names = 1; long = Some (codes "topic"); defaults = topic_text ∷ [] }

-- `--fixed HEX`
abbrev pub fixed_rule : Rule
fixed_rule = record (new_rule (codes "fixed")) { value_names = 1; long = Some (codes "fixed") }

-- the options for the topics and the writer that is known from the start
unfoldable pub with_topics : App → App
with_topics a = with_rule (with_rule (with_rule a topics_rule) topic_rule) fixed_rule

-- the options for the runs
unfoldable pub with_runs : App → App
with_runs a = with_rule (with_rule (with_rule a workers_rule) batch_rule) repeat_rule

-- all options but the number of readers
abbrev pub with_options : App → App
with_options a = with_runs (with_topics a)

-- the program
unfoldable pub bench_app : App
bench_app = with_options (with_rule (new_app (codes "rtps_bench")) readers_rule)

-- the command is this one, and has no global argument
abbrev pub IsPlainApp : Command → App → Type 0
IsPlainApp c a = (app_of c ≡ a) × ((out-Command c).has_globals ≡ false)

-- the argument is this one, and isn't global
abbrev pub IsPlainRule : Arg → Rule → Type 0
IsPlainRule a r = (rule_of a ≡ r) × (a.global ≡ false)
