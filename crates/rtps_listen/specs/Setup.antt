-- How options set up a run.
use Rattle.std.specs.Prelude.{◌≡◌, ◌==◌, ℕ, if◌then◌else◌}
use Rattle.dds_cache.specs.declared.history.History.{History}
use Rattle.dds_cache.specs.declared.history.History.TheVariants.{KeepAll, KeepLast}
use Rattle.rtps_discovery.specs.declared.config.Config.{Config}
use Rattle.rtps_text.specs.declared.setup.CacheSetup.{CacheSetup}
use Rattle.rtps_text.specs.declared.setup.LiveSetup.{LiveSetup}
use Rattle.rtps_text.specs.declared.setup.Setup.{Setup}
use Rattle.rtps_listen.specs.declared.options.Options.{Options}

-- the run of these readers, whose values are read by this catalog, as `--summary`, `--batch` and
-- `--workers` ask for it
pub record IsSetupOf {C : Type 0} (options : Options) (made : Config) (values : C)
    (setup : Setup C) : Type 0 where
  pub config : setup.config ≡ made
  pub catalog : setup.catalog ≡ values
  pub summary : setup.summary ≡ options.summary
  pub batch : setup.pace.batch ≡ options.batch
  pub workers : setup.pace.workers ≡ options.workers

-- how many entries are kept of an instance by `--keep`: the last n, or all
abbrev pub history_of : ℕ → History
history_of n = if n == 0 then KeepAll else KeepLast n

-- the run, and how much is kept of it
pub record IsCacheSetupOf {C : Type 0} (options : Options) (made : Config) (values : C)
    (setup : CacheSetup C) : Type 0 where
  pub run : IsSetupOf options made values setup.run
  pub keep : setup.keep ≡ history_of options.keep

-- the run, and after how many datagrams and waits it ends
pub record IsLiveSetupOf {C : Type 0} (options : Options) (made : Config) (values : C)
    (setup : LiveSetup C) : Type 0 where
  pub run : IsSetupOf options made values setup.run
  pub datagrams : setup.datagrams ≡ options.count
  pub turns : setup.turns ≡ options.turns
