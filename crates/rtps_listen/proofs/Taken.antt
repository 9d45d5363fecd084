-- Which configurations of options discovery takes.
use Rattle.std.proofs.Common.{◌≡◌, ◌∙◌, ℕ, ◌+◌, ◌<◌, ◌≤◌, ◌==◌, nat_lt, List, [], ◌∷◌, map, length, Bool, true, false, not, ◌||◌, if◌then◌else◌, Option, Some, None, Result, Ok, Err, IsTrue, refl, sym, ap, ap₂, arith}
use Rattle.std.specs.List.{list_any}
use Rattle.std.specs.Str.{bytes_eq}
use Rattle.std.proofs.Math.Bool.{or-false}
use Rattle.std.proofs.lemmas.Bool.{lt-leb, ne_eqb}
use Rattle.std.proofs.lemmas.Bool.Decides.{nat_tests}
use Rattle.std.proofs.lemmas.List.{length-map}
use Rattle.std.proofs.lemmas.List.FromFn.{length-map-range_with_len}
use Rattle.clap.proofs.WalkLemmas.{list_any-map}
use Rattle.rtps_types.specs.declared.identity.Guid.{Guid}
use Rattle.rtps_types.specs.declared.identity.GuidPrefix.{GuidPrefix}
use Rattle.rtps_discovery.specs.Config.{check_of, has_fault, has_twice, is_bad_fixed, is_bad_reader, is_exclusive, is_reader, is_same_entity, is_same_pair}
use Rattle.rtps_discovery.specs.declared.config.Config.{Config}
use Rattle.rtps_discovery.specs.declared.config.ReaderConfig.{ReaderConfig}
use Rattle.rtps_discovery.specs.declared.faults.ConfigFault.{ConfigFault}
use Rattle.rtps_discovery.specs.declared.faults.ConfigFault.TheVariants.{Readers, BadReader, BadFixed}
use Rattle.rtps_discovery.specs.Known.{Wish}
use Rattle.rtps_discovery.specs.Start.{wish_of}
use Rattle.rtps_listen.specs.Configs.{AreWritten, IsMadeOf, IsUnmatched, entity_of, is_unmatched, match_of, matches_of, reader_of, readers_of}
use Rattle.rtps_listen.specs.declared.options.Options.{Options}
use Rattle.rtps_listen.proofs.Ranks.{each_rank_passes, no_rank_passes, ranks_differ}
use Rattle.rtps_listen.proofs.Written.{same_prefix, same_writer}

-- the tests of readers see no more of them than is asked
abbrev is_bad : Wish → Bool
is_bad r = not (is_reader r.entity) || is_exclusive r.policies.ownership

abbrev is_same : Wish → Wish → Bool
is_same a b = bytes_eq a.entity.0 b.entity.0

twice_shown : (rs : List ReaderConfig) → has_twice is_same_entity rs ≡ has_twice is_same (map wish_of rs)
twice_shown [] = refl
twice_shown (r ∷ rs) = ap₂ (λ a b. a || b) (list_any-map (is_same (wish_of r)) wish_of rs) (twice_shown rs)

entities_differ : (options : Options) (i j : ℕ) → i < j → is_same (reader_of options i) (reader_of options j) ≡ false
entities_differ options i j lt = rw (ne_eqb (i + 1) (j + 1) (λ e. omega arith)) refl

pairs_differ : (writer : Guid) (i j : ℕ) → i < j → is_same_pair (match_of writer i) (match_of writer j) ≡ false
pairs_differ writer i j lt = rw (ne_eqb i j (λ e. omega arith)) refl

-- a number of readers that there may be
few : (n : ℕ) → 1 ≤ n → n ≤ 8 → (n == 0 || nat_lt 256 n) ≡ false
few n low high = grind (arith, nat_tests)

-- each is a reader by its kind, and of shared ownership
reader_kind : (no_key : Bool) (rank : ℕ) → is_reader (entity_of no_key rank) ≡ true
reader_kind false rank = refl
reader_kind true rank = refl

reader_good : (options : Options) (rank : ℕ) → is_bad (reader_of options rank) ≡ false
reader_good options rank = rw (reader_kind options.no_key rank) refl

readers_good : (options : Options) (rs : List ReaderConfig) (n : ℕ) → map wish_of rs ≡ readers_of options n → (list_any is_bad_reader rs || has_twice is_same_entity rs) ≡ false
readers_good options rs n have =
    let bad : list_any is_bad_reader rs ≡ false = list_any-map is_bad wish_of rs ∙ ap (list_any is_bad) have ∙ no_rank_passes is_bad (reader_of options) 0 n (λ k above below. reader_good options k) in
    let twice : has_twice is_same_entity rs ≡ false = twice_shown rs ∙ ap (has_twice is_same) have ∙ ranks_differ is_same (reader_of options) 0 n (entities_differ options) in
    ap₂ (λ a b. a || b) bad twice

-- a rank that a reader has leaves the writer to be judged
in_rank : (own : GuidPrefix) (writer : Guid) (n k : ℕ) → k < n → is_bad_fixed own n (match_of writer k) ≡ is_unmatched own (Some writer)
in_rank own writer n k lt = rw (lt-leb n k lt) refl

fixed_fault : (own : GuidPrefix) (writer : Option Guid) (n : ℕ) → 1 ≤ n
    → (list_any (is_bad_fixed own n) (matches_of writer n) || has_twice is_same_pair (matches_of writer n)) ≡ is_unmatched own writer
fixed_fault own None n some = refl
fixed_fault own (Some writer) n some =
    ap₂ (λ a b. a || b) (each_rank_passes (is_bad_fixed own n) (match_of writer) n _ some (in_rank own writer n)) (ranks_differ is_same_pair (match_of writer) 0 n (pairs_differ writer))
    ∙ or-false (is_unmatched own (Some writer))

answer : Bool → Bool → Bool → Result (Unit {0}) ConfigFault
answer a b c = if a then Err Readers else if b then Err BadReader else if c then Err BadFixed else Ok tt

-- what is reported where only the writer can be at fault
abbrev pub told : Bool → Result (Unit {0}) ConfigFault
told b = if b then Err BadFixed else Ok tt

pub made_told : (options : Options) (own : GuidPrefix) (writer : Option Guid) (config : Config) → IsMadeOf options own writer config
    → check_of config ≡ told (is_unmatched own writer)
unfolding answer check_of
made_told options own writer config made =
    let n = options.readers in
    let count : length config.readers.items ≡ n =
    sym (length-map config.readers.items wish_of) ∙ ap length made.readers ∙ length-map-range_with_len (reader_of options) 0 n in
    let readers : has_fault Readers config ≡ false = rw count (few n options.some options.few) in
    let bad : has_fault BadReader config ≡ false = readers_good options config.readers.items n made.readers in
    let fixed : has_fault BadFixed config ≡ is_unmatched own writer = rw (count, made.prefix, made.fixed) (fixed_fault own writer n options.some) in
    let whole : answer (has_fault Readers config) (has_fault BadReader config) (has_fault BadFixed config) ≡ told (is_unmatched own writer) = rw (readers, bad, fixed) refl in
    whole

told_good : (b : Bool) → told b ≡ Ok tt → b ≡ false
told_good false h = refl
told_good true h = cc

told_fault : (b : Bool) (fault : ConfigFault) → told b ≡ Err fault → IsTrue b
told_fault true fault h = refl
told_fault false fault h = cc

-- a configuration that is taken has no bad writer
pub taken_matched : (options : Options) (own : GuidPrefix) (writer : Option Guid) (config : Config) → IsMadeOf options own writer config → AreWritten options own writer
    → check_of config ≡ Ok tt → ¬ IsUnmatched options
taken_matched options own writer config made written taken unmatched =
    let good = told_good (is_unmatched own writer) (sym (made_told options own writer config made) ∙ taken) in
    let own_is = same_prefix options.own.now unmatched.0 own unmatched.2.prefix written.prefix in
    let writer_is = same_writer options.fixed unmatched.1 writer unmatched.2.fixed written.fixed in
    let bad : is_unmatched own writer ≡ true = sym (ap₂ is_unmatched own_is writer_is) ∙ unmatched.3 in
    cc

-- and one that isn't taken has one
pub refused_unmatched : (options : Options) (own : GuidPrefix) (writer : Option Guid) (config : Config) (fault : ConfigFault) → IsMadeOf options own writer config
    → AreWritten options own writer → check_of config ≡ Err fault → IsUnmatched options
refused_unmatched options own writer config fault made written refused =
    (own, writer, written, told_fault (is_unmatched own writer) fault (sym (made_told options own writer config made) ∙ refused))

-- with another prefix than that of options
pub renamed_unmatched : (options : Options) (before own : GuidPrefix) (writer : Option Guid) (config : Config) (fault : ConfigFault) → IsMadeOf options before writer config
    → check_of (record config { own = own }) ≡ Err fault → IsTrue (is_unmatched own writer)
renamed_unmatched options before own writer config fault made refused =
    told_fault (is_unmatched own writer) fault
    (sym (made_told options own writer (record config { own = own }) (record { prefix = refl; readers = made.readers; fixed = made.fixed })) ∙ refused)
