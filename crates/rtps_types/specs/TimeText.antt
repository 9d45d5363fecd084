-- Timestamps as text (DDSI-RTPS 9.3.2.1): two words of 32 bits in hex with a dot between them; and
-- durations in decimal.
use Rattle.std.specs.Prelude.{◌≡◌, ◌<◌, ℕ, suc, ◌+◌, ◌-◌, ◌*◌, ◌/◌, ◌%◌, ◌^◌, ◌==◌, ◌&&◌, false, ℤ, pos, negsuc, List, [], ◌++◌, codes, Result, Ok, Err, if◌then◌else◌}
use Rattle.std.specs.Ordering.{int_eq}
use Rattle.std.specs.Fmt.{decimal, format_spec, padded_integral}
use Rattle.std.specs.Int.{w32, to_be_bytes, from_be_bytes}
use Rattle.hex.specs.Hex.{encode_lower}
use Rattle.rtps_types.specs.declared.time.Duration.{Duration}
use Rattle.rtps_types.specs.declared.time.Timestamp.{Timestamp}
use Rattle.rtps_types.specs.declared.text.TextFault.{TextFault}
use Rattle.rtps_types.specs.declared.text.TextFault.TheVariants.{Separator}
use Rattle.rtps_types.specs.Text.{before, behind, has, made_of, octets_in}

-- the eight hex digits of a word, the highest first
abbrev pub word_text : ℕ → List ℕ
word_text n = encode_lower (to_be_bytes w32 n)

-- the seconds and the fraction with a dot between them
abbrev pub moment_text : Timestamp → List ℕ
moment_text t = word_text t.seconds ++ (codes "." ++ word_text t.fraction)

-- the word that eight hex digits in either case stand for
abbrev pub word_in : List ℕ → Result ℕ TextFault
word_in text = made_of (from_be_bytes w32) (octets_in 4 text)

-- a timestamp, from its two words; a fault of the first word is reported first
abbrev pub moment_of : Result ℕ TextFault → Result ℕ TextFault → Result Timestamp TextFault
moment_of (Ok seconds) (Ok fraction) = Ok record { seconds = seconds; fraction = fraction }
moment_of (Ok seconds) (Err e) = Err e
moment_of (Err e) fraction = Err e

-- the seconds, the first dot, and the fraction
abbrev pub moment_in : List ℕ → Result Timestamp TextFault
moment_in text =
    if has 46 text then moment_of (word_in (before 46 text)) (word_in (behind 46 text))
    else Err Separator

-- the text of a timestamp is parsed as the same timestamp
abbrev pub ShownMomentsAreRead : Type 0
ShownMomentsAreRead =
    (t : Timestamp) → t.seconds < 2 ^ 32 → t.fraction < 2 ^ 32 → moment_in (moment_text t) ≡ Ok t

-- nanoseconds as seconds with nine decimals
abbrev pub seconds_text : ℕ → List ℕ
seconds_text n =
    decimal (n / 10 ^ 9) ++ codes "."
    ++ padded_integral (format_spec 32 0 4 9 (2 ^ 64 - 1)) false [] (decimal (n % 10 ^ 9))

-- the nanoseconds of a fraction in units of 2^-32 seconds, rounded down
abbrev pub nanoseconds : ℕ → ℕ
nanoseconds fraction = fraction * 10 ^ 9 / 2 ^ 32

-- seconds, with nanoseconds added to them
abbrev pub sum_text : ℤ → ℕ → List ℕ
sum_text (pos n) added = seconds_text (n * 10 ^ 9 + added)
sum_text (negsuc n) added = codes "-" ++ seconds_text (suc n * 10 ^ 9 - added)

-- a duration in seconds; the greatest one is infinite (DDSI-RTPS 9.3.2.3)
abbrev pub duration_text : Duration → List ℕ
duration_text d =
    if int_eq d.seconds (pos (2 ^ 31 - 1)) && d.fraction == 2 ^ 32 - 1 then codes "infinite"
    else sum_text d.seconds (nanoseconds d.fraction)
