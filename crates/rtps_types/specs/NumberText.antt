-- Numbers and places as text: decimal digits alone, without a sign.
use Rattle.std.specs.Prelude.{◌≡◌, ℕ, ◌-◌, ◌^◌, ◌<◌, nat_le, nat_lt, ◌&&◌, List, ◌++◌, length, codes, Result, Ok, Err, if◌then◌else◌}
use Rattle.std.specs.Char.{is_ascii_digit}
use Rattle.std.specs.Fmt.{decimal}
use Rattle.std.specs.List.{list_all}
use Rattle.std.specs.Str.Parse.{digits_value}
use Rattle.rtps_types.specs.declared.place.Place.{Place}
use Rattle.rtps_types.specs.declared.text.TextFault.{TextFault}
use Rattle.rtps_types.specs.declared.text.TextFault.TheVariants.{Number, Separator}
use Rattle.rtps_types.specs.SequenceNumber.{IsNumber}
use Rattle.rtps_types.specs.Text.{before, behind, has}

-- the number that a text of digits stands for, if it has digits only and the number is in range
abbrev pub decimal_in : ℕ → ℕ → List ℕ → Result ℕ TextFault
decimal_in least greatest text =
    if list_all is_ascii_digit text
    && (nat_lt 0 (length text)
    && (nat_le least (digits_value 10 text) && nat_le (digits_value 10 text) greatest))
    then Ok (digits_value 10 text) else Err Number

-- the datagram and the submessage with a colon between them
abbrev pub place_text : Place → List ℕ
place_text p = decimal p.datagram ++ (codes ":" ++ decimal p.submessage)

-- the number of a change (DDSI-RTPS 8.3.5.4)
abbrev pub number_in : List ℕ → Result ℕ TextFault
number_in text = decimal_in 1 (2 ^ 62) text

-- a place, from its two numbers; a fault of the first number is reported first
abbrev pub place_of : Result ℕ TextFault → Result ℕ TextFault → Result Place TextFault
place_of (Ok datagram) (Ok submessage) = Ok record { datagram = datagram; submessage = submessage }
place_of (Ok datagram) (Err e) = Err e
place_of (Err e) submessage = Err e

-- a number of 64 bits, the first colon, and a number of 32 bits
abbrev pub place_in : List ℕ → Result Place TextFault
place_in text =
    if has 58 text
    then place_of (decimal_in 0 (2 ^ 64 - 1) (before 58 text))
    (decimal_in 0 (2 ^ 32 - 1) (behind 58 text))
    else Err Separator

-- the text of a number and of a place is parsed as the same one
abbrev pub ShownNumbersAreRead : Type 0
ShownNumbersAreRead = (n : ℕ) → IsNumber n → number_in (decimal n) ≡ Ok n

abbrev pub ShownPlacesAreRead : Type 0
ShownPlacesAreRead =
    (p : Place) → p.datagram < 2 ^ 64 → p.submessage < 2 ^ 32 → place_in (place_text p) ≡ Ok p
