-- What the words of the command line ask for. The first one is the program's name; then come
-- `dump FILE` or `explain FILE`, with `--own HEX` before or after the file, or nothing.
use Rattle.std.specs.Prelude.{ℕ, List, [], ◌∷◌, Bool, false, not, ◌||◌, ◌==◌, if◌then◌else◌, Option, None, Some, codes}
use Rattle.std.specs.Str.{bytes_eq}
use Rattle.rtps_dump.specs.declared.words.Command.{Command}
use Rattle.rtps_dump.specs.declared.words.Command.TheVariants.{Dump, Explain}

-- the prefix if none is given, in hex
abbrev pub own_text : List ℕ
own_text = codes "0b0b0b0b0b0b0b0b0b0b0b0b"

abbrev pub begins_with_dash : List ℕ → Bool
begins_with_dash [] = false
begins_with_dash (octet ∷ octets) = octet == 45

-- the word is that of a file: a dash, which is standard input, or one that begins with no dash
abbrev pub is_file : List ℕ → Bool
is_file word = bytes_eq word (codes "-") || not (begins_with_dash word)

-- this file and this prefix, unless the file is an option
abbrev pub chosen : List ℕ → List ℕ → Option (List ℕ × List ℕ)
chosen file own = if is_file file then Some (file, own) else None

-- the file and the prefix, by the words after the command
abbrev pub named : List (List ℕ) → Option (List ℕ × List ℕ)
named (file ∷ []) = chosen file own_text
named (first ∷ second ∷ third ∷ []) =
    if bytes_eq first (codes "--own") then chosen third second
    else if bytes_eq second (codes "--own") then chosen first third
    else None
named words = None

-- the command of this name
abbrev pub command_in : List ℕ → Option Command
command_in word =
    if bytes_eq word (codes "dump") then Some Dump
    else if bytes_eq word (codes "explain") then Some Explain
    else None

-- a command with a file and a prefix, where there are all three
abbrev pub whole : Option Command → Option (List ℕ × List ℕ)
    → Option (Command × List ℕ × List ℕ)
whole (Some command) (Some pair) = Some (command, pair.0, pair.1)
whole command pair = None

-- the command, the file and the prefix that a line asks for; no words are `dump -`
abbrev pub asked : List (List ℕ) → Option (Command × List ℕ × List ℕ)
asked (name ∷ command ∷ words) = whole (command_in command) (named words)
asked words = Some (Dump, codes "-", own_text)
