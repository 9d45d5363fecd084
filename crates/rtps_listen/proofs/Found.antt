-- What clap finds in a line of this program.
use Rattle.std.proofs.Common.{◌≡◌, ℕ, List, [], ◌∷◌, length, nat_lt, Bool, true, false, Option, Some, None, Result, Ok, Err, unwrap_or, codes, refl, ap, ◌∙◌, lt-ltb, ltb-true}
use Rattle.std.specs.Prelude.{option_map}
use Rattle.std.specs.Char.{digit_value}
use Rattle.std.specs.List.{list_all}
use Rattle.std.specs.Result.{result_unwrap_or}
use Rattle.std.specs.Option.{option_map_or}
use Rattle.std.specs.Str.{bytes_eq}
use Rattle.std.specs.Str.Parse.{AllDigits, ParsesBool, ParsesUnsigned, digits_value, without_leading_plus}
use Rattle.std.specs.Borrow.{Bor}
use Rattle.clap.specs.Words.{ReadsOne, Row, Text, first_of, first_value, is_simple, is_simple_and_free, one_text, rows_of, subcommand_name_of, subcommand_rows_of}
use Rattle.clap.specs.declared.parser.matches.ArgMatches.{ArgMatches}
use Rattle.clap.specs.declared.parser.matches.Found.{Found}
use Rattle.clap.proofs.WalkLemmas.{both, first_value-rows, one_text-rows}
use Rattle.std.proofs.lemmas.Slice.Eq.{bytes_eq-Decides}
use Rattle.rtps_listen.specs.Options.{are_digits, is_set, number_in, number_of}
use Rattle.rtps_listen.specs.Line.{with_place, with_reach, with_ends, with_sizes, with_names, with_flags, dump_app, explain_app, replay_app, samples_app, live_app, printing_app, listen_app}

-- the commands are ones whose matches clap gives
pub listen_simple : is_simple listen_app ≡ true
unfolding with_place with_reach with_ends with_sizes with_names with_flags dump_app explain_app replay_app samples_app live_app printing_app listen_app
listen_simple = refl

-- and whose faults
pub listen_free : is_simple_and_free listen_app ≡ true
unfolding with_place with_reach with_ends with_sizes with_names with_flags dump_app explain_app replay_app samples_app live_app printing_app listen_app
listen_free = refl

-- what is found by name and what is found by its matches, as one
pub pair_up : {X : Type 0} (o : Option X) (f : X → Text) (g : X → List Row) (t : Option (Text × List Row))
    → option_map f o ≡ option_map (λ p. p.0) t → option_map g o ≡ option_map (λ p. p.1) t → option_map (λ x. (f x, g x)) o ≡ t
pair_up None f g None p q = refl
pair_up None f g (Some t) p q = cc
pair_up (Some x) f g None p q = cc
pair_up (Some x) f g (Some (a, b)) p q =
    let name : Some (f x) ≡ Some a = p in
    let rows : Some (g x) ≡ Some b = q in
    cc

map_twice : {A B C : Type 0} (o : Option A) (g : A → B) (h : B → C) → option_map (λ x. h (g x)) o ≡ option_map h (option_map g o)
map_twice None g h = refl
map_twice (Some x) g h = refl

-- the name of the subcommand is that of its matches
pub named : (m : ArgMatches) → subcommand_name_of m ≡ option_map (λ p. p.0) (subcommand_rows_of m)
named m = map_twice _ _ _

-- the text that was found first
pub first_text : (f : Found) (id : Text) (o : Option (Bor Text)) → option_map (λ s. s.now) o ≡ first_value f id → option_map (λ s. s.now) o ≡ first_of id (rows_of f)
first_text f id o e = e ∙ first_value-rows f id

-- a text that is `true`, `false` or neither
flag_text : (E : Type 0) (t : Text) (o : Option Bool) → ReadsOne {E = E} ParsesBool t o → unwrap_or o false ≡ bytes_eq t (codes "true")
flag_text E t (Some true) h = rw h refl
flag_text E t (Some false) h = rw h refl
flag_text E t None h = differs (bytes_eq t (codes "true")) refl
  where
    differs : (b : Bool) → bytes_eq t (codes "true") ≡ b → false ≡ b
    differs false e = refl
    differs true e = absurd (h.1.0 ((bytes_eq-Decides t (codes "true")).0 e))

-- what `get_one` reads of a flag
pub flag_read : (E : Type 0) (f : Found) (id : Text) (o : Option Bool) → (one_text f id ≡ None → o ≡ None)
    → ((t : Text) → one_text f id ≡ Some t → ReadsOne {E = E} ParsesBool t o) → unwrap_or o false ≡ is_set id (rows_of f)
flag_read E f id o none value = go (one_text f id) none value ∙ ap (λ x. option_map_or (λ text. bytes_eq text (codes "true")) x false) (one_text-rows f id)
  where
    go : (x : Option Text) → (x ≡ None → o ≡ None) → ((t : Text) → x ≡ Some t → ReadsOne {E = E} ParsesBool t o)
        → unwrap_or o false ≡ option_map_or (λ text. bytes_eq text (codes "true")) x false
    go None n v = ap (λ x. unwrap_or x false) (n refl)
    go (Some t) n v = flag_text E t o (v t refl)

digits_pass : (digits : List ℕ) → AllDigits 10 digits → list_all (λ d. nat_lt (digit_value d) 10) digits ≡ true
digits_pass [] h = refl
digits_pass (d ∷ digits) h = rw (lt-ltb (digit_value d) 10 h.0) (digits_pass digits h.1)

digits_from : (digits : List ℕ) → list_all (λ d. nat_lt (digit_value d) 10) digits ≡ true → AllDigits 10 digits
digits_from [] e = tt
digits_from (d ∷ digits) e =
    let parts = both _ _ e in
    (ltb-true _ _ parts.0, digits_from digits parts.1)

-- what std reads in a text is the number that it writes
number_parsed : {E : Type 0} (text : Text) (r : Result ℕ E) → ParsesUnsigned 32 10 text r → result_unwrap_or r 0 ≡ number_of text
number_parsed text (Ok n) h =
    let digits = without_leading_plus text in
    rw (lt-ltb 0 (length digits) h.0.0.0, digits_pass digits h.0.0.1, lt-ltb (digits_value 10 digits) 4294967296 h.0.1) h.1
number_parsed text (Err e) h = go (are_digits (without_leading_plus text)) refl
  where
    go : (b : Bool) → are_digits (without_leading_plus text) ≡ b → 0 ≡ number_of text
    go false t = rw t refl
    go true t =
        let outer = both _ _ t in
        let inner = both _ _ outer.0 in
        absurd (h ((ltb-true _ _ inner.0, digits_from (without_leading_plus text) inner.1), ltb-true _ _ outer.1))

number_text : (E : Type 0) (G : Text → Result ℕ E → Type 0) → ((t : Text) (r : Result ℕ E) → G t r → ParsesUnsigned 32 10 t r)
    → (t : Text) (o : Option ℕ) → ReadsOne G t o → unwrap_or o 0 ≡ number_of t
number_text E G only t (Some n) h = number_parsed {E = E} t (Ok n) (only t (Ok n) h)
number_text E G only t None h = number_parsed {E = E} t (Err h.0) (only t (Err h.0) h.1)

-- what `get_one` reads of a number
pub number_read : (E : Type 0) (G : Text → Result ℕ E → Type 0) → ((t : Text) (r : Result ℕ E) → G t r → ParsesUnsigned 32 10 t r)
    → (f : Found) (id : Text) (o : Option ℕ) → (one_text f id ≡ None → o ≡ None) → ((t : Text) → one_text f id ≡ Some t → ReadsOne G t o)
    → unwrap_or o 0 ≡ number_in id (rows_of f)
number_read E G only f id o none value = go (one_text f id) none value ∙ ap (λ x. option_map_or number_of x 0) (one_text-rows f id)
  where
    go : (x : Option Text) → (x ≡ None → o ≡ None) → ((t : Text) → x ≡ Some t → ReadsOne G t o) → unwrap_or o 0 ≡ option_map_or number_of x 0
    go None n v = ap (λ x. unwrap_or x 0) (n refl)
    go (Some t) n v = number_text E G only t o (v t refl)
