-- How the items that are still to be read change with each that is read.
use Rattle.std.proofs.Common.{◌≡◌, ℕ, suc, ◌+◌, ◌-◌, ◌<◌, ◌≤◌, List, [], ◌∷◌, ◌++◌, Result, Ok, Err, refl, arith, ap, sym, append-nil}
use Rattle.std.proofs.lemmas.List.{append_assoc}
use Rattle.rtps_cdr.specs.declared.fault.CdrFault.{CdrFault}
use Rattle.rtps_cdr.specs.Reading.{Cursor}
use Rattle.rtps_cdr.specs.Following.{and_then}
use Rattle.dds_topic.specs.Answer.{Fails}
use Rattle.dds_topic.specs.declared.unread.Unread.{Unread as UnreadCode}
use Rattle.dds_topic.specs.declared.unread.CatalogError.{CatalogError}
use Rattle.dds_topic.specs.declared.unread.CatalogError.TheVariants as errors
use Rattle.dds_struct.specs.Value.{items, behind_items, readable}

-- what was read, and what is read after it
abbrev pub after : {A : Type 0} → List A → Result (List A) CdrFault → Result (List A) CdrFault
after seen r = and_then r (λ xs. Ok (seen ++ xs))

left : (n i : ℕ) → i < n → (n - i) ≡ suc (n - (i + 1))
left n i more = omega (arith, more)

none : (n i : ℕ) → n ≤ i → (n - i) ≡ 0
none n i all = omega (arith, all)

value_read : {A : Type 0} (x : A) (r : Result A CdrFault) → readable r ≡ Ok x → r ≡ Ok x
value_read x (Ok y) same = ap Ok (cc same)
value_read x (Err f) same = absurd (cc same)

joined : {A : Type 0} (x : A) (seen : List A) (r : Result (List A) CdrFault) → after seen (and_then r (λ xs. Ok (x ∷ xs))) ≡ after (seen ++ x ∷ []) r
joined x seen (Ok xs) = ap Ok (sym (append_assoc seen (x ∷ []) xs))
joined x seen (Err f) = refl

more_items : {A : Type 0} (read : Cursor → Result A CdrFault) (next : Cursor → Cursor) (n : ℕ) (c : Cursor) (x : A) (seen : List A) → read c ≡ Ok x →
    after seen (items read next (suc n) c) ≡ after (seen ++ x ∷ []) (items read next n (next c))
unfolding items
more_items read next n c x seen found = rw found (joined x seen (items read next n (next c)))

-- an item more is read
pub items_step : {A : Type 0} (read : Cursor → Result A CdrFault) (next : Cursor → Cursor) (n i : ℕ) (c : Cursor) (x : A) (seen : List A) → i < n → readable (read c) ≡ Ok x →
    after seen (items read next (n - i) c) ≡ after (seen ++ x ∷ []) (items read next (n - (i + 1)) (next c))
items_step read next n i c x seen more found = rw (left n i more) (more_items read next (n - (i + 1)) c x seen (value_read x (read c) found))

pub behind_step : (next : Cursor → Cursor) (n i : ℕ) (c : Cursor) → i < n → behind_items next (n - i) c ≡ behind_items next (n - (i + 1)) (next c)
unfolding behind_items
behind_step next n i c more = rw (left n i more) refl

-- nothing is left
pub items_done : {A : Type 0} (read : Cursor → Result A CdrFault) (next : Cursor → Cursor) (n i : ℕ) (c : Cursor) (seen : List A) → n ≤ i →
    readable (after seen (items read next (n - i) c)) ≡ Ok seen
unfolding items
items_done read next n i c seen all = rw (none n i all) (ap Ok (append-nil seen))

pub behind_done : (next : Cursor → Cursor) (n i : ℕ) (c : Cursor) → n ≤ i → behind_items next (n - i) c ≡ c
unfolding behind_items
behind_done next n i c all = rw (none n i all) refl

fault_first : {A B C : Type 0} (u : UnreadCode) (r : Result A CdrFault) (g : A → Result B CdrFault) (f : B → Result C CdrFault) → readable r ≡ Err u → readable (and_then (and_then r g) f) ≡ Err u
fault_first u (Ok x) g f why = absurd (cc why)
fault_first u (Err fault) g f why = ap Err (cc why)

-- an item that can't be read is the fault of all
pub items_fault : {A : Type 0} (read : Cursor → Result A CdrFault) (next : Cursor → Cursor) (n i : ℕ) (c : Cursor) (seen : List A) (all : Result (List A) CdrFault) (e : CatalogError) → i < n →
    all ≡ after seen (items read next (n - i) c) → Fails e (readable (read c)) → Fails e (readable all)
unfolding items
items_fault read next n i c seen all errors.NoMemory more same why = tt
items_fault read next n i c seen all (errors.Unread u) more same why =
    rw (same, left n i more) (fault_first u (read c) (λ x. and_then (items read next (n - (i + 1)) (next c)) (λ xs. Ok (x ∷ xs))) (λ xs. Ok (seen ++ xs)) why)
