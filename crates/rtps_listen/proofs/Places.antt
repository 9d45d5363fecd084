-- The addresses to which a participant announces itself.
use Rattle.std.proofs.Common.{◌≡◌, ◌<◌, ◌⊎◌, ◌∙◌, ◌++◌, ◌+◌, ◌-◌, ℕ, List, [], ◌∷◌, length, filter, map, Bool, true, false, cond, Option, None, Some, Result, Ok, Err, IsErrAnd, OnOk, IfErr, MatchOption, Bor, eqb, ap, ap₂, arith, inl, inr, refl, sym, append_assoc, append-nil}
use Rattle.std.specs.List.{after_first, before_first, position_or_len, range_with_len}
use Rattle.std.proofs.lemmas.List.Elements.{filter-append}
use Rattle.std.proofs.lemmas.List.FromFn.{map-range_with_len_more}
use Rattle.std.proofs.lemmas.List.Splits.{length-slice_split, slice_split_first, slice_split_none}
use Rattle.std.proofs.lemmas.List.Sums.{fails_before_first}
use Rattle.std.proofs.lemmas.Str.Pattern.{IsSplitOnceResult, split_once_first}
use Rattle.std.specs.declared.net.ipv4_addr.Ipv4Addr.{Ipv4Addr}
use Rattle.clap.specs.Words.{Text}
use Rattle.rtps_records.specs.declared.fault.RunFault.TheVariants.{NoMemory}
use Rattle.rtps_listen.specs.Reaching.{AddsPeers, HasNone, IsNoUnicastText, IsPeersCause, IsPeersFault, IsReachCause, IsUnicastText, NamesPeers, RefusesPlaces, parts_of, parts_with}
use Rattle.rtps_listen.specs.declared.options.Options.{Options}
use Rattle.rtps_listen.specs.declared.fault.ListenFault.{ListenFault}
use Rattle.rtps_listen.specs.declared.fault.ListenFault.TheVariants.{NoText, BadPrefix, BadWriter, BadAddress, BadPeers, OnlyAnnounced, TooLong, NoPorts, Socket, Run}

-- one index more
pub kept_more : {X : Type 0} (p : X → Bool) (f : ℕ → X) (n : ℕ) → filter p (map f (range_with_len 0 (n + 1))) ≡ filter p (map f (range_with_len 0 n)) ++ filter p (f n ∷ [])
kept_more p f n = ap (filter p) (map-range_with_len_more f 0 n n (omega arith)) ∙ filter-append p (map f (range_with_len 0 n)) (f n ∷ [])

parts_cases : (text : Text) (found : Option (Bor Text × Bor Text))
    → MatchOption found (position_or_len (λ b. eqb b 44) text ≡ length text)
    (λ x. (position_or_len (λ b. eqb b 44) text < length text) × (x.0.now ≡ before_first (λ b. eqb b 44) text) × (x.1.now ≡ after_first (λ b. eqb b 44) text))
    → MatchOption found (parts_of text ≡ text ∷ []) (λ x. parts_of text ≡ x.0.now ∷ parts_of x.1.now)
parts_cases text None h = slice_split_none (λ b. eqb b 44) text (λ k d lt. fails_before_first (λ b. eqb b 44) text k d (rw h lt))
parts_cases text (Some x) h = slice_split_first (λ b. eqb b 44) text 0 h.0 ∙ ap₂ (λ a b. a ∷ parts_of b) (sym h.1) (sym h.2)

-- what is there with an index more: one that is kept
pub one_kept : {X : Type 0} (p : X → Bool) (f : ℕ → X) (n : ℕ) (old before after : List X) (x : X) → before ≡ old ++ filter p (map f (range_with_len 0 n))
    → x ≡ f n → p x ≡ true → after ≡ before ++ x ∷ [] → after ≡ old ++ filter p (map f (range_with_len 0 (n + 1)))
one_kept p f n old before after x have is passes more =
    let last : filter p (f n ∷ []) ≡ f n ∷ [] = ap (λ b. cond b (f n ∷ []) []) (ap p (sym is) ∙ passes) in
    more ∙ ap₂ (λ xs y. xs ++ y ∷ []) have is ∙ append_assoc old (filter p (map f (range_with_len 0 n))) (f n ∷ [])
    ∙ ap (λ xs. old ++ xs) (ap (λ xs. filter p (map f (range_with_len 0 n)) ++ xs) (sym last) ∙ sym (kept_more p f n))

-- or one that isn't
pub none_kept : {X : Type 0} (p : X → Bool) (f : ℕ → X) (n : ℕ) (old before after : List X) (x : X) → before ≡ old ++ filter p (map f (range_with_len 0 n))
    → x ≡ f n → p x ≡ false → after ≡ before → after ≡ old ++ filter p (map f (range_with_len 0 (n + 1)))
none_kept p f n old before after x have is fails same =
    let last : filter p (f n ∷ []) ≡ [] = ap (λ b. cond b (f n ∷ []) []) (ap p (sym is) ∙ fails) in
    same ∙ have ∙ ap (λ xs. old ++ xs) (sym (append-nil (filter p (map f (range_with_len 0 n))))
    ∙ ap (λ xs. filter p (map f (range_with_len 0 n)) ++ xs) (sym last) ∙ sym (kept_more p f n))

-- the parts of a text that is taken apart at its first comma
pub parts_found : (text : Text) (found : Option (Bor Text × Bor Text)) → IsSplitOnceResult 44 text found
    → MatchOption found (parts_of text ≡ text ∷ []) (λ x. parts_of text ≡ x.0.now ∷ parts_of x.1.now)
parts_found text found h = parts_cases text found (split_once_first 44 text found h (omega arith))

-- there is one part at least
pub some_part : (text : Text) → 0 < length (parts_of text)
some_part text = omega (arith, length-slice_split (λ b. eqb b 44) text)

-- the first part names no address
pub none_first : (text first : Text) (rest : Option Text) → parts_of text ≡ parts_with first rest → IsNoUnicastText first → HasNone (parts_of text)
none_first text first None e h = rw e (inl h)
none_first text first (Some rest) e h = rw e (inl h)

-- the first part names an address, and is the only one
pub adds_last : (text first : Text) (most : ℕ) (old new : List Ipv4Addr) (address : Ipv4Addr) → parts_of text ≡ first ∷ [] → IsUnicastText first address
    → new ≡ old ++ address ∷ [] → 0 < most → AddsPeers text most old new
adds_last text first most old new address e named added some = (address ∷ [], added, rw e (named, tt), rw e some)

adds_more : (text first rest : Text) (most : ℕ) (old pushed new : List Ipv4Addr) (address : Ipv4Addr) → parts_of text ≡ first ∷ parts_of rest
    → IsUnicastText first address → pushed ≡ old ++ address ∷ [] → 0 < most → AddsPeers rest (most - 1) pushed new → AddsPeers text most old new
adds_more text first rest most old pushed new address e named added some h = (
  address ∷ h.0,
  h.1 ∙ ap (λ l. l ++ h.0) added ∙ append_assoc old (address ∷ []) h.0,
  rw e (named, h.2),
  rw e (omega (arith, h.3)),
)

-- or others follow it
pub adds_all : (text first rest : Text) (most : ℕ) (old pushed new : List Ipv4Addr) (address : Ipv4Addr) (r : Result (Unit {0}) ListenFault)
    → parts_of text ≡ first ∷ parts_of rest → IsUnicastText first address → pushed ≡ old ++ address ∷ [] → 0 < most
    → OnOk r (AddsPeers rest (most - 1) pushed new) → OnOk r (AddsPeers text most old new)
adds_all text first rest most old pushed new address (Ok u) e named added some h = adds_more text first rest most old pushed new address e named added some h
adds_all text first rest most old pushed new address (Err fault) e named added some h = tt

cause_more : (text first rest : Text) (most : ℕ) (fault : ListenFault) → parts_of text ≡ first ∷ parts_of rest → 0 < most
    → IsPeersCause rest (most - 1) fault → IsPeersCause text most fault
cause_more text first rest most BadPeers e some h = rw e (elim h [ inl none ↦ inl (inr none) | inr long ↦ inr (omega (arith, long)) ])
cause_more text first rest most (Run fault) e some h = h
cause_more text first rest most NoText e some h = absurd h
cause_more text first rest most BadPrefix e some h = absurd h
cause_more text first rest most BadWriter e some h = absurd h
cause_more text first rest most BadAddress e some h = absurd h
cause_more text first rest most OnlyAnnounced e some h = absurd h
cause_more text first rest most TooLong e some h = absurd h
cause_more text first rest most (NoPorts low high) e some h = absurd h
cause_more text first rest most Socket e some h = absurd h

pub causes_more : (text first rest : Text) (most : ℕ) (r : Result (Unit {0}) ListenFault) → parts_of text ≡ first ∷ parts_of rest → 0 < most
    → IfErr r (IsPeersCause rest (most - 1)) → IfErr r (IsPeersCause text most)
causes_more text first rest most (Ok u) e some h = tt
causes_more text first rest most (Err fault) e some h = cause_more text first rest most fault e some h

-- what peers are refused with
peers_fault : (o : Option (Bor Text)) (fault : ListenFault) → IsPeersFault o fault → (fault ≡ BadPeers) ⊎ ((fault ≡ BadAddress) ⊎ (fault ≡ Run NoMemory))
peers_fault o BadPeers h = inl refl
peers_fault o (Run fault) h = inr (inr (ap Run h))
peers_fault o NoText h = absurd h
peers_fault o BadPrefix h = absurd h
peers_fault o BadWriter h = absurd h
peers_fault o BadAddress h = absurd h
peers_fault o OnlyAnnounced h = absurd h
peers_fault o TooLong h = absurd h
peers_fault o (NoPorts low high) h = absurd h
peers_fault o Socket h = absurd h

-- a good address, and peers that are refused
pub peers_refused : {T : Type 0} (o : Options) (address : Ipv4Addr) (s : Result T ListenFault) (fault : ListenFault) → IsUnicastText o.address.now address
    → IsErrAnd s (λ e. e ≡ fault) → IsPeersFault o.peers fault → RefusesPlaces o s
peers_refused o address (Ok u) fault good is h = absurd is
peers_refused o address (Err e) fault good is h = record {
  address = λ bad. absurd (bad (address, good));
  peers = λ bad. peers_fault o.peers e (rw is h);
}

-- and good ones
pub places_taken : {T : Type 0} (o : Options) (address : Ipv4Addr) (peers : List Ipv4Addr) (s : Result T ListenFault) → IsUnicastText o.address.now address
    → NamesPeers o.peers peers → RefusesPlaces o s
places_taken o address peers s good named = record {
  address = λ bad. absurd (bad (address, good));
  peers = λ bad. absurd (bad (peers, named));
}

-- a text that is refused
pub text_fault : (text : Text) (fault : ListenFault) → IsPeersCause text 12 fault → (o : Option (Bor Text))
    → (b : Bor Text) → o ≡ Some b → b.now ≡ text → IsPeersFault o fault
text_fault text BadPeers h o b is same = rw is (rw same h)
text_fault text (Run fault) h o b is same = h
text_fault text NoText h o b is same = absurd h
text_fault text BadPrefix h o b is same = absurd h
text_fault text BadWriter h o b is same = absurd h
text_fault text BadAddress h o b is same = absurd h
text_fault text OnlyAnnounced h o b is same = absurd h
text_fault text TooLong h o b is same = absurd h
text_fault text (NoPorts low high) h o b is same = absurd h
text_fault text Socket h o b is same = absurd h

-- why options have no such participant
pub peers_cause : (o : Options) (fault : ListenFault) → IsPeersFault o.peers fault → IsReachCause o fault
peers_cause o BadPeers h = h
peers_cause o (Run fault) h = h
peers_cause o NoText h = absurd h
peers_cause o BadPrefix h = absurd h
peers_cause o BadWriter h = absurd h
peers_cause o BadAddress h = absurd h
peers_cause o OnlyAnnounced h = absurd h
peers_cause o TooLong h = absurd h
peers_cause o (NoPorts low high) h = absurd h
peers_cause o Socket h = absurd h
