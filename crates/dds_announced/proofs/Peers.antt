-- The peers of an announcer, and the participants that are known, at each hearing.
use Rattle.std.proofs.Common.{◌≡◌, ℕ, ◌+◌, ◌-◌, ◌≤◌, cond, Bool, true, false, not, List, [], ◌∷◌, ◌++◌, length, Option, None, Some, refl, sym, ap, subst, ◌∙◌, arith}
use Rattle.std.specs.Prelude.{◌&&◌, ◌||◌, filter, if◌then◌else◌, is_some, max, min, nat_lt, slice_get, slice_set}
use Rattle.std.specs.BTreeMap.{insert_entry}
use Rattle.std.specs.List.Sorted.{IsStrictlySortedBy}
use Rattle.std.specs.Map.{keys_of, lookup, remove_entry, set_value}
use Rattle.std.specs.Option.{option_map}
use Rattle.std.specs.Str.{bytes_eq}
use Rattle.std.proofs.lemmas.Bool.Decides.{nat_tests}
use Rattle.std.proofs.lemmas.Map.{keys-set_value}
use Rattle.std.proofs.lemmas.Map.Entries.{lookup-filter-keys}
use Rattle.std.proofs.lemmas.Map.Text.{is_eq-slice_cmp}
use Rattle.rtps_types.specs.declared.identity.GuidPrefix.{GuidPrefix}
use Rattle.rtps_discovery.specs.Known as known
use Rattle.rtps_discovery.specs.Known.{Known, RemoteParticipant, is_of, participant_at, prefix_order, same_prefix}
use Rattle.rtps_discovery.specs.Leases.{greatest_moment, is_after, lease_of}
use Rattle.rtps_discovery.specs.Silence as silence
use Rattle.rtps_discovery.proofs.Ends.{prefix_is}
use Rattle.rtps_discovery.proofs.Guids.{prefix_total}
use Rattle.rtps_discovery.proofs.Silent.{silence_is_forgotten}
use Rattle.rtps_announcer.specs.Ack.{AckView}
use Rattle.rtps_announcer.specs.declared.hearing.Facts.{Facts}
use Rattle.rtps_announcer.specs.declared.hearing.Hearing.TheVariants.{Passes, Comes, Leaves, Acks, Joins, Parts}
use Rattle.rtps_announcer.specs.declared.peer.Peer.{Peer}
use Rattle.rtps_announcer.specs.declared.rules.Rules.{Rules}
use Rattle.rtps_announcer.specs.declared.said.Change.TheVariants.{Asks, Ends}
use Rattle.rtps_announcer.specs.declared.said.Sending.{Sending}
use Rattle.rtps_announcer.specs.Announcing.{Peers, State, acknowledging, acks_by, answer_at, at_moment, comes_by, found, now_of, oldest, parts_by, quiet, room, step, without}
use Rattle.rtps_announcer.specs.Peer.{acknowledged, has_lapsed, is_late, is_past, newcomer, reminded, renewed, told_more}
use Rattle.dds_announced.specs.Found.{IsFoundAs, owed_by, owed_then}
use Rattle.dds_announced.proofs.Keyed.{left_up, removed_up}
use Rattle.dds_announced.proofs.Pairs.{IsPair, Pairs, drop_one, end_both, leave_both, map_first, put_both, put_here, put_up, set_first, with_at, without_at}

abbrev Matched : (GuidPrefix → Bool) → Peers → List (GuidPrefix × RemoteParticipant) → Type 0
Matched owed ps qs = Pairs prefix_order prefix_total IsFoundAs owed ps qs

-- an announcer of the participant `own` and what is known by then
pub record Tied (own kown : GuidPrefix) (moment : ℕ) (participants : List (GuidPrefix × RemoteParticipant)) (s : State) (owed : GuidPrefix → Bool) : Type 0 where
  pub own_is : kown ≡ own
  pub moment_is : s.moment ≡ moment
  pub least : moment ≤ greatest_moment
  pub stranger : lookup (same_prefix own) participants ≡ None
  pub pairs : Matched owed s.peers participants

abbrev pub TiedTo : GuidPrefix → Known → State → (GuidPrefix → Bool) → Type 0
TiedTo own k s owed = Tied own k.own k.moment k.participants s owed

-- ---- a moment passes

ended_is : (heard ms moment greatest : ℕ) → moment ≤ greatest → nat_lt ms (moment - heard) ≡ nat_lt (min (heard + ms) greatest) moment
ended_is heard ms moment greatest least = grind (arith, nat_tests)

lapse_is : (moment : ℕ) (x : Peer) (q : RemoteParticipant) → moment ≤ greatest_moment → IsFoundAs x q → has_lapsed moment x ≡ silence.has_lapsed moment (Some q)
lapse_is moment x q least found =
    ap (λ (l : Option ℕ). is_past moment x.heard l) found.lease
    ∙ ap (λ (h : ℕ). is_past moment h (lease_of q.lease)) found.heard
    ∙ by_lease (lease_of q.lease)
  where
    by_lease : (l : Option ℕ) → is_past moment q.heard l ≡ is_after moment (option_map (λ (ms : ℕ). min (q.heard + ms) greatest_moment) l)
    by_lease None = refl
    by_lease (Some ms) = ended_is q.heard ms moment greatest_moment least

reminded_fits : (r : Rules) (s : State) (x : Peer) (q : RemoteParticipant) → IsFoundAs x q → IsFoundAs (reminded r (now_of s) x) q
reminded_fits r s x q found = by_case (is_late r (now_of s) x)
  where
    by_case : (b : Bool) → IsFoundAs (if b then record x { told = s.moment; left = x.left - 1 } else x) q
    by_case true = record { heard = found.heard; lease = found.lease }
    by_case false = found

pub passes_tied : (own : GuidPrefix) (k : Known) (r : Rules) (s : State) (owed : GuidPrefix → Bool) (m : ℕ) → m ≤ greatest_moment
    → TiedTo own k s owed → TiedTo own (known.passed m k) (step r (Passes m) s).state owed
passes_tied own k r s owed m small t =
    let law = silence_is_forgotten m k t.pairs.second in
    let now = max k.moment m in
    let at : max s.moment m ≡ now = ap (λ (n : ℕ). max n m) t.moment_is in
    let low : now ≤ greatest_moment = omega (arith, small, t.least) in
    let up : IsStrictlySortedBy prefix_order (keys_of (known.passed m k).participants) =
    subst (λ (l : List (GuidPrefix × RemoteParticipant)). IsStrictlySortedBy prefix_order (keys_of l)) (sym law.participants)
    (left_up prefix_order (λ (e : GuidPrefix × RemoteParticipant). not (silence.is_silent m k e.0)) k.participants t.pairs.second) in
    let left = end_both prefix_order prefix_total IsFoundAs owed s.peers k.participants (known.passed m k).participants
    (has_lapsed now) (silence.has_lapsed now) t.pairs up law.participant (λ x q found. lapse_is now x q low found) in
    record {
      own_is = t.own_is;
      moment_is = at;
      least = low;
      stranger = law.participant own ∙ nobody (silence.is_silent m k own) (participant_at k own) t.stranger;
      pairs = map_first prefix_order prefix_total IsFoundAs owed _ _ (reminded r (now_of (at_moment m s)))
          (subst (λ (n : ℕ). Matched owed (filter (λ (e : GuidPrefix × Peer). not (has_lapsed n e.1)) s.peers) (known.passed m k).participants) (sym at) left)
          (λ x q found. reminded_fits r (at_moment m s) x q found);
    }
  where
    nobody : (b : Bool) (o : Option RemoteParticipant) → o ≡ None → (if b then None else o) ≡ None
    nobody true o is = refl
    nobody false o is = is

-- ---- what only the announcer hears

told_fits : (r : Rules) (s : State) (x : Peer) (q : RemoteParticipant) → IsFoundAs x q → IsFoundAs (told_more r (now_of s) x) q
told_fits r s x q found = record { heard = found.heard; lease = found.lease }

pub acks_tied : (own kown : GuidPrefix) (moment : ℕ) (ps : List (GuidPrefix × RemoteParticipant)) (r : Rules) (s : State) (owed : GuidPrefix → Bool) (p : GuidPrefix) (a : AckView)
    → Tied own kown moment ps s owed → Tied own kown moment ps (step r (Acks p a) s).state owed
acks_tied own kown moment ps r s owed p a t = by_answer (answer_at r p a s)
  where
    by_peer : (o : Option Peer) → lookup (same_prefix p) s.peers ≡ o → Matched owed (acknowledging r p a s o) ps
    by_peer None is = t.pairs
    by_peer (Some x) is =
        set_first prefix_order prefix_total IsFoundAs owed s.peers ps p x (acknowledged r (now_of s) a x) t.pairs is
        (λ q found. record { heard = found.heard; lease = found.lease }) (prefix_is p)

    by_answer : (o : Option (List Sending)) → Tied own kown moment ps (acks_by r p a s o).state owed
    by_answer None = t
    by_answer (Some sends) = record {
      own_is = t.own_is;
      moment_is = t.moment_is;
      least = t.least;
      stranger = t.stranger;
      pairs = by_peer (lookup (same_prefix p) s.peers) refl;
    }

pub joins_tied : (own kown : GuidPrefix) (moment : ℕ) (ps : List (GuidPrefix × RemoteParticipant)) (r : Rules) (s : State) (owed : GuidPrefix → Bool)
    → Tied own kown moment ps s owed → Tied own kown moment ps (step r Joins s).state owed
joins_tied own kown moment ps r s owed t =
    let now : State = record s { changes = s.changes ++ Asks (length s.gone) ∷ []; gone = s.gone ++ false ∷ [] } in
    record {
      own_is = t.own_is;
      moment_is = t.moment_is;
      least = t.least;
      stranger = t.stranger;
      pairs = map_first prefix_order prefix_total IsFoundAs owed s.peers ps (told_more r (now_of now)) t.pairs (λ x q found. told_fits r now x q found);
    }

pub parts_tied : (own kown : GuidPrefix) (moment : ℕ) (ps : List (GuidPrefix × RemoteParticipant)) (r : Rules) (s : State) (owed : GuidPrefix → Bool) (rank : ℕ)
    → Tied own kown moment ps s owed → Tied own kown moment ps (step r (Parts rank) s).state owed
parts_tied own kown moment ps r s owed rank t = by_gone (slice_get s.gone rank)
  where
    by_gone : (o : Option Bool) → Tied own kown moment ps (parts_by r rank s o).state owed
    by_gone None = t
    by_gone (Some true) = t
    by_gone (Some false) =
        let now : State = record s { changes = s.changes ++ Ends rank ∷ []; gone = slice_set s.gone rank true } in
        record {
          own_is = t.own_is;
          moment_is = t.moment_is;
          least = t.least;
          stranger = t.stranger;
          pairs = map_first prefix_order prefix_total IsFoundAs owed s.peers ps (told_more r (now_of now)) t.pairs (λ x q found. told_fits r now x q found);
        }

-- ---- a participant comes

and_right : (a b : Bool) → (a && b) ≡ true → b ≡ true
and_right true b h = h
and_right false b h = absurd (let bad : false ≡ true = h in cc)

and_false : (a : Bool) → (a && false) ≡ false
and_false true = refl
and_false false = refl

module _ (own kown : GuidPrefix) (moment : ℕ) (ps : List (GuidPrefix × RemoteParticipant)) (r : Rules) (s : State) (owed : GuidPrefix → Bool) (p : GuidPrefix) (f : Facts) (q : RemoteParticipant)
    (t : Tied own kown moment ps s owed) (heard : q.heard ≡ s.moment) (lease : f.lease ≡ lease_of q.lease) (other : same_prefix own p ≡ false) where
  abbrev Now : State → (GuidPrefix → Bool) → Type 0
  Now now next = Tied own kown moment (insert_entry prefix_order ps p q) now next

  apart : same_prefix p own ≡ false
  apart = by_test (same_prefix p own) refl
    where
      by_test : (b : Bool) → same_prefix p own ≡ b → b ≡ false
      by_test true is =
          let one : p ≡ own = prefix_is p own is in
          let bad : true ≡ false = sym is ∙ ap (λ (x : GuidPrefix). same_prefix x own) one ∙ ap (λ (x : GuidPrefix). same_prefix own x) (sym one) ∙ other in absurd cc
      by_test false is = refl

  stays_strange : lookup (same_prefix own) (insert_entry prefix_order ps p q) ≡ None
  stays_strange = put_here prefix_order prefix_total IsFoundAs p own q ps ∙ ap (λ (b : Bool). cond b (Some q) (lookup (same_prefix own) ps)) apart ∙ t.stranger

  tied_by : (now : State) (next : GuidPrefix → Bool) → now.moment ≡ s.moment → Matched next now.peers (insert_entry prefix_order ps p q) → Now now next
  tied_by now next at pairs = record {
    own_is = t.own_is;
    moment_is = at ∙ t.moment_is;
    least = t.least;
    stranger = stays_strange;
    pairs = pairs;
  }

  later : (room hears : Bool) (k : GuidPrefix) → same_prefix p k ≡ false → owed_by room hears p owed k ≡ true → owed k ≡ true
  later room hears k not h = and_right room (owed k) (rw not at h)

  -- it isn't served any more, or wasn't
  nothing_here : (room : Bool) (k : GuidPrefix) → same_prefix p k ≡ true → owed_by room false p owed k ≡ false
  nothing_here room k is = rw is (and_false room)

  nobody_there : lookup (same_prefix p) s.peers ≡ None → (k : GuidPrefix) → lookup (same_prefix k) s.peers ≡ cond (same_prefix p k) None (lookup (same_prefix k) s.peers)
  nobody_there none k = by_key (same_prefix p k) refl
    where
      by_key : (b : Bool) → same_prefix p k ≡ b → lookup (same_prefix k) s.peers ≡ cond b None (lookup (same_prefix k) s.peers)
      by_key true is = subst (λ (x : GuidPrefix). lookup (same_prefix x) s.peers ≡ None) (prefix_is p k is) none
      by_key false is = refl

  unserved : (room : Bool) → lookup (same_prefix p) s.peers ≡ None → Now s (owed_by room false p owed)
  unserved room none = tied_by s (owed_by room false p owed) refl
      (put_both prefix_order prefix_total IsFoundAs owed (owed_by room false p owed) s.peers s.peers ps p None q t.pairs t.pairs.first
      (nobody_there none) (λ k is. nothing_here room k is) (λ k not h. later room false k not h))

  again : (room hears : Bool) (x : Peer) → lookup (same_prefix p) s.peers ≡ Some x
      → Now (record s { peers = if hears then set_value (same_prefix p) s.peers (renewed r (now_of s) f x) else remove_entry (same_prefix p) s.peers }) (owed_by room hears p owed)
  again room true x is =
      let new = renewed r (now_of s) f x in
      tied_by (record s { peers = set_value (same_prefix p) s.peers new }) (owed_by room true p owed) refl
      (put_both prefix_order prefix_total IsFoundAs owed (owed_by room true p owed) s.peers (set_value (same_prefix p) s.peers new) ps p (Some new) q t.pairs
      (subst (IsStrictlySortedBy prefix_order) (sym (keys-set_value (same_prefix p) s.peers new)) t.pairs.first)
      (λ k. with_at prefix_order prefix_total IsFoundAs p k x new s.peers is)
      (λ k here. record { heard = sym heard; lease = lease }) (λ k not h. later room true k not h))
  again room false x is =
      tied_by (record s { peers = remove_entry (same_prefix p) s.peers }) (owed_by room false p owed) refl
      (put_both prefix_order prefix_total IsFoundAs owed (owed_by room false p owed) s.peers (remove_entry (same_prefix p) s.peers) ps p None q t.pairs
      (removed_up prefix_order (same_prefix p) s.peers t.pairs.first)
      (λ k. without_at prefix_order prefix_total IsFoundAs p k s.peers t.pairs.first)
      (λ k here. nothing_here room k here) (λ k not h. later room false k not h))

  -- it gets a place among these
  placed : (before next : GuidPrefix → Bool) (peers : Peers) → Matched before peers ps → ((k : GuidPrefix) → same_prefix p k ≡ false → next k ≡ true → before k ≡ true)
      → Now (found r p f s (Some peers)).state next
  placed before next peers pairs less =
      let new = newcomer r (now_of s) f in
      tied_by (found r p f s (Some peers)).state next refl
      (put_both prefix_order prefix_total IsFoundAs before next peers (insert_entry prefix_order peers p new) ps p (Some new) q pairs
      (put_up prefix_order prefix_total IsFoundAs p new peers pairs.first)
      (λ k. put_here prefix_order prefix_total IsFoundAs p k new peers)
      (λ k here. record { heard = sym heard; lease = lease }) less)

  -- all places are taken
  crowded : (o : Option (GuidPrefix × ℕ)) → lookup (same_prefix p) s.peers ≡ None → Now (found r p f s (without o s.peers)).state (owed_by false true p owed)
  crowded None none = tied_by s (owed_by false true p owed) refl
      (put_both prefix_order prefix_total IsFoundAs owed (owed_by false true p owed) s.peers s.peers ps p None q t.pairs t.pairs.first
      (nobody_there none) (λ k is. refl) (λ k not h. absurd (let bad : false ≡ true = h in cc)))
  crowded (Some mute) none =
      placed (λ k. false) (owed_by false true p owed) (remove_entry (same_prefix mute.0) s.peers)
      (drop_one prefix_order prefix_total IsFoundAs owed s.peers ps mute.0 t.pairs) (λ k not h. h)

  served : (few : Bool) → lookup (same_prefix p) s.peers ≡ None
      → Now (found r p f s (if few then Some s.peers else without (oldest None s.peers) s.peers)).state (owed_by (few || false) true p owed)
  served true none = placed owed (owed_by true true p owed) s.peers t.pairs (λ k not h. later true true k not h)
  served false none = crowded (oldest None s.peers) none

  by_hearing : (hears few : Bool) → lookup (same_prefix p) s.peers ≡ None
      → Now (if hears then found r p f s (if few then Some s.peers else without (oldest None s.peers) s.peers) else quiet s).state (owed_by (few || false) hears p owed)
  by_hearing true few none = served few none
  by_hearing false few none = unserved (few || false) none

  pub comes_tied : Now (step r (Comes p f) s).state (owed_then r s (Comes p f) owed)
  comes_tied = by_peer (lookup (same_prefix p) s.peers) refl
    where
      by_peer : (o : Option Peer) → lookup (same_prefix p) s.peers ≡ o
          → Now (comes_by r p f s o).state (owed_by (nat_lt (length s.peers) r.peers || is_some o) f.hears p owed)
      by_peer None none = by_hearing f.hears (nat_lt (length s.peers) r.peers) none
      by_peer (Some x) is = again (nat_lt (length s.peers) r.peers || true) f.hears x is

-- ---- a participant leaves

gone_at : (p : GuidPrefix) (ps : List (GuidPrefix × RemoteParticipant)) (k : GuidPrefix)
    → lookup (same_prefix k) (filter (λ (e : GuidPrefix × RemoteParticipant). not (is_of (p ∷ []) e.0)) ps) ≡ cond (same_prefix p k) None (lookup (same_prefix k) ps)
gone_at p ps k =
    lookup-filter-keys (same_prefix k) (λ (x : GuidPrefix). not (is_of (p ∷ []) x)) (not (is_of (p ∷ []) k))
    (λ x is. ap (λ (y : GuidPrefix). not (is_of (p ∷ []) y)) (sym (prefix_is k x is))) ps
    ∙ by_test (bytes_eq p.0 k.0) (same_prefix p k) (sym (is_eq-slice_cmp p.0 k.0))
  where
    by_test : (b c : Bool) → b ≡ c → cond (not (b || false)) (lookup (same_prefix k) ps) None ≡ cond c None (lookup (same_prefix k) ps)
    by_test true true is = refl
    by_test true false is = absurd (let bad : true ≡ false = is in cc)
    by_test false true is = absurd (let bad : false ≡ true = is in cc)
    by_test false false is = refl

gone_up : (p : GuidPrefix) (ps : List (GuidPrefix × RemoteParticipant)) → IsStrictlySortedBy prefix_order (keys_of ps)
    → IsStrictlySortedBy prefix_order (keys_of (filter (λ (e : GuidPrefix × RemoteParticipant). not (is_of (p ∷ []) e.0)) ps))
gone_up p ps up = left_up prefix_order (λ (e : GuidPrefix × RemoteParticipant). not (is_of (p ∷ []) e.0)) ps up

none_still : (b : Bool) (o : Option RemoteParticipant) → o ≡ None → cond b None o ≡ None
none_still true o is = refl
none_still false o is = is

pub leaves_tied : (own kown : GuidPrefix) (moment : ℕ) (ps : List (GuidPrefix × RemoteParticipant)) (r : Rules) (s : State) (owed : GuidPrefix → Bool) (p : GuidPrefix)
    → Tied own kown moment ps s owed
    → Tied own kown moment (filter (λ (e : GuidPrefix × RemoteParticipant). not (is_of (p ∷ []) e.0)) ps) (step r (Leaves p) s).state owed
leaves_tied own kown moment ps r s owed p t = record {
  own_is = t.own_is;
  moment_is = t.moment_is;
  least = t.least;
  stranger = gone_at p ps own ∙ none_still (same_prefix p own) (lookup (same_prefix own) ps) t.stranger;
  pairs = leave_both prefix_order prefix_total IsFoundAs owed s.peers ps _ p t.pairs (gone_up p ps t.pairs.second) (gone_at p ps);
}

-- our own participant isn't known
pub own_leaves_tied : (own kown : GuidPrefix) (moment : ℕ) (ps : List (GuidPrefix × RemoteParticipant)) (s : State) (owed : GuidPrefix → Bool) (p : GuidPrefix) → p ≡ own
    → Tied own kown moment ps s owed
    → Tied own kown moment (filter (λ (e : GuidPrefix × RemoteParticipant). not (is_of (p ∷ []) e.0)) ps) s owed
own_leaves_tied own kown moment ps s owed p same t = record {
  own_is = t.own_is;
  moment_is = t.moment_is;
  least = t.least;
  stranger = gone_at p ps own ∙ none_still (same_prefix p own) (lookup (same_prefix own) ps) t.stranger;
  pairs = record {
    first = t.pairs.first;
    second = gone_up p ps t.pairs.second;
    pairs = λ k. subst (λ (y : Option RemoteParticipant). IsPair IsFoundAs (owed k) (lookup (same_prefix k) s.peers) y) (sym (gone_at p ps k ∙ still k)) (t.pairs.pairs k);
  };
}
  where
    still : (k : GuidPrefix) → cond (same_prefix p k) None (lookup (same_prefix k) ps) ≡ lookup (same_prefix k) ps
    still k = by_key (same_prefix p k) refl
      where
        by_key : (b : Bool) → same_prefix p k ≡ b → cond b None (lookup (same_prefix k) ps) ≡ lookup (same_prefix k) ps
        by_key true is = sym (subst (λ (x : GuidPrefix). lookup (same_prefix x) ps ≡ None) (sym same ∙ prefix_is p k is) t.stranger)
        by_key false is = refl
