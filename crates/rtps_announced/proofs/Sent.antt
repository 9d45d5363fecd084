-- Announcements, some after others.
use Rattle.std.proofs.Common.{◌≡◌, ℕ, ◌+◌, ◌<◌, Bool, true, false, List, [], ◌∷◌, ◌++◌, Option, None, Some, refl, sym, ap, subst, ◌∙◌, append_assoc, append-nil, filter, length, take}
use Rattle.std.specs.Prelude.{flat_map, get_or, Result, Ok, Err}
use Rattle.std.proofs.lemmas.List.{map-append, take_more}
use Rattle.std.proofs.lemmas.List.Elements.{filter-append}
use Rattle.std.proofs.lemmas.Grind.{flat_map-append}
use Rattle.std.specs.declared.io.ErrorKind.{ErrorKind}
use Rattle.rtps_types.specs.declared.locator.Locator.{Locator}
use Rattle.rtps_udp.specs.Calls.{Announces, Call, Logs, announced_in, traffic_of}
use Rattle.rtps_udp.specs.Ports.{SendsAnnouncement}
use Rattle.rtps_udp.specs.declared.fault.SocketFault.{SocketFault}
use Rattle.rtps_udp.specs.declared.fault.SocketFault.TheVariants.{Send}
use Rattle.rtps_udp.proofs.Announced.{announced-append}
use Rattle.rtps_udp.specs.Addresses.{is_answered}
use Rattle.rtps_udp.specs.declared.sockets.Sockets.{Sockets}
use Rattle.dds_announced.specs.declared.announcement.Announcement.{Announcement}
use Rattle.rtps_announced.specs.Announced.{AnnouncesMore, IsSameSockets, addressed, all_addressed, to_each}

-- nothing is announced by no call
pub none_more : (s : ℕ) (a : Option (List Call)) → AnnouncesMore s a a []
unfolding AnnouncesMore
none_more s None = refl
none_more s (Some x) = (refl, sym (append-nil (announced_in x)))

-- some announcements, and then others
pub more_then : (s t : ℕ) → t ≡ s → (a b c : Option (List Call)) (xs ys : List (Locator × List ℕ))
    → AnnouncesMore s a b xs → AnnouncesMore t b c ys → AnnouncesMore s a c (xs ++ ys)
unfolding AnnouncesMore
more_then s t same None b c xs ys first second =
    subst (λ (x : Option (List Call)). AnnouncesMore t x c ys) first second
more_then s t same (Some x) None c xs ys first second = absurd first
more_then s t same (Some x) (Some y) None xs ys first second = absurd second
more_then s t same (Some x) (Some y) (Some z) xs ys first second =
    let here = subst (λ (u : ℕ). flat_map (traffic_of u) z ≡ flat_map (traffic_of u) y) same second.0 in (
      here ∙ first.0,
      second.1 ∙ ap (λ (l : List (Locator × List ℕ)). l ++ ys) first.1
          ∙ append_assoc (announced_in x) xs ys,
    )

-- one announcement, whatever its outcome
logged : (s : ℕ) (a b : Option (List Call)) (to : Locator) (octets : List ℕ)
    (outcome : Option ErrorKind) → Logs a b (Announces to octets outcome)
    → AnnouncesMore s a b ((to, octets) ∷ [])
unfolding AnnouncesMore
logged s None b to octets outcome logs = logs
logged s (Some x) None to octets outcome logs = absurd logs
logged s (Some x) (Some y) to octets outcome logs = (
  ap (flat_map (traffic_of s)) logs
      ∙ flat_map-append (traffic_of s) x (Announces to octets outcome ∷ [])
      ∙ append-nil (flat_map (traffic_of s) x),
  ap announced_in logs ∙ announced-append x (Announces to octets outcome),
)

pub one_more : (s : ℕ) (a b : Option (List Call)) (to : Locator) (octets : List ℕ)
    (result : Result (Unit {0}) SocketFault) → SendsAnnouncement a b to octets result
    → AnnouncesMore s a b ((to, octets) ∷ [])
unfolding SendsAnnouncement
one_more s a b to octets (Ok u) sends = logged s a b to octets None sends
one_more s a b to octets (Err (Send kind)) sends = logged s a b to octets (Some kind) sends
one_more s a b to octets (Err fault) sends = absurd sends

-- an announcement to one place of a peer, if that is answered
pub place_more : (s : ℕ) (bound first : List ℕ) → bound ≡ first → (a b : Option (List Call))
    (to : Locator) (octets : List ℕ) (result : Result (Unit {0}) SocketFault)
    → (is_answered bound to ≡ false → b ≡ a)
    → (is_answered bound to ≡ true → SendsAnnouncement a b to octets result)
    → AnnouncesMore s a b (to_each (filter (is_answered first) (to ∷ [])) octets)
place_more s bound first same a b to octets result refused sent =
    subst (λ (x : List ℕ). AnnouncesMore s a b (to_each (filter (is_answered x) (to ∷ [])) octets))
    same (by_answer (is_answered bound to) refl)
  where
    by_answer : (answered : Bool) → is_answered bound to ≡ answered
        → AnnouncesMore s a b (to_each (filter (is_answered bound) (to ∷ [])) octets)
    by_answer false is =
        rw is (subst (λ (x : Option (List Call)). AnnouncesMore s a x []) (sym (refused is))
        (none_more s a))
    by_answer true is = rw is (one_more s a b to octets result (sent is))

-- octets for some places and then for one more
pub each_more : (places : List Locator) (i : ℕ) (d : Locator) (octets : List ℕ) → i < length places
    → to_each (take i places) octets ++ (get_or places i d, octets) ∷ []
    ≡ to_each (take (i + 1) places) octets
each_more places i d octets within =
    sym (ap (λ (l : List Locator). to_each l octets) (take_more places i d within)
    ∙ map-append (λ (to : Locator). (to, octets)) (take i places) (get_or places i d ∷ []))

pub some_more : (p : Locator → Bool) (places : List Locator) (i : ℕ) (d : Locator)
    (octets : List ℕ) → i < length places
    → to_each (filter p (take i places)) octets ++ to_each (filter p (get_or places i d ∷ [])) octets
    ≡ to_each (filter p (take (i + 1) places)) octets
some_more p places i d octets within =
    sym (ap (λ (l : List Locator). to_each (filter p l) octets) (take_more places i d within)
    ∙ ap (λ (l : List Locator). to_each l octets)
    (filter-append p (take i places) (get_or places i d ∷ []))
    ∙ map-append (λ (to : Locator). (to, octets)) (filter p (take i places))
    (filter p (get_or places i d ∷ [])))

-- announcements and then one more
pub all_more : (everyone : List Locator) (bound : List ℕ) (list : List Announcement) (i : ℕ)
    (d : Announcement) → i < length list
    → all_addressed everyone bound (take i list) ++ addressed everyone bound (get_or list i d)
    ≡ all_addressed everyone bound (take (i + 1) list)
all_more everyone bound list i d within =
    sym (ap (all_addressed everyone bound) (take_more list i d within)
    ∙ flat_map-append (addressed everyone bound) (take i list) (get_or list i d ∷ [])
    ∙ ap (λ (l : List (Locator × List ℕ)). all_addressed everyone bound (take i list) ++ l)
    (append-nil (addressed everyone bound (get_or list i d))))

-- where sockets are bound stays, by two calls
pub same_then : {L : Type 0} (a b c : Sockets L) → IsSameSockets a b → IsSameSockets b c
    → IsSameSockets a c
same_then a b c first second = record {
  start = second.start ∙ first.start;
  binding = second.binding ∙ first.binding;
}
