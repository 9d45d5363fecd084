-- What was announced by some calls, and then by others.
use Rattle.std.proofs.Common.{◌≡◌, ℕ, List, [], ◌∷◌, ◌++◌, Bool, true, false, Option, None, Some, refl, sym, ap, subst, ◌∙◌, append_assoc, append-nil, length, map}
use Rattle.std.proofs.lemmas.Grind.{flat_map-append}
use Rattle.std.specs.Prelude.{IfOk, IsErr, OnErr, Result, Ok, Err, flat_map, option_map}
use Rattle.std.specs.declared.alloc.AllocError.{AllocError}
use Rattle.std.specs.declared.vec.Vec.{Vec}
use Rattle.rtps_types.specs.declared.locator.Locator.{Locator}
use Rattle.rtps_types.specs.declared.identity.GuidPrefix.{GuidPrefix}
use Rattle.rtps_records.proofs.Heard.{heard-append, moment-append}
use Rattle.rtps_records.specs.RecordFile.{Record}
use Rattle.rtps_records.specs.Speech.{HasLeft}
use Rattle.rtps_records.specs.Text.{IsFront}
use Rattle.rtps_records.specs.Traffic.{Grows, Traffic, heard_after, heard_in, moment_after}
use Rattle.rtps_udp.specs.Calls.{AnnouncesNothing, Call, announced_in, traffic_in, traffic_of}
use Rattle.rtps_announcer.proofs.Running.{state_more}
use Rattle.rtps_announcer.specs.Announcing.{Peers, State, farewell, first, news_to, now_of, sends_run, state_run, step}
use Rattle.rtps_announcer.specs.Peer.{told_more}
use Rattle.rtps_announcer.specs.Standing.{StandsAt}
use Rattle.rtps_announcer.specs.declared.peer.Peer.{Peer}
use Rattle.rtps_announcer.specs.declared.said.Change.TheVariants.{Asks}
use Rattle.rtps_announcer.specs.declared.hearing.Hearing.{Hearing}
use Rattle.rtps_announcer.specs.declared.hearing.Hearing.TheVariants.{Joins}
use Rattle.rtps_announcer.specs.declared.rules.Rules.{Rules}
use Rattle.rtps_announcer.specs.declared.said.Sending.{Sending}
use Rattle.dds_announced.proofs.Onward.{sends_more}
use Rattle.dds_announced.specs.declared.announcement.Announcement.{Announcement}
use Rattle.dds_announced.specs.declared.speaker.Speaker.{Speaker}
use Rattle.dds_announced.specs.declared.voice.Voice.{Voice}
use Rattle.dds_announced.specs.Speaker.{announcements}
use Rattle.dds_announced.specs.Voice.{IsSameVoice, Says, joined_by}
use Rattle.rtps_announced.specs.Announced.{AnnouncesMore, HasCalledNothing, HasSpoken, HasSpokenBy, Manner, addressed, all_addressed, announced_by, heard_by, hearing_of, manner_of, said_by, speech_of, spoken}

-- the manner of a voice stays
abbrev with_parts : Rules → GuidPrefix → Speaker → List Locator → List ℕ → Manner
with_parts rules own speaker everyone bound =
    record { rules = rules; own = own; speaker = speaker; everyone = everyone; bound = bound }

pub same_manner : (old new : Voice) (bound : List ℕ) → IsSameVoice old new
    → manner_of new bound ≡ manner_of old bound
same_manner old new bound same =
    ap (λ x. with_parts x new.announcer.own new.speaker new.everyone bound) same.announcer.rules
    ∙ ap (λ x. with_parts old.announcer.rules x new.speaker new.everyone bound) same.announcer.own
    ∙ ap (λ x. with_parts old.announcer.rules old.announcer.own x new.everyone bound) same.speaker
    ∙ ap (λ x. with_parts old.announcer.rules old.announcer.own old.speaker x bound) same.everyone

-- what the calls after some others add to what is heard
heard_more : (m : Manner) (t more : List Traffic)
    → heard_by m (t ++ more)
    ≡ heard_by m t ++ flat_map (hearing_of m.own) (heard_after (moment_after 0 t) more)
heard_more m t more =
    let f = hearing_of m.own in
    let js = map (λ r. Joins) m.speaker.readers.items in
    let rest = heard_after (moment_after 0 t) more in
    ap (λ (l : List Record). js ++ flat_map f l) (heard-append 0 t more)
    ∙ ap (λ (l : List Hearing). js ++ l) (flat_map-append f (heard_in t) rest)
    ∙ sym (append_assoc js (flat_map f (heard_in t)) (flat_map f rest))

said_more : (m : Manner) (xs ys : List Announcement)
    → said_by m (xs ++ ys) ≡ said_by m xs ++ said_by m ys
said_more m xs ys = flat_map-append (addressed m.everyone m.bound) xs ys

-- the datagrams of what is sent by some hearings, and then by others
announced_more : (m : Manner) (xs ys : List Hearing)
    → said_by m (announcements m.speaker (sends_run m.rules first (xs ++ ys)))
    ≡ said_by m (announcements m.speaker (sends_run m.rules first xs))
    ++ said_by m (announcements m.speaker (sends_run m.rules (state_run m.rules first xs) ys))
announced_more m xs ys =
    let one = sends_run m.rules first xs in
    let two = sends_run m.rules (state_run m.rules first xs) ys in
    ap (λ (l : List Sending). said_by m (announcements m.speaker l)) (sends_more m.rules first xs ys)
    ∙ ap (said_by m) (announcements_more m.speaker one two)
    ∙ said_more m (announcements m.speaker one) (announcements m.speaker two)
  where
    announcements_more : (s : Speaker) (one two : List Sending)
        → announcements s (one ++ two) ≡ announcements s one ++ announcements s two
    announcements_more s one two = flat_map-append _ one two

-- what is said by more calls is said after what was
grown : (m : Manner) (t more : List Traffic) (hs : List Hearing)
    → flat_map (hearing_of m.own) (heard_after (moment_after 0 t) more) ≡ hs
    → announced_by m (t ++ more) ≡ announced_by m t
    ++ said_by m (announcements m.speaker (sends_run m.rules (state_run m.rules first (heard_by m t)) hs))
grown m t more hs is =
    ap (λ (l : List Hearing). said_by m (announcements m.speaker (sends_run m.rules first l)))
    (heard_more m t more ∙ ap (λ (l : List Hearing). heard_by m t ++ l) is)
    ∙ announced_more m (heard_by m t) hs

-- What was said by hearings: by a voice that isn't refused memory all of it, and else nothing.
pub record Speaks (v w : Voice) (bound : List ℕ) (hs : List Hearing) (said : List (Locator × List ℕ))
    : Type 0 where
  pub was : w.failed ≡ false → v.failed ≡ false
  pub state : w.failed ≡ false
      → w.announcer.state ≡ state_run v.announcer.rules v.announcer.state hs
  pub all : w.failed ≡ false → said ≡ said_by (manner_of v bound)
      (announcements v.speaker (sends_run v.announcer.rules v.announcer.state hs))
  pub none : w.failed ≡ true → said ≡ []

pub spoken_on : (v w : Voice) (bound : List ℕ) (m n : ℕ) (t more : List Traffic)
    (told said : List (Locator × List ℕ)) (hs : List Hearing)
    → HasSpoken v bound m t told → IsSameVoice v w → moment_after m more ≡ n
    → flat_map (hearing_of v.announcer.own) (heard_after m more) ≡ hs → Speaks v w bound hs said
    → HasSpoken w bound n (t ++ more) (told ++ said)
spoken_on v w bound m n t more told said hs h same at heard speaks =
    let k = manner_of v bound in
    let f = hearing_of v.announcer.own in
    let here : flat_map f (heard_after (moment_after 0 t) more) ≡ hs =
    ap (λ (i : ℕ). flat_map f (heard_after i more)) h.at ∙ heard in
    let kept = sym (same_manner v w bound same) in
    let more_said = said_by k
    (announcements k.speaker (sends_run k.rules (state_run k.rules first (heard_by k t)) hs)) in
    let grows : announced_by k (t ++ more) ≡ announced_by k t ++ more_said = grown k t more hs here in
    let whole : w.failed ≡ false → told ++ said ≡ announced_by k (t ++ more) = λ sound.
    ap (λ (l : List (Locator × List ℕ)). l ++ said) (h.whole (speaks.was sound))
    ∙ ap (λ (l : List (Locator × List ℕ)). announced_by k t ++ l) (speaks.all sound
    ∙ ap (λ (s : State). said_by k (announcements k.speaker (sends_run k.rules s hs)))
    (h.state (speaks.was sound))) ∙ sym grows in
    let first_part : IsFront (told ++ said) (announced_by k (t ++ more)) =
    by_failed w.failed refl whole grows in
    record {
      at = moment-append 0 t more ∙ ap (λ (i : ℕ). moment_after i more) h.at ∙ at;
      state = λ sound. subst
          (λ (x : Manner). w.announcer.state ≡ state_run x.rules first (heard_by x (t ++ more))) kept
          (speaks.state sound
          ∙ ap (λ (s : State). state_run k.rules s hs) (h.state (speaks.was sound))
          ∙ sym (state_more k.rules first (heard_by k t) hs)
          ∙ ap (state_run k.rules first)
          (sym (heard_more k t more ∙ ap (λ (l : List Hearing). heard_by k t ++ l) here)));
      whole = λ sound. subst (λ (x : Manner). told ++ said ≡ announced_by x (t ++ more)) kept
          (whole sound);
      front = subst (λ (x : Manner). IsFront (told ++ said) (announced_by x (t ++ more))) kept
          first_part;
    }
  where
    by_failed : (b : Bool) → w.failed ≡ b
        → (w.failed ≡ false → told ++ said ≡ announced_by (manner_of v bound) (t ++ more))
        → announced_by (manner_of v bound) (t ++ more) ≡ announced_by (manner_of v bound) t
        ++ said_by (manner_of v bound) (announcements v.speaker (sends_run v.announcer.rules
        (state_run v.announcer.rules first (heard_by (manner_of v bound) t)) hs))
        → IsFront (told ++ said) (announced_by (manner_of v bound) (t ++ more))
    by_failed false is whole grows = ([], sym (whole is) ∙ sym (append-nil (told ++ said)))
    by_failed true is whole grows =
        let (rest, front) = h.front in
        let x = said_by (manner_of v bound) (announcements v.speaker (sends_run v.announcer.rules
        (state_run v.announcer.rules first (heard_by (manner_of v bound) t)) hs)) in (
          rest ++ x,
          grows
              ∙ ap (λ (l : List (Locator × List ℕ)). l ++ x) front
              ∙ append_assoc told rest x
              ∙ ap (λ (l : List (Locator × List ℕ)). l ++ (rest ++ x))
              (sym (ap (λ (l : List (Locator × List ℕ)). told ++ l) (speaks.none is) ∙ append-nil told)),
        )

-- the same of the calls of a link, which may not tell them
pub spoken_by : (v w : Voice) (bound : List ℕ) (m n s : ℕ) (a b c : Option (List Call))
    (more : List Traffic) (said : List (Locator × List ℕ)) (hs : List Hearing)
    → HasSpokenBy v bound m s a → AnnouncesNothing a b → Grows (traffic_in s a) (traffic_in s b) more
    → AnnouncesMore s b c said → IsSameVoice v w → moment_after m more ≡ n
    → flat_map (hearing_of v.announcer.own) (heard_after m more) ≡ hs → Speaks v w bound hs said
    → HasSpokenBy w bound n s c
unfolding AnnouncesMore HasSpokenBy
spoken_by v w bound m n s None b c more said hs h nothing grows announces same at heard speaks =
    let none : c ≡ None = subst (λ (x : Option (List Call)). AnnouncesMore s x c said) nothing announces in
    subst (λ (x : Option (List Call)). HasSpokenBy w bound n s x) (sym none) tt
spoken_by v w bound m n s (Some x) None c more said hs h nothing grows announces same at heard speaks =
    absurd nothing
spoken_by v w bound m n s (Some x) (Some y) None more said hs h nothing grows announces same at heard speaks =
    absurd announces
spoken_by v w bound m n s (Some x) (Some y) (Some z) more said hs h nothing grows announces same at heard speaks =
    subst (λ (l : List (Locator × List ℕ)). HasSpoken w bound n (flat_map (traffic_of s) z) l)
    (sym (announces.1 ∙ ap (λ (l : List (Locator × List ℕ)). l ++ said) nothing))
    (subst (λ (l : List Traffic). HasSpoken w bound n l (announced_in x ++ said))
    (sym (announces.0 ∙ grows))
    (spoken_on v w bound m n (flat_map (traffic_of s) x) more (announced_in x) said hs h same at
    heard speaks))

pub unheard : (v : Voice) (bound : List ℕ) → Speaks v v bound [] []
unheard v bound = record {
  was = λ sound. sound;
  state = λ sound. refl;
  all = λ sound. refl;
  none = λ failed. refl;
}

pub same_voice : (v : Voice) → IsSameVoice v v
same_voice v = record {
  announcer = record { own = refl; rules = refl };
  speaker = refl;
  everyone = refl;
}

-- readers that come while there is no peer: nothing is sent
joins_quiet : {X : Type 0} (r : Rules) (s : State) (readers : List X) → s.peers ≡ []
    → sends_run r s (map (λ x. Joins) readers) ≡ []
joins_quiet r s [] none = refl
joins_quiet r s (x ∷ xs) none =
    let rank = Asks (length s.gone) in
    let now = now_of (record s { changes = s.changes ++ rank ∷ []; gone = s.gone ++ false ∷ [] }) in
    let t = (step r Joins s).state in
    ap (λ (peers : Peers). flat_map (news_to now rank) peers ++ sends_run r t (map (λ x. Joins) xs)) none
    ∙ joins_quiet r t xs (ap (map (λ (e : GuidPrefix × Peer). (e.0, told_more r now e.1))) none)

-- at first nothing was heard but that the readers came, and nothing was announced
pub begun : (v : Voice) (bound : List ℕ) (s : ℕ) (a : Option (List Call)) → HasCalledNothing s a
    → StandsAt (joined_by v) v.announcer → v.failed ≡ false → HasSpokenBy v bound 0 s a
unfolding HasSpokenBy
begun v bound s None nothing heard sound = tt
begun v bound s (Some x) nothing heard sound =
    let m = manner_of v bound in
    let js = joined_by v in
    let all : heard_by m [] ≡ js = append-nil js in
    let said : announced_by m [] ≡ [] =
    ap (λ (l : List Hearing). said_by m (announcements m.speaker (sends_run m.rules first l))) all
    ∙ ap (λ (l : List Sending). said_by m (announcements m.speaker l))
    (joins_quiet m.rules first v.speaker.readers.items refl) in
    subst (λ (l : List (Locator × List ℕ)). HasSpoken v bound 0 (flat_map (traffic_of s) x) l)
    (sym nothing.1)
    (subst (λ (l : List Traffic). HasSpoken v bound 0 l []) (sym nothing.0) (record {
      at = refl;
      state = λ is. heard.state ∙ ap (λ (l : List Hearing). state_run m.rules first l) (sym all);
      whole = λ is. sym said;
      front = ([], said);
    }))

-- what a voice said, by the result of the call
pub speaks_of : {A : Type 0} (v w : Voice) (bound : List ℕ) (hs : List Hearing)
    (r : Result (Vec Announcement A) AllocError) → IfOk r (λ said. Says hs v w said.items)
    → OnErr r (w.failed ≡ true) → (v.failed ≡ true → IsErr r × (w ≡ v))
    → Speaks v w bound hs (spoken v.everyone bound r)
speaks_of v w bound hs (Ok x) says failed still = record {
  was = λ sound. by_old v.failed refl;
  state = λ sound. says.state;
  all = λ sound. ap (all_addressed v.everyone bound) says.datagrams;
  none = λ is. absurd (let bad : false ≡ true = sym says.failed ∙ is in cc);
}
  where
    by_old : (b : Bool) → v.failed ≡ b → v.failed ≡ false
    by_old false is = is
    by_old true is = absurd (let bad : false ≡ true = (still is).0 in cc)
speaks_of v w bound hs (Err e) says failed still = record {
  was = λ sound. absurd (let bad : false ≡ true = sym sound ∙ failed in cc);
  state = λ sound. absurd (let bad : false ≡ true = sym sound ∙ failed in cc);
  all = λ sound. absurd (let bad : false ≡ true = sym sound ∙ failed in cc);
  none = λ is. refl;
}

-- the same, where the sockets stay
pub spoken_at : (v w : Voice) (bound bound' : List ℕ) → bound' ≡ bound → (m n s s' s'' : ℕ)
    → s' ≡ s → s'' ≡ s' → (a b c : Option (List Call)) (more : List Traffic)
    (said : List (Locator × List ℕ)) (hs : List Hearing)
    → HasSpokenBy v bound m s a → AnnouncesNothing a b → Grows (traffic_in s a) (traffic_in s' b) more
    → AnnouncesMore s' b c said → IsSameVoice v w → moment_after m more ≡ n
    → flat_map (hearing_of v.announcer.own) (heard_after m more) ≡ hs → Speaks v w bound hs said
    → HasSpokenBy w bound' n s'' c
spoken_at v w bound bound' here m n s s' s'' start then a b c more said hs h nothing grows announces same at heard speaks =
    subst (λ (x : List ℕ). HasSpokenBy w x n s'' c) (sym here)
    (subst (λ (x : ℕ). HasSpokenBy w bound n x c) (sym (then ∙ start))
    (spoken_by v w bound m n s a b c more said hs h nothing
    (subst (λ (x : ℕ). Grows (traffic_in s a) (traffic_in x b) more) start grows)
    (subst (λ (x : ℕ). AnnouncesMore x b c said) start announces) same at heard speaks))

-- sockets that announce something have no other traffic by it
pub still_traffic : (s t : ℕ) → t ≡ s → (b c : Option (List Call)) (said : List (Locator × List ℕ))
    → AnnouncesMore s b c said → traffic_in t c ≡ traffic_in s b
unfolding AnnouncesMore
still_traffic s t same None c said announces =
    ap (λ (x : Option (List Call)). traffic_in t x) announces
still_traffic s t same (Some x) None said announces = absurd announces
still_traffic s t same (Some x) (Some y) said announces =
    ap (λ (u : ℕ). traffic_in u (Some y)) same ∙ ap Some announces.0

-- the farewell
pub left_by : (v : Voice) (bound : List ℕ) (m s : ℕ) (a c : Option (List Call))
    → HasSpokenBy v bound m s a → v.failed ≡ false
    → AnnouncesMore s a c
    (said_by (manner_of v bound) (announcements v.speaker (farewell v.announcer.state)))
    → HasLeft (speech_of (manner_of v bound)) (traffic_in s a) (option_map announced_in c)
unfolding AnnouncesMore HasSpokenBy
left_by v bound m s None c h sound announces = tt
left_by v bound m s (Some x) None h sound announces = absurd announces
left_by v bound m s (Some x) (Some y) h sound announces =
    let k = manner_of v bound in
    let t = flat_map (traffic_of s) x in
    announces.1
    ∙ ap (λ (l : List (Locator × List ℕ)). l
    ++ said_by k (announcements k.speaker (farewell v.announcer.state))) (h.whole sound)
    ∙ ap (λ (z : State). announced_by k t ++ said_by k (announcements k.speaker (farewell z)))
    (h.state sound)

-- a call of a voice that went well
pub not_failed : (b : Bool) → (b ≡ true → false ≡ true) → b ≡ false
not_failed false refused = refl
not_failed true refused = absurd (let bad : false ≡ true = refused refl in cc)
