-- What is said to whom.
use Rattle.std.proofs.Common.{arith, ◌≡◌, ℕ, zero, suc, ◌+◌, ◌-◌, Bool, true, false, List, [], ◌∷◌, ◌++◌, length, filter, take, Option, Some, None, refl, ap, ◌∙◌, subst, append_assoc, eq-eqb}
use Rattle.std.specs.Prelude.{◌||◌, ◌==◌, nat_le, if◌then◌else◌, slice_get}
use Rattle.std.specs.List.{flat_map, list_any}
use Rattle.std.specs.Map.{lookup}
use Rattle.std.proofs.lemmas.List.Folds.{list_any-append}
use Rattle.std.proofs.lemmas.Option.{slice_get_past}
use Rattle.rtps_types.specs.declared.identity.GuidPrefix.{GuidPrefix}
use Rattle.rtps_types.specs.declared.locator.Locator.{Locator}
use Rattle.rtps_discovery.specs.Known.{same_prefix}
use Rattle.rtps_announcer.specs.Ack.{AckView}
use Rattle.rtps_announcer.specs.declared.now.Now.{Now}
use Rattle.rtps_announcer.specs.declared.peer.Peer.{Peer}
use Rattle.rtps_announcer.specs.declared.rules.Rules.{Rules}
use Rattle.rtps_announcer.specs.declared.said.Change.{Change}
use Rattle.rtps_announcer.specs.declared.said.Change.TheVariants.{Asks}
use Rattle.rtps_announcer.specs.declared.said.Said.{Said}
use Rattle.rtps_announcer.specs.declared.said.Said.TheVariants.{Bye, Hello, Told, Void, Beat}
use Rattle.rtps_announcer.specs.declared.said.Sending.{Sending}
use Rattle.rtps_announcer.specs.Announcing.{Peers, State, acks_by, answer_at, answer_by, answering, at_moment, hello_if, is_due, now_of, reminder_to, reply}
use Rattle.rtps_announcer.specs.Concerned.{AreAsked, AreConcerned, AreTo, EachIsReminded, IsAsked, IsConcerned, OnlyAsked, OnlyConcerned, Reminded, is_beat, is_in}
use Rattle.rtps_announcer.specs.Peer.{is_late, is_new}
use Rattle.rtps_announcer.specs.Said.{beat_of, to_one}
use Rattle.rtps_announcer.specs.Telling.{before, concerns, merged, retelling, telling, told_as, told_if, wanted, with_void}
use Rattle.rtps_announcer.specs.Told.{said_to}
use Rattle.rtps_announcer.proofs.AllTold.{itself, said_to-append, said_to-one}
use Rattle.rtps_announcer.proofs.Since.{went}
use Rattle.rtps_announcer.proofs.Told.{gone_more}

-- ---- what concerns whom

as_concerned : (gone : List Bool) (since n : ℕ) (c : Change) → IsConcerned gone since (told_as gone since n c)
as_concerned gone since n c = by_case (concerns gone since n c) refl
  where
    by_case : (b : Bool) → concerns gone since n c ≡ b → IsConcerned gone since (if b then Told n c else Void n n)
    by_case true is = is
    by_case false is = tt

telling_concerned : (gone : List Bool) (since n : ℕ) (cs : List Change) → AreConcerned gone since (telling gone since n cs)
telling_concerned gone since n [] = tt
telling_concerned gone since n (c ∷ cs) = (as_concerned gone since n c, telling_concerned gone since (n + 1) cs)

if_concerned : (gone : List Bool) (since n : ℕ) (o : Option Change) → IsConcerned gone since (told_if gone since n o)
if_concerned gone since n None = tt
if_concerned gone since n (Some c) = as_concerned gone since n c

retelling_concerned : (changes : List Change) (gone : List Bool) (since : ℕ) (ns : List ℕ) → AreConcerned gone since (retelling changes gone since ns)
retelling_concerned changes gone since [] = tt
retelling_concerned changes gone since (n ∷ ns) = (if_concerned gone since n (slice_get changes (n - 1)), retelling_concerned changes gone since ns)

void_concerned : (gone : List Bool) (since first last : ℕ) (more : List Said) → AreConcerned gone since more → AreConcerned gone since (with_void first last more)
void_concerned gone since first last [] h = (tt, tt)
void_concerned gone since first last (Bye ∷ more) h = (tt, h)
void_concerned gone since first last (Hello ∷ more) h = (tt, h)
void_concerned gone since first last (Told m d ∷ more) h = (tt, h)
void_concerned gone since first last (Void next end ∷ more) h = by_case (next == last + 1)
  where
    by_case : (b : Bool) → AreConcerned gone since (if b then Void first end ∷ more else Void first last ∷ Void next end ∷ more)
    by_case true = (tt, h.1)
    by_case false = (tt, h)
void_concerned gone since first last (Beat end count ∷ more) h = (tt, h)

before_concerned : (gone : List Bool) (since : ℕ) (x : Said) (more : List Said) → IsConcerned gone since x → AreConcerned gone since more → AreConcerned gone since (before x more)
before_concerned gone since Bye more is h = (is, h)
before_concerned gone since Hello more is h = (is, h)
before_concerned gone since (Told n c) more is h = (is, h)
before_concerned gone since (Void first last) more is h = void_concerned gone since first last more h
before_concerned gone since (Beat last count) more is h = (is, h)

merged_concerned : (gone : List Bool) (since : ℕ) (xs : List Said) → AreConcerned gone since xs → AreConcerned gone since (merged xs)
merged_concerned gone since [] h = tt
merged_concerned gone since (x ∷ xs) h = before_concerned gone since x (merged xs) h.0 (merged_concerned gone since xs h.1)

more_concerned : (gone : List Bool) (since last count : ℕ) (xs : List Said) → AreConcerned gone since xs → AreConcerned gone since (xs ++ Beat last count ∷ [])
more_concerned gone since last count [] h = (tt, tt)
more_concerned gone since last count (x ∷ xs) h = (h.0, more_concerned gone since last count xs h.1)

answering_concerned : (gone : List Bool) (since last count : ℕ) (xs : List Said) (final : Bool) → AreConcerned gone since xs → AreConcerned gone since (answering (Beat last count) xs final)
answering_concerned gone since last count [] true h = tt
answering_concerned gone since last count [] false h = (tt, tt)
answering_concerned gone since last count (x ∷ xs) final h = (h.0, more_concerned gone since last count xs h.1)

came : (gone : List Bool) (since n : ℕ) → concerns (gone ++ false ∷ []) since n (Asks (length gone)) ≡ true
came gone since n =
    let past : slice_get gone (length gone) ≡ None = slice_get_past gone (length gone) (omega arith) in
    rw (gone_more gone (length gone), past) refl

pub only_concerned : OnlyConcerned
only_concerned = record {
  came = came;
  went = went;
  found = λ s. (
    tt,
    (
      tt,
      more_concerned s.gone (length s.changes) (now_of s).last (now_of s).count (merged (telling s.gone (length s.changes) 1 s.changes))
          (merged_concerned s.gone (length s.changes) (telling s.gone (length s.changes) 1 s.changes) (telling_concerned s.gone (length s.changes) 1 s.changes)),
    ),
  );
  answered = λ r s p a. answering_concerned s.gone p.since (now_of s).last (now_of s).count (merged (retelling s.changes s.gone p.since (wanted r.again (length s.changes) a))) a.is_final
      (merged_concerned s.gone p.since (retelling s.changes s.gone p.since (wanted r.again (length s.changes) a)) (retelling_concerned s.changes s.gone p.since (wanted r.again (length s.changes) a)));
}

-- ---- what was asked for

abbrev AreIn : List ℕ → List ℕ → Type 0
AreIn asked [] = Unit {0}
AreIn asked (n ∷ ns) = (is_in asked n ≡ true) × AreIn asked ns

or_right : (a b : Bool) → b ≡ true → (a || b) ≡ true
or_right true b h = refl
or_right false b h = h

in_more : (m : ℕ) (asked ns : List ℕ) → AreIn asked ns → AreIn (m ∷ asked) ns
in_more m asked [] h = tt
in_more m asked (n ∷ ns) h = (or_right (m == n) (is_in asked n) h.0, in_more m asked ns h.1)

in_itself : (asked : List ℕ) → AreIn asked asked
in_itself [] = tt
in_itself (n ∷ ns) = (rw (eq-eqb n n refl) refl, in_more n ns ns (in_itself ns))

filter_in : (asked : List ℕ) (p : ℕ → Bool) (ns : List ℕ) → AreIn asked ns → AreIn asked (filter p ns)
filter_in asked p [] h = tt
filter_in asked p (n ∷ ns) h = by_case (p n) (filter_in asked p ns h.1)
  where
    by_case : (b : Bool) → AreIn asked (filter p ns) → AreIn asked (if b then n ∷ filter p ns else filter p ns)
    by_case true rest = (h.0, rest)
    by_case false rest = rest

take_in : (asked : List ℕ) (k : ℕ) (ns : List ℕ) → AreIn asked ns → AreIn asked (take k ns)
take_in asked zero ns h = tt
take_in asked (suc k) [] h = tt
take_in asked (suc k) (n ∷ ns) h = (h.0, take_in asked k ns h.1)

as_asked : (asked : List ℕ) (gone : List Bool) (since n : ℕ) (c : Change) → is_in asked n ≡ true → IsAsked asked (told_as gone since n c)
as_asked asked gone since n c is = by_case (concerns gone since n c)
  where
    by_case : (b : Bool) → IsAsked asked (if b then Told n c else Void n n)
    by_case true = is
    by_case false = (is, is)

if_asked : (asked : List ℕ) (gone : List Bool) (since n : ℕ) (o : Option Change) → is_in asked n ≡ true → IsAsked asked (told_if gone since n o)
if_asked asked gone since n None is = (is, is)
if_asked asked gone since n (Some c) is = as_asked asked gone since n c is

retelling_asked : (asked : List ℕ) (changes : List Change) (gone : List Bool) (since : ℕ) (ns : List ℕ) → AreIn asked ns → AreAsked asked (retelling changes gone since ns)
retelling_asked asked changes gone since [] h = tt
retelling_asked asked changes gone since (n ∷ ns) h = (if_asked asked gone since n (slice_get changes (n - 1)) h.0, retelling_asked asked changes gone since ns h.1)

void_asked : (asked : List ℕ) (first last : ℕ) (more : List Said) → IsAsked asked (Void first last) → AreAsked asked more → AreAsked asked (with_void first last more)
void_asked asked first last [] is h = (is, tt)
void_asked asked first last (Bye ∷ more) is h = (is, h)
void_asked asked first last (Hello ∷ more) is h = (is, h)
void_asked asked first last (Told m d ∷ more) is h = (is, h)
void_asked asked first last (Void next end ∷ more) is h = by_case (next == last + 1)
  where
    by_case : (b : Bool) → AreAsked asked (if b then Void first end ∷ more else Void first last ∷ Void next end ∷ more)
    by_case true = ((is.0, h.0.1), h.1)
    by_case false = (is, h)
void_asked asked first last (Beat end count ∷ more) is h = (is, h)

before_asked : (asked : List ℕ) (x : Said) (more : List Said) → IsAsked asked x → AreAsked asked more → AreAsked asked (before x more)
before_asked asked Bye more is h = (is, h)
before_asked asked Hello more is h = (is, h)
before_asked asked (Told n c) more is h = (is, h)
before_asked asked (Void first last) more is h = void_asked asked first last more is h
before_asked asked (Beat last count) more is h = (is, h)

merged_asked : (asked : List ℕ) (xs : List Said) → AreAsked asked xs → AreAsked asked (merged xs)
merged_asked asked [] h = tt
merged_asked asked (x ∷ xs) h = before_asked asked x (merged xs) h.0 (merged_asked asked xs h.1)

more_asked : (asked : List ℕ) (last count : ℕ) (xs : List Said) → AreAsked asked xs → AreAsked asked (xs ++ Beat last count ∷ [])
more_asked asked last count [] h = (tt, tt)
more_asked asked last count (x ∷ xs) h = (h.0, more_asked asked last count xs h.1)

answering_asked : (asked : List ℕ) (last count : ℕ) (xs : List Said) (final : Bool) → AreAsked asked xs → AreAsked asked (answering (Beat last count) xs final)
answering_asked asked last count [] true h = tt
answering_asked asked last count [] false h = (tt, tt)
answering_asked asked last count (x ∷ xs) final h = (h.0, more_asked asked last count xs h.1)

to_alone : (p : GuidPrefix) (to : List Locator) (xs : List Said) → AreTo p (to_one p to xs)
to_alone p to [] = tt
to_alone p to (x ∷ xs) = (itself p, to_alone p to xs)

abbrev AlsoTo : GuidPrefix → Option (List Sending) → Type 0
AlsoTo p None = Unit {0}
AlsoTo p (Some sends) = AreTo p sends

answer_alone : (r : Rules) (p : GuidPrefix) (a : AckView) (s : State) (o : Option Peer) → AlsoTo p (answer_by r p a s o)
answer_alone r p a s None = tt
answer_alone r p a s (Some peer) = by_case (is_new peer a)
  where
    by_case : (b : Bool) → AlsoTo p (if b then Some (to_one p peer.to (reply r s peer a)) else None)
    by_case true = to_alone p peer.to (reply r s peer a)
    by_case false = tt

acks_alone : (r : Rules) (p : GuidPrefix) (a : AckView) (s : State) (o : Option (List Sending)) → AlsoTo p o → AreTo p (acks_by r p a s o).sends
acks_alone r p a s None h = tt
acks_alone r p a s (Some sends) h = h

pub only_asked : OnlyAsked
only_asked = record {
  asked = λ r s p a. answering_asked a.asked (now_of s).last (now_of s).count (merged (retelling s.changes s.gone p.since (wanted r.again (length s.changes) a))) a.is_final
      (merged_asked a.asked (retelling s.changes s.gone p.since (wanted r.again (length s.changes) a))
      (retelling_asked a.asked s.changes s.gone p.since (wanted r.again (length s.changes) a)
      (take_in a.asked r.again (filter (λ (n : ℕ). nat_le n (length s.changes)) a.asked) (filter_in a.asked (λ (n : ℕ). nat_le n (length s.changes)) a.asked (in_itself a.asked)))));
  alone = λ r p a s. acks_alone r p a s (answer_at r p a s) (answer_alone r p a s (lookup (same_prefix p) s.peers));
}

-- ---- who is reminded

beat_left : (xs ys : List Said) → list_any is_beat xs ≡ true → list_any is_beat (xs ++ ys) ≡ true
beat_left xs ys h = list_any-append is_beat xs ys ∙ rw h refl

beat_right : (xs ys : List Said) → list_any is_beat ys ≡ true → list_any is_beat (xs ++ ys) ≡ true
beat_right xs ys h = list_any-append is_beat xs ys ∙ or_right (list_any is_beat xs) _ h

reminder_goes : (r : Rules) (now : Now) (e : GuidPrefix × Peer) → is_late r now e.1 ≡ true → list_any is_beat (said_to e.0 (reminder_to r now e)) ≡ true
reminder_goes r now e late = rw late (ap (list_any is_beat) (said_to-one e.0 e.1.to (beat_of now ∷ [])))

reminders_go : (r : Rules) (s : State) (front : List Sending) (es : Peers) → EachIsReminded r s (front ++ flat_map (reminder_to r (now_of s)) es) es
reminders_go r s front [] = tt
reminders_go r s front (e ∷ es) =
    let own = reminder_to r (now_of s) e in
    let rest = flat_map (reminder_to r (now_of s)) es in (
      λ late. ap (list_any is_beat) (said_to-append e.0 front (own ++ rest) ∙ ap (λ (l : List Said). said_to e.0 front ++ l) (said_to-append e.0 own rest))
          ∙ beat_right (said_to e.0 front) (said_to e.0 own ++ said_to e.0 rest) (beat_left (said_to e.0 own) (said_to e.0 rest) (reminder_goes r (now_of s) e late)),
      subst (λ (l : List Sending). EachIsReminded r s l es) (append_assoc front own rest) (reminders_go r s (front ++ own) es),
    )

pub reminded_all : Reminded
reminded_all r m s =
    let t = at_moment m s in
    reminders_go r t (hello_if (is_due r.period t.moment t.announced)) t.peers
