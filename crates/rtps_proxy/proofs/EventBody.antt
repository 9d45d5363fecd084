-- Each sample that is ready was brought by then, by a DATA or by DATA_FRAGs.
use Rattle.std.proofs.Common.{◌≡◌, ℕ, suc, ◌+◌, ◌-◌, ◌<◌, ◌≤◌, Bool, true, false, not, ◌&&◌, cond, List, [], ◌∷◌, ◌++◌, length, refl, sym, ◌∙◌, subst, arith, eqb, inl, inr, Option, Some}
use Rattle.std.specs.List.{filter, AllByRecursion}
use Rattle.std.proofs.lemmas.Bool.Decides.{nat_tests, leb_tells, eqb_tells}
use Rattle.rtps_types.specs.declared.time.Timestamp.{Timestamp}
use Rattle.rtps_receiver.specs.EventBody.{EventBodyView, FragmentView, Whole, Fragment, Heartbeat, Gap, HeartbeatFrag}
use Rattle.rtps_frags.specs.Fragments.{has_all, is_empty, is_whole, last_of, payload_of, before}
use Rattle.rtps_frags.specs.declared.sizes.Sizes.{Sizes}
use Rattle.rtps_frags.specs.Payload.{AreFragments}
use Rattle.rtps_frags.proofs.Faultless.{Faultless, faultless, fits as fits_all}
use Rattle.rtps_frags.proofs.Puts.{puts_hold, puts_stay}
use Rattle.rtps_frags.proofs.Whole.{IsFrom, from_all, length_from, part_from}
use Rattle.rtps_proxy.specs.Change.{ChangeView, change_of}
use Rattle.rtps_proxy.specs.History.{MatchEvent}
use Rattle.rtps_proxy.specs.Settled.{has_room_by, is_settled_by}
use Rattle.rtps_proxy.specs.Fragments.{Begun, begun_at, fits, fits_in, grown, is_cut_so, is_faulty, opened, sample_in, sizes_of, whole_at, whole_of, with_fragments_of}
use Rattle.rtps_proxy.specs.Received.{in_order, is_covered, put, ready, received, taken, taken_after, takes_fragments, with_begun}
use Rattle.rtps_proxy.specs.Presentation.{Brings, BringsFragment, IsPutTogether, IsTold, IsToldBy}

and_first : (a b : Bool) → (a && b) ≡ true → a ≡ true
and_first true b h = refl
and_first false b h = absurd cc

and_second : (a b : Bool) → (a && b) ≡ true → b ≡ true
and_second true b h = h
and_second false b h = absurd cc

not_true : (a : Bool) → not a ≡ true → a ≡ false
not_true true h = absurd cc
not_true false h = refl

-- what says all of a sample but its payload says so whatever the payload
told_alike : (past : List MatchEvent) (z : Sizes) (s : ChangeView) (payload : List ℕ) → IsTold past z s → IsTold past z (record { number = s.number; time = s.time; info = s.info; payload = payload })
told_alike [] z s payload h = absurd h
told_alike (e ∷ past) z s payload (inl h) = inl (by_body e.body h)
  where
    by_body : (b : EventBodyView) → IsToldBy z s e.time b → IsToldBy z (record { number = s.number; time = s.time; info = s.info; payload = payload }) e.time b
    by_body (Whole c) h = absurd h
    by_body (Fragment f) h = h
    by_body (Heartbeat b) h = absurd h
    by_body (Gap g) h = absurd h
    by_body (HeartbeatFrag b) h = absurd h
told_alike (e ∷ past) z s payload (inr h) = inr (told_alike past z s payload h)

-- what is begun is what DATA_FRAGs of the match brought
record IsSound (past : List MatchEvent) (a : Begun) : Type 0 where
  cut : 0 < a.sizes.fragment
  told : IsTold past a.sizes (sample_in a)
  parts : AreFragments a.sizes 0 a.there
  brought : AllByRecursion (λ f. BringsFragment past a.number a.sizes f.0 f.1) a.there

abbrev frags_at : Option Timestamp → FragmentView → MatchEvent
frags_at time f = record { time = time; body = Fragment f }

all_weaker : {X : Type 0} (P Q : X → Type 0) (xs : List X) → ((x : X) → P x → Q x) → AllByRecursion P xs → AllByRecursion Q xs
all_weaker P Q [] f h = tt
all_weaker P Q (x ∷ xs) f h = (f x h.0, all_weaker P Q xs f h.1)

sound_then : (past : List MatchEvent) (e : MatchEvent) (a : Begun) → IsSound past a → IsSound (e ∷ past) a
sound_then past e a s = record { cut = s.cut; told = inr s.told; parts = s.parts; brought = all_weaker (λ f. BringsFragment past a.number a.sizes f.0 f.1) (λ f. BringsFragment (e ∷ past) a.number a.sizes f.0 f.1) a.there (λ f h. inr h) s.brought }

-- with the fragments of a DATA_FRAG that is cut as it
module _ (past : List MatchEvent) (time : Option Timestamp) (f : FragmentView) (good : is_faulty f ≡ false) where
  none_wrong : Faultless (sizes_of f) f.start f.count (length f.payload)
  none_wrong = faultless (sizes_of f) f.start f.count (length f.payload) good

  grown_sound : (a : Begun) → a.number ≡ f.number → a.sizes ≡ sizes_of f → IsTold (frags_at time f ∷ past) a.sizes (sample_in a) → AreFragments a.sizes 0 a.there
      → AllByRecursion (λ p. BringsFragment (frags_at time f ∷ past) a.number a.sizes p.0 p.1) a.there → IsSound (frags_at time f ∷ past) (grown a f)
  grown_sound a same cut told parts brought =
      let none : Faultless a.sizes f.start f.count (length f.payload) = subst (λ z. Faultless z f.start f.count (length f.payload)) (sym cut) none_wrong in
      let within : f.start + f.count ≤ suc (last_of a.sizes) = none.within in
      record {
        cut = none.fragment;
        told = told_alike (frags_at time f ∷ past) a.sizes (sample_in a) (payload_of (grown a f).there) told;
        parts = puts_stay a.sizes f.start f.payload a.there f.start f.count none.first within (fits_all a.sizes f.start f.count f.payload none) parts;
        brought = puts_hold (λ k octets. BringsFragment (frags_at time f ∷ past) a.number a.sizes k octets) a.sizes f.start f.payload a.there f.start f.count
            (λ j le l. inl (sym same, sym cut, le, l, refl, good)) brought;
      }

  opened_sound : IsSound (frags_at time f ∷ past) (grown (opened time f) f)
  opened_sound = grown_sound (opened time f) refl refl (inl (refl, refl, refl, refl, good)) tt tt

  more_sound : (a : Begun) → a.number ≡ f.number → a.sizes ≡ sizes_of f → IsSound past a → IsSound (frags_at time f ∷ past) (grown a f)
  more_sound a same cut s = let t = sound_then past (frags_at time f) a s in grown_sound a same cut t.told t.parts t.brought

  cut_same : (a : Begun) → is_cut_so a.sizes (sizes_of f) ≡ true → a.sizes ≡ sizes_of f
  cut_same a h =
      let samples : a.sizes.sample ≡ f.sample = grind (arith, nat_tests, and_first (eqb a.sizes.sample f.sample) (eqb a.sizes.fragment f.size) h) in
      let fragments : a.sizes.fragment ≡ f.size = grind (arith, nat_tests, and_second (eqb a.sizes.sample f.sample) (eqb a.sizes.fragment f.size) h) in
      made a.sizes f.sample f.size samples fragments
    where
      made : (z : Sizes) (m n : ℕ) → z.sample ≡ m → z.fragment ≡ n → z ≡ record { sample = m; fragment = n }
      made z m n d e = rw (← d, ← e) refl

  -- by number, each sound
  list_sound : (bs : List Begun) → fits_in (begun_at f.number bs) f ≡ true → AllByRecursion (IsSound past) bs → AllByRecursion (IsSound (frags_at time f ∷ past)) (with_fragments_of time f bs)
  list_sound [] cut all = (opened_sound, tt)
  list_sound (a ∷ bs) cut all =
      let later : AllByRecursion (IsSound (frags_at time f ∷ past)) bs = all_weaker (IsSound past) (IsSound (frags_at time f ∷ past)) bs (sound_then past (frags_at time f)) all.1 in
      let here : IsSound (frags_at time f ∷ past) a = sound_then past (frags_at time f) a all.0 in
      elim (leb_tells (suc a.number) f.number) [
        | inl w ↦ (
            let below : a.number < f.number = w.1 in
            let differ : eqb a.number f.number ≡ false = grind (arith, nat_tests) in
            let rest = list_sound bs (rw differ at cut) all.1 in
            rw w.0 (here, rest)
            )
        | inr w ↦ elim (eqb_tells a.number f.number) [
          | inl v ↦ rw (w.0, v.0) (more_sound a v.1 (cut_same a (rw v.0 at cut)) all.0, later)
          | inr v ↦ rw (w.0, v.0) (opened_sound, (here, later))
        ]
      ]

found_sound : (past : List MatchEvent) (n : ℕ) (bs : List Begun) → AllByRecursion (IsSound past) bs → AllByRecursion (IsPutTogether past) (whole_at n bs)
found_sound past n [] all = tt
found_sound past n (a ∷ bs) all = by_test (eqb a.number n) (found_sound past n bs all.1)
  where
    by_whole : (b : Bool) → is_whole a.sizes a.there ≡ b → AllByRecursion (IsPutTogether past) (cond b (sample_in a ∷ []) [])
    by_whole false h = tt
    by_whole true h =
        let s = all.0 in
        let from : IsFrom a.sizes 1 (last_of a.sizes) a.there = from_all a.sizes 0 (last_of a.sizes) a.there (omega arith) s.parts (and_second (not (is_empty a.sizes)) (has_all a.there 1 (last_of a.sizes)) h) in
        let size : length (payload_of a.there) ≡ a.sizes.sample - before a.sizes 1 = length_from a.sizes s.cut 1 (last_of a.sizes) a.there (omega arith) (omega arith) from in
        let start : before a.sizes 1 ≡ 0 = omega arith in (
          record {
            sizes = a.sizes;
            cut = not_true (is_empty a.sizes) (and_first (not (is_empty a.sizes)) (has_all a.there 1 (last_of a.sizes)) h);
            whole = size ∙ rw start (omega arith);
            told = s.told;
            each = part_from a.sizes s.cut (λ k octets. BringsFragment past a.number a.sizes k octets) 1 (last_of a.sizes) a.there (omega arith) (omega arith) from s.brought;
          },
          tt,
        )

    by_test : (b : Bool) → AllByRecursion (IsPutTogether past) (whole_of (begun_at n bs)) → AllByRecursion (IsPutTogether past) (whole_of (cond b (Some a) (begun_at n bs)))
    by_test true rest = by_whole (is_whole a.sizes a.there) refl
    by_test false rest = rest

together_then : (past : List MatchEvent) (e : MatchEvent) (s : ChangeView) → IsPutTogether past s → IsPutTogether (e ∷ past) s
together_then past e s t = record { sizes = t.sizes; cut = t.cut; whole = t.whole; told = inr t.told; each = λ k one le. inr (t.each k one le) }

brings_then : (past : List MatchEvent) (e : MatchEvent) (s : ChangeView) → Brings past s → Brings (e ∷ past) s
brings_then past e s (inl h) = inl (inr h)
brings_then past e s (inr h) = inr (together_then past e s h)

-- all that was taken
abbrev AllSound : List MatchEvent → Type 0
AllSound past = AllByRecursion (Brings past) (received past) × AllByRecursion (IsSound past) (taken past).begun

all_append : {X : Type 0} (P : X → Type 0) (xs ys : List X) → AllByRecursion P xs → AllByRecursion P ys → AllByRecursion P (xs ++ ys)
all_append P [] ys h k = k
all_append P (x ∷ xs) ys h k = (h.0, all_append P xs ys h.1 k)

all_sound : (past : List MatchEvent) → AllSound past
all_sound [] = (tt, tt)
all_sound (e ∷ past) = by_body e.body (all_weaker (Brings past) (Brings (e ∷ past)) (received past) (brings_then past e) (all_sound past).0, all_weaker (IsSound past) (IsSound (e ∷ past)) (taken past).begun (sound_then past e) (all_sound past).1) (all_sound past).1
  where
    Then : EventBodyView → Type 0
    Then b = AllByRecursion (Brings (record { time = e.time; body = b } ∷ past)) (taken_after (taken past) past (record { time = e.time; body = b })).changes
        × AllByRecursion (IsSound (record { time = e.time; body = b } ∷ past)) (taken_after (taken past) past (record { time = e.time; body = b })).begun

    by_body : (b : EventBodyView) → AllByRecursion (Brings (record { time = e.time; body = b } ∷ past)) (received past) × AllByRecursion (IsSound (record { time = e.time; body = b } ∷ past)) (taken past).begun
        → AllByRecursion (IsSound past) (taken past).begun
        → AllByRecursion (Brings (record { time = e.time; body = b } ∷ past)) (taken_after (taken past) past (record { time = e.time; body = b })).changes
        × AllByRecursion (IsSound (record { time = e.time; body = b } ∷ past)) (taken_after (taken past) past (record { time = e.time; body = b })).begun
    by_body (Whole c) was before = (by_test (not (is_settled_by (received past) past c.number) && has_room_by (received past) past c.number), was.1)
      where
        by_test : (b : Bool) → AllByRecursion (Brings (record { time = e.time; body = Whole c } ∷ past)) (cond b (change_of e.time c ∷ received past) (received past))
        by_test true = (inl (inl refl), was.0)
        by_test false = was.0
    by_body (Fragment f) was before = by_test (takes_fragments (taken past) past f) refl
      where
        by_test : (b : Bool) → takes_fragments (taken past) past f ≡ b
            → AllByRecursion (Brings (frags_at e.time f ∷ past)) (cond b (with_begun (taken past) (with_fragments_of e.time f (taken past).begun) f.number) (taken past)).changes
            × AllByRecursion (IsSound (frags_at e.time f ∷ past)) (cond b (with_begun (taken past) (with_fragments_of e.time f (taken past).begun) f.number) (taken past)).begun
        by_test false h = was
        by_test true h =
            let fit : fits (taken past).begun f ≡ true = and_first _ _ h in
            let good : is_faulty f ≡ false = not_true (is_faulty f) (and_first _ _ fit) in
            let all : AllByRecursion (IsSound (frags_at e.time f ∷ past)) (with_fragments_of e.time f (taken past).begun) = list_sound past e.time f good (taken past).begun (and_second (not (is_faulty f)) (fits_in (begun_at f.number (taken past).begun) f) fit) before in (
              all_append (Brings (frags_at e.time f ∷ past)) (whole_at f.number (with_fragments_of e.time f (taken past).begun)) (received past)
                  (all_weaker (IsPutTogether (frags_at e.time f ∷ past)) (Brings (frags_at e.time f ∷ past)) (whole_at f.number (with_fragments_of e.time f (taken past).begun)) (λ s t. inr t) (found_sound (frags_at e.time f ∷ past) f.number (with_fragments_of e.time f (taken past).begun) all))
                  was.0,
              all,
            )
    by_body (Heartbeat h) was before = was
    by_body (Gap g) was before = was
    by_body (HeartbeatFrag h) was before = was

module _ (P : ChangeView → Type 0) where
  all_put : (s : ChangeView) (ts : List ChangeView) → P s → AllByRecursion P ts → AllByRecursion P (put s ts)
  all_put s [] here rest = (here, tt)
  all_put s (t ∷ ts) here rest =
      let more : AllByRecursion P (put s ts) = all_put s ts here rest.1 in
      elim (leb_tells (suc t.number) s.number) [ inl w ↦ rw w.0 (rest.0, more) | inr w ↦ rw w.0 (here, rest) ]

  all_in_order : (ss : List ChangeView) → AllByRecursion P ss → AllByRecursion P (in_order ss)
  all_in_order [] h = tt
  all_in_order (s ∷ ss) h = all_put s (in_order ss) h.0 (all_in_order ss h.1)

  all_filter : (p : ChangeView → Bool) (ss : List ChangeView) → AllByRecursion P ss → AllByRecursion P (filter p ss)
  all_filter p [] h = tt
  all_filter p (s ∷ ss) h = by_test (p s) (all_filter p ss h.1)
    where
      by_test : (b : Bool) → AllByRecursion P (filter p ss) → AllByRecursion P (cond b (s ∷ filter p ss) (filter p ss))
      by_test true rest = (h.0, rest)
      by_test false rest = rest

pub ready_brought : (past : List MatchEvent) (e : MatchEvent) → AllByRecursion (Brings (e ∷ past)) (ready past e)
ready_brought past e =
    all_in_order (Brings (e ∷ past)) _ (all_filter (Brings (e ∷ past)) (λ s. is_covered (e ∷ past) s.number && not (is_covered past s.number)) (received (e ∷ past)) (all_sound (e ∷ past)).0)
