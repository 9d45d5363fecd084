-- The samples that stand: those of which fragments came and whose numbers aren't settled.
use Rattle.std.proofs.Common.{◌≡◌, ℕ, suc, ◌<◌, Bool, true, false, not, ◌&&◌, ◌||◌, cond, List, [], ◌∷◌, ◌++◌, length, refl, sym, ◌∙◌, ap, arith, ltb, leb, eqb, inl, inr, Option, Some, None}
use Rattle.std.specs.Prelude.{is_some}
use Rattle.std.specs.List.{filter, AllByRecursion}
use Rattle.std.proofs.lemmas.Bool.Decides.{nat_tests, leb_tells, eqb_tells}
use Rattle.std.proofs.lemmas.List.Elements.{filter_agree}
use Rattle.rtps_types.specs.declared.time.Timestamp.{Timestamp}
use Rattle.rtps_types.specs.Numbers.{all_below}
use Rattle.rtps_receiver.specs.EventBody.{EventBodyView, FragmentView, Whole, Fragment, Heartbeat, Gap, HeartbeatFrag}
use Rattle.rtps_frags.specs.Fragments.{is_whole}
use Rattle.rtps_proxy.specs.Fragments.{Begun, begun_at, fits, fits_in, grown, is_begun, is_faulty, opened, sample_in, whole_at, whole_of, with_fragments_of}
use Rattle.rtps_proxy.specs.Change.{ChangeView}
use Rattle.rtps_proxy.specs.History.{MatchEvent}
use Rattle.rtps_proxy.specs.Pending.{fits_found, found_at, whole_found}
use Rattle.rtps_proxy.specs.Received.{Taken, has_seat_by, held, in_order, is_settled, received, standing, taken, taken_after, takes_fragments, with_begun}
use Rattle.rtps_proxy.specs.Runs.{Run, marks}
use Rattle.rtps_proxy.specs.Settled.{has_room_by, is_settled_by}
use Rattle.rtps_proxy.proofs.Standing.{Shows, all_below_is, marks_at, marks_below}
use Rattle.rtps_proxy.proofs.Taking.{takes_is}
use Rattle.rtps_proxy.proofs.Wholes.{frags_at, frags_left, frags_taken}

-- numbers that rise
abbrev pub Rising : List Begun → Type 0
Rising [] = Unit {0}
Rising (b ∷ bs) = AllByRecursion (λ c. b.number < c.number) bs × Rising bs

all_put : (n : ℕ) (time : Option Timestamp) (f : FragmentView) (bs : List Begun) → n < f.number → AllByRecursion (λ c. n < c.number) bs → AllByRecursion (λ c. n < c.number) (with_fragments_of time f bs)
all_put n time f [] l all = (l, tt)
all_put n time f (b ∷ bs) l all =
    let rest : AllByRecursion (λ c. n < c.number) (with_fragments_of time f bs) = all_put n time f bs l all.1 in
    elim (leb_tells (suc b.number) f.number) [
      | inl w ↦ rw w.0 (all.0, rest)
      | inr w ↦ elim (eqb_tells b.number f.number) [ inl v ↦ rw (w.0, v.0) all | inr v ↦ rw (w.0, v.0) (l, all) ]
    ]

all_more : (m n : ℕ) (bs : List Begun) → m < n → AllByRecursion (λ c. n < c.number) bs → AllByRecursion (λ c. m < c.number) bs
all_more m n [] l all = tt
all_more m n (b ∷ bs) l all = let here : n < b.number = all.0 in (omega (arith, here, l), all_more m n bs l all.1)

pub rising_put : (time : Option Timestamp) (f : FragmentView) (bs : List Begun) → Rising bs → Rising (with_fragments_of time f bs)
rising_put time f [] h = (tt, tt)
rising_put time f (b ∷ bs) h =
    let rest : Rising (with_fragments_of time f bs) = rising_put time f bs h.1 in
    elim (leb_tells (suc b.number) f.number) [
      | inl w ↦ rw w.0 (all_put b.number time f bs w.1 h.0, rest)
      | inr w ↦ elim (eqb_tells b.number f.number) [
        | inl v ↦ rw (w.0, v.0) h
        | inr v ↦ (
            let differ = v.1 in
            let above : f.number < b.number = omega (arith, w.1, differ) in
            rw (w.0, v.0) ((above, all_more f.number b.number bs above h.0), h)
            )
      ]
    ]

pub rising_begun : (past : List MatchEvent) → Rising (taken past).begun
rising_begun [] = tt
rising_begun (e ∷ past) = by_body e.body (rising_begun past)
  where
    by_test : (f : FragmentView) (b : Bool) → Rising (taken past).begun → Rising (cond b (with_begun (taken past) (with_fragments_of e.time f (taken past).begun) f.number) (taken past)).begun
    by_test f true rest = rising_put e.time f (taken past).begun rest
    by_test f false rest = rest

    by_body : (b : EventBodyView) → Rising (taken past).begun → Rising (taken_after (taken past) past (record { time = e.time; body = b })).begun
    by_body (Whole c) rest = rest
    by_body (Fragment f) rest = by_test f (takes_fragments (taken past) past f) rest
    by_body (Heartbeat h) rest = rest
    by_body (Gap g) rest = rest
    by_body (HeartbeatFrag h) rest = rest

module _ (p : ℕ → Bool) where
  abbrev pub passing : List Begun → List Begun
  passing bs = filter (λ b. p b.number) bs

  all_passing : (n : ℕ) (bs : List Begun) → AllByRecursion (λ c. n < c.number) bs → AllByRecursion (λ c. n < c.number) (passing bs)
  all_passing n [] all = tt
  all_passing n (b ∷ bs) all = by_test (p b.number) (all_passing n bs all.1)
    where
      by_test : (t : Bool) → AllByRecursion (λ c. n < c.number) (passing bs) → AllByRecursion (λ c. n < c.number) (cond t (b ∷ passing bs) (passing bs))
      by_test true rest = (all.0, rest)
      by_test false rest = rest

  pub rising_passing : (bs : List Begun) → Rising bs → Rising (passing bs)
  rising_passing [] h = tt
  rising_passing (b ∷ bs) h = by_test (p b.number) (rising_passing bs h.1)
    where
      by_test : (t : Bool) → Rising (passing bs) → Rising (cond t (b ∷ passing bs) (passing bs))
      by_test true rest = (all_passing b.number bs h.0, rest)
      by_test false rest = rest

  -- above all of them
  put_before : (time : Option Timestamp) (f : FragmentView) (bs : List Begun) → AllByRecursion (λ c. f.number < c.number) bs → with_fragments_of time f bs ≡ grown (opened time f) f ∷ bs
  put_before time f [] all = refl
  put_before time f (b ∷ bs) all =
      let above : f.number < b.number = all.0 in
      let not_less : ltb b.number f.number ≡ false = grind (arith, nat_tests) in
      let not_same : eqb b.number f.number ≡ false = grind (arith, nat_tests) in
      rw (not_less, not_same) refl

  -- a filter that lets the number pass
  pub put_passing : (time : Option Timestamp) (f : FragmentView) (bs : List Begun) → Rising bs → p f.number ≡ true → passing (with_fragments_of time f bs) ≡ with_fragments_of time f (passing bs)
  put_passing time f [] h ok = rw ok refl
  put_passing time f (b ∷ bs) h ok =
      let rest : passing (with_fragments_of time f bs) ≡ with_fragments_of time f (passing bs) = put_passing time f bs h.1 ok in
      elim (leb_tells (suc b.number) f.number) [
        | inl w ↦ rw w.0 (before (p b.number) w.0 rest)
        | inr w ↦ elim (eqb_tells b.number f.number) [
          | inl v ↦ (
              let passes : p b.number ≡ true = ap p v.1 ∙ ok in
              rw (w.0, v.0, passes) (rw (w.0, v.0) refl)
              )
          | inr v ↦ (
              let differ = v.1 in
              let above : f.number < b.number = omega (arith, w.1, differ) in
              rw (w.0, v.0, ok) (behind (p b.number) w.0 v.0 (sym (put_before time f (passing bs) (all_passing f.number bs (all_more f.number b.number bs above h.0)))))
              )
        ]
      ]
    where
      before : (t : Bool) → ltb b.number f.number ≡ true → passing (with_fragments_of time f bs) ≡ with_fragments_of time f (passing bs)
          → cond t (b ∷ passing (with_fragments_of time f bs)) (passing (with_fragments_of time f bs)) ≡ with_fragments_of time f (cond t (b ∷ passing bs) (passing bs))
      before true less rest = rw less (ap (λ (cs : List Begun). b ∷ cs) rest)
      before false less rest = rest

      behind : (t : Bool) → ltb b.number f.number ≡ false → eqb b.number f.number ≡ false → grown (opened time f) f ∷ passing bs ≡ with_fragments_of time f (passing bs)
          → grown (opened time f) f ∷ cond t (b ∷ passing bs) (passing bs) ≡ with_fragments_of time f (cond t (b ∷ passing bs) (passing bs))
      behind true not_less not_same rest = rw (not_less, not_same) refl
      behind false not_less not_same rest = rest

  pub at_passing : (n : ℕ) (bs : List Begun) → p n ≡ true → begun_at n (passing bs) ≡ begun_at n bs
  at_passing n [] ok = refl
  at_passing n (b ∷ bs) ok = elim (eqb_tells b.number n) [
    | inl w ↦ (let passes : p b.number ≡ true = ap p w.1 ∙ ok in rw (w.0, passes) (rw w.0 refl))
    | inr w ↦ rw w.0 (by_test (p b.number) w.0 (at_passing n bs ok))
  ]
    where
      by_test : (t : Bool) → eqb b.number n ≡ false → begun_at n (passing bs) ≡ begun_at n bs → begun_at n (cond t (b ∷ passing bs) (passing bs)) ≡ begun_at n bs
      by_test true other rest = rw other rest
      by_test false other rest = rest

-- the sample of a number is where it is sought
none_at : (n : ℕ) (bs : List Begun) → AllByRecursion (λ c. n < c.number) bs → begun_at n bs ≡ None
none_at n [] all = refl
none_at n (b ∷ bs) all = let above : n < b.number = all.0 in let other : eqb b.number n ≡ false = grind (arith, nat_tests) in rw other (none_at n bs all.1)

pub found_is : (n : ℕ) (bs : List Begun) → Rising bs → found_at n bs ≡ begun_at n bs
found_is n [] h = refl
found_is n (b ∷ bs) h =
    elim (leb_tells (suc b.number) n) [
      | inl w ↦ (
          let below : b.number < n = w.1 in
          let other : eqb b.number n ≡ false = grind (arith, nat_tests) in
          rw (w.0, other) (found_is n bs h.1)
          )
      | inr w ↦ elim (eqb_tells b.number n) [
        | inl v ↦ rw (w.0, v.0) refl
        | inr v ↦ (
            let differ = v.1 in
            let above : n < b.number = omega (arith, w.1, differ) in
            rw (w.0, v.0) (sym (none_at n bs (all_more n b.number bs above h.0)))
            )
      ]
    ]

pub begun_is : (n : ℕ) (bs : List Begun) → is_some (begun_at n bs) ≡ is_begun bs n
begun_is n [] = refl
begun_is n (b ∷ bs) = by_test (eqb b.number n) (begun_is n bs)
  where
    by_test : (t : Bool) → is_some (begun_at n bs) ≡ is_begun bs n → is_some (cond t (Some b) (begun_at n bs)) ≡ (t || is_begun bs n)
    by_test true rest = refl
    by_test false rest = rest

pub filter_both : (p q : Begun → Bool) → ((b : Begun) → q b ≡ false → p b ≡ false) → (bs : List Begun) → filter p (filter q bs) ≡ filter p bs
filter_both p q less [] = refl
filter_both p q less (b ∷ bs) = by_test (q b) refl (filter_both p q less bs)
  where
    again : (t : Bool) → filter p (filter q bs) ≡ filter p bs → cond t (b ∷ filter p (filter q bs)) (filter p (filter q bs)) ≡ cond t (b ∷ filter p bs) (filter p bs)
    again true rest = ap (λ (cs : List Begun). b ∷ cs) rest
    again false rest = rest

    by_test : (t : Bool) → q b ≡ t → filter p (filter q bs) ≡ filter p bs → filter p (cond t (b ∷ filter q bs) (filter q bs)) ≡ cond (p b) (b ∷ filter p bs) (filter p bs)
    by_test true e rest = again (p b) rest
    by_test false e rest = rest ∙ sym (rw (less b e) refl)

-- where no sample begins at an event, those of numbers that are settled then leave
pub standing_then : (past : List MatchEvent) (e : MatchEvent) (f f' : ℕ) (rs rs' : List Run) → Shows past f rs → Shows (e ∷ past) f' rs' → (taken (e ∷ past)).begun ≡ (taken past).begun → ((n : ℕ) → marks f rs n ≡ true → marks f' rs' n ≡ true)
    → filter (λ b. not (marks f' rs' b.number)) (standing past) ≡ standing (e ∷ past)
standing_then past e f f' rs rs' shows shows' same keeps =
    filter_both (λ b. not (marks f' rs' b.number)) (λ b. not (is_settled past b.number)) less (taken past).begun
    ∙ filter_agree (λ (b : Begun). not (marks f' rs' b.number)) (λ b. not (is_settled (e ∷ past) b.number)) (λ b. ap not (sym (shows'.settled b.number))) (taken past).begun
    ∙ ap (filter (λ b. not (is_settled (e ∷ past) b.number))) (sym same)
  where
    not_false : (t : Bool) → not t ≡ false → t ≡ true
    not_false true h = refl
    not_false false h = absurd cc

    less : (b : Begun) → not (is_settled past b.number) ≡ false → not (marks f' rs' b.number) ≡ false
    less b h = ap not (keeps b.number (sym (shows.settled b.number) ∙ not_false (is_settled past b.number) h))

-- and where no number is settled, the same stand
pub standing_same : (past : List MatchEvent) (e : MatchEvent) → (taken (e ∷ past)).begun ≡ (taken past).begun → ((n : ℕ) → is_settled (e ∷ past) n ≡ is_settled past n) → standing (e ∷ past) ≡ standing past
standing_same past e same settled =
    ap (filter (λ b. not (is_settled (e ∷ past) b.number))) same
    ∙ filter_agree (λ (b : Begun). not (is_settled (e ∷ past) b.number)) (λ b. not (is_settled past b.number)) (λ b. ap not (settled b.number)) (taken past).begun

-- the same where a sample begins or grows
pub standing_from : (past : List MatchEvent) (e : MatchEvent) (f f' : ℕ) (rs rs' : List Run) (bs : List Begun) → Shows past f rs → Shows (e ∷ past) f' rs' → (taken (e ∷ past)).begun ≡ bs → ((n : ℕ) → marks f rs n ≡ true → marks f' rs' n ≡ true)
    → filter (λ b. not (marks f' rs' b.number)) (filter (λ b. not (is_settled past b.number)) bs) ≡ standing (e ∷ past)
standing_from past e f f' rs rs' bs shows shows' same keeps =
    filter_both (λ b. not (marks f' rs' b.number)) (λ b. not (is_settled past b.number)) less bs
    ∙ filter_agree (λ (b : Begun). not (marks f' rs' b.number)) (λ b. not (is_settled (e ∷ past) b.number)) (λ b. ap not (sym (shows'.settled b.number))) bs
    ∙ ap (filter (λ b. not (is_settled (e ∷ past) b.number))) (sym same)
  where
    not_false : (t : Bool) → not t ≡ false → t ≡ true
    not_false true h = refl
    not_false false h = absurd cc

    less : (b : Begun) → not (is_settled past b.number) ≡ false → not (marks f' rs' b.number) ≡ false
    less b h = ap not (keeps b.number (sym (shows.settled b.number) ∙ not_false (is_settled past b.number) h))

and_false : (b : Bool) → (b && false) ≡ false
and_false true = refl
and_false false = refl

and_assoc : (a b c : Bool) → ((a && b) && c) ≡ (a && (b && c))
and_assoc true b c = refl
and_assoc false b c = refl

-- the sample of an unsettled number is found among those that stand
pub found_standing : (past : List MatchEvent) (n : ℕ) → is_settled past n ≡ false → found_at n (standing past) ≡ begun_at n (taken past).begun
found_standing past n unsettled =
    let passes : not (is_settled past n) ≡ true = ap not unsettled in
    found_is n (standing past) (rising_passing (λ k. not (is_settled past k)) (taken past).begun (rising_begun past))
    ∙ at_passing (λ k. not (is_settled past k)) n (taken past).begun passes

-- whether fragments are taken, by what the proxy keeps
pub fragments_taken_is : (past : List MatchEvent) (f : FragmentView) (front : ℕ) (rs : List Run) (waiting : List ChangeView) (bs : List Begun) → Shows past front rs → waiting ≡ in_order (held past) → bs ≡ standing past
    → (fits_found bs f && ((not (marks front rs f.number) && (leb f.number front || ltb (length waiting) 65536)) && (is_some (found_at f.number bs) || (leb f.number front || ltb (length bs) 64)))) ≡ takes_fragments (taken past) past f
fragments_taken_is past f front rs waiting bs shows waits is = by_settled (is_settled past f.number) refl
  where
    by_settled : (b : Bool) → is_settled past f.number ≡ b
        → (fits_found bs f && ((not (marks front rs f.number) && (leb f.number front || ltb (length waiting) 65536)) && (is_some (found_at f.number bs) || (leb f.number front || ltb (length bs) 64)))) ≡ takes_fragments (taken past) past f
    by_settled true e =
        let marked : marks front rs f.number ≡ true = sym (shows.settled f.number) ∙ e in
        ap (λ b. fits_found bs f && ((not b && (leb f.number front || ltb (length waiting) 65536)) && (is_some (found_at f.number bs) || (leb f.number front || ltb (length bs) 64)))) marked
        ∙ and_false (fits_found bs f)
        ∙ sym (ap (λ b. fits (taken past).begun f && (not b && (has_room_by (received past) past f.number && has_seat_by (taken past) past f.number))) e ∙ and_false (fits (taken past).begun f))
    by_settled false e =
        let found : found_at f.number bs ≡ begun_at f.number (taken past).begun = ap (found_at f.number) is ∙ found_standing past f.number e in
        let fit : fits_found bs f ≡ fits (taken past).begun f = ap (λ o. not (is_faulty f) && fits_in o f) found in
        let room : (not (marks front rs f.number) && (leb f.number front || ltb (length waiting) 65536)) ≡ (not (is_settled past f.number) && has_room_by (received past) past f.number) = sym (takes_is past f.number front rs (length waiting) waiting shows waits refl) in
        let below : leb f.number front ≡ all_below (is_settled past) f.number = sym (all_below_is (is_settled past) front (λ k l. shows.settled k ∙ marks_below front rs k l) (shows.settled front ∙ marks_at front rs shows.apart) f.number) in
        let seat : (is_some (found_at f.number bs) || (leb f.number front || ltb (length bs) 64)) ≡ has_seat_by (taken past) past f.number =
        ap (λ b. b || (leb f.number front || ltb (length bs) 64)) (ap is_some found ∙ begun_is f.number (taken past).begun)
        ∙ ap (λ b. is_begun (taken past).begun f.number || (b || ltb (length bs) 64)) below
        ∙ ap (λ (cs : List Begun). is_begun (taken past).begun f.number || (all_below (is_settled past) f.number || ltb (length cs) 64)) is
        in
        ap (λ a. a && ((not (marks front rs f.number) && (leb f.number front || ltb (length waiting) 65536)) && (is_some (found_at f.number bs) || (leb f.number front || ltb (length bs) 64)))) fit
        ∙ ap (λ a. fits (taken past).begun f && (a && (is_some (found_at f.number bs) || (leb f.number front || ltb (length bs) 64)))) room
        ∙ ap (λ a. fits (taken past).begun f && ((not (is_settled past f.number) && has_room_by (received past) past f.number) && a)) seat
        ∙ ap (λ a. fits (taken past).begun f && a) (and_assoc (not (is_settled past f.number)) (has_room_by (received past) past f.number) (has_seat_by (taken past) past f.number))

abbrev pub listed : Option ChangeView → List ChangeView
listed None = []
listed (Some s) = s ∷ []

pub whole_listed : (o : Option Begun) → whole_of o ≡ listed (whole_found o)
whole_listed None = refl
whole_listed (Some b) = by_test (is_whole b.sizes b.there)
  where
    by_test : (t : Bool) → cond t (sample_in b ∷ []) [] ≡ listed (cond t (Some (sample_in b)) None)
    by_test true = refl
    by_test false = refl

-- fragments that are taken
module _ (past : List MatchEvent) (time : Option Timestamp) (f : FragmentView) (unsettled : is_settled past f.number ≡ false) where
  passes : not (is_settled past f.number) ≡ true
  passes = ap not unsettled

  abbrev Grown : List Begun
  Grown = with_fragments_of time f (taken past).begun

  pub standing_put : with_fragments_of time f (standing past) ≡ filter (λ b. not (is_settled past b.number)) Grown
  standing_put = sym (put_passing (λ k. not (is_settled past k)) time f (taken past).begun (rising_begun past) passes)

  pub whole_then : whole_at f.number Grown ≡ listed (whole_found (found_at f.number (with_fragments_of time f (standing past))))
  whole_then =
      let rising : Rising (with_fragments_of time f (standing past)) = rising_put time f (standing past) (rising_passing (λ k. not (is_settled past k)) (taken past).begun (rising_begun past)) in
      let found : found_at f.number (with_fragments_of time f (standing past)) ≡ begun_at f.number Grown =
      found_is f.number (with_fragments_of time f (standing past)) rising
      ∙ ap (begun_at f.number) standing_put
      ∙ at_passing (λ k. not (is_settled past k)) f.number Grown passes
      in
      whole_listed (begun_at f.number Grown) ∙ ap (λ o. listed (whole_found o)) (sym found)

  module _ (takes_it : takes_fragments (taken past) past f ≡ true) where
    pub begun_then : (taken (frags_at time f ∷ past)).begun ≡ Grown
    begun_then = ap (λ (t : Taken). t.begun) (frags_taken past time f takes_it)

    -- where it isn't whole, it stands
    module _ (none : whole_at f.number Grown ≡ []) where
      pub same_received : received (frags_at time f ∷ past) ≡ received past
      same_received = ap (λ (t : Taken). t.changes) (frags_taken past time f takes_it) ∙ ap (λ (xs : List ChangeView). xs ++ received past) none

      pub same_settled : (m : ℕ) → is_settled (frags_at time f ∷ past) m ≡ is_settled past m
      same_settled m = ap (λ (got : List ChangeView). is_settled_by got past m) same_received

      pub standing_more : with_fragments_of time f (standing past) ≡ standing (frags_at time f ∷ past)
      standing_more =
          standing_put
          ∙ filter_agree (λ (b : Begun). not (is_settled past b.number)) (λ b. not (is_settled (frags_at time f ∷ past) b.number)) (λ b. ap not (sym (same_settled b.number))) Grown
          ∙ ap (filter (λ b. not (is_settled (frags_at time f ∷ past) b.number))) (sym begun_then)

-- fragments that aren't taken do nothing
pub left_same : (past : List MatchEvent) (time : Option Timestamp) (f : FragmentView) → takes_fragments (taken past) past f ≡ false → (m : ℕ) → is_settled (frags_at time f ∷ past) m ≡ is_settled past m
left_same past time f h m = ap (λ (t : Taken). is_settled_by t.changes past m) (frags_left past time f h)
