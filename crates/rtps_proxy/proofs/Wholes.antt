-- The sample that a DATA_FRAG makes whole.
use Rattle.std.proofs.Common.{◌≡◌, ℕ, ◌⊎◌, Bool, true, false, ◌||◌, cond, List, [], ◌∷◌, ◌++◌, refl, sym, ◌∙◌, ap, arith, eqb, inl, inr, Option, Some, None}
use Rattle.std.specs.List.{list_any}
use Rattle.std.proofs.lemmas.Bool.Decides.{nat_tests}
use Rattle.rtps_types.specs.declared.time.Timestamp.{Timestamp}
use Rattle.rtps_receiver.specs.EventBody.{FragmentView, Fragment}
use Rattle.rtps_frags.specs.Fragments.{is_whole}
use Rattle.rtps_proxy.specs.Fragments.{Begun, begun_at, sample_in, whole_at, whole_of, with_fragments_of}
use Rattle.rtps_proxy.specs.Change.{ChangeView}
use Rattle.rtps_proxy.specs.History.{MatchEvent}
use Rattle.rtps_proxy.specs.Received.{Taken, received, taken, takes_fragments, with_begun}

-- at most one sample of a number is whole, and it has that number
pub whole_number : (n : ℕ) (bs : List Begun) (s : ChangeView) (ss : List ChangeView) → whole_at n bs ≡ s ∷ ss → s.number ≡ n
whole_number n [] s ss h = absurd cc
whole_number n (b ∷ bs) s ss h = by_test (eqb b.number n) refl (whole_number n bs s ss) h
  where
    by_whole : b.number ≡ n → (w : Bool) → cond w (sample_in b ∷ []) [] ≡ s ∷ ss → s.number ≡ n
    by_whole same true h = let is : sample_in b ≡ s = cc in ap (λ (t : ChangeView). t.number) (sym is) ∙ same
    by_whole same false h = absurd cc

    by_test : (t : Bool) → eqb b.number n ≡ t → (whole_at n bs ≡ s ∷ ss → s.number ≡ n) → whole_of (cond t (Some b) (begun_at n bs)) ≡ s ∷ ss → s.number ≡ n
    by_test true e rest h = by_whole (grind (arith, nat_tests)) (is_whole b.sizes b.there) h
    by_test false e rest h = rest h

pub never_two : (n : ℕ) (bs : List Begun) (s t : ChangeView) (ss : List ChangeView) → whole_at n bs ≡ s ∷ t ∷ ss → ⊥
never_two n bs s t ss h = by_found (begun_at n bs) h
  where
    by_whole : (b : Begun) (w : Bool) → cond w (sample_in b ∷ []) [] ≡ s ∷ t ∷ ss → ⊥
    by_whole b true h = cc
    by_whole b false h = cc

    by_found : (o : Option Begun) → whole_of o ≡ s ∷ t ∷ ss → ⊥
    by_found None h = cc
    by_found (Some b) h = by_whole b (is_whole b.sizes b.there) h

-- so whether a number is among what is received then
pub any_whole : (n m : ℕ) (bs : List Begun) (got : List ChangeView) → list_any (λ s. eqb s.number m) (whole_at n bs ++ got) ≡ true → (n ≡ m) ⊎ (list_any (λ s. eqb s.number m) got ≡ true)
any_whole n m bs got h = by_whole (whole_at n bs) refl h
  where
    by_whole : (ss : List ChangeView) → whole_at n bs ≡ ss → list_any (λ s. eqb s.number m) (ss ++ got) ≡ true → (n ≡ m) ⊎ (list_any (λ s. eqb s.number m) got ≡ true)
    by_whole [] is h = inr h
    by_whole (s ∷ []) is h = by_test (eqb s.number m) refl h
      where
        by_test : (b : Bool) → eqb s.number m ≡ b → (b || list_any (λ s. eqb s.number m) got) ≡ true → (n ≡ m) ⊎ (list_any (λ s. eqb s.number m) got ≡ true)
        by_test true e h = (let same : s.number ≡ m = grind (arith, nat_tests) in inl (sym (whole_number n bs s [] is) ∙ same))
        by_test false e h = inr h
    by_whole (s ∷ t ∷ ss) is h = absurd (never_two n bs s t ss is)

abbrev pub frags_at : Option Timestamp → FragmentView → MatchEvent
frags_at time f = record { time = time; body = Fragment f }

-- fragments that are taken, or not
pub frags_taken : (past : List MatchEvent) (time : Option Timestamp) (f : FragmentView) → takes_fragments (taken past) past f ≡ true → taken (frags_at time f ∷ past) ≡ with_begun (taken past) (with_fragments_of time f (taken past).begun) f.number
frags_taken past time f h = ap (λ b. cond b (with_begun (taken past) (with_fragments_of time f (taken past).begun) f.number) (taken past)) h

pub frags_left : (past : List MatchEvent) (time : Option Timestamp) (f : FragmentView) → takes_fragments (taken past) past f ≡ false → taken (frags_at time f ∷ past) ≡ taken past
frags_left past time f h = ap (λ b. cond b (with_begun (taken past) (with_fragments_of time f (taken past).begun) f.number) (taken past)) h

pub frags_received : (past : List MatchEvent) (time : Option Timestamp) (f : FragmentView) → takes_fragments (taken past) past f ≡ true → (ss : List ChangeView) → whole_at f.number (with_fragments_of time f (taken past).begun) ≡ ss → received (frags_at time f ∷ past) ≡ ss ++ received past
frags_received past time f h ss whole = ap (λ (t : Taken). t.changes) (frags_taken past time f h) ∙ ap (λ (xs : List ChangeView). xs ++ received past) whole
