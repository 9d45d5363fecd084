-- What notices add to the counts of a reader.
use Rattle.std.proofs.Common.{◌≡◌, ◌+◌, sym, eqb, Bool, true, false, if◌then◌else◌, ℕ, suc, List, [], ◌∷◌, ◌++◌, length, map, sum, Option, Some, None, refl, ap, ◌∙◌, arith}
use Rattle.std.specs.Prelude.{filter}
use Rattle.std.proofs.lemmas.Bool.Decides.{nat_tests}
use Rattle.std.proofs.lemmas.List.{append-nil, map-append}
use Rattle.std.proofs.lemmas.List.Sums.{sum_by-append}
use Rattle.rtps_types.specs.declared.policy.PolicyId.{PolicyId}
use Rattle.rtps_types.specs.declared.identity.Guid.{Guid}
use Rattle.rtps_types.specs.declared.place.Place.{Place}
use Rattle.rtps_proxy.specs.Change.{ChangeView}
use Rattle.rtps_proxy.specs.History.{MatchEvent}
use Rattle.dds_topic.specs.Decoding.{Decoding}
use Rattle.rtps_reader.specs.declared.notice.Notice.{Notice}
use Rattle.rtps_reader.specs.declared.notice.NoticeKind.{NoticeKind}
use Rattle.rtps_reader.specs.declared.notice.NoticeKind.TheVariants.{Lost, Matched, Unmatched, Incompatible}
use Rattle.rtps_reader.specs.declared.status.Status.{Status}
use Rattle.rtps_reader.specs.declared.status.Counts.{Counts}
use Rattle.rtps_proxy.specs.Matches.{Match}
use Rattle.rtps_reader.specs.Reader.{Reader, loses, lost_at, notice_of, presented, ready_at, told_of}
use Rattle.rtps_reader.specs.Standing.{StandsAt, StartsAt, ReaderView, counts_after, status_by}
use Rattle.rtps_reader.specs.Status.{capped, count_of, is_beginning, is_sample, last_of, lost_by, lost_in, refused_by, refused_in, status_of}

counted_if : {X : Type 0} (b : Bool) (x : X) (xs : List X) (n m : ℕ) → length xs ≡ n + m → length (if b then x ∷ xs else xs) ≡ (if b then suc n else n) + m
counted_if true x xs n m e = omega (arith, e)
counted_if false x xs n m e = e

if_suc : {X : Type 0} (b : Bool) (x : X) (xs : List X) → (if b then suc (length xs) else length xs) ≡ length (if b then x ∷ xs else xs)
if_suc true x xs = refl
if_suc false x xs = refl

pub count_then : {M : Type 0} (test : NoticeKind M → Bool) (a b : List (Notice M)) → count_of test (a ++ b) ≡ count_of test a + count_of test b
count_then test [] b = omega arith
count_then test (n ∷ a) b =
    counted_if (test n.what) n (filter (λ k. test k.what) (a ++ b)) (count_of test a) (count_of test b) (count_then test a b)
    ∙ ap (λ k. k + count_of test b) (if_suc (test n.what) n (filter (λ k. test k.what) a))

pub lost_then : {M : Type 0} (a b : List (Notice M)) → lost_by (a ++ b) ≡ lost_by a + lost_by b
lost_then a b = ap sum (map-append (λ n. lost_in n.what) a b) ∙ sum_by-append (λ n. n) (map (λ n. lost_in n.what) a) (map (λ n. lost_in n.what) b)

append_twice : (p q r : List PolicyId) → (p ++ q) ++ r ≡ p ++ (q ++ r)
append_twice [] q r = refl
append_twice (x ∷ p) q r = ap (λ l. x ∷ l) (append_twice p q r)

pub refused_then : {M : Type 0} (a b : List (Notice M)) → refused_by (a ++ b) ≡ refused_by a ++ refused_by b
refused_then [] b = refl
refused_then (n ∷ a) b = rw (refused_then a b, append_twice (refused_in n.what) (refused_by a) (refused_by b)) refl

-- what notices add: b matches that began, these refusals, n losses and k samples
pub record Adds {M : Type 0} (b : ℕ) (rs : List PolicyId) (n k : ℕ) (more : List (Notice M)) : Type 0 where
  pub beginnings : count_of is_beginning more ≡ b
  pub refused : refused_by more ≡ rs
  pub lost : lost_by more ≡ n
  pub samples : count_of is_sample more ≡ k

adds_samples : {M : Type 0} (d : Decoding M) (place : Place) (w : Guid) (xs : List ChangeView) → Adds 0 [] 0 (length xs) (map (presented d place w) xs)
adds_samples d place w [] = record { beginnings = refl; refused = refl; lost = refl; samples = refl }
adds_samples d place w (x ∷ xs) =
    let rest = adds_samples d place w xs in
    let lost : lost_by (map (presented d place w) xs) ≡ 0 = rest.lost in
    record { beginnings = rest.beginnings; refused = rest.refused; lost = omega (arith, lost); samples = ap suc rest.samples }

adds_losses : {M : Type 0} (place : Place) (w : Guid) (n : ℕ) → Adds {M = M} 0 [] n 0 (loses place w n)
adds_losses {M} place w n = by_test (eqb n 0) refl
  where
    by_test : (b : Bool) → eqb n 0 ≡ b → Adds {M = M} 0 [] n 0 (if b then [] else record { place = place; writer = w; what = Lost n } ∷ [])
    by_test true e = let zero : n ≡ 0 = grind (arith, nat_tests) in record { beginnings = refl; refused = refl; lost = sym zero; samples = refl }
    by_test false e = record { beginnings = refl; refused = refl; lost = omega arith; samples = refl }

adds_both : {M : Type 0} (n k : ℕ) (a b : List (Notice M)) → Adds 0 [] n 0 a → Adds 0 [] 0 k b → Adds 0 [] n k (a ++ b)
adds_both n k a b first second = record {
  beginnings = rw (count_then is_beginning a b, first.beginnings, second.beginnings) refl;
  refused = rw (refused_then a b, first.refused, second.refused) refl;
  lost = let sum = lost_then a b in let one = first.lost in let two = second.lost in omega arith;
  samples = let sum = count_then is_sample a b in let one = first.samples in let two = second.samples in omega arith;
}

-- the notices of an event add its losses and its samples
pub adds_told : {M : Type 0} (d : Decoding M) (place : Place) (w : Guid) (e : MatchEvent) (m : Match) → Adds 0 [] (lost_at m e) (length (ready_at m e)) (told_of d place w e (Some m))
adds_told d place w e m =
    adds_both (lost_at m e) (length (ready_at m e)) (loses place w (lost_at m e)) (map (presented d place w) (ready_at m e)) (adds_losses place w (lost_at m e)) (adds_samples d place w (ready_at m e))

pub adds_none : (M : Type 0) → Adds {M = M} 0 [] 0 0 []
adds_none M = record { beginnings = refl; refused = refl; lost = refl; samples = refl }

pub adds_match : (M : Type 0) (place : Place) (w : Guid) → Adds {M = M} 1 [] 0 0 (notice_of place w Matched)
adds_match M place w = record { beginnings = refl; refused = refl; lost = refl; samples = refl }

pub adds_end : (M : Type 0) (place : Place) (w : Guid) → Adds {M = M} 0 [] 0 0 (notice_of place w Unmatched)
adds_end M place w = record { beginnings = refl; refused = refl; lost = refl; samples = refl }

pub adds_refusal : (M : Type 0) (place : Place) (w : Guid) (policy : PolicyId) → Adds {M = M} 0 (policy ∷ []) 0 0 (notice_of place w (Incompatible policy))
adds_refusal M place w policy = record { beginnings = refl; refused = refl; lost = refl; samples = refl }

-- counts grow by so much, whatever was counted
pub record GrowBy (b : ℕ) (rs : List PolicyId) (n k : ℕ) (old new : Counts) : Type 0 where
  pub begun : (x : ℕ) → old.matched_total ≡ capped x → new.matched_total ≡ capped (x + b)
  pub refused : (ps : List PolicyId) → old.incompatible_total ≡ capped (length ps) → new.incompatible_total ≡ capped (length (ps ++ rs))
  pub last : (ps : List PolicyId) → old.last_policy ≡ last_of ps → new.last_policy ≡ last_of (ps ++ rs)
  pub lost : (x : ℕ) → old.lost_total ≡ capped x → new.lost_total ≡ capped (x + n)
  pub samples : (x : ℕ) → old.samples ≡ capped x → new.samples ≡ capped (x + k)

-- a total that is reported stops where the count after it would
still : (t x : ℕ) → t ≡ capped x → t ≡ capped (x + 0)
still t x is = omega (arith, is)

more_of : (t x n : ℕ) → t ≡ capped x → capped (t + n) ≡ capped (x + n)
more_of t x n is = omega (arith, is)

none_refused : (t : ℕ) (ps : List PolicyId) → t ≡ capped (length ps) → t ≡ capped (length (ps ++ []))
none_refused t ps is = is ∙ ap (λ (l : List PolicyId). capped (length l)) (sym (append-nil ps))

same_last : (p : Option PolicyId) (ps : List PolicyId) → p ≡ last_of ps → p ≡ last_of (ps ++ [])
same_last p ps is = is ∙ ap last_of (sym (append-nil ps))

length-push : (ps : List PolicyId) (p : PolicyId) → length (ps ++ p ∷ []) ≡ length ps + 1
length-push [] p = refl
length-push (q ∷ ps) p = let rest = length-push ps p in omega arith

last_push : (ps : List PolicyId) (p : PolicyId) → Some p ≡ last_of (ps ++ p ∷ [])
last_push [] p = refl
last_push (q ∷ []) p = refl
last_push (q ∷ r ∷ ps) p = last_push (r ∷ ps) p

one_refused : (t : ℕ) (ps : List PolicyId) (p : PolicyId) → t ≡ capped (length ps) → capped (t + 1) ≡ capped (length (ps ++ p ∷ []))
one_refused t ps p is = more_of t (length ps) 1 is ∙ ap capped (sym (length-push ps p))

pub grow_event : (c : Counts) (n k : ℕ) → GrowBy 0 [] n k c (counts_after c n k)
grow_event c n k = record { begun = still c.matched_total; refused = none_refused c.incompatible_total; last = same_last c.last_policy; lost = λ x is. more_of c.lost_total x n is; samples = λ x is. more_of c.samples x k is }

pub grow_none : (c : Counts) → GrowBy 0 [] 0 0 c c
grow_none c = record { begun = still c.matched_total; refused = none_refused c.incompatible_total; last = same_last c.last_policy; lost = still c.lost_total; samples = still c.samples }

pub grow_match : (c : Counts) → GrowBy 1 [] 0 0 c (record c { matched_total = capped (c.matched_total + 1) })
grow_match c = record { begun = λ x is. more_of c.matched_total x 1 is; refused = none_refused c.incompatible_total; last = same_last c.last_policy; lost = still c.lost_total; samples = still c.samples }

pub grow_refusal : (c : Counts) (policy : PolicyId) → GrowBy 0 (policy ∷ []) 0 0 c (record c { incompatible_total = capped (c.incompatible_total + 1); last_policy = Some policy })
grow_refusal c policy = record { begun = still c.matched_total; refused = λ ps is. one_refused c.incompatible_total ps policy is; last = λ ps is. last_push ps policy; lost = still c.lost_total; samples = still c.samples }

-- a status by its parts
abbrev of_parts : ℕ → ℕ → ℕ → Option PolicyId → ℕ → ℕ → Status
of_parts total now refused last lost samples = record {
  matched_total = total;
  matched_now = now;
  incompatible_total = refused;
  last_policy = last;
  lost_total = lost;
  samples = samples;
}

same_parts : (t t1 m m1 i i1 : ℕ) (p p1 : Option PolicyId) (l l1 s s1 : ℕ) → t ≡ t1 → m ≡ m1 → i ≡ i1 → p ≡ p1 → l ≡ l1 → s ≡ s1 → of_parts t m i p l s ≡ of_parts t1 m1 i1 p1 l1 s1
same_parts t t1 m m1 i i1 p p1 l l1 s s1 et em ei ep el es = rw (et, em, ei, ep, el, es) refl

sum_of : (a b c n : ℕ) → c ≡ a + b → b ≡ n → a + n ≡ c
sum_of a b c n sum is = omega (arith, sum, is)

fixed_and : (f f1 a b c n : ℕ) → f1 ≡ f → c ≡ a + b → b ≡ n → (f + a) + n ≡ f1 + c
fixed_and f f1 a b c n same sum is = omega (arith, same, sum, is)

-- the status counts these notices too
pub status_adds : {M : Type 0} (r r1 : Reader) (given added : List (Notice M)) (old new : Counts) (before now b : ℕ) (rs : List PolicyId) (n k : ℕ) → r1.fixed ≡ r.fixed → now ≡ length r1.matches
    → Adds b rs n k added → GrowBy b rs n k old new → status_by old before ≡ status_of r given → status_by new now ≡ status_of r1 (given ++ added)
status_adds r r1 given added old new before now b rs n k fixed count adds grow is =
    let refused : refused_by given ++ rs ≡ refused_by (given ++ added) = sym (refused_then given added ∙ ap (λ l. refused_by given ++ l) adds.refused) in
    same_parts new.matched_total _ now _ new.incompatible_total _ new.last_policy _ new.lost_total _ new.samples _
    (grow.begun (r.fixed + count_of is_beginning given) (ap (λ (s : Status). s.matched_total) is) ∙ ap capped (fixed_and r.fixed r1.fixed _ _ _ b fixed (count_then is_beginning given added) adds.beginnings))
    count
    (grow.refused (refused_by given) (ap (λ (s : Status). s.incompatible_total) is) ∙ ap (λ (l : List PolicyId). capped (length l)) refused)
    (grow.last (refused_by given) (ap (λ (s : Status). s.last_policy) is) ∙ ap last_of refused)
    (grow.lost (lost_by given) (ap (λ (s : Status). s.lost_total) is) ∙ ap capped (sum_of _ _ _ n (lost_then given added) adds.lost))
    (grow.samples (count_of is_sample given) (ap (λ (s : Status). s.samples) is) ∙ ap capped (sum_of _ _ _ k (count_then is_sample given added) adds.samples))

-- the status of a reader at the start
pub first_status : (r : Reader) (counts : Counts) (now : ℕ) → counts ≡ record { matched_total = capped (0 + now); incompatible_total = 0; last_policy = None; lost_total = 0; samples = 0 } → now ≡ length r.matches → r.fixed ≡ length r.matches
    → status_by counts now ≡ status_of {M = Unit {0}} r []
first_status r counts now is count fixed =
    ap (λ (c : Counts). status_by c now) is
    ∙ same_parts (capped (0 + now)) (capped (r.fixed + 0)) now (length r.matches) 0 0 None None 0 0 0 0 (ap capped (all_fixed now r.fixed (length r.matches) count fixed)) count refl refl refl refl
  where
    all_fixed : (n f l : ℕ) → n ≡ l → f ≡ l → 0 + n ≡ f + 0
    all_fixed n f l a b = omega (arith, a, b)

-- a reader that gave out nothing counts so, whatever its notices would mean
pub starts : {M : Type 0} (r : Reader) (state : ReaderView) → StartsAt r state → StandsAt {M = M} r [] state
starts r state s = record { sound = s.sound; own = s.own; entity = s.entity; reliable = s.reliable; matches = s.matches; status = s.status }
