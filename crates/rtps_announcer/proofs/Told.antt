-- What was said stays said, and one more change is sent.
use Rattle.std.proofs.Common.{◌≡◌, ℕ, zero, suc, ◌+◌, Bool, true, false, List, [], ◌∷◌, ◌++◌, length, slice_set, refl, ap, ◌∙◌, subst, arith, eq-eqb}
use Rattle.std.specs.Prelude.{◌||◌, ◌==◌, not, if◌then◌else◌}
use Rattle.std.specs.List.{list_any}
use Rattle.std.proofs.lemmas.List.Folds.{list_any-append}
use Rattle.rtps_announcer.specs.declared.said.Change.{Change}
use Rattle.rtps_announcer.specs.declared.said.Change.TheVariants.{Asks, Ends}
use Rattle.rtps_announcer.specs.declared.said.Said.{Said}
use Rattle.rtps_announcer.specs.declared.said.Said.TheVariants.{Bye, Hello, Told, Void, Beat}
use Rattle.rtps_announcer.specs.Announcing.{State, now_of, welcome}
use Rattle.rtps_announcer.specs.Said.{beat_of}
use Rattle.rtps_announcer.specs.Telling.{before, concerns, has_gone, merged, telling, told_as, with_void}
use Rattle.rtps_announcer.specs.Told.{AreTold, is_told, same_change}

or_left : (a b : Bool) → a ≡ true → (a || b) ≡ true
or_left a b h = rw h refl

or_right : (a b : Bool) → b ≡ true → (a || b) ≡ true
or_right true b h = refl
or_right false b h = h

pub any_left : (n : ℕ) (c : Change) (xs ys : List Said) → list_any (is_told n c) xs ≡ true → list_any (is_told n c) (xs ++ ys) ≡ true
any_left n c xs ys h = list_any-append (is_told n c) xs ys ∙ or_left _ _ h

pub any_right : (n : ℕ) (c : Change) (xs ys : List Said) → list_any (is_told n c) ys ≡ true → list_any (is_told n c) (xs ++ ys) ≡ true
any_right n c xs ys h = list_any-append (is_told n c) xs ys ∙ or_right (list_any (is_told n c) xs) _ h

-- more is said
pub said_more : (gone : List Bool) (since : ℕ) (said more : List Said) (n : ℕ) (cs : List Change) → AreTold gone since said n cs → AreTold gone since (said ++ more) n cs
said_more gone since said more n [] told = tt
said_more gone since said more n (c ∷ cs) told =
    (λ h. any_left n c said more (told.0 h), said_more gone since said more (n + 1) cs told.1)

said_before : (gone : List Bool) (since : ℕ) (x : Said) (said : List Said) (n : ℕ) (cs : List Change) → AreTold gone since said n cs → AreTold gone since (x ∷ said) n cs
said_before gone since x said n [] told = tt
said_before gone since x said n (c ∷ cs) told =
    (λ h. or_right (is_told n c x) (list_any (is_told n c) said) (told.0 h), said_before gone since x said (n + 1) cs told.1)

-- the same is said
said_alike : (gone : List Bool) (since : ℕ) (xs ys : List Said) (n : ℕ) (cs : List Change) → ((m : ℕ) (d : Change) → list_any (is_told m d) ys ≡ list_any (is_told m d) xs)
    → AreTold gone since xs n cs → AreTold gone since ys n cs
said_alike gone since xs ys n [] same told = tt
said_alike gone since xs ys n (c ∷ cs) same told =
    (λ h. same n c ∙ told.0 h, said_alike gone since xs ys (n + 1) cs same told.1)

-- ---- irrelevant numbers that are said at once take nothing away

void_any : (n : ℕ) (c : Change) (first last : ℕ) (more : List Said) → list_any (is_told n c) (with_void first last more) ≡ list_any (is_told n c) more
void_any n c first last [] = refl
void_any n c first last (Bye ∷ more) = refl
void_any n c first last (Hello ∷ more) = refl
void_any n c first last (Told m d ∷ more) = refl
void_any n c first last (Void next end ∷ more) = by_case (next == last + 1)
  where
    by_case : (b : Bool) → list_any (is_told n c) (if b then Void first end ∷ more else Void first last ∷ Void next end ∷ more) ≡ list_any (is_told n c) more
    by_case true = refl
    by_case false = refl
void_any n c first last (Beat end count ∷ more) = refl

before_any : (n : ℕ) (c : Change) (x : Said) (more : List Said) → list_any (is_told n c) (before x more) ≡ (is_told n c x || list_any (is_told n c) more)
before_any n c Bye more = refl
before_any n c Hello more = refl
before_any n c (Told m d) more = refl
before_any n c (Void first last) more = void_any n c first last more
before_any n c (Beat last count) more = refl

merged_any : (n : ℕ) (c : Change) (xs : List Said) → list_any (is_told n c) (merged xs) ≡ list_any (is_told n c) xs
merged_any n c [] = refl
merged_any n c (x ∷ xs) = before_any n c x (merged xs) ∙ ap (λ (b : Bool). is_told n c x || b) (merged_any n c xs)

-- ---- all changes are said

same_itself : (c : Change) → same_change c c ≡ true
same_itself (Asks r) = eq-eqb r r refl
same_itself (Ends r) = eq-eqb r r refl

pub told_itself : (n : ℕ) (c : Change) → is_told n c (Told n c) ≡ true
told_itself n c = rw (eq-eqb n n refl) (same_itself c)

told_is : (gone : List Bool) (since n : ℕ) (c : Change) → concerns gone since n c ≡ true → is_told n c (told_as gone since n c) ≡ true
told_is gone since n c h = rw h (told_itself n c)

telling_tells : (gone : List Bool) (since n : ℕ) (cs : List Change) → AreTold gone since (telling gone since n cs) n cs
telling_tells gone since n [] = tt
telling_tells gone since n (c ∷ cs) = (
  λ h. or_left _ (list_any (is_told n c) (telling gone since (n + 1) cs)) (told_is gone since n c h),
  said_before gone since (told_as gone since n c) (telling gone since (n + 1) cs) (n + 1) cs (telling_tells gone since (n + 1) cs),
)

-- all is sent to who is found
pub welcome_tells : (s : State) → AreTold s.gone (length s.changes) (welcome s) 1 s.changes
welcome_tells s =
    let all = telling s.gone (length s.changes) 1 s.changes in
    let last = merged all ++ beat_of (now_of s) ∷ [] in
    said_before s.gone (length s.changes) Bye (Hello ∷ last) 1 s.changes
    (said_before s.gone (length s.changes) Hello last 1 s.changes
    (said_more s.gone (length s.changes) (merged all) (beat_of (now_of s) ∷ []) 1 s.changes
    (said_alike s.gone (length s.changes) all (merged all) 1 s.changes (λ m d. merged_any m d all) (telling_tells s.gone (length s.changes) 1 s.changes))))

-- ---- there is one change more

-- a reader comes: who has gone stays so
pub gone_more : (gone : List Bool) (rank : ℕ) → has_gone (gone ++ false ∷ []) rank ≡ has_gone gone rank
gone_more [] zero = refl
gone_more [] (suc rank) = refl
gone_more (g ∷ gone) zero = refl
gone_more (g ∷ gone) (suc rank) = gone_more gone rank

-- a reader goes: who is there after it was there before
pub gone_one : (gone : List Bool) (who rank : ℕ) → has_gone (slice_set gone who true) rank ≡ false → has_gone gone rank ≡ false
gone_one [] who rank h = h
gone_one (g ∷ gone) zero zero h = absurd cc
gone_one (g ∷ gone) zero (suc rank) h = h
gone_one (g ∷ gone) (suc who) zero h = h
gone_one (g ∷ gone) (suc who) (suc rank) h = gone_one gone who rank h

not_true : (b : Bool) → not b ≡ true → b ≡ false
not_true true h = absurd cc
not_true false h = refl

concerned : (gone later : List Bool) (since n : ℕ) (c : Change) → ((rank : ℕ) → has_gone later rank ≡ false → has_gone gone rank ≡ false)
    → concerns later since n c ≡ true → concerns gone since n c ≡ true
concerned gone later since n (Asks rank) stays h = rw (stays rank (not_true (has_gone later rank) h)) refl
concerned gone later since n (Ends rank) stays h = h

-- one more change is sent
pub told_one_more : (gone later : List Bool) (since : ℕ) (said : List Said) (c : Change) (n : ℕ) (cs : List Change) → ((rank : ℕ) → has_gone later rank ≡ false → has_gone gone rank ≡ false)
    → AreTold gone since said n cs → list_any (is_told (n + length cs) c) said ≡ true → AreTold later since said n (cs ++ c ∷ [])
told_one_more gone later since said c n [] stays told last = (λ h. subst (λ k. list_any (is_told k c) said ≡ true) (omega arith) last, tt)
told_one_more gone later since said c n (x ∷ xs) stays told last = (
  λ h. told.0 (concerned gone later since n x stays h),
  told_one_more gone later since said c (n + 1) xs stays told.1 (subst (λ k. list_any (is_told k c) said ≡ true) (omega arith) last),
)
