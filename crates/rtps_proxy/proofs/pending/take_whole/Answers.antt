use Rattle.std.proofs.Common.{◌≡◌, ℕ, ◌<◌, Bool, true, false, cond, List, length, get_or, sym, ◌∙◌, ap, arith, rules, refl, eqb, Some, None}
use Rattle.std.specs.Prelude.{is_some}
use Rattle.std.specs.List.{filter}
use Rattle.std.specs.Vec.{vec_len}
use Rattle.std.proofs.lemmas.Bool.Decides.{nat_tests}
use Rattle.std.proofs.lemmas.List.{get_or_default}
use Rattle.rtps_types.specs.Number.{value_of}
use Rattle.rtps_frags.specs.Fragments.{is_whole}
use Rattle.rtps_frags.specs.Kept.{AssemblyView, has_come}
use Rattle.rtps_proxy.specs.declared.pending.Pending.{Pending}
use Rattle.rtps_proxy.specs.Fragments.{sample_in}
use Rattle.rtps_proxy.specs.Change.{ChangeView}
use Rattle.rtps_proxy.specs.Pending.{are_sound, found_at, pending_view, pending_views, place_in, whole_found}
use Rattle.rtps_proxy.proofs.Places.{found_inside, found_within, left_filtered, sound_at, sound_removed}
use Rattle.rtps_proxy.proofs.pending.take_whole.Goals as goal

within : {A : Type 0} (n at len : ℕ) (ps : List (Pending A)) → at ≡ place_in n (pending_views ps) → is_some (found_at n (pending_views ps)) ≡ true → len ≡ length ps → at < len
within n at len ps place there is = let l = found_within n ps there in omega (arith, place, l, is)

-- the sample at the place is the number's
here : {A : Type 0} (n at : ℕ) (ps : List (Pending A)) (d : Pending A) → at ≡ place_in n (pending_views ps) → is_some (found_at n (pending_views ps)) ≡ true
    → (found_at n (pending_views ps) ≡ Some (pending_view (get_or ps at d))) × (value_of (get_or ps at d).number ≡ n)
here n at ps d place there = by_test (eqb (value_of (get_or ps at d).number) n) refl found
  where
    found : found_at n (pending_views ps) ≡ cond (eqb (value_of (get_or ps at d).number) n) (Some (pending_view (get_or ps at d))) None
    found = found_inside n ps d (found_within n ps there) ∙ ap (λ i. cond (eqb (value_of (get_or ps i d).number) n) (Some (pending_view (get_or ps i d))) None) (sym place)

    by_test : (b : Bool) → eqb (value_of (get_or ps at d).number) n ≡ b → found_at n (pending_views ps) ≡ cond (eqb (value_of (get_or ps at d).number) n) (Some (pending_view (get_or ps at d))) None → (found_at n (pending_views ps) ≡ Some (pending_view (get_or ps at d))) × (value_of (get_or ps at d).number ≡ n)
    by_test true e f = (rw e at f, grind (arith, nat_tests))
    by_test false e f = (let none : found_at n (pending_views ps) ≡ None = rw e at f in let both : true ≡ false = sym there ∙ ap is_some none in absurd cc)

come_is : (k : AssemblyView) (b : Bool) → k.spent ≡ false → has_come k ≡ b → is_whole k.sizes k.there ≡ b
come_is k b fresh come = rw fresh at come

pub index-requires : goal.index-requires
index-requires g c = within c.args.number c.args.at (vec_len c.args.pending.now) c.args.pending.now.items c.requires.place c.requires.there (search rules)

pub remove-requires : goal.remove-requires
remove-requires g c = within c.args.number c.args.at (vec_len c.args.pending.now) c.args.pending.now.items c.requires.place c.requires.there (search rules)

pub returns-then-not-is_whole-clause-whole : goal.returns-then-not-is_whole-clause-whole
returns-then-not-is_whole-clause-whole g c = λ sound.
    let ps = c.args.pending.now.items in
    let p = c.index.result.now in
    let h = here c.args.number c.args.at ps p c.requires.place c.requires.there in
    let l : c.args.at < length ps = within c.args.number c.args.at (length ps) ps c.requires.place c.requires.there refl in
    let fresh : p.sample.spent ≡ false = ap (λ (q : Pending g.row.A.Denot). q.sample.spent) c.index.ensures ∙ sound_at ps c.args.at p sound l in
    let none : is_whole p.sample.sizes p.sample.there ≡ false = come_is p.sample false fresh (sym c.is_whole.ensures ∙ c.if-not-is_whole.true) in
    sym (ap whole_found (h.0 ∙ ap (λ (q : Pending g.row.A.Denot). Some (pending_view q)) (sym c.index.ensures)) ∙ ap (λ b. cond b (Some (sample_in (pending_view p))) None) none)

pub returns-clause-whole : goal.returns-clause-whole
returns-clause-whole g c = λ sound.
    let ps = c.args.pending.now.items in
    let p = c.index.result.now in
    let q = c.remove.result in
    let h = here c.args.number c.args.at ps q c.requires.place c.requires.there in
    let l : c.args.at < length ps = within c.args.number c.args.at (length ps) ps c.requires.place c.requires.there refl in
    let fresh : p.sample.spent ≡ false = ap (λ (r : Pending g.row.A.Denot). r.sample.spent) c.index.ensures ∙ sound_at ps c.args.at p sound l in
    let all : is_whole p.sample.sizes p.sample.there ≡ true = come_is p.sample true fresh (sym c.is_whole.ensures ∙ c.if-not-is_whole.false) in
    let same : q ≡ p = c.remove.ensures.value ∙ get_or_default ps c.args.at q p l ∙ sym c.index.ensures in
    let here_all : is_whole q.sample.sizes q.sample.there ≡ true = ap (λ (r : Pending g.row.A.Denot). is_whole r.sample.sizes r.sample.there) same ∙ all in
    ap (λ (s : ChangeView). Some s) c.into_change.ensures
    ∙ sym (ap whole_found (h.0 ∙ ap (λ (r : Pending g.row.A.Denot). Some (pending_view r)) (sym c.remove.ensures.value)) ∙ ap (λ b. cond b (Some (sample_in (pending_view q))) None) here_all)

pub returns-clause-left : goal.returns-clause-left
returns-clause-left g c = λ p out.
    let ps = c.args.pending.now.items in
    let h = here c.args.number c.args.at ps c.remove.result c.requires.place c.requires.there in
    let l : c.args.at < length ps = within c.args.number c.args.at (length ps) ps c.requires.place c.requires.there refl in
    ap (λ (qs : List (Pending g.row.A.Denot)). filter (λ b. p b.number) (pending_views qs)) c.remove.ensures.items
    ∙ left_filtered p ps c.args.at c.remove.result l (ap p h.1 ∙ out)

pub returns-clause-sound : goal.returns-clause-sound
returns-clause-sound g c = λ sound. ap are_sound c.remove.ensures.items ∙ sound_removed c.args.pending.now.items c.args.at sound

pub returns-clause-number : goal.returns-clause-number
returns-clause-number g c =
    let ps = c.args.pending.now.items in
    let h = here c.args.number c.args.at ps c.remove.result c.requires.place c.requires.there in
    ap (λ (s : ChangeView). s.number) c.into_change.ensures ∙ ap (λ (q : Pending g.row.A.Denot). value_of q.number) c.remove.ensures.value ∙ h.1
