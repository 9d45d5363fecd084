-- Hearings, one after the other.
use Rattle.std.proofs.Common.{◌≡◌, List, [], ◌∷◌, ◌++◌, false, refl, sym, ap, ◌∙◌}
use Rattle.rtps_announcer.specs.declared.hearing.Hearing.{Hearing}
use Rattle.rtps_announcer.specs.declared.rules.Rules.{Rules}
use Rattle.rtps_announcer.specs.Announcing.{State, first, state_run, step}
use Rattle.rtps_announcer.specs.Standing.{AnnouncerView, StandsAt}

pub state_more : (r : Rules) (s : State) (xs ys : List Hearing) → state_run r s (xs ++ ys) ≡ state_run r (state_run r s xs) ys
state_more r s [] ys = refl
state_more r s (x ∷ xs) ys = state_more r (step r x s).state xs ys

-- an announcer that is where some hearings bring it is where one more brings it after its step
pub stood : (a : AnnouncerView) (h : Hearing) (hs : List Hearing) (s : State) → StandsAt hs a → s ≡ (step a.rules h a.state).state
    → StandsAt (hs ++ h ∷ []) (record a { failed = false; state = s })
stood a h hs s at is = record {
  state = is ∙ ap (λ (t : State). (step a.rules h t).state) at.state ∙ sym (state_more a.rules first hs (h ∷ []));
  failed = refl;
}

-- the same at several more
pub stood_all : (a : AnnouncerView) (more hs : List Hearing) (s : State) → StandsAt hs a → s ≡ state_run a.rules a.state more
    → StandsAt (hs ++ more) (record a { failed = false; state = s })
stood_all a more hs s at is = record {
  state = is ∙ ap (λ (t : State). state_run a.rules t more) at.state ∙ sym (state_more a.rules first hs more);
  failed = refl;
}
