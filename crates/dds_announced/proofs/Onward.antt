-- Hearings, some after others.
use Rattle.std.proofs.Common.{◌≡◌, List, [], ◌∷◌, ◌++◌, refl, sym, ap, ◌∙◌, append_assoc}
use Rattle.rtps_types.specs.declared.identity.GuidPrefix.{GuidPrefix}
use Rattle.rtps_announcer.specs.declared.hearing.Hearing.{Hearing}
use Rattle.rtps_announcer.specs.declared.rules.Rules.{Rules}
use Rattle.rtps_announcer.specs.declared.said.Sending.{Sending}
use Rattle.rtps_announcer.specs.Announcing.{State, sends_run, state_run, step}
use Rattle.rtps_announcer.specs.Standing.{AnnouncerView, HeardAll, IsSame}
use Rattle.rtps_announcer.proofs.Running.{state_more}

-- what some hearings send, and then others
pub sends_more : (r : Rules) (s : State) (xs ys : List Hearing) → sends_run r s (xs ++ ys) ≡ sends_run r s xs ++ sends_run r (state_run r s xs) ys
sends_more r s [] ys = refl
sends_more r s (x ∷ xs) ys =
    let t = (step r x s).state in
    ap (λ l. (step r x s).sends ++ l) (sends_more r t xs ys)
    ∙ sym (append_assoc (step r x s).sends (sends_run r t xs) (sends_run r (state_run r t xs) ys))

-- once some hearings are heard, what was sent with what the rest sends is all
pub heard_on : (old new : AnnouncerView) (xs : List Hearing) (before after all : List Sending) (rest : GuidPrefix → List Hearing)
    → HeardAll xs old new before after → IsSame old new
    → before ++ sends_run old.rules old.state (xs ++ rest old.own) ≡ all
    → after ++ sends_run new.rules new.state (rest new.own) ≡ all
heard_on old new xs before after all rest heard same is =
    ap (λ (o : GuidPrefix). after ++ sends_run new.rules new.state (rest o)) same.own
    ∙ ap (λ (r : Rules). after ++ sends_run r new.state (rest old.own)) same.rules
    ∙ ap (λ (s : State). after ++ sends_run old.rules s (rest old.own)) heard.state
    ∙ ap (λ (l : List Sending). l ++ sends_run old.rules (state_run old.rules old.state xs) (rest old.own)) heard.sends
    ∙ append_assoc before (sends_run old.rules old.state xs) (sends_run old.rules (state_run old.rules old.state xs) (rest old.own))
    ∙ ap (λ (l : List Sending). before ++ l) (sym (sends_more old.rules old.state xs (rest old.own)))
    ∙ is

-- and the rest ends as all does
pub ended_on : (old new : AnnouncerView) (xs : List Hearing) (before after : List Sending) (end : State) (rest : GuidPrefix → List Hearing)
    → HeardAll xs old new before after → IsSame old new
    → state_run old.rules old.state (xs ++ rest old.own) ≡ end
    → state_run new.rules new.state (rest new.own) ≡ end
ended_on old new xs before after end rest heard same is =
    ap (λ (o : GuidPrefix). state_run new.rules new.state (rest o)) same.own
    ∙ ap (λ (r : Rules). state_run r new.state (rest old.own)) same.rules
    ∙ ap (λ (s : State). state_run old.rules s (rest old.own)) heard.state
    ∙ sym (state_more old.rules old.state xs (rest old.own))
    ∙ is
