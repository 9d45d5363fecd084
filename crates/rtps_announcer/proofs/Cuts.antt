-- Batches, one after the other.
use Rattle.std.proofs.Common.{◌≡◌, List, [], ◌∷◌, ◌++◌, refl, sym, ap, ◌∙◌, append_assoc}
use Rattle.std.specs.List.{flat_map}
use Rattle.rtps_announcer.specs.declared.hearing.Hearing.{Hearing}
use Rattle.rtps_announcer.specs.declared.rules.Rules.{Rules}
use Rattle.rtps_announcer.specs.Announcing.{State, sends_run, state_run, step}
use Rattle.rtps_announcer.specs.Cuts.{EveryCut, batches_send, batches_state}
use Rattle.rtps_announcer.proofs.Running.{state_more}

sends_more : (r : Rules) (s : State) (xs ys : List Hearing) → sends_run r s (xs ++ ys) ≡ sends_run r s xs ++ sends_run r (state_run r s xs) ys
sends_more r s [] ys = refl
sends_more r s (x ∷ xs) ys =
    let t = (step r x s).state in
    ap (λ l. (step r x s).sends ++ l) (sends_more r t xs ys)
    ∙ sym (append_assoc (step r x s).sends (sends_run r t xs) (sends_run r (state_run r t xs) ys))

cut_sends : (r : Rules) (s : State) (bs : List (List Hearing)) → batches_send r s bs ≡ sends_run r s (flat_map (λ b. b) bs)
cut_sends r s [] = refl
cut_sends r s (b ∷ bs) =
    ap (λ l. sends_run r s b ++ l) (cut_sends r (state_run r s b) bs) ∙ sym (sends_more r s b (flat_map (λ b. b) bs))

cut_state : (r : Rules) (s : State) (bs : List (List Hearing)) → batches_state r s bs ≡ state_run r s (flat_map (λ b. b) bs)
cut_state r s [] = refl
cut_state r s (b ∷ bs) = cut_state r (state_run r s b) bs ∙ sym (state_more r s b (flat_map (λ b. b) bs))

pub every_cut : EveryCut
every_cut = record { sends = cut_sends; state = cut_state }
