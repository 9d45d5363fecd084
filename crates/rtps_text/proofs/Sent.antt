-- What is sent for a batch is what the run sends for it.
use Rattle.std.proofs.Common.{◌≡◌, ℕ, zero, suc, List, [], ◌∷◌, ◌++◌, None, Some, refl, sym, ap, ◌∙◌, map, length}
use Rattle.std.specs.List.{flat_map}
use Rattle.std.proofs.lemmas.Grind.{flat_map-append}
use Rattle.rtps_types.specs.declared.locator.Locator.{Locator}
use Rattle.rtps_types.specs.declared.place.Place.{Place}
use Rattle.rtps_records.specs.Traffic.{Sent}
use Rattle.rtps_proxy.specs.Replies.{ReplyView}
use Rattle.rtps_reader.specs.declared.notice.Notice.{Notice}
use Rattle.rtps_run.specs.World.{ReportView, NoticeOf, World, sent_by}
use Rattle.rtps_run.specs.Merged.{PartsByRank, answers_at, merged, merged_below, notices_at}
use Rattle.rtps_run.specs.BatchOutput.{AreAnswersInOrder, IsGiven, answers_given, given_puts, parts_given}
use Rattle.rtps_run.specs.declared.batch_output.BatchOutput.{BatchOutput}
use Rattle.rtps_text.specs.Sending.{given_sends, goes_out, sendings, sends_of, to_each}

-- what is sent for these answers, in order
abbrev replies_sends : List (Place × ReplyView) → List (Locator × List ℕ)
replies_sends replies = flat_map (λ s. to_each s.1.to s.1.octets) replies

-- what the readers with a rank below a count send at a place, by rank
abbrev ranks_send : (ℕ → List (Place × ReplyView)) → Place → ℕ → List (Locator × List ℕ)
ranks_send sent place zero = []
ranks_send sent place (suc rank) =
    ranks_send sent place rank ++ replies_sends (answers_at place (sent rank))

answers_send : {M : Type 0} (put : Place × ReplyView → ReportView M)
    → ((s : Place × ReplyView) → goes_out (put s) ≡ to_each s.1.to s.1.octets)
    → (ss : List (Place × ReplyView)) → sends_of (map put ss) ≡ replies_sends ss
answers_send put same [] = refl
answers_send put same (s ∷ ss) =
    ap (λ l. l ++ sends_of (map put ss)) (same s)
    ∙ ap (λ l. to_each s.1.to s.1.octets ++ l) (answers_send put same ss)

notices_send : {M : Type 0} (rank : ℕ) (ns : List (Notice M)) → sends_of (map (NoticeOf rank) ns)
    ≡ []
notices_send rank [] = refl
notices_send rank (n ∷ ns) = notices_send rank ns

below_send : {M : Type 0} (parts : PartsByRank M) (place : Place) (count : ℕ)
    → sends_of (merged_below place parts count) ≡ ranks_send parts.sent place count
below_send parts place zero = refl
below_send {M} parts place (suc rank) =
    let told : List (ReportView M) = map (NoticeOf rank) (notices_at place (parts.told rank)) in
    let sent : List (ReportView M) =
    map (sent_by (Some rank)) (answers_at place (parts.sent rank)) in
    flat_map-append goes_out (merged_below place parts rank) (told ++ sent)
    ∙ ap (λ l. l ++ sends_of (told ++ sent)) (below_send parts place rank)
    ∙ ap (λ l. ranks_send parts.sent place rank ++ l)
    (flat_map-append goes_out told sent
    ∙ ap (λ l. l ++ sends_of sent) (notices_send rank (notices_at place (parts.told rank)))
    ∙ answers_send (sent_by (Some rank)) (λ s. refl) (answers_at place (parts.sent rank)))

-- what is sent at a place, from the parts of a batch
abbrev part_sends : {M : Type 0} → PartsByRank M → ℕ → Place → List (Locator × List ℕ)
part_sends parts count place =
    replies_sends (answers_at place parts.answers) ++ ranks_send parts.sent place count

parts_send : {M : Type 0} (parts : PartsByRank M) (count : ℕ) (places : List Place)
    → sends_of (merged parts count places) ≡ flat_map (part_sends parts count) places
parts_send parts count [] = refl
parts_send {M} parts count (p ∷ ps) =
    let said : List (ReportView M) = map (sent_by None) (answers_at p parts.answers) in
    flat_map-append goes_out (said ++ merged_below p parts count) (merged parts count ps)
    ∙ ap (λ l. l ++ sends_of (merged parts count ps))
    (flat_map-append goes_out said (merged_below p parts count)
    ∙ ap (λ l. l ++ sends_of (merged_below p parts count))
    (answers_send (sent_by None) (λ s. refl) (answers_at p parts.answers))
    ∙ ap (λ l. replies_sends (answers_at p parts.answers) ++ l) (below_send parts p count))
    ∙ ap (λ l. part_sends parts count p ++ l) (parts_send parts count ps)

-- the notices send nothing, so what is sent for a batch is sent for its answers
pub given_send : {V M : Type 0} (f : V → M) (given : BatchOutput V) → sends_of (given_puts f given)
    ≡ given_sends given
given_send f given =
    let count = length given.outputs.items in
    parts_send (parts_given f given) count given.places.items
    ∙ sym (parts_send (answers_given given) count given.places.items)

-- the answers of a batch are sorted by place
pub given_in_order : {V M : Type 0} (f : V → M) (before after : World M) (given : BatchOutput V)
    → IsGiven f before after given → AreAnswersInOrder given
given_in_order f before after given g =
    record { rising = g.in_order.rising; said = g.in_order.said; sent = g.in_order.sent }

pub sendings_both : (xs ys : List (Locator × List ℕ)) → sendings xs ++ sendings ys
    ≡ sendings (xs ++ ys)
sendings_both [] ys = refl
sendings_both (x ∷ xs) ys = ap (λ l. Sent x.0 x.1 ∷ l) (sendings_both xs ys)
