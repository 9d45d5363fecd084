use Rattle.std.proofs.Common.{◌≡◌, ◌∷◌, ◌++◌, ◌∙◌, [], ap, append-nil, append_assoc, map, subst, sym}
use Rattle.std.proofs.lemmas.Grind.{flat_map-append}
use Rattle.std.proofs.lemmas.List.{map-append}
use Rattle.rtps_records.specs.Traffic.{Grows}
use Rattle.rtps_records.proofs.Received.{Grows-trans}
use Rattle.rtps_run.specs.Order.{report_of}
use Rattle.rtps_text.specs.Sending.{goes_out, sendings, sends_of}
use Rattle.rtps_text.proofs.Sent.{sendings_both}
use Rattle.rtps_text.proofs.sending.send_answers.Goals as goal

pub loop-item-preserved : goal.loop-item-preserved
loop-item-preserved g c =
    let done = c.loop-item.yielded in
    let item = c.in-Some.item in
    let more = map-append report_of done (item ∷ []) in
    let here = goes_out (report_of item) in
    let first = g.N.Receive.traffic c.args.network.now in
    let now = g.N.Receive.traffic c.loop-item.network in
    let after = g.N.Receive.traffic c.send_item.new.network in
    let sent : sends_of (map report_of done) ++ here
    ≡ sends_of (map report_of done ++ report_of item ∷ []) =
    ap (λ l. sends_of (map report_of done) ++ l) (sym (append-nil here))
    ∙ sym (flat_map-append goes_out (map report_of done) (report_of item ∷ [])) in
    let grown : Grows first after (sendings (sends_of (map report_of done) ++ here)) =
    subst (Grows first after) (sendings_both (sends_of (map report_of done)) here)
    (Grows-trans first now after (sendings (sends_of (map report_of done))) (sendings here)
    c.loop-item.invariant.grows c.send_item.ensures.sent) in
    record {
      grows = subst (λ l. Grows first after (sendings l)) (sent ∙ ap sends_of (sym more)) grown;
      speech = c.send_item.ensures.speech ∙ c.loop-item.invariant.speech;
      all = c.loop-item.invariant.all ∙ ap (λ l. map report_of done ++ l) c.in-Some.ensures.steps
          ∙ sym (append_assoc (map report_of done) (report_of item ∷ []) c.next.new.self)
          ∙ ap (λ l. l ++ c.next.new.self) (sym more);
    }
