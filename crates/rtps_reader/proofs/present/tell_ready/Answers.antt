use Rattle.std.proofs.Common.{◌≡◌, ◌+◌, ◌∷◌, ◌∙◌, ap, drop, sym}
use Rattle.std.proofs.lemmas.List.{drop_more}
use Rattle.rtps_types.proofs.Nearest.{nearest_again}
use Rattle.rtps_proxy.specs.Change.{change_view, octets_of}
use Rattle.rtps_reader.specs.Body.{body_by}
use Rattle.rtps_reader.specs.Notice.{notice_view}
use Rattle.rtps_reader.specs.Reader.{presented}
use Rattle.rtps_reader.specs.declared.notice.NoticeKind.TheVariants as kind
use Rattle.rtps_reader.proofs.Telling.{kept_more, sample_told, told_more}
use Rattle.rtps_reader.proofs.present.tell_ready.Goals as goal

pub loop-change-preserved : goal.loop-change-preserved
loop-change-preserved g c =
    let decoding = g.C.Catalog.decoding c.args.decoder.now in
    let i = c.loop-change.change-index in
    let change = c.change-item.result in
    let left = drop (i + 1) c.args.ready.now in
    let cut : drop i c.args.ready.now ≡ change ∷ left = drop_more c.args.ready.now i change c.loop-change-test.true ∙ ap (λ s. s ∷ left) (sym c.change-item.is) in
    record {
      told = told_more (notice_view g.C.Catalog.view) (presented decoding c.args.place c.args.writer) change_view c.loop-change.notices.items c.push.new.self.items (drop i c.args.ready.now) left
          (record { place = c.args.place; writer = c.args.writer; what = kind.Sample change.number change.time c.in_ok-body.body }) change
          c.in_ok-push.ensures.items cut
          (ap (sample_told c.args.place c.args.writer change.number change.time) (c.in_ok-body.ensures.body ∙ ap (λ d. body_by (g.C.Catalog.decoding d) change.info c.as_slice.result.now) c.loop-change.invariant.same ∙ ap (λ o. body_by decoding change.info o) c.as_slice.ensures)
          ∙ ap (λ n. sample_told c.args.place c.args.writer n change.time (body_by decoding change.info (octets_of change.payload))) (sym (nearest_again change.number)))
          ∙ c.loop-change.invariant.told;
      kept = kept_more c.args.notices.now.items c.loop-change.notices.items c.push.new.self.items _ c.loop-change.invariant.kept c.in_ok-push.ensures.items;
      same = c.in_ok-body.ensures.same ∙ c.loop-change.invariant.same;
    }
