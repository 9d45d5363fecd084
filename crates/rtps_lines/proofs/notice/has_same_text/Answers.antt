use Rattle.std.proofs.Common.{◌≡◌, ◌++◌, List, ℕ, true, ap, sym, ◌∙◌}
use Rattle.std.specs.Prelude.{codes}
use Rattle.rtps_types.specs.declared.identity.Guid.{Guid}
use Rattle.rtps_proxy.specs.Matches.{same_guid}
use Rattle.rtps_proxy.proofs.Matching.{same_is}
use Rattle.rtps_reader.specs.Notice.{notice_view}
use Rattle.rtps_reader.specs.declared.notice.Notice.{Notice}
use Rattle.rtps_lines.specs.Notice.{notice_text, told_text}
use Rattle.rtps_lines.proofs.notice.has_same_text.Goals as goal

-- notices of one writer, whose kinds have the same text
alike : {M : Type 0} (text : M → List ℕ) (one other : Notice M)
    → ((w : Guid) → notice_text text w one.what ≡ notice_text text w other.what)
    → same_guid one.writer other.writer ≡ true → told_text text one ≡ told_text text other
alike text one other kinds same =
    ap (λ l. l ++ codes "\n")
    (kinds one.writer ∙ ap (λ w. notice_text text w other.what) (same_is one.writer other.writer same))

pub returns-then-has_same_kind : goal.returns-then-has_same_kind
returns-then-has_same_kind g c = λ same.
    let view = notice_view g.C.Catalog.view in
    alike (g.C.Catalog.text_of c.args.catalog.now) (view c.args.one.now) (view c.args.other.now)
    (c.has_same_kind.ensures c.if-has_same_kind.true) (sym c.eq.ensures ∙ same)
