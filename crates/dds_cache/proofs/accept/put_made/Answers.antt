use Rattle.std.proofs.Common.{◌++◌, ◌∷◌, [], sym, ap, ◌∙◌}
use Rattle.std.specs.Prelude.{option_to_list}
use Rattle.dds_cache.specs.declared.entry.Entry.{Entry}
use Rattle.dds_cache.specs.Cache.{entry_by}
use Rattle.dds_cache.proofs.Doing.{made_is, not_made}
use Rattle.dds_cache.proofs.accept.put_made.Goals as goal

pub returns-in-Some-clause-put : goal.returns-in-Some-clause-put
returns-in-Some-clause-put g c = λ e is.
    c.put.ensures.put ∙ ap (λ (x : Entry g.row.V.Denot). c.args.entries.now.entries ++ (c.args.entries.now.next, x) ∷ []) (made_is e c.in-Some.entry (entry_by c.args.notice.place c.args.notice.writer c.args.notice.what) (sym (ap option_to_list c.in-Some.is) ∙ c.entry_of.ensures) is)

pub returns-in_default-clause-put : goal.returns-in_default-clause-put
returns-in_default-clause-put g c = λ e is. absurd (not_made e (entry_by c.args.notice.place c.args.notice.writer c.args.notice.what) (sym (ap option_to_list c.in_default.is) ∙ c.entry_of.ensures) is)

pub returns-in_default-clause-next : goal.returns-in_default-clause-next
returns-in_default-clause-next g c = λ e is. absurd (not_made e (entry_by c.args.notice.place c.args.notice.writer c.args.notice.what) (sym (ap option_to_list c.in_default.is) ∙ c.entry_of.ensures) is)
