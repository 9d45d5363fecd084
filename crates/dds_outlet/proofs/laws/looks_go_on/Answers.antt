use Rattle.std.proofs.Common.{◌≡◌, ◌++◌, ◌∙◌, List, [], None, Option, Some, ap, append-nil, append_assoc, inl, inr, sym, ℕ}
use Rattle.std.specs.List.{last_or}
use mathlib.Core.List.{IsPrefix}
use Rattle.dds_outlet.specs.declared.row.Look.{Look}
use Rattle.dds_outlet.specs.declared.row.RowView.{RowView}
use Rattle.dds_outlet.specs.Ends.{Looks, NotBefore}
use Rattle.dds_outlet.specs.Rows.{look_at}
use Rattle.dds_outlet.proofs.laws.looks_go_on.Goals as goal

trans : (xs ys zs : List RowView) → IsPrefix xs ys → IsPrefix ys zs → IsPrefix xs zs
trans xs ys zs p q = (p.0 ++ q.0, sym (append_assoc xs p.0 q.0) ∙ ap (λ l. l ++ q.0) p.1 ∙ q.1)

later : (before after : List RowView) (rank : ℕ) (look : Option Look) → Looks before after rank look → IsPrefix before after
later before after rank look (inl same) = ([], append-nil before ∙ sym same.1)
later before after rank look (inr shows) = shows.later

shown_at : (before after : List RowView) (rank : ℕ) (shown : Look) → Looks before after rank (Some shown)
    → (row : RowView) × (last_or None after ≡ Some row) × (look_at row rank ≡ Some shown)
shown_at before after rank shown (inl same) = absurd (let bad : Some shown ≡ None = same.0 in cc)
shown_at before after rank shown (inr shows) = (shows.row, shows.last, sym shows.shows)

pub returns-clause-later : goal.returns-clause-later
returns-clause-later g = later

pub returns-clause-shows : goal.returns-clause-shows
returns-clause-shows g = shown_at

pub returns-clause-twice : goal.returns-clause-twice
returns-clause-twice g = λ known learnt start between after rank first second from_known from_learnt one other.
    let on = trans start between after (later start between rank first one) (later between after rank second other) in (
      record {
        start = start;
        between = between;
        from_known = from_known;
        from_learnt = from_learnt;
        first_look = one;
        second_look = other;
      },
      trans known start after from_known on,
      trans learnt start after from_learnt on,
    )
