use Rattle.std.proofs.Common.{◌≡◌, ◌∙◌, ◌++◌, ◌∷◌, [], None, Some, ap, sym}
use Rattle.std.specs.List.{last_or}
use Rattle.dds_outlet.specs.History.{door_of, keys_of, rows_of}
use Rattle.dds_outlet.proofs.Adding.{append_moves, last_key, rows_more}
use Rattle.dds_outlet.proofs.history.Front.added.Goals as goal

pub compare_exchange-one-requires : goal.compare_exchange-one-requires
compare_exchange-one-requires c =
    let head = c.requires in
    let seen = c.again-seen.ensures in
    let offer = c.plain-offer.ensures in (
      ap (λ w. w.tracked) head.door,
      ap (λ s. s.book) seen ∙ sym (ap (λ w. w.book) head.door),
      head.book_of_pen ∙ sym (ap (λ w. w.book) head.door),
      offer.0,
      rw (ap (λ w. w.key) head.door, offer.1, offer.3, seen)
          (append_moves c.args.self.now.seen.log _ c.args.head.pen.nib head.right head.last),
    )

pub returns : goal.returns
returns c =
    let head = c.requires in
    let next = c.spare_word-found.ensures.pen in
    let step = c.compare_exchange-one.ensures in
    let seen = c.again-seen.ensures in
    let log = c.args.self.now.seen.log in
    let ask = c.plain-offer.result.ask in
    let is = c.plain-offer.ensures.1 in
    let book = step.0 ∙ ap (λ s. s.book) seen in
    let added : c.compare_exchange-one.new.seen.log ≡ log ++ ask ∷ [] =
    step.7 ∙ ap (λ s. s.log ++ ask ∷ []) seen
    in
    record {
      front = (
        record {
          door = head.door ∙ ap door_of (sym book);
          book_of_pen = next.0 ∙ sym book;
          right = next.1;
          last = ap (λ l. last_or None (keys_of l)) added
              ∙ last_key log ask None
              ∙ ap (λ e. Some e.next) is;
        },
        book,
        ap rows_of added ∙ rows_more log ask ∙ ap (λ e. rows_of log ++ e.row ∷ []) is,
      );
    }
