-- What was put out, dealt out one by one.
use Rattle.std.proofs.Common.{◌≡◌, ℕ, ◌<◌, ◌==◌, List, [], ◌∷◌, ◌++◌, length, map, get_or, Bool, true, false, if◌then◌else◌, refl, sym, ap, ◌∙◌, append-nil}
use Rattle.std.proofs.lemmas.List.{map_push}
use Rattle.std.specs.declared.vec.Vec.{Vec}
use Rattle.rtps_reader.specs.declared.notice.Notice.{Notice}
use Rattle.rtps_reader.specs.Notice.{notice_view}
use Rattle.rtps_run.specs.declared.outcome.Answer.{Answer}
use Rattle.rtps_run.specs.declared.outcome.Outcome.{Outcome}
use Rattle.rtps_run.specs.Outcome.{Adds, Deals, answer_view, notices_in}
use Rattle.rtps_run.specs.Seen.{answers_in, notices_by, reader_count}
use Rattle.rtps_run.specs.World.{ReportView, NoticeOf, AnswerOf, World}

one_more : {X : Type 0} (b : Bool) (x : X) (xs ys : List X) → (if b then x ∷ (xs ++ ys) else xs ++ ys) ≡ (if b then x ∷ xs else xs) ++ ys
one_more true x xs ys = refl
one_more false x xs ys = refl

pub notices_by-append : {M : Type 0} (rank : ℕ) (xs ys : List (ReportView M)) → notices_by rank (xs ++ ys) ≡ notices_by rank xs ++ notices_by rank ys
notices_by-append rank [] ys = refl
notices_by-append rank (NoticeOf by n ∷ xs) ys = rw (notices_by-append rank xs ys) (one_more (by == rank) n (notices_by rank xs) (notices_by rank ys))
notices_by-append rank (AnswerOf a ∷ xs) ys = notices_by-append rank xs ys

pub answers_in-append : {M : Type 0} (xs ys : List (ReportView M)) → answers_in (xs ++ ys) ≡ answers_in xs ++ answers_in ys
answers_in-append [] ys = refl
answers_in-append (NoticeOf by n ∷ xs) ys = answers_in-append xs ys
answers_in-append (AnswerOf a ∷ xs) ys = ap (λ l. a ∷ l) (answers_in-append xs ys)

seen_more : {V M A : Type 0} (f : V → M) (b : Bool) (old new : Vec (Notice V) A) (n : Notice V) (seen : List (Notice M)) → notices_in f old ≡ seen
    → new.items ≡ (if b then old.items ++ n ∷ [] else old.items) → notices_in f new ≡ seen ++ (if b then notice_view f n ∷ [] else [])
seen_more f true old new n seen e h = rw h (map_push (notice_view f) old.items n ∙ ap (λ l. l ++ notice_view f n ∷ []) e)
seen_more f false old new n seen e h = rw h (e ∙ sym (append-nil seen))

-- a notice more
pub deal_notice : {V M A : Type 0} (f : V → M) (count : ℕ) (put : List (ReportView M)) (old new : Outcome V A) (rank : ℕ) (n : Notice V)
    → Deals f count put old → length new.notices.items ≡ length old.notices.items → new.answers.items ≡ old.answers.items
    → ((at : ℕ) (other : Vec (Notice V) A) → at < length old.notices.items → (get_or new.notices.items at other).items ≡ (if rank == at then (get_or old.notices.items at other).items ++ n ∷ [] else (get_or old.notices.items at other).items))
    → Deals f count (put ++ NoticeOf rank (notice_view f n) ∷ []) new
deal_notice f count put old new rank n dealt same kept pushed = record {
  readers = same ∙ dealt.readers;
  notices = λ at other below. seen_more f (rank == at) (get_or old.notices.items at other) (get_or new.notices.items at other) n (notices_by at put) (dealt.notices at other below) (pushed at other (rw dealt.readers below))
      ∙ sym (notices_by-append at put (NoticeOf rank (notice_view f n) ∷ []));
  answers = ap (map answer_view) kept ∙ dealt.answers ∙ sym (append-nil (answers_in put)) ∙ sym (answers_in-append put (NoticeOf rank (notice_view f n) ∷ []));
}

-- an answer more
pub deal_answer : {V M A : Type 0} (f : V → M) (count : ℕ) (put : List (ReportView M)) (old new : Outcome V A) (a : Answer A)
    → Deals f count put old → new.notices ≡ old.notices → new.answers.items ≡ old.answers.items ++ a ∷ []
    → Deals f count (put ++ AnswerOf (answer_view a) ∷ []) new
deal_answer f count put old new a dealt same pushed = record {
  readers = ap (λ ns. length ns.items) same ∙ dealt.readers;
  notices = λ at other below. ap (λ ns. notices_in f (get_or ns.items at other)) same ∙ dealt.notices at other below ∙ sym (append-nil (notices_by at put)) ∙ sym (notices_by-append at put (AnswerOf (answer_view a) ∷ []));
  answers = ap (map answer_view) pushed ∙ map_push answer_view old.answers.items a ∙ ap (λ l. l ++ answer_view a ∷ []) dealt.answers ∙ sym (answers_in-append put (AnswerOf (answer_view a) ∷ []));
}

-- what a world has put out more than another is what was dealt out
pub adds_dealt : {V M A : Type 0} (f : V → M) (before after : World M) (count : ℕ) (put : List (ReportView M)) (outcome : Outcome V A)
    → reader_count after ≡ count → after.put ≡ before.put ++ put → Deals f count put outcome → Adds f before after outcome
adds_dealt f before after count put outcome e more dealt = record {
  readers = dealt.readers ∙ sym e;
  notices = λ rank other below. ap (notices_by rank) more ∙ notices_by-append rank before.put put ∙ ap (λ l. notices_by rank before.put ++ l) (sym (dealt.notices rank other (rw (sym e) below)));
  answers = ap answers_in more ∙ answers_in-append before.put put ∙ ap (λ l. answers_in before.put ++ l) (sym dealt.answers);
}
