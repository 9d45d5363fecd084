-- A job, some steps after others.
use Rattle.std.proofs.Common.{◌≡◌, List, [], ◌∷◌, ◌++◌, map, refl, sym, ap, ◌∙◌, subst, append_assoc, append-nil}
use Rattle.rtps_types.specs.declared.place.Place.{Place}
use Rattle.dds_topic.specs.Decoding.{Decoding}
use Rattle.std.specs.declared.alloc.Global.{Global}
use Rattle.rtps_reader.specs.declared.notice.Notice.{Notice}
use Rattle.rtps_reader.specs.declared.notice.Output.{Output}
use Rattle.rtps_reader.specs.Notice.{answer_view, notice_view}
use Rattle.rtps_reader.specs.Reader.{Reader, reader_after, sends, tells}
use Rattle.rtps_reader.specs.Standing.{ReaderView, StandsAt}
use Rattle.rtps_reader.specs.Step.{StepView}
use Rattle.rtps_planner.specs.Job.{Job, job_run, job_sent, job_told}
use Rattle.rtps_shards.specs.Results.{HasTaken, IsOutput, Share, given_done, reader_done, share}

run_more : (r : Reader) (xs ys : Job) → job_run r (xs ++ ys) ≡ job_run (job_run r xs) ys
run_more r [] ys = refl
run_more r (x ∷ xs) ys = run_more (reader_after r x.1) xs ys

told_more : {M : Type 0} (decoding : Decoding M) (r : Reader) (xs ys : Job) → job_told decoding r (xs ++ ys) ≡ job_told decoding r xs ++ job_told decoding (job_run r xs) ys
told_more decoding r [] ys = refl
told_more decoding r (x ∷ xs) ys =
    let after = reader_after r x.1 in
    ap (λ l. tells decoding r x.0 x.1 ++ l) (told_more decoding after xs ys)
    ∙ sym (append_assoc (tells decoding r x.0 x.1) (job_told decoding after xs) (job_told decoding (job_run after xs) ys))

sent_more : (r : Reader) (xs ys : Job) → job_sent r (xs ++ ys) ≡ job_sent r xs ++ job_sent (job_run r xs) ys
sent_more r [] ys = refl
sent_more r (x ∷ xs) ys =
    let after = reader_after r x.1 in
    ap (λ l. sends r x.0 x.1 ++ l) (sent_more after xs ys)
    ∙ sym (append_assoc (sends r x.0 x.1) (job_sent after xs) (job_sent (job_run after xs) ys))

module _ {V M : Type 0} (f : V → M) (decoding : Decoding M) (r : Reader) (given : List (Notice M)) where
  -- no step changes nothing
  pub taken_none : (state : ReaderView) (x : Output V Global) → StandsAt r given state → HasTaken f decoding (share r given []) state x x
  taken_none state x stands = record {
    stands = subst (λ l. StandsAt r l state) (sym (append-nil given)) stands;
    told = sym (append-nil (map (notice_view f) x.notices.items));
    sent = sym (append-nil (map answer_view x.answers.items));
  }

  -- one step
  pub one_taken : (place : Place) (what : StepView) (state : ReaderView) (old new : Output V Global) → StandsAt (reader_after r what) (given ++ tells decoding r place what) state
      → map (notice_view f) new.notices.items ≡ map (notice_view f) old.notices.items ++ tells decoding r place what
      → map answer_view new.answers.items ≡ map answer_view old.answers.items ++ sends r place what
      → HasTaken f decoding (share r given ((place, what) ∷ [])) state old new
  one_taken place what state old new stands told sent = record {
    stands = subst (λ l. StandsAt (reader_after r what) (given ++ l) state) (sym (append-nil (tells decoding r place what))) stands;
    told = told ∙ ap (λ l. map (notice_view f) old.notices.items ++ l) (sym (append-nil (tells decoding r place what)));
    sent = sent ∙ ap (λ l. map answer_view old.answers.items ++ l) (sym (append-nil (sends r place what)));
  }

  -- some steps, and then more
  pub taken_more : (xs ys : Job) (middle state : ReaderView) (old mid new : Output V Global) → HasTaken f decoding (share r given xs) middle old mid
      → HasTaken f decoding (share (job_run r xs) (given ++ job_told decoding r xs) ys) state mid new → HasTaken f decoding (share r given (xs ++ ys)) state old new
  taken_more xs ys middle state old mid new one two =
      let told = job_told decoding r xs in
      let rest = job_told decoding (job_run r xs) ys in
      let was = map (notice_view f) old.notices.items in
      let sent = map answer_view old.answers.items in
      record {
        stands = subst (λ (q : Reader). StandsAt q (given ++ job_told decoding r (xs ++ ys)) state) (sym (run_more r xs ys))
            (subst (λ l. StandsAt (job_run (job_run r xs) ys) l state) (append_assoc given told rest ∙ ap (λ l. given ++ l) (sym (told_more decoding r xs ys))) two.stands);
        told = two.told ∙ ap (λ l. l ++ rest) one.told ∙ append_assoc was told rest ∙ ap (λ l. was ++ l) (sym (told_more decoding r xs ys));
        sent = two.sent ∙ ap (λ l. l ++ job_sent (job_run r xs) ys) one.sent ∙ append_assoc sent (job_sent r xs) (job_sent (job_run r xs) ys) ∙ ap (λ l. sent ++ l) (sym (sent_more r xs ys));
      }

-- a job whose steps were all taken, into lists that were empty
pub all_taken : {V M : Type 0} (f : V → M) (decoding : Decoding M) (s : Share M) (steps : Job) (state : ReaderView) (first done : Output V Global) → steps ≡ s.job
    → first.notices.items ≡ [] → first.answers.items ≡ [] → HasTaken f decoding (share s.reader s.given steps) state first done
    → StandsAt (reader_done s) (given_done decoding s) state × IsOutput f decoding s done
all_taken {V} {M} f decoding s steps state first done is notices answers taken =
    let here : HasTaken f decoding s state first done = subst (λ job. HasTaken f decoding (share s.reader s.given job) state first done) is taken in (
      here.stands,
      record {
        told = here.told ∙ ap (λ l. map (notice_view f) l ++ job_told decoding s.reader s.job) notices;
        sent = here.sent ∙ ap (λ l. map answer_view l ++ job_sent s.reader s.job) answers;
      },
    )
