-- What comes of jobs that are taken off a board, by its owner and by thieves.
use Rattle.std.proofs.Common.{◌≡◌, ℕ, zero, suc, ◌+◌, ◌<◌, List, [], ◌∷◌, ◌++◌, length, map, slice_index_or, All, Result, Ok, Err, IfOk, OnErr, refl, sym, ap, subst, ◌∙◌, arith, append-nil, append_assoc}
use Rattle.std.specs.declared.alloc.Global.{Global}
use Rattle.std.specs.declared.vec.Vec.{Vec}
use Rattle.std.specs.List.{AllZip}
use Rattle.std.specs.List.Sorted.{IsPermutation}
use Rattle.std.proofs.lemmas.List.Sorted.{All-permutation, IsPermutation-map, IsPermutation-trans}
use Rattle.rtps_receiver.specs.Events.{EventView}
use Rattle.dds_topic.specs.Decoding.{Decoding}
use Rattle.rtps_shards.specs.Board.{hand}
use Rattle.rtps_shards.specs.Results.{IsDone, IsReady, IsResultOf, Share, rank_in, rank_of}
use Rattle.rtps_shards.specs.Ends.{IsNewThiefOf, IsSameBoard, thief_hand}
use Rattle.rtps_shards.specs.Work.{AreDone, AreResultsOf, HasDone, HasWorked, HaveAllDone, IsBack, TakesSome, Works}
use Rattle.rtps_shards.specs.declared.board.Board.{Board}
use Rattle.rtps_shards.specs.declared.board.Hand.{Hand}
use Rattle.rtps_shards.specs.declared.board.Thief.{Thief}
use Rattle.rtps_shards.specs.declared.jobs.JobResult.{JobResult}
use Rattle.rtps_shards.specs.declared.jobs.Posted.{Posted}
use Rattle.rtps_shards.specs.declared.work.Worked.{Worked}

module _ {V M : Type 0} (f : V → M) (decoding : Decoding M) (es : List EventView) where
  pub none_done : AreDone f decoding es [] []
  unfolding AreDone
  none_done = tt

  zip_join : (jobs more : List (Posted V)) (results others : List (JobResult V)) → AllZip (IsResultOf f decoding es) jobs results → AllZip (IsResultOf f decoding es) more others
      → AllZip (IsResultOf f decoding es) (jobs ++ more) (results ++ others)
  zip_join [] more [] others a b = b
  zip_join [] more (r ∷ results) others a b = absurd a
  zip_join (x ∷ jobs) more [] others a b = absurd a
  zip_join (x ∷ jobs) more (r ∷ results) others a b = (a.0, zip_join jobs more results others a.1 b)

  -- one job more is done
  pub done_more : (jobs : List (Posted V)) (work : Posted V) (results new : List (JobResult V)) (done : JobResult V) → IsResultOf f decoding es work done
      → new ≡ results ++ done ∷ [] → AreDone f decoding es jobs results → AreDone f decoding es (jobs ++ work ∷ []) new
  unfolding AreDone
  done_more jobs work results new done one pushed before =
      subst (AllZip (IsResultOf f decoding es) (jobs ++ work ∷ [])) (sym pushed) (zip_join jobs (work ∷ []) results (done ∷ []) before (one, tt))

  -- some jobs and some others are done
  pub done_join : (jobs more : List (Posted V)) (results others : List (JobResult V)) → AreDone f decoding es jobs results → AreDone f decoding es more others → AreDone f decoding es (jobs ++ more) (results ++ others)
  unfolding AreDone
  done_join jobs more results others a b = zip_join jobs more results others a b

  -- where a job is that of its rank's share, its result is the value of that share
  ready_done : (shares : ℕ → Share M) (x : Posted V) (r : JobResult V) → IsResultOf f decoding es x r → IsReady es shares x → IsDone f decoding shares r
  ready_done shares x r is ready =
      let value = is.value (shares x.job.rank) (record { job = ready.job; state = ready.state.stands }) in
      rw is.rank (record { state = record { stands = value.state; ranked = is.reader ∙ ready.state.ranked }; told = value.output.told; sent = value.output.sent })

  zip_done : (shares : ℕ → Share M) (jobs : List (Posted V)) (results : List (JobResult V)) → AllZip (IsResultOf f decoding es) jobs results
      → All (IsReady es shares) jobs → All (IsDone f decoding shares) results
  zip_done shares [] [] zip ready k d below = absurd (omega (arith, below))
  zip_done shares [] (r ∷ results) zip ready k d below = absurd zip
  zip_done shares (x ∷ jobs) [] zip ready k d below = absurd zip
  zip_done shares (x ∷ jobs) (r ∷ results) zip ready zero d below = ready_done shares x r zip.0 (ready zero x (omega arith))
  zip_done shares (x ∷ jobs) (r ∷ results) zip ready (suc k) d below = zip_done shares jobs results zip.1 (λ j e less. ready (suc j) e (omega (arith, less))) k d (omega (arith, below))

  zip_ranks : (jobs : List (Posted V)) (results : List (JobResult V)) → AllZip (IsResultOf f decoding es) jobs results → map rank_of results ≡ map rank_in jobs
  zip_ranks [] [] zip = refl
  zip_ranks [] (r ∷ results) zip = absurd zip
  zip_ranks (x ∷ jobs) [] zip = absurd zip
  zip_ranks (x ∷ jobs) (r ∷ results) zip = ap (λ n. n ∷ map rank_of results) zip.0.rank ∙ ap (λ l. rank_in x ∷ l) (zip_ranks jobs results zip.1)

  -- the ranks of the results are those of the jobs
  pub done_ranks : (jobs : List (Posted V)) (results : List (JobResult V)) → AreDone f decoding es jobs results → map rank_of results ≡ map rank_in jobs
  unfolding AreDone
  done_ranks jobs results done = zip_ranks jobs results done

  -- where all jobs are those of their ranks' shares, the results are the values of these
  pub done_shares : (shares : ℕ → Share M) (jobs : List (Posted V)) (results : List (JobResult V)) → AreDone f decoding es jobs results → All (IsReady es shares) jobs → All (IsDone f decoding shares) results
  unfolding AreDone
  done_shares shares jobs results done ready = zip_done shares jobs results done ready

  pub works_none : (v : Hand (Posted V)) (results : List (JobResult V)) → results ≡ [] → Works f decoding es v v results
  works_none v results e = subst (Works f decoding es v v) (sym e) (record { jobs = []; done = none_done; view = ap (λ l. hand v.parts v.put l) (sym (append-nil v.taken)) })

  pub works_more : (v mid new : Hand (Posted V)) (work : Posted V) (results more : List (JobResult V)) → Works f decoding es v mid results
      → ((jobs : List (Posted V)) → AreDone f decoding es jobs results → AreDone f decoding es (jobs ++ work ∷ []) more) → new ≡ hand mid.parts mid.put (mid.taken ++ work ∷ []) → Works f decoding es v new more
  works_more v mid new work results more was step is = record {
    jobs = was.jobs ++ work ∷ [];
    done = step was.jobs was.done;
    view = is ∙ ap (λ (m : Hand (Posted V)). hand m.parts m.put (m.taken ++ work ∷ [])) was.view ∙ ap (hand v.parts v.put) (append_assoc v.taken was.jobs (work ∷ []));
  }

  -- one item more was taken, whatever came of it
  pub takes_more : (v mid new : Hand (Posted V)) (work : Posted V) (results : List (JobResult V)) → Works f decoding es v mid results → new ≡ hand mid.parts mid.put (mid.taken ++ work ∷ []) → TakesSome v new
  takes_more v mid new work results was is = record {
    items = was.jobs ++ work ∷ [];
    view = is ∙ ap (λ (m : Hand (Posted V)). hand m.parts m.put (m.taken ++ work ∷ [])) was.view ∙ ap (hand v.parts v.put) (append_assoc v.taken was.jobs (work ∷ []));
  }

  -- all that was taken before and what is taken more are done
  pub works_on : (v w : Hand (Posted V)) (results more : List (JobResult V)) → AreDone f decoding es v.taken results → Works f decoding es v w more → AreDone f decoding es w.taken (results ++ more)
  works_on v w results more before works =
      subst (λ (l : List (Posted V)). AreDone f decoding es l (results ++ more)) (sym (ap (λ (m : Hand (Posted V)). m.taken) works.view)) (done_join v.taken works.jobs results more before works.done)

  done_one : (board : Board (Posted V)) (t : Thief (Posted V)) (w : Worked V) → IsNewThiefOf board t → HasWorked f decoding es t w → HasDone f decoding es board w
  done_one board t w fresh h = (h.board ∙ fresh.0, subst (λ (v : Hand (Posted V)). IfOk w.results (λ rs. Works f decoding es v (thief_hand w.thief) rs.items)) fresh.1 h.works)

  pub done_all : (board : Board (Posted V)) (ts : List (Thief (Posted V))) (ws : List (Worked V)) → length ws ≡ length ts → All (IsNewThiefOf board) ts
      → ((i : ℕ) (d : Thief (Posted V)) (e : Worked V) → i < length ts → HasWorked f decoding es (slice_index_or ts i d) (slice_index_or ws i e)) → All (HasDone f decoding es board) ws
  done_all board [] ws same fresh each k e lt = absurd (omega (arith, lt, same))
  done_all board (t ∷ ts) ws same fresh each k e lt =
      let few : k < length (t ∷ ts) = omega (arith, lt, same) in
      done_one board (slice_index_or (t ∷ ts) k t) (slice_index_or ws k e) (fresh k t few) (each k t e few)

  -- where each thief has had its turn, all have
  pub all_worked : (ts : List (Thief (Posted V))) (ws : List (Worked V)) → length ws ≡ length ts
      → ((i : ℕ) (d : Thief (Posted V)) (e : Worked V) → i < length ts → HasWorked f decoding es (slice_index_or ts i d) (slice_index_or ws i e)) → HaveAllDone f decoding es ts ws
  all_worked ts ws same each = (same, λ board fresh. done_all board ts ws same fresh each)

  -- thieves of a board are those of the board after a step
  pub new_still : (old new : Board (Posted V)) (ts : List (Thief (Posted V))) → IsSameBoard old new → All (IsNewThiefOf old) ts → All (IsNewThiefOf new) ts
  new_still old new ts same all k d below = let one = all k d below in (one.0 ∙ sym same, one.1)

  -- one thief more came back
  pub back_more : (v mid new p : Hand (Posted V)) (count : ℕ) (results all : Vec (JobResult V) Global) (more : List (JobResult V)) → IsBack f decoding es v count mid results → Works f decoding es (hand 1 [] []) p more
      → new ≡ hand (mid.parts + p.parts) (mid.put ++ p.put) (mid.taken ++ p.taken) → all.items ≡ results.items ++ more → IsBack f decoding es v (count + 1) new all
  back_more v mid new p count results all more back works is added =
      let one : p.parts ≡ 1 = ap (λ (h : Hand (Posted V)). h.parts) works.view in
      let none : p.put ≡ [] = ap (λ (h : Hand (Posted V)). h.put) works.view in
      let took : p.taken ≡ works.jobs = ap (λ (h : Hand (Posted V)). h.taken) works.view in
      let parts : new.parts ≡ mid.parts + p.parts = ap (λ (h : Hand (Posted V)). h.parts) is in
      let before = back.parts in
      let taken : new.taken ≡ mid.taken ++ works.jobs = ap (λ (h : Hand (Posted V)). h.taken) is ∙ ap (λ l. mid.taken ++ l) took in
      record {
        parts = omega (arith, one, parts, before);
        put = ap (λ (h : Hand (Posted V)). h.put) is ∙ ap (λ l. mid.put ++ l) none ∙ append-nil mid.put ∙ back.put;
        done = subst (λ (l : List (JobResult V)). AreDone f decoding es new.taken l) (sym added)
            (subst (λ (l : List (Posted V)). AreDone f decoding es l (results.items ++ more)) (sym taken) (done_join mid.taken works.jobs results.items more back.done works.done));
      }

  -- what the owner took at first is done
  pub started : (jobs : List (Posted V)) (parts : ℕ) (v w : Hand (Posted V)) (mine : List (JobResult V)) → v ≡ hand parts jobs [] → Works f decoding es v w mine
      → AreDone f decoding es w.taken mine × (w.put ≡ jobs) × (w.parts ≡ parts)
  started jobs parts v w mine is works = (
    works_on v w [] mine (subst (λ (l : List (Posted V)). AreDone f decoding es l []) (sym (ap (λ (h : Hand (Posted V)). h.taken) is)) none_done) works,
    ap (λ (h : Hand (Posted V)). h.put) works.view ∙ ap (λ (h : Hand (Posted V)). h.put) is,
    ap (λ (h : Hand (Posted V)). h.parts) works.view ∙ ap (λ (h : Hand (Posted V)). h.parts) is,
  )

  -- all that was posted was taken, and all that was taken is done
  pub all_done : (jobs taken : List (Posted V)) (results : List (JobResult V)) → IsPermutation jobs taken → AreDone f decoding es taken results
      → ((shares : ℕ → Share M) → All (IsReady es shares) jobs → All (IsDone f decoding shares) results) × IsPermutation (map rank_in jobs) (map rank_of results) × AreResultsOf f decoding es jobs results
  all_done jobs taken results same done = (
    (λ shares ready. done_shares shares taken results done (All-permutation (IsReady es shares) jobs taken same ready)),
    subst (IsPermutation (map rank_in jobs)) (sym (done_ranks taken results done)) (IsPermutation-map rank_in jobs taken same),
    record { order = taken; same = same; done = done },
  )

  -- all thieves are back, and the rest is done
  pub ended : (jobs : List (Posted V)) (count : ℕ) (v back rest : Hand (Posted V)) (results : Vec (JobResult V) Global) (more all : List (JobResult V)) → IsPermutation jobs v.put → IsBack f decoding es v count back results
      → Works f decoding es back rest more → IsPermutation rest.put rest.taken → all ≡ results.items ++ more
      → ((shares : ℕ → Share M) → All (IsReady es shares) jobs → All (IsDone f decoding shares) all) × IsPermutation (map rank_in jobs) (map rank_of all) × AreResultsOf f decoding es jobs all
  ended jobs count v back rest results more all posted is works taken added =
      let put : rest.put ≡ v.put = ap (λ (h : Hand (Posted V)). h.put) works.view ∙ is.put in
      all_done jobs rest.taken all (IsPermutation-trans jobs v.put rest.taken posted (subst (λ (l : List (Posted V)). IsPermutation l rest.taken) put taken))
      (subst (λ (l : List (JobResult V)). AreDone f decoding es rest.taken l) (sym added) (works_on back rest results.items more is.done works))

pub ok_is : {A E : Type 0} (P : A → Type 0) (r : Result A E) (x : A) → r ≡ Ok x → IfOk r P → P x
ok_is {A} {E} P r x e h = subst (λ (z : Result A E). IfOk z P) e h

pub on_err : {A E : Type 0} (r : Result A E) (T : Type 0) → T → OnErr r T
on_err (Ok x) T t = tt
on_err (Err e) T t = t
