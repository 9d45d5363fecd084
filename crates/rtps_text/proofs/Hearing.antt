-- A run receives datagrams and processes them, batch after batch.
use Rattle.std.proofs.Common.{Bor, ◌≡◌, ℕ, ◌+◌, ◌≤◌, List, [], ◌∷◌, ◌++◌, Bool, ◌⊎◌, Option, Result, Ok, Err, arith, refl, subst, sym, ap, ◌∙◌, inl, inr, length, take, drop, add-zero, append-nil, append_assoc, take-append-drop}
use Rattle.std.specs.Prelude.{IsErrAnd}
use Rattle.std.specs.Io.KnownBytes.{Appends}
use Rattle.std.specs.List.{flat_map}
use Rattle.std.proofs.KnownBytes.{Appends-kept, Appends-nil, Appends-trans}
use Rattle.std.proofs.lemmas.Grind.{flat_map-append}
use Rattle.rtps_types.specs.declared.locator.Locator.{Locator}
use Rattle.rtps_records.specs.RecordFile.{Record}
use Rattle.rtps_records.specs.Runs.{Closes, ClosesNot, Moves, PutsFront}
use Rattle.rtps_records.specs.Text.{IsFront}
use Rattle.rtps_records.specs.Traffic.{Failed, Grows, Passed, Traffic, Waited, failures_in, heard_in, received_in, sent_in}
use Rattle.rtps_records.specs.declared.fault.RunFault.{RunFault}
use Rattle.rtps_records.specs.declared.fault.RunFault.TheVariants.{CannotWrite, NoMemory}
use Rattle.rtps_records.specs.declared.receive_end.ReceiveEnd.{ReceiveEnd}
use Rattle.rtps_records.specs.declared.receive_end.ReceiveEnd.TheVariants.{Drained, Fault, More}
use Rattle.rtps_records.proofs.Received.{Grows-nil, Grows-trans}
use Rattle.dds_topic.specs.Decoding.{Decoding}
use Rattle.rtps_run.specs.BatchOutput.{AreAnswersInOrder, IsGiven}
use Rattle.dds_participant.specs.Ports.{NoneAttached}
use Rattle.rtps_run.specs.declared.batch_output.BatchOutput.{BatchOutput}
use Rattle.rtps_discovery.specs.declared.config.Config.{Config}
use Rattle.rtps_text.specs.Inputs.{run}
use Rattle.rtps_run.specs.Standing.{EngineView}
use Rattle.rtps_text.specs.Inputs.{StandsAt, run_by}
use Rattle.rtps_text.specs.Batched.{IsSameRun, TakesRecords, batch_lines}
use Rattle.rtps_text.specs.Listened.{IsDone, IsOver, Leaves, Limits, Listened, LiveRun, SentAt, WaitsInTurn, WroteFrontOf, limits_of, live_run}
use Rattle.rtps_text.specs.Live.{BreaksOff, Untaken, Unwritten, EndsTurns, IsLast, IsLive, Listens, Processes, Stopped, failures_of, live_by, sends_by}
use Rattle.rtps_text.specs.declared.live.Live.{Live}
use Rattle.rtps_text.specs.Replayed.{HasSaid, put_line, text_by}
use Rattle.rtps_text.specs.Sending.{Sends, given_sends, goes_out, sendings, sends_of}
use Rattle.rtps_text.specs.declared.live_fault.LiveFault.{LiveFault}
use Rattle.rtps_text.specs.declared.live_fault.LiveFault.TheVariants.{Run, Socket}
use Rattle.rtps_text.specs.declared.running.RunLines.{RunLines}
use Rattle.rtps_text.proofs.Batches.{said_more}
use Rattle.rtps_text.proofs.Calls.{Comes, comes_answered, comes_both, comes_failed, comes_sendings, in_turn_more, in_turn_wait}
use Rattle.rtps_text.proofs.Run.{put_on}
use Rattle.rtps_text.proofs.Sent.{given_in_order, given_send}

-- ---- runs with the same catalog and configuration

one_sends : {C M : Type 0} (decoding : C → Decoding M) (a b : EngineView C)
    → a.catalog ≡ b.catalog → a.config ≡ b.config → sends_by decoding a ≡ sends_by decoding b
one_sends {C} decoding a b same e =
    let sends : C → Config → List Record → List (Locator × List ℕ) =
    λ k config records. sends_of (run (decoding k) config records).put in
    ap (λ (k : C). sends k a.config) same ∙ ap (sends b.catalog) e

pub same_live : {C M : Type 0} (text : C → M → List ℕ) (decoding : C → Decoding M)
    (a b : EngineView C) (s t : Bool) → a.catalog ≡ b.catalog → a.config ≡ b.config → s ≡ t
    → live_by text decoding a s ≡ live_by text decoding b t
same_live {C} text decoding a b s t same e summed =
    ap (λ (k : C). live_run (text k) (decoding k) a.config s) same
    ∙ ap (λ (config : Config). live_run (text b.catalog) (decoding b.catalog) config s) e
    ∙ ap (λ (u : Bool). live_run (text b.catalog) (decoding b.catalog) b.config u) summed

-- ---- what was heard so far

none_waits : (sends : List Record → List (Locator × List ℕ)) → WaitsInTurn sends []
none_waits sends [] later e = absurd (let bad : [] ≡ Waited ∷ later = e in cc)
none_waits sends (c ∷ past) later e =
    absurd (let bad : [] ≡ c ∷ (past ++ Waited ∷ later) = e in cc)

-- nothing was heard yet
pub listens_none : {C M : Type 0} (text : C → M → List ℕ) (decoding : C → Decoding M)
    (now : Option (List Traffic)) (old : Option (List ℕ)) (most moment : ℕ) (engine : EngineView C)
    → moment ≡ 0 → HasSaid text decoding [] [] engine
    → Listens text decoding now now old old most most 0 moment Drained engine
listens_none text decoding now old most moment engine first fresh = record {
  calls = [];
  grows = Grows-nil now;
  records = [];
  heard = refl;
  at = sym first;
  count = omega arith;
  waited = refl;
  failed = refl;
  last = inl refl;
  in_turn = none_waits (sends_by decoding engine);
  sent = refl;
  written = [];
  wrote = Appends-nil old;
  says = fresh;
}

tally : {C M : Type 0} (text : C → M → List ℕ) (decoding : C → Decoding M)
    (first now : Option (List Traffic)) (old new : Option (List ℕ)) (most left waits moment : ℕ)
    (end : ReceiveEnd) (engine : EngineView C)
    → (l : Listens text decoding first now old new most left waits moment end engine)
    → Comes 0 moment l.calls l.records (length (received_in l.calls))
    (sends_by decoding engine l.records) waits (failures_of end)
tally text decoding first now old new most left waits moment end engine l = record {
  heard = l.heard;
  at = l.at;
  received = refl;
  sent = l.sent;
  waits = l.waited;
  failures = l.failed;
}

answered : {C M : Type 0} (text : C → M → List ℕ) (decoding : C → Decoding M)
    (first now : Option (List Traffic)) (old new : Option (List ℕ)) (most left waits moment : ℕ)
    (end : ReceiveEnd) (engine : EngineView C)
    → (l : Listens text decoding first now old new most left waits moment end engine)
    → sent_in l.calls ≡ sends_by decoding engine (heard_in l.calls)
answered text decoding first now old new most left waits moment end engine l =
    l.sent ∙ ap (sends_by decoding engine) (sym l.heard)

-- calls by which nothing was heard or sent
silent : {C M : Type 0} (text : C → M → List ℕ) (decoding : C → Decoding M)
    (first then now : Option (List Traffic)) (origin old : Option (List ℕ))
    (most left waits more moment failed : ℕ) (end next : ReceiveEnd) (engine : EngineView C)
    (calls : List Traffic) → Comes moment moment calls [] 0 [] more failed → Grows then now calls
    → failures_of end + failed ≡ failures_of next
    → (l : Listens text decoding first then origin old most left waits moment end engine)
    → IsLast next (l.calls ++ calls) → WaitsInTurn (sends_by decoding engine) (l.calls ++ calls)
    → Listens text decoding first now origin old most left (waits + more) moment next engine
silent text decoding first then now origin old most left waits more moment failed end next engine
    calls c grows fails l last in_turn =
    let all = comes_both 0 moment moment _ _ _ _ _ _ _ _ _ _ _ _
    (tally text decoding first then origin old most left waits moment end engine l) c in
    record {
      calls = l.calls ++ calls;
      grows = Grows-trans first then now l.calls calls l.grows grows;
      records = l.records;
      heard = all.heard ∙ append-nil l.records;
      at = all.at;
      count = omega (arith, all.received, l.count);
      waited = all.waits;
      failed = omega (arith, all.failures, fails);
      last = last;
      in_turn = in_turn;
      sent = all.sent ∙ append-nil _;
      written = l.written;
      wrote = l.wrote;
      says = l.says;
    }

-- ---- what is heard next

-- whatever is answered to these calls, each wait is in turn
abbrev pub KeepsTurn : (List Record → List (Locator × List ℕ)) → List Traffic → List Traffic
    → Type 0
KeepsTurn sends calls more =
    (answers : List (Locator × List ℕ)) → WaitsInTurn sends (calls ++ (more ++ sendings answers))

-- so it is after calls without a wait among them
pub keeps_turn : {C M : Type 0} (text : C → M → List ℕ) (decoding : C → Decoding M)
    (first now : Option (List Traffic)) (old new : Option (List ℕ))
    (most left waits moment next_moment count failed : ℕ) (end : ReceiveEnd)
    (engine : EngineView C) (batch : List Record) (more : List Traffic)
    → Comes moment next_moment more batch count [] 0 failed
    → (l : Listens text decoding first now old new most left waits moment end engine)
    → KeepsTurn (sends_by decoding engine) l.calls more
keeps_turn text decoding first now old new most left waits moment next_moment count failed end
    engine batch more comes l answers =
    let all = comes_answered moment next_moment more batch count 0 failed answers comes in
    in_turn_more (sends_by decoding engine) l.calls (more ++ sendings answers) l.in_turn all.waits

-- and after a wait with all datagrams received, and a reading of the clock
pub turns_next : {C M : Type 0} (text : C → M → List ℕ) (decoding : C → Decoding M)
    (first now : Option (List Traffic)) (old new : Option (List ℕ))
    (most left waits moment next_moment : ℕ) (engine : EngineView C)
    → (l : Listens text decoding first now old new most left waits moment Drained engine)
    → KeepsTurn (sends_by decoding engine) l.calls (Waited ∷ Passed next_moment ∷ [])
turns_next text decoding first now old new most left waits moment next_moment engine l answers =
    in_turn_wait (sends_by decoding engine) l.calls next_moment (sendings answers) l.in_turn l.last
    (answered text decoding first now old new most left waits moment Drained engine l)
    (comes_sendings 0 answers).waits

-- a run whose last batch ended so
pub as_drained : {C M : Type 0} (text : C → M → List ℕ) (decoding : C → Decoding M)
    (first now : Option (List Traffic)) (old new : Option (List ℕ))
    (most left waits moment : ℕ) (end : ReceiveEnd) (engine : EngineView C) → end ≡ Drained
    → Listens text decoding first now old new most left waits moment end engine
    → Listens text decoding first now old new most left waits moment Drained engine
as_drained text decoding first now old new most left waits moment end engine is l =
    subst (λ e. Listens text decoding first now old new most left waits moment e engine) is l

-- the network failed at one more wait
pub listens_failed : {C M : Type 0} (text : C → M → List ℕ) (decoding : C → Decoding M)
    (first then now : Option (List Traffic)) (origin old : Option (List ℕ))
    (most left waits moment : ℕ) (end : ReceiveEnd) (engine : EngineView C) → failures_of end ≡ 0
    → Grows then now (Failed ∷ [])
    → Listens text decoding first then origin old most left waits moment end engine
    → Listens text decoding first now origin old most left waits moment Fault engine
listens_failed text decoding first then now origin old most left waits moment end engine none grows
    l =
    subst (λ w. Listens text decoding first now origin old most left w moment Fault engine)
    (add-zero waits)
    (silent text decoding first then now origin old most left waits 0 moment 1 end Fault engine
    (Failed ∷ []) (comes_failed moment) grows (omega (arith, none)) l tt
    (in_turn_more (sends_by decoding engine) l.calls (Failed ∷ []) l.in_turn refl))

-- what was sent before a batch, and then what the batch sends, is what the run with the batch sends
batch_sends : {C V M : Type 0} (f : V → M) (decoding : C → Decoding M)
    (records batch : List Record) (before : EngineView C) (given : BatchOutput V)
    (mid now : Option (List Traffic))
    → IsGiven f (run_by decoding before records) (run_by decoding before (records ++ batch)) given
    → (s : Sends (AreAnswersInOrder given) mid now (given_sends given))
    → sends_of (run_by decoding before records).put ++ s.sent
    ≡ sends_of (run_by decoding before (records ++ batch)).put
batch_sends f decoding records batch before given mid now g s =
    let was = run_by decoding before records in
    let is = run_by decoding before (records ++ batch) in
    ap (λ l. sends_of was.put ++ l)
    (s.are (given_in_order f was is given g) ∙ sym (given_send f given))
    ∙ sym (ap sends_of g.put ∙ flat_map-append goes_out was.put _)

-- One more batch was heard by these calls and processed, its answers were sent, and its lines were
-- written.
pub listens_more : {C V M : Type 0} (text : C → M → List ℕ) (f : V → M) (decoding : C → Decoding M)
    (first then mid now : Option (List Traffic)) (origin old new : Option (List ℕ))
    (most left less waits turned moment next_moment count failed : ℕ) (before next : EngineView C)
    (given : BatchOutput V) (batch : List Record) (more : List Traffic) (from end : ReceiveEnd)
    (k : C)
    → (next.catalog ≡ before.catalog) × (next.config ≡ before.config)
    → TakesRecords f decoding batch before next given → next.catalog ≡ k
    → Comes moment next_moment more batch count [] turned failed → failures_of from ≡ 0
    → failed ≡ failures_of end
    → Grows then mid more
    → ((calls : List Traffic) (sends : List (Locator × List ℕ))
    → IsLast end (calls ++ (more ++ sendings sends)))
    → Sends (AreAnswersInOrder given) mid now (given_sends given)
    → left ≡ count + less
    → ((earlier : List Record) → StandsAt decoding earlier before
    → Appends old new (batch_lines (text k) f given))
    → (l : Listens text decoding first then origin old most left waits moment from before)
    → KeepsTurn (sends_by decoding before) l.calls more
    → Listens text decoding first now origin new most less (waits + turned) next_moment end next
listens_more text f decoding first then mid now origin old new most left less waits turned moment
    next_moment count failed before next given batch more from end k same takes own comes none fails
    grows last s fewer wrote l in_turn =
    let sent_too = comes_answered moment next_moment more batch count turned failed s.sent comes in
    let all = comes_both 0 moment next_moment _ _ _ _ _ _ _ _ _ _ _ _
    (tally text decoding first then origin old most left waits moment from before l) sent_too in
    let ours : sends_by decoding before ≡ sends_by decoding next =
    one_sends decoding before next (sym same.0) (sym same.1) in
    let calls = more ++ sendings s.sent in
    record {
      calls = l.calls ++ calls;
      grows = Grows-trans first then now l.calls calls l.grows
          (Grows-trans then mid now more (sendings s.sent) grows s.grows);
      records = l.records ++ batch;
      heard = all.heard;
      at = all.at;
      count = omega (arith, all.received, l.count, fewer);
      waited = all.waits;
      failed = omega (arith, all.failures, fails, none);
      last = last l.calls s.sent;
      in_turn = subst
          (λ (sends : List Record → List (Locator × List ℕ)). WaitsInTurn sends (l.calls ++ calls))
          ours
          (in_turn s.sent);
      sent = all.sent
          ∙ batch_sends f decoding l.records batch before given mid now
          (takes.gives l.records l.says.stands) s
          ∙ ap (λ (sends : List Record → List (Locator × List ℕ)). sends (l.records ++ batch)) ours;
      written = l.written ++ batch_lines (text k) f given;
      wrote = Appends-trans _ _ _ _ _ l.wrote (wrote l.records l.says.stands);
      says = said_more text f decoding l.records batch l.written before next given k same takes own
          l.says;
    }

-- octets were written in two parts
pub both_parts : (old mid new : Option (List ℕ)) (octets rest : List ℕ) → Moves old mid octets rest
    → Appends mid new rest → Appends old new octets
both_parts old mid new octets rest m more = subst (Appends old new) (sym m.2)
    (Appends-trans _ _ _ _ _ m.1 more)

-- ---- a run that stops

-- if all answers were sent, what was sent is as required, both at a write fault and if memory runs
-- out
sent_whole : (fault : RunFault) (made : LiveRun) (calls : List Traffic)
    → (fault ≡ CannotWrite) ⊎ (fault ≡ NoMemory) → sent_in calls ≡ made.sends (heard_in calls)
    → SentAt fault made calls
unfolding SentAt
sent_whole fault made calls cause e = elim cause [
  | inl cannot ↦ rw cannot e
  | inr none ↦ rw none ([], sym e ∙ sym (append-nil (sent_in calls)))
]

sent_front : (made : LiveRun) (calls : List Traffic)
    → IsFront (sent_in calls) (made.sends (heard_in calls)) → SentAt NoMemory made calls
unfolding SentAt
sent_front made calls front = front

-- a run stopped after it heard a batch and before it was processed
pub stops_untaken : {C M : Type 0} (text : C → M → List ℕ) (decoding : C → Decoding M)
    (first then now : Option (List Traffic)) (origin old : Option (List ℕ))
    (most left waits turned moment next_moment count failed : ℕ) (engine : EngineView C)
    (summary : Bool) (batch : List Record) (more : List Traffic) (from : ReceiveEnd)
    → Comes moment next_moment more batch count [] turned failed → Grows then now more
    → count ≤ left
    → (l : Listens text decoding first then origin old most left waits moment from engine)
    → KeepsTurn (sends_by decoding engine) l.calls more
    → Stopped (live_by text decoding engine summary) most (waits + turned) NoMemory first now origin
    old
stops_untaken text decoding first then now origin old most left waits turned moment next_moment
    count failed engine summary batch more from c grows few l in_turn =
    let made = live_by text decoding engine summary in
    let calls = l.calls ++ more in
    let all = comes_both 0 moment next_moment l.calls more _ _ _ _ _ _ _ _ _ _
    (tally text decoding first then origin old most left waits moment from engine l) c in
    let on = put_on decoding engine l.records batch in
    let was = (run_by decoding engine l.records).put in
    let sent : sent_in calls ≡ sends_of was = all.sent ∙ append-nil (sends_of was) in
    let sends : made.sends (heard_in calls) ≡ sent_in calls ++ sends_of on.0 =
    ap made.sends all.heard ∙ ap sends_of on.1 ∙ flat_map-append goes_out was on.0
    ∙ ap (λ l. l ++ sends_of on.0) (sym sent) in
    let line = put_line (text engine.catalog) in
    let lines : made.lines (heard_in calls) ≡ l.written ++ flat_map line on.0 =
    ap made.lines all.heard ∙ ap (flat_map line) on.1 ∙ flat_map-append line was on.0
    ∙ ap (λ l. l ++ flat_map line on.0) (sym l.says.lines) in
    record {
      calls = calls;
      grows = Grows-trans first then now l.calls more l.grows grows;
      few = omega (arith, all.received, l.count, few);
      within = omega (arith, all.waits);
      in_turn = subst (λ m. WaitsInTurn made.sends (l.calls ++ m)) (append-nil more) (in_turn []);
      sent = sent_front made calls (sends_of on.0, sends);
      put = l.written;
      wrote = l.wrote;
      front = (flat_map line on.0, lines);
    }

-- a run stopped after one more batch was processed, its answers were sent, and a prefix of its
-- lines was written
pub stops_writing : {C V M : Type 0} (text : C → M → List ℕ) (f : V → M) (decoding : C → Decoding M)
    (first then mid now : Option (List Traffic)) (origin old new : Option (List ℕ))
    (most left waits turned moment next_moment count failed : ℕ) (before next : EngineView C)
    (summary : Bool) (given : BatchOutput V) (batch : List Record) (more : List Traffic)
    (from : ReceiveEnd) (k : C) (fault : RunFault)
    → (next.catalog ≡ before.catalog) × (next.config ≡ before.config)
    → TakesRecords f decoding batch before next given → next.catalog ≡ k
    → Comes moment next_moment more batch count [] turned failed → Grows then mid more
    → Sends (AreAnswersInOrder given) mid now (given_sends given) → count ≤ left
    → ((earlier : List Record) → StandsAt decoding earlier before
    → PutsFront old new (batch_lines (text k) f given))
    → (fault ≡ CannotWrite) ⊎ (fault ≡ NoMemory)
    → (l : Listens text decoding first then origin old most left waits moment from before)
    → KeepsTurn (sends_by decoding before) l.calls more
    → Stopped (live_by text decoding before summary) most (waits + turned) fault first now
    origin new
stops_writing text f decoding first then mid now origin old new most left waits turned moment
    next_moment count failed before next summary given batch more from k fault same takes own comes
    grows s few puts cause l in_turn =
    let made = live_by text decoding before summary in
    let lines = batch_lines (text k) f given in
    let calls = l.calls ++ (more ++ sendings s.sent) in
    let wrote = puts l.records l.says.stands in
    let sent_too = comes_answered moment next_moment more batch count turned failed s.sent comes in
    let all = comes_both 0 moment next_moment _ _ _ _ _ _ _ _ _ _ _ _
    (tally text decoding first then origin old most left waits moment from before l) sent_too in
    let sent : sent_in calls ≡ made.sends (heard_in calls) = all.sent
    ∙ batch_sends f decoding l.records batch before given mid now
    (takes.gives l.records l.says.stands) s
    ∙ sym (ap made.sends all.heard) in
    let says = said_more text f decoding l.records batch l.written before next given k same takes
    own l.says in
    let whole : made.lines (heard_in calls) ≡ l.written ++ lines = ap made.lines all.heard
    ∙ ap (λ (m : LiveRun). m.lines (l.records ++ batch))
    (same_live text decoding before next summary summary (sym same.0) (sym same.1) refl)
    ∙ sym says.lines in
    record {
      calls = calls;
      grows = Grows-trans first then now l.calls _ l.grows
          (Grows-trans then mid now more (sendings s.sent) grows s.grows);
      few = omega (arith, all.received, l.count, few);
      within = omega (arith, all.waits);
      in_turn = in_turn s.sent;
      sent = sent_whole fault made calls cause sent;
      put = l.written ++ take wrote.0 lines;
      wrote = Appends-trans _ _ _ _ _ l.wrote wrote.1;
      front = (
        drop wrote.0 lines,
        whole ∙ ap (λ l'. l.written ++ l') (sym (take-append-drop wrote.0 lines))
            ∙ sym (append_assoc l.written (take wrote.0 lines) (drop wrote.0 lines)),
      );
    }

-- what the run of a batch that was heard does when it stops
pub breaks_off : {C V U M : Type 0} (text : C → M → List ℕ) (f : V → M) (decoding : C → Decoding M)
    (first then mid now : Option (List Traffic)) (origin old new : Option (List ℕ))
    (most left waits turned moment next_moment count failed : ℕ) (before after : Live C V U)
    (batch : List Record) (more : List Traffic) (from : ReceiveEnd) (fault : RunFault)
    → IsLive before → Comes moment next_moment more batch count [] turned failed
    → Grows then mid more → count ≤ left
    → BreaksOff text f decoding batch before after fault mid now old new
    → (l : Listens text decoding first then origin old most left waits moment from
    before.run.participant.engine)
    → KeepsTurn (sends_by decoding before.run.participant.engine) l.calls more
    → Stopped (live_by text decoding before.run.participant.engine before.run.summary) most
    (waits + turned) fault first now origin new
breaks_off text f decoding first then mid now origin old new most left waits turned moment
    next_moment count failed before after batch more from fault live comes grows few
    (Untaken none still kept) l in_turn =
    let made = live_by text decoding before.run.participant.engine before.run.summary in
    subst (λ x. Stopped made most (waits + turned) x first now origin new) (sym none)
    (subst (λ x. Stopped made most (waits + turned) NoMemory first x origin new) (sym still)
    (subst (λ x. Stopped made most (waits + turned) NoMemory first mid origin x) (sym kept)
    (stops_untaken text decoding first then mid origin old most left waits turned moment next_moment
    count failed before.run.participant.engine before.run.summary batch more from comes grows few l
    in_turn)))
breaks_off text f decoding first then mid now origin old new most left waits turned moment
    next_moment count failed before after batch more from fault live comes grows few
    (Unwritten cause same takes sends puts) l in_turn =
    stops_writing text f decoding first then mid now origin old new most left waits turned moment
    next_moment count failed before.run.participant.engine after.run.participant.engine
    before.run.summary after.run.given batch more from before.catalog.now fault
    (same.catalog, same.config) takes (same.catalog ∙ sym live.own) comes
    grows sends few puts cause l in_turn

-- a live run with the same parts is one too
pub live_as : {C V U : Type 0} (a b : Live C V U) → IsLive a → b.run ≡ a.run → b.catalog ≡ a.catalog
    → IsLive b
live_as {C} {V} {U} a b live runs catalogs = record {
  own = ap (λ (k : Bor C). k.now) catalogs ∙ live.own
      ∙ ap (λ (r : RunLines C V U). r.participant.engine.catalog) (sym runs);
  alone = subst (λ (r : RunLines C V U). NoneAttached r.participant.ports) (sym runs) live.alone;
}

-- the run goes on once a batch that was heard is processed
pub goes_on : {C V U M : Type 0} (text : C → M → List ℕ) (f : V → M) (decoding : C → Decoding M)
    (first then mid now : Option (List Traffic)) (origin old new : Option (List ℕ))
    (most left less waits turned moment next_moment count failed : ℕ) (before after : Live C V U)
    (batch : List Record) (more : List Traffic) (from end : ReceiveEnd) → IsLive before
    → IsSameRun before.run after.run → Comes moment next_moment more batch count [] turned failed
    → failures_of from ≡ 0 → failed ≡ failures_of end → Grows then mid more
    → ((calls : List Traffic) (sends : List (Locator × List ℕ))
    → IsLast end (calls ++ (more ++ sendings sends)))
    → left ≡ count + less → Processes text f decoding batch before after mid now old new
    → (l : Listens text decoding first then origin old most left waits moment from
    before.run.participant.engine)
    → KeepsTurn (sends_by decoding before.run.participant.engine) l.calls more
    → Listens text decoding first now origin new most less (waits + turned) next_moment end
    after.run.participant.engine
goes_on text f decoding first then mid now origin old new most left less waits turned moment
    next_moment count failed before after batch more from end live same comes none fails grows last
    fewer done l in_turn =
    listens_more text f decoding first then mid now origin old new most left less waits turned
    moment
    next_moment count failed before.run.participant.engine after.run.participant.engine
    after.run.given batch more from end before.catalog.now
    (same.catalog, same.config) done.takes (same.catalog ∙ sym live.own)
    comes
    none fails grows last done.sends fewer done.wrote l in_turn

-- what is stated of a run that stopped holds also for equal results and a greater limit of waits
pub stopped_same : (a b : LiveRun) (most turns more : ℕ) (fault : RunFault)
    (before after : Option (List Traffic)) (old new : Option (List ℕ)) → a ≡ b → turns ≤ more
    → Stopped a most turns fault before after old new
    → Stopped b most more fault before after old new
stopped_same a b most turns more fault before after old new same fewer s =
    let wider : Stopped a most more fault before after old new = record {
      calls = s.calls;
      grows = s.grows;
      few = s.few;
      within = omega (arith, s.within, fewer);
      in_turn = s.in_turn;
      sent = s.sent;
      put = s.put;
      wrote = s.wrote;
      front = s.front;
    } in
    subst (λ (m : LiveRun). Stopped m most more fault before after old new) same wider

-- ---- how a run ends

-- the last text was added, and the whole text was written
pub listens_done : {C M : Type 0} (text : C → M → List ℕ) (decoding : C → Decoding M)
    (made : LiveRun) (first now : Option (List Traffic)) (origin mid new : Option (List ℕ))
    (most left waits moment : ℕ) (end : ReceiveEnd) (engine : EngineView C) (summary : Bool)
    (kept : List ℕ) → live_by text decoding engine summary ≡ made → kept ≡ []
    → Closes (λ records said. HasSaid text decoding records said engine)
    (text_by text decoding engine summary) mid new kept
    → (l : Listens text decoding first now origin mid most left waits moment end engine)
    → IsDone made l.calls origin new
unfolding Closes
listens_done text decoding made first now origin mid new most left waits moment end engine summary
    kept same none c l =
    let own = live_by text decoding engine summary in
    let says = subst (λ w. HasSaid text decoding l.records w engine)
    (sym (ap (λ k. l.written ++ k) none ∙ append-nil l.written)) l.says in
    let done : IsDone own l.calls origin new = record {
      sent = answered text decoding first now origin mid most left waits moment end engine l;
      wrote = subst (Appends origin new)
          (sym (c.2 l.records l.written says) ∙ ap own.text (sym l.heard))
          (Appends-trans _ _ _ _ _ l.wrote c.1);
    } in
    subst (λ (m : LiveRun). IsDone m l.calls origin new) same done

-- then the run is complete, or the network failed
ended_by : {C M : Type 0} (text : C → M → List ℕ) (decoding : C → Decoding M)
    (first now : Option (List Traffic)) (old new : Option (List ℕ))
    (most left waits turns moment : ℕ)
    (engine : EngineView C) (end : ReceiveEnd)
    → (l : Listens text decoding first now old new most left waits moment end engine)
    → EndsTurns end left waits turns
    → IsOver (limits_of most turns) l.calls ⊎ (failures_in l.calls ≡ 1)
ended_by text decoding first now old new most left waits turns moment engine Fault l ends = inr
    l.failed
ended_by text decoding first now old new most left waits turns moment engine More l ends =
    let count = l.count in
    inl (inl (omega (arith, count, ends)))
ended_by text decoding first now old new most left waits turns moment engine Drained l ends =
    let count = l.count in
    elim ends [
      | inl none ↦ inl (inl (omega (arith, count, none)))
      | inr all ↦ inl (inr (l.waited ∙ all, l.last))
    ]

-- if no datagram is left to receive, the run may end after any batch
pub ends_full : (end : ReceiveEnd) (left waits turns : ℕ) → left ≡ 0
    → EndsTurns end left waits turns
ends_full More left waits turns none = none
ends_full Drained left waits turns none = inl none
ends_full Fault left waits turns none = tt

-- and so it may if all waits were made
pub ends_passed : (end : ReceiveEnd) (left waits turns : ℕ) → (end ≡ More → left ≡ 0)
    → waits ≡ turns → EndsTurns end left waits turns
ends_passed More left waits turns full passed = full refl
ends_passed Drained left waits turns full passed = inr passed
ends_passed Fault left waits turns full passed = tt

-- and so it may if the network failed
pub ends_failed : (end : ReceiveEnd) (left waits turns : ℕ) → end ≡ Fault
    → EndsTurns end left waits turns
ends_failed More left waits turns is = absurd (let bad : More ≡ Fault = is in cc)
ends_failed Drained left waits turns is = absurd (let bad : Drained ≡ Fault = is in cc)
ends_failed Fault left waits turns is = tt

pub no_failure : (end : ReceiveEnd) → ¬ (end ≡ Fault) → failures_of end ≡ 0
no_failure More other = refl
no_failure Drained other = refl
no_failure Fault other = absurd (other refl)

-- if records are left to receive and the network didn't fail, all that came were received
pub is_drained : (end : ReceiveEnd) (left : ℕ) → ¬ (end ≡ Fault) → (end ≡ More → left ≡ 0)
    → ¬ (left ≡ 0) → end ≡ Drained
is_drained More left other full some = absurd (some (full refl))
is_drained Drained left other full some = refl
is_drained Fault left other full some = absurd (other refl)

-- the outcome of a run that is complete and has written its whole text
pub listened_ok : {C M : Type 0} (text : C → M → List ℕ) (decoding : C → Decoding M)
    (made : LiveRun) (first now : Option (List Traffic)) (origin mid new : Option (List ℕ))
    (most left waits turns moment : ℕ) (engine : EngineView C) (summary : Bool) (end : ReceiveEnd)
    (u : Unit {0}) → live_by text decoding engine summary ≡ made → failures_of end ≡ 0
    → waits ≤ turns → EndsTurns end left waits turns
    → (l : Listens text decoding first now origin mid most left waits moment end engine)
    → IsDone made l.calls origin new
    → Listened made (limits_of most turns) (Ok u) first now origin new
unfolding Leaves
listened_ok text decoding made first now origin mid new most left waits turns moment engine summary
    end u same none few ends l done =
    let count = l.count in
    let over : IsOver (limits_of most turns) l.calls =
    elim (ended_by text decoding first now origin mid most left waits turns moment engine end l
    ends) [
      | inl over ↦ over
      | inr failed ↦ absurd (omega (arith, failed, l.failed, none))
    ] in
    record {
      calls = l.calls;
      grows = l.grows;
      few = omega (arith, count);
      turns = omega (arith, l.waited, few);
      in_turn = subst (λ (m : LiveRun). WaitsInTurn m.sends l.calls) same l.in_turn;
      leaves = (done, l.failed ∙ none, over);
    }

-- the outcome of a run whose network failed and that has written its whole text
pub listened_socket : {C M : Type 0} (text : C → M → List ℕ) (decoding : C → Decoding M)
    (made : LiveRun) (first now : Option (List Traffic)) (origin mid new : Option (List ℕ))
    (most left waits turns moment : ℕ) (engine : EngineView C) (summary : Bool) (end : ReceiveEnd)
    → live_by text decoding engine summary ≡ made → failures_of end ≡ 1 → waits ≤ turns
    → (l : Listens text decoding first now origin mid most left waits moment end engine)
    → IsDone made l.calls origin new
    → Listened made (limits_of most turns) (Err Socket) first now origin new
unfolding Leaves
listened_socket text decoding made first now origin mid new most left waits turns moment engine
    summary end same one few l done =
    let count = l.count in
    record {
      calls = l.calls;
      grows = l.grows;
      few = omega (arith, count);
      turns = omega (arith, l.waited, few);
      in_turn = subst (λ (m : LiveRun). WaitsInTurn m.sends l.calls) same l.in_turn;
      leaves = (done, l.failed ∙ one);
    }

-- the outcome of a run that stopped before its end
pub listened_stop : (made : LiveRun) (most turns : ℕ) (fault : RunFault)
    (before after : Option (List Traffic)) (old new : Option (List ℕ))
    → Stopped made most turns fault before after old new
    → Listened made (limits_of most turns) (Err (Run fault)) before after old new
unfolding Leaves
listened_stop made most turns fault before after old new s = record {
  calls = s.calls;
  grows = s.grows;
  few = s.few;
  turns = s.within;
  in_turn = s.in_turn;
  leaves = (s.sent, (s.put, s.wrote, inl s.front));
}

-- if the last text was not written completely, a write failed or memory ran out
pub unclosed_cause : (said : List Record → List ℕ → Type 0) (text : List Record → List ℕ)
    (fault : RunFault) (old new : Option (List ℕ)) (kept : List ℕ)
    → ClosesNot fault said text old new kept
    → (fault ≡ CannotWrite) ⊎ (fault ≡ NoMemory)
unfolding ClosesNot
unclosed_cause said text fault old new kept c = elim c
    [ inl nothing ↦ inr nothing.0 | inr some ↦ inl some.0 ]

-- what was written if the last text was not written completely
unclosed_front : {C M : Type 0} (text : C → M → List ℕ) (decoding : C → Decoding M)
    (limits : Limits) (first now : Option (List Traffic)) (origin mid new : Option (List ℕ))
    (most left waits moment : ℕ) (end : ReceiveEnd) (engine : EngineView C) (summary : Bool)
    (kept : List ℕ)
    (fault : RunFault) → kept ≡ []
    → ClosesNot fault (λ records said. HasSaid text decoding records said engine)
    (text_by text decoding engine summary) mid new kept
    → (l : Listens text decoding first now origin mid most left waits moment end engine)
    → IsOver limits l.calls ⊎ (failures_in l.calls ≡ 1)
    → WroteFrontOf (live_by text decoding engine summary) limits l.calls origin new
unfolding ClosesNot
unclosed_front text decoding limits first now origin mid new most left waits moment end engine
    summary kept fault none c l over = elim c [
      | inl nothing ↦
          let made = live_by text decoding engine summary in
          let all : made.lines (heard_in l.calls) ≡ l.written ++ [] =
          ap made.lines l.heard ∙ sym l.says.lines ∙ sym (append-nil l.written) in
          (l.written, Appends-kept _ _ _ _ l.wrote nothing.1, inl ([], all))
      | inr some ↦
          let made = live_by text decoding engine summary in
          let says = subst (λ w. HasSaid text decoding l.records w engine)
          (sym (ap (λ k. l.written ++ k) none ∙ append-nil l.written)) l.says in
          let put = some.1.0 in
          let begun = some.1.1 in
          let all : made.text (heard_in l.calls) ≡ l.written ++ put =
          ap made.text l.heard ∙ some.1.2 l.records l.written says in
          let front : IsFront (l.written ++ take begun.0 put) (made.text (heard_in l.calls)) = (
            drop begun.0 put,
            all ∙ ap (λ l'. l.written ++ l') (sym (take-append-drop begun.0 put))
                ∙ sym (append_assoc l.written (take begun.0 put) (drop begun.0 put)),
          ) in (
            l.written ++ take begun.0 put,
            Appends-trans _ _ _ _ _ l.wrote begun.1,
            inr (over, front),
          )
    ]

-- the outcome of a run whose last text was not written completely
pub listened_unclosed : {C M : Type 0} (text : C → M → List ℕ) (decoding : C → Decoding M)
    (made : LiveRun) (first now : Option (List Traffic)) (origin mid new : Option (List ℕ))
    (most left waits turns moment : ℕ) (engine : EngineView C) (summary : Bool) (end : ReceiveEnd)
    (kept : List ℕ) (fault : RunFault) → live_by text decoding engine summary ≡ made → kept ≡ []
    → ClosesNot fault (λ records said. HasSaid text decoding records said engine)
    (text_by text decoding engine summary) mid new kept
    → waits ≤ turns → EndsTurns end left waits turns
    → Listens text decoding first now origin mid most left waits moment end engine
    → Listened made (limits_of most turns) (Err (Run fault)) first now origin new
unfolding Leaves
listened_unclosed text decoding made first now origin mid new most left waits turns moment engine
    summary end kept fault same none c few ends l =
    let own = live_by text decoding engine summary in
    let limits = limits_of most turns in
    let count = l.count in
    let over = ended_by text decoding first now origin mid most left waits turns moment engine end l
    ends in
    let sent = answered text decoding first now origin mid most left waits moment end engine l in
    let listened : Listened own limits (Err (Run fault)) first now origin new = record {
      calls = l.calls;
      grows = l.grows;
      few = omega (arith, count);
      turns = omega (arith, l.waited, few);
      in_turn = l.in_turn;
      leaves = (
        sent_whole fault own l.calls (unclosed_cause _ _ fault _ _ kept c) sent,
        unclosed_front text decoding limits first now origin mid new most left waits moment end
            engine
            summary kept fault none c l over,
      );
    } in
    subst (λ (m : LiveRun). Listened m limits (Err (Run fault)) first now origin new) same listened

-- a run that stays the same in each of two steps stays the same in both
pub same_run : {C V U : Type 0} (a b c : RunLines C V U) → IsSameRun a b → IsSameRun b c
    → IsSameRun a c
same_run a b c x y = record {
  catalog = y.catalog ∙ x.catalog;
  config = y.config ∙ x.config;
  summary = y.summary ∙ x.summary;
  pace = y.pace ∙ x.pace;
  alone = λ none. y.alone (x.alone none);
}

-- what holds for a fault of the run holds for a result that is this fault
pub at_run : (r : Result (Unit {0}) LiveFault) (fault : RunFault)
    (P : Result (Unit {0}) LiveFault → Type 0) → IsErrAnd r (λ e. e ≡ Run fault)
    → P (Err (Run fault)) → P r
at_run (Ok x) fault P is p = absurd is
at_run (Err e) fault P is p = subst (λ e. P (Err e)) (sym is) p

-- the outcome of a run for which there was no memory at the start: nothing was received
pub unbegun : (made : LiveRun) (most turns : ℕ) (now : Option (List Traffic))
    (old : Option (List ℕ))
    → Listened made (limits_of most turns) (Err (Run NoMemory)) now now old old
unbegun made most turns now old = listened_stop made most turns NoMemory now now old old (record {
  calls = [];
  grows = Grows-nil now;
  few = omega arith;
  within = omega arith;
  in_turn = none_waits made.sends;
  sent = sent_front made [] (made.sends [], refl);
  put = [];
  wrote = Appends-nil old;
  front = (made.lines [], refl);
})
