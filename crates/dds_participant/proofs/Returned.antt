-- The readers of a participant, in their places.
use Rattle.std.proofs.Common.{◌≡◌, ℕ, zero, suc, ◌<◌, ◌≤◌, ◌==◌, List, [], ◌∷◌, ◌++◌, length, Bool, true, false, Global, get_or, set, refl, sym, ◌∙◌, subst, arith, length-set, get_or-set_other, get_or-set_same}
use Rattle.std.specs.List.Sorted.{IsPermutation}
use Rattle.std.proofs.lemmas.Bool.{eqb-false, eqb-true}
use Rattle.std.proofs.lemmas.List.Sorted.{All-permutation, IsPermutation-sym}
use Rattle.dds_topic.specs.Decoding.{Decoding}
use Rattle.rtps_reader.specs.declared.notice.Output.{Output}
use Rattle.rtps_reader.specs.Standing.{ReaderView}
use Rattle.rtps_run.specs.Standing.{StandsFor}
use Rattle.rtps_shards.specs.declared.jobs.JobResult.{JobResult}
use Rattle.rtps_shards.specs.Results.{IsDone, IsOutput, Share, given_done, reader_done}
use Rattle.dds_participant.specs.declared.readers.Readers.{Readers}
use Rattle.dds_participant.specs.Readers.{AllShare, AreRun, AreRunAt, AreRunBut, IsNoneOf}

-- ---- ranks

pub none_first : (x : ℕ) (xs : List ℕ) (rank : ℕ) → (x ≡ rank → ⊥) → IsNoneOf xs rank → IsNoneOf (x ∷ xs) rank
none_first x xs rank other none zero d below = other
none_first x xs rank other none (suc k) d below = none k d (omega (arith, below))

pub none_front : (xs : List ℕ) (x rank : ℕ) → IsNoneOf (xs ++ x ∷ []) rank → IsNoneOf xs rank
none_front [] x rank none k d below = absurd (omega (arith, below))
none_front (y ∷ ys) x rank none zero d below = none zero d (omega arith)
none_front (y ∷ ys) x rank none (suc k) d below = none_front ys x rank (λ i e less. none (suc i) e (omega (arith, less))) k d (omega (arith, below))

pub none_of_none : (rank : ℕ) → IsNoneOf [] rank
none_of_none rank k d below = absurd (omega (arith, below))

pub none_last : (xs : List ℕ) (x rank : ℕ) → IsNoneOf (xs ++ x ∷ []) rank → x ≡ rank → ⊥
none_last [] x rank none = none zero rank (omega arith)
none_last (y ∷ ys) x rank none = none_last ys x rank (λ i e less. none (suc i) e (omega (arith, less)))

-- the reader at a rank, of those that are as they were
pub share_at : {M : Type 0} (shares : ℕ → Share M) (old states : List ReaderView) (n top : ℕ) (state : ReaderView) → top ≡ suc n → top ≤ length old
    → ((rank : ℕ) (other : ReaderView) → rank < top → get_or states rank other ≡ get_or old rank other)
    → state ≡ get_or states n state → AllShare shares old → StandsFor (shares n).reader (shares n).given n state
share_at shares old states n top state is few front here all =
    subst (StandsFor (shares n).reader (shares n).given n) (sym (here ∙ front n state (omega (arith, is)))) (all n state (omega (arith, is, few)))

module _ {V M : Type 0} (f : V → M) (decoding : Decoding M) (shares : ℕ → Share M) where
  -- a reader has done its job, and this is what came of it
  abbrev pub HasRun : ℕ → ReaderView → Output V Global → Type 0
  HasRun rank state output = StandsFor (reader_done (shares rank)) (given_done decoding (shares rank)) rank state × IsOutput f decoding (shares rank) output

  -- one reader more is in its place
  pub one_more : (before after : ℕ → Type 0) (states : List ReaderView) (outputs : List (Output V Global)) (n : ℕ) (state : ReaderView) (output : Output V Global)
      → ((rank : ℕ) → after rank → (rank ≡ n → ⊥) → before rank) → (after n → HasRun n state output)
      → AreRunAt f decoding shares before states outputs → AreRunAt f decoding shares after (set states n state) (set outputs n output)
  one_more before after states outputs n state output others own was = record {
    state = λ rank other below passes. by_state rank other (omega (arith, below, length-set states n state)) passes (rank == n) refl;
    output = λ rank other below passes. by_output rank other (omega (arith, below, length-set outputs n output)) passes (rank == n) refl;
  }
    where
      Stands : ℕ → ReaderView → Type 0
      Stands rank s = StandsFor (reader_done (shares rank)) (given_done decoding (shares rank)) rank s

      by_state : (rank : ℕ) (other : ReaderView) → rank < length states → after rank → (b : Bool) → (rank == n) ≡ b → Stands rank (get_or (set states n state) rank other)
      by_state rank other below passes true e =
          let same = eqb-true rank n e in
          subst (λ k. Stands k (get_or (set states n state) k other)) (sym same)
          (subst (Stands n) (sym (get_or-set_same states n state other (subst (λ k. k < length states) same below))) (own (subst after same passes)).0)
      by_state rank other below passes false e =
          let apart = eqb-false rank n e in
          subst (Stands rank) (sym (get_or-set_other states n rank state other apart)) (was.state rank other below (others rank passes apart))

      by_output : (rank : ℕ) (other : Output V Global) → rank < length outputs → after rank → (b : Bool) → (rank == n) ≡ b → IsOutput f decoding (shares rank) (get_or (set outputs n output) rank other)
      by_output rank other below passes true e =
          let same = eqb-true rank n e in
          subst (λ k. IsOutput f decoding (shares k) (get_or (set outputs n output) k other)) (sym same)
          (subst (IsOutput f decoding (shares n)) (sym (get_or-set_same outputs n output other (subst (λ k. k < length outputs) same below))) (own (subst after same passes)).1)
      by_output rank other below passes false e =
          let apart = eqb-false rank n e in
          subst (IsOutput f decoding (shares rank)) (sym (get_or-set_other outputs n rank output other apart)) (was.output rank other below (others rank passes apart))

  -- above the last rank there is none
  pub none_run : (n : ℕ) (ranks : ℕ → Type 0) (states : List ReaderView) (outputs : List (Output V Global)) → length states ≤ n → length outputs ≤ n → ((rank : ℕ) → ranks rank → n ≤ rank)
      → AreRunAt f decoding shares ranks states outputs
  none_run n ranks states outputs few less above = record {
    state = λ rank other below passes. let past = above rank passes in absurd (omega (arith, below, few, past));
    output = λ rank other below passes. let past = above rank passes in absurd (omega (arith, below, less, past));
  }

  pub fewer : (before after : ℕ → Type 0) (states : List ReaderView) (outputs : List (Output V Global)) → ((rank : ℕ) → after rank → before rank)
      → AreRunAt f decoding shares before states outputs → AreRunAt f decoding shares after states outputs
  fewer before after states outputs weaker was = record {
    state = λ rank other below passes. was.state rank other below (weaker rank passes);
    output = λ rank other below passes. was.output rank other below (weaker rank passes);
  }

  -- all are
  pub all_run : (old : List ReaderView) (p : Readers V) (ranks : ℕ → Type 0) → length p.states.items ≡ length old → ((rank : ℕ) → ranks rank) → AreRunAt f decoding shares ranks p.states.items p.outputs.items
      → AreRun f decoding shares old p
  all_run old p ranks count each are = record {
    count = count;
    states = λ rank other below. are.state rank other below (each rank);
    outputs = λ rank other below. are.output rank other below (each rank);
  }

  -- the first of the results comes back
  pub back_more : (x : JobResult V) (rest : List ℕ) (states : List ReaderView) (outputs : List (Output V Global)) → IsDone f decoding shares x
      → AreRunBut f decoding shares (x.rank ∷ rest) states outputs → AreRunBut f decoding shares rest (set states x.rank x.state) (set outputs x.rank x.output)
  back_more x rest states outputs done = one_more (IsNoneOf (x.rank ∷ rest)) (IsNoneOf rest) states outputs x.rank x.state x.output
      (λ rank none apart. none_first x.rank rest rank (λ e. apart (sym e)) none) (λ none. (done.state, record { told = done.told; sent = done.sent }))

  -- the same readers are awaited
  pub same_ranks : (xs ys : List ℕ) (states : List ReaderView) (outputs : List (Output V Global)) → IsPermutation xs ys → AreRunBut f decoding shares xs states outputs → AreRunBut f decoding shares ys states outputs
  same_ranks xs ys states outputs same = fewer (IsNoneOf xs) (IsNoneOf ys) states outputs (λ rank none. All-permutation (λ r. r ≡ rank → ⊥) ys xs (IsPermutation-sym xs ys same) none)

  -- ---- from the last rank down

  -- the reader at a rank has done its job where it is
  pub rank_run : (n top : ℕ) (states : List ReaderView) (outputs : List (Output V Global)) (state : ReaderView) (output : Output V Global) → top ≡ suc n → HasRun n state output
      → AreRunAt f decoding shares (λ rank. top ≤ rank) states outputs → AreRunAt f decoding shares (λ rank. n ≤ rank) (set states n state) (set outputs n output)
  rank_run n top states outputs state output is own =
      one_more (λ rank. top ≤ rank) (λ rank. n ≤ rank) states outputs n state output (λ rank low apart. omega (arith, low, apart, is)) (λ same. own)

  -- it has none
  pub rank_idle : (n top : ℕ) (ranks : List ℕ) (states : List ReaderView) (outputs : List (Output V Global)) (state : ReaderView) (output : Output V Global) → top ≡ suc n → HasRun n state output
      → AreRunAt f decoding shares (λ rank. (top ≤ rank) × IsNoneOf ranks rank) states outputs
      → AreRunAt f decoding shares (λ rank. (n ≤ rank) × IsNoneOf ranks rank) (set states n state) (set outputs n output)
  rank_idle n top ranks states outputs state output is own =
      one_more (λ rank. (top ≤ rank) × IsNoneOf ranks rank) (λ rank. (n ≤ rank) × IsNoneOf ranks rank) states outputs n state output
      (λ rank after apart. let low = after.0 in (omega (arith, low, apart, is), after.1)) (λ after. own)

  -- its job has it
  pub rank_lent : (n top : ℕ) (ranks more : List ℕ) (states : List ReaderView) (outputs : List (Output V Global)) (state : ReaderView) (output : Output V Global) → top ≡ suc n → more ≡ ranks ++ n ∷ []
      → AreRunAt f decoding shares (λ rank. (top ≤ rank) × IsNoneOf ranks rank) states outputs
      → AreRunAt f decoding shares (λ rank. (n ≤ rank) × IsNoneOf more rank) (set states n state) (set outputs n output)
  rank_lent n top ranks more states outputs state output is added =
      one_more (λ rank. (top ≤ rank) × IsNoneOf ranks rank) (λ rank. (n ≤ rank) × IsNoneOf more rank) states outputs n state output
      (λ rank after apart. let low = after.0 in (omega (arith, low, apart, is), none_front ranks n rank (subst (λ l. IsNoneOf l rank) added after.1)))
      (λ after. absurd (none_last ranks n n (subst (λ l. IsNoneOf l n) added after.1) refl))
