-- States by rank, one after the other.
use Rattle.std.proofs.Common.{◌≡◌, Bool, false, true, ℕ, suc, ◌+◌, ◌<◌, ◌≤◌, List, [], ◌∷◌, ◌++◌, if◌then◌else◌, length, map, get_or, set, refl, sym, ap, ◌∙◌, subst, append_assoc, arith, below_more, length-append, get_or-set_same, get_or-set_other}
use Rattle.std.proofs.lemmas.List.{get_or-map, get_or_append_left, map_push}
use Rattle.std.proofs.Math.Seq.{get_or-append_seam}
use Rattle.rtps_types.specs.declared.identity.EntityId.{EntityId}
use Rattle.rtps_types.specs.declared.identity.Guid.{Guid}
use Rattle.rtps_discovery.specs.Addressed.{unknown_entity}
use Rattle.rtps_discovery.specs.declared.config.FixedMatch.{FixedMatch}
use Rattle.rtps_discovery.specs.declared.config.ReaderConfig.{ReaderConfig}
use Rattle.rtps_reader.specs.Reader.{Facts, Reader, first_reader}
use Rattle.rtps_reader.specs.Standing as reader
use Rattle.rtps_reader.specs.Standing.{ReaderView, facts_in}
use Rattle.rtps_reader.specs.Listed.{with_writers}
use Rattle.rtps_types.specs.declared.identity.GuidPrefix.{GuidPrefix}
use Rattle.rtps_run.specs.Run.{entity_of, is_reliable_at, reader_first}
use Rattle.rtps_run.specs.World.{is_reliable}
use Rattle.rtps_run.specs.Seen.{matches_below}
use Rattle.rtps_types.specs.declared.traffic.WriterFacts.{WriterFacts}
use Rattle.rtps_proxy.specs.Kept.{ProxyView}
use Rattle.rtps_proxy.specs.Matches.{AllStand, Match}
use Rattle.std.specs.Map.{keys_of}
use Rattle.rtps_run.specs.Standing.{AllStandBy, AllStart, StandsFor}
use Rattle.rtps_reader.specs.declared.notice.Notice.{Notice}

-- one item more, where each item is as its place asks
pub each_push : {X : Type 0} (P : ℕ → X → Type 0) (xs : List X) (x : X) (n : ℕ) → length xs ≡ n → ((k : ℕ) (other : X) → k < n → P k (get_or xs k other)) → P n x
    → (k : ℕ) (other : X) → k < n + 1 → P k (get_or (xs ++ x ∷ []) k other)
each_push P xs x n e all one k other below =
    below_more (λ k. P k (get_or (xs ++ x ∷ []) k other)) n
    (λ k less. subst (P k) (sym (get_or_append_left xs (x ∷ []) other k (omega (arith, less, e)))) (all k other less))
    (subst (P n) (sym (get_or-append_seam xs x [] other) ∙ ap (λ k. get_or (xs ++ x ∷ []) k other) e) one)
    k below

-- one state more
pub all_stand_push : {M : Type 0} (readers : ℕ → Reader) (given : ℕ → List (Notice M)) (states : List ReaderView) (s : ReaderView) (n : ℕ) → length states ≡ n
    → AllStandBy readers given states → StandsFor (readers n) (given n) n s → AllStandBy readers given (states ++ s ∷ [])
all_stand_push readers given states s n e all one rank other below =
    each_push (λ k t. StandsFor (readers k) (given k) k t) states s n e (λ k other less. all k other (omega (arith, less, e))) one rank other (omega (arith, below, length-append states (s ∷ []), e))

-- a count that is at the end of a loop, and what is below it
pub is_end : (at n : ℕ) → at ≤ n → n ≤ at → at ≡ n
is_end at n within past = omega arith

pub fewer_than : (at n m : ℕ) → n ≡ m → m ≤ at → n ≤ at
fewer_than at n m same past = omega arith

pub still_below : (at n m : ℕ) → n ≡ m → at < m → at < n
still_below at n m same below = omega arith

-- one part more is put after what was there
pub put_more : {P : Type 0} (old reports new before one all : List P) → new ≡ reports ++ one → reports ≡ old ++ before → before ++ one ≡ all → new ≡ old ++ all
put_more old reports new before one all put first rest = put ∙ ap (λ l. l ++ one) first ∙ append_assoc old before one ∙ ap (λ l. old ++ l) rest

-- the states below a place are done, and so is the one that is put there
pub done_more : {M : Type 0} (readers : ℕ → Reader) (given : ℕ → List (Notice M)) (states : List ReaderView) (at : ℕ) (s : ReaderView) → at < length states
    → ((rank : ℕ) (other : ReaderView) → rank < at → StandsFor (readers rank) (given rank) rank (get_or states rank other)) → StandsFor (readers at) (given at) at s
    → (rank : ℕ) (other : ReaderView) → rank < at + 1 → StandsFor (readers rank) (given rank) rank (get_or (set states at s) rank other)
done_more readers given states at s fits done one rank other below =
    below_more (λ k. StandsFor (readers k) (given k) k (get_or (set states at s) k other)) at
    (λ k less. subst (StandsFor (readers k) (given k) k) (sym (get_or-set_other states at k s other (λ e. omega (arith, less, e)))) (done k other less))
    (subst (StandsFor (readers at) (given at) at) (sym (get_or-set_same states at s other fits)) one)
    rank below

-- the states above it are as they were
pub left_more : (old states : List ReaderView) (at : ℕ) (s : ReaderView)
    → ((rank : ℕ) (other : ReaderView) → at ≤ rank → get_or states rank other ≡ get_or old rank other)
    → (rank : ℕ) (other : ReaderView) → at + 1 ≤ rank → get_or (set states at s) rank other ≡ get_or old rank other
left_more old states at s left rank other above = get_or-set_other states at rank s other (λ e. omega (arith, above, e)) ∙ left rank other (omega (arith, above))

-- matches and what is kept of them have the same writers
pub same_writers : (ms : List Match) (ss : List (Guid × ProxyView)) → AllStand ms ss → keys_of ss ≡ map (λ (m : Match). m.pairing.writer) ms
same_writers [] [] all = refl
same_writers [] (s ∷ ss) all = absurd all
same_writers (m ∷ ms) [] all = absurd all
same_writers (m ∷ ms) (s ∷ ss) all = ap (λ (w : Guid). w ∷ keys_of ss) (sym all.0.writer) ∙ ap (λ (l : List Guid). m.pairing.writer ∷ l) (same_writers ms ss all.1)

-- one fixed match more that is dealt out, where the test says that it is of the rank
pub fixed_more : {A : Type 0} (b : Bool) (m : FixedMatch) (left : List FixedMatch) (facts : WriterFacts A) (old new : List (WriterFacts A))
    → facts_in facts ≡ (m.writer, m.locators) → new ≡ (if b then old ++ facts ∷ [] else old)
    → map facts_in new ++ map (λ (m : FixedMatch). (m.writer, m.locators)) left ≡ map facts_in old ++ map (λ (m : FixedMatch). (m.writer, m.locators)) (if b then m ∷ left else left)
fixed_more true m left facts old new same pushed =
    let rest : List Facts = map (λ (m : FixedMatch). (m.writer, m.locators)) left in
    ap (λ l. map facts_in l ++ rest) pushed ∙ ap (λ l. l ++ rest) (map_push facts_in old facts) ∙ append_assoc (map facts_in old) (facts_in facts ∷ []) rest ∙ ap (λ (f : Facts). map facts_in old ++ f ∷ rest) same
fixed_more false m left facts old new same pushed = ap (λ l. map facts_in l ++ map (λ (m : FixedMatch). (m.writer, m.locators)) left) pushed

-- one reader more at the start
pub first_more : (own : GuidPrefix) (readers : List ReaderConfig) (matched : ℕ → List Facts) (states : List ReaderView) (s : ReaderView) (n : ℕ) (config : ReaderConfig) (facts : List Facts)
    → length states ≡ n → n < length readers → config ≡ get_or readers n config → facts ≡ matched n
    → reader.StartsAt (first_reader own config.entity (is_reliable config.requested.policies.reliability) facts) s → s.rank ≡ n
    → AllStart (λ rank. reader_first own readers rank (matched rank)) states → AllStart (λ rank. reader_first own readers rank (matched rank)) (states ++ s ∷ [])
first_more own readers matched states s n config facts e below is same stands ranked all =
    let entity : config.entity ≡ entity_of readers n = ap (λ (c : ReaderConfig). c.entity) is ∙ sym (get_or-map (λ (c : ReaderConfig). c.entity) readers n config unknown_entity below) in
    let asking : is_reliable config.requested.policies.reliability ≡ is_reliable_at readers n = ap (λ (c : ReaderConfig). is_reliable c.requested.policies.reliability) is ∙ sym (get_or-map (λ (c : ReaderConfig). is_reliable c.requested.policies.reliability) readers n config false below) in
    all_stand_push _ _ states s n e all
    (record {
      stands = subst (λ (fs : List Facts). reader.StartsAt (reader_first own readers n fs) s) same
          (subst (λ (b : Bool). reader.StartsAt (first_reader own (entity_of readers n) b facts) s) asking
          (subst (λ (k : EntityId). reader.StartsAt (first_reader own k (is_reliable config.requested.policies.reliability) facts) s) entity stands));
      ranked = ranked;
    })

-- the matches of one rank more
pub matches_more : {M : Type 0} (readers : ℕ → Reader) (given : List (Notice M)) (n : ℕ) (state : ReaderView) (listed : List (ℕ × Guid)) → listed ≡ matches_below readers n → StandsFor (readers n) given n state
    → with_writers listed state.rank (keys_of state.matches) ≡ matches_below readers (n + 1)
matches_more readers given n state listed e one =
    let next : n + 1 ≡ suc n = omega arith in
    ap (λ l. with_writers l state.rank (keys_of state.matches)) e
    ∙ ap (λ k. with_writers (matches_below readers n) k (keys_of state.matches)) one.ranked
    ∙ ap (with_writers (matches_below readers n) n) (same_writers (readers n).matches state.matches one.stands.matches)
    ∙ sym (ap (matches_below readers) next)
